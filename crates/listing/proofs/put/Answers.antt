-- `listing::put` meets its contract: the text that the two numbers ask for. Assumes nothing.
use Prim.Native.Nat.{ℕ, ◌≤◌}
use mathlib.Core.Path.{◌≡◌}
use mathlib.Core.List.{List}
use native.Mathlib.Omega.{arith}
use lib.ListN.{length}
use Rattle.io.specs.Counts.{IsPrefixLen}
use Rattle.words.specs.Room.{TextPut, begun}
use Rattle.words.proofs.Laws.{listed}
use Rattle.listing.proofs.Laws.{refused_reading, refused_report, read_map}
use Rattle.listing.proofs.put.Goals as goal

-- a text that was put is the one that is asked for
told : {out w o v : List ℕ} {r k : ℕ} → TextPut out 0 w o r → r ≤ k → k ≤ length out → w ≡ v
    → record { listed : (r ≡ length v) × (o ≡ begun v out); prefix_len : IsPrefixLen r o }
told p h l e = let x = listed p h l e in record { listed = x.0; prefix_len = x.1 }

pub returns-then-a-ne0 : goal.returns-then-a-ne0
returns-then-a-ne0 c =
    let w = c.put_refusal.ensures in
    told w.text_put w.upper_bound (omega (arith, c.requires.1)) (refused_reading c.args.a c.args.r c.args.tables.now c.if-a-ne0.true)

pub returns-then-r-ne0 : goal.returns-then-r-ne0
returns-then-r-ne0 c =
    let w = c.put_refusal-then-r-ne0.ensures in
    let e = refused_report c.args.a c.args.r c.args.tables.now c.if-a-ne0.false c.if-r-ne0.true in
    told w.text_put w.upper_bound (omega (arith, c.requires.1)) e

pub put_map-requires : goal.put_map-requires
put_map-requires c = (c.requires.0 c.if-r-ne0.false, c.requires.1)

pub returns : goal.returns
returns c =
    let w = c.put_map.ensures in
    let e = read_map c.args.a c.args.r c.args.tables.now c.if-a-ne0.false c.if-r-ne0.false in
    told w.text_put w.upper_bound (omega (arith, c.requires.1)) e
