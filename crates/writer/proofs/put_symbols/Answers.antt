-- `writer::put_symbols` meets its contract: before each turn a body is begun, and what was put are the codes of the symbols of the bodies before it; at the end
-- none is due. Assumes nothing.
use Prim.Native.Nat.{ℕ, ◌+◌, ◌<◌}
use mathlib.Core.Path.{◌≡◌, sym, ◌∙◌}
use mathlib.Core.Bool.{Bool, true, false}
use native.Mathlib.Omega.{arith}
use lib.ListN.{get_or}
use Rattle.rules.specs.Inner.{body_due}
use Rattle.rules.proofs.Bodies.{past_says}
use Rattle.tables.specs.Maps.{of}
use Rattle.walk.proofs.Walking.{Rooted}
use Rattle.replay.specs.Replays.{NumberedFrom}
use Rattle.replay.proofs.Finished.{rooted_by}
use Rattle.writer.specs.Written.{Writing}
use Rattle.writer.proofs.Replays.{writing_starts, writing_begins, writing_ends}
use Rattle.writer.proofs.put_symbols.Goals as goal
use Rattle.writer.proofs.put_symbols.Goals.{Start, In-loop-due, After-body_due-due}

-- the map is one to walk over from the root of any numbering that the room holds
rooted : (c : Start) → let a = c.args in (root : ℕ) → of (NumberedFrom a.form) a.valid.now.map root a.work.now → of Rooted a.valid.now.map root
rooted c root q = let v = c.args.valid.now in rooted_by v.map.limits v.valid q

-- where a body is begun, a dart is left for it
below : (c : In-loop-due) → get_or c.loop-due.positions 0 0 < c.args.valid.now.map.darts
below c = c.loop-due.invariant.0 c.loop-due-test.true

pub loop-due-init : goal.loop-due-init
loop-due-init c = (
  λ e. omega (arith, c.args.valid.now.map.limits.darts.0),
  λ root q. (
    λ e. writing_starts (rooted (goal.at.loop-due-init c).Start root q) q,
    λ e. let z : ◌≡◌ {A = ℕ} 0 1 = cc e in absurd (omega arith),
  ),
)

pub put_body-requires : goal.put_body-requires
put_body-requires c =
    let p = c.requires in
    let q = p.2.1 in
    let W = (c.loop-due.invariant.1 _ q).0 c.loop-due-test.true in
    (p.0, record { form = _; root = _; first = _; numbered = q; room = p.1; writing = W })

-- where the writer stands once the body is gone through
stands : (c : After-body_due-due) → let a = c.args in let b = c.put_body in let ps = b.new.positions in (root : ℕ)
    → of (NumberedFrom a.form) a.valid.now.map root a.work.now
    → of (Writing a.form) a.valid.now.map root (get_or ps 0 0) ps a.sheet.now b.new.sheet
stands c root q =
    let a = c.args in
    c.put_body.ensures.0.writing a.form root a.sheet.now q ((c.loop-due.invariant.1 root q).0 c.loop-due-test.true)

pub loop-due-preserved : goal.loop-due-preserved
loop-due-preserved c =
    let a = c.args in
    let m = a.valid.now.map in
    let at = goal.at.loop-due-preserved c in
    let due : (r : Bool) → c.body_due-due.result ≡ r → body_due a.form m.dim m.darts (m.dim + 1) (get_or c.put_body.new.positions 0 0) ≡ r =
    λ r e. sym c.body_due-due.ensures ∙ e in
    let e = c.put_body.ensures.1 in (
      λ o. (past_says a.form m.dim m.darts (m.dim + 1) _ (due true o)).1,
      λ root q.
          let P = rooted at.Start root q in
          let W = stands at.After-body_due-due root q in
          (λ o. writing_begins P q W (m.dim + 1) e (omega arith) (due true o), λ o. writing_ends P q W (m.dim + 1) e (omega arith) (due false o)),
    )

pub returns : goal.returns
returns c = λ root q. (c.loop-due.invariant.1 root q).1 c.loop-due-test.false
