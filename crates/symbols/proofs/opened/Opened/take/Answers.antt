-- `symbols::Opened::take` meets its contract: by the first bit, by the second, which may be in a byte more, or as a w. Assumes nothing.
-- What several answers name by the same `let` is what one call answered: as a lemma it would be no shorter.
use Prim.Native.Nat.{◌≤◌}
use mathlib.Core.Path.{◌≡◌, ◌∙◌}
use native.Mathlib.Omega.{arith}
use lib.ListN.{length}
use Rattle.rules.specs.declared.Symbol.TheVariants.{New, Border}
use Rattle.symbols.specs.Hands.{size, held}
use Rattle.symbols.specs.Opened.{AtLeast}
use Rattle.symbols.proofs.BitLists.{size_range, size_kinds, size_new, size_border}
use Rattle.symbols.proofs.Hands.{length_held, head_size, head_small}
use Rattle.symbols.proofs.Cursors.{short_told, told_symbol_lem}
use Rattle.symbols.proofs.opened.Opened.take.Goals as goal

pub size-requires : goal.size-requires
size-requires c = head_small c.args.self.fits

pub past-requires : goal.past-requires
past-requires c =
    let a = c.args.self in
    let f = a.fits in
    let n = a.needed in
    let k = n.last in
    (n.some, omega (arith, c.size.ensures, head_size f, c.if-size-eq1.true), f.few, n.loaded)

pub returns-then-size-eq1 : goal.returns-then-size-eq1
returns-then-size-eq1 c =
    λ d r.
    let a = c.args.self in
    let f = a.fits in
    let n = a.needed in
    let e : size (held c.args.self.hand) ≡ 1 = omega (arith, c.size.ensures, head_size f, c.if-size-eq1.true) in
    let l : 1 ≤ length (held c.args.self.hand) = omega (arith, length_held f, n.some) in
    told_symbol_lem d _ _ _ r.in_hand.same 1 e l _ New (size_new _ _ e l) (c.past.ensures d _ r (omega (arith, r.longer)))

pub at_least-requires : goal.at_least-requires
at_least-requires c =
    let a = c.args.self in
    omega (arith, (size_range (held a.hand)).0, c.size.ensures, head_size a.fits, c.if-size-eq1.false)

pub returns-in_err-opened : goal.returns-in_err-opened
unfolding AtLeast
returns-in_err-opened c = λ d r. short_told _ c.from_residual.ensures.1 (c.in_err-opened.ensures d r)

pub size-requires-2 : goal.size-requires-2
unfolding AtLeast
size-requires-2 c = let (o, m, _) = c.in_ok-opened.ensures in head_small o.fits

pub past-requires-then-size-eq2 : goal.past-requires-then-size-eq2
unfolding AtLeast
past-requires-then-size-eq2 c =
    let a = c.args.self in
    let f = a.fits in
    let n = a.needed in
    let (o, m, _) = c.in_ok-opened.ensures in
    let k = n.some in
    let l = o.needed.last in
    (omega arith, omega (arith, c.size-2.ensures, head_size o.fits, c.if-size-eq2.true), o.fits.few, o.needed.loaded)

pub returns-then-size-eq2 : goal.returns-then-size-eq2
unfolding AtLeast
returns-then-size-eq2 c =
    λ d r.
    let a = c.args.self in
    let f = a.fits in
    let n = a.needed in
    let (o, m, _) = c.in_ok-opened.ensures in
    let k = n.some in
    let e : size (held c.in_ok-opened.opened.hand) ≡ 2 = omega (arith, c.size-2.ensures, head_size o.fits, c.if-size-eq2.true) in
    let q = o.reads d r in
    let l : 2 ≤ length (held c.in_ok-opened.opened.hand) = omega (arith, length_held o.fits) in
    told_symbol_lem d _ _ _ q.in_hand.same 2 e l _ Border (size_border _ _ e l) (c.past-then-size-eq2.ensures d _ q (omega (arith, q.longer)))

pub take_index-requires : goal.take_index-requires
unfolding AtLeast
take_index-requires c =
    let a = c.args.self in
    let f = a.fits in
    let n = a.needed in
    let (o, m, _) = c.in_ok-opened.ensures in
    let first = c.size.ensures ∙ head_size f in
    let second = c.size-2.ensures ∙ head_size o.fits in
    let s = o.sized in
    let r = (size_range (held c.args.self.hand)).0 in
    let e = size_kinds _ (λ q. c.if-size-eq1.false (omega arith)) (λ q. c.if-size-eq2.false (second ∙ q)) in
    e

pub returns : goal.returns
unfolding AtLeast
returns c =
    λ d r.
    let (o, m, u) = c.in_ok-opened.ensures in
    rw u at (c.take_index.ensures d (rw u (o.reads d r)))
