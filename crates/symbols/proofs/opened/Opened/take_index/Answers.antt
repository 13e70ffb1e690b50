-- `symbols::Opened::take_index` meets its contract: two bits are at hand, so one byte more or two make fourteen. Assumes nothing.
-- What several answers name by the same `let` is what one call answered: as a lemma it would be no shorter.
use Prim.Native.Nat.{◌≤◌}
use native.Mathlib.Omega.{arith}
use lib.ListN.{length, drop}
use Rattle.rules.specs.declared.Symbol.TheVariants.{Index}
use Rattle.rules.specs.Stream.{unpack}
use Rattle.symbols.specs.Hands.{held}
use Rattle.symbols.specs.Opened.{AtLeast}
use Rattle.symbols.proofs.BitLists.{size_wide, size_index}
use Rattle.symbols.proofs.Hands.{length_held, head_small, head_wide, head_walk}
use Rattle.symbols.proofs.Cursors.{grown_wide, grown_twice, wide_twice, short_told, told_symbol_lem}
use Rattle.symbols.proofs.opened.Opened.take_index.Goals as goal

pub returns-in_err-at_least : goal.returns-in_err-at_least
unfolding AtLeast
returns-in_err-at_least c = λ d r. short_told _ c.from_residual.ensures.1 (c.in_err-at_least.ensures d r)

pub at_least-requires-2 : goal.at_least-requires-2
unfolding AtLeast
at_least-requires-2 c =
    let (o, m, _) = c.in_ok-at_least.ensures in
    omega (arith, grown_wide o c.requires)

pub returns-in_err-hand : goal.returns-in_err-hand
unfolding AtLeast
returns-in_err-hand c =
    λ d r.
    let (o, m, u) = c.in_ok-at_least.ensures in
    short_told _ c.from_residual-in_err-hand.ensures.1 (rw u at (c.in_err-hand.ensures d (rw u (o.reads d r))))

pub overflow_sub-w : goal.overflow_sub-w
unfolding AtLeast
overflow_sub-w c =
    let (o, m, u) = c.in_ok-at_least.ensures in
    let (p, n, _) = c.in_ok-hand.ensures in
    omega (arith, head_wide p.fits (grown_wide (grown_twice o (rw u at p)) c.requires))

pub overflow_cast-w : goal.overflow_cast-w
unfolding AtLeast
overflow_cast-w c = let (p, n, _) = c.in_ok-hand.ensures in omega (arith, head_small p.fits)

pub past-requires : goal.past-requires
unfolding AtLeast
past-requires c =
    let f = c.args.self.fits in
    let e = c.requires in
    let h = c.args.self.hand in
    let (o, m, u) = c.in_ok-at_least.ensures in
    let (p', k, _) = c.in_ok-hand.ensures in
    let p = rw u at p' in
    let b = wide_twice h c.in_ok-at_least.field-0.hand c.in_ok-hand.field-0.hand (omega (arith, size_wide (held h) e, length_held f)) m k in
    let l = p.needed.last in
    let w = grown_wide (grown_twice o p) e in
    (b, omega arith, p.fits.few, p.needed.loaded)

pub returns : goal.returns
unfolding AtLeast
returns c =
    λ d r.
    let a = c.args.self in
    let f = a.fits in
    let e = c.requires in
    let (o, m, u) = c.in_ok-at_least.ensures in
    let (p', k, _) = c.in_ok-hand.ensures in
    let p = rw u at p' in
    let h = c.in_ok-hand.field-0.hand in
    let page = a.page.now in
    let w = grown_wide (grown_twice o p) e in
    let b = wide_twice a.hand c.in_ok-at_least.field-0.hand h (omega (arith, size_wide (held a.hand) e, length_held f)) m k in
    let q = (grown_twice o p).reads d r in
    let l : 14 ≤ length (held h) = omega (arith, length_held p.fits) in
    let t = rw (head_walk p.fits w l) at (size_index (held h) (unpack (drop h.at page)) w l) in
    told_symbol_lem d page (held h) (unpack (drop h.at page)) q.in_hand.same 14 w l _ (Index _) t (c.past.ensures d page q (omega (arith, q.longer)))
