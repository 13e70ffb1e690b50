-- `symbols::Opened::at_least` meets its contract: as it is, or with a byte more, which the symbol needs. Assumes nothing.
use mathlib.Core.Path.{refl, ◌∙◌}
use native.Mathlib.Omega.{arith}
use Rattle.symbols.specs.Hands.{held}
use Rattle.symbols.specs.Opened.{AtLeast}
use Rattle.symbols.proofs.BitLists.{size_range}
use Rattle.symbols.proofs.Hands.{head_size, head_small}
use Rattle.symbols.proofs.Cursors.{grown_none, grown_more, hand_short}
use Rattle.symbols.proofs.opened.Opened.at_least.Goals as goal

pub returns-then-bits-hand : goal.returns-then-bits-hand
unfolding AtLeast
returns-then-bits-hand c = let a = c.args.self in (grown_none a.fits a.needed, omega (arith, c.if-bits-hand.true), refl)

pub missing-requires : goal.missing-requires
missing-requires c = let f = c.args.self.fits in (head_small f, omega (arith, c.if-bits-hand.false, c.requires, head_size f))

pub returns-then-page-hand : goal.returns-then-page-hand
unfolding AtLeast
returns-then-page-hand c =
    λ d r. hand_short r.in_hand _ (omega (arith, c.if-bits-hand.false, c.requires)) (c.missing.ensures ∙ head_size c.args.self.fits) c.if-page-hand.true

pub loaded-hand-requires : goal.loaded-hand-requires
loaded-hand-requires c =
    let a = c.args.self in
    (a.fits, omega (arith, c.if-bits-hand.false, c.requires, (size_range (held a.hand)).1), c.if-page-hand.false, omega arith)

pub invariant_of-result : goal.invariant_of-result
invariant_of-result c =
    let a = c.args.self in
    let g = grown_more (grown_none a.fits a.needed) c.if-page-hand.false (omega (arith, c.if-bits-hand.false, c.requires)) c.loaded-hand.ensures in
    record { fits = g.fits; needed = g.needed }

pub returns : goal.returns
unfolding AtLeast
returns c =
    let a = c.args.self in
    let l = c.loaded-hand.ensures in
    (grown_more (grown_none a.fits a.needed) c.if-page-hand.false (omega (arith, c.if-bits-hand.false, c.requires)) l, omega (arith, l.more), refl)
