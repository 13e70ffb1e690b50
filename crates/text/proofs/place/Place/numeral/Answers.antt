-- `text::Place::numeral` meets its contract: the digits up to p write v, and the word goes on there. Assumes nothing.
use native.Mathlib.Omega.{arith}
use mathlib.Core.Path.{◌≡◌, sym, ◌∙◌}
use lib.ListN.{length}
use Rattle.text.proofs.Laws.{no_stop, ending_here, ending_end}
use Rattle.text.proofs.Numerals.{digit, no_digit_low, no_digit_high, counting_start, counting_small, counting_next}
use Rattle.text.proofs.Numerals.{counting_good, counting_bad, counting_long}
use Rattle.text.proofs.place.Place.numeral.Goals as goal

pub loop-p-init : goal.loop-p-init
loop-p-init c = counting_start _ _ c.requires

pub returns-then-stops-clause-reading : goal.returns-then-stops-clause-reading
returns-then-stops-clause-reading c =
    let i = c.loop-p.invariant in
    counting_good _ _ i (ending_here _ i.ending c.loop-p-test.true (sym c.stops.ensures ∙ c.if-stops.true))

pub returns-then-b-lt48-clause-reading : goal.returns-then-b-lt48-clause-reading
returns-then-b-lt48-clause-reading c =
    counting_bad _ _ c.loop-p.invariant c.loop-p-test.true (sym c.stops.ensures ∙ c.if-stops.false) (no_digit_low _ c.if-b-lt48.true)

pub returns-then-p-w-ge9-clause-reading : goal.returns-then-p-w-ge9-clause-reading
returns-then-p-w-ge9-clause-reading c =
    let i = c.loop-p.invariant in
    counting_long _ _ i c.loop-p-test.true (no_stop _ (omega arith)) (let a = i.from in omega arith)

pub returns-then-b-gt57-clause-reading : goal.returns-then-b-gt57-clause-reading
returns-then-b-gt57-clause-reading c =
    counting_bad _ _ c.loop-p.invariant c.loop-p-test.true (no_stop _ (omega arith)) (no_digit_high _ c.if-b-gt57.true)

pub overflow_mul-v : goal.overflow_mul-v
overflow_mul-v c =
    let i = c.loop-p.invariant in
    let a = i.from in
    let s = counting_small _ _ i (omega arith) in
    omega arith

pub overflow_add-v : goal.overflow_add-v
overflow_add-v c =
    let i = c.loop-p.invariant in
    let a = i.from in
    let s = counting_small _ _ i (omega arith) in
    omega arith

pub loop-p-preserved : goal.loop-p-preserved
loop-p-preserved c =
    let i = c.loop-p.invariant in
    let a = i.from in
    counting_next _ _ i c.loop-p-test.true (omega arith) (no_stop _ (omega arith)) (digit _ (omega arith) (omega arith))

pub returns-clause-reading : goal.returns-clause-reading
returns-clause-reading c =
    let i = c.loop-p.invariant in
    let w = c.requires.within in
    let z : c.loop-p.p ≡ length c.args.self.text.now = omega arith in
    rw (← z) (counting_good _ _ i (ending_end _ i.ending c.loop-p-test.false))
