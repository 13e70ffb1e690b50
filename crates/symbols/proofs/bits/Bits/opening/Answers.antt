-- `symbols::Bits::opening` meets its contract: by whether bits wait, and whether the page goes on. Assumes nothing.
-- What several answers name by the same `let` is what one call answered: as a lemma it would be no shorter.
use mathlib.Core.Path.{refl, ap, sym}
use native.Mathlib.Omega.{arith}
use Rattle.symbols.specs.Hands.{size, none, held}
use Rattle.symbols.specs.Opened.{Opens}
use Rattle.symbols.proofs.BitLists.{size_range}
use Rattle.symbols.proofs.Hands.{none_held, none_fits, head_small}
use Rattle.symbols.proofs.Cursors.{ahead_end, alone, here_starts, behind_starts, hand_short, waits_none, waits_short, head_waits}
use Rattle.symbols.proofs.bits.Bits.opening.Goals as goal

pub returns-then-page-cursor : goal.returns-then-page-cursor
unfolding Opens size
returns-then-page-cursor c =
    let a = c.args.self in
    let e = c.if-page-cursor.true in
    hand_short (alone a.cursor c.if-cursor-eq0.true (none_fits a.cursor.at a.page.now a.fits.within) (ahead_end a.cursor a.page.now e))
    (record { 0 = 1 }) (size_range (held (none a.cursor.at))).0 (sym (ap size (none_held a.cursor.at))) e

pub invariant_of-result : goal.invariant_of-result
invariant_of-result c =
    let a = c.args.self in
    let (n, r) = here_starts a.cursor a.fits c.if-page-cursor.false c.here-hand.ensures c.if-cursor-eq0.true in
    record { fits = r.in_hand.fits; needed = n }

pub returns-then-cursor-eq0 : goal.returns-then-cursor-eq0
unfolding Opens
returns-then-cursor-eq0 c =
    let a = c.args.self in
    ((here_starts a.cursor a.fits c.if-page-cursor.false c.here-hand.ensures c.if-cursor-eq0.true).1, refl)

pub missing-requires : goal.missing-requires
missing-requires c =
    let f = c.args.self.fits in
    let e = c.requires in
    let o = c.waits-waits.ensures _ f in
    (head_small o.fits, omega (arith, waits_none f e, head_waits o, o.bits))

pub returns-then-page-cursor-2 : goal.returns-then-page-cursor-2
unfolding Opens
returns-then-page-cursor-2 c =
    let f = c.args.self.fits in
    let e = c.requires in
    let o = c.waits-waits.ensures _ f in
    waits_short f _ (waits_none f e) (omega (arith, c.missing.ensures, head_waits o, o.bits)) c.if-page-cursor-2.true

pub then-hand-requires : goal.then-hand-requires
then-hand-requires c =
    let f = c.args.self.fits in
    let e = c.requires in
    let o = c.waits-waits.ensures _ f in
    let l = c.here.ensures in
    let few = f.few in
    let m = o.bits in
    let n = l.more in
    let a = head_small o.fits in
    let b = head_small l.fits in
    (omega arith, omega arith, omega arith)

pub invariant_of-result-2 : goal.invariant_of-result-2
invariant_of-result-2 c =
    let f = c.args.self.fits in
    let e = c.requires in
    let o = c.waits-waits.ensures _ f in
    let l = c.here.ensures in
    let (n, r) = behind_starts c.args.self.cursor f c.if-page-cursor-2.false l (waits_none f e) o (c.then-hand.ensures _ o.fits l.fits) in
    record { fits = r.in_hand.fits; needed = n }

pub returns : goal.returns
unfolding Opens
returns c =
    let f = c.args.self.fits in
    let e = c.requires in
    let o = c.waits-waits.ensures _ f in
    let l = c.here.ensures in
    ((behind_starts c.args.self.cursor f c.if-page-cursor-2.false l (waits_none f e) o (c.then-hand.ensures _ o.fits l.fits)).1, refl)
