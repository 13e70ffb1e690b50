-- `symbols::Cursor::whole` meets its contract: by the first two of the bits that wait. Assumes nothing.
use mathlib.Core.Path.{◌≡◌, sym}
use native.Mathlib.Omega.{arith}
use Rattle.rules.specs.declared.Symbol.TheVariants.{New, Border}
use Rattle.rules.specs.Stream.{bits_of, code}
use Rattle.symbols.specs.Hands.{whole, WholeTaken}
use Rattle.symbols.proofs.BitLists.{first_zero, alone, second_zero, second_one, no_bits_whole, size_new, size_border}
use Rattle.symbols.proofs.Cursors.{waits_symbol}
use Rattle.symbols.proofs.Cursor.whole.Goals as goal
use Rattle.symbols.proofs.Cursor.whole.Goals.{else-waiting-gt0-via-then-waiting-gt0+else-value-waiting-eq0, else-waiting-gt0-via-else-waiting-gt0}
use Rattle.symbols.proofs.Cursor.whole.Goals.{else-waiting-gt1-via-then-waiting-gt1+else-value-waiting-eq0-2, else-waiting-gt1-via-else-waiting-gt1}

pub returns-then-value-waiting-eq0 : goal.returns-then-value-waiting-eq0
unfolding WholeTaken code
returns-then-value-waiting-eq0 c =
    let (few, l) = c.requires in
    let e = first_zero _ _ l c.if-waiting-gt0.true c.if-value-waiting-eq0.true in
    (sym e, λ page f. waits_symbol f _ New 1 e (omega arith) size_new (c.fewer.ensures page f))

pub returns-then-value-waiting-eq0-2 : goal.returns-then-value-waiting-eq0-2
unfolding WholeTaken code
returns-then-value-waiting-eq0-2 c =
    let (few, l) = c.requires in
    let e : let a = c.args.self in whole (bits_of a.waiting a.value) ≡ 2 = elim c.else-waiting-gt0.branch [
      | else-waiting-gt0-via-then-waiting-gt0+else-value-waiting-eq0 w ↦
          second_zero _ _ l w.if-value-waiting-eq0.false c.if-waiting-gt1.true c.if-value-waiting-eq0-2.true
      | else-waiting-gt0-via-else-waiting-gt0 w ↦ absurd (omega (arith, w.if-waiting-gt0.false, c.if-waiting-gt1.true))
    ] in
    (sym e, λ page f. waits_symbol f _ Border 2 e (omega arith) size_border (c.fewer-then-value-waiting-eq0-2.ensures page f))

pub returns : goal.returns
unfolding WholeTaken
returns c =
    let (few, l) = c.requires in
    elim c.else-waiting-gt1.branch [
      | else-waiting-gt1-via-then-waiting-gt1+else-value-waiting-eq0-2 v ↦ elim c.else-waiting-gt0.branch [
        | else-waiting-gt0-via-then-waiting-gt0+else-value-waiting-eq0 w ↦
            second_one _ _ l w.if-value-waiting-eq0.false v.if-waiting-gt1.true v.if-value-waiting-eq0-2.false
        | else-waiting-gt0-via-else-waiting-gt0 w ↦ absurd (omega (arith, w.if-waiting-gt0.false, v.if-waiting-gt1.true))
      ]
      | else-waiting-gt1-via-else-waiting-gt1 v ↦ elim c.else-waiting-gt0.branch [
        | else-waiting-gt0-via-then-waiting-gt0+else-value-waiting-eq0 w ↦
            alone _ _ l w.if-value-waiting-eq0.false (omega (arith, v.if-waiting-gt1.false, w.if-waiting-gt0.true))
        | else-waiting-gt0-via-else-waiting-gt0 w ↦ no_bits_whole _ _ (omega (arith, w.if-waiting-gt0.false))
      ]
    ]
