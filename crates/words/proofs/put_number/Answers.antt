-- `words::put_number` meets its contract: the kit's digits are the numeral. Assumes nothing.
use mathlib.Core.Path.{◌∙◌}
use native.Mathlib.Omega.{arith}
use Rattle.words.proofs.Laws.{wrote_same}
use Rattle.words.proofs.Numerals.{few_digits, numeral_digits}
use Rattle.words.proofs.put_number.Goals as goal

pub put-requires : goal.put-requires
put-requires c =
    let e = c.decimal-k.ensures in
    let k = few_digits c.args.n _ (omega arith) e.len in
    omega (arith, e.in_bounds.1, k)

pub returns : goal.returns
returns c =
    let a = c.args in
    let e = c.decimal-k.ensures in
    let w = c.put.ensures in
    let k = few_digits a.n _ (omega arith) e.len in
    record { text_put = wrote_same w (e.digits ∙ numeral_digits a.n _ e.len k); upper_bound = omega (arith, w.ends, e.in_bounds.1, k) }
