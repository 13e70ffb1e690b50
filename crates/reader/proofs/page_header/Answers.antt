-- `reader::page_header` meets its contract: by what waits and how long the page is. Assumes nothing.
use native.Mathlib.Omega.{arith}
use Rattle.reader.proofs.Laws.{header_none, header_one, header_kept, header_two, header_last, header_fetches, waits_byte}
use Rattle.reader.proofs.page_header.Goals as goal

pub returns-then-page-eq0 : goal.returns-then-page-eq0
returns-then-page-eq0 c =
    header_fetches _ _ _ c.header_waits.ensures _ (λ e f. header_none _ c.args.s _ _ c.if-s-eq0.true c.if-page-eq0.true e f)

pub returns-then-page-eq1 : goal.returns-then-page-eq1
returns-then-page-eq1 c =
    let x = c.type_inv.page 0 in
    header_fetches _ _ _ c.header_waits-then-page-eq1.ensures _ (λ e f. header_one _ c.args.s _ _ c.if-s-eq0.true c.if-page-eq1.true (omega arith) e f)

pub returns-then-s-eq0 : goal.returns-then-s-eq0
returns-then-s-eq0 c =
    let x = c.type_inv.page 0 in
    let y = c.type_inv.page 1 in
    let r = c.begin.ensures in
    record { left = header_two _ c.args.s _ _ _ c.if-s-eq0.true (omega arith) (omega arith) (omega arith) r.left; fetch = r.fetch }

pub returns-then-page-eq0-2 : goal.returns-then-page-eq0-2
returns-then-page-eq0-2 c =
    header_fetches _ _ _ c.header_waits-then-page-eq0-2.ensures _
    (λ e f. header_kept _ c.args.s _ _ (waits_byte _ c.requires.0 c.if-s-eq0.false) c.if-page-eq0-2.true c.requires.1 e f)

pub returns : goal.returns
returns c =
    let x = c.type_inv.page 0 in
    let r = c.begin-2.ensures in
    record {
      left = header_last _ c.args.s _ _ _ (waits_byte _ c.requires.0 c.if-s-eq0.false) (omega arith) c.requires.1 (omega arith) r.left;
      fetch = r.fetch;
    }
