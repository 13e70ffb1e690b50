-- `writer::written` meets its contract: the check's refusals, then 10, then the page. Assumes nothing.
use Prim.Native.Nat.{◌*◌, ◌≤◌}
use mathlib.Core.Path.{◌≡◌, sym}
use native.Mathlib.Omega.{arith}
use lib.ListN.{length}
use Rattle.std.proofs.lemmas.Result.{err_from_is_err_and}
use Rattle.rules.specs.Bodies.{Wanted}
use Rattle.rules.specs.Map.{by_dart, Limits, Valid}
use Rattle.rules.specs.Refusals.{number_of}
use Rattle.rules.specs.Check.{fine, verdict}
use Rattle.rules.specs.Writing.{stream, write_work}
use Rattle.replay.specs.Replays.{NumberedFrom}
use Rattle.pen.specs.Pens.{penned}
use Rattle.writer.proofs.Writes.{written_refused, written_limits, written_longest, written_late, written_page, written_numbered}
use Rattle.writer.proofs.written.Goals as goal
use Rattle.writer.proofs.written.Goals.{In_ok-checked, After-emit-length}

-- the check passed, and so the tables are a valid map and the work room holds the numbering
passed : (c : In_ok-checked) → let a = c.args in verdict a.form by_dart a.dim a.darts a.root a.tables.now (length a.work.now) ≡ fine
passed c = sym c.in_ok-checked.ensures.0

found : (c : In_ok-checked) → let a = c.args in
    Limits a.dim a.darts a.tables.now × Valid by_dart a.dim a.darts a.tables.now × Wanted a.form by_dart a.dim a.darts a.tables.now a.root
    × (2 * a.darts ≤ length a.work.now)
found c = written_limits _ _ _ _ _ c.args.work.now (passed c)

numbered : (c : In_ok-checked) → let a = c.args in NumberedFrom a.form a.dim a.darts a.tables.now a.root c.checked.new.work
numbered c = written_numbered _ _ _ _ _ c.args.work.now (passed c) _ c.checked.ensures.1

-- the bytes of the page were put, and the stream is not long
put : (c : After-emit-length) → let a = c.args in let s = stream a.form by_dart a.dim a.darts a.tables.now a.root in
    (c.emit-length.result ≡ length s) × (c.emit-length.new.out ≡ penned s a.start a.out.now) × (c.emit-length.result ≤ 50178)
put c =
    let a = c.args in
    let h = sym c.in_ok-checked.ensures.0 in
    let (l, o) = c.emit-length.ensures a.root (written_numbered _ _ _ _ _ a.work.now h _ c.checked.ensures.1) in
    (l, o, omega (arith, l, written_longest a.form a.dim a.darts a.root a.tables.now a.work.now h))

pub returns-in_err-checked : goal.returns-in_err-checked
unfolding write_work
returns-in_err-checked c =
    let p = err_from_is_err_and c.from_residual.result c.from_residual.ensures.1 in
    let (r, o) = written_refused _ _ _ _ _ c.args.work.now c.in_err-checked.ensures.0 _ _ in
    (rw (p.1, p.2) r, c.checked.ensures.1, o)

pub invariant_of-map : goal.invariant_of-map
invariant_of-map c = record { limits = (found (goal.at.invariant_of-map c).In_ok-checked).0 }

pub invariant_of-valid : goal.invariant_of-valid
invariant_of-valid c = record { valid = (found (goal.at.invariant_of-valid c).In_ok-checked).1 }

pub emit-length-requires : goal.emit-length-requires
emit-length-requires c =
    let at = (goal.at.emit-length-requires c).In_ok-checked in
    (omega (arith, (found at).3), (c.args.root, numbered at))

pub overflow_cast-result : goal.overflow_cast-result
overflow_cast-result c = omega (arith, (put (goal.at.overflow_cast-result c).After-emit-length).2)

pub returns-then-length-start : goal.returns-then-length-start
unfolding write_work number_of
returns-then-length-start c =
    let (l, o, k) = put (goal.at.returns-then-length-start c).After-emit-length in
    let h = passed (goal.at.returns-then-length-start c).In_ok-checked in
    let (r, q) = written_late _ _ _ _ _ c.args.work.now h _ _ _ _ l c.if-length-start.true o in
    (r, c.checked.ensures.1, q)

pub overflow_cast-result-2 : goal.overflow_cast-result-2
overflow_cast-result-2 c = omega (arith, (put (goal.at.overflow_cast-result-2 c).After-emit-length).2)

pub overflow_cast-result-3 : goal.overflow_cast-result-3
overflow_cast-result-3 c = omega (arith, (put (goal.at.overflow_cast-result-3 c).After-emit-length).2)

pub returns : goal.returns
unfolding write_work
returns c =
    let (l, o, k) = put (goal.at.returns c).After-emit-length in
    let h = passed (goal.at.returns c).In_ok-checked in
    let (r, q) = written_page _ _ _ _ _ c.args.work.now h _ _ _ _ _ l c.if-length-start.false o (omega arith) in
    (r, c.checked.ensures.1, q)
