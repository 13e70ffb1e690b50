-- `writer::emit` meets its contract: header, symbols and fill are put one after the other. Assumes nothing.
use Prim.Native.Nat.{ℕ, ◌≤◌}
use mathlib.Core.Path.{ap}
use native.Mathlib.Omega.{arith}
use borrow.Author.Rules.{rules}
use Rattle.rules.specs.Stream.{header}
use Rattle.rules.proofs.Check.{wanted_rooted}
use Rattle.rules.proofs.Codes.{length_bits}
use Rattle.tables.specs.Maps.{of}
use Rattle.replay.specs.Replays.{NumberedFrom}
use Rattle.pen.specs.declared.Sheet.{Sheet}
use Rattle.pen.specs.Pens.{PenFits, Put}
use Rattle.pen.proofs.Laws.{put_none}
use Rattle.writer.proofs.Writes.{put_fits, put_header, first_small, header_length, stream_bits, put_stream, stream_bits_lem}
use Rattle.writer.proofs.Writes.{emitted, emitted_length}
use Rattle.writer.proofs.emit.Goals as goal
use Rattle.writer.proofs.emit.Goals.{After-put_number, After-put_symbols}

pub put_few-requires : goal.put_few-requires
put_few-requires c =
    let m = c.args.valid.now.map in
    (put_fits c.new-sheet.ensures (put_none _) 4 (omega arith), omega arith, omega (arith, c.first_bits.ensures, first_small c.args.form m.dim m.limits.dims.1))

pub put_number-requires : goal.put_number-requires
put_number-requires c =
    (put_fits c.new-sheet.ensures c.put_few.ensures 12 (omega (arith, length_bits 4 c.first_bits.result)), omega arith, omega arith, omega arith)

-- what was put before the symbols, and before the fill, over the numbering from any root
headed : (c : After-put_number) → let a = c.args in Put (header a.form a.valid.now.map.dim a.valid.now.map.darts) c.new-sheet.result c.put_number.new.self
headed c = put_header _ _ _ c.first_bits.ensures c.put_few.ensures c.put_number.ensures

streamed : (c : After-put_symbols) → let a = c.args in (root : ℕ) → of (NumberedFrom a.form) a.valid.now.map root a.work.now
    → Put (of (stream_bits a.form) a.valid.now.map root) c.new-sheet.result c.put_symbols.new.sheet
streamed c root q = put_stream _ _ _ _ root (headed (goal.at.After-put_symbols c).After-put_number) (c.put_symbols.ensures root q)

-- the pen has room for a byte more
fits : (c : After-put_symbols) (k : ℕ) → k ≤ 8 → PenFits k c.put_symbols.new.sheet.pen
fits c k h =
    let a = c.args in
    let v = a.valid.now in
    let m = v.map in
    let (root, q) = c.requires.1 in
    let l = stream_bits_lem a.form m.dim m.darts m.tables.now root m.limits.dims.1 m.limits.darts.1 (wanted_rooted a.form _ _ _ _ root q.bodies) v.valid in
    put_fits c.new-sheet.ensures (streamed c root q) k (omega arith)

pub put_symbols-requires : goal.put_symbols-requires
put_symbols-requires c =
    let m = c.args.valid.now.map in
    let p = c.requires in
    let h = headed (goal.at.put_symbols-requires c).After-put_number in
    (p.0, put_fits c.new-sheet.ensures h 401422 (omega (arith, header_length c.args.form m.dim m.darts)), p.1)

pub fill-requires : goal.fill-requires
fill-requires c = fits (goal.at.fill-requires c).After-put_symbols 0 (omega arith)

pub bytes_of-length-requires : goal.bytes_of-length-requires
bytes_of-length-requires c = fits (goal.at.bytes_of-length-requires c).After-put_symbols 8 (omega arith)

-- the page is let go as the fill left it: what was lent to the first sheet is what the last writes to
pub returns : goal.returns
returns c = λ root q.
    let u = streamed (goal.at.returns c).After-put_symbols root q in
    let e = c.new-sheet.ensures in
    let p = emitted _ _ _ _ root e u c.fill.new.self.out.now c.fill.ensures.filled in
    let l = emitted_length _ _ _ _ root e u _ (λ bs out0 H. c.bytes_of-length.ensures bs H.at H.bits) in
    (l, search (rules, p, ap (λ (x : Sheet). x.out.ghost_name) e, u.same_reference))
