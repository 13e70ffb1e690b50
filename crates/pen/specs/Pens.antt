-- What a pen stands for: the bits put so far, of which the whole bytes that fall into the page are in the output.
use Rattle.std.specs.Prelude.{ℕ, ◌+◌, ◌*◌, ◌-◌, ◌/◌, ◌%◌, ◌^◌, ◌<◌, ◌≡◌, Bool, cond, List, ◌++◌, length, set, drop, ltb}
use Rattle.std.specs.Borrow.{MutBor}
use Rattle.rules.specs.Stream as stream
use Rattle.rules.specs.Writing.{page_of}
use Rattle.rules.specs.declared.Symbol.{Symbol}
use Rattle.rules.specs.declared.Symbol.TheVariants.{New, Border, Index}
use Rattle.pen.specs.declared.Pen.{Pen}
use Rattle.pen.specs.declared.Sheet.{Sheet}

-- a pen with the page from start
abbrev pub sheet_of : Pen → ℕ → MutBor (List ℕ) → Sheet
sheet_of pen start out = record { start = start; out = out; pen = pen }

-- a pen that has put nothing, at the start of a stream, alone and with the page from start
abbrev pub blank_pen : Pen
blank_pen = record { at = 0; bits = 0; value = 0 }

abbrev pub blank_sheet : ℕ → MutBor (List ℕ) → Sheet
blank_sheet start out = sheet_of blank_pen start out

-- the output after byte `at` of the stream: it is stored if the page from start has a place for it
unfoldable pub stored : ℕ → ℕ → ℕ → List ℕ → List ℕ
stored start at byte out = cond (ltb at start) out (set out (at - start) byte)

-- the sheet once its output has this byte for byte `at` of the stream
abbrev pub with_byte : ℕ → Sheet → Sheet
with_byte byte sheet = record sheet { out = record sheet.out { now = stored sheet.start sheet.pen.at byte sheet.out.now } }

-- the output when these whole bytes of the stream are done: their page from start, then what was there
unfoldable pub penned : List ℕ → ℕ → List ℕ → List ℕ
penned done start out = let page = page_of done start (length out) in page ++ drop (length page) out

-- k bits more can be put, and the bits gathered are fewer than a byte and hold their value
pub record PenFits (k : ℕ) (pen : Pen) : Type 0 where
  pub room : pen.at + k < 2 ^ 64
  pub in_byte : pen.bits < 8
  pub holds : pen.value < 2 ^ pen.bits

-- bs were put: the pen has their whole bytes and the bits after those, and the output, first out0, has the page
pub record Holds (bs : List Bool) (out0 : List ℕ) (sheet : Sheet) : Type 0 where
  pub at : sheet.pen.at ≡ length bs / 8
  pub bits : sheet.pen.bits ≡ length bs % 8
  pub value : sheet.pen.value ≡ stream.value (drop (8 * (length bs / 8)) bs)
  pub page : sheet.out.now ≡ penned (stream.pack (length bs / 8) bs) sheet.start out0

-- more was put, from the sheet to r, which writes to the same page
pub record Put (more : List Bool) (sheet r : Sheet) : Type 0 where
  pub start : r.start ≡ sheet.start
  pub same_reference : r.out.ghost_name ≡ sheet.out.ghost_name
  pub holds : (bs : List Bool) (out0 : List ℕ) → Holds bs out0 sheet → Holds (bs ++ more) out0 r
  pub fits : (k : ℕ) → PenFits (length more + k) sheet.pen → PenFits k r.pen

-- a walk number to write has at most twelve bits
abbrev pub IndexFits : Symbol → Type 0
IndexFits New = Unit
IndexFits Border = Unit
IndexFits (Index e) = e.0 < 4096
