-- The answers as stored numbers, each in the order in which an answer room holds it.
use Rattle.std.specs.Prelude.{ℕ, List, [], ◌∷◌, ◌++◌, cond}
use Rattle.rules.specs.declared.CheckAnswer.{CheckAnswer}
use Rattle.rules.specs.declared.WriteAnswer.{WriteAnswer}
use Rattle.rules.specs.declared.ReadAnswer.{ReadAnswer}
use Rattle.rules.specs.declared.PageAnswer.{PageAnswer}
use Rattle.rules.specs.declared.ReportAnswer.{ReportAnswer}

-- the check's answer: number, place
abbrev pub check_numbers : CheckAnswer → List ℕ
check_numbers a = a.number ∷ a.place ∷ []

-- the writer's answer: number, place, bytes written, the stream's length
abbrev pub write_numbers : WriteAnswer → List ℕ
write_numbers a = a.number ∷ a.place ∷ a.written ∷ a.length ∷ []

-- a reading answer: number, place, steps, N, n
abbrev pub read_numbers : ReadAnswer → List ℕ
read_numbers a = a.number ∷ a.place ∷ a.steps ∷ a.dim ∷ a.darts ∷ []

-- a page's answer: the reading's, then the bytes to fetch
abbrev pub page_numbers : PageAnswer → List ℕ
page_numbers a = read_numbers a.reading ++ (a.fetch ∷ [])

-- the report's answer: number, place, the cells of ranks 0 to 6, free pairs, 1 for orientable
unfoldable pub report_numbers : ReportAnswer → List ℕ
report_numbers a = a.number ∷ a.place ∷ (a.cells ++ (a.free ∷ cond a.orientable 1 0 ∷ []))
