-- What the report comes to: the counts of a map, or what refuses it.
use Rattle.std.specs.Prelude.{ℕ, List, false, replicate, Result, Ok, Err}
use Rattle.rules.specs.Map.{by_dart}
use Rattle.rules.specs.declared.Refusal.{Refusal}
use Rattle.rules.specs.declared.ReportAnswer.{ReportAnswer}
use Rattle.rules.specs.Refusals.{number_of}
use Rattle.rules.specs.Report.{cell_counts, free_pairs, orientable}

-- the counts of a map that passes every test
unfoldable pub counted_of : ℕ → ℕ → List ℕ → ReportAnswer
counted_of N n t = record { number = 0; place = 0; cells = cell_counts by_dart N n t; free = free_pairs by_dart N n t; orientable = orientable by_dart N n t }

-- the answer that a result makes: its own, or the refusal's, with nothing counted
abbrev pub answer_by : Result ReportAnswer (Refusal ℕ) → ReportAnswer
answer_by (Ok a) = a
answer_by (Err r) = record { number = number_of r.reason; place = r.place; cells = replicate 7 0; free = 0; orientable = false }

-- a refusal: nothing is counted
unfoldable pub refusal_of : ℕ → ℕ → ReportAnswer
refusal_of nr p = record { number = nr; place = p; cells = replicate 7 0; free = 0; orientable = false }
