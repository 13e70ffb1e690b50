-- Document 01, "Listing program", with the last line of document 02, E2: the text of a listing, as ASCII bytes; every line ends by LF.
use Rattle.std.specs.Prelude.{ℕ, suc, List, [], ◌∷◌, ◌++◌, Bool, true, false, get_or, eqb}
use Rattle.rules.specs.declared.ReadAnswer.{ReadAnswer}
use Rattle.rules.specs.declared.ReportAnswer.{ReportAnswer}
use Rattle.rules.specs.Map.{by_dart, link}
use Rattle.words.specs.Words.{numeral, spaced, each, line_end}

-- "dimension", N, "darts", n
unfoldable pub first_line : ℕ → ℕ → List ℕ
first_line N n =
    (100 ∷ 105 ∷ 109 ∷ 101 ∷ 110 ∷ 115 ∷ 105 ∷ 111 ∷ 110 ∷ [])
    ++ (spaced N ++ ((32 ∷ 100 ∷ 97 ∷ 114 ∷ 116 ∷ 115 ∷ []) ++ (spaced n ++ line_end)))

-- a0..aN of a dart
unfoldable pub links : ℕ → ℕ → List ℕ → ℕ → List ℕ
links N n t d = each (suc N) (λ i. spaced (link by_dart N n t i d))

-- the dart, then a0..aN of it
unfoldable pub dart_line : ℕ → ℕ → List ℕ → ℕ → List ℕ
dart_line N n t d = numeral d ++ (links N n t d ++ line_end)

-- a line for each dart
unfoldable pub dart_lines : ℕ → ℕ → List ℕ → List ℕ
dart_lines N n t = each n (dart_line N n t)

-- "cells", then the number of i-cells for i = 0..N
unfoldable pub cells_line : ℕ → List ℕ → List ℕ
cells_line N cells = (99 ∷ 101 ∷ 108 ∷ 108 ∷ 115 ∷ []) ++ (each (suc N) (λ i. spaced (get_or cells i 0)) ++ line_end)

-- "free", then the number of free pairs
unfoldable pub free_line : ℕ → List ℕ
free_line n = (102 ∷ 114 ∷ 101 ∷ 101 ∷ []) ++ (spaced n ++ line_end)

-- "steps", then their number
unfoldable pub steps_line : ℕ → List ℕ
steps_line n = (115 ∷ 116 ∷ 101 ∷ 112 ∷ 115 ∷ []) ++ (spaced n ++ line_end)

-- "orientable yes" or "orientable no"
unfoldable pub orientable_line : Bool → List ℕ
orientable_line true = 111 ∷ 114 ∷ 105 ∷ 101 ∷ 110 ∷ 116 ∷ 97 ∷ 98 ∷ 108 ∷ 101 ∷ 32 ∷ 121 ∷ 101 ∷ 115 ∷ line_end
orientable_line false = 111 ∷ 114 ∷ 105 ∷ 101 ∷ 110 ∷ 116 ∷ 97 ∷ 98 ∷ 108 ∷ 101 ∷ 32 ∷ 110 ∷ 111 ∷ line_end

-- "refused", number, "at", place
unfoldable pub refusal_line : ℕ → ℕ → List ℕ
refusal_line nr p =
    (114 ∷ 101 ∷ 102 ∷ 117 ∷ 115 ∷ 101 ∷ 100 ∷ []) ++ (spaced nr ++ ((32 ∷ 97 ∷ 116 ∷ []) ++ (spaced p ++ line_end)))

-- the listing of a map that was read
unfoldable pub map_text : ℕ → ℕ → ℕ → List ℕ → ℕ → Bool → List ℕ → List ℕ
map_text N n steps cells free orientable t =
    first_line N n ++ (dart_lines N n t ++ (cells_line N cells ++ (free_line free ++ (steps_line steps ++ orientable_line orientable))))

-- the text, by whether the reading was accepted and the report
unfoldable pub text_by : Bool → Bool → ReadAnswer → ReportAnswer → List ℕ → List ℕ
text_by false reported a r t = refusal_line a.number a.place
text_by true false a r t = refusal_line r.number r.place
text_by true true a r t = map_text a.dim a.darts a.steps r.cells r.free r.orientable t

-- a refusal prints only itself; the report of a map that was read is never one
unfoldable pub listing : ReadAnswer → ReportAnswer → List ℕ → List ℕ
listing a r t = text_by (eqb a.number 0) (eqb r.number 0) a r t
