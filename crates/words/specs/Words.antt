-- Texts as ASCII bytes: numbers in decimal digits, rows of texts, the end of a line.
use Rattle.std.specs.Prelude.{ℕ, zero, suc, ◌+◌, ◌/◌, ◌%◌, List, [], ◌∷◌, ◌++◌, true, false, ltb}

-- a number in decimal digits, the last of them after those of its tenth; k is as many digits as there may be
unfoldable pub decimal : ℕ → ℕ → List ℕ
decimal zero n = []
decimal (suc k) n = elim (ltb n 10) [ true ↦ (48 + n) ∷ [] | false ↦ decimal k (n / 10) ++ ((48 + n % 10) ∷ []) ]

-- a number of 64 bits has at most 20 digits
unfoldable pub numeral : ℕ → List ℕ
numeral n = decimal 20 n

-- a blank and a number
unfoldable pub spaced : ℕ → List ℕ
spaced n = 32 ∷ numeral n

-- f 0, f 1, .., f (k - 1), one after the other
unfoldable pub each : ℕ → (ℕ → List ℕ) → List ℕ
each zero f = []
each (suc k) f = each k f ++ f k

-- the end of a line
abbrev pub line_end : List ℕ
line_end = 10 ∷ []
