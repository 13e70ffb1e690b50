-- Document 02, E5, "Post from indexed face files", its text: blanks and comments, words, numbers, lines; the header, vertices passed over, faces; 26 with its
-- place.
use Rattle.std.specs.Prelude.{ℕ, zero, suc, ◌+◌, ◌*◌, ◌-◌, List, [], ◌∷◌, Bool, true, false, not, ◌&&◌, ◌||◌, length, get_or, eqb, ltb, leb}
use Rattle.rules.specs.Lists.{scan, all_below}

-- space, tab, CR and LF
unfoldable pub is_blank : ℕ → Bool
is_blank b = eqb b 32 || (eqb b 9 || (eqb b 13 || eqb b 10))

-- byte k is of a comment: # starts one, and it goes on to the line's end
unfoldable pub commented : List ℕ → ℕ → Bool
commented t zero = eqb (get_or t 0 0) 35
commented t (suc k) = eqb (get_or t (suc k) 0) 35 || (not (eqb (get_or t (suc k) 0) 10) && commented t k)

-- byte k is of no word
unfoldable pub gap : List ℕ → ℕ → Bool
gap t k = commented t k || is_blank (get_or t k 0)

-- the first byte from p on that is of a word, or the text's length
unfoldable pub word_from : List ℕ → ℕ → ℕ
word_from t p = scan (λ k. not (gap t k)) (length t - p) p

-- the first byte from p on that is of no word, or the text's length
unfoldable pub word_end : List ℕ → ℕ → ℕ
word_end t p = scan (gap t) (length t - p) p

-- the first LF from p on, or the text's length
unfoldable pub line_end : List ℕ → ℕ → ℕ
line_end t p = scan (λ k. eqb (get_or t k 0) 10) (length t - p) p

-- what is read from a position on: 26 at a place, or what stands there and the position after it
pub data Read (A : Type 0) : Type 0 where
  bad : (place : ℕ) → Read A
  good : A → (after : ℕ) → Read A

-- a reading, and then one from the position after it
unfoldable pub next : {A B : Type 0} → Read A → (A → ℕ → Read B) → Read B
next (bad w) f = bad w
next (good a p) f = f a p

-- what is read if a test passes, and else 26 at w
unfoldable pub provided : {A : Type 0} → Bool → ℕ → Read A → Read A
provided true w r = r
provided false w r = bad w

-- a word, as the place of its first byte
unfoldable pub word : List ℕ → ℕ → Read ℕ
word t p = let w = word_from t p in provided (ltb w (length t)) w (good w (word_end t w))

-- the word OFF
unfoldable pub keyword : List ℕ → ℕ → Read ℕ
keyword t p =
    next (word t p)
    (λ w e. provided (eqb (e - w) 3 && (eqb (get_or t w 0) 79 && (eqb (get_or t (w + 1) 0) 70 && eqb (get_or t (w + 2) 0) 70))) w (good w e))

-- 0 to 9
unfoldable pub is_digit : ℕ → Bool
is_digit b = leb 48 b && leb b 57

-- the number that the k digits from w on write
unfoldable pub value : List ℕ → ℕ → ℕ → ℕ
value t w zero = 0
value t w (suc k) = value t w k * 10 + (get_or t (w + k) 0 - 48)

-- a number: a word of one to nine digits
unfoldable pub number : List ℕ → ℕ → Read ℕ
number t p = next (word t p) (λ w e. provided (leb (e - w) 9 && all_below (e - w) (λ k. is_digit (get_or t (w + k) 0))) w (good (value t w (e - w)) e))

-- k readings, one after another
unfoldable pub several : {A : Type 0} → (ℕ → Read A) → ℕ → ℕ → Read (List A)
several read zero p = good [] p
several read (suc k) p = next (read p) (λ x e. next (several read k e) (λ xs q. good (x ∷ xs) q))

-- a face: its corner count, its vertex numbers; the rest of the line is passed over
unfoldable pub face : List ℕ → ℕ → Read (List ℕ)
face t p = next (number t p) (λ k e. next (several (number t) k e) (λ vs q. good vs (line_end t q)))

-- a file's vertex count and its faces
pub record File : Type 0 where
  pub vertices : ℕ
  pub faces : List (List ℕ)

-- the word OFF, counts of vertices, faces and edges, the vertices of three words each, the faces
unfoldable pub file : List ℕ → Read File
file t =
    next (keyword t 0) (λ w p. next (number t p) (λ v q. next (number t q) (λ f r. next (number t r) (λ e s.
    next (several (word t) (3 * v) s) (λ ws u. next (several (face t) f u) (λ fs x. good (record { vertices = v; faces = fs }) x))))))
