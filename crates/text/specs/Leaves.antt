-- What the leaves over a text answer, by the definitions of Text.
use Rattle.std.specs.Prelude.{ℕ, Result, Ok, Err, ◌+◌, ◌-◌, ◌<◌, ◌≡◌, List, Bool, false, ◌&&◌, ◌||◌, length, get_or, eqb, leb}
use Rattle.rules.specs.Lists.{all_below}
use Rattle.rules.specs.declared.Reason.{Reason}
use Rattle.rules.specs.declared.Refusal.{Refusal}
use Rattle.text.specs.declared.Malformed.{Malformed}
use Rattle.text.specs.declared.place.Place.{Place}
use Rattle.text.specs.declared.Known.{Known}
use Rattle.text.specs.declared.Sizes.{Sizes}
use Rattle.shapes.specs.Text.{is_blank, gap, word_end, Read, bad, good, next, provided, is_digit, value, number}

-- what is said of a text and a position, said of a place
abbrev pub of {ℓ} : {A : Type ℓ} → (List ℕ → ℕ → A) → Place → A
of f p = f p.text.now p.at

-- a byte that ends a word
unfoldable pub stop : ℕ → Bool
stop b = eqb b 35 || is_blank b

-- a word goes on at p
pub record Inside (t : List ℕ) (p : ℕ) : Type 0 where
  pub within : p < length t
  pub letter : gap t p ≡ false

-- the number that is the word at w
unfoldable pub numeral : List ℕ → ℕ → Read ℕ
numeral t w = let e = word_end t w in provided (leb (e - w) 9 && all_below (e - w) (λ k. is_digit (get_or t (w + k) 0))) w (good (value t w (e - w)) e)

-- 26
abbrev pub malformed : Malformed → Refusal ℕ
malformed e = record { reason = Reason.Word; place = e.0 }

-- the reading that an answer tells: 26 at a place, or what was read and the position after it
abbrev pub told : {A : Type 0} → Result (Known A) Malformed → Read A
told (Err e) = bad e.0
told (Ok k) = good k.value k.after.at

-- where an answer that is a place alone ends, or its 26
abbrev pub ends : Result Place Malformed → Result ℕ Malformed
ends (Err e) = Err e
ends (Ok p) = Ok p.at

-- what is answered: 26 at a place, or this of what is read and the position after it
unfoldable pub told_of : {A B : Type 0} → (A → ℕ → B) → Read A → Result B Malformed
told_of f (bad w) = Err (record { 0 = w })
told_of f (good a e) = Ok (f a e)

-- what is read alone
abbrev pub alone : {A : Type 0} → A → ℕ → A
alone a e = a

-- the position alone
abbrev pub end : {A : Type 0} → A → ℕ → ℕ
end a e = e

-- a number and the position after it
pub record Got : Type 0 where
  pub value : ℕ
  pub after : ℕ

-- the same where a place is known
abbrev pub got : Known ℕ → Got
got k = record { value = k.value; after = k.after.at }

-- a number that is known to stand there
unfoldable pub known_of : Read ℕ → Got
known_of (bad w) = record { value = 0; after = w }
known_of (good v e) = record { value = v; after = e }

-- the counts of vertices, faces and edges
unfoldable pub counts : List ℕ → ℕ → Read Sizes
counts t p = next (number t p) (λ v q. next (number t q) (λ f r. next (number t r) (λ e s. good (record { vertices = v; faces = f }) s)))
