-- Laws of numbers in a text: the digits read so far, and each way in which the reading ends.
use Prim.Native.Nat.{ℕ, zero, suc, ◌+◌, ◌*◌, ◌-◌, ◌≤◌, ◌<◌}
use mathlib.Core.Path.{◌≡◌, refl, ◌∙◌}
use mathlib.Core.List.{List}
use mathlib.Core.Bool.{Bool, true, false, ◌&&◌}
use native.Mathlib.Omega.{arith}
use native.Mathlib.Decide.{dec_lt}
use lib.ListN.{length, get_or}
use lib.Dec.{leb}
use borrow.Author.Tests.{le-leb, lt-leb, leb-true}
use Rattle.rules.specs.Lists.{all_below}
use Rattle.rules.proofs.Lists.{scanned, all_below_lem, below_all, not_both, and_right}
use Rattle.shapes.specs.Text.{gap, word_from, word_end, bad, good, provided, is_digit, value, number}
use Rattle.text.specs.Leaves.{stop, Inside, numeral}
use Rattle.text.proofs.Laws.{Ending, ending_start, ending_next, fresh_inside}
use Rattle.text.proofs.Readings.{number_none, number_some}

-- a digit, and none
pub digit : (b : ℕ) → 48 ≤ b → b ≤ 57 → is_digit b ≡ true
unfolding is_digit
digit b h l = rw (le-leb 48 b h, le-leb b 57 l)

pub no_digit_low : (b : ℕ) → b < 48 → is_digit b ≡ false
unfolding is_digit
no_digit_low b h = rw (lt-leb 48 b h)

pub no_digit_high : (b : ℕ) → 57 < b → is_digit b ≡ false
unfolding is_digit
no_digit_high b h = rw (le-leb 48 b (omega arith), lt-leb b 57 h)

digit_most : (b : ℕ) → is_digit b ≡ true → b ≤ 57
unfolding is_digit
digit_most b q = leb-true b 57 (and_right (leb 48 b) (leb b 57) q)

-- 10 to a power
unfoldable tens : ℕ → ℕ
tens zero = 1
tens (suc k) = tens k * 10

tens_grow : (k m : ℕ) → tens k ≤ tens (k + m)
unfolding tens
tens_grow k zero = let e : k + 0 ≡ k = omega arith in rw e (omega arith)
tens_grow k (suc m) = let e : k + suc m ≡ suc (k + m) = omega arith in rw e (omega (arith, tens_grow k m))

value_tens : (t : List ℕ) (w k : ℕ) → ((i : ℕ) → i < k → is_digit (get_or t (w + i) 0) ≡ true) → value t w k < tens k
unfolding value tens
value_tens t w zero d = omega arith
value_tens t w (suc k) d = omega (arith, value_tens t w k (λ i h. d i (omega arith)), digit_most (get_or t (w + k) 0) (d k (omega arith)))

-- fewer than nine digits write a number below 100,000,000
value_small : (t : List ℕ) (w k : ℕ) → k ≤ 8 → ((i : ℕ) → i < k → is_digit (get_or t (w + i) 0) ≡ true) → value t w k < 100000000
unfolding tens
value_small t w k h d = let e : k + (8 - k) ≡ 8 = omega arith in omega (arith, value_tens t w k d, rw e at (tens_grow k (8 - k)))

-- the digits from w to p write v, and the word goes on to p at least
pub record Counting (t : List ℕ) (w p v : ℕ) : Type 0 where
  pub from : w ≤ p
  pub nine : p ≤ w + 9
  pub digits : (i : ℕ) → i < p - w → is_digit (get_or t (w + i) 0) ≡ true
  pub is : v ≡ value t w (p - w)
  pub ending : Ending t w p

module _ (t : List ℕ) (w : ℕ) where
  pub counting_start : Inside t w → Counting t w w 0
  unfolding value
  counting_start n =
      let e : w - w ≡ 0 = omega arith in
      record {
        from = omega arith;
        nine = omega arith;
        digits = λ i h. absurd (omega arith);
        is = rw e;
        ending = ending_start t w (fresh_inside t w n.letter);
      }

  module _ {p v : ℕ} (c : Counting t w p v) where
    pub counting_small : p < w + 9 → v < 100000000
    counting_small h = rw c.is (value_small t w (p - w) (omega arith) c.digits)

    pub counting_next : p < length t → p < w + 9 → stop (get_or t p 0) ≡ false → is_digit (get_or t p 0) ≡ true
        → Counting t w (p + 1) (v * 10 + (get_or t p 0 - 48))
    unfolding value
    counting_next h l s d =
        let a = c.from in
        let e : p + 1 - w ≡ suc (p - w) = omega arith in
        let z : w + (p - w) ≡ p = omega arith in
        record {
          from = omega arith;
          nine = omega arith;
          digits = λ i h. last i h (dec_lt i (p - w));
          is = rw (e, z, ← c.is);
          ending = ending_next t c.ending h s;
        }
      where
        last : (i : ℕ) → i < p + 1 - w → Dec (i < p - w) → is_digit (get_or t (w + i) 0) ≡ true
        last i h (yes x) = c.digits i x
        last i h (no x) = let a = c.from in let z : w + i ≡ p = omega arith in rw z d

    -- a number of one to nine digits
    pub counting_good : p ≡ word_end t w → good v p ≡ numeral t w
    unfolding numeral provided
    counting_good e =
        let n = c.nine in
        rw (← e, le-leb (p - w) 9 (omega arith), below_all (p - w) (λ k. is_digit (get_or t (w + k) 0)) c.digits, ← c.is)

    beyond : p < length t → stop (get_or t p 0) ≡ false → p < word_end t w
    unfolding word_end
    beyond h s =
        let g = (ending_next t c.ending h s).gone.left in
        omega (arith, g, (scanned (gap t) (length t - (p + 1)) (p + 1)).from)

    -- a byte that is no digit
    pub counting_bad : p < length t → stop (get_or t p 0) ≡ false → is_digit (get_or t p 0) ≡ false → bad w ≡ numeral t w
    unfolding numeral provided
    counting_bad h s d = go (all_below (word_end t w - w) (λ k. is_digit (get_or t (w + k) 0))) refl
      where
        z : w + (p - w) ≡ p
        z = let a = c.from in omega arith

        go : (b : Bool) → all_below (word_end t w - w) (λ k. is_digit (get_or t (w + k) 0)) ≡ b → bad w ≡ numeral t w
        go true q =
            let a = c.from in
            let r = all_below_lem (word_end t w - w) (λ k. is_digit (get_or t (w + k) 0)) q (p - w) (omega (arith, beyond h s)) in
            absurd (not_both (is_digit (get_or t p 0)) (rw z at r) d)
        go false q = rw q (no_and (leb (word_end t w - w) 9))
          where
            no_and : (b : Bool) → bad w ≡ provided (b && false) w (good (value t w (word_end t w - w)) (word_end t w))
            no_and true = refl
            no_and false = refl

    -- a tenth byte
    pub counting_long : p < length t → stop (get_or t p 0) ≡ false → w + 9 ≤ p → bad w ≡ numeral t w
    unfolding numeral provided
    counting_long h s l = rw (lt-leb (word_end t w - w) 9 (let b = beyond h s in omega arith))

-- a number is below 1,000,000,000
numeral_small : (t : List ℕ) (w v e : ℕ) → numeral t w ≡ good v e → v < 1000000000
unfolding numeral provided tens
numeral_small t w v e q = go (leb (word_end t w - w) 9) (all_below (word_end t w - w) (λ k. is_digit (get_or t (w + k) 0))) refl refl q
  where
    go : (a b : Bool) → leb (word_end t w - w) 9 ≡ a → all_below (word_end t w - w) (λ k. is_digit (get_or t (w + k) 0)) ≡ b
        → provided (a && b) w (good (value t w (word_end t w - w)) (word_end t w)) ≡ good v e → v < 1000000000
    go true true x y q =
        let k = word_end t w - w in
        let l : k ≤ 9 = leb-true k 9 x in
        let z : k + (9 - k) ≡ 9 = omega arith in
        let u : v ≡ value t w k = cc in
        omega (arith, u, value_tens t w k (all_below_lem k (λ i. is_digit (get_or t (w + i) 0)) y), rw z at (tens_grow k (9 - k)))
    go true false x y q = let z : ◌≡◌ {A = ℕ} 0 1 = cc in absurd (omega arith)
    go false b x y q = let z : ◌≡◌ {A = ℕ} 0 1 = cc in absurd (omega arith)

pub number_small : (t : List ℕ) (p v e : ℕ) → number t p ≡ good v e → v < 1000000000
number_small t p v e q = go (dec_lt (word_from t p) (length t))
  where
    go : Dec (word_from t p < length t) → v < 1000000000
    go (yes h) = numeral_small t (word_from t p) v e (number_some t p (word_from t p) refl h ∙ q)
    go (no h) = let x = number_none t p (word_from t p) refl (omega arith) in let z : ◌≡◌ {A = ℕ} 0 1 = cc in absurd (omega arith)
