-- The fewest digits of a number, as the kit's `io::decimal` puts them, are its numeral. Rests on nothing.
use Prim.Native.Nat.{ℕ, zero, suc, ◌+◌, ◌*◌, ◌-◌, ◌/◌, ◌%◌, ◌≤◌, ◌<◌, ◌^◌}
use mathlib.Core.Path.{◌≡◌, refl, ap, sym, ◌∙◌}
use mathlib.Core.List.{List, [], ◌∷◌, ◌++◌}
use native.Mathlib.Omega.{arith}
use native.Mathlib.Decide.{dec_le}
use native.Mathlib.Nat.{pow-suc, pow-le-pow_right}
use borrow.Author.Tests.{lt-ltb, le-ltb}
use Rattle.io.specs.Digits.{hex_digit_ascii, last_digits, IsDigitCount}
use Rattle.words.specs.Words.{decimal, numeral}

-- a digit below ten
glyph_ten : (d : ℕ) → d < 10 → hex_digit_ascii d ≡ 48 + d
glyph_ten d h = rw (lt-ltb d 10 h) refl

last_digit : (n : ℕ) → hex_digit_ascii (n % 10) ≡ 48 + n % 10
last_digit n = glyph_ten (n % 10) (omega arith)

decimal_one : (f n : ℕ) → n < 10 → decimal (suc f) n ≡ (48 + n) ∷ []
unfolding decimal
decimal_one f n h = rw (decimal, lt-ltb n 10 h) refl

decimal_more : (f n : ℕ) → 10 ≤ n → decimal (suc f) n ≡ decimal f (n / 10) ++ ((48 + n % 10) ∷ [])
unfolding decimal
decimal_more f n h = rw (decimal, le-ltb n 10 h) refl

digits_decimal : (k f n : ℕ) → k < f → n < 10 ^ suc k → (0 < k → 10 ^ k ≤ n) → last_digits 10 (suc k) n ≡ decimal f n
digits_decimal k zero n l h g = absurd (omega arith)
digits_decimal zero (suc f) n l h g =
    let e : n % 10 ≡ n = omega (arith, h) in
    ap (λ (x : ℕ). x ∷ []) (last_digit n ∙ ap (λ (x : ℕ). 48 + x) e) ∙ sym (decimal_one f n (omega (arith, h)))
digits_decimal (suc k) (suc f) n l h g =
    let p : 10 ^ suc (suc k) ≡ 10 ^ suc k * 10 = pow-suc 10 (suc k) in
    let q : 10 ^ suc k ≡ 10 ^ k * 10 = pow-suc 10 k in
    let a : 10 ^ suc k ≤ n = g (omega arith) in
    let z : 10 ^ 0 ≤ 10 ^ k = pow-le-pow_right {n = 10} (omega arith) {i = 0} {j = k} (omega arith) in
    let r : last_digits 10 (suc k) (n / 10) ≡ decimal f (n / 10) = digits_decimal k f (n / 10) (omega arith) (omega (arith, h, p)) (λ _. omega (arith, a, q)) in
    let m = decimal_more f n (omega (arith, a, q, z)) in
    ap (λ (l : List ℕ). l ++ (hex_digit_ascii (n % 10) ∷ [])) r
    ∙ (ap (λ (x : ℕ). decimal f (n / 10) ++ (x ∷ [])) (last_digit n) ∙ sym m)

-- up to twenty digits
pub numeral_digits : (n r : ℕ) → IsDigitCount 10 1 n r → r ≤ 20 → last_digits 10 r n ≡ numeral n
unfolding numeral
numeral_digits n zero (a, b, c) h = absurd (omega arith)
numeral_digits n (suc k) (a, b, c) h =
    let e : suc k - 1 ≡ k = omega arith in
    digits_decimal k 20 n (omega arith) b (λ l. rw e at (c (omega arith)))

-- a number of 64 bits has at most twenty digits
pub few_digits : (n r : ℕ) → n < 18446744073709551616 → IsDigitCount 10 1 n r → r ≤ 20
few_digits n r h (a, b, c) = go (dec_le r 20)
  where
    go : Dec (r ≤ 20) → r ≤ 20
    go (yes l) = l
    go (no l) =
        let p : 10 ^ 20 ≤ 10 ^ (r - 1) = pow-le-pow_right {n = 10} (omega arith) {i = 20} {j = r - 1} (omega arith) in
        absurd (omega (arith, p, c (omega arith)))
