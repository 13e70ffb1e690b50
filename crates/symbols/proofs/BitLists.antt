-- Laws of bits: of a number, of a page, and of the symbol that they begin. Rests on the laws of codes.
use Prim.Native.Nat.{ℕ, zero, suc, ◌+◌, ◌*◌, ◌-◌, ◌/◌, ◌%◌, ◌≤◌, ◌<◌, ◌^◌}
use mathlib.Core.Path.{◌≡◌, refl, ap, sym, ◌∙◌}
use mathlib.Core.Logic.{◌≢◌}
use mathlib.Core.Bool.{Bool, true, false}
use mathlib.Core.List.{List, [], ◌∷◌, ◌++◌}
use native.Mathlib.Omega.{arith}
use native.Mathlib.Nat.{mod-lt, mul-mod_left}
use native.Mathlib.Numerals.{add-one}
use lib.ListN.{length, get_or, take, drop, replicate, length-append, drop_of_length-le}
use lib.Seq.{take_at, drop_at, drop-nil, take-append-le, drop-append-le, drop-drop, drop-cons}
use lib.Dec.{eqb}
use borrow.Author.Tests.{lt-ltb, le-ltb, le-leb, lt-leb, leb-true}
use lib.Pow.{pow_pos, shl-shr, mod-pow-add, field, mod-mod-pow}
use Rattle.rules.specs.Walk.{Symbol}
use Rattle.rules.specs.Stream.{bits_of, value, unpack, Taken, take_index, take_symbol}
use Rattle.rules.specs.Session.{begins}
use Rattle.rules.proofs.Codes.{length_bits, value_bits, bits_split}
use Rattle.symbols.specs.Hands.{size, whole}

-- the bits of a number, first bit first
bits_one : (k x : ℕ) → 2 ^ k ≤ x → bits_of (suc k) x ≡ true ∷ bits_of k (x - 2 ^ k)
unfolding bits_of
bits_one k x h = rw (le-leb (2 ^ k) x h)

bits_zero : (k x : ℕ) → x < 2 ^ k → bits_of (suc k) x ≡ false ∷ bits_of k x
unfolding bits_of
bits_zero k x h = rw (lt-leb (2 ^ k) x h)

-- j bits of a number, after i others and before k others, by a shift
bits_field : (i j k x : ℕ) → x < 2 ^ (i + (j + k)) → drop i (bits_of (i + (j + k)) x) ≡ bits_of j (x / 2 ^ k % 2 ^ j) ++ bits_of k (x % 2 ^ k)
bits_field i j k x h =
    rw (bits_split i (j + k) x h, drop_at (bits_of i (x / 2 ^ (j + k))) (bits_of (j + k) (x % 2 ^ (j + k))) i (length_bits i (x / 2 ^ (j + k))))
    (rw (field x j k, mod-mod-pow x j k) at (bits_split j k (x % 2 ^ (j + k)) (mod-lt x (pow_pos (j + k)))))

bit_of : (y : ℕ) → y < 2 → bits_of 1 y ≡ eqb y 1 ∷ []
unfolding bits_of
bit_of zero h = refl
bit_of (suc zero) h = refl
bit_of (suc (suc y)) h = absurd (omega arith)

-- the bit after b others and before j others, by a shift
bit_at : (b j x : ℕ) → x < 2 ^ (b + (1 + j)) → drop b (bits_of (b + (1 + j)) x) ≡ eqb (x / 2 ^ j % 2) 1 ∷ drop (b + 1) (bits_of (b + (1 + j)) x)
bit_at b j x h =
    let bits = bits_of (b + (1 + j)) x in
    let f : drop b bits ≡ eqb (x / 2 ^ j % 2) 1 ∷ bits_of j (x % 2 ^ j) = rw (bit_of (x / 2 ^ j % 2) (omega arith)) at (bits_field b 1 j x h) in
    let g : drop (b + 1) bits ≡ bits_of j (x % 2 ^ j) = sym (drop-drop 1 b bits) ∙ rw f in
    rw g f

-- the bits of a number after the first k
pub bits_drop : (k j x : ℕ) → x < 2 ^ (k + j) → drop k (bits_of (k + j) x) ≡ bits_of j (x % 2 ^ j)
bits_drop k j x h = rw (bits_split k j x h) (drop_at (bits_of k (x / 2 ^ j)) (bits_of j (x % 2 ^ j)) k (length_bits k (x / 2 ^ j)))

-- the number that a byte's bits after the first b write, by a shift within the byte
pub byte_shifted : (b x : ℕ) → b < 8 → x < 256 → x * 2 ^ b % 256 ≡ value (drop b (bits_of 8 x)) * 2 ^ b
byte_shifted b x h hx =
    let n : 8 - b + b ≡ 8 = omega arith in
    let m : b + (8 - b) ≡ 8 = omega arith in
    let d : drop b (bits_of 8 x) ≡ bits_of (8 - b) (x % 2 ^ (8 - b)) = rw m at (bits_drop b (8 - b) x (rw m hx)) in
    let v : value (drop b (bits_of 8 x)) ≡ x % 2 ^ (8 - b) = rw d (value_bits (8 - b) (x % 2 ^ (8 - b)) (mod-lt x (pow_pos (8 - b)))) in
    let e = rw (n, shl-shr x b, mul-mod_left x (2 ^ b)) at (mod-pow-add (x * 2 ^ b) (8 - b) b) in
    rw v (e ∙ omega arith)

-- the bits of a page from a byte on: those of the byte from bit b on, then those from the next byte on
module _ (page : List ℕ) (at : ℕ) (within : at < length page) where
  page_byte : unpack (drop at page) ≡ bits_of 8 (get_or page at 0) ++ unpack (drop (suc at) page)
  unfolding unpack
  page_byte = rw (drop-cons page at 0 within)

  pub page_loaded : (b : ℕ) → b < 8 → drop b (unpack (drop at page)) ≡ drop b (bits_of 8 (get_or page at 0)) ++ unpack (drop (at + 1) page)
  page_loaded b h =
      let x = get_or page at 0 in
      rw (add-one at, page_byte, drop-append-le b (bits_of 8 x) (unpack (drop (suc at) page)) (omega (arith, length_bits 8 x)))

-- whole bytes dropped
unpack_drop : (k : ℕ) (xs : List ℕ) → drop (8 * k) (unpack xs) ≡ unpack (drop k xs)
unfolding unpack
unpack_drop zero xs = refl
unpack_drop (suc k) [] = drop-nil (8 * suc k)
unpack_drop (suc k) (x ∷ xs) =
    let e : 8 * suc k ≡ 8 + 8 * k = omega arith in
    rw (e, ← drop-drop (8 * k) 8 (bits_of 8 x ++ unpack xs), drop_at (bits_of 8 x) (unpack xs) 8 (length_bits 8 x)) (unpack_drop k xs)

-- the page's bits from a byte and so many bits after it on
pub page_moved : (page : List ℕ) (at to : ℕ) → drop (to % 8) (unpack (drop (at + to / 8) page)) ≡ drop to (unpack (drop at page))
page_moved page at to =
    let e : 8 * (to / 8) + to % 8 ≡ to = omega arith in
    rw (← drop-drop (to / 8) at page, ← unpack_drop (to / 8) (drop at page), drop-drop (to % 8) (8 * (to / 8)) (unpack (drop at page)), e)

-- how many bits a symbol has by its first bits, and by the bits of a number of 24
pub size_range : (bs : List Bool) → (1 ≤ size bs) × (size bs ≤ 14)
unfolding size
size_range [] = (omega arith, omega arith)
size_range (false ∷ bs) = (omega arith, omega arith)
size_range (true ∷ []) = (omega arith, omega arith)
size_range (true ∷ false ∷ bs) = (omega arith, omega arith)
size_range (true ∷ true ∷ bs) = (omega arith, omega arith)

pub size_kinds : (bs : List Bool) → size bs ≢ 1 → size bs ≢ 2 → size bs ≡ 14
unfolding size
size_kinds [] h k = absurd (h refl)
size_kinds (false ∷ bs) h k = absurd (h refl)
size_kinds (true ∷ []) h k = absurd (k refl)
size_kinds (true ∷ false ∷ bs) h k = absurd (k refl)
size_kinds (true ∷ true ∷ bs) h k = refl

pub size_wide : (bs : List Bool) → size bs ≡ 14 → 2 ≤ length bs
unfolding size
size_wide [] e = absurd (omega arith)
size_wide (false ∷ bs) e = absurd (omega arith)
size_wide (true ∷ []) e = absurd (omega arith)
size_wide (true ∷ false ∷ bs) e = absurd (omega arith)
size_wide (true ∷ true ∷ bs) e = omega arith

-- zeros after bits, which tell no more than the bits do
pub size_zeros : (bs : List Bool) (k : ℕ) → size (bs ++ replicate k false) ≡ size bs
unfolding size
size_zeros [] zero = refl
size_zeros [] (suc k) = refl
size_zeros (false ∷ bs) k = refl
size_zeros (true ∷ []) zero = refl
size_zeros (true ∷ []) (suc k) = refl
size_zeros (true ∷ false ∷ bs) k = refl
size_zeros (true ∷ true ∷ bs) k = refl

-- bits after others, and after a whole symbol
pub size_grows : (bs ys : List Bool) → size bs ≤ size (bs ++ ys)
unfolding size
size_grows [] ys = (size_range ys).0
size_grows (false ∷ bs) ys = omega arith
size_grows (true ∷ []) [] = omega arith
size_grows (true ∷ []) (false ∷ ys) = omega arith
size_grows (true ∷ []) (true ∷ ys) = omega arith
size_grows (true ∷ false ∷ bs) ys = omega arith
size_grows (true ∷ true ∷ bs) ys = omega arith

pub size_more : (bs ys : List Bool) → size bs ≤ length bs → size (bs ++ ys) ≡ size bs
unfolding size
size_more [] ys h = absurd (omega arith)
size_more (false ∷ bs) ys h = refl
size_more (true ∷ []) ys h = absurd (omega arith)
size_more (true ∷ false ∷ bs) ys h = refl
size_more (true ∷ true ∷ bs) ys h = refl

-- bits that begin a symbol are fewer than the symbol has
pub begins_size : (ws ys : List Bool) → begins ws ≡ true → length ws < size (ws ++ ys)
unfolding begins size
begins_size [] ys g = (size_range ys).0
begins_size (false ∷ ws) ys g = let z : ◌≡◌ {A = ℕ} 0 1 = cc in absurd (omega arith)
begins_size (true ∷ []) [] g = omega arith
begins_size (true ∷ []) (false ∷ ys) g = omega arith
begins_size (true ∷ []) (true ∷ ys) g = omega arith
begins_size (true ∷ false ∷ ws) ys g = let z : ◌≡◌ {A = ℕ} 0 1 = cc in absurd (omega arith)
begins_size (true ∷ true ∷ ws) ys g = omega (arith, leb-true (length ws) 11 g)

-- bits that hold a whole symbol, N or B, or none
pub whole_holds : (ws : List Bool) → 1 ≤ whole ws → (size ws ≡ whole ws) × (whole ws ≤ length ws)
unfolding whole size
whole_holds [] h = absurd (omega arith)
whole_holds (false ∷ ws) h = (refl, omega arith)
whole_holds (true ∷ []) h = absurd (omega arith)
whole_holds (true ∷ false ∷ ws) h = (refl, omega arith)
whole_holds (true ∷ true ∷ ws) h = absurd (omega arith)

pub whole_none : (ws : List Bool) → length ws ≤ 13 → whole ws ≡ 0 → length ws < size ws
unfolding whole size
whole_none [] l e = omega arith
whole_none (false ∷ ws) l e = absurd (omega arith)
whole_none (true ∷ []) l e = omega arith
whole_none (true ∷ false ∷ ws) l e = absurd (omega arith)
whole_none (true ∷ true ∷ ws) l e = omega arith

pub no_bits_whole : (w x : ℕ) → w ≡ 0 → whole (bits_of w x) ≡ 0
unfolding whole bits_of
no_bits_whole w x e = rw e

-- the same by the first two of w bits of a number
module _ (w x : ℕ) (l : x < 2 ^ w) where
  first_bit : 1 ≤ w → bits_of w x ≡ eqb (x / 2 ^ (w - 1) % 2) 1 ∷ drop 1 (bits_of w x)
  first_bit h = let n : 0 + (1 + (w - 1)) ≡ w = omega arith in rw n at (bit_at 0 (w - 1) x (rw n l))

  second_bit : 2 ≤ w → drop 1 (bits_of w x) ≡ eqb (x / 2 ^ (w - 2) % 2) 1 ∷ drop 2 (bits_of w x)
  second_bit h = let n : 1 + (1 + (w - 2)) ≡ w = omega arith in rw n at (bit_at 1 (w - 2) x (rw n l))

  pub first_zero : 1 ≤ w → x / 2 ^ (w - 1) % 2 ≡ 0 → whole (bits_of w x) ≡ 1
  unfolding whole
  first_zero h e = ap whole (first_bit h) ∙ rw e

  module _ (one : x / 2 ^ (w - 1) % 2 ≢ 0) where
    is_one : x / 2 ^ (w - 1) % 2 ≡ 1
    is_one = omega arith

    pub alone : w ≡ 1 → whole (bits_of w x) ≡ 0
    unfolding whole
    alone e =
        let n : length (bits_of w x) ≤ 1 = omega (arith, length_bits w x) in
        let d : drop 1 (bits_of w x) ≡ [] = drop_of_length-le (bits_of w x) n in
        ap whole (first_bit (omega arith)) ∙ rw (is_one, d)

    pub second_zero : 2 ≤ w → x / 2 ^ (w - 2) % 2 ≡ 0 → whole (bits_of w x) ≡ 2
    unfolding whole
    second_zero h e = ap whole (first_bit (omega arith)) ∙ rw (is_one, second_bit h, e)

    pub second_one : 2 ≤ w → x / 2 ^ (w - 2) % 2 ≢ 0 → whole (bits_of w x) ≡ 0
    unfolding whole
    second_one h n =
        let e : x / 2 ^ (w - 2) % 2 ≡ 1 = omega arith in
        ap whole (first_bit (omega arith)) ∙ rw (is_one, second_bit h, e)

-- the symbol by its size: bits run out, or N, B or w
pub size_short : (bs : List Bool) (k : ℕ) → length bs < size bs → k + length bs ≡ size bs → take_symbol bs ≡ Taken.short k
unfolding size take_symbol take_index
size_short [] k h e = ap Taken.short (omega arith)
size_short (false ∷ bs) k h e = absurd (omega arith)
size_short (true ∷ []) k h e = ap Taken.short (omega arith)
size_short (true ∷ false ∷ bs) k h e = absurd (omega arith)
size_short (true ∷ true ∷ bs) k h e = rw (lt-ltb (length bs) 12 (omega arith)) (ap Taken.short (omega arith))

pub size_new : (bs ys : List Bool) → size bs ≡ 1 → 1 ≤ length bs → take_symbol (bs ++ ys) ≡ Taken.symbol Symbol.new (drop 1 (bs ++ ys))
unfolding size take_symbol
size_new [] ys e h = absurd (omega arith)
size_new (false ∷ bs) ys e h = refl
size_new (true ∷ []) ys e h = absurd (omega arith)
size_new (true ∷ false ∷ bs) ys e h = absurd (omega arith)
size_new (true ∷ true ∷ bs) ys e h = absurd (omega arith)

pub size_border : (bs ys : List Bool) → size bs ≡ 2 → 2 ≤ length bs → take_symbol (bs ++ ys) ≡ Taken.symbol Symbol.border (drop 2 (bs ++ ys))
unfolding size take_symbol
size_border [] ys e h = absurd (omega arith)
size_border (false ∷ bs) ys e h = absurd (omega arith)
size_border (true ∷ []) ys e h = absurd (omega arith)
size_border (true ∷ false ∷ bs) ys e h = refl
size_border (true ∷ true ∷ bs) ys e h = absurd (omega arith)

pub size_index : (bs ys : List Bool) → size bs ≡ 14 → 14 ≤ length bs
    → take_symbol (bs ++ ys) ≡ Taken.symbol (Symbol.index (value (take 12 (drop 2 bs)))) (drop 14 (bs ++ ys))
unfolding size take_symbol take_index
size_index [] ys e h = absurd (omega arith)
size_index (false ∷ bs) ys e h = absurd (omega arith)
size_index (true ∷ []) ys e h = absurd (omega arith)
size_index (true ∷ false ∷ bs) ys e h = absurd (omega arith)
size_index (true ∷ true ∷ bs) ys e h =
    rw (le-ltb (length (bs ++ ys)) 12 (simp length-append (omega arith)), take-append-le 12 bs ys (omega arith))

-- the size by a number of 24 bits
pub number_new : (x : ℕ) → x < 8388608 → size (bits_of 24 x) ≡ 1
unfolding size
number_new x h = rw (bits_zero 23 x h)

pub number_border : (x : ℕ) → 8388608 ≤ x → x < 12582912 → size (bits_of 24 x) ≡ 2
unfolding size
number_border x l h = rw (bits_one 23 x l, bits_zero 22 (x - 8388608) (omega arith))

pub number_index : (x : ℕ) → 12582912 ≤ x → size (bits_of 24 x) ≡ 14
unfolding size
number_index x l = rw (bits_one 23 x (omega arith), bits_one 22 (x - 8388608) (omega arith))

-- the walk number of a w, out of 24 bits
pub number_walk : (x : ℕ) → 12582912 ≤ x → x < 16777216 → value (take 12 (drop 2 (bits_of 24 x))) ≡ x / 1024 - 12288
number_walk x l h =
    let y = x % 4194304 in
    let q : y / 1024 < 4096 = omega arith in
    let d : drop 2 (bits_of 24 x) ≡ bits_of 12 (y / 1024) ++ bits_of 10 (y % 1024) = bits_drop 2 22 x h ∙ bits_split 12 10 y (omega arith) in
    rw (d, take_at (bits_of 12 (y / 1024)) (bits_of 10 (y % 1024)) 12 (length_bits 12 (y / 1024)), value_bits 12 (y / 1024) q) (omega arith)
