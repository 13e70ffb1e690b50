-- Laws of the bits left in a page: the rest of a byte, and the bytes after it; and of the sum of a list, entry by entry. Rests on the laws of codes.
use Prim.Native.Nat.{ℕ, suc, ◌+◌, ◌*◌, ◌-◌, ◌/◌, ◌%◌, ◌≤◌, ◌<◌, ◌^◌}
use mathlib.Core.Path.{◌≡◌, refl, ap, sym, ◌∙◌}
use mathlib.Core.Logic.{◌≢◌}
use mathlib.Core.Bool.{Bool, true, false, not, not-not}
use mathlib.Core.List.{List, [], ◌++◌}
use native.Mathlib.Omega.{arith}
use native.Mathlib.Numerals.{add-one}
use lib.Pow.{shl_exact, low}
use lib.ListN.{length, get_or, take, drop, length-append, length-drop, take-append-drop, drop_of_length-le}
use lib.Seq.{drop-nil, take_at, drop-append-le, drop-cons}
use lib.Dec.{eqb, ltb}
use borrow.Author.Tests.{ltb-true, ltb-false, eq-eqb, ne_eqb}
use Rattle.symbols.specs.declared.Cursor.{Cursor}
use Rattle.rules.specs.Lists.{sum}
use Rattle.rules.specs.Stream.{bits_of, value, unpack}
use Rattle.rules.proofs.Codes.{length_bits, value_lt, value_append, value_bits, length_unpack}
use Rattle.symbols.specs.Cursors.{at_hand, CursorFits}

pub sum_on : (l : List ℕ) (i : ℕ) → i < length l → sum (drop i l) ≡ get_or l i 0 + sum (drop (i + 1) l)
unfolding sum
sum_on l i h = rw (add-one, drop-cons l i 0)

pub sum_over : (l : List ℕ) (i : ℕ) → length l ≤ i → sum (drop i l) ≡ 0
unfolding sum
sum_over l i h = rw (drop_of_length-le l h)

-- the low bits of a number
low_bits : (b j k x : ℕ) → k ≡ b + j → x < 2 ^ k → value (drop b (bits_of k x)) ≡ x % 2 ^ j
low_bits b j k x e h =
    let bs = bits_of k x in
    let l : length (drop b bs) ≡ j = simp length-drop (omega (arith, length_bits k x)) in
    let q : value (take b bs) * 2 ^ j + value (drop b bs) ≡ x =
    rw l at (sym (value_append (take b bs) (drop b bs))) ∙ (ap value (take-append-drop b bs) ∙ value_bits k x h) in
    let s : value (drop b bs) < 2 ^ j = rw l at (value_lt (drop b bs)) in
    sym (sym (ap (λ (y : ℕ). y % 2 ^ j) q) ∙ low (value (take b bs)) j s)

-- the bits of a byte from one after the first on, by a shift
pub set_bits : (b x r : ℕ) → 1 ≤ b → b < 8 → x < 256 → r ≡ 1 * 2 ^ (8 - b) % 256 → not (not (eqb (x % r) 0)) ≡ eqb (value (drop b (bits_of 8 x))) 0
set_bits b x r pos in_byte small er =
    let w : r ≡ 2 ^ (8 - b) = er ∙ (shl_exact 1 (8 - b) 8 (omega arith) (omega arith) ∙ omega arith) in
    let v : x % r ≡ value (drop b (bits_of 8 x)) = rw w (sym (low_bits b (8 - b) 8 x (omega arith) small)) in
    not-not (eqb (x % r) 0) ∙ ap (λ (y : ℕ). eqb y 0) v

-- no bit waits: the page's bits are at hand
module _ (c : Cursor) (page : List ℕ) (fits : CursorFits c page) (none : c.waiting ≡ 0) where
  hand_page : at_hand c page ≡ drop c.bit (unpack (drop c.at page))
  unfolding at_hand bits_of
  hand_page = rw none

  hand_out : length page ≤ c.at → at_hand c page ≡ []
  unfolding unpack
  hand_out h = hand_page ∙ rw (drop_of_length-le page h) (drop-nil c.bit)

  pub fill_out : length page ≤ c.at → true ≡ eqb (value (take (length (at_hand c page) % 8) (at_hand c page))) 0
  unfolding value
  fill_out h = rw (hand_out h)

  pub after_out : length page ≤ c.at → true ≡ eqb (length (at_hand c page) / 8) 0
  after_out h = rw (hand_out h)

  module _ (h : c.at < length page) where
    hand_byte : at_hand c page ≡ drop c.bit (bits_of 8 (get_or page c.at 0)) ++ unpack (drop (suc c.at) page)
    unfolding unpack
    hand_byte =
        let x = get_or page c.at 0 in
        let l = length_bits 8 x in
        hand_page
        ∙ (ap (λ (l : List ℕ). drop c.bit (unpack l)) (drop-cons page c.at 0 h)
        ∙ drop-append-le c.bit (bits_of 8 x) (unpack (drop (suc c.at) page)) (omega (arith, fits.in_byte)))

    byte_length : length (drop c.bit (bits_of 8 (get_or page c.at 0))) ≡ 8 - c.bit
    byte_length = simp length-drop (omega (arith, length_bits 8 (get_or page c.at 0)))

    hand_length : length (at_hand c page) ≡ 8 - c.bit + 8 * (length page - suc c.at)
    hand_length =
        let e = length_unpack (drop (suc c.at) page) in
        let d = length-drop (suc c.at) page in
        rw (hand_byte, length-append, byte_length, length_unpack, length-drop)

    pub fill_whole : c.bit ≡ 0 → true ≡ eqb (value (take (length (at_hand c page) % 8) (at_hand c page))) 0
    unfolding value
    fill_whole z =
        let e : length (at_hand c page) % 8 ≡ 0 = omega (arith, hand_length) in
        rw e

    pub fill_some : c.bit ≢ 0 → (y : Bool) → not y ≡ eqb (value (drop c.bit (bits_of 8 (get_or page c.at 0)))) 0
        → not y ≡ eqb (value (take (length (at_hand c page) % 8) (at_hand c page))) 0
    fill_some nz y ey =
        let x = get_or page c.at 0 in
        let b = c.bit in
        let rest = unpack (drop (suc c.at) page) in
        let hb = fits.in_byte in
        let pos : 0 < c.bit = omega arith in
        let e : length (at_hand c page) % 8 ≡ 8 - b = omega (arith, hand_length) in
        let t : take (8 - b) (at_hand c page) ≡ drop b (bits_of 8 x) = rw hand_byte (take_at (drop b (bits_of 8 x)) rest (8 - b) byte_length) in
        rw (e, t) ey

    pub after_whole : c.bit ≡ 0 → false ≡ eqb (length (at_hand c page) / 8) 0
    after_whole z = sym (ne_eqb (length (at_hand c page) / 8) 0 (λ e. omega (arith, hand_length)))

    pub after_some : c.bit ≢ 0 → not (ltb (c.at + 1) (length page)) ≡ eqb (length (at_hand c page) / 8) 0
    after_some nz = go (ltb (c.at + 1) (length page)) refl
      where
        go : (y : Bool) → ltb (c.at + 1) (length page) ≡ y → not y ≡ eqb (length (at_hand c page) / 8) 0
        go true e = sym (ne_eqb (length (at_hand c page) / 8) 0 (λ q. omega (arith, hand_length, fits.in_byte, ltb-true (c.at + 1) (length page) e)))
        go false e = sym (eq-eqb (length (at_hand c page) / 8) 0 (omega (arith, hand_length, ltb-false (c.at + 1) (length page) e)))
