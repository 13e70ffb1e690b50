-- Laws of hands: what a hand holds, one byte more, two hands, and the bits that wait as a hand. Rests on the laws of bits.
use Prim.Native.Nat.{ℕ, ◌+◌, ◌*◌, ◌-◌, ◌/◌, ◌%◌, ◌≤◌, ◌<◌, ◌^◌}
use mathlib.Core.Path.{◌≡◌, refl, ap, ◌∙◌}
use mathlib.Core.Bool.{Bool, false}
use mathlib.Core.List.{List, [], ◌++◌}
use native.Mathlib.Omega.{arith}
use native.Mathlib.Decide.{dec_lt}
use lib.ListN.{length, get_or, take, drop, replicate, length-append, length-drop, length-replicate}
use lib.Seq.{take_at, take-append-le, drop-append-le, length-take-le}
use lib.Pow.{pow_mono, pow-add, shl_lt, shl_exact, shl-shr}
use Rattle.rules.specs.Stream.{bits_of, value}
use Rattle.rules.proofs.Codes.{length_bits, value_lt, value_append, value_zeros, bits_value, value_bits}
use Rattle.symbols.specs.declared.Cursor.{Cursor}
use Rattle.symbols.specs.declared.Hand.{Hand}
use Rattle.symbols.specs.Cursors.{CursorFits}
use Rattle.symbols.specs.Hands.{size, none, held, HandFits, Loads, Joins, Holds}
use Rattle.symbols.proofs.BitLists.{byte_shifted, size_zeros, number_new, number_border, number_walk}

-- bits and zeros after them, as a number of 24 bits
padded : (bs : List Bool) (k : ℕ) → length bs + k ≡ 24 → bits_of 24 (value bs * 2 ^ k) ≡ bs ++ replicate k false
padded bs k few =
    let zs = replicate k false in
    let n : length zs ≡ k = length-replicate k false in
    let l : length (bs ++ zs) ≡ 24 = simp (length-append, n) few in
    let v : value (bs ++ zs) ≡ value bs * 2 ^ k = rw (value_append bs zs, n, value_zeros k) (omega arith) in
    rw (l, v) at (bits_value (bs ++ zs))

-- a hand whose number is that of bits and zeros after them holds the bits
holding : (h : Hand) (bs : List Bool) → length bs ≡ h.bits → h.bits ≤ 24 → h.head ≡ value bs * 2 ^ (24 - h.bits) → held h ≡ bs
unfolding held
holding h bs n few e = rw (e, padded bs (24 - h.bits) (omega arith)) (take_at bs (replicate (24 - h.bits) false) h.bits n)

-- two parts of a number, the first moved up by the second's bits
joined : (u v a k : ℕ) {g h s n : ℕ} → h ≡ u * n → n ≡ a * k → s ≡ v * k → g ≡ h + s → g ≡ (u * a + v) * k
joined u v a k {g} {h} {s} {n} eh en es eg = eg ∙ rw (eh, en, es) (omega arith)

-- a byte's bits moved up within 24
module _ (y k : ℕ) (byte : y < 256) (few : k ≤ 16) where
  moved_exact : y * 2 ^ k % 4294967296 ≡ y * 2 ^ k
  moved_exact = shl_exact 8 k 32 byte (omega arith)

  pub moved_small : y * 2 ^ k % 4294967296 < 16777216
  moved_small = rw moved_exact (omega (arith, shl_lt 8 k byte, pow_mono {i = 8 + k} {j = 24} (omega arith)))

-- a hand that holds no bit
pub none_held : (p : ℕ) → held (none p) ≡ []
unfolding held
none_held p = refl

pub none_fits : (p : ℕ) (page : List ℕ) → p ≤ length page → HandFits (none p) page
unfolding value
none_fits p page l = record { few = omega arith; number = rw (none_held p); within = l }

-- what a hand that fits holds
module _ {h : Hand} {page : List ℕ} (f : HandFits h page) where
  pub length_held : length (held h) ≡ h.bits
  unfolding held
  length_held = length-take-le h.bits (bits_of 24 h.head) (omega (arith, length_bits 24 h.head, f.few))

  head_bits : bits_of 24 h.head ≡ held h ++ replicate (24 - h.bits) false
  head_bits = ap (λ (x : ℕ). bits_of 24 x) f.number ∙ padded (held h) (24 - h.bits) (omega (arith, f.few, length_held))

  pub head_size : size (bits_of 24 h.head) ≡ size (held h)
  head_size = rw head_bits (size_zeros (held h) (24 - h.bits))

  held_lt : value (held h) < 2 ^ h.bits
  held_lt = rw length_held at (value_lt (held h))

  pub head_small : h.head < 16777216
  head_small =
      let n : h.bits + (24 - h.bits) ≡ 24 = omega (arith, f.few) in
      rw f.number (rw n at (shl_lt h.bits (24 - h.bits) held_lt))

  pub head_value : h.head / 2 ^ (24 - h.bits) ≡ value (held h)
  head_value = ap (λ (x : ℕ). x / 2 ^ (24 - h.bits)) f.number ∙ shl-shr (value (held h)) (24 - h.bits)

  pub head_few : h.bits ≤ 13 → h.head / 2 ^ (24 - h.bits) < 8192
  head_few few = omega (arith, head_value, held_lt, pow_mono {i = h.bits} {j = 13} few)

  -- of a w: the number, and the walk number in it
  pub head_wide : size (held h) ≡ 14 → 12582912 ≤ h.head
  head_wide e = go (dec_lt h.head 8388608) (dec_lt h.head 12582912)
    where
      go : Dec (h.head < 8388608) → Dec (h.head < 12582912) → 12582912 ≤ h.head
      go (yes l) q = absurd (omega (arith, number_new h.head l, head_size))
      go (no k) (yes l) = absurd (omega (arith, number_border h.head (omega arith) l, head_size))
      go (no k) (no l) = omega arith

  pub head_walk : size (held h) ≡ 14 → 14 ≤ length (held h) → value (take 12 (drop 2 (held h))) ≡ h.head / 1024 - 12288
  head_walk e w =
      let zs = replicate (24 - h.bits) false in
      let d : drop 2 (held h ++ zs) ≡ drop 2 (held h) ++ zs = drop-append-le 2 (held h) zs (omega arith) in
      let n : length (drop 2 (held h)) ≡ length (held h) - 2 = length-drop 2 (held h) in
      let t : take 12 (drop 2 (held h) ++ zs) ≡ take 12 (drop 2 (held h)) = take-append-le 12 (drop 2 (held h)) zs (omega arith) in
      rw (head_bits, d, t) at (number_walk h.head (head_wide e) head_small)

  -- with the byte x, from bit b of it on
  module _ (g : Hand) (x b : ℕ) (few : h.bits ≤ 13) (byte : x < 256) (in_byte : b < 8) (bits : g.bits + b ≡ h.bits + 8)
      (head : g.head ≡ h.head + x * 2 ^ b % 256 * 2 ^ (16 - h.bits) % 4294967296) where
    part : List Bool
    part = drop b (bits_of 8 x)

    length_part : length part ≡ 8 - b
    unfolding part
    length_part = length-drop b (bits_of 8 x) ∙ rw (length_bits 8 x)

    more_number : g.head ≡ value (held h ++ part) * 2 ^ (24 - g.bits)
    unfolding part
    more_number =
        let u = value (held h) in
        let v = value (drop b (bits_of 8 x)) in
        let k = 24 - g.bits in
        let e : 24 - h.bits ≡ 8 - b + k = omega arith in
        let d : k ≡ b + (16 - h.bits) = omega arith in
        let p : 2 ^ (24 - h.bits) ≡ 2 ^ (8 - b) * 2 ^ k = rw e (pow-add 2 (8 - b) k) in
        let q : 2 ^ k ≡ 2 ^ b * 2 ^ (16 - h.bits) = rw d (pow-add 2 b (16 - h.bits)) in
        let a : value (held h ++ drop b (bits_of 8 x)) ≡ u * 2 ^ (8 - b) + v = rw (← length_part) (value_append (held h) (drop b (bits_of 8 x))) in
        let y = rw (moved_exact (x * 2 ^ b % 256) (16 - h.bits) (omega arith) (omega arith)) at head in
        let w : x * 2 ^ b % 256 * 2 ^ (16 - h.bits) ≡ v * 2 ^ k = rw (byte_shifted b x in_byte byte, q) (omega arith) in
        rw a (joined u v (2 ^ (8 - b)) (2 ^ k) f.number p w y)

    more_held : held g ≡ held h ++ part
    more_held = holding g (held h ++ part) (simp length-append (omega (arith, length_held, length_part))) (omega arith) more_number

    pub loading : h.at < length page → x ≡ get_or page h.at 0 → g.at ≡ h.at + 1 → Loads b h g page
    unfolding part
    loading within read at = record {
      fits = record { few = omega arith; number = rw (← more_held) at more_number; within = omega arith };
      held = rw (← read) more_held;
      more = bits;
      at = at;
    }

-- the bits of two hands, one after the other
module _ {h k : Hand} {page : List ℕ} (f : HandFits h page) (f' : HandFits k page) (g : Hand) (few : h.bits + k.bits ≤ 24)
    (bits : g.bits ≡ h.bits + k.bits) (head : g.head ≡ h.head + k.head / 2 ^ h.bits) where
  moved_down : k.head / 2 ^ h.bits ≡ value (held k) * 2 ^ (24 - g.bits)
  moved_down =
      let n = 24 - g.bits in
      let e : 24 - k.bits ≡ n + h.bits = omega arith in
      let p : k.head ≡ value (held k) * 2 ^ n * 2 ^ h.bits = f'.number ∙ rw (e, pow-add 2 n h.bits) (omega arith) in
      ap (λ (y : ℕ). y / 2 ^ h.bits) p ∙ shl-shr (value (held k) * 2 ^ n) h.bits

  both_number : g.head ≡ value (held h ++ held k) * 2 ^ (24 - g.bits)
  both_number =
      let n = 24 - g.bits in
      let u = value (held h) in
      let e : 24 - h.bits ≡ k.bits + n = omega arith in
      let p : 2 ^ (24 - h.bits) ≡ 2 ^ k.bits * 2 ^ n = rw e (pow-add 2 k.bits n) in
      let v : value (held h ++ held k) ≡ u * 2 ^ k.bits + value (held k) =
      value_append (held h) (held k) ∙ ap (λ (y : ℕ). u * 2 ^ y + value (held k)) (length_held f') in
      rw v (joined u (value (held k)) (2 ^ k.bits) (2 ^ n) f.number p moved_down head)

  both_held : held g ≡ held h ++ held k
  both_held = holding g (held h ++ held k) (simp length-append (omega (arith, length_held f, length_held f'))) (omega arith) both_number

  pub joining : g.at ≡ k.at → Joins h k g page
  joining at = record {
    fits = record { few = omega arith; number = rw (← both_held) at both_number; within = rw at f'.within };
    held = both_held;
    more = bits;
    at = at;
  }

-- the bits that wait, as a hand
pub holding_waits : {c : Cursor} {page : List ℕ} → CursorFits c page → (h : Hand) → h.bits ≡ c.waiting
    → h.head ≡ c.value * 2 ^ (24 - c.waiting) % 4294967296 → h.at ≡ c.at → Holds c h page
holding_waits {c} f h bits head at =
    let ws = bits_of c.waiting c.value in
    let v = value_bits c.waiting c.value f.holds in
    let s = shl_exact c.waiting (24 - c.waiting) 32 f.holds (omega (arith, f.few)) in
    let n : h.head ≡ value ws * 2 ^ (24 - h.bits) = head ∙ rw (s, v, bits) in
    let e : held h ≡ ws = holding h ws (length_bits c.waiting c.value ∙ rw bits) (omega (arith, f.few)) n in
    record { fits = record { few = omega (arith, f.few); number = rw (← e) at n; within = rw at f.within }; held = e; bits = bits }
