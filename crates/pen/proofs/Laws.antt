-- Laws of the pen: a byte more in the page, bits after bits, a number's bits, the fill, and how a caller begins. Rests on the laws of bits.
use Prim.Native.Nat.{ℕ, suc, ◌+◌, ◌*◌, ◌-◌, ◌/◌, ◌%◌, ◌≤◌, ◌<◌, ◌^◌}
use mathlib.Core.Path.{◌≡◌, refl, ap, sym, ◌∙◌}
use mathlib.Core.Bool.{Bool, false}
use mathlib.Core.List.{List, [], ◌∷◌, ◌++◌, append_assoc, append-nil}
use native.Mathlib.Omega.{arith}
use native.Mathlib.Nat.{zero-add, zero-mul, mod-lt}
use native.Mathlib.Decide.{dec_lt}
use lib.ListN.{length, get_or, set, take, drop, replicate, length-append, length-take, length-drop, length-replicate, drop_of_length-le}
use lib.Seq.{take-nil, drop-nil, take_all, take-append-le, drop-append-le, drop-cons, set_at, set_out}
use lib.Arith.{digits_lt}
use lib.Pow.{pow-add, pow_pos, pow_mono, shl_exact, shr_lt}
use borrow.Author.Tests.{lt-ltb, le-ltb}
use Rattle.std.specs.Borrow.{MutBor}
use Rattle.rules.specs.declared.WalkNo.{WalkNo}
use Rattle.rules.specs.declared.Symbol.{Symbol}
use Rattle.rules.specs.declared.Symbol.TheVariants.{New, Border, Index}
use Rattle.rules.specs.Symbols.{told_symbol}
use Rattle.rules.specs.Stream.{bits_of, value, pack, code, filled}
use Rattle.rules.specs.Writing.{page_of}
use Rattle.rules.proofs.Codes.{length_pack, length_bits, value_lt, value_bits, value_append, value_zeros, bits_join, bits_split, filled_exact}
use Rattle.pen.specs.declared.Pen.{Pen}
use Rattle.pen.specs.declared.Sheet.{Sheet}
use Rattle.pen.specs.Pens.{blank_sheet, stored, with_byte, penned, PenFits, Holds, Put, IndexFits}
use Rattle.pen.proofs.Bits.{pack_front, pack_whole}

-- the code's three ways to store
module _ (start at byte : ℕ) (out : List ℕ) where
  pub stored_before : at < start → out ≡ stored start at byte out
  unfolding stored
  stored_before h = rw (lt-ltb at start h)

  pub stored_within : start ≤ at → set out (at - start) byte ≡ stored start at byte out
  unfolding stored
  stored_within h = rw (le-ltb at start h)

  pub stored_past : start ≤ at → length out ≤ at - start → out ≡ stored start at byte out
  stored_past h l = sym (set_out out (at - start) byte l) ∙ stored_within h

-- one byte more
module _ (done : List ℕ) (x start : ℕ) (out : List ℕ) where
  penned_length : length (penned done start out) ≡ length out
  unfolding penned page_of
  penned_length = simp (length-append, length-drop, length-take) (omega arith)

  more_before : length done < start → penned (done ++ (x ∷ [])) start out ≡ penned done start out
  unfolding penned page_of
  more_before h =
      let l : length (done ++ (x ∷ [])) ≤ start = simp length-append (omega arith) in
      let m : length done ≤ start = omega arith in
      rw (drop_of_length-le (done ++ (x ∷ [])) l, drop_of_length-le done m)

  -- the part of the stream from start on, and the byte
  from : start ≤ length done → drop start (done ++ (x ∷ [])) ≡ drop start done ++ (x ∷ [])
  from h = drop-append-le start done (x ∷ []) h

  more_within : start ≤ length done → length done - start < length out
      → penned (done ++ (x ∷ [])) start out ≡ set (penned done start out) (length done - start) x
  unfolding penned page_of
  more_within h l =
      let d = drop start done in
      let i = length done - start in
      let n : length d ≡ i = length-drop start done in
      let m : length (d ++ (x ∷ [])) ≡ suc i = simp length-append (omega arith) in
      let t : take (length out) d ≡ d = take_all (length out) d (omega arith) in
      let u : take (length out) (d ++ (x ∷ [])) ≡ d ++ (x ∷ []) = take_all (length out) (d ++ (x ∷ [])) (omega arith) in
      rw (from h, u, t, m, n, drop-cons out i 0 l, set_at d (get_or out i 0) (drop (suc i) out) x i n) (append_assoc d (x ∷ []) (drop (suc i) out))

  more_past : start ≤ length done → length out ≤ length done - start → penned (done ++ (x ∷ [])) start out ≡ penned done start out
  unfolding penned page_of
  more_past h l =
      let n : length (drop start done) ≡ length done - start = length-drop start done in
      rw (from h, take-append-le (length out) (drop start done) (x ∷ []) (omega arith))

  penned_more : penned (done ++ (x ∷ [])) start out ≡ stored start (length done) x (penned done start out)
  penned_more = go (dec_lt (length done) start) (dec_lt (length done - start) (length out))
    where
      go : Dec (length done < start) → Dec (length done - start < length out)
          → penned (done ++ (x ∷ [])) start out ≡ stored start (length done) x (penned done start out)
      go (yes h) d = more_before h ∙ stored_before start (length done) x (penned done start out) h
      go (no h) (yes l) = more_within (omega arith) l ∙ stored_within start (length done) x (penned done start out) (omega arith)
      go (no h) (no l) =
          more_past (omega arith) (omega arith) ∙ stored_past start (length done) x (penned done start out) (omega arith) (omega (arith, penned_length))

-- nothing put, and bits after bits
pub put_none : (sheet : Sheet) → Put [] sheet sheet
put_none sheet = record {
  start = refl;
  same_reference = refl;
  holds = λ bs out0 h. rw append-nil h;
  fits = λ k f. record { room = omega (arith, f.room); in_byte = f.in_byte; holds = f.holds };
}

pub put_both : {a b : List Bool} {p q r : Sheet} → Put a p q → Put b q r → Put (a ++ b) p r
put_both {a} {b} {p} {q} {r} u v = record {
  start = v.start ∙ u.start;
  same_reference = v.same_reference ∙ u.same_reference;
  holds = λ bs out0 h. rw append_assoc at (v.holds (bs ++ a) out0 (u.holds bs out0 h));
  fits = λ k f. v.fits k (u.fits (length b + k) (record { room = omega (arith, f.room, length-append a b); in_byte = f.in_byte; holds = f.holds }));
}

-- the bits gathered and j bits more, as the code shifts them
module _ {k : ℕ} {pen : Pen} (f : PenFits k pen) where
  gathered : (j : ℕ) {b : ℕ} → b < 2 ^ j → pen.value * 2 ^ j + b < 2 ^ (pen.bits + j)
  gathered j h = rw (pow-add 2 pen.bits j) (digits_lt f.holds h)

  shifted : (j : ℕ) → pen.bits + j ≤ 8 → pen.value * 2 ^ j % 65536 ≡ pen.value * 2 ^ j
  shifted j l = shl_exact pen.bits j 16 f.holds (omega arith)

  pub byte_small : (j b : ℕ) → pen.bits + j ≤ 8 → b < 2 ^ j → pen.value * 2 ^ j % 65536 + b < 256
  byte_small j b l h = rw (shifted j l) (omega (arith, gathered j h, pow_mono {i = pen.bits + j} {j = 8} l))

-- the sheet with more bits within a byte
abbrev within : Sheet → List Bool → Sheet
within sheet more =
    let pen = sheet.pen in
    record sheet { pen = record pen { bits = pen.bits + length more; value = pen.value * 2 ^ length more + value more } }

-- the sheet with a byte that more bits made whole
abbrev done : Sheet → List Bool → Sheet
done sheet more =
    let pen = sheet.pen in
    record (with_byte (pen.value * 2 ^ length more + value more) sheet) { pen = record { at = pen.at + 1; bits = 0; value = 0 } }

-- bytes done, with the byte that the bits at hand and more make whole
module _ {bs : List Bool} {out0 : List ℕ} {sheet : Sheet} (h : Holds bs out0 sheet) where
  whole : (more : List Bool) → length bs + length more ≡ 8 * suc (length bs / 8)
      → stored sheet.start sheet.pen.at (value (drop (8 * (length bs / 8)) bs ++ more)) sheet.out.now
      ≡ penned (pack (suc (length bs / 8)) (bs ++ more)) sheet.start out0
  whole more w =
      let k = length bs / 8 in
      let l = length_pack k bs in
      rw (pack_whole k bs more (omega arith) w, penned_more (pack k bs) (value (drop (8 * k) bs ++ more)) sheet.start out0, l, ← h.page, h.at)

  value_all : (more : List Bool) → value (drop (8 * (length bs / 8)) bs ++ more) ≡ sheet.pen.value * 2 ^ length more + value more
  value_all more = rw (value_append (drop (8 * (length bs / 8)) bs) more, h.value)

  -- bits within a byte
  holds_within : (more : List Bool) → sheet.pen.bits + length more < 8 → Holds (bs ++ more) out0 (within sheet more)
  holds_within more few =
      let n : length (bs ++ more) ≡ length bs + length more = length-append bs more in
      let hb = h.bits in
      let q : (length bs + length more) / 8 ≡ length bs / 8 = omega arith in
      let le : 8 * (length bs / 8) ≤ length bs = omega arith in
      record {
        at = rw (n, q) h.at;
        bits = rw n (omega arith);
        value = rw (n, q, drop-append-le (8 * (length bs / 8)) bs more le) (sym (value_all more));
        page = rw (n, q, pack_front (length bs / 8) bs more le) h.page;
      }

  -- bits that make a byte whole
  holds_whole : (more : List Bool) → 0 < length more → sheet.pen.bits + length more ≡ 8 → Holds (bs ++ more) out0 (done sheet more)
  unfolding value
  holds_whole more some full =
      let n : length (bs ++ more) ≡ length bs + length more = length-append bs more in
      let hb = h.bits in
      let q : (length bs + length more) / 8 ≡ suc (length bs / 8) = omega arith in
      let le : length (bs ++ more) ≤ 8 * suc (length bs / 8) = omega arith in
      record {
        at = rw (n, q) (omega (arith, h.at));
        bits = rw n (omega arith);
        value = rw (n, q, drop_of_length-le (bs ++ more) le);
        page = rw (n, q, ← value_all more) (whole more (omega arith));
      }

  -- the fill
  pub fill_more : {j : ℕ} → PenFits j sheet.pen → 0 < sheet.pen.bits
      → stored sheet.start sheet.pen.at (sheet.pen.value * 2 ^ (8 - sheet.pen.bits) % 65536) sheet.out.now ≡ penned (filled bs) sheet.start out0
  fill_more f some =
      let hb = h.bits in
      let left = 8 - sheet.pen.bits in
      let n : length (replicate left false) ≡ left = length-replicate left false in
      let w : length bs + left ≡ 8 * suc (length bs / 8) = omega arith in
      let v : value (drop (8 * (length bs / 8)) bs ++ replicate left false) ≡ sheet.pen.value * 2 ^ left =
      rw (value_all (replicate left false), n, value_zeros left) (omega arith) in
      let g : filled bs ≡ pack (suc (length bs / 8)) (bs ++ replicate left false) = filled_exact bs left (suc (length bs / 8)) w (omega arith) in
      rw (shifted f left (omega arith), g, ← v) (whole (replicate left false) (omega arith))

  pub fill_none : sheet.pen.bits ≡ 0 → sheet.out.now ≡ penned (filled bs) sheet.start out0
  fill_none e =
      let hb = h.bits in
      rw (filled_exact bs 0 (length bs / 8) (omega arith) (omega arith), append-nil bs) h.page

-- bits more, within a byte or to its end
module _ (sheet : Sheet) (more : List Bool) where
  put_within : sheet.pen.bits + length more < 8 → Put more sheet (within sheet more)
  put_within few = record {
    start = refl;
    same_reference = refl;
    holds = λ bs out0 h. holds_within h more few;
    fits = λ k f. record { room = omega (arith, f.room); in_byte = few; holds = gathered f (length more) (value_lt more) };
  }

  put_whole : 0 < length more → sheet.pen.bits + length more ≡ 8 → Put more sheet (done sheet more)
  put_whole some full = record {
    start = refl;
    same_reference = refl;
    holds = λ bs out0 h. holds_whole h more some full;
    fits = λ k f. record { room = omega (arith, f.room); in_byte = omega arith; holds = omega arith };
  }

-- a number in k bits, at most a byte of them, as the code shifts it
module _ {j : ℕ} {pen : Pen} (f : PenFits j pen) (v k : ℕ) (few : k ≤ 8) (small : v < 2 ^ k) where
  -- the bits that its byte wants, and those left
  module _ (many : 8 ≤ pen.bits + k) where
    halves : 8 - pen.bits + (pen.bits + k - 8) ≡ k
    halves = omega (arith, f.in_byte)

    high_small : v / 2 ^ (pen.bits + k - 8) < 2 ^ (8 - pen.bits)
    high_small = shr_lt (8 - pen.bits) (pen.bits + k - 8) (rw halves small)

    pub whole_small : pen.value * 2 ^ (8 - pen.bits) % 65536 + v / 2 ^ (pen.bits + k - 8) < 256
    whole_small = byte_small f (8 - pen.bits) (v / 2 ^ (pen.bits + k - 8)) (omega (arith, f.in_byte)) high_small

    weight : 1 * 2 ^ (pen.bits + k - 8) % 65536 ≡ 2 ^ (pen.bits + k - 8)
    weight = shl_exact 1 (pen.bits + k - 8) 16 (omega arith) (omega (arith, f.in_byte)) ∙ omega arith

    pub weight_some : 0 < 1 * 2 ^ (pen.bits + k - 8) % 65536
    weight_some = rw weight (pow_pos (pen.bits + k - 8))

-- it is put
module _ (sheet : Sheet) {j : ℕ} (f : PenFits j sheet.pen) (v k : ℕ) (few : k ≤ 8) (small : v < 2 ^ k) where
  pub few_within : let pen = sheet.pen in pen.bits + k < 8
      → Put (bits_of k v) sheet (record sheet { pen = record pen { bits = pen.bits + k; value = pen.value * 2 ^ k % 65536 + v } })
  few_within l =
      rw (shifted f k (omega arith)) (rw (length_bits k v, value_bits k v small) at (put_within sheet (bits_of k v) (omega (arith, length_bits k v))))

  pub few_over : let pen = sheet.pen in 8 ≤ pen.bits + k
      → (q : Sheet) → q ≡ with_byte (pen.value * 2 ^ (8 - pen.bits) % 65536 + v / 2 ^ (pen.bits + k - 8)) sheet
      → Put (bits_of k v) sheet
      (record q { pen = record { at = q.pen.at + 1; bits = pen.bits + k - 8; value = v % (1 * 2 ^ (pen.bits + k - 8) % 65536) } })
  few_over many q e =
      let pen = sheet.pen in
      let i = f.in_byte in
      let room = 8 - pen.bits in
      let left = pen.bits + k - 8 in
      let hi = v / 2 ^ left in
      let lo = v % 2 ^ left in
      let n = length_bits room hi in
      let m = length_bits left lo in
      let fit = halves f v k few small many in
      let high = high_small f v k few small many in
      let blank : Pen = record { at = pen.at + 1; bits = 0; value = 0 } in
      let next : Sheet = record (with_byte (pen.value * 2 ^ room + hi) sheet) { pen = blank } in
      let full : Put (bits_of room hi) sheet next =
      rw (n, value_bits room hi high) at (put_whole sheet (bits_of room hi) (omega arith) (omega arith)) in
      let rest = simp (m, value_bits left lo (mod-lt v (pow_pos left)), zero-mul, zero-add) at (put_within next (bits_of left lo) (omega arith)) in
      let b : bits_of k v ≡ bits_of room hi ++ bits_of left lo = ap (λ (n : ℕ). bits_of n v) (sym fit) ∙ bits_split room left v (rw fit small) in
      rw (e, shifted f room (omega arith), weight f v k few small many, b) (put_both full rest)

-- a number in k bits, of which the last eight are a byte
module _ (v k : ℕ) (byte : 8 ≤ k) (small : v < 2 ^ k) where
  upper : k - 8 + 8 ≡ k
  upper = omega arith

  pub upper_small : v / 2 ^ 8 < 2 ^ (k - 8)
  upper_small = shr_lt (k - 8) 8 (rw upper small)

  module _ {p q : Sheet} (u : Put (bits_of (k - 8) (v / 2 ^ 8)) p q) where
    pub number_fits : PenFits k p.pen → PenFits 8 q.pen
    number_fits f = let e : length (bits_of (k - 8) (v / 2 ^ 8)) + 8 ≡ k = omega (arith, length_bits (k - 8) (v / 2 ^ 8)) in u.fits 8 (rw e f)

    pub put_halves : {r : Sheet} → Put (bits_of 8 (v % 256)) q r → Put (bits_of k v) p r
    put_halves w =
        let b : bits_of k v ≡ bits_of (k - 8) (v / 2 ^ 8) ++ bits_of 8 (v % 256) = rw upper at (bits_split (k - 8) 8 v (rw upper small)) in rw b (put_both u w)

-- the code of a symbol
module _ {s : Symbol} where
  pub put_new : s ≡ New → {p r : Sheet} → Put (bits_of 1 0) p r → Put (code (told_symbol s)) p r
  unfolding code bits_of
  put_new e u = rw e u

  pub put_border : s ≡ Border → {p r : Sheet} → Put (bits_of 2 2) p r → Put (code (told_symbol s)) p r
  unfolding code bits_of
  put_border e u = rw e u

  module _ (w : WalkNo) (e : s ≡ Index w) where
    pub index_small : IndexFits s → w.0 < 4096
    index_small h = rw e at h

    pub put_index : IndexFits s → {p r : Sheet} → Put (bits_of 14 (3 * 4096 + w.0)) p r → Put (code (told_symbol s)) p r
    unfolding code bits_of
    put_index h u = rw e (rw (← bits_join 2 12 3 w.0 (omega arith) (index_small h)) at u)

-- a pen at the start of a stream
pub holds_start : (start : ℕ) (out : MutBor (List ℕ)) → Holds [] out.now (blank_sheet start out)
unfolding value pack penned page_of
holds_start start out = record { at = refl; bits = refl; value = refl; page = rw (drop-nil {A = ℕ} start, take-nil {A = ℕ} (length out.now)) }
