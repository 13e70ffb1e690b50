-- Laws of cursors: the first bits at hand, a byte more of them, the cursor past them, and the symbol that they tell. Rests on the laws of hands.
use Prim.Native.Nat.{ℕ, ◌+◌, ◌*◌, ◌-◌, ◌/◌, ◌%◌, ◌≤◌, ◌<◌, ◌^◌, min}
use mathlib.Core.Path.{◌≡◌, refl, ap, sym, ◌∙◌}
use mathlib.Core.Bool.{Bool, true}
use mathlib.Core.List.{List, [], ◌++◌, append_assoc, append-nil}
use native.Mathlib.Omega.{arith}
use native.Mathlib.Nat.{mod-lt}
use lib.ListN.{length, get_or, drop, length-append, drop_of_length-le}
use lib.Seq.{drop-nil, drop-drop, drop-append-le, drop-append-add}
use lib.Pow.{pow_pos, shl_exact}
use Rattle.std.specs.Prelude.{Result, Ok, Err, IsErrAnd}
use Rattle.rules.specs.declared.Symbol.{Symbol}
use Rattle.rules.specs.Stream.{bits_of, unpack, take_symbol}
use Rattle.rules.specs.Stream as stream
use Rattle.rules.specs.Session.{begins}
use Rattle.rules.specs.Symbols.{told_symbol}
use Rattle.rules.proofs.Codes.{length_bits}
use Rattle.symbols.specs.declared.Cursor.{Cursor}
use Rattle.symbols.specs.declared.Hand.{Hand}
use Rattle.symbols.specs.declared.Short.{Short}
use Rattle.symbols.specs.declared.Taken.{Taken}
use Rattle.symbols.specs.Cursors.{at_hand, CursorFits, Past, told, PastSymbol, SymbolTaken}
use Rattle.symbols.specs.Hands.{size, whole, none, held, HandFits, Loads, Joins, Holds, Ahead, InHand, Needed, Reads, Grown}
use Rattle.symbols.proofs.BitLists.{bits_drop, page_loaded, page_moved, size_range, size_grows, size_more, size_short, begins_size, whole_holds, whole_none}
use Rattle.symbols.proofs.Hands.{length_held, none_held, head_size}

-- the weight of the bit before j others, as the code shifts it
pub weight : (j : ℕ) → j ≤ 13 → 1 * 2 ^ j % 65536 ≡ 2 ^ j
weight j h = shl_exact 1 j 16 (omega arith) (omega arith) ∙ omega arith

pub ahead_end : (c : Cursor) (page : List ℕ) → length page ≤ c.at → Ahead c (none c.at) page
unfolding unpack
ahead_end c page e = rw (drop_of_length-le page e, none_held c.at) (drop-nil c.bit)

module _ (c : Cursor) {h : Hand} {page : List ℕ} where
  pub ahead_here : c.at < length page → c.bit < 8 → Loads c.bit (none c.at) h page → Ahead c h page
  ahead_here within in_byte l = rw (l.held, none_held c.at, l.at) (page_loaded page c.at within c.bit in_byte)

  -- all bits at hand, where none waits, and behind those that wait
  pub alone : c.waiting ≡ 0 → HandFits h page → Ahead c h page → InHand c h page
  unfolding at_hand bits_of
  alone zero f a = record { fits = f; same = rw zero a }

  pub behind : {w g : Hand} → Holds c w page → Ahead c h page → Joins w h g page → InHand c g page
  unfolding at_hand
  behind {w} {g} o a j =
      let ws = bits_of c.waiting c.value in
      record { fits = j.fits; same = rw (a, j.held, o.held, j.at) (sym (append_assoc ws (held h) (unpack (drop h.at page)))) }

  -- how a symbol begins in a hand
  module _ (f : CursorFits c page) (within : c.at < length page) (l : Loads c.bit (none c.at) h page) where
    pub here_starts : c.waiting ≡ 0 → Needed h × Reads c h page
    here_starts zero =
        let s = (size_range (held h)).0 in
        let m = l.more in
        let a = l.at in (
          record { some = omega (arith, f.in_byte); loaded = omega arith; last = omega arith },
          record { in_hand = alone zero l.fits (ahead_here within f.in_byte l); up_to = omega arith; longer = omega arith },
        )

    pub behind_starts : {w g : Hand} → c.waiting < size (bits_of c.waiting c.value) → Holds c w page → Joins w h g page → Needed g × Reads c g page
    behind_starts {w} {g} short o j =
        let s : size (bits_of c.waiting c.value) ≤ size (held g) = rw (j.held, o.held) (size_grows (bits_of c.waiting c.value) (held h)) in
        let m = l.more in
        let n = j.more in
        let k = o.bits in
        let a = l.at in
        let b = j.at in (
          record { some = omega (arith, f.in_byte); loaded = omega arith; last = omega arith },
          record { in_hand = behind o (ahead_here within f.in_byte l) j; up_to = omega arith; longer = omega arith },
        )

-- a byte more in a hand
module _ {h g : Hand} {page : List ℕ} (l : Loads 0 h g page) where
  more_size : size (held h) ≤ size (held g)
  more_size = rw l.held (size_grows (held h) (bits_of 8 (get_or page h.at 0)))

  more_needed : Needed h → h.bits < size (held h) → Needed g
  more_needed n k =
      let s = more_size in
      let m = l.more in
      record { some = omega arith; loaded = omega (arith, l.at); last = omega arith }

  pub more_hand : {c : Cursor} → h.at < length page → InHand c h page → InHand c g page
  more_hand {c} within i =
      let x = get_or page h.at 0 in
      record {
        fits = l.fits;
        same = i.same ∙ rw (l.held, l.at, append_assoc (held h) (bits_of 8 x) (unpack (drop (h.at + 1) page))) (ap (λ (r : List Bool). held h ++ r)
            (page_loaded page h.at within 0 (omega arith)));
      }

  more_reads : {c : Cursor} → h.at < length page → Reads c h page → Reads c g page
  more_reads within r =
      let m = l.more in
      let a = l.at in
      let u = r.up_to in
      record { in_hand = more_hand within r.in_hand; up_to = omega arith; longer = omega (arith, more_size, r.longer) }

-- the bits that wait tell as much in a hand
pub head_waits : {c : Cursor} {h : Hand} {page : List ℕ} → Holds c h page → size (bits_of 24 h.head) ≡ size (bits_of c.waiting c.value)
head_waits o = head_size o.fits ∙ ap size o.held

-- a hand after bytes that the symbol needed
pub grown_none : {h : Hand} {page : List ℕ} → HandFits h page → Needed h → Grown h h page
grown_none f n = record { fits = f; needed = n; sized = omega arith; reads = λ c r. r }

pub grown_more : {h g k : Hand} {page : List ℕ} → Grown h g page → g.at < length page → g.bits < size (held g) → Loads 0 g k page → Grown h k page
grown_more o within few l =
    record { fits = l.fits; needed = more_needed l o.needed few; sized = omega (arith, o.sized, more_size l); reads = λ c r. more_reads l within (o.reads c r) }

pub grown_twice : {h g k : Hand} {page : List ℕ} → Grown h g page → Grown g k page → Grown h k page
grown_twice o p = record { fits = p.fits; needed = p.needed; sized = omega (arith, o.sized, p.sized); reads = λ c r. p.reads c (o.reads c r) }

pub grown_wide : {h g : Hand} {page : List ℕ} → Grown h g page → size (held h) ≡ 14 → size (held g) ≡ 14
grown_wide {h} {g} o e = omega (arith, o.sized, (size_range (held g)).1)

-- a hand of fourteen bits that hold a w, after one byte more or two
pub wide_twice : (h g k : Hand) → 2 ≤ h.bits → min 14 (h.bits + 8) ≤ g.bits → min 14 (g.bits + 8) ≤ k.bits → 14 ≤ k.bits
wide_twice h g k some m n = omega arith

-- that the bits run out is handed on
pub short_told : {c : Cursor} {page : List ℕ} {e : Short} (r : Result Taken Short) → IsErrAnd r (λ y. y ≡ e) → SymbolTaken (Err e) c page → SymbolTaken r c page
short_told (Ok x) q s = absurd q
short_told (Err y) q s = rw q s

-- the hand that a symbol is told from stands at most three bytes after the cursor, and at most two where bits wait and the cursor is at a byte's start
module _ {c : Cursor} {h : Hand} {page : List ℕ} (n : Needed h) (r : Reads c h page) where
  pub three_bytes : c.bit < 8 → h.at ≤ c.at + 3
  three_bytes b = omega (arith, n.last, r.up_to, (size_range (held h)).1)

  pub two_bytes : c.bit ≡ 0 → 1 ≤ c.waiting → h.at ≤ c.at + 2
  two_bytes b w = omega (arith, n.last, r.up_to, (size_range (held h)).1)

-- past some of the bits that wait
pub past_some : {c : Cursor} {page : List ℕ} → CursorFits c page → (k : ℕ) (d : Cursor) → k ≤ c.waiting → d.waiting ≡ c.waiting - k
    → d.value ≡ c.value % 2 ^ (c.waiting - k) → d.at ≡ c.at → d.bit ≡ c.bit → Past k c d page
unfolding at_hand
past_some {c} {page} f k d h waiting value at bit =
    let j = c.waiting - k in
    let n : k + j ≡ c.waiting = omega arith in
    let e : drop k (bits_of c.waiting c.value) ≡ bits_of j (c.value % 2 ^ j) = rw n at (bits_drop k j c.value (rw n f.holds)) in
    record {
      fits = record {
        few = omega (arith, f.few);
        holds = rw (waiting, value) (mod-lt c.value (pow_pos j));
        within = rw at f.within;
        in_byte = rw bit f.in_byte;
      };
      gone = waiting;
      left = rw (waiting, value, at, bit, ← e)
          (sym (drop-append-le k (bits_of c.waiting c.value) (drop c.bit (unpack (drop c.at page)))
          (omega (arith, length_bits c.waiting c.value))));
    }

-- past bits of a hand, those that wait among them: the bits left over are those before where it stands
pub past_hand : {c : Cursor} {h : Hand} {page : List ℕ} → Reads c h page → (k : ℕ) (d : Cursor) → c.waiting ≤ k → k ≤ h.bits → h.bits < k + 8 → 1 ≤ h.at
    → d.waiting ≡ 0 → d.value ≡ 0 → d.at ≡ h.at - 1 + (8 + k - h.bits) / 8 → d.bit ≡ (8 + k - h.bits) % 8 → Past k c d page
unfolding at_hand bits_of
past_hand {c} {h} {page} r k d more most near after waiting value at bit =
    let to = c.bit + (k - c.waiting) in
    let w = bits_of c.waiting c.value in
    let u = unpack (drop c.at page) in
    let n : length w + (k - c.waiting) ≡ k = omega (arith, length_bits c.waiting c.value) in
    let e : drop k (w ++ drop c.bit u) ≡ drop to u =
    rw n at (drop-append-add w (drop c.bit u) (k - c.waiting)) ∙ drop-drop (k - c.waiting) c.bit u in
    let a : d.at ≡ c.at + to / 8 = omega (arith, r.up_to) in
    let b : d.bit ≡ to % 8 = omega (arith, r.up_to) in
    record {
      fits = record { few = omega arith; holds = rw (waiting, value) (omega arith); within = omega (arith, r.in_hand.fits.within); in_byte = omega arith };
      gone = omega arith;
      left = rw (waiting, a, b, e) (page_moved page c.at to);
    }

-- what the first bits at hand tell
module _ (c : Cursor) (page : List ℕ) (bs ys : List Bool) (same : at_hand c page ≡ bs ++ ys) where
  -- too few, with k to come, and no more
  told_short : (k : Short) → length bs < size bs → k.0 + length bs ≡ size bs → ys ≡ [] → SymbolTaken (Err k) c page
  unfolding told PastSymbol
  told_short k l m e = record { tells = sym (rw (same, e, append-nil bs) (size_short bs k.0 l m)); past = tt }

  -- a symbol of n bits, with the cursor d past it; the bits that wait are fewer if they begin a symbol
  module _ (n : ℕ) (e : size bs ≡ n) (l : n ≤ length bs) where
    waits_fewer : begins (bits_of c.waiting c.value) ≡ true → c.waiting < n
    unfolding at_hand
    waits_fewer g =
        let q = begins_size (bits_of c.waiting c.value) (drop c.bit (unpack (drop c.at page))) g in
        omega (arith, q, ap size same, size_more bs ys (omega arith), length_bits c.waiting c.value)

    pub told_symbol_lem : (d : Cursor) (s : Symbol) → take_symbol (bs ++ ys) ≡ stream.Taken.symbol (told_symbol s) (drop n (bs ++ ys)) → Past n c d page
        → SymbolTaken (Ok (record { symbol = s; cursor = d })) c page
    unfolding told PastSymbol
    told_symbol_lem d s t p = record { tells = rw (p.left, same) (sym t); past = record { fits = p.fits; used = λ g. omega (arith, p.gone, waits_fewer g) } }

-- the same of the bits in a hand
module _ {c : Cursor} {h : Hand} {page : List ℕ} (i : InHand c h page) where
  pub all_held : length page ≤ h.at → at_hand c page ≡ held h
  unfolding unpack
  all_held e = i.same ∙ rw (drop_of_length-le page e) (append-nil (held h))

  pub held_hand : h.bits ≤ length (at_hand c page)
  held_hand = rw i.same (simp length-append (omega (arith, length_held i.fits)))

  pub hand_short : (k : Short) → h.bits < size (held h) → k.0 + h.bits ≡ size (held h) → length page ≤ h.at → SymbolTaken (Err k) c page
  unfolding unpack
  hand_short k l m e =
      let n = length_held i.fits in
      told_short c page (held h) (unpack (drop h.at page)) i.same k (omega arith) (omega arith) (rw (drop_of_length-le page e))

-- the same of the bits that wait: they hold a whole symbol, or the page has none to add
module _ {c : Cursor} {page : List ℕ} (f : CursorFits c page) where
  pub waits_none : whole (bits_of c.waiting c.value) ≡ 0 → c.waiting < size (bits_of c.waiting c.value)
  waits_none e =
      let ws = bits_of c.waiting c.value in
      let n = length_bits c.waiting c.value in
      omega (arith, whole_none ws (omega (arith, f.few)) e)

  pub waits_short : (k : Short) → c.waiting < size (bits_of c.waiting c.value) → k.0 + c.waiting ≡ size (bits_of c.waiting c.value)
      → length page ≤ c.at → SymbolTaken (Err k) c page
  unfolding at_hand unpack
  waits_short k l m e =
      let ws = bits_of c.waiting c.value in
      let n = length_bits c.waiting c.value in
      told_short c page ws (drop c.bit (unpack (drop c.at page))) refl k (omega arith) (omega arith)
      (rw (drop_of_length-le page e) (drop-nil c.bit))

  pub waits_symbol : (d : Cursor) (s : Symbol) (n : ℕ) → whole (bits_of c.waiting c.value) ≡ n → 1 ≤ n
      → ((bs ys : List Bool) → size bs ≡ n → n ≤ length bs → take_symbol (bs ++ ys) ≡ stream.Taken.symbol (told_symbol s) (drop n (bs ++ ys)))
      → Past n c d page → SymbolTaken (Ok (record { symbol = s; cursor = d })) c page
  unfolding at_hand
  waits_symbol d s n e some t p =
      let ws = bits_of c.waiting c.value in
      let ys = drop c.bit (unpack (drop c.at page)) in
      let w = whole_holds ws (omega arith) in
      let l : n ≤ length ws = omega (arith, w.1) in
      told_symbol_lem c page ws ys refl n (w.0 ∙ e) l d s (t ws ys (w.0 ∙ e) l) p
