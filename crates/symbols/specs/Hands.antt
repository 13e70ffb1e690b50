-- What a hand stands for: the first bits at hand as one number, the page's bits after them, and how many bits a symbol has.
use Rattle.std.specs.Prelude.{ℕ, ◌+◌, ◌*◌, ◌-◌, ◌^◌, ◌≤◌, ◌<◌, ◌≡◌, Bool, true, false, List, [], ◌∷◌, ◌++◌, length, get_or, take, drop, Option, Some, None, Ok}
use Rattle.rules.specs.Stream.{bits_of, value, unpack, code}
use Rattle.rules.specs.Symbols.{told_symbol}
use Rattle.symbols.specs.declared.Cursor.{Cursor}
use Rattle.symbols.specs.declared.Hand.{Hand}
use Rattle.symbols.specs.declared.Taken.{Taken}
use Rattle.symbols.specs.Cursors.{at_hand, CursorFits, SymbolTaken}

-- how many bits a symbol that begins with these has at least
unfoldable pub size : List Bool → ℕ
size [] = 1
size (false ∷ bs) = 1
size (true ∷ []) = 2
size (true ∷ false ∷ bs) = 2
size (true ∷ true ∷ bs) = 14

-- how many of at most 13 bits are a whole symbol, which is N or B, or none
unfoldable pub whole : List Bool → ℕ
whole [] = 0
whole (false ∷ bs) = 1
whole (true ∷ []) = 0
whole (true ∷ false ∷ bs) = 2
whole (true ∷ true ∷ bs) = 0

-- the hand before the byte at p that holds no bit
abbrev pub none : ℕ → Hand
none p = record { bits = 0; head = 0; at = p }

-- the bits that a hand holds
unfoldable pub held : Hand → List Bool
held h = take h.bits (bits_of 24 h.head)

-- a hand holds at most 24 bits, the others of its 24 are zeros, and it stands within the page
pub record HandFits (h : Hand) (page : List ℕ) : Type 0 where
  pub few : h.bits ≤ 24
  pub number : h.head ≡ value (held h) * 2 ^ (24 - h.bits)
  pub within : h.at ≤ length page

-- the hand g holds the bits of the page's next byte, from bit b of it on, after those of h
pub record Loads (b : ℕ) (h g : Hand) (page : List ℕ) : Type 0 where
  pub fits : HandFits g page
  pub held : held g ≡ held h ++ drop b (bits_of 8 (get_or page h.at 0))
  pub more : g.bits + b ≡ h.bits + 8
  pub at : g.at ≡ h.at + 1

-- the hand g holds the bits of h, then those of k, and stands where k does
pub record Joins (h k g : Hand) (page : List ℕ) : Type 0 where
  pub fits : HandFits g page
  pub held : held g ≡ held h ++ held k
  pub more : g.bits ≡ h.bits + k.bits
  pub at : g.at ≡ k.at

-- the hand h holds the bits that wait at the cursor c
pub record Holds (c : Cursor) (h : Hand) (page : List ℕ) : Type 0 where
  pub fits : HandFits h page
  pub held : held h ≡ bits_of c.waiting c.value
  pub bits : h.bits ≡ c.waiting

-- the page's bits from a cursor on: those that a hand holds, then those from where it stands
abbrev pub Ahead : Cursor → Hand → List ℕ → Type 0
Ahead c h page = drop c.bit (unpack (drop c.at page)) ≡ held h ++ unpack (drop h.at page)

-- the hand h holds the first of the bits at hand at the cursor c, and those after them are the page's from where it stands
pub record InHand (c : Cursor) (h : Hand) (page : List ℕ) : Type 0 where
  pub fits : HandFits h page
  pub same : at_hand c page ≡ held h ++ unpack (drop h.at page)

-- a byte was loaded, and no byte that the symbol does not lie in: without the last one it has bits to come
pub record Needed (h : Hand) : Type 0 where
  pub some : 1 ≤ h.bits
  pub loaded : 1 ≤ h.at
  pub last : h.bits < size (held h) + 8

-- the hand h holds the bits from the cursor c on, up to the byte where it stands, and the symbol is longer than the bits that wait
pub record Reads (c : Cursor) (h : Hand) (page : List ℕ) : Type 0 where
  pub in_hand : InHand c h page
  pub up_to : 8 * h.at + c.waiting ≡ 8 * c.at + c.bit + h.bits
  pub longer : c.waiting < size (held h)

-- the hand g holds the bits of h and of bytes that the symbol needed
pub record Grown (h g : Hand) (page : List ℕ) : Type 0 where
  pub fits : HandFits g page
  pub needed : Needed g
  pub sized : size (held h) ≤ size (held g)
  pub reads : (c : Cursor) → Reads c h page → Reads c g page

-- the symbol is the one that the bits that wait hold whole, if they hold one, and is the next, whatever the page
unfoldable pub WholeTaken : Option Taken → Cursor → Type 0
WholeTaken None c = whole (bits_of c.waiting c.value) ≡ 0
WholeTaken (Some x) c =
    (length (code (told_symbol x.symbol)) ≡ whole (bits_of c.waiting c.value)) × ((page : List ℕ) → CursorFits c page → SymbolTaken (Ok x) c page)
