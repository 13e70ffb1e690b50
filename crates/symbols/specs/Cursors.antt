-- What a cursor stands for: the bits at hand, and what taking a symbol from them tells.
use Rattle.std.specs.Prelude.{ℕ, ◌-◌, ◌^◌, ◌≤◌, ◌<◌, ◌≡◌, Bool, true, List, ◌++◌, length, drop, Result, Ok, Err}
use Rattle.rules.specs.Stream.{bits_of, unpack}
use Rattle.rules.specs.Stream as stream
use Rattle.rules.specs.Session.{begins}
use Rattle.rules.specs.Symbols.{told_symbol}
use Rattle.symbols.specs.declared.Cursor.{Cursor}
use Rattle.symbols.specs.declared.Taken.{Taken}
use Rattle.symbols.specs.declared.Short.{Short}

-- the bits at hand: those that wait, then the page's from the cursor on
unfoldable pub at_hand : Cursor → List ℕ → List Bool
at_hand c page = bits_of c.waiting c.value ++ drop c.bit (unpack (drop c.at page))

-- at most 13 bits wait, they hold their value, and the cursor is within the page
pub record CursorFits (c : Cursor) (page : List ℕ) : Type 0 where
  pub few : c.waiting ≤ 13
  pub holds : c.value < 2 ^ c.waiting
  pub within : c.at ≤ length page
  pub in_byte : c.bit < 8

-- the cursor d past k bits from c fits, of the bits that waited k are gone, and those after the k are at hand
pub record Past (k : ℕ) (c d : Cursor) (page : List ℕ) : Type 0 where
  pub fits : CursorFits d page
  pub gone : d.waiting ≡ c.waiting - k
  pub left : at_hand d page ≡ drop k (at_hand c page)

-- a symbol told, and the bits at hand after it
unfoldable pub told : Result Taken Short → List ℕ → stream.Taken
told (Err k) page = stream.Taken.short k.0
told (Ok x) page = stream.Taken.symbol (told_symbol x.symbol) (at_hand x.cursor page)

-- the cursor d past a symbol from c fits, and if the bits that waited begin a symbol, none waits any more
pub record PastCode (c d : Cursor) (page : List ℕ) : Type 0 where
  pub fits : CursorFits d page
  pub used : begins (bits_of c.waiting c.value) ≡ true → d.waiting ≡ 0

-- the cursor past a symbol, if there is one
unfoldable pub PastSymbol : Result Taken Short → Cursor → List ℕ → Type 0
PastSymbol (Err k) c page = Unit
PastSymbol (Ok x) c page = PastCode c x.cursor page

-- a symbol was taken from the bits at hand
pub record SymbolTaken (r : Result Taken Short) (c : Cursor) (page : List ℕ) : Type 0 where
  pub tells : told r page ≡ stream.take_symbol (at_hand c page)
  pub past : PastSymbol r c page
