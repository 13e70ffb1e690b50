-- A room for text: a text is put at a place, and what stands before and after it stays.
use Rattle.std.specs.Prelude.{ℕ, ◌+◌, ◌≡◌, List, ◌++◌, length, take, drop}

-- the text w from at on, up to r
pub record TextPut (out : List ℕ) (at : ℕ) (w : List ℕ) (after : List ℕ) (r : ℕ) : Type 0 where
  pub ends : r ≡ at + length w
  pub room : length after ≡ length out
  pub text : take r after ≡ take at out ++ w
  pub past : drop r after ≡ drop r out

-- a text at the beginning of a room, then what was there
abbrev pub begun : List ℕ → List ℕ → List ℕ
begun w out = w ++ drop (length w) out
