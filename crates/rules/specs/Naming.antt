-- Document 02, "Say what is wrong with the index": which of the three causes refuses a w, and the number of each.
use Rattle.std.specs.Prelude.{ℕ, cond, eqb, leb, Result, Ok, Err}
use Rattle.rules.specs.declared.Cause.{Cause}
use Rattle.rules.specs.declared.Cause.TheVariants.{Unnumbered, Itself, Linked}
use Rattle.rules.specs.Walk.{Walk, unknown}

-- a w that names e at the head b of Lj: e is not yet numbered, is the dart itself, is already linked at this rank, tested so; else it is allowed
unfoldable pub naming : Walk → ℕ → ℕ → ℕ → Result (Unit {0}) Cause
naming w j b e =
    cond (leb w.count e) (Err Unnumbered) (
    cond (eqb e b) (Err Itself) (
    cond (unknown w j e) (Ok tt) (Err Linked)))

-- the number of each cause
unfoldable pub cause_number : Cause → ℕ
cause_number Unnumbered = 21
cause_number Itself = 22
cause_number Linked = 23

-- the number of a w; 0 is no refusal
unfoldable pub naming_number : Result (Unit {0}) Cause → ℕ
naming_number (Ok u) = 0
naming_number (Err c) = cause_number c
