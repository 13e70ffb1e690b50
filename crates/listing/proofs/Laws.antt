-- Which text a listing is. Rests on nothing.
use mathlib.Core.Path.{◌≡◌, refl}
use mathlib.Core.Logic.{◌≢◌}
use mathlib.Core.List.{List}
use Prim.Native.Nat.{ℕ}
use borrow.Author.Tests.{eq-eqb, ne_eqb}
use Rattle.rules.specs.declared.ReadAnswer.{ReadAnswer}
use Rattle.rules.specs.declared.ReportAnswer.{ReportAnswer}
use Rattle.listing.specs.Listing.{refusal_line, map_text, text_by, listing}

module _ (a : ReadAnswer) (r : ReportAnswer) (t : List ℕ) where
  pub refused_reading : a.number ≢ 0 → refusal_line a.number a.place ≡ listing a r t
  unfolding listing text_by
  refused_reading h = rw (ne_eqb a.number 0 h) refl

  pub refused_report : a.number ≡ 0 → r.number ≢ 0 → refusal_line r.number r.place ≡ listing a r t
  unfolding listing text_by
  refused_report e h = rw (eq-eqb a.number 0 e, ne_eqb r.number 0 h) refl

  pub read_map : a.number ≡ 0 → r.number ≡ 0 → map_text a.dim a.darts a.steps r.cells r.free r.orientable t ≡ listing a r t
  unfolding listing text_by
  read_map e h = rw (eq-eqb a.number 0 e, eq-eqb r.number 0 h) refl
