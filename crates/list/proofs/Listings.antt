-- What the listing of a whole read is: the map's text where the stream is accepted, else the refusal's line. Rests on the rules' Sound and Check.
use Prim.Native.Nat.{ℕ, ◌*◌, ◌≤◌}
use mathlib.Core.Path.{◌≡◌, refl, ap, ◌∙◌}
use mathlib.Core.Logic.{◌≢◌}
use mathlib.Core.List.{List}
use lib.ListN.{length}
use borrow.Author.Tests.{eq-eqb, ne_eqb}
use Rattle.rules.specs.declared.Form.{Form}
use Rattle.rules.specs.Map.{by_dart}
use Rattle.rules.specs.declared.ReadAnswer.{ReadAnswer}
use Rattle.rules.specs.declared.ReportAnswer.{ReportAnswer}
use Rattle.rules.specs.Check.{Verdict, verdict}
use Rattle.rules.specs.Stream.{unpack}
use Rattle.rules.specs.Reading.{header_form, read_answer, read_tables}
use Rattle.rules.specs.Session.{Left, leaves, close, record_for, tables_for}
use Rattle.rules.specs.Report.{cell_counts, free_pairs, orientable, report_answer, report_answer_of}
use Rattle.rules.proofs.Check.{passes_fine}
use Rattle.rules.proofs.Codes.{Bytes}
use Rattle.rules.proofs.Sessions.{close_whole}
use Rattle.rules.proofs.Sound.{sound}
use Rattle.listing.specs.Listing.{refusal_line, map_text, text_by, listing}

module _ (bytes t work : List ℕ) where
  abbrev answer : ReadAnswer
  answer = read_answer by_dart bytes t

  abbrev tables : List ℕ
  tables = read_tables by_dart bytes t

  -- the form that the closed session tells
  abbrev form : Form
  form = (close by_dart (record_for by_dart bytes t) (tables_for by_dart bytes t)).session.form

  abbrev report : ReportAnswer
  report = report_answer form by_dart answer.dim answer.darts tables work

  -- the check passes what a whole read accepts
  fine : Bytes bytes → answer.number ≡ 0 → 2 * answer.darts ≤ length work
      → verdict form by_dart answer.dim answer.darts 0 tables (length work) ≡ Verdict.fine
  fine B e h =
      let a = sound by_dart bytes t B e in
      let f : form ≡ header_form (unpack bytes) = ap (λ (l : Left). l.session.form) (close_whole by_dart bytes t) ∙ (unfold leaves in a.form) in
      rw f (passes_fine (header_form (unpack bytes)) by_dart _ _ _ _ _ (record {
        limits = record { dims = a.limits.dims; darts = a.limits.darts; room = a.room };
        work = h;
        valid = a.valid;
        bodies = a.bodies;
      }))

  -- an accepted stream lists its map, with the map's own cells and free pairs and whether it is orientable
  pub lists_map : Bytes bytes → answer.number ≡ 0 → 2 * answer.darts ≤ length work
      → listing answer report tables ≡ map_text answer.dim answer.darts answer.steps
      (cell_counts by_dart answer.dim answer.darts tables) (free_pairs by_dart answer.dim answer.darts tables)
      (orientable by_dart answer.dim answer.darts tables) tables
  unfolding listing text_by report_answer report_answer_of
  lists_map B e h = rw (fine B e h, eq-eqb answer.number 0 e) refl

  -- a refused one only its refusal
  pub lists_refusal : answer.number ≢ 0 → listing answer report tables ≡ refusal_line answer.number answer.place
  unfolding listing text_by
  lists_refusal h = rw (ne_eqb answer.number 0 h) refl
