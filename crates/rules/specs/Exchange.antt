-- Document 02, E10, "Tables by dart": the tables of one layout with places exchanged to those of another, and what the answers then say: only the places of
-- 6 and 7 are positions.
use Rattle.std.specs.Prelude.{ℕ, suc, ◌/◌, ◌%◌, List, [], ◌∷◌, cond, length, get_or, ltb}
use Rattle.rules.specs.declared.CheckAnswer.{CheckAnswer}
use Rattle.rules.specs.declared.WriteAnswer.{WriteAnswer}
use Rattle.rules.specs.declared.ReportAnswer.{ReportAnswer}
use Rattle.rules.specs.Lists.{list_of}
use Rattle.rules.specs.Map.{Layout, by_rank, by_dart, mark, size, place}
use Rattle.rules.specs.Refusals.{among}
use Rattle.rules.specs.Check.{Verdict}

-- the rank of the link at a position
unfoldable pub rank_at : Layout → ℕ → ℕ → ℕ → ℕ
rank_at by_rank N n p = p / n
rank_at by_dart N n p = p % suc N

-- its dart
unfoldable pub dart_at : Layout → ℕ → ℕ → ℕ → ℕ
dart_at by_rank N n p = p % n
dart_at by_dart N n p = p / suc N

-- where the link at a position of the first layout stands in the second; what is past the (N+1)·n entries stays
unfoldable pub moved_place : Layout → Layout → ℕ → ℕ → ℕ → ℕ
moved_place Y Z N n p = cond (ltb p (size N n)) (place Z N n (rank_at Y N n p) (dart_at Y N n p)) p

-- the tables of the first layout with places exchanged to those of the second: each link at its new place, past entries as they were
unfoldable pub exchanged : Layout → Layout → ℕ → ℕ → List ℕ → List ℕ
exchanged Y Z N n t = list_of (length t) (λ p. get_or t (moved_place Z Y N n p) mark)

-- a refusal's place: that of 6 and 7 is a link's position, the others are none
unfoldable pub refusal_place : Layout → Layout → ℕ → ℕ → ℕ → ℕ → ℕ
refusal_place Y Z N n nr p = cond (among (6 ∷ 7 ∷ []) nr) (moved_place Y Z N n p) p

-- a verdict of the first layout in the second
unfoldable pub moved_verdict : Layout → Layout → ℕ → ℕ → Verdict → Verdict
moved_verdict Y Z N n Verdict.fine = Verdict.fine
moved_verdict Y Z N n (Verdict.refused nr p) = Verdict.refused nr (refusal_place Y Z N n nr p)

-- the check's answer
unfoldable pub moved_check : Layout → Layout → ℕ → ℕ → CheckAnswer → CheckAnswer
moved_check Y Z N n a = record { number = a.number; place = refusal_place Y Z N n a.number a.place }

-- the writer's
unfoldable pub moved_write : Layout → Layout → ℕ → ℕ → WriteAnswer → WriteAnswer
moved_write Y Z N n a = record { number = a.number; place = refusal_place Y Z N n a.number a.place; written = a.written; length = a.length }

-- the report's
unfoldable pub moved_report : Layout → Layout → ℕ → ℕ → ReportAnswer → ReportAnswer
moved_report Y Z N n a = record {
  number = a.number;
  place = refusal_place Y Z N n a.number a.place;
  cells = a.cells;
  free = a.free;
  orientable = a.orientable;
}
