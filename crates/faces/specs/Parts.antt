-- The call for face files taken apart as the code takes it: the plan that 26 lets pass, the sizes, the refusals.
use Rattle.std.specs.Prelude.{ℕ, ◌*◌, ◌≡◌, List, Result, Ok, Err, cond, eqb, ltb}
use Rattle.shapes.specs.declared.FacesAnswer.{FacesAnswer}
use Rattle.rules.specs.declared.Reason.{Reason}
use Rattle.rules.specs.declared.Refusal.{Refusal}
use Rattle.rules.specs.Refusals.{number_of}
use Rattle.rules.specs.Lists.{first}
use Rattle.rules.specs.Map.{by_dart}
use Rattle.shapes.specs.Text.{good}
use Rattle.shapes.specs.Faces.{refusal, faces_answer, faces_tables, faces_work}
use Rattle.survey.specs.Flaws.{Outline, plan}
use Rattle.corners.specs.Steps.{begun}
use Rattle.sides.specs.Sides.{key_at, third_use, Kept}

-- 26 does not refuse the text, and this is its plan
pub record Planned (text : List ℕ) (p : Outline) : Type 0 where
  pub end : ℕ
  pub is : plan text ≡ good p end

-- refusals 2, 3 and 4; tables and work are lengths
unfoldable pub fit_of : ℕ → ℕ → ℕ → Result (Unit {0}) (Refusal ℕ)
fit_of corners tables work =
    cond (eqb corners 0) (Err (record { reason = Reason.Darts; place = 0 }))
    (cond (ltb tables (6 * corners)) (Err (record { reason = Reason.ShortTables; place = 0 }))
    (cond (ltb work (4 * corners)) (Err (record { reason = Reason.ShortWork; place = 0 })) (Ok tt)))

-- the answer where n or a refusal comes out
abbrev pub answer_of : Result ℕ (Refusal ℕ) → FacesAnswer
answer_of (Ok n) = record { number = 0; place = 0; darts = n }
answer_of (Err r) = refusal (number_of r.reason) r.place

-- the answer, the tables and the work room afterwards
pub record Posts (text t work : List ℕ) (r : FacesAnswer) (t' work' : List ℕ) : Type 0 where
  pub answer : r ≡ faces_answer by_dart text t work
  pub tables : t' ≡ faces_tables by_dart text t work
  pub room : work' ≡ faces_work by_dart text t work

-- the text is refused so, whatever is lent, and nothing is changed
pub record Refuses (text : List ℕ) (r : Refusal ℕ) : Type 0 where
  pub is : (t work : List ℕ) → Posts text t work (refusal (number_of r.reason) r.place) t work

-- so ends a call with these rooms for every text of this plan that has no third use before its flaw and of whose corners so much is kept
pub record Settles (p : Outline) (twins owns lefts t work : List ℕ) (r : FacesAnswer) (t' work' : List ℕ) : Type 0 where
  pub is : (text : List ℕ) → Planned text p → first (third_use (key_at text (begun p.start))) p.corners ≡ p.corners
      → Kept text (begun p.start) twins owns lefts p.corners → Posts text t work r t' work'
