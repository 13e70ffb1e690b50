-- What the pass over a whole text answers: 26, or where the faces begin and the first of them that 27 or 28 refuses.
use Rattle.std.specs.Prelude.{ℕ, suc, ◌+◌, ◌*◌, List, [], ◌∷◌, cond, length, eqb, leb, Option, Some, None, is_some, Result, Ok, Err}
use Rattle.std.specs.Option.{option_or}
use Rattle.std.specs.Bool.{then_some}
use Rattle.shapes.specs.Text.{Read, bad, good, next, word, keyword, several, face}
use Rattle.shapes.specs.Faces.{Corner, corners_to, large, poor}
use Rattle.rules.specs.declared.Reason.{Reason}
use Rattle.rules.specs.declared.Refusal.{Refusal}
use Rattle.text.specs.declared.Malformed.{Malformed}
use Rattle.text.specs.declared.Sizes.{Sizes}
use Rattle.text.specs.Leaves.{counts}
use Rattle.survey.specs.declared.Fault.{Fault}
use Rattle.survey.specs.declared.Fault.TheVariants.{Large, Poor}
use Rattle.survey.specs.declared.Flaw.{Flaw}
use Rattle.survey.specs.declared.Face.{Face}
use Rattle.survey.specs.declared.Survey.{Survey}
use Rattle.survey.specs.declared.Plan.{Plan}

-- 27 and 28
abbrev pub reason_of : Fault → Reason
reason_of Large = Reason.Vertex
reason_of Poor = Reason.Face

-- what refuses a face
abbrev pub flawed : Flaw → Refusal ℕ
flawed f = record { reason = reason_of f.fault; place = f.face }

-- 27 or 28 of a face
unfoldable pub fault_of : ℕ → List ℕ → Option Fault
fault_of vertices f = cond (large vertices f) (Some Large) (then_some (poor f) Poor)

-- the same with one corner more
unfoldable pub worse_of : Option Fault → ℕ → ℕ → ℕ → Option Fault
worse_of fault vertices own far = cond (leb vertices far) (Some Large) (option_or fault (then_some (eqb own far) Poor))

-- and with several
unfoldable pub worst : ℕ → Option Fault → List Corner → Option Fault
worst vertices fault [] = fault
worst vertices fault (k ∷ ks) = worst vertices (worse_of fault vertices k.own k.far) ks

-- a reading told as this of what is read
unfoldable pub read_as : {A B : Type 0} → (A → B) → Read A → Read B
read_as f (bad w) = bad w
read_as f (good a e) = good (f a) e

-- of the corners after the first, v
unfoldable pub look : ℕ → ℕ → Option Fault → ℕ → List ℕ → Option Fault
look vertices v fault own vs = worst vertices fault (corners_to v 0 (own ∷ vs))

-- of a whole face
abbrev pub sight : ℕ → List ℕ → Face
sight vertices f = record { fault = fault_of vertices f; corners = length f }

-- no flaw, and no corner
unfoldable pub flawless : Survey
flawless = record { flaw = None; corners = 0 }

-- without a flaw so far, with face k
unfoldable pub first_of : ℕ → ℕ → Option Fault → ℕ → Survey
first_of c k None n = record { flaw = None; corners = c + n }
first_of c k (Some x) n = record { flaw = Some (record { fault = x; face = k }); corners = c }

-- with face k
unfoldable pub judged_of : Survey → ℕ → Face → Survey
judged_of s k f = cond (is_some s.flaw) s (first_of s.corners k f.fault f.corners)

-- with the faces from number k on
unfoldable pub flaws_from : ℕ → ℕ → Survey → List (List ℕ) → Survey
flaws_from vertices k s [] = s
flaws_from vertices k s (f ∷ fs) = flaws_from vertices (suc k) (judged_of s k (record { fault = fault_of vertices f; corners = length f })) fs

-- of all faces
unfoldable pub surveyed : ℕ → List (List ℕ) → ℕ → Survey
surveyed vertices fs x = flaws_from vertices 0 flawless fs

-- a plan, with the position where the first face stands
pub record Outline : Type 0 where
  pub start : ℕ
  pub flaw : Option Flaw
  pub corners : ℕ

-- that of a plan
abbrev pub outline : Plan → Outline
outline p = record { start = p.start.at; flaw = p.flaw; corners = p.corners }

-- what is said of a text and its outline, said of a plan
abbrev pub of {ℓ} : {A : Type ℓ} → (List ℕ → Outline → A) → Plan → A
of f p = f p.start.text.now (outline p)

-- the outline of an answer
abbrev pub outlines : Result Plan Malformed → Result Outline Malformed
outlines (Err e) = Err e
outlines (Ok p) = Ok (outline p)

-- faces that begin at u
unfoldable pub plan_of : ℕ → Survey → Outline
plan_of u s = record { start = u; flaw = s.flaw; corners = s.corners }

-- the vertices and the faces after the counts, which end at p
unfoldable pub planned : List ℕ → Sizes → ℕ → Read Outline
planned t c p =
    next (several (word t) (3 * c.vertices) p) (λ ws u. next (several (face t) c.faces u) (λ fs x. good (plan_of u (surveyed c.vertices fs x)) x))

-- the whole text
unfoldable pub plan : List ℕ → Read Outline
plan t = next (keyword t 0) (λ w p. next (counts t p) (λ c q. planned t c q))
