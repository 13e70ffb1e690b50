-- One answer: from two answers and two states of the lent rooms that meet the contract of the call for face files, equality.
use mathlib.Core.Path.{◌≡◌}
use mathlib.Core.List.{List}
use Prim.Native.Nat.{ℕ}
use Rattle.rules.specs.Map.{Layout}
use Rattle.rules.proofs.Unique.{one_value}
use Rattle.shapes.specs.declared.FacesAnswer.{FacesAnswer}
use Rattle.shapes.specs.Faces.{faces_answer, faces_tables, faces_work}

pub one_faces : (Y : Layout) (text t work : List ℕ) (a b : FacesAnswer) (u v w x : List ℕ)
    → (a ≡ faces_answer Y text t work) × (u ≡ faces_tables Y text t work) × (w ≡ faces_work Y text t work)
    → (b ≡ faces_answer Y text t work) × (v ≡ faces_tables Y text t work) × (x ≡ faces_work Y text t work) → (a ≡ b) × (u ≡ v) × (w ≡ x)
one_faces Y text t work a b u v w x (p, q, r) (p', q', r') = (one_value _ _ _ p p', one_value _ _ _ q q', one_value _ _ _ r r')
