-- The lowest queue by the count and the positions: the queues below Lj are empty where each of their positions has come to the count, and Lj then holds the
-- walk numbers from its own position up to the count. Rests on Positions.
use Prim.Native.Nat.{ℕ, ◌+◌, ◌≤◌, ◌<◌}
use mathlib.Core.Path.{◌≡◌, refl}
use mathlib.Core.List.{List}
use native.Mathlib.Omega.{arith}
use native.Mathlib.Decide.{ℕ_discrete, dec_lt}
use lib.ListN.{get_or, set}
use lib.Seq.{get_or-set_other}
use Rattle.rules.specs.Walk.{Walk, Head, head}
use Rattle.rules.specs.Inner.{gone, Shape, Emptied}
use Rattle.rules.proofs.Positions.{Turn, bound_le_count, turn, over}

-- no queue is below L0
pub emptied_none : (c : ℕ) (ps : List ℕ) → Emptied c ps 0
emptied_none c ps = record { lower = λ i h. absurd (omega arith) }

-- Lj is empty as well
pub emptied_next : (c : ℕ) (ps : List ℕ) (j : ℕ) → Emptied c ps j → c ≤ get_or ps j 0 → Emptied c ps (j + 1)
emptied_next c ps j E q = record { lower = λ i h. go i h (ℕ_discrete i j) }
  where
    go : (i : ℕ) → i < j + 1 → Dec (i ≡ j) → c ≤ get_or ps i 0
    go i h (yes e) = rw e q
    go i h (no e) = E.lower i (omega arith)

-- a step at Lj leaves those below as they are
pub emptied_passed : (c : ℕ) (ps : List ℕ) (j v : ℕ) → Emptied c ps j → Emptied c (set ps j v) j
emptied_passed c ps j v E = record { lower = λ i h. rw (get_or-set_other ps j i v 0 (omega arith)) (E.lower i h) }

-- the head of the queues: of Lj where those below are empty and Lj isn't, and none where all are empty
module _ (w : Walk) (s : Shape w) (j : ℕ) (E : Emptied w.count w.positions j) where
  pub head_lowest : j ≤ w.dim → get_or w.positions j 0 < w.count → head w ≡ Head.at j (get_or w.positions j 0)
  unfolding gone
  head_lowest hj l = go (head w) refl
    where
      same : (i b : ℕ) → Turn w i b → Dec (i < j) → Dec (j < i) → Head.at i b ≡ Head.at j (get_or w.positions j 0)
      same i b t (yes p) d = absurd (omega (arith, E.lower i p, t.next.first, t.next.there, bound_le_count w s i t.next.ranked))
      same i b t (no p) (yes q) = absurd (omega (arith, t.lower j q))
      same i b t (no p) (no q) = let e : i ≡ j = omega arith in rw (t.next.first, e)

      go : (h : Head) → head w ≡ h → h ≡ Head.at j (get_or w.positions j 0)
      go Head.none o = absurd (omega (arith, over w s o j hj))
      go (Head.at i b) o = same i b (turn w s i b o) (dec_lt i j) (dec_lt j i)

  pub head_past : w.dim < j → head w ≡ Head.none
  unfolding gone
  head_past h = go (head w) refl
    where
      go : (x : Head) → head w ≡ x → x ≡ Head.none
      go Head.none o = refl
      go (Head.at i b) o =
          let t = turn w s i b o in
          absurd (omega (arith, E.lower i (omega (arith, t.next.ranked)), t.next.first, t.next.there, bound_le_count w s i t.next.ranked))
