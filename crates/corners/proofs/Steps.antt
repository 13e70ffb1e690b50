-- Laws of the steps from corner to corner: what the code makes is the definition's; positions after some corners, and the faces that have ended.
use Prim.Native.Nat.{ℕ, zero, suc, ◌+◌, ◌-◌, ◌≤◌, ◌<◌}
use mathlib.Core.Path.{◌≡◌, refl, ap, sym, ◌∙◌}
use mathlib.Core.List.{List}
use mathlib.Core.Bool.{Bool, true, false, cond}
use native.Mathlib.Omega.{arith}
use lib.Dec.{eqb, leb}
use borrow.Author.Tests.{eq-eqb, le-leb, lt-leb}
use Rattle.rules.specs.Lists.{count_below}
use Rattle.shapes.specs.Text.{line_end, Read, bad, good, number}
use Rattle.text.specs.Leaves.{Got, known_of}
use Rattle.text.proofs.Numerals.{number_small}
use Rattle.corners.specs.Steps.{Spot, Turn, known, begun, opened_by, opened_of, step_by, step_of, position_after, step_at, last_at}

-- a position whose vertices have nine digits at most
pub record Small (c : Spot) : Type 0 where
  pub own : c.own < 1000000000
  pub first : c.first < 1000000000

pub small_begun : (p : ℕ) → Small (begun p)
unfolding begun
small_begun p = record { own = omega arith; first = omega arith }

module _ (t : List ℕ) where
  -- what the code makes is the definition's
  pub opened_new : (c : Spot) (k v : Got) → c.left ≡ 0 → k ≡ known t c.at → v ≡ known t k.after
      → record { at = v.after; left = k.value; first = v.value; own = v.value } ≡ opened_of t c
  unfolding opened_of opened_by
  opened_new c k v e ek ev = rw (eq-eqb c.left 0 e, ev, ek)

  pub step_last : (c o n : Spot) (r : ℕ) → o ≡ opened_of t c → o.left ≤ 1 → r ≡ line_end t o.at → n ≡ begun r
      → record { own = o.own; far = o.first; left = 1; next = n } ≡ step_of t c
  unfolding step_of step_by
  step_last c o n r eo h er en = rw (← eo, le-leb o.left 1 h, en, er)

  pub step_on : (c o : Spot) (v : Got) → o ≡ opened_of t c → 1 < o.left → v ≡ known t o.at
      → record { own = o.own; far = v.value; left = o.left; next = record { at = v.after; left = o.left - 1; first = o.first; own = v.value } }
      ≡ step_of t c
  unfolding step_of step_by
  step_on c o v eo h ev = rw (← eo, lt-leb o.left 1 h, ev)

  -- one step more at the end
  pub position_step : (k : ℕ) (c : Spot) → position_after t (k + 1) c ≡ (step_at t c k).next
  unfolding position_after step_at
  position_step zero c = refl
  position_step (suc k) c = let z : suc k + 1 ≡ suc (k + 1) = omega arith in rw z (position_step k (step_of t c).next)

  -- after some corners, others
  pub position_join : (j k : ℕ) (c : Spot) → position_after t (j + k) c ≡ position_after t k (position_after t j c)
  unfolding position_after
  position_join zero k c = let z : 0 + k ≡ k = omega arith in rw z
  position_join (suc j) k c = let z : suc j + k ≡ suc (j + k) = omega arith in rw z (position_join j k (step_of t c).next)

  -- the faces ended before the k-th corner
  pub record Ended (c : Spot) (k face : ℕ) (p : Spot) : Type 0 where
    pub position : p ≡ position_after t k c
    pub most : face ≤ k
    pub faces : face ≡ count_below k (last_at t c)

  pub ended_start : (c : Spot) → Ended c 0 0 c
  unfolding position_after count_below
  ended_start c = record { position = refl; most = omega arith; faces = refl }

  pub ended_next : {c : Spot} {k face : ℕ} {p : Spot} → Ended c k face p → (s : Turn) (r : ℕ) → s ≡ step_of t p → r ≡ face + cond (leb s.left 1) 1 0
      → Ended c (k + 1) r s.next
  unfolding step_at last_at count_below
  ended_next {c} {k} {face} {p} e s r es er =
      let z : k + 1 ≡ suc k = omega arith in
      let w : s ≡ step_at t c k = es ∙ ap (step_of t) e.position in
      record {
        position = ap (λ (x : Turn). x.next) w ∙ sym (position_step k c);
        most = omega (arith, er, one (leb s.left 1), e.most);
        faces = er ∙ (rw (e.faces, w) (rw z (swap (count_below k (last_at t c)) (cond (leb (step_at t c k).left 1) 1 0))));
      }
    where
      one : (b : Bool) → cond b 1 0 ≤ 1
      one true = omega arith
      one false = omega arith

      swap : (a b : ℕ) → a + b ≡ b + a
      swap a b = omega arith

  -- the vertices that a position holds have nine digits at most, from a face's beginning on
  known_small : (p : ℕ) → (known t p).value < 1000000000
  unfolding known_of
  known_small p = go (number t p) refl
    where
      go : (r : Read ℕ) → number t p ≡ r → (known_of r).value < 1000000000
      go (bad w) e = omega arith
      go (good v x) e = number_small t p v x e

  opened_small : (c : Spot) → Small c → Small (opened_of t c)
  unfolding opened_of opened_by
  opened_small c s = go (eqb c.left 0)
    where
      go : (b : Bool) → Small (opened_by b t c)
      go true = let v = known_small (known t c.at).after in record { own = v; first = v }
      go false = s

  pub small_step : (c : Spot) → Small c → ((step_of t c).own < 1000000000) × ((step_of t c).far < 1000000000) × Small (step_of t c).next
  unfolding step_of step_by begun
  small_step c s = go (leb (opened_of t c).left 1)
    where
      o : Small (opened_of t c)
      o = opened_small c s

      go : (b : Bool) → let x = step_by b t (opened_of t c) in (x.own < 1000000000) × (x.far < 1000000000) × Small x.next
      go true = (o.own, o.first, record { own = omega arith; first = omega arith })
      go false = let v = known_small (opened_of t c).at in (o.own, v, record { own = v; first = o.first })

  pub small_after : (k : ℕ) (c : Spot) → Small c → Small (position_after t k c)
  unfolding position_after
  small_after zero c s = s
  small_after (suc k) c s = small_after k (step_of t c).next (small_step c s).2
