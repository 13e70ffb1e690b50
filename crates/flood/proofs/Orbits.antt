-- What a flood leaves, in the words of the rules: the new darts of the queue are the orbit of its start. Rests on Sets, Floods and the rules' Orbits.
use Prim.Native.Nat.{ℕ, ◌≤◌, ◌<◌}
use mathlib.Core.Path.{◌≡◌, ap, subst, ◌∙◌}
use mathlib.Core.Logic.{◌⊎◌, inl, inr}
use mathlib.Core.Bool.{Bool, true}
use mathlib.Core.List.{List}
use native.Mathlib.Omega.{arith}
use native.Mathlib.Decide.{dec_lt}
use lib.ListN.{get_or}
use Rattle.rules.specs.Map.{by_dart, mark, link, Reached, all_but, Valid}
use Rattle.rules.proofs.Orbits.{valid_closed, reached_below, reached_sym}
use Rattle.flood.specs.declared.Ranks.{Ranks}
use Rattle.flood.specs.Flood.{kept, but_one, Marked, queued, IsQueue, Extended, Linked, Explored, OrbitInside, Flooded, Orbit}
use Rattle.flood.proofs.Sets.{kept_but}
use Rattle.flood.proofs.Queues.{extended_marked, extended_trans, entry}
use Rattle.flood.proofs.Floods.{linked_reached, explored_on}

-- in a valid map all that is reached from a dart is a dart
pub orbit_inside : {keep : ℕ → Bool} {N n d : ℕ} {t : List ℕ} → Valid by_dart N n t → d < n → OrbitInside keep N n t d
orbit_inside v h e r = reached_below (valid_closed v) h r

-- a flood by all ranks but one
pub flooded_but : (skip : ℕ) {ranks : Ranks} {N n : ℕ} {t : List ℕ} {start class tail tail' : ℕ} {w w' : List ℕ} → ranks ≡ but_one skip
    → Flooded (kept ranks) N n t start class tail tail' w w' → Flooded (all_but skip) N n t start class tail tail' w w'
flooded_but skip {ranks} {N} {n} {t} {start} {class} {tail} {tail'} {w} {w'} e F =
    subst (λ keep. Flooded keep N n t start class tail tail' w w') (ap kept e ∙ kept_but skip) F

-- where the whole queue is explored all that is reached from a marked dart is marked
pub reached_marked : {keep : ℕ → Bool} {N n tail d : ℕ} {t w : List ℕ} {e : ℕ} → IsQueue n tail w → Explored keep N n t 0 tail w → d < n → Marked w d
    → Reached by_dart keep N n t d e → (e < n) × Marked w e
reached_marked Q S h m Reached.here = (h, m)
reached_marked Q S h m (Reached.onward {e} i hi k r) =
    let (l, y) = reached_marked Q S h m r in
    let (p, hp, z) = Q.entered e l y in
    rw z at (S p (omega arith) hp i hi k)

-- so nothing is marked of the orbit of a dart that is not
pub orbit_unmarked : {keep : ℕ → Bool} {N n tail d e : ℕ} {t w : List ℕ} → Valid by_dart N n t → IsQueue n tail w → Explored keep N n t 0 tail w → d < n
    → get_or w d 0 ≡ mark → Reached by_dart keep N n t d e → Marked w e → ⊥
orbit_unmarked v Q S h u r m =
    let C = valid_closed v in
    (reached_marked Q S (reached_below C h r) m (reached_sym C h r)).1 u

module _ {keep : ℕ → Bool} {N n : ℕ} {t : List ℕ} {start class tail tail' : ℕ} {w w' : List ℕ}
    (Q : IsQueue n tail w) (hs : start < n) (hc : class < 2) (F : Flooded keep N n t start class tail tail' w w') where
  -- what was there stays, and the start is marked
  pub flooded_on : Extended n tail tail' w w'
  flooded_on = extended_trans (entry Q hs hc).on F.on

  pub flooded_start : Marked w' start
  flooded_start = extended_marked F.on hs (entry Q hs hc).marked

  -- the darts at the old places were marked before
  old_marked : {e : ℕ} (p : ℕ) → p < tail → queued n w' p ≡ e → Marked w e
  old_marked p h z u =
      let x : get_or w (queued n w p) 0 ≡ mark = rw (← flooded_on.places p h, z) u in
      omega (arith, Q.classes p h)

  -- what is marked was marked before or is linked to the start
  pub flooded_cases : (d : ℕ) → d < n → Marked w' d → Marked w d ⊎ Linked keep N n t start class d (get_or w' d 0)
  flooded_cases d h m = let (p, k, z) = flooded_on.queue.entered d h m in go p k z (dec_lt p tail)
    where
      go : (p : ℕ) → p < tail' → queued n w' p ≡ d → Dec (p < tail) → Marked w d ⊎ Linked keep N n t start class d (get_or w' d 0)
      go p k z (yes l) = inl (old_marked p l z)
      go p k z (no l) = inr (rw z at (F.traced p (omega arith) k))

  -- where all that was marked is explored all is
  pub flooded_explored : Explored keep N n t 0 tail w → Explored keep N n t 0 tail' w'
  flooded_explored S p hf ht = go (dec_lt p tail)
    where
      go : Dec (p < tail) → (i : ℕ) → i ≤ N → keep i ≡ true → (link by_dart N n t i (queued n w' p) < n) × Marked w' (link by_dart N n t i (queued n w' p))
      go (yes h) = explored_on keep N n t flooded_on 0 tail (omega arith) S p hf h
      go (no h) = F.explored p (omega arith) ht

  -- where nothing was marked of the start's orbit, the queue from the old end up to the new one is that orbit
  pub flooded_orbit : ((e : ℕ) → Reached by_dart keep N n t start e → Marked w e → ⊥) → Orbit keep N n t start tail tail' w'
  flooded_orbit none = record {
    member = λ p h k. linked_reached (F.traced p h k);
    all = λ e r. let (p, h, k, z, l, m) = found r in (p, h, k, z);
    once = λ p q h k h' k' z. flooded_on.queue.once p q k k' z;
  }
    where
      -- a marked dart of the orbit is new
      new : {e : ℕ} → Reached by_dart keep N n t start e → e < n → Marked w' e → (p : ℕ) × (tail ≤ p) × (p < tail') × (queued n w' p ≡ e) × (e < n)
          × Marked w' e
      new {e} r l m = let (p, k, z) = flooded_on.queue.entered e l m in go p k z (dec_lt p tail)
        where
          go : (p : ℕ) → p < tail' → queued n w' p ≡ e → Dec (p < tail) → (p : ℕ) × (tail ≤ p) × (p < tail') × (queued n w' p ≡ e) × (e < n) × Marked w' e
          go p k z (no h) = (p, omega arith, k, z, l, m)
          go p k z (yes h) = absurd (none e r (old_marked p h z))

      found : {e : ℕ} → Reached by_dart keep N n t start e → (p : ℕ) × (tail ≤ p) × (p < tail') × (queued n w' p ≡ e) × (e < n) × Marked w' e
      found Reached.here = new Reached.here hs flooded_start
      found (Reached.onward i hi k r) =
          let (p, h, l, z, hx, mx) = found r in
          let (a, b) = rw z at (F.explored p h l i hi k) in
          new (Reached.onward i hi k r) a b

  -- so it is in a valid map where what was marked is closed under the ranks kept and the start had no mark
  pub flooded_new : Valid by_dart N n t → Explored keep N n t 0 tail w → get_or w start 0 ≡ mark → Orbit keep N n t start tail tail' w'
  flooded_new v S u = flooded_orbit (λ e r m. orbit_unmarked v Q S hs u r m)
