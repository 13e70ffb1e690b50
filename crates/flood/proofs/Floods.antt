-- Laws of the flood, for any ranks kept, one turn of a loop at a time. Rests on Sets and Queues.
use Prim.Native.Nat.{ℕ, ◌+◌, ◌-◌, ◌≤◌, ◌<◌}
use mathlib.Core.Path.{◌≡◌, sym, ◌∙◌}
use mathlib.Core.Logic.{◌≢◌, ◌⊎◌, inl, inr}
use mathlib.Core.Bool.{Bool, true, ◌||◌}
use mathlib.Core.List.{List}
use native.Mathlib.Omega.{arith}
use native.Mathlib.Decide.{ℕ_discrete}
use lib.ListN.{get_or}
use Rattle.rules.specs.Map.{by_dart, link, Reached}
use Rattle.rules.proofs.Lists.{or_cases, or_left, or_right}
use Rattle.flood.specs.declared.Ranks.{Ranks}
use Rattle.flood.specs.Flood.{kept, between, Marked, queued, entered_room, entered_tail, IsQueue, Extended, Linked, Traced, Around, Explored}
use Rattle.flood.specs.Flood.{LinksInside, OrbitInside, SpreadFrom, Flooding, Flooded}
use Rattle.flood.proofs.Sets.{between_yes, between_none, between_only, kept_runs}
use Rattle.flood.proofs.Queues.{Entered, extended_refl, extended_marked, extended_trans, extended_class, extended_place, queue_parts, entry}

-- links go on from a dart to another, more ranks keep them, and every class is 0 or 1
pub linked_trans : {keep : ℕ → Bool} {N n : ℕ} {t : List ℕ} {d c e m f k : ℕ} → Linked keep N n t d c e m → Linked keep N n t e m f k
    → Linked keep N n t d c f k
linked_trans r Linked.here = r
linked_trans r (Linked.onward i h k ne s) = Linked.onward i h k ne (linked_trans r s)

pub linked_wider : {keep keep' : ℕ → Bool} {N n : ℕ} {t : List ℕ} {d c e m : ℕ} → ((i : ℕ) → i ≤ N → keep i ≡ true → keep' i ≡ true)
    → Linked keep N n t d c e m → Linked keep' N n t d c e m
linked_wider f Linked.here = Linked.here
linked_wider f (Linked.onward i h k ne r) = Linked.onward i h (f i h k) ne (linked_wider f r)

pub linked_two : {keep : ℕ → Bool} {N n : ℕ} {t : List ℕ} {d c e m : ℕ} → c < 2 → Linked keep N n t d c e m → m < 2
linked_two l Linked.here = l
linked_two l (Linked.onward i h k ne r) = omega arith

pub linked_reached : {keep : ℕ → Bool} {N n : ℕ} {t : List ℕ} {d c e m : ℕ} → Linked keep N n t d c e m → Reached by_dart keep N n t d e
linked_reached Linked.here = Reached.here
linked_reached (Linked.onward i h k ne r) = Reached.onward i h k (linked_reached r)

-- what leads to marked darts goes on to do so
module _ (keep : ℕ → Bool) (N n : ℕ) (t : List ℕ) {tail tail' : ℕ} {w w' : List ℕ} (E : Extended n tail tail' w w') where
  around_on : (d : ℕ) → Around keep N n t d w → Around keep N n t d w'
  around_on d A i hi k = let (l, m) = A i hi k in (l, extended_marked E l m)

  pub explored_on : (from to : ℕ) → to ≤ tail → Explored keep N n t from to w → Explored keep N n t from to w'
  explored_on from to h S p hf ht = rw (E.places p (omega arith)) (around_on (queued n w p) (S p hf ht))

-- each of the two runs is of the set
module _ (ranks : Ranks) (N n : ℕ) (t : List ℕ) (d : ℕ) (L : LinksInside (kept ranks) N n t d) where
  pub inside_low : LinksInside (between 0 ranks.low) N n t d
  inside_low i h k = L i h (kept_runs ranks N i h ∙ or_left (between 0 ranks.low i) (between ranks.high (N + 1) i) k)

  pub inside_high : LinksInside (between ranks.high (N + 1)) N n t d
  inside_high i h k = L i h (kept_runs ranks N i h ∙ or_right (between 0 ranks.low i) (between ranks.high (N + 1) i) k)

-- the queue is no shorter once a start has come up
pub entered_later : {n start class tail tail' : ℕ} {w w' : List ℕ} → IsQueue n tail w → start < n → class < 2
    → tail' ≡ entered_tail w tail start → w' ≡ entered_room n w tail start class → tail ≤ tail'
entered_later {n} {start} {class} {tail} {tail'} {w} {w'} Q hs hc et ew =
    let E : Entered n start class tail tail' w w' = rw (et, ew) (entry Q hs hc) in
    E.on.longer

module _ {N n : ℕ} {t : List ℕ} where
  -- what was traced stays so
  traced_on : {keep : ℕ → Bool} {d c from to tail tail' : ℕ} {w w' : List ℕ} → IsQueue n tail w → Extended n tail tail' w w' → to ≤ tail
      → Traced keep N n t d c from to w → Traced keep N n t d c from to w'
  traced_on Q E h T p hf ht = rw (extended_place E p Q (omega arith), E.places p (omega arith)) (T p hf ht)

  -- no rank
  pub spread_none : (from : ℕ) {d tail : ℕ} {w : List ℕ} → IsQueue n tail w → SpreadFrom (between from from) N n t d tail tail w w
  spread_none from Q = record { on = extended_refl Q; traced = λ p h k. absurd (omega arith); around = λ i h k. absurd (between_none from i k) }

  -- one rank, as the code does it
  pub spread_one : {rank tail d class tail' : ℕ} {w w' : List ℕ} → IsQueue n tail w → rank ≤ N → link by_dart N n t rank d < n → get_or w d 0 < 2
      → class ≡ 1 - get_or w d 0 → tail' ≡ entered_tail w tail (link by_dart N n t rank d) → w' ≡ entered_room n w tail (link by_dart N n t rank d) class
      → SpreadFrom (between rank (rank + 1)) N n t d tail tail' w w'
  spread_one {rank} {tail} {d} {class} {tail'} {w} {w'} Q hr hl h2 ec et ew = record { on = E.on; traced = traced; around = around }
    where
      E : Entered n (link by_dart N n t rank d) class tail tail' w w'
      E = rw (et, ew) (entry Q hl (omega arith))

      -- what is new has the other class, so it is another dart
      joins : (p : ℕ) → queued n w' p ≡ link by_dart N n t rank d → get_or w' (queued n w' p) 0 ≡ class → link by_dart N n t rank d ≢ d
      joins p a b z =
          let same = extended_class E.on (rw z at hl) h2 in
          let other = rw (a, z) at b in
          omega arith

      traced : Traced (between rank (rank + 1)) N n t d (get_or w d 0) tail tail' w'
      traced p h k =
          let (a, b) = E.only p h k in
          rw (b, a, ec) (Linked.onward rank hr (between_yes rank (rank + 1) rank (omega arith) (omega arith)) (joins p a b) Linked.here)

      around : Around (between rank (rank + 1)) N n t d w'
      around i h k = let e : i ≡ rank = between_only rank i k in rw e (hl, E.marked)

  -- two sets of ranks, one after the other
  pub spread_join : {one other whole : ℕ → Bool} {d a b c : ℕ} {w w' w'' : List ℕ} → d < n → get_or w d 0 < 2
      → ((i : ℕ) → i ≤ N → whole i ≡ (one i || other i)) → SpreadFrom one N n t d a b w w' → SpreadFrom other N n t d b c w' w''
      → SpreadFrom whole N n t d a c w w''
  spread_join {one} {other} {whole} {d} {a} {b} {c} {w} {w'} {w''} hd h2 union S T =
      record { on = extended_trans S.on T.on; traced = queue_parts P old new; around = around }
    where
      P : ℕ → Type 0
      P p = Linked whole N n t d (get_or w d 0) (queued n w'' p) (get_or w'' (queued n w'' p) 0)

      old : (p : ℕ) → a ≤ p → p < b → P p
      old p h k = linked_wider (λ i l e. union i l ∙ or_left (one i) (other i) e) (traced_on S.on.queue T.on (omega arith) S.traced p h k)

      new : (p : ℕ) → b ≤ p → p < c → P p
      new p h k = rw (← extended_class S.on hd h2) (linked_wider (λ i l e. union i l ∙ or_right (one i) (other i) e) (T.traced p h k))

      around : Around whole N n t d w''
      around i h k = go (or_cases (one i) (other i) (sym (union i h) ∙ k))
        where
          go : (one i ≡ true) ⊎ (other i ≡ true) → (link by_dart N n t i d < n) × Marked w'' (link by_dart N n t i d)
          go (inl e) = around_on one N n t T.on d S.around i h e
          go (inr e) = T.around i h e

  -- the same ranks by another test
  pub spread_same : {keep keep' : ℕ → Bool} {d tail tail' : ℕ} {w w' : List ℕ} → ((i : ℕ) → i ≤ N → keep' i ≡ keep i)
      → SpreadFrom keep N n t d tail tail' w w' → SpreadFrom keep' N n t d tail tail' w w'
  spread_same f S = record {
    on = S.on;
    traced = λ p h k. linked_wider (λ i l e. f i l ∙ e) (S.traced p h k);
    around = λ i h k. S.around i h (sym (f i h) ∙ k);
  }

  -- the start has come up
  pub flooding_start : {keep : ℕ → Bool} {start class tail tail' : ℕ} {w w' : List ℕ} → IsQueue n tail w → start < n → class < 2
      → tail' ≡ entered_tail w tail start → w' ≡ entered_room n w tail start class → Flooding keep N n t start class tail tail' tail tail' w' w'
  flooding_start {keep} {start} {class} {tail} {tail'} {w} {w'} Q hs hc et ew = record {
    on = extended_refl E.on.queue;
    begun = omega arith;
    traced = λ p h k. let (a, b) = E.only p h k in rw (b, a) Linked.here;
    explored = λ p h k. absurd (omega arith);
  }
    where
      E : Entered n start class tail tail' w w'
      E = rw (et, ew) (entry Q hs hc)

  module _ {keep : ℕ → Bool} {start class tail tail' head end : ℕ} {w w' : List ℕ} (F : Flooding keep N n t start class tail tail' head end w w') where
    -- the links of the dart at the head lead to darts
    pub flooding_inside : OrbitInside keep N n t start → head < end → LinksInside keep N n t (queued n w' head)
    flooding_inside O h i hi k = O (link by_dart N n t i (queued n w' head)) (Reached.onward i hi k (linked_reached (F.traced head F.begun h)))

    -- it has been spread from
    pub flooding_next : {end' : ℕ} {w'' : List ℕ} → head < end → SpreadFrom keep N n t (queued n w' head) end end' w' w''
        → Flooding keep N n t start class tail tail' (head + 1) end' w w''
    flooding_next {end'} {w''} h S = record {
      on = extended_trans F.on S.on;
      begun = omega (arith, F.begun);
      traced = queue_parts P old new;
      explored = explored;
    }
      where
        P : ℕ → Type 0
        P p = Linked keep N n t start class (queued n w'' p) (get_or w'' (queued n w'' p) 0)

        old : (p : ℕ) → tail ≤ p → p < end → P p
        old = traced_on F.on.queue S.on (omega arith) F.traced

        new : (p : ℕ) → end ≤ p → p < end' → P p
        new p hf ht = linked_trans (F.traced head F.begun h) (S.traced p hf ht)

        explored : Explored keep N n t tail (head + 1) w''
        explored p hf ht = go (ℕ_discrete p head)
          where
            go : Dec (p ≡ head) → Around keep N n t (queued n w'' p) w''
            go (yes e) = rw (e, S.on.places head h) S.around
            go (no e) = explored_on keep N n t S.on tail head (omega arith) F.explored p hf (omega arith)

    -- the head has come to the queue's end
    pub flooding_over : tail ≤ tail' → end ≤ head → Flooding keep N n t start class tail tail' end end w w'
    flooding_over l h = record {
      on = F.on;
      begun = omega (arith, F.on.longer);
      traced = F.traced;
      explored = λ p hf ht. F.explored p hf (omega arith);
    }

    pub flooding_end : {w₀ : List ℕ} → tail' ≡ entered_tail w₀ tail start → w ≡ entered_room n w₀ tail start class → end ≤ head
        → Flooded keep N n t start class tail end w₀ w'
    flooding_end et ew h = record { on = rw (← et, ← ew) F.on; traced = F.traced; explored = λ p hf ht. F.explored p hf (omega arith) }
