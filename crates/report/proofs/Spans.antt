-- Laws of marking body after body, each one N-cell after another: one turn of a loop at a time, and what it comes to.
-- Rests on the flood's Orbits and the rules' Cells.
use Prim.Native.Nat.{ℕ, zero, suc, ◌+◌, ◌-◌, ◌≤◌, ◌<◌}
use mathlib.Core.Path.{◌≡◌, refl, ap, sym, ◌∙◌}
use mathlib.Core.Logic.{◌≢◌, ◌⊎◌, inl, inr}
use mathlib.Core.Bool.{true}
use mathlib.Core.List.{List, [], ◌∷◌}
use native.Mathlib.Omega.{arith}
use native.Mathlib.Decide.{ℕ_discrete, dec_lt}
use lib.ListN.{length, get_or}
use Rattle.rules.specs.Map.{by_dart, mark, link, Reached, all_ranks, all_but, Valid}
use Rattle.rules.specs.Report.{Cell, cells}
use Rattle.rules.specs.Inner.{Picks}
use Rattle.rules.proofs.Lists.{pigeonhole}
use Rattle.rules.proofs.Orbits.{valid_closed, reached_sym}
use Rattle.rules.proofs.Cells.{cells_unique}
use Rattle.flood.specs.Flood.{Marked, queued, IsQueue, Extended, Linked, Explored, Flooded}
use Rattle.flood.proofs.Sets.{but_yes}
use Rattle.flood.proofs.Queues.{extended_refl, extended_marked, full_marked}
use Rattle.flood.proofs.Floods.{linked_trans, linked_wider, linked_reached}
use Rattle.flood.proofs.Orbits.{reached_marked, orbit_unmarked, flooded_on, flooded_start, flooded_cases, flooded_explored}
use Rattle.report.specs.Spans.{Begun, Unmarked, Rooted, Spun, Spanned}

ranked : (i : ℕ) → all_ranks i ≡ true
unfolding all_ranks
ranked i = refl

-- a flood by all ranks but N from a dart that has no mark
module _ {N n : ℕ} {t : List ℕ} (v : Valid by_dart N n t) {start class tail tail' : ℕ} {w w' : List ℕ} (Q : IsQueue n tail w) (hs : start < n) (hc : class < 2)
    (u : get_or w start 0 ≡ mark) (F : Flooded (all_but N) N n t start class tail tail' w w') where
  -- marks one N-cell more
  begun_more : {l : List ℕ} → Explored (all_but N) N n t 0 tail w → Picks (λ d. (d < n) × Marked w d) (Cell by_dart N n t N) l
      → Picks (λ d. (d < n) × Marked w' d) (Cell by_dart N n t N) (start ∷ l)
  begun_more {l} S P = record { member = member; all = λ d m. all d m.0 (flooded_cases Q hs hc F d m.0 m.1); once = once }
    where
      member : (p : ℕ) → p < suc (length l) → (get_or (start ∷ l) p 0 < n) × Marked w' (get_or (start ∷ l) p 0)
      member zero h = (hs, flooded_start Q hs hc F)
      member (suc p) h = let (a, m) = P.member p (omega arith) in (a, extended_marked (flooded_on Q hs hc F) a m)

      all : (d : ℕ) → d < n → Marked w d ⊎ Linked (all_but N) N n t start class d (get_or w' d 0)
          → (p : ℕ) × (p < suc (length l)) × Cell by_dart N n t N (get_or (start ∷ l) p 0) d
      all d h (inl m) = let (p, k, r) = P.all d ((h, m)) in (suc p, omega arith, r)
      all d h (inr r) = (0, omega arith, linked_reached r)

      -- no dart marked before is of the new cell
      apart : (p : ℕ) → p < length l → Cell by_dart N n t N (get_or l p 0) start → ⊥
      apart p h r = let (a, m) = P.member p h in (reached_marked Q S a m r).1 u

      once : (p q : ℕ) → p < suc (length l) → q < suc (length l) → Cell by_dart N n t N (get_or (start ∷ l) p 0) (get_or (start ∷ l) q 0) → p ≡ q
      once zero zero h k r = refl
      once zero (suc q) h k r = absurd (apart q (omega arith) (reached_sym (valid_closed v) hs r))
      once (suc p) zero h k r = absurd (apart p (omega arith) r)
      once (suc p) (suc q) h k r = ap suc (P.once p q (omega arith) (omega arith) r)

  -- and what it marks has the start's root
  rooted_more : {next next' : ℕ} → next ≤ next' → Rooted N n t next' start class → ((d : ℕ) → d < n → Marked w d → Rooted N n t next d (get_or w d 0))
      → (d : ℕ) → d < n → Marked w' d → Rooted N n t next' d (get_or w' d 0)
  rooted_more {next} {next'} le R old d h m = go (flooded_cases Q hs hc F d h m)
    where
      go : Marked w d ⊎ Linked (all_but N) N n t start class d (get_or w' d 0) → Rooted N n t next' d (get_or w' d 0)
      go (inl y) = let O = old d h y in rw ((flooded_on Q hs hc F).classes d h y) (record {
        root = O.root;
        early = omega (arith, O.early);
        least = O.least;
        linked = O.linked;
      })
      go (inr r) = record { root = R.root; early = R.early; least = R.least; linked = linked_trans R.linked (linked_wider (λ i hi k. ranked i) r) }

-- nothing is marked where the queue is empty
unmarked_none : {n d : ℕ} {w : List ℕ} → IsQueue n 0 w → d < n → Marked w d → ⊥
unmarked_none Q h m = let (p, k, z) = Q.entered _ h m in absurd (omega arith)

pub class_none : {n : ℕ} {w : List ℕ} → IsQueue n 0 w → (d : ℕ) → d < n → get_or w d 0 ≡ mark
class_none {n} {w} Q d h = go (ℕ_discrete (get_or w d 0) mark)
  where
    go : Dec (get_or w d 0 ≡ mark) → get_or w d 0 ≡ mark
    go (yes e) = e
    go (no m) = absurd (unmarked_none Q h m)

pub spun_none : {N n : ℕ} {t w : List ℕ} → IsQueue n 0 w → Spanned N n t 0 0 0 w
spun_none Q = record {
  queue = Q;
  explored = λ p hf ht. absurd (omega arith);
  crossed = λ p l. absurd (omega arith);
  within = omega arith;
  begun = λ d l. absurd (omega arith);
  rooted = λ d l m. absurd (unmarked_none Q l m);
  cells = (
    [],
    refl,
    record {
      member = λ p l. absurd (omega arith);
      all = λ d m. absurd (unmarked_none Q m.0 m.1);
      once = λ p q l k r. absurd (omega arith);
    },
  );
}

-- aN leads to another dart of the same root
rooted_across : {N n next d m : ℕ} {t : List ℕ} → link by_dart N n t N d ≢ d → Rooted N n t next d m → Rooted N n t next (link by_dart N n t N d) (1 - m)
rooted_across {N} ne O = record {
  root = O.root;
  early = O.early;
  least = O.least;
  linked = Linked.onward N (omega arith) (ranked N) ne O.linked;
}

-- a link leads to a dart
pub link_below : {N n i d x : ℕ} {t : List ℕ} → Valid by_dart N n t → x ≡ link by_dart N n t i d → i ≤ N → d < n → x < n
link_below {i = i} {d = d} v e hi hd = rw e (v.inside i d hi hd)

module _ {N n head tail count next : ℕ} {t w : List ℕ} (v : Valid by_dart N n t) (R : Spun N n t head tail count next w) where
  -- no more N-cells are marked than there are darts
  pub spun_few : count ≤ n
  spun_few = let (l, z, P) = R.cells in few l z P
    where
      few : (l : List ℕ) → length l ≡ count → Picks (λ d. (d < n) × Marked w d) (Cell by_dart N n t N) l → count ≤ n
      few l z P = rw (← z)
          (pigeonhole (length l) n (λ p. get_or l p 0) (λ p h. (P.member p h).0) (λ p q h k e. P.once p q h k (rw e Reached.here)))

  -- what has been crossed stays so
  crossed_on : {tail' : ℕ} {w' : List ℕ} → head ≤ tail → Extended n tail tail' w w' → (p : ℕ) → p < head
      → Marked w' (link by_dart N n t N (queued n w' p))
  crossed_on h E p l =
      let inside = v.inside N (queued n w p) (omega arith) (R.queue.darts p (omega arith)) in
      rw (E.places p (omega arith)) (extended_marked E inside (R.crossed p l))

  -- every dart of the queue has been at the head: what is marked is closed under all links
  pub spun_closed : tail ≤ head → Explored all_ranks N n t 0 tail w
  spun_closed k p hf ht i hi q = all (ℕ_discrete i N)
    where
      all : Dec (i ≡ N) → (link by_dart N n t i (queued n w p) < n) × Marked w (link by_dart N n t i (queued n w p))
      all (yes e) = (v.inside i (queued n w p) hi (R.queue.darts p ht), rw e (R.crossed p (omega arith)))
      all (no e) = R.explored p (omega arith) ht i hi (but_yes N i e)

-- d is the dart at the head of the queue
module _ {N n head tail count next : ℕ} {t w : List ℕ} (v : Valid by_dart N n t) (h : head < tail) (R : Spun N n t head tail count next w)
    (d : ℕ) (ed : d ≡ queued n w head) where
  pub head_below : d < n
  head_below = rw ed (R.queue.darts head h)

  pub head_class : get_or w d 0 < 2
  head_class = rw ed (R.queue.classes head h)

  crossed_next : {tail' : ℕ} {w' : List ℕ} → Extended n tail tail' w w' → Marked w' (link by_dart N n t N d)
      → (p : ℕ) → p < head + 1 → Marked w' (link by_dart N n t N (queued n w' p))
  crossed_next {w' = w'} E m p l = go (ℕ_discrete p head)
    where
      go : Dec (p ≡ head) → Marked w' (link by_dart N n t N (queued n w' p))
      go (yes e) = rw (e, E.places head h, ← ed) m
      go (no e) = crossed_on v R (omega arith) E p (omega arith)

  -- x is where its aN leads
  module _ (x : ℕ) (ex : x ≡ link by_dart N n t N d) where
    across_below : x < n
    across_below = link_below v ex (omega arith) head_below

    -- x has a mark
    pub spun_old : Marked w x → Spun N n t (head + 1) tail count next w
    spun_old m = record {
      queue = R.queue;
      explored = R.explored;
      crossed = crossed_next (extended_refl R.queue) (rw (← ex) m);
      within = R.within;
      begun = R.begun;
      rooted = R.rooted;
      cells = R.cells;
    }

    -- it has none: the flood from there
    pub spun_new : {tail' : ℕ} {w' : List ℕ} (class : ℕ) → get_or w x 0 ≡ mark → class ≡ 1 - get_or w d 0
        → Flooded (all_but N) N n t x class tail tail' w w'
        → Spun N n t (head + 1) tail' (count + 1) next w'
    spun_new {tail'} {w'} class u ec F = let (l, z, P) = R.cells in record {
      queue = E.queue;
      explored = flooded_explored R.queue across_below hc F R.explored;
      crossed = crossed_next E (rw (← ex) (flooded_start R.queue across_below hc F));
      within = R.within;
      begun = λ e l. extended_marked E (omega (arith, R.within)) (R.begun e l);
      rooted = rooted_more v R.queue across_below hc u F (omega arith) from R.rooted;
      cells = (x ∷ l, omega arith, begun_more v R.queue across_below hc u F R.explored P);
    }
      where
        hc : class < 2
        hc = omega arith

        E : Extended n tail tail' w w'
        E = flooded_on R.queue across_below hc F

        -- d has a class and x has none
        joins : link by_dart N n t N d ≢ d
        joins z = let q : get_or w d 0 ≡ mark = rw (ex, z) at u in omega (arith, head_class)

        from : Rooted N n t next x class
        from = rw (ex, ec) (rooted_across joins (R.rooted d head_below (λ q. omega (arith, head_class))))

-- the darts below a later one are marked too
pub spun_later : {N n head tail count before : ℕ} {t w : List ℕ} (next : ℕ) → Spun N n t head tail count before w → before ≤ next → next ≤ n → Begun next w
    → Spun N n t head tail count next w
spun_later next R h k B = record {
  queue = R.queue;
  explored = R.explored;
  crossed = R.crossed;
  within = k;
  begun = B;
  rooted = λ d l m. let O = R.rooted d l m in record { root = O.root; early = omega (arith, O.early); least = O.least; linked = O.linked };
  cells = R.cells;
}

-- a new body begins at a dart with no mark, those below having one: the flood from there
pub spun_body : {N n tail tail' count next : ℕ} {t w w' : List ℕ} → Valid by_dart N n t → Spanned N n t tail count next w → Unmarked n w next
    → Flooded (all_but N) N n t next 0 tail tail' w w'
    → Spun N n t tail tail' (count + 1) (next + 1) w'
spun_body {N} {n} {tail} {tail'} {count} {next} {t} {w} {w'} v R (hr, u) F = let (l, z, P) = R.cells in record {
  queue = E.queue;
  explored = flooded_explored R.queue hr (omega arith) F R.explored;
  crossed = crossed_on v R (omega arith) E;
  within = omega arith;
  begun = λ d l. first d l (ℕ_discrete d next);
  rooted = rooted_more v R.queue hr (omega arith) u F (omega arith) root R.rooted;
  cells = (next ∷ l, omega arith, begun_more v R.queue hr (omega arith) u F R.explored P);
}
  where
    E : Extended n tail tail' w w'
    E = flooded_on R.queue hr (omega arith) F

    first : (d : ℕ) → d < next + 1 → Dec (d ≡ next) → Marked w' d
    first d l (yes e) = rw e (flooded_start R.queue hr (omega arith) F)
    first d l (no e) = extended_marked E (omega arith) (R.begun d (omega arith))

    -- a lower dart is marked, and what is marked is closed under links
    least : (e : ℕ) → Reached by_dart all_ranks N n t next e → Dec (e < next) → next ≤ e
    least e r (yes l) = absurd (orbit_unmarked v R.queue (spun_closed v R (omega arith)) hr u r (R.begun e l))
    least e r (no l) = omega arith

    root : Rooted N n t (next + 1) next 0
    root = record { root = next; early = omega arith; least = λ e r. least e r (dec_lt e next); linked = Linked.here }

-- the loop over the queue has ended
pub spun_end : {N n head tail count next : ℕ} {t w : List ℕ} → Spun N n t head tail count next w → tail ≤ head → Spanned N n t tail count next w
spun_end R h = record {
  queue = R.queue;
  explored = R.explored;
  crossed = λ p l. R.crossed p (omega arith);
  within = R.within;
  begun = R.begun;
  rooted = R.rooted;
  cells = R.cells;
}

module _ {N n tail count next : ℕ} {t w : List ℕ} (v : Valid by_dart N n t) (R : Spanned N n t tail count next w) where
  -- one body has been begun: what is marked is exactly what is reached from dart 0
  module _ (one : next ≡ 1) where
    pub one_reached : (d : ℕ) → d < n → Marked w d → Reached by_dart all_ranks N n t 0 d
    one_reached d h m =
        let O = R.rooted d h m in
        let z : O.root ≡ 0 = omega (arith, O.early) in
        rw z at (linked_reached O.linked)

    pub reached_one : (d : ℕ) → Reached by_dart all_ranks N n t 0 d → Marked w d
    reached_one d r = (reached_marked R.queue (spun_closed v R (omega arith)) (omega (arith, R.within)) (R.begun 0 (omega arith)) r).1

  -- every dart is marked: as many N-cells are marked as there are
  pub spanned_cells : n ≤ tail → count ≡ cells by_dart N n t N
  spanned_cells h = let (l, z, P) = R.cells in sym z ∙ cells_unique (valid_closed v) N l (record {
    member = λ p l. (P.member p l).0;
    all = λ d l. P.all d ((l, full_marked R.queue h d l));
    once = P.once;
  })
