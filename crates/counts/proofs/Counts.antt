-- Laws of the report's counts, one turn of a loop at a time: a dart leads its cell if no flood before it came there.
-- Rests on the flood's Orbits and the rules' Orbits.
use Prim.Native.Nat.{ℕ, zero, suc, ◌+◌, ◌*◌, ◌-◌, ◌≤◌, ◌<◌}
use mathlib.Core.Path.{◌≡◌, refl, sym, ◌∙◌}
use mathlib.Core.Logic.{◌⊎◌, inl, inr}
use mathlib.Core.Bool.{Bool, true, false, not, cond}
use mathlib.Core.List.{List}
use native.Mathlib.Omega.{arith}
use native.Mathlib.Decide.{ℕ_discrete, dec_le}
use lib.ListN.{length, get_or, set, replicate, length-set}
use lib.Seq.{ext_get_or, get_or-set_same, get_or-set_other}
use lib.Dec.{leb}
use borrow.Author.Tests.{le-leb, lt-leb}
use Rattle.rules.specs.Lists.{list_of, some_below, count_below}
use Rattle.rules.specs.Map.{by_dart, mark, blank, Reached, all_but, Valid, reaches}
use Rattle.rules.specs.Report.{leads, cells, cell_counts}
use Rattle.rules.proofs.Lists.{length_list_of, get_d_list_of, get_d_same, some_below_lem, below_some}
use Rattle.rules.proofs.Orbits.{valid_closed, reached_sym, reaches_reached, reached_reaches}
use Rattle.flood.specs.Flood.{Marked, IsQueue, Extended, Linked, Explored, Flooded}
use Rattle.flood.proofs.Queues.{full_marked, extended_marked, queue_blanked, none_blanked}
use Rattle.flood.proofs.Floods.{linked_reached}
use Rattle.flood.proofs.Orbits.{reached_marked, flooded_on, flooded_start, flooded_cases, flooded_explored}

-- c numbers below k pass a test: one number more
pub count_yes : (f : ℕ → Bool) (k c : ℕ) → f k ≡ true → c ≡ count_below k f → c + 1 ≡ count_below (k + 1) f
unfolding count_below
count_yes f k c q h = let e : k + 1 ≡ suc k = omega arith in rw (e, q) (omega arith)

pub count_no : (f : ℕ → Bool) (k c : ℕ) → f k ≡ false → c ≡ count_below k f → c ≡ count_below (k + 1) f
unfolding count_below
count_no f k c q h = let e : k + 1 ≡ suc k = omega arith in rw (e, q) (omega arith)

pub count_none : (f : ℕ → Bool) → count_below 0 f ≡ 0
unfolding count_below
count_none f = refl

-- floods of the cells of rank i have come to dart d
pub record Swept (N n : ℕ) (t : List ℕ) (i d tail found : ℕ) (w : List ℕ) : Type 0 where
  pub queue : IsQueue n tail w
  pub explored : Explored (all_but i) N n t 0 tail w
  pub traced : (x : ℕ) → x < n → Marked w x → (e : ℕ) × (e < d) × Reached by_dart (all_but i) N n t e x
  pub passed : (x : ℕ) → x < d → Marked w x
  pub count : found ≡ count_below d (leads by_dart N n t i)
  pub few : found ≤ d

pub swept_start : (N n : ℕ) (t : List ℕ) (i : ℕ) (w w' : List ℕ) → 2 * n ≤ length w → w' ≡ blank n w → Swept N n t i 0 0 0 w'
swept_start N n t i w w' hw e = record {
  queue = queue_blanked n w w' hw e;
  explored = λ p hf ht. absurd (omega arith);
  traced = λ x h m. absurd (none_blanked n w w' hw e x h m);
  passed = λ x h. absurd (omega arith);
  count = sym (count_none (leads by_dart N n t i));
  few = omega arith;
}

module _ {N n : ℕ} {t : List ℕ} (v : Valid by_dart N n t) {i d tail found : ℕ} {w : List ℕ} (R : Swept N n t i d tail found w) (hd : d < n) where
  abbrev met : ℕ → Bool
  met e = reaches by_dart (all_but i) N n t d e

  leads_no : Marked w d → leads by_dart N n t i d ≡ false
  unfolding leads
  leads_no m =
      let (e, he, r) = R.traced d hd m in
      let C = valid_closed v in
      rw (below_some d met e he (reached_reaches by_dart (all_but i) N n t C d e hd (reached_sym C (omega arith) r)))

  leads_yes : get_or w d 0 ≡ mark → leads by_dart N n t i d ≡ true
  unfolding leads
  leads_yes u = go (some_below d met) refl
    where
      go : (b : Bool) → some_below d met ≡ b → not b ≡ true
      go false q = refl
      go true q =
          let (e, he, r) = some_below_lem d met q in
          let C = valid_closed v in
          let back = reached_sym C hd (reaches_reached by_dart (all_but i) N n t C d e hd (omega arith) r) in
          absurd ((reached_marked R.queue R.explored (omega arith) (R.passed e he) back).1 u)

  passed_next : (w' : List ℕ) → ((x : ℕ) → x < d → Marked w' x) → Marked w' d → (x : ℕ) → x < d + 1 → Marked w' x
  passed_next w' before m x h = go (ℕ_discrete x d)
    where
      go : Dec (x ≡ d) → Marked w' x
      go (yes e) = rw e m
      go (no e) = before x (omega arith)

  pub swept_old : Marked w d → Swept N n t i (d + 1) tail found w
  swept_old m = record {
    queue = R.queue;
    explored = R.explored;
    traced = λ x h y. let (e, he, r) = R.traced x h y in (e, omega arith, r);
    passed = passed_next w R.passed m;
    count = count_no (leads by_dart N n t i) d found (leads_no m) R.count;
    few = omega (arith, R.few);
  }

  pub swept_new : {tail' : ℕ} {w' : List ℕ} → get_or w d 0 ≡ mark → Flooded (all_but i) N n t d 0 tail tail' w w' → Swept N n t i (d + 1) tail' (found + 1) w'
  swept_new {tail'} {w'} u F = record {
    queue = L.queue;
    explored = flooded_explored R.queue hd (omega arith) F R.explored;
    traced = λ x h y. from x h (flooded_cases R.queue hd (omega arith) F x h y);
    passed = passed_next w' (λ x h. extended_marked L (omega arith) (R.passed x h)) (flooded_start R.queue hd (omega arith) F);
    count = count_yes (leads by_dart N n t i) d found (leads_yes u) R.count;
    few = omega (arith, R.few);
  }
    where
      L : Extended n tail tail' w w'
      L = flooded_on R.queue hd (omega arith) F

      from : (x : ℕ) → x < n → Marked w x ⊎ Linked (all_but i) N n t d 0 x (get_or w' x 0) → (e : ℕ) × (e < d + 1) × Reached by_dart (all_but i) N n t e x
      from x h (inl m) = let (e, he, r) = R.traced x h m in (e, omega arith, r)
      from x h (inr r) = (d, omega arith, linked_reached r)

-- the floods have come past the last dart
pub swept_all : {N n : ℕ} {t : List ℕ} {i tail found : ℕ} {w : List ℕ} → Swept N n t i n tail found w → found ≡ cells by_dart N n t i
unfolding cells
swept_all R = R.count

-- every dart is marked: none that is left leads its cell
swept_rest : {N n : ℕ} {t : List ℕ} → Valid by_dart N n t → {i tail found : ℕ} {w : List ℕ} (k d : ℕ) → d + k ≡ n → ((x : ℕ) → x < n → Marked w x)
    → Swept N n t i d tail found w → found ≡ cells by_dart N n t i
swept_rest v zero d e m R = let z : d ≡ _ = omega arith in swept_all (rw z at R)
swept_rest v (suc k) d e m R = swept_rest v k (d + 1) (omega arith) m (swept_old v R (omega arith) (m d (omega arith)))

pub swept_end : {N n : ℕ} {t : List ℕ} {i d tail found : ℕ} {w : List ℕ} → Valid by_dart N n t → Swept N n t i d tail found w → d ≤ n → n ≤ tail
    → found ≡ cells by_dart N n t i
swept_end {n = n} {d = d} v R l h = swept_rest v (n - d) d (omega arith) (full_marked R.queue h) R

-- the counts of the ranks below i are there, and the others are 0
pub record Tallied (N n : ℕ) (t : List ℕ) (i : ℕ) (counts : List ℕ) : Type 0 where
  pub seven : length counts ≡ 7
  pub done : (j : ℕ) → j < i → get_or counts j 0 ≡ cells by_dart N n t j
  pub rest : (j : ℕ) → i ≤ j → get_or counts j 0 ≡ 0

pub tallied_start : (N n : ℕ) (t : List ℕ) → Tallied N n t 0 (replicate 7 0)
tallied_start N n t = record { seven = refl; done = λ j h. absurd (omega arith); rest = λ j h. get_d_same 7 j 0 }

module _ {N n i : ℕ} {t counts : List ℕ} (R : Tallied N n t i counts) where
  pub tallied_next : (found : ℕ) → i < 7 → found ≡ cells by_dart N n t i → Tallied N n t (i + 1) (set counts i found)
  tallied_next found h e = record {
    seven = length-set counts i found ∙ R.seven;
    done = λ j k. done j k (ℕ_discrete j i);
    rest = λ j k. get_or-set_other counts i j found 0 (omega arith) ∙ R.rest j (omega arith);
  }
    where
      done : (j : ℕ) → j < i + 1 → Dec (j ≡ i) → get_or (set counts i found) j 0 ≡ cells by_dart N n t j
      done j k (yes q) = rw q (get_or-set_same counts i found 0 (omega (arith, R.seven)) ∙ e)
      done j k (no q) = get_or-set_other counts i j found 0 q ∙ R.done j (omega arith)

  pub tallied_end : i ≡ N + 1 → counts ≡ cell_counts by_dart N n t
  unfolding cell_counts
  tallied_end e = ext_get_or 0 counts (list_of 7 count) (R.seven ∙ sym (length_list_of 7 count)) (λ j h. one j (dec_le j N) ∙ sym (listed j h))
    where
      count : ℕ → ℕ
      count j = cond (leb j N) (cells by_dart N n t j) 0

      listed : (j : ℕ) → j < length counts → get_or (list_of 7 count) j 0 ≡ count j
      listed j h = get_d_list_of 7 count j 0 (omega (arith, R.seven))

      one : (j : ℕ) → Dec (j ≤ N) → get_or counts j 0 ≡ count j
      one j (yes h) = rw (le-leb j N h) (R.done j (omega arith))
      one j (no h) = rw (lt-leb j N (omega arith)) (R.rest j (omega arith))
