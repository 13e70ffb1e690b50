-- Laws of the tally, one link at a time: those within a class, and those that stay in place. Rests on the rules' Places.
use Prim.Native.Nat.{ℕ, zero, suc, ◌+◌, ◌*◌, ◌≤◌, ◌<◌}
use mathlib.Core.Path.{◌≡◌, sym, ◌∙◌}
use mathlib.Core.Logic.{◌≢◌}
use mathlib.Core.Bool.{Bool, true, false, cond}
use mathlib.Core.List.{List}
use native.Mathlib.Omega.{arith}
use lib.ListN.{get_or}
use lib.Dec.{eqb}
use borrow.Author.Tests.{eq-eqb, ne_eqb}
use Rattle.rules.specs.Lists.{count_below}
use Rattle.rules.specs.Map.{by_dart, size, place, link, Valid, Limits}
use Rattle.rules.specs.Report.{free_pairs}
use Rattle.rules.proofs.Places.{rank_nth, dart_nth}
use Rattle.tables.proofs.Laws.{entry_link}
use Rattle.counts.proofs.Counts.{count_yes, count_no, count_none}
use Rattle.report.specs.declared.Tally.{Tally}
use Rattle.report.specs.Tests.{alike, is_free, Counted}

-- no more than there are
count_le : (k : ℕ) (f : ℕ → Bool) → count_below k f ≤ k
unfolding count_below
count_le zero f = omega arith
count_le (suc k) f = omega (arith, count_le k f, one (f k))
  where
    one : (b : Bool) → cond b 1 0 ≤ 1
    one true = omega arith
    one false = omega arith

pub counted_le : {N n : ℕ} {t w : List ℕ} {k : ℕ} {c : Tally} → Counted N n t w k c → (c.alike ≤ k) × (c.free ≤ k)
counted_le {N} {n} {t} {w} {k} C = (rw C.near (count_le k (alike N n t w)), rw C.still (count_le k (is_free N n t)))

pub counted_none : (N n : ℕ) (t w : List ℕ) → Counted N n t w (0 * n) (record { alike = 0; free = 0 })
counted_none N n t w = let z : 0 * n ≡ 0 = omega arith in rw z (record { near = sym (count_none _); still = sym (count_none _) })

-- a tally up to a place that is told in other words
pub counted_at : {N n : ℕ} {t w : List ℕ} {k k' : ℕ} {c : Tally} → k ≡ k' → Counted N n t w k c → Counted N n t w k' c
counted_at e C = rw (← e) C

-- the link of rank i at dart d, x being the entry that was read
module _ (N n : ℕ) (t w : List ℕ) (i d x : ℕ) (L : Limits N n t) (hi : i ≤ N) (hd : d < n) (e : x ≡ get_or t (place by_dart N n i d) 0) where
  entry_link_at : x ≡ link by_dart N n t i d
  entry_link_at = e ∙ entry_link N n t i d L hi hd

  pub entry_below : Valid by_dart N n t → x < n
  entry_below v = rw entry_link_at (v.inside i d hi hd)

  alike_test : alike N n t w (i * n + d) ≡ eqb (get_or w d 0) (get_or w x 0)
  unfolding alike
  alike_test = rw (rank_nth n i d hd, dart_nth n i d hd, entry_link_at)

  free_test : is_free N n t (i * n + d) ≡ eqb x d
  unfolding is_free
  free_test = rw (rank_nth n i d hd, dart_nth n i d hd, entry_link_at)

  next : i * n + (d + 1) ≡ i * n + d + 1
  next = omega arith

  pub alike_yes : (c : ℕ) → get_or w d 0 ≡ get_or w x 0 → c ≡ count_below (i * n + d) (alike N n t w) → c + 1 ≡ count_below (i * n + (d + 1)) (alike N n t w)
  alike_yes c h q = rw next (count_yes (alike N n t w) (i * n + d) c (alike_test ∙ eq-eqb (get_or w d 0) (get_or w x 0) h) q)

  pub alike_no : (c : ℕ) → get_or w d 0 ≢ get_or w x 0 → c ≡ count_below (i * n + d) (alike N n t w) → c ≡ count_below (i * n + (d + 1)) (alike N n t w)
  alike_no c h q = rw next (count_no (alike N n t w) (i * n + d) c (alike_test ∙ ne_eqb (get_or w d 0) (get_or w x 0) h) q)

  pub free_yes : (c : ℕ) → x ≡ d → c ≡ count_below (i * n + d) (is_free N n t) → c + 1 ≡ count_below (i * n + (d + 1)) (is_free N n t)
  free_yes c h q = rw next (count_yes (is_free N n t) (i * n + d) c (free_test ∙ eq-eqb x d h) q)

  pub free_no : (c : ℕ) → x ≢ d → c ≡ count_below (i * n + d) (is_free N n t) → c ≡ count_below (i * n + (d + 1)) (is_free N n t)
  free_no c h q = rw next (count_no (is_free N n t) (i * n + d) c (free_test ∙ ne_eqb x d h) q)

-- the links in place are the free pairs
pub still_free : {N n : ℕ} {t w : List ℕ} {c : Tally} → Counted N n t w (size N n) c → c.free ≡ free_pairs by_dart N n t
unfolding free_pairs is_free
still_free C = C.still
