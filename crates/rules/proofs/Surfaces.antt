-- Document 02, E2, beside document 01, whose rule took every link, also one that leaves its dart in place: the two reports differ in `orientable` alone,
-- and only where a pair is free. So a closed model's report stays as it was. Rests on Lists, Places, Cells and Check.
use Prim.Native.Nat.{ℕ, zero, suc, ◌+◌, ◌*◌, ◌/◌, ◌%◌, ◌≤◌, ◌<◌}
use mathlib.Core.Path.{◌≡◌, refl, sym, ◌∙◌}
use mathlib.Core.Logic.{◌≢◌}
use mathlib.Core.Bool.{Bool, true, false, ◌&&◌}
use mathlib.Core.List.{List, [], ◌∷◌}
use native.Mathlib.Omega.{arith}
use native.Mathlib.Decide.{ℕ_discrete}
use lib.ListN.{length, get_or, replicate}
use lib.Dec.{eqb}
use borrow.Author.Tests.{eq-eqb, ne_eqb}
use Rattle.rules.specs.declared.ReportAnswer.{ReportAnswer}
use Rattle.rules.specs.Lists.{all_below}
use Rattle.rules.specs.declared.Form.TheVariants.{One}
use Rattle.rules.specs.Map.{Layout, by_dart, size, place, link}
use Rattle.rules.specs.Check.{Verdict, verdict}
use Rattle.rules.specs.Report.{free_pairs, differ, crosses, apart, some_classes, orientable, cell_counts, report_answer_of, report_answer}
use Rattle.rules.proofs.Lists.{and_right, not_both, all_below_lem, below_same}
use Rattle.rules.proofs.Places.{nth_rank, nth_dart, nth_below, rank_nth, dart_nth}
use Rattle.rules.proofs.Cells.{Free, free_are, some_classes_lem}
use Rattle.rules.proofs.Check.{fine_passes}

-- document 01: every ai takes each dart to the other class
unfoldable pub former_apart : (Y : Layout) → ℕ → ℕ → List ℕ → List Bool → Bool
former_apart Y N n t classes = all_below (size N n) (λ k. differ (get_or classes (k % n) false) (get_or classes (link Y N n t (k / n) (k % n)) false))

-- document 01: the darts can be put in two classes so that every ai takes each dart to the other class
unfoldable pub former_orientable : (Y : Layout) → ℕ → ℕ → List ℕ → Bool
former_orientable Y N n t = some_classes n (former_apart Y N n t)

-- document 01: a refusal has all counts 0 and is not orientable
unfoldable pub former_answer_of : (Y : Layout) → ℕ → ℕ → List ℕ → Verdict → ReportAnswer
former_answer_of Y N n t Verdict.fine = record {
  number = 0;
  place = 0;
  cells = cell_counts Y N n t;
  free = free_pairs Y N n t;
  orientable =
      former_orientable Y N n t;
}
former_answer_of Y N n t (Verdict.refused nr p) = record { number = nr; place = p; cells = replicate 7 0; free = 0; orientable = false }

-- document 01's report
unfoldable pub former_answer : (Y : Layout) → ℕ → ℕ → List ℕ → List ℕ → ReportAnswer
former_answer Y N n t work = former_answer_of Y N n t (verdict One Y N n 0 t (length work))

-- no dart is free at any rank: a closed model
abbrev pub NoneFree : (Y : Layout) → ℕ → ℕ → List ℕ → Type 0
NoneFree Y N n t = (i d : ℕ) → i ≤ N → d < n → link Y N n t i d ≢ d

-- one test for another
same_classes : (k : ℕ) (f g : List Bool → Bool) → ((c : List Bool) → f c ≡ g c) → some_classes k f ≡ some_classes k g
unfolding some_classes
same_classes zero f g e = e []
same_classes (suc k) f g e =
    let a = same_classes k (λ c. f (true ∷ c)) (λ c. g (true ∷ c)) (λ c. e (true ∷ c)) in
    let b = same_classes k (λ c. f (false ∷ c)) (λ c. g (false ∷ c)) (λ c. e (false ∷ c)) in
    rw (a, b)

-- no class is another than itself
differ_own : (b : Bool) → differ b b ≡ false
unfolding differ
differ_own true = refl
differ_own false = refl

module _ (Y : Layout) (N n : ℕ) (t : List ℕ) (h1 : 1 ≤ n) where
  -- a closed model: the two rules are one
  pub closed_agree : NoneFree Y N n t → orientable Y N n t ≡ former_orientable Y N n t
  unfolding orientable former_orientable apart former_apart crosses
  closed_agree F = same_classes n (apart Y N n t) (former_apart Y N n t) (λ c.
      below_same (size N n) (λ k. crosses c (k % n) (link Y N n t (k / n) (k % n)))
      (λ k. differ (get_or c (k % n) false) (get_or c (link Y N n t (k / n) (k % n)) false))
      (λ k h. rw (ne_eqb (link Y N n t (k / n) (k % n)) (k % n) (F (k / n) (k % n) (nth_rank N n k h1 h) (nth_dart n k h1))) refl))

  -- an open one: document 01 says not orientable
  open_former : (k : ℕ) → Free Y N n t k → former_orientable Y N n t ≡ false
  unfolding former_orientable former_apart
  open_former k F = go (former_orientable Y N n t) refl
    where
      go : (b : Bool) → former_orientable Y N n t ≡ b → b ≡ false
      go false e = refl
      go true e =
          let (c, p) = some_classes_lem n (former_apart Y N n t) e in
          let (hi, hd) = F.within in
          let test : ℕ → Bool = λ k. differ (get_or c (k % n) false) (get_or c (link Y N n t (k / n) (k % n)) false) in
          let q = rw (rank_nth n F.rank F.dart hd, dart_nth n F.rank F.dart hd, F.fixed)
          at (all_below_lem (size N n) test p (F.rank * n + F.dart) (nth_below N n F.rank F.dart hi hd)) in
          absurd (not_both (differ (get_or c F.dart false) (get_or c F.dart false)) q (differ_own (get_or c F.dart false)))

  -- no free pair is counted: no dart is free
  none_free : free_pairs Y N n t ≡ 0 → NoneFree Y N n t
  none_free z i d hi hd e =
      let (l, P, q) = (free_are Y N n t h1).picked in
      let (p, k, r) = P.all (i * n + d) (record { rank = i; dart = d; within = (hi, hd); pair = refl; fixed = e }) in
      omega arith

  -- document 01 says orientable exactly where the new rule does and no pair is free
  pub former_exactly : former_orientable Y N n t ≡ (eqb (free_pairs Y N n t) 0 && orientable Y N n t)
  former_exactly = go (ℕ_discrete (free_pairs Y N n t) 0)
    where
      go : Dec (free_pairs Y N n t ≡ 0) → former_orientable Y N n t ≡ (eqb (free_pairs Y N n t) 0 && orientable Y N n t)
      go (yes z) = rw (eq-eqb (free_pairs Y N n t) 0 z) (sym (closed_agree (none_free z)))
      go (no z) =
          let (l, P, q) = (free_are Y N n t h1).picked in
          rw (ne_eqb (free_pairs Y N n t) 0 z) (open_former (get_or l 0 0) (P.member 0 (omega arith)))

  -- a map that was orientable stays so
  pub stays_orientable : former_orientable Y N n t ≡ true → orientable Y N n t ≡ true
  stays_orientable e = and_right (eqb (free_pairs Y N n t) 0) (orientable Y N n t) (sym former_exactly ∙ e)

-- the report as document 01 gives it: with a free pair it says not orientable
unfoldable pub formerly : ReportAnswer → ReportAnswer
formerly r = record { number = r.number; place = r.place; cells = r.cells; free = r.free; orientable = eqb r.free 0 && r.orientable }

module _ (Y : Layout) (N n : ℕ) (t work : List ℕ) where
  -- any tables: document 01's report is the present one, but for that
  pub report_as_before : former_answer Y N n t work ≡ formerly (report_answer One Y N n t work)
  unfolding former_answer former_answer_of formerly report_answer report_answer_of
  report_as_before = go (verdict One Y N n 0 t (length work)) refl
    where
      go : (v : Verdict) → verdict One Y N n 0 t (length work) ≡ v → former_answer_of Y N n t v ≡ formerly (report_answer_of Y N n t v)
      go Verdict.fine e = rw (former_exactly Y N n t (fine_passes One Y N n 0 t (length work) e).limits.darts.0) refl
      go (Verdict.refused nr p) e = refl

  -- a closed model's report stays as it was
  pub closed_as_before : NoneFree Y N n t → report_answer One Y N n t work ≡ former_answer Y N n t work
  unfolding former_answer former_answer_of report_answer report_answer_of
  closed_as_before F = go (verdict One Y N n 0 t (length work)) refl
    where
      go : (v : Verdict) → verdict One Y N n 0 t (length work) ≡ v → report_answer_of Y N n t v ≡ former_answer_of Y N n t v
      go Verdict.fine e = rw (closed_agree Y N n t (fine_passes One Y N n 0 t (length work) e).limits.darts.0 F) refl
      go (Verdict.refused nr p) e = refl

-- one square, darts 2s and 2s+1 on side s: a0 and a1 are those of each square, a2 is given, dart by dart
pub square : (ℕ → ℕ) → List ℕ
square a2 = 1 ∷ 7 ∷ a2 0 ∷ 0 ∷ 2 ∷ a2 1 ∷ 3 ∷ 1 ∷ a2 2 ∷ 2 ∷ 4 ∷ a2 3 ∷ 5 ∷ 3 ∷ a2 4 ∷ 4 ∷ 6 ∷ a2 5 ∷ 7 ∷ 5 ∷ a2 6 ∷ 6 ∷ 0 ∷ a2 7 ∷ []

-- no side joined
pub open_square : List ℕ
open_square = square (λ d. d)

-- two opposite sides joined with a twist
pub moebius_band : List ℕ
moebius_band = square (λ d. get_or (4 ∷ 5 ∷ 2 ∷ 3 ∷ 0 ∷ 1 ∷ 6 ∷ 7 ∷ []) d 0)

-- the open square is orientable, where document 01 says that it is not; the Moebius band is not, though it is open
pub square_and_band : (orientable by_dart 2 8 open_square ≡ true) × (former_orientable by_dart 2 8 open_square ≡ false)
    × (orientable by_dart 2 8 moebius_band ≡ false)
unfolding orientable former_orientable apart former_apart crosses differ some_classes all_below place link square open_square moebius_band
square_and_band = (refl, refl, refl)
