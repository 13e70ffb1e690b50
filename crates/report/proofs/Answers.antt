-- Laws of the report's answer: what each test of the code says of the verdict, and what the report then answers and leaves.
-- Rests on Spans, the checker's Verdicts and the rules' Check.
use Prim.Native.Nat.{ℕ, ◌*◌, ◌≤◌, ◌<◌}
use mathlib.Core.Path.{◌≡◌, refl, ap, sym, ◌∙◌}
use mathlib.Core.Logic.{◌≢◌}
use mathlib.Core.Bool.{Bool, true, false, not}
use mathlib.Core.List.{List}
use native.Mathlib.Omega.{arith}
use native.Mathlib.Decide.{ℕ_discrete}
use lib.ListN.{length, get_or, drop, replicate}
use lib.Dec.{eqb, ltb}
use Rattle.std.specs.Prelude.{Result, Ok, Err, MatchResult}
use borrow.Author.Tests.{eq-eqb, ne_eqb}
use Rattle.rules.specs.declared.Refusal.{Refusal}
use Rattle.rules.specs.declared.Form.{Form}
use Rattle.rules.specs.declared.Form.TheVariants.{One, Several}
use Rattle.rules.specs.declared.ReportAnswer.{ReportAnswer}
use Rattle.rules.specs.Lists.{first}
use Rattle.rules.specs.Map.{by_dart, mark, blank, all_ranks, reaches, Valid, Limits}
use Rattle.rules.specs.Refusals.{among, of_bodies}
use Rattle.rules.specs.Check.{Verdict, fine, refused, refuse_if, unreached, bodies_verdict, verdict, work_after, check_work}
use Rattle.rules.specs.Report.{cell_counts, free_pairs, orientable, report_answer_of, report_answer, report_work_after, report_work}
use Rattle.rules.proofs.Lists.{get_d_any, first_same}
use Rattle.rules.proofs.Orbits.{Closed, valid_closed, reaches_reached, reached_reaches}
use Rattle.rules.proofs.Check.{Case, Passes, refused_case, refused_some, fine_passes}
use Rattle.checker.specs.Parts.{and_then, numberless, misfit_of, misbuilt_of}
use Rattle.checker.proofs.Verdicts.{verdict_sizes, check_sizes, check_limits, verdict_tables, check_tables, check_valid, tabled}
use Rattle.report.specs.Answer.{counted_of, answer_by}
use Rattle.report.specs.Spans.{Spanned}
use Rattle.report.proofs.Spans.{one_reached, reached_one}

-- a refusal's answer
abbrev pub refusal : ℕ → ℕ → ReportAnswer
refusal nr p = record { number = nr; place = p; cells = replicate 7 0; free = 0; orientable = false }

-- a refusal that the check would give too
refused_as : (F : Form) (N n : ℕ) (t w : List ℕ) {nr p : ℕ}
    → (refused nr p ≡ verdict F by_dart N n 0 t (length w)) × (w ≡ check_work F by_dart N n 0 t w)
    → (refusal nr p ≡ report_answer F by_dart N n t w) × (w ≡ report_work F by_dart N n t w)
unfolding check_work work_after report_work report_work_after report_answer report_answer_of
refused_as F N n t w (v, f) = (rw (← v), f ∙ rw (← v))

-- the work room is blanked in each case after the tables
work_left : (F : Form) (n p : ℕ) (w : List ℕ) → report_work_after n w (bodies_verdict F n p) ≡ blank (2 * n) w
unfolding report_work_after bodies_verdict refuse_if of_bodies among
work_left One n p w = go (ltb p n)
  where
    go : (b : Bool) → report_work_after n w (refuse_if b 9 p fine) ≡ blank (2 * n) w
    go true = refl
    go false = refl
work_left Several n p w = go (ltb p n)
  where
    go : (b : Bool) → report_work_after n w (refuse_if (not b) 30 0 fine) ≡ blank (2 * n) w
    go true = refl
    go false = refl

-- the parts of a counted answer, and the work room blanked after them
pub counted_parts : (N n : ℕ) (t counts : List ℕ) (free : ℕ) (o : Bool) → counts ≡ cell_counts by_dart N n t → free ≡ free_pairs by_dart N n t
    → o ≡ orientable by_dart N n t → record { number = 0; place = 0; cells = counts; free = free; orientable = o } ≡ counted_of N n t
unfolding counted_of
counted_parts N n t counts free o ec ef eo = rw (ec, ef, eo)

pub blank_over : (k : ℕ) (w u v : List ℕ) → v ≡ blank k u → drop k u ≡ drop k w → v ≡ blank k w
unfolding blank
blank_over k w u v e p = e ∙ rw p

-- sizes and tables pass: what is left of the verdict is what is reached
pub record Tabled (F : Form) (N n : ℕ) (t w : List ℕ) : Type 0 where
  pub limits : Limits N n t
  pub room : 2 * n ≤ length w
  pub some : 0 < n
  pub valid : Valid by_dart N n t
  pub left : verdict F by_dart N n 0 t (length w) ≡ bodies_verdict F n (first (unreached by_dart N n t 0) n)
  pub after : report_work F by_dart N n t w ≡ blank (2 * n) w

-- what the code did, step by step: the sizes, then the tables
module _ (F : Form) (N n : ℕ) (t w : List ℕ) where
  abbrev sizes : Verdict
  sizes = misfit_of N n 0 (length t) (length w)

  pub report_sizes : {nr p : ℕ} → refused nr p ≡ sizes → (refusal nr p ≡ report_answer F by_dart N n t w) × (w ≡ report_work F by_dart N n t w)
  report_sizes e = refused_as F N n t w (verdict_sizes F N n 0 t w e, (check_sizes F N n 0 t w e).1)

  module _ (z : sizes ≡ fine) where
    pub report_limits : Limits N n t
    report_limits = (check_limits F N n 0 t w z).0

    pub report_tables : {nr p : ℕ} → refused nr p ≡ misbuilt_of N n t
        → (refusal nr p ≡ report_answer F by_dart N n t w) × (w ≡ report_work F by_dart N n t w)
    report_tables e = refused_as F N n t w (verdict_tables F N n 0 t w z e, (check_tables F N n 0 t w z e).1)

    tabled_left : misbuilt_of N n t ≡ fine → verdict F by_dart N n 0 t (length w) ≡ bodies_verdict F n (first (unreached by_dart N n t 0) n)
    unfolding and_then
    tabled_left y = tabled F N n 0 t w z ∙ rw y

    pub report_tabled : misbuilt_of N n t ≡ fine → Tabled F N n t w
    report_tabled y =
        let (limits, room, some) = check_limits F N n 0 t w z in
        let v = tabled_left y in
        record {
          limits = limits;
          room = room;
          some = some;
          valid = check_valid F N n 0 t w z y;
          left = v;
          after = unfold report_work in ap (report_work_after n w) v ∙ work_left F n _ w;
        }

-- u is the work room where what is reached from dart 0 is marked
module _ {F : Form} {N n tail count next : ℕ} {t w u : List ℕ} (T : Tabled F N n t w) (S : Spanned N n t tail count next u) (one : next ≡ 1) where
  found : first (numberless u) n ≡ first (unreached by_dart N n t 0) n
  unfolding unreached
  found = first_same (numberless u) (unreached by_dart N n t 0) n (λ i l. rw (get_d_any u i mark 0 (omega (arith, S.queue.room))) (each i l))
    where
      C : Closed by_dart N n t
      C = valid_closed T.valid

      alike : (i : ℕ) → i < n → Dec (get_or u i 0 ≡ mark) → (b : Bool) → reaches by_dart all_ranks N n t 0 i ≡ b
          → eqb (get_or u i 0) mark ≡ unreached by_dart N n t 0 i
      alike i l (yes e) false q = rw (q, eq-eqb (get_or u i 0) mark e)
      alike i l (yes e) true q = absurd (reached_one T.valid S one i (reaches_reached by_dart all_ranks N n t C 0 i T.some l q) e)
      alike i l (no m) b q = rw (reached_reaches by_dart all_ranks N n t C 0 i T.some (one_reached T.valid S one i l m), ne_eqb (get_or u i 0) mark m)

      each : (i : ℕ) → i < n → eqb (get_or u i 0) mark ≡ unreached by_dart N n t 0 i
      each i l = alike i l (ℕ_discrete (get_or u i 0) mark) (reaches by_dart all_ranks N n t 0 i) refl

  abbrev joined : Verdict
  joined = bodies_verdict F n (first (numberless u) n)

  joined_on : verdict F by_dart N n 0 t (length w) ≡ joined
  joined_on = T.left ∙ ap (bodies_verdict F n) (sym found)

  -- v is the work room before it is blanked, and u' after
  module _ (v : List ℕ) {u' : List ℕ} (eu : u' ≡ blank (2 * n) v) (past : drop (2 * n) v ≡ drop (2 * n) w) where
    -- 9, or 30
    pub report_misjoined : {nr p : ℕ} → refused nr p ≡ joined → (refusal nr p ≡ report_answer F by_dart N n t w) × (u' ≡ report_work F by_dart N n t w)
    unfolding report_answer report_answer_of
    report_misjoined h = (rw (joined_on ∙ sym h), blank_over (2 * n) w v u' eu past ∙ sym T.after)

    pub report_counted : joined ≡ fine → {a : ReportAnswer} → a ≡ counted_of N n t
        → (a ≡ report_answer F by_dart N n t w) × (u' ≡ report_work F by_dart N n t w)
    unfolding report_answer report_answer_of counted_of
    report_counted h e = (rw (joined_on ∙ h, e), blank_over (2 * n) w v u' eu past ∙ sym T.after)

-- what takes a result's answer, or makes that of its refusal, takes the answer that the result makes
pub answer_taken : {a : ReportAnswer} (o : Result ReportAnswer (Refusal ℕ)) → MatchResult o (λ x. a ≡ x) (λ r. a ≡ answer_by (Err r)) → a ≡ answer_by o
answer_taken (Ok x) e = e
answer_taken (Err r) e = e

-- a report with number 0 is of a map that passes every test
pub reported : (F : Form) (N n : ℕ) (t w : List ℕ) (a : ReportAnswer) → a ≡ report_answer F by_dart N n t w → a.number ≡ 0 → Passes F by_dart N n 0 t (length w)
unfolding report_answer report_answer_of
reported F N n t w a ea h = go (verdict F by_dart N n 0 t (length w)) refl (sym (ap (λ (x : ReportAnswer). x.number) ea) ∙ h)
  where
    go : (v : Verdict) → verdict F by_dart N n 0 t (length w) ≡ v → (report_answer_of by_dart N n t v).number ≡ 0 → Passes F by_dart N n 0 t (length w)
    go fine e z = fine_passes F by_dart N n 0 t (length w) e
    go (refused nr p) e z = absurd (refused_some F by_dart N n 0 t (length w) nr p e z)

-- the report takes root 0, which is a dart wherever n is within the limits: it never gives 5
rootless_case : {F : Form} {N n room nr p : ℕ} {t : List ℕ} → Case F by_dart N n 0 t room nr p → nr ≡ 5 → n ≤ 0
rootless_case (Case.dims h) e = absurd (omega arith)
rootless_case (Case.darts h) e = absurd (omega arith)
rootless_case (Case.tables h) e = absurd (omega arith)
rootless_case (Case.work h) e = absurd (omega arith)
rootless_case (Case.rootless h) e = h
rootless_case (Case.entry i d F) e = absurd (omega arith)
rootless_case (Case.inverse i d F) e = absurd (omega arith)
rootless_case (Case.manifold k d F) e = absurd (omega arith)
rootless_case (Case.unreachable o d L) e = absurd (omega arith)
rootless_case (Case.alone o g) e = absurd (omega arith)

pub report_rooted : (F : Form) (N n : ℕ) (t w : List ℕ) → (report_answer F by_dart N n t w).number ≢ 5
unfolding report_answer report_answer_of
report_rooted F N n t w = go (verdict F by_dart N n 0 t (length w)) refl
  where
    go : (v : Verdict) → verdict F by_dart N n 0 t (length w) ≡ v → (report_answer_of by_dart N n t v).number ≢ 5
    go fine e z = absurd (omega arith)
    go (refused nr p) e z =
        let (c, none) = refused_case F by_dart N n 0 t (length w) nr p e in
        none 2 0 (omega arith) (Case.darts (λ h. omega (arith, rootless_case c z, h.0)))
