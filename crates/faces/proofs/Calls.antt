-- Each way through the call, from what its functions answered to the answer and the rooms of the definition.
use Prim.Native.Nat.{ℕ, ◌*◌, ◌≤◌, ◌<◌}
use mathlib.Core.Path.{◌≡◌, refl, ap, sym, ◌∙◌}
use mathlib.Core.Logic.{◌≢◌, ◌⊎◌, inl, inr}
use mathlib.Core.List.{List}
use mathlib.Core.Bool.{Bool}
use native.Mathlib.Omega.{arith}
use lib.ListN.{length}
use Rattle.shapes.specs.declared.FacesAnswer.{FacesAnswer}
use Rattle.rules.specs.declared.Form.TheVariants.{One}
use Rattle.rules.specs.Lists.{count_below, first}
use Rattle.rules.specs.Map.{by_dart, size, Limits}
use Rattle.rules.specs.Check.{Verdict, verdict, check_work}
use Rattle.shapes.specs.Text.{good, file}
use Rattle.shapes.specs.Faces.{refusal, all_corners, darts_of, map_on, corners_of, read_verdict, faces_answer_of}
use Rattle.rules.proofs.Lists.{first_le}
use Rattle.shapes.proofs.Built.{built_length, built_valid}
use Rattle.shapes.proofs.Posted.{valid_verdict, on_length}
use Rattle.survey.specs.declared.Fault.{Fault}
use Rattle.survey.specs.declared.Fault.TheVariants.{Large, Poor}
use Rattle.survey.specs.declared.Flaw.{Flaw}
use Rattle.survey.specs.Flaws.{Outline, reason_of, flawed, plan}
use Rattle.std.specs.Result.{IsErrAnd}
use Rattle.std.proofs.lemmas.Result.{err_from_is_err_and}
use Rattle.std.specs.Prelude.{Result, Ok, Err, Some, None}
use Rattle.text.specs.declared.Malformed.{Malformed}
use Rattle.text.specs.Leaves.{malformed, told_of, alone}
use Rattle.text.proofs.Readings.{told_err, told_ok}
use Rattle.survey.proofs.Plans.{Filed, file_bad, file_good}
use Rattle.corners.specs.Steps.{Spot, begun, last_at}
use Rattle.sides.specs.Sides.{key_at, third_use, Kept}
use Rattle.build.specs.Parts.{Lefts, Holds, Builds}
use Rattle.rules.specs.declared.Reason.{Reason}
use Rattle.rules.specs.declared.Refusal.{Refusal}
use Rattle.rules.specs.Refusals.{number_of}
use Rattle.faces.specs.Parts.{fit_of, answer_of, Planned, Posts, Refuses, Settles}
use Rattle.faces.proofs.Told.{sound_rich}
use Rattle.faces.proofs.Judged.{file_small, judged_29, judged_flaw, Clean, judged_clean}
use Rattle.faces.proofs.Answers.{refused_posts, too_many, misfit_verdict, misfit_none, misfit_small, Ends, fine, unreached, built_posts}
use Rattle.faces.proofs.Held.{held, lefts_held}

-- what the exit of a `?` answers
pub answer_exit : (r : Result ℕ (Refusal ℕ)) (e : Refusal ℕ) → IsErrAnd r (λ y. y ≡ e) → answer_of r ≡ refusal (number_of e.reason) e.place
answer_exit r e h = let (y, p, z) = err_from_is_err_and r h in rw (p, z)

-- the first of n that passes, where it is not below n
pub past_first : (g : ℕ → Bool) (n c : ℕ) → c ≡ first g n → n ≤ c → first g n ≡ n
past_first g n c e h = omega (arith, e, first_le g n)

no_9 : (x : Fault) → number_of (reason_of x) ≢ 9
unfolding number_of
no_9 Large e = omega arith
no_9 Poor e = omega arith

module _ {text : List ℕ} {p : Outline} (planned : Planned text p) where
  filed : Filed text p planned.end
  filed = file_good text p planned.end planned.is

  pub post_29 : (c f : ℕ) → c ≡ first (third_use (key_at text (begun p.start))) p.corners → c < p.corners
      → f ≡ count_below c (last_at text (begun p.start)) → Refuses text (record { reason = Reason.Side; place = f })
  unfolding number_of
  post_29 c f ec h ef =
      record {
        is = λ t work. refused_posts text t work 29 f (refusal 29 f) refl (λ e. omega arith)
            (judged_29 text p planned.end filed c ec h by_dart t (length work) ∙ ap (Verdict.refused 29) (sym ef));
      }

  module _ (none : first (third_use (key_at text (begun p.start))) p.corners ≡ p.corners) where
    pub post_flaw : (w : Flaw) → p.flaw ≡ Some w → Refuses text (flawed w)
    post_flaw w h =
        record {
          is = λ t work. refused_posts text t work (number_of (reason_of w.fault)) w.face (refusal (number_of (reason_of w.fault)) w.face) refl (no_9 w.fault)
              (judged_flaw text p planned.end filed none w h by_dart t (length work));
        }

    module _ (sound : p.flaw ≡ None) where
      clean : Clean text p planned.end filed none
      clean = judged_clean text p planned.end filed none sound

      darts : darts_of (all_corners 0 filed.what.faces) ≡ 2 * p.corners
      unfolding darts_of
      darts = ap (λ (n : ℕ). 2 * n) clean.corners

      pub post_many : 2048 < p.corners → Refuses text (record { reason = Reason.Darts; place = 0 })
      unfolding number_of
      post_many h =
          record {
            is = λ t work. refused_posts text t work 2 0 (refusal 2 0) refl (λ e. omega arith)
                (clean.verdict by_dart t (length work) ∙ too_many by_dart _ _ _ (omega (arith, darts)));
          }

      module _ (few : p.corners ≤ 2048) where
        post_misfit : (t work : List ℕ) (r : Refusal ℕ) → Err r ≡ fit_of p.corners (length t) (length work)
            → Posts text t work (refusal (number_of r.reason) r.place) t work
        post_misfit t work r e =
            let cs = all_corners 0 filed.what.faces in
            let long : length (map_on by_dart cs t) ≡ length t = on_length by_dart cs t in
            refused_posts text t work (number_of r.reason) r.place (refusal (number_of r.reason) r.place) refl (misfit_small p.corners (length t) (length work) r e)
            (clean.verdict by_dart t (length work)
            ∙ (ap (λ (n : ℕ). verdict One by_dart 2 n 0 (map_on by_dart cs t) (length work)) darts
            ∙ misfit_verdict by_dart p.corners (map_on by_dart cs t) (length work) r few (e ∙ rw (← long))))

        module _ {twins owns lefts : List ℕ} (kept : Kept text (begun p.start) twins owns lefts p.corners) where
          all_kept : Kept text (begun p.start) twins owns lefts (length (all_corners 0 filed.what.faces))
          all_kept = rw clean.corners kept

          small : filed.what.vertices ≤ 4294967296
          small = omega (arith, file_small text filed.what planned.end filed.is)

          holds : Holds filed.what.faces twins owns lefts
          holds =
              held text filed.what.faces filed.what.vertices filed.count p.start planned.end clean.sound small filed.faces
              (omega (arith, clean.corners)) clean.twice all_kept

          pub post_lefts : Lefts lefts p.corners
          post_lefts =
              rw clean.corners at
              (lefts_held text filed.what.faces filed.what.vertices filed.count p.start planned.end clean.sound small filed.faces
              (omega (arith, clean.corners)) clean.twice all_kept)

          pub post_built : (t work t' work' : List ℕ) (r : FacesAnswer) → Ok tt ≡ fit_of p.corners (length t) (length work)
              → Builds twins owns lefts p.corners t t' → r ≡ faces_answer_of (2 * p.corners) (verdict One by_dart 2 (2 * p.corners) 0 t' (length work))
              → work' ≡ check_work One by_dart 2 (2 * p.corners) 0 t' work → Posts text t work r t' work'
          unfolding check_work corners_of
          post_built t work t' work' r fits b er ew =
              let fs = filed.what.faces in
              let cs = all_corners 0 fs in
              let z : t' ≡ map_on by_dart cs t = b.is fs holds clean.corners in
              let q : corners_of (file text) ≡ cs = ap corners_of filed.is in
              let fit = misfit_none p.corners (length t) (length work) fits in
              let room : size 2 (darts_of cs) ≤ length t = rw darts (omega (arith, fit.entries)) in
              let valid = built_valid by_dart fs t (sound_rich clean.sound) clean.twice room in
              let limits : Limits 2 (darts_of cs) (map_on by_dart cs t)
              = record {
                dims = (omega arith, omega arith);
                darts = (omega (arith, darts, fit.some), omega (arith, darts));
                room = rw (built_length by_dart cs t room) room;
              } in
              let v = verdict One by_dart 2 (darts_of cs) 0 (map_on by_dart cs t) (length work) in
              let same : verdict One by_dart 2 (2 * p.corners) 0 t' (length work) ≡ v = rw (z, darts) in
              built_posts text t work r t' work' v (clean.verdict by_dart t (length work))
              (ends v (valid_verdict by_dart 2 (darts_of cs) (map_on by_dart cs t) (length work) limits (omega (arith, darts, fit.numbers)) valid))
              (er ∙ rw (q, same, darts)) (z ∙ rw q) (ew ∙ rw (q, same, z, darts))
            where
              ends : (v : Verdict) → (v ≡ Verdict.fine) ⊎ ((d : ℕ) × (v ≡ Verdict.refused 9 d)) → Ends v
              ends v (inl e) = rw e fine
              ends v (inr (d, e)) = rw e (unreached d)

-- the ways through `settled`
module _ (p : Outline) (twins owns lefts t work : List ℕ) where
  pub settles_flaw : (w : Flaw) → p.flaw ≡ Some w → Settles p twins owns lefts t work (answer_of (Err (flawed w))) t work
  settles_flaw w h = record { is = λ text planned none kept. (post_flaw planned none w h).is t work }

  module _ (sound : p.flaw ≡ None) (few : p.corners ≤ 2048) where
    pub settles_misfit : (r : Refusal ℕ) → Err r ≡ fit_of p.corners (length t) (length work) → Settles p twins owns lefts t work (answer_of (Err r)) t work
    settles_misfit r e = record { is = λ text planned none kept. post_misfit planned none sound few t work r e }

    pub settles_built : (t' work' : List ℕ) (r : FacesAnswer) → Ok tt ≡ fit_of p.corners (length t) (length work)
        → Builds twins owns lefts p.corners t t' → r ≡ faces_answer_of (2 * p.corners) (verdict One by_dart 2 (2 * p.corners) 0 t' (length work))
        → work' ≡ check_work One by_dart 2 (2 * p.corners) 0 t' work → Settles p twins owns lefts t work r t' work'
    settles_built t' work' r fits b er ew =
        record { is = λ text planned none kept. post_built planned none sound few kept t work t' work' r fits b er ew }

-- all corners were loaded, and are kept
pub loaded_kept : (text : List ℕ) (from : Spot) (twins owns lefts : List ℕ) (count n : ℕ) {A B : Type 0}
    → (count ≡ first (third_use (key_at text from)) n) × (count ≡ n → A × Kept text from twins owns lefts n × B) → n ≤ count → Kept text from twins owns lefts n
loaded_kept text from twins owns lefts count n l h = (l.1 (l.0 ∙ past_first (third_use (key_at text from)) n count l.0 h)).1

-- what the outline says of the text
pub outline_good : (text : List ℕ) (p : Outline) → Ok p ≡ told_of alone (plan text) → Planned text p
outline_good text p e = let q = told_ok alone (plan text) p e in record { end = q.after; is = q.is ∙ ap (λ (b : Outline). good b q.after) (sym q.says) }

pub post_26 : (text : List ℕ) (e : Malformed) → Err e ≡ told_of alone (plan text) → Refuses text (malformed e)
unfolding read_verdict number_of
post_26 text e q =
    let z = file_bad text e.0 (told_err alone (plan text) e q) in
    record { is = λ t work. refused_posts text t work 26 e.0 (refusal 26 e.0) refl (λ h. omega arith) (rw z) }
