-- What was in the rooms before is not read: the answer depends on the text and on the rooms' lengths alone, what is written depends on the text alone, and what
-- is past the map's entries stays. When n is told; all refusals but 9 change nothing; after 0 and 9 the rooms are the check's. Rests on Built, FaceCases,
-- Posted and the rules' Past.
use Prim.Native.Nat.{ℕ, ◌≤◌, ◌<◌}
use mathlib.Core.Path.{◌≡◌, refl, ap, sym, ◌∙◌}
use mathlib.Core.Logic.{◌≢◌, ◌⊎◌, inl, inr}
use mathlib.Core.Bool.{Bool, true, false, not, cond}
use mathlib.Core.List.{List}
use native.Mathlib.Omega.{arith}
use native.Mathlib.Decide.{dec_le}
use lib.ListN.{length, take, drop}
use lib.Seq.{take-append-le, take_all, drop_at}
use lib.Dec.{eqb}
use borrow.Author.Tests.{lt-leb, lt-ltb, ne_eqb}
use Rattle.rules.specs.declared.Form.TheVariants.{One}
use Rattle.rules.specs.declared.CheckAnswer.{CheckAnswer}
use Rattle.rules.specs.Map.{Layout, size, dim_fits, darts_fit}
use Rattle.rules.specs.Refusals.{among, of_bodies}
use Rattle.rules.specs.Check.{Verdict, refuse_if, verdict, work_after, check_answer_of, check_answer, check_work}
use Rattle.rules.proofs.Check.{refused_some}
use Rattle.rules.proofs.Places.{Alike}
use Rattle.rules.proofs.Layouts.{laid}
use Rattle.rules.proofs.Past.{check_alike}
use Rattle.shapes.specs.Text.{Read, bad, good, File, file}
use Rattle.shapes.specs.Faces.{Corner, all_corners, faces_verdict, darts_of, link_from, map_on, corners_of, read_verdict, faces_answer_of, tables_after}
use Rattle.shapes.specs.Faces.{refusal, faces_answer, faces_tables, faces_work}
use Rattle.shapes.proofs.Built.{built_is, laid_long}
use Rattle.shapes.proofs.FaceCases.{FacesDecided, faces_decided, case_number}
use Rattle.shapes.proofs.Posted.{on_length, corners_in, darts_in, tables_in, post_case, post_number, never_alone}

-- a verdict is told by the check's answer
told : (v w : Verdict) → ((nr p : ℕ) → v ≡ Verdict.refused nr p → nr ≢ 0) → ((nr p : ℕ) → w ≡ Verdict.refused nr p → nr ≢ 0)
    → check_answer_of v ≡ check_answer_of w → v ≡ w
unfolding check_answer_of
told Verdict.fine Verdict.fine f g e = refl
told Verdict.fine (Verdict.refused nr p) f g e = absurd (g nr p refl (sym (ap (λ (a : CheckAnswer). a.number) e)))
told (Verdict.refused nr p) Verdict.fine f g e = absurd (f nr p refl (ap (λ (a : CheckAnswer). a.number) e))
told (Verdict.refused nr p) (Verdict.refused nr' p') f g e =
    let a : nr ≡ nr' = ap (λ (a : CheckAnswer). a.number) e in
    let b : p ≡ p' = ap (λ (a : CheckAnswer). a.place) e in
    rw (a, b)

-- the map's entries are the same in front of any tables that hold it
module _ (Y : Layout) (cs : List Corner) (t u : List ℕ) (same : length t ≡ length u) where
  front : size 2 (darts_of cs) ≤ length t → Alike (size 2 (darts_of cs)) (map_on Y cs t) (map_on Y cs u)
  front h = one t h ∙ sym (one u (omega arith))
    where
      one : (v : List ℕ) (h : size 2 (darts_of cs) ≤ length v) → take (size 2 (darts_of cs)) (map_on Y cs v) ≡ laid Y 2 (darts_of cs) (link_from cs)
      one v h =
          let l = laid_long Y cs v h in
          ap (take (size 2 (darts_of cs))) (built_is Y cs v h)
          ∙ (take-append-le (size 2 (darts_of cs)) (laid Y 2 (darts_of cs) (link_from cs)) (drop (size 2 (darts_of cs)) v) (omega arith)
          ∙ take_all (size 2 (darts_of cs)) (laid Y 2 (darts_of cs) (link_from cs)) (omega arith))

  -- and the check does not read what is past them
  verdict_unread : (work : List ℕ) → verdict One Y 2 (darts_of cs) 0 (map_on Y cs t) (length work) ≡ verdict One Y 2 (darts_of cs) 0 (map_on Y cs u)
      (length work)
  unfolding check_answer verdict refuse_if dim_fits
  verdict_unread work = go (dec_le (size 2 (darts_of cs)) (length t))
    where
      go : Dec (size 2 (darts_of cs) ≤ length t)
          → verdict One Y 2 (darts_of cs) 0 (map_on Y cs t) (length work) ≡ verdict One Y 2 (darts_of cs) 0 (map_on Y cs u) (length work)
      go (yes h) =
          told _ _ (λ nr p e. refused_some One Y 2 (darts_of cs) 0 (map_on Y cs t) (length work) nr p e)
          (λ nr p e. refused_some One Y 2 (darts_of cs) 0 (map_on Y cs u) (length work) nr p e)
          (check_alike One Y 2 (darts_of cs) 0 (map_on Y cs t) (map_on Y cs u) work (front h)).0
      go (no h) = short (map_on Y cs t) (omega (arith, on_length Y cs t)) ∙ sym (short (map_on Y cs u) (omega (arith, on_length Y cs u)))
        where
          short : (v : List ℕ) → length v < size 2 (darts_of cs)
              → verdict One Y 2 (darts_of cs) 0 v (length work) ≡ refuse_if (not (darts_fit (darts_of cs))) 2 0 (Verdict.refused 3 0)
          short v l = rw (lt-ltb (length v) (size 2 (darts_of cs)) l)

-- the verdict of a text
read_unread : (Y : Layout) (r : Read File) (t u work x : List ℕ) → length t ≡ length u → length work ≡ length x
    → read_verdict Y r t (length work) ≡ read_verdict Y r u (length x)
unfolding read_verdict
read_unread Y (bad w) t u work x e h = refl
read_unread Y (good m p) t u work x e h =
    let cs = all_corners 0 m.faces in
    ap (faces_verdict m.vertices cs 0 0 m.faces)
    (verdict_unread Y cs t u e work ∙ ap (verdict One Y 2 (darts_of cs) 0 (map_on Y cs u)) h)

-- the answer depends on the text and the lengths
pub answer_unread : (Y : Layout) (text t u work x : List ℕ) → length t ≡ length u → length work ≡ length x
    → faces_answer Y text t work ≡ faces_answer Y text u x
unfolding faces_answer
answer_unread Y text t u work x e h = ap (faces_answer_of (darts_of (corners_of (file text)))) (read_unread Y (file text) t u work x e h)

-- what is written depends on the text: where one call leaves the map in front, so does the other, and the entries are the same
pub written_unread : (Y : Layout) (text t u work x : List ℕ) → length t ≡ length u → length work ≡ length x
    → ((faces_tables Y text t work ≡ t) × (faces_tables Y text u x ≡ u))
    ⊎ Alike (size 2 (darts_of (corners_of (file text)))) (faces_tables Y text t work) (faces_tables Y text u x)
unfolding faces_tables tables_after map_on
written_unread Y text t u work x e h = go (read_verdict Y (file text) t (length work)) (sym (read_unread Y (file text) t u work x e h))
  where
    cs : List Corner
    cs = corners_of (file text)

    both : ((map_on Y cs t ≡ t) × (map_on Y cs u ≡ u)) ⊎ Alike (size 2 (darts_of cs)) (map_on Y cs t) (map_on Y cs u)
    both = on (dec_le (size 2 (darts_of cs)) (length t))
      where
        on : Dec (size 2 (darts_of cs) ≤ length t)
            → ((map_on Y cs t ≡ t) × (map_on Y cs u ≡ u)) ⊎ Alike (size 2 (darts_of cs)) (map_on Y cs t) (map_on Y cs u)
        on (yes l) = inr (front Y cs t u e l)
        on (no l) = inl (rw (lt-leb (size 2 (darts_of cs)) (length t) (omega arith)), rw (lt-leb (size 2 (darts_of cs)) (length u) (omega arith)))

    go : (v : Verdict) → read_verdict Y (file text) u (length x) ≡ v
        → ((tables_after Y cs t v ≡ t) × (tables_after Y cs u (read_verdict Y (file text) u (length x)) ≡ u))
        ⊎ Alike (size 2 (darts_of cs)) (tables_after Y cs t v) (tables_after Y cs u (read_verdict Y (file text) u (length x)))
    go Verdict.fine q = rw q both
    go (Verdict.refused nr p) q = rw q (nine (eqb nr 9))
      where
        nine : (b : Bool) → ((cond b (map_on Y cs t) t ≡ t) × (cond b (map_on Y cs u) u ≡ u))
            ⊎ Alike (size 2 (darts_of cs)) (cond b (map_on Y cs t) t) (cond b (map_on Y cs u) u)
        nine true = both
        nine false = inl (refl, refl)

-- what is past the map's entries stays
pub past_stays : (Y : Layout) (text t work : List ℕ) → let n = darts_of (corners_of (file text)) in
    drop (size 2 n) (faces_tables Y text t work) ≡ drop (size 2 n) t
unfolding faces_tables tables_after map_on
past_stays Y text t work = go (read_verdict Y (file text) t (length work))
  where
    cs : List Corner
    cs = corners_of (file text)

    on : drop (size 2 (darts_of cs)) (map_on Y cs t) ≡ drop (size 2 (darts_of cs)) t
    on = by (dec_le (size 2 (darts_of cs)) (length t))
      where
        by : Dec (size 2 (darts_of cs) ≤ length t) → drop (size 2 (darts_of cs)) (map_on Y cs t) ≡ drop (size 2 (darts_of cs)) t
        by (yes l) =
            ap (drop (size 2 (darts_of cs))) (built_is Y cs t l)
            ∙ drop_at (laid Y 2 (darts_of cs) (link_from cs)) (drop (size 2 (darts_of cs)) t) (size 2 (darts_of cs)) (laid_long Y cs t l)
        by (no l) = rw (lt-leb (size 2 (darts_of cs)) (length t) (omega arith))

    go : (v : Verdict) → drop (size 2 (darts_of cs)) (tables_after Y cs t v) ≡ drop (size 2 (darts_of cs)) t
    go Verdict.fine = on
    go (Verdict.refused nr p) = nine (eqb nr 9)
      where
        nine : (b : Bool) → drop (size 2 (darts_of cs)) (cond b (map_on Y cs t) t) ≡ drop (size 2 (darts_of cs)) t
        nine true = on
        nine false = refl

-- n is told of an accepted file, and 0 on every refusal
pub told_darts : (Y : Layout) (text t work : List ℕ) (m : File) (p : ℕ) → file text ≡ good m p → (faces_answer Y text t work).number ≡ 0
    → (faces_answer Y text t work).darts ≡ darts_in m
unfolding faces_answer faces_answer_of refusal corners_of
told_darts Y text t work m p e z = go (read_verdict Y (file text) t (length work)) refl z ∙ rw e
  where
    go : (v : Verdict) → read_verdict Y (file text) t (length work) ≡ v → (faces_answer_of (darts_of (corners_of (file text))) v).number ≡ 0
        → (faces_answer_of (darts_of (corners_of (file text))) v).darts ≡ darts_of (corners_of (file text))
    go Verdict.fine q z = refl
    go (Verdict.refused nr r) q z = absurd (far (post_number Y text t (length work) (post_case Y text t (length work) nr r q).0))
      where
        far : ((26 ≤ nr) × (nr ≤ 29)) ⊎ (((2 ≤ nr) × (nr ≤ 4)) ⊎ (nr ≡ 9)) → ⊥
        far (inl (a, b)) = omega arith
        far (inr (inl (a, b))) = omega arith
        far (inr (inr a)) = omega arith

pub untold_darts : (Y : Layout) (text t work : List ℕ) → (faces_answer Y text t work).number ≢ 0 → (faces_answer Y text t work).darts ≡ 0
unfolding faces_answer faces_answer_of refusal
untold_darts Y text t work = go (read_verdict Y (file text) t (length work))
  where
    go : (v : Verdict) → (faces_answer_of (darts_of (corners_of (file text))) v).number ≢ 0 → (faces_answer_of (darts_of (corners_of (file text))) v).darts ≡ 0
    go Verdict.fine n = absurd (n refl)
    go (Verdict.refused nr r) n = refl

-- all refusals but 9 change nothing
pub others_leave : (Y : Layout) (text t work : List ℕ) → (faces_answer Y text t work).number ≢ 0 → (faces_answer Y text t work).number ≢ 9
    → (faces_tables Y text t work ≡ t) × (faces_work Y text t work ≡ work)
unfolding faces_answer faces_answer_of refusal faces_tables tables_after faces_work work_after
others_leave Y text t work = go (read_verdict Y (file text) t (length work)) refl
  where
    cs : List Corner
    cs = corners_of (file text)

    go : (v : Verdict) → read_verdict Y (file text) t (length work) ≡ v → (faces_answer_of (darts_of cs) v).number ≢ 0
        → (faces_answer_of (darts_of cs) v).number ≢ 9
        → (tables_after Y cs t v ≡ t) × (work_after One Y 2 (darts_of cs) 0 (map_on Y cs t) work v ≡ work)
    go Verdict.fine q n m = absurd (n refl)
    go (Verdict.refused nr p) q n m = unfold of_bodies among in
        rw (ne_eqb nr 9 m, ne_eqb nr 30 (never_alone Y text t (length work) nr p q)) (refl, refl)

-- after 0 and 9 the tables hold the map, and number, place and work room are those of its check from root 0
pub as_checked : (Y : Layout) (text t work : List ℕ) (m : File) (p : ℕ) → file text ≡ good m p
    → ((faces_answer Y text t work).number ≡ 0) ⊎ ((faces_answer Y text t work).number ≡ 9)
    → (faces_tables Y text t work ≡ tables_in Y m t)
    × (check_answer One Y 2 (darts_in m) 0 (tables_in Y m t) work
    ≡ record { number = (faces_answer Y text t work).number; place = (faces_answer Y text t work).place })
    × (faces_work Y text t work ≡ check_work One Y 2 (darts_in m) 0 (tables_in Y m t) work)
unfolding faces_answer faces_answer_of refusal faces_tables tables_after faces_work read_verdict corners_of check_answer check_answer_of check_work
as_checked Y text t work m p e o = rw e (go (faces_decided m.vertices m.faces) (rw e at o))
  where
    checked : Verdict
    checked = verdict One Y 2 (darts_in m) 0 (tables_in Y m t) (length work)

    judged : Verdict
    judged = faces_verdict m.vertices (corners_in m) 0 0 m.faces checked

    on : (v : Verdict) → ((faces_answer_of (darts_in m) v).number ≡ 0) ⊎ ((faces_answer_of (darts_in m) v).number ≡ 9)
        → ((nr p : ℕ) → v ≡ Verdict.refused nr p → nr ≢ 0) → (tables_after Y (corners_in m) t v ≡ tables_in Y m t)
        × (check_answer_of v ≡ record { number = (faces_answer_of (darts_in m) v).number; place = (faces_answer_of (darts_in m) v).place })
    on Verdict.fine o h = (refl, refl)
    on (Verdict.refused nr q) (inl z) h = absurd (h nr q refl z)
    on (Verdict.refused nr q) (inr z) h = rw z (refl, refl)

    go : FacesDecided m.vertices m.faces → ((faces_answer_of (darts_in m) judged).number ≡ 0) ⊎ ((faces_answer_of (darts_in m) judged).number ≡ 9)
        → (tables_after Y (corners_in m) t judged ≡ tables_in Y m t)
        × (check_answer_of checked ≡ record { number = (faces_answer_of (darts_in m) judged).number; place = (faces_answer_of (darts_in m) judged).place })
        × (work_after One Y 2 (darts_in m) 0 (tables_in Y m t) work judged ≡ work_after One Y 2 (darts_in m) 0 (tables_in Y m t) work checked)
    go (FacesDecided.found nr k c first q) o = absurd (far (rw (q checked) at o))
      where
        far : (nr ≡ 0) ⊎ (nr ≡ 9) → ⊥
        far (inl z) = omega (arith, (case_number m.vertices m.faces c).0)
        far (inr z) = omega (arith, (case_number m.vertices m.faces c).0)
    go (FacesDecided.none clean q) o =
        let z = q checked in
        let (x, y) = on checked (rw z at o) (λ nr p e. refused_some One Y 2 (darts_in m) 0 (tables_in Y m t) (length work) nr p e) in
        rw z (x, y, refl)
