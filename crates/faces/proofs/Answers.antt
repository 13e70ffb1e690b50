-- From a verdict to the answer and the rooms.
use Prim.Native.Nat.{ℕ, ◌*◌, ◌≤◌, ◌<◌}
use mathlib.Core.Path.{◌≡◌, refl, ap, sym, ◌∙◌}
use mathlib.Core.Logic.{◌≢◌}
use mathlib.Core.List.{List}
use mathlib.Core.Bool.{Bool, true, false}
use native.Mathlib.Omega.{arith}
use lib.ListN.{length}
use lib.Dec.{eqb, ltb}
use borrow.Author.Tests.{ne_eqb, le-leb, lt-leb, eqb-true, eqb-false, ltb-false}
use Rattle.shapes.specs.declared.FacesAnswer.{FacesAnswer}
use Rattle.rules.specs.declared.Form.TheVariants.{One}
use Rattle.rules.specs.Map.{Layout, by_dart, dim_fits, darts_fit}
use Rattle.rules.specs.Refusals.{number_of, among, of_bodies}
use Rattle.rules.specs.Check.{Verdict, refuse_if, verdict, work_after}
use Rattle.shapes.specs.Text.{file}
use Rattle.shapes.specs.Faces.{refusal, read_verdict, corners_of, map_on, darts_of, faces_answer_of, tables_after, faces_answer, faces_tables, faces_work}
use Rattle.shapes.proofs.Posted.{never_alone}
use Rattle.std.specs.Prelude.{Result, Ok, Err}
use Rattle.rules.specs.declared.Reason.{Reason}
use Rattle.rules.specs.declared.Refusal.{Refusal}
use Rattle.faces.specs.Parts.{fit_of, Posts}

-- refused by another number than 9: nothing is changed
pub refused_posts : (text t work : List ℕ) (nr p : ℕ) (r : FacesAnswer) → r ≡ refusal nr p → nr ≢ 9
    → read_verdict by_dart (file text) t (length work) ≡ Verdict.refused nr p → Posts text t work r t work
unfolding refusal faces_answer faces_tables faces_work faces_answer_of tables_after work_after of_bodies among
refused_posts text t work nr p r er h e =
    let f = ne_eqb nr 30 (never_alone by_dart text t (length work) nr p e) in
    record { answer = er ∙ rw e; tables = rw (e, ne_eqb nr 9 h); room = rw (e, ne_eqb nr 9 h, f) }

-- the check's own refusals of sizes, of a map of dimension 2 from root 0
pub too_many : (Y : Layout) (n : ℕ) (t : List ℕ) (room : ℕ) → 4096 < n → verdict One Y 2 n 0 t room ≡ Verdict.refused 2 0
unfolding verdict refuse_if dim_fits darts_fit
too_many Y n t room h = rw (le-leb 1 n (omega arith), lt-leb n 4096 h)

pub misfit_verdict : (Y : Layout) (c : ℕ) (t : List ℕ) (room : ℕ) (r : Refusal ℕ) → c ≤ 2048 → Err r ≡ fit_of c (length t) room
    → verdict One Y 2 (2 * c) 0 t room ≡ Verdict.refused (number_of r.reason) r.place
unfolding verdict refuse_if dim_fits darts_fit fit_of number_of
misfit_verdict Y c t room r h e = go (eqb c 0) (ltb (length t) (6 * c)) (ltb room (4 * c)) refl refl refl
  where
    entries : 3 * (2 * c) ≡ 6 * c
    entries = omega arith

    numbers : 2 * (2 * c) ≡ 4 * c
    numbers = omega arith

    is : (n : Reason) → ◌≡◌ {A = Result (Unit {0}) (Refusal ℕ)} (Err r) (Err (record { reason = n; place = 0 })) → Verdict.refused (number_of n) 0 ≡ Verdict.refused (number_of r.reason) r.place
    is n q = let z : r ≡ record { reason = n; place = 0 } = cc in rw z

    go : (a b d : Bool) → eqb c 0 ≡ a → ltb (length t) (6 * c) ≡ b → ltb room (4 * c) ≡ d
        → verdict One Y 2 (2 * c) 0 t room ≡ Verdict.refused (number_of r.reason) r.place
    go true b d x y z =
        let w : c ≡ 0 = eqb-true c 0 x in
        rw (lt-leb 1 (2 * c) (omega arith)) (is Reason.Darts (e ∙ rw x))
    go false true d x y z =
        let w = eqb-false c 0 x in
        rw (le-leb 1 (2 * c) (omega arith), le-leb (2 * c) 4096 (omega arith), entries, y) (is Reason.ShortTables (e ∙ rw (x, y)))
    go false false true x y z =
        let w = eqb-false c 0 x in
        rw (le-leb 1 (2 * c) (omega arith), le-leb (2 * c) 4096 (omega arith), entries, y, numbers, z) (is Reason.ShortWork (e ∙ rw (x, y, z)))
    go false false false x y z = let q : ◌≡◌ {A = Result (Unit {0}) (Refusal ℕ)} (Err r) (Ok tt) = e ∙ rw (x, y, z) in cc

-- what is left where they do not refuse
pub record Fits (c : ℕ) (tables room : ℕ) : Type 0 where
  pub some : 1 ≤ c
  pub entries : 6 * c ≤ tables
  pub numbers : 4 * c ≤ room

pub misfit_none : (c tables room : ℕ) → Ok tt ≡ fit_of c tables room → Fits c tables room
unfolding fit_of
misfit_none c tables room e = go (eqb c 0) (ltb tables (6 * c)) (ltb room (4 * c)) refl refl refl
  where
    no : {A : Type 0} (r : Refusal ℕ) → ◌≡◌ {A = Result (Unit {0}) (Refusal ℕ)} (Ok tt) (Err r) → A
    no r q = cc

    go : (a b d : Bool) → eqb c 0 ≡ a → ltb tables (6 * c) ≡ b → ltb room (4 * c) ≡ d → Fits c tables room
    go true b d x y z = no (record { reason = Reason.Darts; place = 0 }) (e ∙ rw x)
    go false true d x y z = no (record { reason = Reason.ShortTables; place = 0 }) (e ∙ rw (x, y))
    go false false true x y z = no (record { reason = Reason.ShortWork; place = 0 }) (e ∙ rw (x, y, z))
    go false false false x y z =
        let w = eqb-false c 0 x in
        record { some = omega arith; entries = ltb-false tables (6 * c) y; numbers = ltb-false room (4 * c) z }

pub misfit_small : (c tables room : ℕ) (r : Refusal ℕ) → Err r ≡ fit_of c tables room → number_of r.reason ≢ 9
unfolding fit_of number_of
misfit_small c tables room r e h = go (eqb c 0) (ltb tables (6 * c)) (ltb room (4 * c)) refl refl refl
  where
    no : (n : Reason) → number_of n ≢ 9 → ◌≡◌ {A = Result (Unit {0}) (Refusal ℕ)} (Err r) (Err (record { reason = n; place = 0 })) → ⊥
    no n k q = let z : r ≡ record { reason = n; place = 0 } = cc in k (sym (ap (λ (r : Refusal ℕ). number_of r.reason) z) ∙ h)

    go : (a b d : Bool) → eqb c 0 ≡ a → ltb tables (6 * c) ≡ b → ltb room (4 * c) ≡ d → ⊥
    go true b d x y z = no Reason.Darts (λ k. omega arith) (e ∙ rw x)
    go false true d x y z = no Reason.ShortTables (λ k. omega arith) (e ∙ rw (x, y))
    go false false true x y z = no Reason.ShortWork (λ k. omega arith) (e ∙ rw (x, y, z))
    go false false false x y z = let q : ◌≡◌ {A = Result (Unit {0}) (Refusal ℕ)} (Err r) (Ok tt) = e ∙ rw (x, y, z) in cc

-- the map is in the tables, and the check answers fine or 9
pub data Ends : Verdict → Type 0 where
  fine : Ends Verdict.fine
  unreached : (d : ℕ) → Ends (Verdict.refused 9 d)

pub built_posts : (text t work : List ℕ) (r : FacesAnswer) (t' work' : List ℕ) (v : Verdict) → read_verdict by_dart (file text) t (length work) ≡ v → Ends v
    → r ≡ faces_answer_of (darts_of (corners_of (file text))) v → t' ≡ map_on by_dart (corners_of (file text)) t
    → work' ≡ work_after One by_dart 2 (darts_of (corners_of (file text))) 0 (map_on by_dart (corners_of (file text)) t) work v → Posts text t work r t' work'
unfolding faces_answer faces_tables faces_work tables_after
built_posts text t work r t' work' v e fine a b c = record { answer = a ∙ rw e; tables = b ∙ rw e; room = c ∙ rw e }
built_posts text t work r t' work' v e (unreached d) a b c = record { answer = a ∙ rw e; tables = b ∙ rw e; room = c ∙ rw e }
