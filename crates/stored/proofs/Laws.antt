-- What each function of the code tells of the record and of the answers, over plain numbers. Rests on the rules' Lists.
use Prim.Native.Nat.{ℕ, zero, suc, ◌+◌, ◌-◌, ◌≤◌, ◌<◌}
use mathlib.Core.Path.{◌≡◌, refl, ap, sym, ◌∙◌}
use mathlib.Core.Logic.{◌≢◌}
use mathlib.Core.Bool.{Bool, true, false, ◌&&◌, ◌||◌, cond}
use mathlib.Core.List.{List, [], ◌∷◌, ◌++◌}
use native.Mathlib.Omega.{arith}
use lib.ListN.{length, get_or, take, drop, length-drop}
use lib.Seq.{drop-cons, get_or-drop, take-length}
use lib.Dec.{ltb}
use borrow.Author.Tests.{ne_eqb, lt-ltb, le-ltb, lt-leb, le-leb, ltb-true, leb-true}
use mir.Val.{bool_byte}
use Rattle.rules.specs.declared.Session.{Session}
use Rattle.rules.specs.declared.State.{State}
use Rattle.rules.specs.declared.State.TheVariants.{Refused}
use Rattle.rules.specs.declared.Form.{Form}
use Rattle.rules.specs.declared.ReportAnswer.{ReportAnswer}
use Rattle.rules.proofs.Lists.{and_left, and_right, entries, seven}
use Rattle.stored.specs.Answers.{report_numbers}
use Rattle.stored.specs.Layout.{state_number, refusal_number, refusal_place, form_number, after_state, stored_session}
use Rattle.stored.specs.Layout.{state_by, form_by, positions_by, session_by, state_stands, form_stands, all_narrow, standing}
use Rattle.stored.specs.Layout.{after_by, state_in, form_in, narrow_in, session_in}
use Rattle.std.specs.Prelude.{Some, None}

-- k entries from i on are a part of the list
entries_part : (k i : ℕ) (r : List ℕ) → i + k ≤ length r → entries k i r ≡ take k (drop i r)
unfolding entries
entries_part zero i r h = refl
entries_part (suc k) i r h = rw (drop-cons r i 0 (omega arith)) (ap (λ (l : List ℕ). get_or r i 0 ∷ l) (entries_part k (suc i) r (omega arith)))

-- the seven positions one by one
pub positions_by_lem : (r : List ℕ) → 13 ≤ length r
    → (get_or r 6 0 ∷ get_or r 7 0 ∷ get_or r 8 0 ∷ get_or r 9 0 ∷ get_or r 10 0 ∷ get_or r 11 0 ∷ get_or r 12 0 ∷ []) ≡ positions_by r
unfolding entries
positions_by_lem r h = entries_part 7 6 r h

-- seven entries in front of a list
seven_and : (p q : List ℕ) → length p ≡ 7
    → (get_or p 0 0 ∷ get_or p 1 0 ∷ get_or p 2 0 ∷ get_or p 3 0 ∷ get_or p 4 0 ∷ get_or p 5 0 ∷ get_or p 6 0 ∷ q) ≡ p ++ q
seven_and p q e = ap (λ l. l ++ q) (seven p e)

-- a session as the code stores it
pub stored_by : (s : Session) → length s.positions ≡ 7 → (l p : List ℕ) → (N n c w v f b : ℕ)
    → l ≡ (state_number s.state ∷ refusal_number s.state ∷ refusal_place s.state ∷ []) → p ≡ s.positions → N ≡ s.dim → n ≡ s.darts → c ≡ s.count
    → w ≡ s.waiting → v ≡ s.value → f ≡ form_number s.form → b ≡ s.bodies
    → (get_or l 0 0 ∷ get_or l 1 0 ∷ get_or l 2 0 ∷ N ∷ n ∷ c ∷ get_or p 0 0 ∷ get_or p 1 0 ∷ get_or p 2 0 ∷ get_or p 3 0 ∷ get_or p 4 0 ∷ get_or p 5 0
    ∷ get_or p 6 0 ∷ w ∷ v ∷ f ∷ b ∷ []) ≡ stored_session s
unfolding stored_session after_state
stored_by s e l p N n c w v f b el ep eN en ec ew ev ef eb =
    rw (el, ep, eN, en, ec, ew, ev, ef, eb, seven_and s.positions (s.waiting ∷ s.value ∷ form_number s.form ∷ s.bodies ∷ []) e)

-- a report as the code stores it
bit_of : (b : Bool) → bool_byte b ≡ cond b 1 0
bit_of true = refl
bit_of false = refl

pub reported_by : (a : ReportAnswer) → length a.cells ≡ 7 → (o : ℕ) → o ≡ bool_byte a.orientable
    → (a.number ∷ a.place ∷ get_or a.cells 0 0 ∷ get_or a.cells 1 0 ∷ get_or a.cells 2 0 ∷ get_or a.cells 3 0 ∷ get_or a.cells 4 0
    ∷ get_or a.cells 5 0 ∷ get_or a.cells 6 0 ∷ a.free ∷ o ∷ []) ≡ report_numbers a
unfolding report_numbers
reported_by a e o eo = rw (eo, bit_of a.orientable, seven_and a.cells (a.free ∷ cond a.orientable 1 0 ∷ []) e)

-- a test that fails after another
and_no : (a : Bool) → (a && false) ≡ false
and_no true = refl
and_no false = refl

or_yes : (a : Bool) → (a || true) ≡ true
or_yes true = refl
or_yes false = refl

-- the state of three numbers, if one stands for them
module _ (k nr p : ℕ) where
  pub state_over : 4 < k → state_in k nr p ≡ None
  unfolding state_in state_stands
  state_over h = rw (lt-leb k 4 h)

  pub state_numbered : k ≢ 4 → nr ≢ 0 → state_in k nr p ≡ None
  unfolding state_in state_stands
  state_numbered e q = rw (ne_eqb k 4 e, ne_eqb nr 0 q, and_no)

  pub state_placed : k ≢ 4 → p ≢ 0 → state_in k nr p ≡ None
  unfolding state_in state_stands
  state_placed e q = rw (ne_eqb k 4 e, ne_eqb p 0 q, and_no, and_no)

  pub state_refused : k ≡ 4 → state_in k nr p ≡ Some (Refused nr p)
  unfolding state_in state_stands
  state_refused e = rw e

  pub state_plain : k ≤ 3 → nr ≡ 0 → p ≡ 0 → state_in k nr p ≡ Some (state_by k 0 0)
  unfolding state_in state_stands
  state_plain h e q = rw (e, q, le-leb k 4 (omega arith), or_yes)

-- by which `state_in` is proved
pub ruleset states = (state_over, state_numbered, state_placed, state_refused, state_plain)

-- the form of a number, if one stands for it
module _ (k : ℕ) where
  pub form_none : 1 < k → form_in k ≡ None
  unfolding form_in form_stands
  form_none h = rw (lt-leb k 1 h)

  pub form_some : k ≤ 1 → form_in k ≡ Some (form_by k)
  unfolding form_in form_stands
  form_some h = rw (le-leb k 1 h)

-- by which `form_in` is proved
pub ruleset forms = (form_none, form_some)

-- a number that has at most 16 bits, and one that has more
pub narrow_few : (x : ℕ) → x < 65536 → Some x ≡ narrow_in x
unfolding narrow_in
narrow_few x h = rw (lt-ltb x 65536 h)

pub narrow_many : (x : ℕ) → (x < 65536 → ⊥) → None ≡ narrow_in x
unfolding narrow_in
narrow_many x h = rw (le-ltb x 65536 (omega (arith, h)))

narrow_at : (l : List ℕ) → all_narrow l ≡ true → (k : ℕ) → get_or l k 0 < 65536
unfolding all_narrow
narrow_at [] h k = omega arith
narrow_at (x ∷ l) h zero = ltb-true x 65536 (and_left (ltb x 65536) (all_narrow l) h)
narrow_at (x ∷ l) h (suc k) = narrow_at l (and_right (ltb x 65536) (all_narrow l) h) k

-- what an answer that hangs on a test tells of the test
no_answer : {A : Type 0} (b : Bool) (x : A) → cond b (Some x) None ≡ None → b ≡ false
no_answer true x e = cc
no_answer false x e = refl

an_answer : {A : Type 0} (b : Bool) (x y : A) → cond b (Some x) None ≡ Some y → (b ≡ true) × (x ≡ y)
an_answer true x y e = (refl, cc)
an_answer false x y e = cc

-- a record that no session stands for: its state does not, its form does not, or a number after the state has more than 16 bits
module _ (r : List ℕ) where
  pub no_state : state_in (get_or r 0 0) (get_or r 1 0) (get_or r 2 0) ≡ None → session_in r ≡ None
  unfolding session_in state_in standing
  no_state e = rw (no_answer _ _ e)

  pub no_form : form_in (get_or r 15 0) ≡ None → session_in r ≡ None
  unfolding session_in form_in standing
  no_form e = rw (no_answer _ _ e, and_no)

  pub no_number : (k : ℕ) → 3 ≤ k → narrow_in (get_or r k 0) ≡ None → session_in r ≡ None
  unfolding session_in narrow_in standing
  no_number k l e = go (all_narrow (after_by r)) refl
    where
      go : (b : Bool) → all_narrow (after_by r) ≡ b → session_in r ≡ None
      go true q =
          let m : 3 + (k - 3) ≡ k = omega arith in
          let h = rw (get_or-drop 3 r (k - 3) 0, m) at (narrow_at (drop 3 r) q (k - 3)) in
          absurd (let f = no_answer _ _ e in let g = lt-ltb _ _ h in cc)
      go false q = rw (q, and_no)

-- by which `session_in` is proved where it finds none
pub ruleset no_session = (no_state, no_form, no_number)

narrow_told : {x y : ℕ} → Some y ≡ narrow_in x → (ltb x 65536 ≡ true) × (x ≡ y)
unfolding narrow_in
narrow_told {x} e = an_answer (ltb x 65536) _ _ (sym e)

-- the session of a record of whose numbers each is told
module _ (r : List ℕ) (long : length r ≡ 17) {st : State} {F : Form} {dim darts count p0 p1 p2 p3 p4 p5 p6 waiting value bodies : ℕ} where
  pub the_session : Some st ≡ state_in (get_or r 0 0) (get_or r 1 0) (get_or r 2 0)
      → Some dim ≡ narrow_in (get_or r 3 0)
      → Some darts ≡ narrow_in (get_or r 4 0)
      → Some count ≡ narrow_in (get_or r 5 0)
      → Some p0 ≡ narrow_in (get_or r 6 0)
      → Some p1 ≡ narrow_in (get_or r 7 0)
      → Some p2 ≡ narrow_in (get_or r 8 0)
      → Some p3 ≡ narrow_in (get_or r 9 0)
      → Some p4 ≡ narrow_in (get_or r 10 0)
      → Some p5 ≡ narrow_in (get_or r 11 0)
      → Some p6 ≡ narrow_in (get_or r 12 0)
      → Some waiting ≡ narrow_in (get_or r 13 0)
      → Some value ≡ narrow_in (get_or r 14 0)
      → Some F ≡ form_in (get_or r 15 0)
      → Some bodies ≡ narrow_in (get_or r 16 0)
      → Some (record {
        state = st;
        dim = dim;
        darts = darts;
        count = count;
        positions = p0 ∷ p1 ∷ p2 ∷ p3 ∷ p4 ∷ p5 ∷ p6 ∷ [];
        waiting = waiting;
        value = value;
        form = F;
        bodies = bodies;
      }) ≡ session_in r
  unfolding session_in session_by state_in form_in form_stands standing all_narrow entries
  the_session es e3 e4 e5 e6 e7 e8 e9 e10 e11 e12 e13 e14 ef e16 =
      let s = an_answer (state_stands (get_or r 0 0) (get_or r 1 0) (get_or r 2 0)) _ _ (sym es) in
      let f = an_answer (form_stands (get_or r 15 0)) _ _ (sym ef) in
      let low = leb-true (get_or r 15 0) 1 f.0 in
      let fourteen : length (drop 3 r) ≡ 14 = omega (arith, length-drop 3 r) in
      let whole = rw fourteen at (take-length (drop 3 r)) in
      let each : entries 14 3 r ≡ drop 3 r = entries_part 14 3 r (omega arith) ∙ whole in
      let narrow : all_narrow (drop 3 r) ≡ true =
      rw (
        ← each,
        (narrow_told e3).0,
        (narrow_told e4).0,
        (narrow_told e5).0,
        (narrow_told e6).0,
        (narrow_told e7).0,
        (narrow_told e8).0,
        (narrow_told e9).0,
        (narrow_told e10).0,
        (narrow_told e11).0,
        (narrow_told e12).0,
        (narrow_told e13).0,
        (narrow_told e14).0,
        lt-ltb (get_or r 15 0) 65536 (omega arith),
        (narrow_told e16).0,
      ) in
      rw (
        s.0,
        f.0,
        narrow,
        s.1,
        f.1,
        ← positions_by_lem r (omega arith),
        (narrow_told e3).1,
        (narrow_told e4).1,
        (narrow_told e5).1,
        (narrow_told e6).1,
        (narrow_told e7).1,
        (narrow_told e8).1,
        (narrow_told e9).1,
        (narrow_told e10).1,
        (narrow_told e11).1,
        (narrow_told e12).1,
        (narrow_told e13).1,
        (narrow_told e14).1,
        (narrow_told e16).1,
      )

-- the session of a record that stands
pub session_here : (r : List ℕ) → standing r ≡ true → session_in r ≡ Some (session_by r)
unfolding session_in
session_here r e = rw e

-- a refusal's number, and each beyond it, is a refusal's
pub refused_by_lem : (k nr p : ℕ) → 3 < k → Refused nr p ≡ state_by k nr p
refused_by_lem zero nr p h = absurd (omega arith)
refused_by_lem (suc zero) nr p h = absurd (omega arith)
refused_by_lem (suc (suc zero)) nr p h = absurd (omega arith)
refused_by_lem (suc (suc (suc zero))) nr p h = absurd (omega arith)
refused_by_lem (suc (suc (suc (suc k)))) nr p h = refl

-- a session by its state, positions and form
pub session_by_lem : (r : List ℕ) (st : State) (p : List ℕ) (F : Form)
    → st ≡ state_by (get_or r 0 0) (get_or r 1 0) (get_or r 2 0) → p ≡ positions_by r → F ≡ form_by (get_or r 15 0)
    → ◌≡◌ {A = Session} (record {
      state = st;
      dim = get_or r 3 0;
      darts = get_or r 4 0;
      count = get_or r 5 0;
      positions = p;
      waiting = get_or r 13 0;
      value = get_or r 14 0;
      form = F;
      bodies = get_or r 16 0;
    }) (session_by r)
unfolding session_by
session_by_lem r st p F es ep ef = rw (es, ep, ef) refl
