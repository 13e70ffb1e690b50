-- What a session, an answer and tables leave, one way through the code at a time: refused and spoiled, held, the walk's end, and where a run leaves off.
use Prim.Native.Nat.{ℕ, suc, ◌+◌, ◌*◌, ◌/◌, ◌%◌, ◌≤◌}
use Rattle.std.specs.Prelude.{Result, Ok, Err}
use mathlib.Core.Path.{◌≡◌, refl, ap, sym, ◌∙◌}
use mathlib.Core.Logic.{◌≢◌}
use mathlib.Core.Bool.{Bool, true, false, not}
use mathlib.Core.List.{List}
use native.Mathlib.Omega.{arith}
use lib.ListN.{length, take}
use lib.Dec.{eqb}
use borrow.Author.Tests.{eqb-true, eq-eqb, ne_eqb, not-true, not-false}
use Rattle.rules.specs.declared.Form.{Form}
use Rattle.rules.specs.declared.Form.TheVariants.{One, Several}
use Rattle.rules.specs.declared.Session.{Session}
use Rattle.rules.specs.declared.ReadAnswer.{ReadAnswer}
use Rattle.rules.specs.declared.State.TheVariants as state
use Rattle.rules.specs.Lists.{sum}
use Rattle.rules.specs.Map.{by_dart, Limits, blank, pairs_of, first_broken}
use Rattle.rules.specs.Bodies.{several, end_number}
use Rattle.rules.specs.Walk.{Walk, link_of, steps}
use Rattle.rules.specs.Inner.{gone}
use Rattle.rules.proofs.Positions.{over}
use Rattle.rules.proofs.Runs.{ran_ended}
use Rattle.tables.specs.Darts.{Inside}
use Rattle.rules.specs.Stream.{value}
use Rattle.rules.specs.Reading.{Run, run_all, Reading, spoiled, test, bodies_found, manifold, finish, settle, good_answer, plain_answer, answer_of, tables_of}
use Rattle.rules.specs.Session.{Left, idle, held, store, leaves, walk_at}
use Rattle.symbols.specs.declared.bits.Bits.{Bits}
use Rattle.symbols.specs.Cursors.{at_hand}
use Rattle.symbols.specs.Bits.{of}
use Rattle.rules.specs.declared.Stand.{Stand}
use Rattle.runs.specs.declared.Ran.{Ran}
use Rattle.runs.specs.declared.Stop.{Stop}
use Rattle.runs.specs.declared.Stop.TheVariants.{Waits, Refused}
use Rattle.runs.specs.Runs.{signal_run, told_run, Runs}
use Rattle.records.specs.declared.Answered.{Answered}
use Rattle.records.specs.Lefts.{left_by, idle_by, held_by, good_by, found_by, Settles}

left_of : (r : Answered ReadAnswer) (t' : List ℕ) (s : Session) (a : ReadAnswer) (t : List ℕ) → r.session ≡ s → r.answer ≡ a → t' ≡ t
    → left_by r t' ≡ record { session = s; answer = a; tables = t }
unfolding left_by
left_of r t' s a t p q e = λ i. record { session = p i; answer = q i; tables = e i }

-- refused, and the map's entries are the mark
pub spoiled_left : (nr N n : ℕ) (s : Stand) (t t' : List ℕ) (r : Answered ReadAnswer) (p : ℕ) → p ≡ sum s.positions → t' ≡ blank ((N + 1) * n) t
    → (r.session ≡ idle_by (state.Refused nr p) 0 0) × (r.answer ≡ plain_answer nr p) → left_by r t' ≡ leaves (spoiled nr (walk_at by_dart N n s t)) t
unfolding leaves store idle answer_of tables_of spoiled steps walk_at value
spoiled_left nr N n s t t' r p ep et h =
    let k : (N + 1) * n ≡ suc N * n = ap (λ (x : ℕ). x * n) (omega arith) in
    left_of r t' (idle_by (state.Refused nr (sum s.positions)) 0 0) (plain_answer nr (sum s.positions)) (blank (suc N * n) t)
    (h.0 ∙ ap (λ (x : ℕ). idle_by (state.Refused nr x) 0 0) ep)
    (h.1 ∙ ap (λ (x : ℕ). plain_answer nr x) ep)
    (et ∙ ap (λ (x : ℕ). blank x t) k)

-- a walk is held
module _ (N n : ℕ) (s : Stand) (t : List ℕ) (r : Answered ReadAnswer) (answers : r.answer ≡ good_by N n s) where
  pub complete_left : r.session ≡ held_by state.Complete N n s 0 0 → left_by r t ≡ leaves (Reading.complete (walk_at by_dart N n s t)) t
  unfolding leaves store held answer_of good_answer tables_of steps walk_at value
  complete_left e =
      left_of r t (held_by state.Complete N n s 0 0) (good_by N n s) t e answers refl

  pub running_left : (bs : List Bool) (k v : ℕ) → k ≡ length bs → v ≡ value bs → r.session ≡ held_by state.Running N n s k v
      → left_by r t ≡ leaves (Reading.running (walk_at by_dart N n s t) bs) t
  unfolding leaves store held answer_of good_answer tables_of steps walk_at
  running_left bs k v ek ev e =
      left_of r t (held_by state.Running N n s (length bs) (value bs)) (good_by N n s) t
      (e ∙ (ap (λ (x : ℕ). held_by state.Running N n s x v) ek ∙ ap (λ (x : ℕ). held_by state.Running N n s (length bs) x) ev)) answers refl

-- at an end with the bodies of its form every dart is numbered: one body is tested for it, and of several it is known before
pub found_whole : (F : Form) (B k n : ℕ) → found_by F B k n ≡ true → (several F ≡ true → k ≡ n) → k ≡ n
unfolding bodies_found walk_at several
found_whole One B k n e w = eqb-true k n e
found_whole Several B k n e w = w refl

-- the walk's end, test by test
module _ (N n : ℕ) (s : Stand) (t : List ℕ) (bs : List Bool) (r : Answered ReadAnswer) (t' : List ℕ) (f : Bool) (ef : f ≡ found_by s.form s.bodies s.count n) where
  way_bodies : not f ≡ true → finish (walk_at by_dart N n s t) bs ≡ spoiled (end_number s.form) (walk_at by_dart N n s t)
  unfolding finish test bodies_found walk_at
  way_bodies h = rw (sym ef ∙ not-true f h)

  pub end_bodies : not f ≡ true → (nr : ℕ) → nr ≡ end_number s.form → left_by r t' ≡ leaves (spoiled nr (walk_at by_dart N n s t)) t
      → left_by r t' ≡ leaves (finish (walk_at by_dart N n s t) bs) t
  end_bodies h nr q e =
      let w = walk_at by_dart N n s t in
      e ∙ (ap (λ (y : ℕ). leaves (spoiled y w) t) q ∙ ap (λ (y : Reading). leaves y t) (sym (way_bodies h)))

  module _ (found : not f ≡ false) (b : ℕ) (eb : b ≡ first_broken by_dart N n t (pairs_of N)) where
    way_16 : b ≢ n → finish (walk_at by_dart N n s t) bs ≡ spoiled 16 (walk_at by_dart N n s t)
    unfolding finish test bodies_found walk_at manifold
    way_16 h = rw (sym ef ∙ not-false f found, ← eb, ne_eqb b n h)

    pub end_16 : b ≢ n → left_by r t' ≡ leaves (spoiled 16 (walk_at by_dart N n s t)) t → left_by r t' ≡ leaves (finish (walk_at by_dart N n s t) bs) t
    end_16 h e = e ∙ ap (λ (y : Reading). leaves y t) (sym (way_16 h))

    module _ (whole : b ≡ n) (x : Bool) (ex : not x ≡ eqb (value (take (length bs % 8) bs)) 0) where
      way_17 : x ≡ true → finish (walk_at by_dart N n s t) bs ≡ spoiled 17 (walk_at by_dart N n s t)
      unfolding finish test bodies_found walk_at manifold
      way_17 h = rw (sym ef ∙ not-false f found, ← eb, eq-eqb b n whole, ← ex, h)

      pub end_17 : x ≡ true → left_by r t' ≡ leaves (spoiled 17 (walk_at by_dart N n s t)) t → left_by r t' ≡ leaves (finish (walk_at by_dart N n s t) bs) t
      end_17 h e = e ∙ ap (λ (y : Reading). leaves y t) (sym (way_17 h))

      module _ (zero : x ≡ false) (g : Bool) (eg : not g ≡ eqb (length bs / 8) 0) where
        way_18 : g ≡ true → finish (walk_at by_dart N n s t) bs ≡ spoiled 18 (walk_at by_dart N n s t)
        unfolding finish test bodies_found walk_at manifold
        way_18 h = rw (sym ef ∙ not-false f found, ← eb, eq-eqb b n whole, ← ex, zero, ← eg, h)

        pub end_18 : g ≡ true → left_by r t' ≡ leaves (spoiled 18 (walk_at by_dart N n s t)) t → left_by r t' ≡ leaves (finish (walk_at by_dart N n s t) bs) t
        end_18 h e = e ∙ ap (λ (y : Reading). leaves y t) (sym (way_18 h))

        way_complete : g ≡ false → finish (walk_at by_dart N n s t) bs ≡ Reading.complete (walk_at by_dart N n s t)
        unfolding finish test bodies_found walk_at manifold
        way_complete h = rw (sym ef ∙ not-false f found, ← eb, eq-eqb b n whole, ← ex, zero, ← eg, h)

        pub end_complete : g ≡ false → left_by r t' ≡ leaves (Reading.complete (walk_at by_dart N n s t)) t
            → left_by r t' ≡ leaves (finish (walk_at by_dart N n s t) bs) t
        end_complete h e = e ∙ ap (λ (y : Reading). leaves y t) (sym (way_complete h))

-- where a run leaves off, by its signal
module _ (w : Walk) (bs : List Bool) (t : List ℕ) (l : Left) (x : Result (Unit {0}) Stop) where
  pub settled_refused : (nr : ℕ) → x ≡ Err (Refused nr) → l ≡ leaves (spoiled nr w) t → l ≡ leaves (settle (signal_run x w bs)) t
  unfolding settle signal_run
  settled_refused nr q e = rw q e

  pub settled_ended : x ≡ Ok tt → l ≡ leaves (finish w bs) t → l ≡ leaves (settle (signal_run x w bs)) t
  unfolding settle signal_run
  settled_ended q e = rw q e

  pub settled_waits : (k : ℕ) → x ≡ Err (Waits k) → l ≡ leaves (Reading.running w bs) t → l ≡ leaves (settle (signal_run x w bs)) t
  unfolding settle signal_run
  settled_waits k q e = rw q e

-- after a run the tables as they stood no longer matter
test_same : (b : Bool) (nr : ℕ) (w : Walk) (x : Reading) (t u : List ℕ) → leaves x t ≡ leaves x u → leaves (test b nr w x) t ≡ leaves (test b nr w x) u
unfolding test leaves tables_of spoiled
test_same true nr w x t u e = e
test_same false nr w x t u e = refl

pub settle_same : (x : Run) (t u : List ℕ) → leaves (settle x) t ≡ leaves (settle x) u
unfolding settle finish leaves tables_of spoiled
settle_same (Run.ended w bs) t u =
    test_same (bodies_found w) (end_number w.form) w
    (test (manifold w) 16 w (test (eqb (value (take (length bs % 8) bs)) 0) 17 w (test (eqb (length bs / 8) 0) 18 w (Reading.complete w)))) t u
    (test_same (manifold w) 16 w (test (eqb (value (take (length bs % 8) bs)) 0) 17 w (test (eqb (length bs / 8) 0) 18 w (Reading.complete w))) t u
    (test_same (eqb (value (take (length bs % 8) bs)) 0) 17 w (test (eqb (length bs / 8) 0) 18 w (Reading.complete w)) t u
    (test_same (eqb (length bs / 8) 0) 18 w (Reading.complete w) t u refl)))
settle_same (Run.waits w bs) t u = refl
settle_same (Run.refused nr w) t u = refl

-- a run, and where it leaves the session
module _ (N n : ℕ) (s : Stand) (c : Bits) (t : List ℕ) (dims : 1 ≤ N) (r : Ran) (t' : List ℕ) (h : Runs N n s c t r t') where
  run_limits : Limits N n t'
  unfolding walk_at
  run_limits =
      let x = h.inv.shape in
      record { dims = (dims, x.ranks); darts = (omega (arith, x.some, x.within), x.small); room = x.table }

  -- at the walk's end every link of a numbered dart is known, and is a numbered dart
  run_inside : r.signal ≡ Ok tt → r.stand.count ≡ n → Inside N n t'
  unfolding walk_at run_all signal_run link_of gone
  run_inside e q = record {
    inside = λ i d hi hd.
        let w = walk_at by_dart N n r.stand t' in
        let v = h.inv in
        let o = (ran_ended _ _ _ w _ (sym (rw e at h.tells))).1 in
        let k = v.links.behind i d hi (omega (arith, over w v.shape o i hi)) in
        omega (arith, v.links.far i d hi hd k);
  }

  pub run_settles : Settles N n r t'
  run_settles = record {
    limits = run_limits;
    ends = λ e. record { limits = run_limits; clean = h.clean e; inside = run_inside e; whole = h.whole e };
    short = h.short;
  }

  pub run_left : (l : Left) → l ≡ leaves (settle (told_run N n r t')) t' → l ≡ leaves (settle (run_all (walk_at by_dart N n s t) (of at_hand c))) t
  run_left l e = e ∙ (ap (λ (x : Run). leaves (settle x) t') h.tells ∙ settle_same (run_all (walk_at by_dart N n s t) (of at_hand c)) t' t)
