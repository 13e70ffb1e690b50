-- The loop of a run: what is left to do from here is what was to do at the start, and what a run leaves where it ends or a turn stops it. A body that is due is
-- begun only when the search comes past the last rank; till then what is left is told with it begun. Rests on Turns.
use Prim.Native.Nat.{ℕ, suc, ◌+◌, ◌*◌, ◌-◌, ◌≤◌, ◌<◌}
use mathlib.Core.Path.{◌≡◌, refl, ap, sym, ◌∙◌}
use mathlib.Core.Logic.{◌≢◌, ◌⊎◌, inl, inr}
use mathlib.Core.Bool.{Bool, true, false, cond}
use mathlib.Core.List.{List}
use native.Mathlib.Omega.{arith}
use lib.ListN.{length, get_or}
use lib.Dec.{ltb}
use borrow.Author.Tests.{ltb-false}
use Rattle.std.specs.Prelude.{Result, Ok, Err}
use Rattle.rules.specs.declared.Form.{Form}
use Rattle.rules.specs.declared.Form.TheVariants.{One}
use Rattle.rules.specs.Lists.{sum}
use Rattle.rules.specs.Map.{by_dart, size}
use Rattle.rules.specs.Bodies.{several}
use Rattle.rules.specs.Walk.{Walk, Head, head, fresh, is_none, due, one_more, resume, steps, enough}
use Rattle.rules.specs.Stream.{bits_of, Taken, take_symbol}
use Rattle.rules.specs.Reading.{Run, Step, step_at, resuming, step, onward, run, run_all}
use Rattle.rules.specs.Session.{walk_at}
use Rattle.rules.specs.Inner.{Emptied, Lowest, Inv, Asks, body_due}
use Rattle.rules.specs.declared.Stand.{Stand}
use Rattle.rules.proofs.Lowest.{emptied_none, emptied_next, head_lowest, head_past}
use Rattle.rules.proofs.Bodies.{headed_rests, due_past, past_says, one_rests, rested, begun, resume_inv, resume_steps, resume_rests}
use Rattle.rules.proofs.Moves.{Moved, moved, step_move, one_step}
use Rattle.rules.proofs.Runs.{total, moved_total, steps_total, fuel, Stopped, stopped}
use Rattle.symbols.specs.declared.bits.Bits.{Bits}
use Rattle.symbols.specs.Cursors.{at_hand}
use Rattle.symbols.specs.Bits.{of}
use Rattle.steps.specs.Steps.{stand_in, stand}
use Rattle.steps.proofs.Steps.{stands}
use Rattle.runs.specs.declared.Turned.{Turned}
use Rattle.runs.specs.declared.Search.{Search}
use Rattle.runs.specs.declared.Ran.{Ran}
use Rattle.runs.specs.declared.Stop.{Stop}
use Rattle.runs.specs.declared.Stop.TheVariants.{Waits, Refused}
use Rattle.runs.specs.Turns.{Ready, told_turn, Again, Turns}
use Rattle.runs.specs.Runs.{search_at, past_of, signal_run, Runs}
use Rattle.runs.proofs.Turns.{inv_in, ready_one}

-- the walk of a stand in a form, with a search's count and bodies
abbrev walk_in : ℕ → ℕ → Form → Search → List ℕ → List ℕ → Walk
walk_in N n F a ps t = walk_at by_dart N n (stand_in F a.bodies a.count ps) t

-- where a run stands that began at s0, c0 and t0: a turn may be made, with one body as well as with those begun; what is left is told with the body begun that
-- is due; and past N none is
pub record RunGoing (N n : ℕ) (s0 : Stand) (c0 : Bits) (t0 : List ℕ) (a : Search) (ps : List ℕ) (c : Bits) (t : List ℕ) : Type 0 where
  pub ready : Ready N n (stand a.count ps) c.cursor t
  pub page : c.page.now ≡ c0.page.now
  pub inv : Inv (walk_in N n s0.form a ps t)
  pub left : run_all (walk_at by_dart N n s0 t0) (of at_hand c0) ≡ run_all (resume (walk_in N n s0.form a ps t)) (of at_hand c)
  pub lower : Emptied a.count ps a.rank
  pub rests : N < a.rank → due (walk_in N n s0.form a ps t) ≡ false
  pub same : length t ≡ length t0

pub going_start : (F : Form) (B N n k : ℕ) (ps : List ℕ) (c : Bits) (t : List ℕ) → Ready N n (stand_in F B k ps) c.cursor t
    → RunGoing N n (stand_in F B k ps) c t (search_at 0 k B) ps c t
going_start F B N n k ps c t y = record {
  ready = ready_one F B N n k ps c.cursor t y;
  page = refl;
  inv = y.inv;
  left = ap (λ (w : Walk). run_all w (of at_hand c)) (sym (rested (walk_at by_dart N n (stand_in F B k ps) t) y.rests));
  lower = emptied_none k ps;
  rests = λ h. absurd (omega arith);
  same = refl;
}

-- the steps and the numbers that are left, then the ranks: a body that is begun takes a number, for which the search goes back to L0
abbrev pub passes_left : ℕ → ℕ → Search → List ℕ → ℕ
passes_left N n a ps = (size N n - sum ps + (n - a.count)) * 8 + (7 - a.rank)

-- the walk that a run leaves
run_walk : Run → Walk
run_walk (Run.ended w bs) = w
run_walk (Run.waits w bs) = w
run_walk (Run.refused nr w) = w

stopped_walk : {w : Walk} {bs : List Bool} {r : Run} → Stopped w bs r → run_walk r ≡ w
unfolding run_walk
stopped_walk (Stopped.ended h) = refl
stopped_walk Stopped.waits = refl
stopped_walk (Stopped.refused nr i) = refl

signal_walk : (g : Result (Unit {0}) Stop) (w : Walk) (bs : List Bool) → run_walk (signal_run g w bs) ≡ w
unfolding run_walk signal_run
signal_walk (Ok u) w bs = refl
signal_walk (Err (Waits m)) w bs = refl
signal_walk (Err (Refused nr)) w bs = refl

-- how a run ends, by number
abbrev signal_no : Result (Unit {0}) Stop → ℕ
signal_no (Ok u) = 0
signal_no (Err (Waits m)) = 1
signal_no (Err (Refused nr)) = 2

-- the bits that a run waits for
abbrev bits_of_signal : Result (Unit {0}) Stop → ℕ
bits_of_signal (Ok u) = 0
bits_of_signal (Err (Waits m)) = m
bits_of_signal (Err (Refused nr)) = 0

apart : {A : Type 0} (x y : Result (Unit {0}) Stop) → signal_no x ≢ signal_no y → x ≡ y → A
apart x y h e = absurd (h (ap signal_no e))

-- a run leaves off here
abbrev ran : Form → Search → List ℕ → Bits → Result (Unit {0}) Stop → Ran
ran F a ps c g = record { stand = stand_in F a.bodies a.count ps; bits = c; signal = g }

-- where a run stands that has come to a search
module _ {N n : ℕ} {s0 : Stand} {c0 : Bits} {t0 : List ℕ} {a : Search} {ps : List ℕ} {c : Bits} {t : List ℕ}
    (g : RunGoing N n s0 c0 t0 a ps c t) where
  -- the walk here
  abbrev here : Walk
  here = walk_in N n s0.form a ps t

  -- no more bodies are begun than darts are numbered
  pub going_few : a.bodies ≤ a.count
  unfolding walk_at
  going_few = g.inv.bodies.few

  -- where no queue has a head no bit waits
  no_bits : {j : ℕ} → Emptied a.count ps j → N < j → c.cursor.waiting ≡ 0
  no_bits {j} low h = go g.ready.begun
    where
      go : (c.cursor.waiting ≡ 0) ⊎ Asks (walk_at by_dart N n (stand a.count ps) t) (bits_of c.cursor.waiting c.cursor.value) → c.cursor.waiting ≡ 0
      go (inl q) = q
      go (inr x) =
          let w = walk_at by_dart N n (stand a.count ps) t in
          let e : head w ≡ Head.none = unfold walk_at in head_past w g.ready.inv.shape j low h in
          let q = x.next in
          let z : ◌≡◌ {A = ℕ} 0 1 = cc in absurd (omega arith)

  -- the rules' step stops the run
  stop : (x : Result (Unit {0}) Stop) (ps' t' : List ℕ) → due here ≡ false
      → step here (of at_hand c) ≡ Step.stops (signal_run x (walk_in N n s0.form a ps' t') (of at_hand c))
      → (x ≡ Ok tt → c.cursor.waiting ≡ 0) → (x ≡ Ok tt → several s0.form ≡ true → a.count ≡ n)
      → ((m : ℕ) → x ≡ Err (Waits m) → take_symbol (of at_hand c) ≡ Taken.short m) → Runs N n s0 c0 t0 (ran s0.form a ps' c x) t'
  stop x ps' t' d e z w b =
      record { tells = sym (g.left ∙ last); page = g.page; inv = rw same g.inv; form = refl; clean = z; whole = w; short = b }
    where
      same : walk_in N n s0.form a ps' t' ≡ here
      same =
          sym (signal_walk x (walk_in N n s0.form a ps' t') (of at_hand c))
          ∙ stopped_walk (stopped here (of at_hand c) (signal_run x (walk_in N n s0.form a ps' t') (of at_hand c)) e)

      last : run_all (resume here) (of at_hand c) ≡ signal_run x (walk_in N n s0.form a ps' t') (of at_hand c)
      last = rw (rested here d) (unfold run_all run onward enough in rw e)

  -- all queues are empty, and no body is due: in the several form no dart is left
  pub run_ended : N < a.rank → Runs N n s0 c0 t0 (ran s0.form a ps c (Ok tt)) t
  unfolding signal_run step resuming step_at
  run_ended h =
      stop (Ok tt) ps t (g.rests h) (rw none) (λ _. no_bits g.lower h) (λ _ s. all s (ltb a.count n) refl)
      (λ m z. apart (Ok tt) (Err (Waits m)) (omega arith) z)
    where
      none : head here ≡ Head.none
      none = unfold walk_at in head_past here g.inv.shape a.rank g.lower h

      all : several s0.form ≡ true → (x : Bool) → ltb a.count n ≡ x → a.count ≡ n
      all s false e =
          let l : a.count ≤ n = unfold walk_at in g.inv.shape.within in
          omega (arith, ltb-false a.count n e)
      all s true e =
          let d : due here ≡ true = unfold due is_none walk_at in rw (none, e, s) in
          let q = g.rests h in
          let z : ◌≡◌ {A = ℕ} 0 1 = cc in absurd (omega arith)

  -- the queue of the rank is empty too
  module _ (ranked : a.rank ≤ N) (q : a.count ≤ get_or ps a.rank 0) where
    -- the queues below the next rank are empty
    next : Emptied a.count ps (a.rank + 1)
    next = emptied_next a.count ps a.rank g.lower q

    module _ (d : body_due s0.form N n (a.rank + 1) a.count ≡ true) where
      -- the search with the body begun
      abbrev begun_at : Search
      begun_at = search_at 0 (a.count + 1) (a.bodies + 1)

      past_last : N < a.rank + 1
      past_last = (past_says s0.form N n (a.rank + 1) a.count d).0

      is_due : due here ≡ true
      is_due = unfold walk_at in due_past here g.inv.shape (a.rank + 1) next past_last ∙ d

      -- the walk with the body begun is that of its count and bodies
      walk_begun : walk_in N n s0.form begun_at ps t ≡ resume here
      walk_begun =
          let s = rw (begun here is_due) at (resume_inv here g.inv).shape in
          let s' = stand_in s0.form (a.bodies + 1) (a.count + 1) ps in
          rw (begun here is_due) (unfold one_more fresh walk_at in
          stands N n s' t (one_more (fresh here)) s refl refl refl (omega arith) refl refl refl (omega arith))

      going_begun : RunGoing N n s0 c0 t0 begun_at ps c t
      going_begun =
          let w = walk_in N n s0.form begun_at ps t in
          let v : Inv w = rw walk_begun (resume_inv here g.inv) in
          let r : due w ≡ false = rw walk_begun (resume_rests here g.inv.shape) in
          record {
            ready = record {
              inv = inv_in s0.form One (a.bodies + 1) 1 N n (a.count + 1) ps t v (omega arith) (omega arith) (λ o. refl);
              rests = one_rests (walk_at by_dart N n (stand (a.count + 1) ps) t) (unfold walk_at in refl);
              dims = g.ready.dims;
              begun = inl (no_bits next past_last);
            };
            page = g.page;
            inv = v;
            left = g.left ∙ ap (λ (x : Walk). run_all x (of at_hand c)) (sym walk_begun ∙ sym (rested w r));
            lower = emptied_none (a.count + 1) ps;
            rests = λ h. absurd (omega arith);
            same = g.same;
          }

    going_next : body_due s0.form N n (a.rank + 1) a.count ≡ false → RunGoing N n s0 c0 t0 (search_at (a.rank + 1) a.count a.bodies) ps c t
    going_next d = record {
      ready = g.ready;
      page = g.page;
      inv = g.inv;
      left = g.left;
      lower = next;
      rests = λ h. unfold walk_at in due_past here g.inv.shape (a.rank + 1) next h ∙ d;
      same = g.same;
    }

    -- the search goes on past the rank
    module _ {r : Search} (e : r ≡ past_of s0.form N n a) where
      pub going_past : RunGoing N n s0 c0 t0 r ps c t
      unfolding past_of
      going_past = rw e (go (body_due s0.form N n (a.rank + 1) a.count) refl)
        where
          go : (x : Bool) → body_due s0.form N n (a.rank + 1) a.count ≡ x
              → RunGoing N n s0 c0 t0 (cond x (search_at 0 (a.count + 1) (a.bodies + 1)) (search_at (a.rank + 1) a.count a.bodies)) ps c t
          go true d = going_begun d
          go false d = going_next d

      pub past_less : passes_left N n r ps < passes_left N n a ps
      unfolding past_of
      past_less = rw e (go (body_due s0.form N n (a.rank + 1) a.count) refl)
        where
          ranks : N ≤ 6
          ranks = unfold walk_at in g.inv.shape.ranks

          go : (x : Bool) → body_due s0.form N n (a.rank + 1) a.count ≡ x
              → passes_left N n (cond x (search_at 0 (a.count + 1) (a.bodies + 1)) (search_at (a.rank + 1) a.count a.bodies)) ps < passes_left N n a ps
          go true d = let l = (past_says s0.form N n (a.rank + 1) a.count d).1 in omega (arith, ranks)
          go false d = omega (arith, ranks)

  -- the queue of the rank isn't empty: its head is next
  module _ (ranked : a.rank ≤ N) (some : get_or ps a.rank 0 < a.count) where
    pub going_lowest : Lowest N a.count ps a.rank
    going_lowest = record { ranked = ranked; lower = g.lower; some = some }

    -- so no body is due
    turn_rests : due here ≡ false
    turn_rests =
        headed_rests here a.rank (get_or ps a.rank 0) (unfold walk_at in head_lowest here g.inv.shape a.rank g.lower ranked some)

  -- a turn was made there
  module _ (ranked : a.rank ≤ N) (some : get_or ps a.rank 0 < a.count) {r : Result Turned Stop} {ps' t' : List ℕ} (x : Turns N n a.count ps c t r ps' t') where
    pub run_stops : (y : Stop) → r ≡ Err y → Runs N n s0 c0 t0 (ran s0.form a ps' c (Err y)) t'
    unfolding told_turn signal_run Again step resuming
    run_stops (Waits m) q =
        let y = Err (Waits m) in
        stop y ps' t' (turn_rests ranked some) (rw (← (rw q at (x.tells s0.form a.bodies)))) (λ z. apart y (Ok tt) (omega arith) z)
        (λ z. apart y (Ok tt) (omega arith) z)
        (λ i z. (rw q at x.again) ∙ ap Taken.short (ap bits_of_signal z))
    run_stops (Refused nr) q =
        let y = Err (Refused nr) in
        stop y ps' t' (turn_rests ranked some) (rw (← (rw q at (x.tells s0.form a.bodies)))) (λ z. apart y (Ok tt) (omega arith) z)
        (λ z. apart y (Ok tt) (omega arith) z)
        (λ m z. apart y (Err (Waits m)) (omega arith) z)

    pub run_waits : (m : ℕ) → r ≡ Err (Waits m) → Runs N n s0 c0 t0 (ran s0.form a ps' c (Err (Waits m))) t'
    run_waits m = run_stops (Waits m)

    module _ {y : Turned} (m : r ≡ Ok y) where
      -- where it goes on
      abbrev rank : ℕ
      rank = y.next.rank

      abbrev k' : ℕ
      k' = y.next.count

      abbrev d : Bits
      d = y.bits

      -- the walk after it, with no body begun
      abbrev there : Walk
      there = walk_at by_dart N n (stand_in s0.form a.bodies k' ps') t'

      again : (d.page.now ≡ c.page.now) × Ready N n (stand k' ps') d.cursor t' × Emptied k' ps' rank × (rank ≤ N)
      unfolding Again
      again = rw m at x.again

      told : (F : Form) (B : ℕ) →
          let w = walk_at by_dart N n (stand_in F B a.count ps) t in
          step_at w (of at_hand c) (head w) ≡ Step.goes (walk_at by_dart N n (stand_in F B k' ps') t') (of at_hand d)
      unfolding told_turn
      told F B = sym ((rw m at x.tells) F B)

      -- no number is given back
      grows : a.count ≤ k'
      unfolding walk_at
      grows =
          let w = walk_at by_dart N n (stand a.count ps) t in
          let w' = walk_at by_dart N n (stand k' ps') t' in
          let y = step_move w (of at_hand c) w' (of at_hand d) (one_step w (of at_hand c) refl ∙ told One 1) in
          (moved w w' y.out g.ready.inv y.move).grows.count

      inv_there : Inv there
      inv_there =
          let b = g.inv.bodies in
          inv_in One s0.form 1 a.bodies N n k' ps' t' again.1.inv (unfold walk_at in b.some) (unfold walk_at in omega (arith, b.few, grows))
          (unfold walk_at in b.one)

      goes : step here (of at_hand c) ≡ Step.goes (resume there) (of at_hand d)
      unfolding step resuming
      goes = rw (told s0.form a.bodies)

      moves : Moved here (resume there)
      moves =
          let y = step_move here (of at_hand c) (resume there) (of at_hand d) goes in
          moved here (resume there) y.out g.inv y.move

      more_steps : (sum ps' ≡ suc (sum ps)) × (sum ps' ≤ size N n)
      unfolding steps walk_at total
      more_steps = (sym (resume_steps there) ∙ moves.steps, steps_total there inv_there)

      pub going_less : passes_left N n (search_at rank k' a.bodies) ps' < passes_left N n a ps
      going_less = let q = more_steps in let l = grows in omega arith

      more_left : run_all (resume here) (of at_hand c) ≡ run_all (resume there) (of at_hand d)
      unfolding run_all run onward enough walk_at
      more_left =
          let q = more_steps in
          let e = resume_steps there in
          let u = moved_total here (resume there) moves.grows in
          let w = resume there in
          rw (rested here (turn_rests ranked some), goes)
          (fuel (size N n) (enough w.dim w.darts) w (of at_hand d) moves.inv (unfold steps total in omega arith) (unfold steps total in omega arith))

      pub going_more : length t' ≡ length t → RunGoing N n s0 c0 t0 (search_at rank k' a.bodies) ps' d t'
      going_more l = record {
        ready = again.1;
        page = again.0 ∙ g.page;
        inv = inv_there;
        left = g.left ∙ more_left;
        lower = again.2;
        rests = λ h. absurd (omega (arith, again.3));
        same = l ∙ g.same;
      }
