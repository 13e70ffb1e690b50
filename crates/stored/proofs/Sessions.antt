-- Laws of the layout: a session and the seventeen numbers that it is stored as are each other's, and the record of a reading has such numbers. Rests on Laws
-- and on the rules' Fitness and Sessions.
use Prim.Native.Nat.{ℕ, zero, suc, ◌+◌, ◌≤◌, ◌<◌, ◌^◌}
use mathlib.Core.Path.{◌≡◌, refl, ap, sym, ◌∙◌}
use mathlib.Core.Logic.{◌⊎◌, inl, inr}
use mathlib.Core.Bool.{Bool, true, ◌&&◌}
use mathlib.Core.List.{List, [], ◌∷◌, ◌++◌}
use native.Mathlib.Omega.{arith}
use native.Mathlib.Decide.{dec_le}
use lib.Pow.{pow_mono}
use lib.ListN.{length, get_or}
use lib.Seq.{take_at, drop_at, get_or-drop}
use lib.Dec.{eqb}
use borrow.Author.Tests.{lt-ltb, eqb-true, leb-true}
use Rattle.rules.specs.Map.{by_dart}
use Rattle.rules.specs.declared.Session.{Session}
use Rattle.rules.specs.declared.State.{State}
use Rattle.rules.specs.declared.State.TheVariants.{Header, Running, Complete, Closed, Refused}
use Rattle.rules.specs.declared.Form.{Form}
use Rattle.rules.specs.declared.Form.TheVariants.{One, Several}
use Rattle.rules.specs.Stream.{value}
use Rattle.rules.specs.Walk.{Walk}
use Rattle.rules.specs.Reading.{Reading}
use Rattle.rules.specs.Session.{idle, held, store, record_for}
use Rattle.rules.specs.Inner.{gone, Inv}
use Rattle.rules.proofs.Lists.{and_left, and_right, both, get_d_same, entries, entries_of}
use Rattle.rules.proofs.Codes.{value_lt}
use Rattle.rules.proofs.Positions.{gone_le_count}
use Rattle.rules.proofs.Readings.{begins_13}
use Rattle.rules.proofs.Fitness.{Fits}
use Rattle.rules.proofs.Sessions.{reading_fits}
use Rattle.stored.specs.Layout.{state_number, refusal_number, refusal_place, form_number, after_state, stored_session}
use Rattle.stored.specs.Layout.{state_by, form_by, session_by, state_stands, form_stands, all_narrow, standing}
use Rattle.stored.proofs.Laws.{positions_by_lem}

-- a session as the record holds it: seven positions, and numbers of 16 bits after the state
pub record Narrow (s : Session) : Type 0 where
  pub seven : length s.positions ≡ 7
  pub numbers : all_narrow (after_state s) ≡ true

state_stands_lem : (st : State) → state_stands (state_number st) (refusal_number st) (refusal_place st) ≡ true
unfolding state_stands
state_stands_lem Header = refl
state_stands_lem Running = refl
state_stands_lem Complete = refl
state_stands_lem Closed = refl
state_stands_lem (Refused nr p) = refl

state_back : (st : State) → state_by (state_number st) (refusal_number st) (refusal_place st) ≡ st
state_back Header = refl
state_back Running = refl
state_back Complete = refl
state_back Closed = refl
state_back (Refused nr p) = refl

form_stands_lem : (F : Form) → form_stands (form_number F) ≡ true
unfolding form_stands
form_stands_lem One = refl
form_stands_lem Several = refl

form_back : (F : Form) → form_by (form_number F) ≡ F
form_back One = refl
form_back Several = refl

module _ (s : Session) (v : Narrow s) where
  -- the four numbers behind the positions
  behind : List ℕ
  behind = s.waiting ∷ s.value ∷ form_number s.form ∷ s.bodies ∷ []

  from_behind : (i : ℕ) → get_or (s.positions ++ behind) (7 + i) 0 ≡ get_or behind i 0
  from_behind i = sym (get_or-drop 7 (s.positions ++ behind) i 0) ∙ ap (λ (l : List ℕ). get_or l i 0) (drop_at s.positions behind 7 v.seven)

  -- a session stands for its numbers
  pub stands_stored : standing (stored_session s) ≡ true
  unfolding standing stored_session after_state behind
  stands_stored = both _ _ (both _ _ (state_stands_lem s.state) (rw (from_behind 2) (form_stands_lem s.form))) v.numbers

  -- and is told by them
  pub session_back : session_by (stored_session s) ≡ s
  unfolding session_by stored_session after_state behind
  session_back =
      rw (
        state_back s.state,
        take_at s.positions behind 7 v.seven,
        from_behind 0,
        from_behind 1,
        from_behind 2,
        form_back s.form,
        from_behind 3,
      )
      refl

-- three numbers that a state stands for are the state's
record Same (k nr p : ℕ) : Type 0 where
  number : state_number (state_by k nr p) ≡ k
  refusal : refusal_number (state_by k nr p) ≡ nr
  place : refusal_place (state_by k nr p) ≡ p

no_refusal : (nr p : ℕ) → (eqb nr 0 && eqb p 0) ≡ true → (0 ≡ nr) × (0 ≡ p)
no_refusal nr p h = (sym (eqb-true nr 0 (and_left (eqb nr 0) (eqb p 0) h)), sym (eqb-true p 0 (and_right (eqb nr 0) (eqb p 0) h)))

same_state : (k nr p : ℕ) → state_stands k nr p ≡ true → Same k nr p
unfolding state_stands
same_state zero nr p h = record { number = refl; refusal = (no_refusal nr p h).0; place = (no_refusal nr p h).1 }
same_state (suc zero) nr p h = record { number = refl; refusal = (no_refusal nr p h).0; place = (no_refusal nr p h).1 }
same_state (suc (suc zero)) nr p h = record { number = refl; refusal = (no_refusal nr p h).0; place = (no_refusal nr p h).1 }
same_state (suc (suc (suc zero))) nr p h = record { number = refl; refusal = (no_refusal nr p h).0; place = (no_refusal nr p h).1 }
same_state (suc (suc (suc (suc zero)))) nr p h = record { number = refl; refusal = refl; place = refl }
same_state (suc (suc (suc (suc (suc k))))) nr p h = absurd (omega (arith, leb-true (suc (suc (suc (suc (suc k))))) 4 (and_left _ _ h)))

same_form : (k : ℕ) → form_stands k ≡ true → form_number (form_by k) ≡ k
unfolding form_stands
same_form zero h = refl
same_form (suc zero) h = refl
same_form (suc (suc k)) h = absurd (omega (arith, leb-true (suc (suc k)) 1 h))

-- seventeen numbers that a session stands for are the session's: what a call leaves as given stays as given
pub numbers_back : (r : List ℕ) → length r ≡ 17 → standing r ≡ true → stored_session (session_by r) ≡ r
unfolding stored_session after_state session_by standing entries
numbers_back r e h =
    let first = state_stands (get_or r 0 0) (get_or r 1 0) (get_or r 2 0) in
    let told = and_left (first && form_stands (get_or r 15 0)) _ h in
    let x = same_state (get_or r 0 0) (get_or r 1 0) (get_or r 2 0) (and_left first _ told) in
    let f = same_form (get_or r 15 0) (and_right first _ told) in
    rw (x.number, x.refusal, x.place, ← positions_by_lem r (omega arith), f) (entries_of 17 r e)

-- lists of numbers of 16 bits
narrow_on : (x : ℕ) (l : List ℕ) → x < 65536 → all_narrow l ≡ true → all_narrow (x ∷ l) ≡ true
unfolding all_narrow
narrow_on x l h q = both _ _ (lt-ltb x 65536 h) q

narrow_append : (p q : List ℕ) → ((i : ℕ) → get_or p i 0 < 65536) → all_narrow q ≡ true → all_narrow (p ++ q) ≡ true
narrow_append [] q h e = e
narrow_append (x ∷ p) q h e = narrow_on x (p ++ q) (h 0) (narrow_append p q (λ i. h (suc i)) e)

form_small : (F : Form) → form_number F < 65536
form_small One = omega arith
form_small Several = omega arith

narrow_by : (s : Session) → length s.positions ≡ 7 → s.dim < 65536 → s.darts < 65536 → s.count < 65536
    → ((i : ℕ) → get_or s.positions i 0 < 65536) → s.waiting < 65536 → s.value < 65536 → s.bodies < 65536 → Narrow s
unfolding after_state
narrow_by s e d n c p w v b = record {
  seven = e;
  numbers =
      narrow_on _ _ d
      (narrow_on _ _ n
      (narrow_on _ _ c
      (narrow_append s.positions _ p
      (narrow_on _ _ w
      (narrow_on _ _ v
      (narrow_on _ _ (form_small s.form)
      (narrow_on _ [] b (unfold all_narrow in refl))))))));
}

-- up to thirteen bits write a number of sixteen
value_small : (bs : List Bool) → length bs ≤ 13 → value bs < 65536
value_small bs h = let p : 2 ^ length bs ≤ 2 ^ 13 = pow_mono {i = length bs} {j = 13} h in omega (arith, value_lt bs)

-- the record of a reading is narrow
idle_narrow : (st : State) (bs : List Bool) → length bs ≤ 13 → Narrow (idle st bs)
unfolding idle
idle_narrow st bs h =
    narrow_by _ refl (omega arith) (omega arith) (omega arith) (λ i. rw (get_d_same {A = ℕ} 7 i 0) (omega arith)) (omega arith) (value_small bs h)
    (omega arith)

held_narrow : (st : State) (w : Walk) (bs : List Bool) → Inv w → length bs ≤ 13 → Narrow (held st w bs)
unfolding held gone
held_narrow st w bs v h =
    let z = v.shape in
    narrow_by _ z.seven (omega (arith, z.ranks)) (omega (arith, z.small)) (omega (arith, z.small, z.within))
    (λ i. at i (dec_le i w.dim)) (omega arith) (value_small bs h) (omega (arith, v.bodies.few, z.small, z.within))
  where
    at : (i : ℕ) → Dec (i ≤ w.dim) → get_or w.positions i 0 < 65536
    at i (yes l) = omega (arith, gone_le_count w v.shape i l, v.shape.small, v.shape.within)
    at i (no l) = omega (arith, v.shape.past i (omega arith))

store_narrow : {r : Reading} → Fits by_dart r → Narrow (store r)
unfolding store
store_narrow (Fits.header {bs} h) = idle_narrow Header bs (few h)
  where
    few : (length bs ≡ 0) ⊎ (length bs ≡ 8) → length bs ≤ 13
    few (inl e) = omega arith
    few (inr e) = omega arith
store_narrow (Fits.running {w} {bs} v h a) = held_narrow Running w bs v (begins_13 bs a.begun)
store_narrow (Fits.complete {w} v h o c) = held_narrow Complete w [] v (omega arith)
store_narrow (Fits.refused {nr} {p} h) = idle_narrow (Refused nr p) [] (omega arith)

pub record_narrow : (bytes t : List ℕ) → Narrow (record_for by_dart bytes t)
unfolding record_for
record_narrow bytes t = store_narrow (reading_fits by_dart bytes t)
