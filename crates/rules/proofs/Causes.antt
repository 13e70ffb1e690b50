-- Document 02, "Say what is wrong with the index": a w is refused by 21, 22 or 23 exactly where it is not permitted, each exactly in its case,
-- and with the three taken together a run is that of document 01. Rests on Moves.
use Prim.Native.Nat.{ℕ, zero, suc, ◌≤◌, ◌<◌}
use mathlib.Core.Path.{◌≡◌, refl, ap, sym, subst, ◌∙◌}
use mathlib.Core.Logic.{◌≢◌}
use mathlib.Core.Bool.{Bool, true, false, not, ◌&&◌, cond}
use mathlib.Core.List.{List}
use native.Mathlib.Omega.{arith}
use native.Mathlib.Decide.{dec_lt}
use lib.Dec.{eqb, ltb, leb}
use borrow.Author.Tests.{leb-true, leb-false, eqb-true, eqb-false, le-leb, lt-leb, le-ltb, lt-ltb, eq-eqb, ne_eqb, not-true}
use Rattle.std.specs.Prelude.{Result, Ok, Err}
use Rattle.rules.specs.declared.Cause.{Cause}
use Rattle.rules.specs.declared.Cause.TheVariants.{Unnumbered, Itself, Linked}
use Rattle.rules.specs.declared.Form.TheVariants.{One}
use Rattle.rules.specs.Map.{mark}
use Rattle.rules.specs.Walk.{Walk, Head, head, link_of, unknown, Partner, partner, tie, resume, Symbol, apply}
use Rattle.rules.specs.Naming.{naming, cause_number, naming_number}
use Rattle.rules.specs.Refusals.{among, of_index}
use Rattle.rules.specs.Stream.{Taken, take_symbol}
use Rattle.rules.specs.Reading.{Run, Step, permitted, fault, allow, step_taken, step_with, step_at, resuming, step, onward, run}
use Rattle.rules.specs.Inner.{Inv}
use Rattle.rules.proofs.Places.{link_none}
use Rattle.rules.proofs.Links.{next_below}
use Rattle.rules.proofs.Walks.{unknown_true, unknown_false, next_of}
use Rattle.rules.proofs.Moves.{Named, named_index, index_named, see_asked, allow_goes, resuming_goes, resuming_stops, step_move, move_form, one_step}

-- what each says of a w that names e at the head b of Lj
unfoldable pub Says : Result (Unit {0}) Cause → Walk → ℕ → ℕ → ℕ → Type 0
Says (Ok u) w j b e = Named w j b e
Says (Err Unnumbered) w j b e = w.count ≤ e
Says (Err Itself) w j b e = e ≡ b
Says (Err Linked) w j b e = link_of w j e ≢ mark

-- what is told is so, in any walk
pub naming_says : (w : Walk) (j b e : ℕ) → Says (naming w j b e) w j b e
unfolding naming Says
naming_says w j b e = go (leb w.count e) (eqb e b) (unknown w j e) refl refl refl
  where
    go : (x y z : Bool) → leb w.count e ≡ x → eqb e b ≡ y → unknown w j e ≡ z → Says (cond x (Err Unnumbered) (cond y (Err Itself) (cond z (Ok tt) (Err Linked)))) w j b e
    go true y z p q r = leb-true w.count e p
    go false true z p q r = eqb-true e b q
    go false false true p q r = record { below = leb-false w.count e p; differs = eqb-false e b q; open' = unknown_true w j e r }
    go false false false p q r = unknown_false w j e r

-- where a walk that goes on from a fit session asks for a symbol
module _ (w : Walk) (v : Inv w) (j b : ℕ) (h : head w ≡ Head.at j b) (a : partner w j b ≡ Partner.asked) (e : ℕ) where
  -- the dart at the head has a number and no link, and a dart that has a link has a number
  head_numbered : b < w.count
  head_numbered = next_below w v.shape v.links j b (next_of w v h).next

  linked_numbered : link_of w j e ≢ mark → e < w.count
  linked_numbered k = go (dec_lt e w.darts)
    where
      go : Dec (e < w.darts) → e < w.count
      go (yes l) = v.links.near j e (next_of w v h).next.ranked l k
      go (no l) = absurd (k (unfold link_of in link_none w.layout w.dim w.darts w.links j e (omega arith)))

  linked_other : link_of w j e ≢ mark → e ≢ b
  linked_other k q = k (rw q (see_asked w j b a))

  -- and what is so is told
  pub says_naming : (c : Result (Unit {0}) Cause) → Says c w j b e → naming w j b e ≡ c
  unfolding naming Says unknown
  says_naming (Ok tt) s =
      rw (lt-leb w.count e s.below, ne_eqb e b s.differs, eq-eqb (link_of w j e) mark s.open')
  says_naming (Err Unnumbered) s = rw (le-leb w.count e s)
  says_naming (Err Itself) s = rw (lt-leb w.count e (omega (arith, head_numbered)), eq-eqb e b s)
  says_naming (Err Linked) s =
      rw (lt-leb w.count e (linked_numbered s), ne_eqb e b (linked_other s), ne_eqb (link_of w j e) mark s)

  -- so no two are so at once
  pub one_cause : (c d : Result (Unit {0}) Cause) → Says c w j b e → Says d w j b e → c ≡ d
  one_cause c d s t = sym (says_naming c s) ∙ says_naming d t

-- one of the three refuses a w exactly where it is not permitted, in any walk
pub three_causes : (w : Walk) (j b e : ℕ) → of_index (fault w j b (Symbol.index e)) ≡ not (permitted w j b (Symbol.index e))
unfolding fault naming cause_number naming_number of_index among permitted
three_causes w j b e = go (dec_lt e w.count) (eqb e b) (unknown w j e)
  where
    go : Dec (e < w.count) → (y z : Bool)
        → of_index (naming_number (cond (leb w.count e) (Err Unnumbered) (cond y (Err Itself) (cond z (Ok tt) (Err Linked))))) ≡ not (ltb e w.count && not y && z)
    go (yes l) true z = rw (lt-leb w.count e l, lt-ltb e w.count l)
    go (yes l) false true = rw (lt-leb w.count e l, lt-ltb e w.count l)
    go (yes l) false false = rw (lt-leb w.count e l, lt-ltb e w.count l)
    go (no l) y z = rw (le-leb w.count e (omega arith), le-ltb e w.count (omega arith))

-- the number of a w
fault_of : (w : Walk) (j b e : ℕ) → fault w j b (Symbol.index e) ≡ naming_number (naming w j b e)
unfolding fault
fault_of w j b e = refl

-- a step that is refused by a number
abbrev pub refused_by : ℕ → Walk → Step
refused_by nr w = Step.stops (Run.refused nr w)

-- a step is refused by its own number, and made or refused by what allows it
allow_number : (t : Bool) (nr k : ℕ) (w w' : Walk) (bs : List Bool) → allow t nr w w' bs ≡ refused_by k w → nr ≡ k
unfolding allow
allow_number true nr k w w' bs e = let z : ◌≡◌ {A = ℕ} 0 1 = cc in absurd (omega arith)
allow_number false nr k w w' bs e = cc

allow_yes : {t : Bool} → t ≡ true → (nr : ℕ) (w w' : Walk) (bs : List Bool) → allow t nr w w' bs ≡ Step.goes w' bs
unfolding allow
allow_yes p nr w w' bs = rw p

allow_no : {t : Bool} → t ≡ false → (nr : ℕ) (w w' : Walk) (bs : List Bool) → allow t nr w w' bs ≡ refused_by nr w
unfolding allow
allow_no p nr w w' bs = rw p

-- the step on a w that names e at the head b of Lj: each number is given exactly in its case, and the step is made exactly where e may be named
pub record Told (w : Walk) (bs : List Bool) (j b e : ℕ) (rest : List Bool) : Type 0 where
  pub unnumbered : (step w bs ≡ refused_by 21 w → w.count ≤ e) × (w.count ≤ e → step w bs ≡ refused_by 21 w)
  pub itself : (step w bs ≡ refused_by 22 w → e ≡ b) × (e ≡ b → step w bs ≡ refused_by 22 w)
  pub linked : (step w bs ≡ refused_by 23 w → link_of w j e ≢ mark) × (link_of w j e ≢ mark → step w bs ≡ refused_by 23 w)
  pub allowed : (step w bs ≡ Step.goes (resume (apply w j b (Symbol.index e))) rest → Named w j b e)
      × (Named w j b e → step w bs ≡ Step.goes (resume (apply w j b (Symbol.index e))) rest)

-- document 02's sentence, for every step that asks for a symbol and finds a w
module _ (w : Walk) (v : Inv w) (bs : List Bool) (j b e : ℕ) (rest : List Bool) where
  pub told_apart : head w ≡ Head.at j b → partner w j b ≡ Partner.asked → take_symbol bs ≡ Taken.symbol (Symbol.index e) rest → Told w bs j b e rest
  unfolding cause_number naming_number of_index among Says resuming
  told_apart h a q = record {
    unnumbered = (from 21, λ s. to (Err Unnumbered) s refl);
    itself = (from 22, λ s. to (Err Itself) s refl);
    linked = (from 23, λ s. to (Err Linked) s refl);
    allowed = (made, makes);
  }
    where
      -- the cause of each number
      told_by : ℕ → Result (Unit {0}) Cause
      told_by nr = cond (eqb nr 21) (Err Unnumbered) (cond (eqb nr 22) (Err Itself) (cond (eqb nr 23) (Err Linked) (Ok tt)))

      told_number : (c : Result (Unit {0}) Cause) → told_by (naming_number c) ≡ c
      told_number (Ok tt) = refl
      told_number (Err Unnumbered) = refl
      told_number (Err Itself) = refl
      told_number (Err Linked) = refl

      may : Bool
      may = permitted w j b (Symbol.index e)

      after : Walk
      after = apply w j b (Symbol.index e)

      step_is : step w bs ≡ resuming (allow may (naming_number (naming w j b e)) w after rest)
      step_is = unfold step step_at step_with step_taken in rw (h, a, q, fault_of)

      from : (nr : ℕ) → step w bs ≡ refused_by nr w → Says (told_by nr) w j b e
      from nr s =
          let f = allow_number may (naming_number (naming w j b e)) nr w after rest (resuming_stops _ _ (sym step_is ∙ s)) in
          subst (λ c. Says c w j b e) (sym (told_number (naming w j b e)) ∙ ap told_by f) (naming_says w j b e)

      to : (c : Result (Unit {0}) Cause) → Says c w j b e → of_index (naming_number c) ≡ true → step w bs ≡ refused_by (naming_number c) w
      to c s i =
          let f : naming w j b e ≡ c = says_naming w v j b h a e c s in
          let p : may ≡ false = not-true may (sym (three_causes w j b e) ∙ ap of_index (fault_of w j b e ∙ ap naming_number f) ∙ i) in
          step_is ∙ ap resuming (allow_no p (naming_number (naming w j b e)) w after rest) ∙ ap (λ (x : Result (Unit {0}) Cause). refused_by (naming_number x) w) f

      made : step w bs ≡ Step.goes (resume after) rest → Named w j b e
      made s =
          let (w1, g, r) = resuming_goes _ (resume after) rest (sym step_is ∙ s) in
          named_index w j b e (allow_goes may (naming_number (naming w j b e)) w after w1 rest rest g).0

      makes : Named w j b e → step w bs ≡ Step.goes (resume after) rest
      makes n = step_is ∙ ap resuming (allow_yes (index_named w j b e n) (naming_number (naming w j b e)) w after rest)

-- The run as document 01 gives it: a w that is not permitted is refused by 12.

-- where a symbol is not permitted
unfoldable pub former_fault : Symbol → ℕ
former_fault Symbol.new = 13
former_fault Symbol.border = 0
former_fault (Symbol.index e) = 12

-- the symbol at the head b of Lj
unfoldable pub former_taken : Walk → List Bool → ℕ → ℕ → Taken → Step
former_taken w bs j b (Taken.short k) = Step.stops (Run.waits w bs)
former_taken w bs j b (Taken.symbol s rest) = allow (permitted w j b s) (former_fault s) w (apply w j b s) rest

-- a known and a deduced partner are as they are now
unfoldable pub former_with : Walk → List Bool → ℕ → ℕ → Partner → Step
former_with w bs j b Partner.known = step_with w bs j b Partner.known
former_with w bs j b (Partner.deduced e) = step_with w bs j b (Partner.deduced e)
former_with w bs j b Partner.asked = former_taken w bs j b (take_symbol bs)

-- one step
unfoldable pub former_step : Walk → List Bool → Head → Step
former_step w bs Head.none = step_at w bs Head.none
former_step w bs (Head.at j b) = former_with w bs j b (partner w j b)

-- at most k steps
unfoldable pub former_run : ℕ → Walk → List Bool → Run
former_run zero w bs = Run.waits w bs
former_run (suc k) w bs = onward (λ w' bs'. former_run k w' bs') (former_step w bs (head w))

-- a run with the three causes taken together
unfoldable pub together : Run → Run
together (Run.ended w bs) = Run.ended w bs
together (Run.waits w bs) = Run.waits w bs
together (Run.refused nr w) = Run.refused (cond (of_index nr) 12 nr) w

unfoldable step_together : Step → Step
step_together (Step.goes w bs) = Step.goes w bs
step_together (Step.stops r) = Step.stops (together r)

symbol_before : (w : Walk) (j b : ℕ) (s : Symbol) (rest : List Bool)
    → allow (permitted w j b s) (former_fault s) w (apply w j b s) rest ≡ step_together (allow (permitted w j b s) (fault w j b s) w (apply w j b s) rest)
symbol_before w j b s rest = go (permitted w j b s) refl
  where
    number : (s : Symbol) → permitted w j b s ≡ false → former_fault s ≡ cond (of_index (fault w j b s)) 12 (fault w j b s)
    number Symbol.new p = unfold former_fault fault of_index among in refl
    number Symbol.border p = unfold former_fault fault of_index among in refl
    number (Symbol.index e) p = unfold former_fault in rw (three_causes w j b e, p)

    go : (t : Bool) → permitted w j b s ≡ t → allow t (former_fault s) w (apply w j b s) rest ≡ step_together (allow t (fault w j b s) w (apply w j b s) rest)
    go true p = unfold allow step_together in refl
    go false p = unfold allow step_together together in rw (number s p)

step_before : (w : Walk) (bs : List Bool) → w.form ≡ One → former_step w bs (head w) ≡ step_together (step w bs)
step_before w bs o = rw (one_step w bs o) (at (head w))
  where
    taken : (j b : ℕ) (t : Taken) → former_taken w bs j b t ≡ step_together (step_taken w bs j b t)
    taken j b (Taken.short k) = unfold former_taken step_taken step_together together in refl
    taken j b (Taken.symbol s rest) = unfold former_taken step_taken in symbol_before w j b s rest

    deduced : (t : Bool) (w' : Walk) → allow t 14 w w' bs ≡ step_together (allow t 14 w w' bs)
    deduced true w' = unfold allow step_together in refl
    deduced false w' = unfold allow step_together together of_index among in refl

    with' : (j b : ℕ) (p : Partner) → former_with w bs j b p ≡ step_together (step_with w bs j b p)
    with' j b Partner.known = unfold former_with step_with step_together in refl
    with' j b (Partner.deduced e) = unfold former_with step_with in deduced (unknown w j e) (tie w j b e)
    with' j b Partner.asked = unfold former_with step_with in taken j b (take_symbol bs)

    at : (h : Head) → former_step w bs h ≡ step_together (step_at w bs h)
    at Head.none = unfold former_step step_at step_together together in refl
    at (Head.at j b) = unfold former_step step_at in with' j b (partner w j b)

-- with the three taken together every run of the one-body form is that of document 01: as many steps, the same walk and the same bits left, and 12 where one of
-- them is given
pub as_before : (k : ℕ) (w : Walk) (bs : List Bool) → w.form ≡ One → former_run k w bs ≡ together (run k w bs)
unfolding former_run run
as_before zero w bs o = unfold together in refl
as_before (suc k) w bs o = rw (step_before w bs o) (go (λ w' bs' o'. as_before k w' bs' o') (step w bs) refl)
  where
    go : ((w' : Walk) (bs' : List Bool) → w'.form ≡ One → former_run k w' bs' ≡ together (run k w' bs'))
        → (s : Step) → step w bs ≡ s → onward (λ w' bs'. former_run k w' bs') (step_together s) ≡ together (onward (λ w' bs'. run k w' bs') s)
    go rec (Step.goes w' bs') e = unfold step_together onward in
        let m = step_move w bs w' bs' e in rec w' bs' (move_form w w' m.out m.move ∙ o)
    go rec (Step.stops r) e = unfold step_together onward in refl
