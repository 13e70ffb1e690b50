-- The numbers that a reading finds, and that 12 is none of them any more (document 02, "Say what is wrong with the index"). Rests on Sessions.
use Prim.Native.Nat.{ℕ}
use mathlib.Core.Path.{◌≡◌, refl}
use mathlib.Core.Logic.{◌≢◌, ◌⊎◌, inl, inr}
use mathlib.Core.Bool.{Bool, true, false, ◌||◌}
use mathlib.Core.List.{List, [], ◌∷◌, ◌++◌}
use native.Mathlib.Omega.{arith}
use lib.ListN.{length, drop}
use lib.Dec.{eqb, leb}
use Rattle.rules.specs.declared.Session.{Session}
use Rattle.rules.specs.declared.State.{State}
use Rattle.rules.specs.declared.State.TheVariants.{Header, Running, Complete, Closed, Refused}
use Rattle.rules.specs.Bodies.{no_bodies}
use Rattle.rules.specs.Map.{Layout, dim_fits, size}
use Rattle.rules.specs.Walk.{Walk, start, enough}
use Rattle.rules.specs.Refusals.{among, of_index, at_header, in_step, at_end, wipes}
use Rattle.rules.specs.Reading.{Run, run, run_all, Reading, spoiled, finish, settle, begun, header_form, header_dim, header_darts, read_header, reading_of}
use Rattle.rules.specs.Reading.{closing}
use Rattle.rules.specs.Reading.{good_answer, plain_answer, answer_of, read_whole, read_answer}
use Rattle.rules.specs.Session.{walk_of, waiting_of, fit_as, fit, Left, unchanged, leaves, go_on, after_end, page_as, close_as, if_fit, page, close}
use Rattle.rules.specs.Stream.{unpack}
use Rattle.rules.proofs.Lists.{or_left, or_right, not_both}
use Rattle.rules.proofs.Refusals.{wipes_fit}
use Rattle.rules.proofs.Runs.{Final, ran}
use Rattle.rules.proofs.Readings.{WalkEnds, finish_ends}
use Rattle.rules.proofs.Sessions.{page_as_lem, close_as_lem}

-- the numbers that a reading finds: at a header, closing too early, in a step, at the walk's end
unfoldable pub found : ℕ → Bool
found nr = at_header nr || eqb nr 11 || in_step nr || at_end nr

-- a reading goes on, or was refused by a number that is found
unfoldable Finds : Reading → Type 0
Finds r = ((answer_of r).number ≡ 0) ⊎ (found (answer_of r).number ≡ true)

found_step : (nr : ℕ) → in_step nr ≡ true → found nr ≡ true
unfolding found
found_step nr i = or_left (at_header nr || eqb nr 11 || in_step nr) (at_end nr) (or_right (at_header nr || eqb nr 11) (in_step nr) i)

found_end : (nr : ℕ) → at_end nr ≡ true → found nr ≡ true
unfolding found
found_end nr i = or_right (at_header nr || eqb nr 11 || in_step nr) (at_end nr) i

spoiled_finds : (nr : ℕ) (w : Walk) → found nr ≡ true → Finds (spoiled nr w)
unfolding Finds spoiled answer_of plain_answer
spoiled_finds nr w i = inr i

good_finds : (w : Walk) → (good_answer w).number ≡ 0
unfolding good_answer
good_finds w = refl

ends_finds : (w : Walk) (rest : List Bool) (r : Reading) → WalkEnds w rest r → Finds r
ends_finds w rest _ (WalkEnds.completes f) = unfold Finds answer_of in inl (good_finds w)
ends_finds w rest _ (WalkEnds.spoils nr i) = spoiled_finds nr w (found_end nr i)

-- wherever a run from any walk leads
run_finds : (w : Walk) (bs : List Bool) → Finds (settle (run_all w bs))
unfolding run_all
run_finds w bs = go (run k w bs) (ran k w bs)
  where
    k : ℕ
    k = enough w.dim w.darts

    go : (r : Run) → Final w bs r → Finds (settle r)
    go _ (Final.ended {w' = w1} {rest = r1} x o) = unfold settle in ends_finds w1 r1 (finish w1 r1) (finish_ends w1 r1)
    go _ (Final.waits {w' = w1} x) = unfold settle Finds answer_of in inl (good_finds w1)
    go _ (Final.refused {w' = w1} nr i x s) = unfold settle in spoiled_finds nr w1 (found_step nr i)

reading_finds : (Y : Layout) (bits : List Bool) (t : List ℕ) → Finds (reading_of Y bits t)
unfolding reading_of
reading_finds Y bits t = go (leb 16 (length bits))
  where
    N : ℕ
    N = header_dim bits

    n : ℕ
    n = header_darts bits

    body : (a b : Bool) → Finds (begun (header_form bits) Y a b N n (drop 16 bits) t)
    body false b = unfold begun Finds answer_of plain_answer found at_header among in inr refl
    body true false = unfold begun Finds answer_of plain_answer found at_header among in inr refl
    body true true = unfold begun in run_finds (start (header_form bits) Y N n t) (drop 16 bits)

    go : (b : Bool) → Finds (read_header Y b bits t)
    go false = unfold read_header Finds answer_of plain_answer in inl refl
    go true = unfold read_header in body (dim_fits N) (leb (size N n) (length t))

closing_finds : (r : Reading) (t : List ℕ) → Finds r → Finds (closing r t)
unfolding closing Finds answer_of
closing_finds (Reading.header bs) t f = unfold plain_answer found at_header among in inr refl
closing_finds (Reading.running w bs) t f = spoiled_finds 11 w (unfold found at_header among in refl)
closing_finds (Reading.complete w) t f = f
closing_finds (Reading.closed w) t f = f
closing_finds (Reading.refused nr p u) t f = f

-- 12 is not found
finds_no_12 : (r : Reading) → Finds r → (answer_of r).number ≢ 12
unfolding Finds
finds_no_12 r (inl z) e = omega arith
finds_no_12 r (inr i) e = not_both (found 12) (rw e at i) (unfold found at_header of_index in_step at_end among in refl)

-- a whole read never answers 12
pub read_no_12 : (Y : Layout) (bytes t : List ℕ) → (read_answer Y bytes t).number ≢ 12
unfolding read_answer read_whole
read_no_12 Y bytes t = finds_no_12 _ (closing_finds (reading_of Y (unpack bytes) t) t (reading_finds Y (unpack bytes) t))

-- what a call answers to a session: where a reading now stands, or 19, or 20, or the refusal that the record was lent with
data Gives (s : Session) (l : Left) : Type 0 where
  reads : (r : Reading) → Finds r → l.answer ≡ answer_of r → Gives s l
  plain : (nr p : ℕ) → nr ≢ 12 → l.answer ≡ plain_answer nr p → Gives s l
  repeats : (nr p : ℕ) → s.state ≡ Refused nr p → l.answer ≡ plain_answer nr p → Gives s l

gives_12 : {s : Session} {l : Left} → Gives s l → l.answer.number ≡ 12 → (p : ℕ) × (s.state ≡ Refused 12 p)
gives_12 (Gives.reads r f q) e = absurd (finds_no_12 r f (rw q at e))
gives_12 (Gives.plain nr p n q) e = absurd (n (unfold plain_answer in rw q at e))
gives_12 (Gives.repeats nr p st q) e = let x : nr ≡ 12 = unfold plain_answer in rw q at e in (p, rw x at st)

fit_gives : (s : Session) (t : List ℕ) (l : Left) (b : Bool) → Gives s l → Gives s (if_fit b s t l)
unfolding if_fit unchanged
fit_gives s t l true g = g
fit_gives s t l false g = Gives.plain 19 0 (λ e. omega arith) refl

after_finds : (w : Walk) (ys : List Bool) → Finds (after_end w ys)
unfolding after_end
after_finds w [] = unfold Finds answer_of in inl (good_finds w)
after_finds w (y ∷ ys) = spoiled_finds 18 w (unfold found at_header of_index in_step at_end among in refl)

-- a page, by the state
page_gives : (Y : Layout) (s : Session) (ys : List Bool) (t : List ℕ) (st : State) → s.state ≡ st → Gives s (page_as Y st s ys t)
unfolding page_as leaves unchanged go_on
page_gives Y s ys t Header q = Gives.reads _ (reading_finds Y (waiting_of s ++ ys) t) refl
page_gives Y s ys t Running q = Gives.reads _ (run_finds (walk_of Y s t) (waiting_of s ++ ys)) refl
page_gives Y s ys t Complete q = Gives.reads _ (after_finds (walk_of Y s t) ys) refl
page_gives Y s ys t Closed q = Gives.plain 20 0 (λ e. omega arith) refl
page_gives Y s ys t (Refused nr p) q = Gives.repeats nr p q refl

-- closing, by the state
close_gives : (Y : Layout) (s : Session) (t : List ℕ) (st : State) → s.state ≡ st → Gives s (close_as Y st s t)
unfolding close_as leaves unchanged
close_gives Y s t Header q = Gives.reads _ (closing_finds (Reading.header (waiting_of s)) t (unfold Finds answer_of plain_answer in inl refl)) refl
close_gives Y s t Running q =
    Gives.reads _ (closing_finds (Reading.running (walk_of Y s t) (waiting_of s)) t (unfold Finds answer_of in inl (good_finds (walk_of Y s t)))) refl
close_gives Y s t Complete q =
    Gives.reads _ (closing_finds (Reading.complete (walk_of Y s t)) t (unfold Finds answer_of in inl (good_finds (walk_of Y s t)))) refl
close_gives Y s t Closed q = Gives.plain 20 0 (λ e. omega arith) refl
close_gives Y s t (Refused nr p) q = Gives.repeats nr p q refl

-- for every session and all tables, fit or not: a page and closing answer 12 only if the record was lent as refused with it
pub page_12 : (Y : Layout) (s : Session) (bytes t : List ℕ) → (page Y s bytes t).answer.number ≡ 12 → (p : ℕ) × (s.state ≡ Refused 12 p)
unfolding page
page_12 Y s bytes t e = gives_12 (fit_gives s t _ (fit Y s t) (page_gives Y s (unpack bytes) t s.state refl)) e

pub close_12 : (Y : Layout) (s : Session) (t : List ℕ) → (close Y s t).answer.number ≡ 12 → (p : ℕ) × (s.state ≡ Refused 12 p)
unfolding close
close_12 Y s t e = gives_12 (fit_gives s t _ (fit Y s t) (close_gives Y s t s.state refl)) e

-- and such a record repeats it, with form and bodies as a refusal leaves them: it is fit, with any tables, and nothing changes
fit_12 : (Y : Layout) (s : Session) (t : List ℕ) (p : ℕ) → s.state ≡ Refused 12 p → no_bodies s.form s.bodies ≡ true → fit Y s t ≡ true
unfolding fit fit_as
fit_12 Y s t p q b = rw q (rw (wipes_fit 12 p (unfold wipes in refl)) b)

pub page_repeats_12 : (Y : Layout) (s : Session) (bytes t : List ℕ) (p : ℕ) → s.state ≡ Refused 12 p → no_bodies s.form s.bodies ≡ true
    → page Y s bytes t ≡ unchanged s t (plain_answer 12 p)
unfolding page_as
page_repeats_12 Y s bytes t p q b = page_as_lem Y s bytes t (Refused 12 p) (fit_12 Y s t p q b) q

pub close_repeats_12 : (Y : Layout) (s : Session) (t : List ℕ) (p : ℕ) → s.state ≡ Refused 12 p → no_bodies s.form s.bodies ≡ true
    → close Y s t ≡ unchanged s t (plain_answer 12 p)
unfolding close_as
close_repeats_12 Y s t p q b = close_as_lem Y s t (Refused 12 p) (fit_12 Y s t p q b) q
