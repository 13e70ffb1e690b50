-- How many bytes to fetch after a run, and what a page answers with it. Rests on Lefts and on the rules' Fetch.
use Prim.Native.Nat.{ℕ}
use Rattle.std.specs.Prelude.{Result, Ok, Err}
use mathlib.Core.Path.{◌≡◌, refl, ap, sym, ◌∙◌}
use mathlib.Core.Bool.{Bool, true, false}
use mathlib.Core.List.{List}
use Rattle.rules.specs.Walk.{Walk}
use Rattle.rules.specs.Stream.{Taken, take_symbol}
use Rattle.rules.specs.Reading.{Reading, spoiled, test, finish, settle}
use Rattle.rules.specs.Session.{Left, leaves}
use Rattle.rules.specs.Fetch.{more_bits, fetch_of}
use Rattle.rules.proofs.Fetch.{wants, fetch_store}
use Rattle.runs.specs.declared.Stop.{Stop}
use Rattle.runs.specs.declared.Stop.TheVariants.{Waits, Refused}
use Rattle.runs.specs.Runs.{signal_run}
use Rattle.records.specs.declared.Answered.{Answered}
use Rattle.rules.specs.declared.ReadAnswer.{ReadAnswer}
use Rattle.rules.specs.declared.PageAnswer.{PageAnswer}
use Rattle.records.specs.Lefts.{left_by}
use Rattle.records.specs.Fetches.{read_by, signal_fetch, Fetches}

-- the walk's end wants nothing
test_wants : (b : Bool) (nr : ℕ) (w : Walk) (r : Reading) → wants r ≡ 0 → wants (test b nr w r) ≡ 0
unfolding test spoiled wants
test_wants true nr w r e = e
test_wants false nr w r e = refl

finish_wants : (w : Walk) (bs : List Bool) → wants (finish w bs) ≡ 0
unfolding finish wants
finish_wants w bs = test_wants _ _ w _ (test_wants _ 16 w _ (test_wants _ 17 w _ (test_wants _ 18 w _ refl)))

-- a run that waits wants the bytes of the bits that its symbol has to come
pub signal_wants : (x : Result (Unit {0}) Stop) (w : Walk) (bs : List Bool) → ((k : ℕ) → x ≡ Err (Waits k) → take_symbol bs ≡ Taken.short k)
    → signal_fetch x ≡ wants (settle (signal_run x w bs))
unfolding settle signal_run wants spoiled
signal_wants (Ok u) w bs h = sym (finish_wants w bs)
signal_wants (Err (Waits k)) w bs h = unfold more_bits in rw (h k refl)
signal_wants (Err (Refused nr)) w bs h = refl

-- a page leaves what a call leaves, and answers what the session wants that it leaves
pub fetches_at : (r : Answered PageAnswer) (p : Answered ReadAnswer) (t : List ℕ) (f : ℕ) → (read_by r ≡ p) × (r.answer.fetch ≡ f) → {l : Left} → left_by p t ≡ l
    → f ≡ fetch_of p.session → Fetches r t l
fetches_at r p t f (e, q) h w =
    record { left = ap (λ (y : Answered ReadAnswer). left_by y t) e ∙ h; fetch = q ∙ (w ∙ ap (λ (y : Answered ReadAnswer). fetch_of y.session) (sym e)) }

-- what the session wants that a call leaves, by the reading that it leaves
pub left_wants : (p : Answered ReadAnswer) (t : List ℕ) (x : Reading) (u : List ℕ) → left_by p t ≡ leaves x u → wants x ≡ fetch_of p.session
unfolding left_by leaves
left_wants p t x u l = sym (fetch_store x) ∙ ap (λ (y : Left). fetch_of y.session) (sym l)
