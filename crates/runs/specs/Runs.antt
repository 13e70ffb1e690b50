-- A run as the code tells it: how it ends, and what it leaves.
use Rattle.std.specs.Prelude.{ℕ, ◌+◌, ◌≡◌, Bool, true, cond, List, Result, Ok, Err}
use Rattle.rules.specs.Map.{by_dart}
use Rattle.rules.specs.Walk.{Walk}
use Rattle.rules.specs.Stream.{Taken, take_symbol}
use Rattle.rules.specs.Reading.{Run, run_all}
use Rattle.rules.specs.Session.{walk_at}
use Rattle.rules.specs.Bodies.{several}
use Rattle.rules.specs.Inner.{Inv, body_due}
use Rattle.rules.specs.declared.Form.{Form}
use Rattle.rules.specs.declared.Stand.{Stand}
use Rattle.symbols.specs.declared.bits.Bits.{Bits}
use Rattle.symbols.specs.Cursors.{at_hand}
use Rattle.symbols.specs.Bits.{of}
use Rattle.steps.specs.Steps.{stand_in}
use Rattle.runs.specs.declared.Search.{Search}
use Rattle.runs.specs.declared.Halted.{Halted}
use Rattle.runs.specs.declared.Ran.{Ran}
use Rattle.runs.specs.declared.Stop.{Stop}
use Rattle.runs.specs.declared.Stop.TheVariants.{Waits, Refused}

-- a search at a rank
abbrev pub search_at : ℕ → ℕ → ℕ → Search
search_at j k B = record { rank = j; count = k; bodies = B }

-- past a rank: on to the next, or to L0 with the body begun that is due
unfoldable pub past_of : Form → ℕ → ℕ → Search → Search
past_of F N n a =
    cond (body_due F N n (a.rank + 1) a.count) (search_at 0 (a.count + 1) (a.bodies + 1)) (search_at (a.rank + 1) a.count a.bodies)

-- how a run ends, as the rules' run
unfoldable pub signal_run : Result (Unit {0}) Stop → Walk → List Bool → Run
signal_run (Ok u) w bs = Run.ended w bs
signal_run (Err (Waits k)) w bs = Run.waits w bs
signal_run (Err (Refused nr)) w bs = Run.refused nr w

-- a run as the rules tell it
abbrev pub told_run : ℕ → ℕ → Ran → List ℕ → Run
told_run N n r t = signal_run r.signal (walk_at by_dart N n r.stand t) (of at_hand r.bits)

-- what a run leaves, with the positions that it leaves
abbrev pub ran_at : Form → Halted Bits → List ℕ → Ran
ran_at F r ps = record { stand = stand_in F r.bodies r.count ps; bits = r.bits; signal = r.signal }

-- what a run leaves: the page and the form as they were; at the walk's end no bit waits and, as no body is due, every dart of the several form is numbered;
-- where it waits the bits left run out within a symbol, with so many to come
pub record Runs (N n : ℕ) (s : Stand) (c : Bits) (t : List ℕ) (r : Ran) (t' : List ℕ) : Type 0 where
  pub tells : told_run N n r t' ≡ run_all (walk_at by_dart N n s t) (of at_hand c)
  pub page : r.bits.page.now ≡ c.page.now
  pub inv : Inv (walk_at by_dart N n r.stand t')
  pub form : r.stand.form ≡ s.form
  pub clean : r.signal ≡ Ok tt → r.bits.cursor.waiting ≡ 0
  pub whole : r.signal ≡ Ok tt → several r.stand.form ≡ true → r.stand.count ≡ n
  pub short : (k : ℕ) → r.signal ≡ Err (Waits k) → take_symbol (of at_hand r.bits) ≡ Taken.short k
