-- What a call leaves, as the rules tell it: the record, the answer and the tables in one.
use Rattle.std.specs.Prelude.{ℕ, ◌≡◌, Bool, true, List, [], ◌∷◌, Ok, Err}
use Rattle.rules.specs.declared.Form.{Form}
use Rattle.rules.specs.declared.Form.TheVariants.{One}
use Rattle.rules.specs.declared.Session.{Session}
use Rattle.rules.specs.declared.State.{State}
use Rattle.rules.specs.declared.ReadAnswer.{ReadAnswer}
use Rattle.rules.specs.Lists.{sum}
use Rattle.rules.specs.Map.{by_dart, Limits}
use Rattle.rules.specs.Bodies.{several}
use Rattle.rules.specs.Stream.{Taken, take_symbol}
use Rattle.symbols.specs.declared.Cursor.{Cursor}
use Rattle.symbols.specs.Cursors.{at_hand}
use Rattle.symbols.specs.Bits.{of}
use Rattle.tables.specs.Darts.{Inside}
use Rattle.rules.specs.declared.Stand.{Stand}
use Rattle.runs.specs.declared.Ran.{Ran}
use Rattle.runs.specs.declared.Stop.TheVariants.{Waits}
use Rattle.rules.specs.Reading.{bodies_found}
use Rattle.rules.specs.Session.{Left, walk_at}
use Rattle.steps.specs.Steps.{stand_in}
use Rattle.records.specs.declared.Answered.{Answered}

-- a session and an answer, with the tables as they stand
unfoldable pub left_by : Answered ReadAnswer → List ℕ → Left
left_by r t = record { session = r.session; answer = r.answer; tables = t }

-- a state with waiting bits as numbers, every other number 0, the form one-body
abbrev pub idle_by : State → ℕ → ℕ → Session
idle_by st k v = record {
  state = st;
  dim = 0;
  darts = 0;
  count = 0;
  positions = 0 ∷ 0 ∷ 0 ∷ 0 ∷ 0 ∷ 0 ∷ 0 ∷ [];
  waiting = k;
  value = v;
  form = One;
  bodies = 0;
}

-- a state with a walk's numbers and waiting bits as numbers
abbrev pub held_by : State → ℕ → ℕ → Stand → ℕ → ℕ → Session
held_by st N n s k v = record {
  state = st;
  dim = N;
  darts = n;
  count = s.count;
  positions = s.positions;
  waiting = k;
  value = v;
  form = s.form;
  bodies = s.bodies;
}

-- the good answer of a walk's numbers
abbrev pub good_by : ℕ → ℕ → Stand → ReadAnswer
good_by N n s = record { number = 0; place = 0; steps = sum s.positions; dim = N; darts = n }

-- the bodies of a form are found: of the walk only form, bodies, count and n are asked
abbrev pub found_by : Form → ℕ → ℕ → ℕ → Bool
found_by F B k n = bodies_found (walk_at by_dart 0 n (stand_in F B k []) [])

-- a walk ended at the cursor c: no bits wait, every link is a dart if all darts are numbered, and in the several form they are
pub record Ends (N n : ℕ) (s : Stand) (c : Cursor) (t : List ℕ) : Type 0 where
  pub limits : Limits N n t
  pub clean : c.waiting ≡ 0
  pub inside : s.count ≡ n → Inside N n t
  pub whole : several s.form ≡ true → s.count ≡ n

-- what a run owes the session that it leaves: where it waits the bits left run out within a symbol, with so many to come
pub record Settles (N n : ℕ) (r : Ran) (t : List ℕ) : Type 0 where
  pub limits : Limits N n t
  pub ends : r.signal ≡ Ok tt → Ends N n r.stand r.bits.cursor t
  pub short : (k : ℕ) → r.signal ≡ Err (Waits k) → take_symbol (of at_hand r.bits) ≡ Taken.short k
