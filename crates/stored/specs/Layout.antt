-- The stored record: a session as seventeen numbers, the session that seventeen numbers give, and which of them a session stands for.
use Rattle.std.specs.Prelude.{ℕ, zero, suc, List, [], ◌∷◌, ◌++◌, Bool, true, ◌&&◌, ◌||◌, cond, Option, Some, None, get_or, take, drop, eqb, ltb, leb}
use Rattle.rules.specs.declared.Session.{Session}
use Rattle.rules.specs.declared.State.{State}
use Rattle.rules.specs.declared.State.TheVariants.{Header, Running, Complete, Closed, Refused}
use Rattle.rules.specs.declared.Form.{Form}
use Rattle.rules.specs.declared.Form.TheVariants.{One, Several}

-- a state's number
abbrev pub state_number : State → ℕ
state_number Header = 0
state_number Running = 1
state_number Complete = 2
state_number Closed = 3
state_number (Refused nr p) = 4

-- the number of a refusal, else 0
abbrev pub refusal_number : State → ℕ
refusal_number Header = 0
refusal_number Running = 0
refusal_number Complete = 0
refusal_number Closed = 0
refusal_number (Refused nr p) = nr

-- the place of a refusal, else 0
abbrev pub refusal_place : State → ℕ
refusal_place Header = 0
refusal_place Running = 0
refusal_place Complete = 0
refusal_place Closed = 0
refusal_place (Refused nr p) = p

-- a form's number
abbrev pub form_number : Form → ℕ
form_number One = 0
form_number Several = 1

-- the numbers after the state: N, n, count, seven positions, waiting bits and their value, form and bodies
unfoldable pub after_state : Session → List ℕ
after_state s = s.dim ∷ s.darts ∷ s.count ∷ (s.positions ++ (s.waiting ∷ s.value ∷ form_number s.form ∷ s.bodies ∷ []))

-- a session as seventeen numbers: state, refusal's number and place, and the numbers after the state
unfoldable pub stored_session : Session → List ℕ
stored_session s = state_number s.state ∷ refusal_number s.state ∷ refusal_place s.state ∷ after_state s

-- the state of three numbers
abbrev pub state_by : ℕ → ℕ → ℕ → State
state_by zero nr p = Header
state_by (suc zero) nr p = Running
state_by (suc (suc zero)) nr p = Complete
state_by (suc (suc (suc zero))) nr p = Closed
state_by (suc (suc (suc (suc k)))) nr p = Refused nr p

-- the form of a number
abbrev pub form_by : ℕ → Form
form_by zero = One
form_by (suc k) = Several

-- the seven positions of seventeen numbers
abbrev pub positions_by : List ℕ → List ℕ
positions_by r = take 7 (drop 6 r)

-- the session of seventeen numbers
unfoldable pub session_by : List ℕ → Session
session_by r = record {
  state = state_by (get_or r 0 0) (get_or r 1 0) (get_or r 2 0);
  dim = get_or r 3 0;
  darts = get_or r 4 0;
  count = get_or r 5 0;
  positions = positions_by r;
  waiting = get_or r 13 0;
  value = get_or r 14 0;
  form = form_by (get_or r 15 0);
  bodies = get_or r 16 0;
}

-- only a refusal has number and place
unfoldable pub state_stands : ℕ → ℕ → ℕ → Bool
state_stands k nr p = leb k 4 && (eqb k 4 || (eqb nr 0 && eqb p 0))

-- a form's number is 0 or 1
unfoldable pub form_stands : ℕ → Bool
form_stands k = leb k 1

-- the numbers after the state of seventeen numbers
abbrev pub after_by : List ℕ → List ℕ
after_by r = drop 3 r

-- every number has at most 16 bits
unfoldable pub all_narrow : List ℕ → Bool
all_narrow [] = true
all_narrow (x ∷ l) = ltb x 65536 && all_narrow l

-- a Session stands for seventeen numbers: its state does, its form does, and the numbers after the state have at most 16 bits
unfoldable pub standing : List ℕ → Bool
standing r = state_stands (get_or r 0 0) (get_or r 1 0) (get_or r 2 0) && form_stands (get_or r 15 0) && all_narrow (after_by r)

-- the state of three numbers, if one stands for them
unfoldable pub state_in : ℕ → ℕ → ℕ → Option State
state_in k nr p = cond (state_stands k nr p) (Some (state_by k nr p)) None

-- the form of a number, if one stands for it
unfoldable pub form_in : ℕ → Option Form
form_in k = cond (form_stands k) (Some (form_by k)) None

-- a number, if it has at most 16 bits
unfoldable pub narrow_in : ℕ → Option ℕ
narrow_in x = cond (ltb x 65536) (Some x) None

-- the session of seventeen numbers, if one stands for them
unfoldable pub session_in : List ℕ → Option Session
session_in r = cond (standing r) (Some (session_by r)) None
