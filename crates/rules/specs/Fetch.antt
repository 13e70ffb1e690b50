-- Document 02, E9, "How much more to fetch": the least number of whole bytes that could finish the waiting symbol or header, and the page's answer with it.
use Rattle.std.specs.Prelude.{ℕ, ◌+◌, ◌-◌, ◌/◌, List, ◌++◌, Bool, true, false, cond, length, leb}
use Rattle.rules.specs.declared.Session.{Session}
use Rattle.rules.specs.declared.State.{State}
use Rattle.rules.specs.declared.State.TheVariants.{Header, Running, Complete, Closed, Refused}
use Rattle.rules.specs.declared.PageAnswer.{PageAnswer}
use Rattle.rules.specs.Map.{Layout}
use Rattle.rules.specs.Stream.{unpack, Taken, take_symbol}
use Rattle.rules.specs.Session.{waiting_of, fit, Left, page}

-- the least number of whole bytes that have so many bits
unfoldable pub whole_bytes : ℕ → ℕ
whole_bytes k = (k + 7) / 8

-- how many more bits could at least finish a symbol
unfoldable pub more_bits : Taken → ℕ
more_bits (Taken.short k) = k
more_bits (Taken.symbol s rest) = 0

-- by the state: both header bytes, or the symbol that the next step needs; nothing waits when complete, closed or refused
unfoldable pub fetch_as : State → Session → ℕ
fetch_as Header s = whole_bytes (16 - s.waiting)
fetch_as Running s = whole_bytes (more_bits (take_symbol (waiting_of s)))
fetch_as Complete s = 0
fetch_as Closed s = 0
fetch_as (Refused nr p) s = 0

-- the least number of whole bytes that could finish what waits in a session
unfoldable pub fetch_of : Session → ℕ
fetch_of s = fetch_as s.state s

-- what a page leaves: the record, the answer of six numbers, and the tables
pub record PageLeft : Type 0 where
  pub session : Session
  pub answer : PageAnswer
  pub tables : List ℕ

-- what a call leaves, with the bytes to fetch
unfoldable pub fetching : Left → ℕ → PageLeft
fetching l f = record { session = l.session; answer = record { reading = l.answer; fetch = f }; tables = l.tables }

-- the page call: as it is in Session, with what the session wants that it leaves; 0 when unfit
unfoldable pub page_call : Layout → Session → List ℕ → List ℕ → PageLeft
page_call Y s bytes t = let l = page Y s bytes t in fetching l (cond (fit Y s t) (fetch_of l.session) 0)

-- What the number is to say.

-- is it a whole symbol?
unfoldable pub is_whole : Taken → Bool
is_whole (Taken.short k) = false
is_whole (Taken.symbol s rest) = true

-- by the state, with the bits that wait and those of some bytes: are both header bytes in, is the symbol whole? Nothing waits in the other states
unfoldable pub finishes_as : State → List Bool → Bool
finishes_as Header bits = leb 16 (length bits)
finishes_as Running bits = is_whole (take_symbol bits)
finishes_as Complete bits = true
finishes_as Closed bits = true
finishes_as (Refused nr p) bits = true

-- do these bytes finish what waits?
unfoldable pub finishes : Session → List ℕ → Bool
finishes s bytes = finishes_as s.state (waiting_of s ++ unpack bytes)
