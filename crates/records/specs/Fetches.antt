-- What a page leaves, as the rules tell it: what it leaves of a reading, and what the session wants that it leaves.
use Rattle.std.specs.Prelude.{ℕ, ◌≡◌, List, Result, Ok, Err}
use Rattle.rules.specs.Session.{Left}
use Rattle.rules.specs.Fetch.{whole_bytes, fetch_of, PageLeft}
use Rattle.rules.specs.declared.ReadAnswer.{ReadAnswer}
use Rattle.rules.specs.declared.PageAnswer.{PageAnswer}
use Rattle.runs.specs.declared.Stop.{Stop}
use Rattle.runs.specs.declared.Stop.TheVariants.{Waits, Refused}
use Rattle.records.specs.declared.Answered.{Answered}
use Rattle.records.specs.Lefts.{left_by}

-- the session and the reading's answer
abbrev pub read_by : Answered PageAnswer → Answered ReadAnswer
read_by r = record { session = r.session; answer = r.answer.reading }

-- the session and the page's answer, with the tables as they stand
abbrev pub fetched_by : Answered PageAnswer → List ℕ → PageLeft
fetched_by r t = record { session = r.session; answer = r.answer; tables = t }

-- the bytes to fetch after a run
abbrev pub signal_fetch : Result (Unit {0}) Stop → ℕ
signal_fetch (Ok u) = 0
signal_fetch (Err (Waits k)) = whole_bytes k
signal_fetch (Err (Refused nr)) = 0

-- a page leaves this of a reading, and answers what the session wants that it leaves
pub record Fetches (r : Answered PageAnswer) (t : List ℕ) (l : Left) : Type 0 where
  pub left : left_by (read_by r) t ≡ l
  pub fetch : r.answer.fetch ≡ fetch_of r.session
