-- What a session's call leaves in the rooms lent to it: the record as stored numbers, the answer as stored numbers, and the tables. A face file's answer.
use Rattle.std.specs.Prelude.{ℕ, List, [], ◌∷◌, Bool, true, false}
use Rattle.rules.specs.Map.{by_dart}
use Rattle.rules.specs.declared.Session.{Session}
use Rattle.rules.specs.Reading.{plain_answer}
use Rattle.rules.specs.Session.{Left, close}
use Rattle.rules.specs.Fetch.{PageLeft, page_call}
use Rattle.shapes.specs.declared.FacesAnswer.{FacesAnswer}
use Rattle.stored.specs.Answers.{read_numbers, page_numbers}
use Rattle.stored.specs.Layout.{stored_session, session_by, standing}

-- what a session's call leaves in the rooms lent to it
pub record Lent : Type 0 where
  pub numbers : List ℕ
  pub answer : List ℕ
  pub tables : List ℕ

-- the rooms as they stand
abbrev pub lent : List ℕ → List ℕ → List ℕ → Lent
lent r a t = record { numbers = r; answer = a; tables = t }

-- the record, the answer and the tables as stored
unfoldable pub stored : Left → Lent
stored l = lent (stored_session l.session) (read_numbers l.answer) l.tables

-- the same of a page, with its answer of six numbers
unfoldable pub page_stored : PageLeft → Lent
page_stored l = lent (stored_session l.session) (page_numbers l.answer) l.tables

-- a session's call, or what is left where no Session stands for the record
unfoldable pub if_standing : Bool → Lent → Lent → Lent
if_standing true unfit l = l
if_standing false unfit l = unfit

-- a session's call on a stored session; a record that no Session stands for is 19, the answer given here, and it and the tables stay as given
unfoldable pub called : (Session → Lent) → List ℕ → List ℕ → List ℕ → Lent
called f unfit r t = if_standing (standing r) (lent r unfit t) (f (session_by r))

-- the page call on a stored session
unfoldable pub page_lent : List ℕ → List ℕ → List ℕ → Lent
page_lent r bytes t = called (λ s. page_stored (page_call by_dart s bytes t)) (page_numbers (record { reading = plain_answer 19 0; fetch = 0 })) r t

-- the close call on a stored session
unfoldable pub close_lent : List ℕ → List ℕ → Lent
close_lent r t = called (λ s. stored (close by_dart s t)) (read_numbers (plain_answer 19 0)) r t

-- a face file's answer: number, place, n
abbrev pub faces_numbers : FacesAnswer → List ℕ
faces_numbers a = a.number ∷ a.place ∷ a.darts ∷ []
