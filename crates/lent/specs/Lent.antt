-- What a call over a lent record leaves, as the rules tell it: the record, the answer and the tables in one.
use Rattle.std.specs.Prelude.{ℕ, List}
use Rattle.rules.specs.declared.Session.{Session}
use Rattle.rules.specs.declared.ReadAnswer.{ReadAnswer}
use Rattle.rules.specs.declared.PageAnswer.{PageAnswer}
use Rattle.rules.specs.Session.{Left}
use Rattle.rules.specs.Fetch.{PageLeft}

-- the record, the answer and the tables as they stand
abbrev pub lent_by : Session → ReadAnswer → List ℕ → Left
lent_by s a t = record { session = s; answer = a; tables = t }

-- the same with a page's answer
abbrev pub page_lent_by : Session → PageAnswer → List ℕ → PageLeft
page_lent_by s a t = record { session = s; answer = a; tables = t }
