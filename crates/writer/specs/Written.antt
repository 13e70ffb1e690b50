-- Where the writer stands on its way, and what it comes to.
use Rattle.std.specs.Prelude.{ℕ, ◌≤◌, List, Result, Ok, Err}
use Rattle.rules.specs.declared.Form.{Form}
use Rattle.rules.specs.declared.Refusal.{Refusal}
use Rattle.rules.specs.declared.WriteAnswer.{WriteAnswer}
use Rattle.rules.specs.Refusals.{number_of}
use Rattle.rules.specs.Walk.{Symbol}
use Rattle.rules.specs.Stream.{codes}
use Rattle.replay.specs.Replays.{NumberedFrom, Replaying}
use Rattle.pen.specs.declared.Sheet.{Sheet}
use Rattle.pen.specs.Pens.{PenFits, Put}

-- the replay has yielded some symbols, and their codes were put since the sheet was the first
pub record Writing (F : Form) (N n : ℕ) (m : List ℕ) (root c : ℕ) (ps : List ℕ) (first sheet : Sheet) : Type 0 where
  pub symbols : List Symbol
  pub replaying : Replaying F N n m root c ps symbols
  pub put : Put (codes symbols) first sheet

-- it stands somewhere on its way over a finished numbering, of some form and from some root, and the first pen had room for all
pub record Underway (N n : ℕ) (m work : List ℕ) (c : ℕ) (ps : List ℕ) (sheet : Sheet) : Type 0 where
  pub form : Form
  pub root : ℕ
  pub first : Sheet
  pub numbered : NumberedFrom form N n m root work
  pub room : PenFits 401422 first.pen
  pub writing : Writing form N n m root c ps first sheet

-- it has gone on in the same body from wherever it stood
pub record WentOn (N n : ℕ) (m work : List ℕ) (c : ℕ) (ps : List ℕ) (sheet : Sheet) (c' : ℕ) (ps' : List ℕ) (sheet' : Sheet) : Type 0 where
  pub writing : (F : Form) (root : ℕ) (first : Sheet) → NumberedFrom F N n m root work → Writing F N n m root c ps first sheet
      → Writing F N n m root c' ps' first sheet'
  pub grows : c ≤ c'

-- the answer that a result makes: its own, or the refusal's, with nothing written and no length told
abbrev pub answer_by : Result WriteAnswer (Refusal ℕ) → WriteAnswer
answer_by (Ok a) = a
answer_by (Err r) = record { number = number_of r.reason; place = r.place; written = 0; length = 0 }
