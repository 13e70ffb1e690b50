-- `records::plain` meets its contract. Assumes nothing.
use borrow.Author.Rules.{rules}
use Rattle.rules.specs.Reading.{plain_answer}
use Rattle.records.proofs.plain.Goals as goal

pub returns : goal.returns
unfolding plain_answer
returns c = search rules
