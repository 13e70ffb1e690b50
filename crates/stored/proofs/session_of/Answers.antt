-- `stored::session_of` meets its contract: of a record that stands there is a session. Assumes nothing.
use mathlib.Core.Path.{◌∙◌, ap}
use Rattle.std.specs.Option.{unwrap_or}
use Rattle.stored.proofs.Laws.{session_here}
use Rattle.stored.proofs.session_of.Goals as goal

pub returns : goal.returns
returns c = c.unwrap_or.ensures ∙ ap (λ o. unwrap_or o c.open.result) (c.session_in.ensures ∙ session_here c.args.kept c.requires)
