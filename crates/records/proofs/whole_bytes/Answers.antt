-- `records::whole_bytes` meets its contract: by its definition. Assumes nothing.
use mathlib.Core.Path.{refl}
use Rattle.rules.specs.Fetch.{whole_bytes}
use Rattle.records.proofs.whole_bytes.Goals as goal

pub returns : goal.returns
unfolding whole_bytes
returns c = refl
