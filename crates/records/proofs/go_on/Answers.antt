-- `records::go_on` meets its contract: a run, where it leaves the session, and how many bytes to fetch after it. Assumes nothing.
use mathlib.Core.Path.{◌∙◌}
use native.Mathlib.Omega.{arith}
use Rattle.rules.proofs.Fetch.{short_few}
use Rattle.records.proofs.Lefts.{run_settles, run_left}
use Rattle.records.proofs.Fetches.{signal_wants, left_wants, fetches_at}
use Rattle.records.proofs.go_on.Goals as goal

pub to_fetch-fetch-requires : goal.to_fetch-fetch-requires
to_fetch-fetch-requires c = λ i q. omega (arith, short_few _ i (c.run-r.ensures.short i q))

pub settle-requires : goal.settle-requires
settle-requires c = run_settles _ _ _ _ _ c.requires.dims _ _ c.run-r.ensures

pub returns : goal.returns
returns c =
    let r = c.run-r.ensures in
    fetches_at _ _ _ _ c.asking.ensures (run_left _ _ _ _ _ c.requires.dims _ _ r _ c.settle.ensures)
    (c.to_fetch-fetch.ensures ∙ (signal_wants _ _ _ r.short ∙ left_wants _ _ _ _ c.settle.ensures))
