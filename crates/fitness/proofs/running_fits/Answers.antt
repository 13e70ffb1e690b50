-- `fitness::running_fits` meets its contract: the walk fits, its next step needs a symbol, and the bits begin one. Assumes nothing.
use mathlib.Core.Path.{◌≡◌, sym, ◌∙◌}
use mathlib.Core.Bool.{true}
use lib.ListN.{length}
use Rattle.rules.specs.Map.{by_dart}
use Rattle.rules.specs.Session.{walk_fits}
use Rattle.fitness.proofs.Laws.{running_unfit, running_still, running_begun, limits_of, shape_of}
use Rattle.fitness.proofs.running_fits.Goals as goal
use Rattle.fitness.proofs.running_fits.Goals.{Else-not-walk_fits}

-- the walk fits
fits : (c : Else-not-walk_fits) → walk_fits by_dart c.args.s c.args.tables.now ≡ true
fits c = sym c.walk_fits.ensures ∙ c.if-not-walk_fits.false

pub invariant_of-map : goal.invariant_of-map
invariant_of-map c = record { limits = limits_of _ _ (fits (goal.at.invariant_of-map c).Else-not-walk_fits) }

pub asks-requires : goal.asks-requires
asks-requires c =
    let seven : length c.args.s.positions ≡ 7 =
    c.well_formed.0.1.1.1.1.1.1.0.1.0.1 in
    shape_of _ _ (fits (goal.at.asks-requires c).Else-not-walk_fits) _ c.from.ensures seven

pub returns-then-not-walk_fits : goal.returns-then-not-walk_fits
returns-then-not-walk_fits c = running_unfit _ _ (sym c.walk_fits.ensures ∙ c.if-not-walk_fits.true)

pub returns-then-asks : goal.returns-then-asks
returns-then-asks c =
    running_begun _ _ (fits (goal.at.returns-then-asks c).Else-not-walk_fits) _ c.from.ensures _ c.asks.ensures c.if-asks.true _ c.begins.ensures

pub returns-else-asks : goal.returns-else-asks
returns-else-asks c =
    let no = c.if-asks.false in
    let unfit = running_still _ _ (fits (goal.at.returns-else-asks c).Else-not-walk_fits) _ c.from.ensures _ c.asks.ensures no in
    cc
