-- `fitness::entries_fit` meets its contract: each answer is what the runs before it leave. Assumes nothing.
use Prim.Native.Nat.{◌+◌, ◌*◌}
use mathlib.Core.Path.{◌≡◌, sym, ◌∙◌}
use mathlib.Core.Bool.{◌||◌}
use native.Mathlib.Omega.{arith}
use lib.Dec.{eqb, ltb}
use lib.ListN.{get_or}
use Rattle.std.proofs.Common.{rules, tests}
use Rattle.fitness.specs.Parts.{all_within, known_at, open_at, blank_at}
use Rattle.fitness.proofs.Laws.{Runs, runs_end, start_told, run_told, entries_known, entries_open, entries_blank, entries_passed}
use Rattle.fitness.proofs.entries_fit.Goals as goal
use Rattle.fitness.proofs.entries_fit.Goals.{Start, After-all_fit, After-all_fit-2, After-all_fit-3}

-- each run ends within the tables, and no later than the next
ends : (c : Start) → let a = c.args in Runs a.map.now.dim a.map.now.darts a.count (get_or a.positions a.map.now.dim 0)
ends c =
    let p = c.requires in
    runs_end _ _ _ _ c.args.positions c.args.map.now.limits p.0 p.1 p.2

-- what each run's test tells
knowns : (c : After-all_fit)
    → let a = c.args in c.all_fit.result ≡ all_within 0 ((a.map.now.dim + 1) * get_or a.positions a.map.now.dim 0) (known_at a.map.now.tables.now a.count)
unfolding known_at
knowns c =
    let e = ends (goal.at.After-all_fit c).Start in
    start_told _ _ _ _ (omega (arith, e, c.args.map.now.limits.room)) (c.all_fit.ensures (λ x. ltb x c.args.count) (λ x b h. search (rules, tests)))

opens : (c : After-all_fit-2)
    → let a = c.args in
    c.all_fit-2.result ≡ all_within ((a.map.now.dim + 1) * get_or a.positions a.map.now.dim 0) ((a.map.now.dim + 1) * a.count) (open_at a.map.now.tables.now a.count)
unfolding open_at
opens c =
    let e = ends (goal.at.After-all_fit-2 c).Start in
    run_told _ _ _ _ _ (omega (arith, e)) (omega (arith, e, c.args.map.now.limits.room))
    (c.all_fit-2.ensures (λ x. ltb x c.args.count || eqb x 65535) (λ x b h. search (rules, tests)))

blanks : (c : After-all_fit-3)
    → let a = c.args in c.all_fit-3.result ≡ all_within ((a.map.now.dim + 1) * a.count) ((a.map.now.dim + 1) * a.map.now.darts) (blank_at a.map.now.tables.now)
unfolding blank_at
blanks c =
    let e = ends (goal.at.After-all_fit-3 c).Start in
    run_told _ _ _ _ _ (omega (arith, e)) (omega (arith, e, c.args.map.now.limits.room)) (c.all_fit-3.ensures (λ x. eqb x 65535) (λ x b h. search (rules, tests)))

pub returns-then-not-all_fit : goal.returns-then-not-all_fit
returns-then-not-all_fit c =
    let p = c.requires in
    entries_known _ _ _ _ _ c.args.map.now.limits p.0 p.1 p.2 (sym (knowns (goal.at.returns-then-not-all_fit c).After-all_fit) ∙ c.if-not-all_fit.true)

pub returns-then-not-all_fit-2 : goal.returns-then-not-all_fit-2
returns-then-not-all_fit-2 c =
    let p = c.requires in
    entries_open _ _ _ _ _ c.args.map.now.limits p.0 p.1 p.2 (sym (opens (goal.at.returns-then-not-all_fit-2 c).After-all_fit-2) ∙ c.if-not-all_fit-2.true)

pub returns-then-not-all_fit-3 : goal.returns-then-not-all_fit-3
returns-then-not-all_fit-3 c =
    let p = c.requires in
    entries_blank _ _ _ _ _ c.args.map.now.limits p.0 p.1 p.2 (sym (blanks (goal.at.returns-then-not-all_fit-3 c).After-all_fit-3) ∙ c.if-not-all_fit-3.true)

pub returns : goal.returns
returns c =
    let p = c.requires in
    let at = goal.at.returns c in
    entries_passed _ _ _ _ _ c.args.map.now.limits p.0 p.1 p.2 (sym (knowns at.After-all_fit) ∙ c.if-not-all_fit.false)
    (sym (opens at.After-all_fit-2) ∙ c.if-not-all_fit-2.false) (sym (blanks at.After-all_fit-3) ∙ c.if-not-all_fit-3.false) _
    c.ranks_passed.ensures
