-- `walk::number_all` meets its contract: the root begins the first body; once that is numbered nothing is due in the one-body form, and the several form has
-- the rest of the bodies. Assumes nothing.
use native.Mathlib.Omega.{arith}
use borrow.Author.Rules.{rules}
use mathlib.Core.List.{[], ◌∷◌}
use Rattle.tables.specs.Maps.{of}
use Rattle.walk.specs.Standing.{Going}
use Rattle.walk.proofs.Walking.{Rooted}
use Rattle.walk.proofs.Going.{rooted, going_starts, going_ends, one_ends, is_several, as_several}
use Rattle.walk.proofs.number_all.Goals as goal
use Rattle.walk.proofs.number_all.Goals.{Start, After-give_number, After-number_body-count}

-- from the root, the first body begins, and is numbered
from : (c : Start) → let a = c.args in of Rooted a.valid.now.map a.root
from c = let v = c.args.valid.now in rooted v.map.limits v.valid c.requires.0

begins : (c : After-give_number) → let a = c.args in
    of (Going a.form) a.valid.now.map a.root a.work.now 1 1 (0 ∷ 0 ∷ 0 ∷ 0 ∷ 0 ∷ 0 ∷ 0 ∷ []) c.give_number.new.work
begins c = going_starts c.args.form (from (goal.at.After-give_number c).Start) c.args.work.now _ _ c.blank.ensures c.give_number.ensures

first : (c : After-number_body-count) → let a = c.args in let n = c.number_body-count in
    of (Going a.form) a.valid.now.map a.root a.work.now 1 n.result n.new.positions n.new.work
first c = c.number_body-count.ensures.0.going _ _ _ 1 (begins (goal.at.After-number_body-count c).After-give_number)

pub number_body-count-requires : goal.number_body-count-requires
number_body-count-requires c =
    let a = c.args in
    let g = begins (goal.at.number_body-count-requires c).After-give_number in
    (search rules, record { form = a.form; root = a.root; lent = a.work.now; bodies = 1; going = g })

pub number_rest-requires : goal.number_rest-requires
number_rest-requires c =
    let g = first (goal.at.number_rest-requires c).After-number_body-count in
    (search rules, c.number_body-count.ensures.1, (_, _, is_several c.in-Several.is g))

pub returns-in-One : goal.returns-in-One
returns-in-One c =
    let P = from (goal.at.returns-in-One c).Start in
    let G = first (goal.at.returns-in-One c).After-number_body-count in
    going_ends P G _ c.number_body-count.ensures.1 (omega arith) (one_ends P G c.in-One.is)

pub returns-in-Several : goal.returns-in-Several
returns-in-Several c = as_several c.in-Several.is (first (goal.at.returns-in-Several c).After-number_body-count) (c.number_rest.ensures _ _)
