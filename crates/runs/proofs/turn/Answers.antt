-- `runs::turn` meets its contract: the three cases at the head of Lj. Assumes nothing.
use native.Mathlib.Omega.{arith}
use Rattle.steps.specs.declared.Case.TheVariants.{Known, Deduced, Asked}
use Rattle.runs.proofs.Turns.{ready_limits, served, turn_known, turn_deduced, after_refused}
use Rattle.runs.proofs.turn.Goals as goal

pub bounds-positions-j : goal.bounds-positions-j
bounds-positions-j c =
    let p = c.requires in
    let l = ready_limits p.0 in
    omega arith

pub invariant_of-map : goal.invariant_of-map
invariant_of-map c = record { limits = ready_limits c.requires.0 }

pub partner-requires : goal.partner-requires
partner-requires c =
    let p = c.requires in
    p.1.ranked

pub passed-requires : goal.passed-requires
passed-requires c =
    let p = c.requires in
    let v = served c.args.bits p.0 p.1 _ c.partner.ensures Known c.in-Known.is in
    let l = v.limits in
    (omega arith, omega arith)

pub by_deduction-requires : goal.by_deduction-requires
by_deduction-requires c =
    let p = c.requires in
    served c.args.bits p.0 p.1 _ c.partner.ensures (Deduced _) c.in-Deduced.is

pub asked-requires : goal.asked-requires
asked-requires c =
    let p = c.requires in
    (p.0, served c.args.bits p.0 p.1 _ c.partner.ensures Asked c.in-Asked.is)

pub returns-in-Known : goal.returns-in-Known
returns-in-Known c =
    let p = c.requires in
    let v = served c.args.bits p.0 p.1 _ c.partner.ensures Known c.in-Known.is in
    turn_known c.args.bits p.0 v _ c.passed.ensures

pub returns-in_err-next-in-Deduced : goal.returns-in_err-next-in-Deduced
returns-in_err-next-in-Deduced c =
    let p = c.requires in
    let v = served c.args.bits p.0 p.1 _ c.partner.ensures (Deduced _) c.in-Deduced.is in
    rw (after_refused _ c.in_err-next-in-Deduced.was _ c.from_residual.ensures.1) at (turn_deduced c.args.bits p.0 v _ _ _ c.by_deduction.ensures)

pub returns-in_ok-next-in-Deduced : goal.returns-in_ok-next-in-Deduced
returns-in_ok-next-in-Deduced c =
    let p = c.requires in
    let v = served c.args.bits p.0 p.1 _ c.partner.ensures (Deduced _) c.in-Deduced.is in
    rw c.in_ok-next-in-Deduced.was at (turn_deduced c.args.bits p.0 v _ _ _ c.by_deduction.ensures)
