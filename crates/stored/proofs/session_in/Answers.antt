-- `stored::session_in` meets its contract: the numbers of the record, each told. Assumes nothing.
use native.Mathlib.Omega.{arith}
use Rattle.stored.proofs.Laws.{the_session}
use Rattle.stored.proofs.session_in.Goals as goal

pub returns : goal.returns
returns c =
    the_session c.args.kept (omega arith) c.in_ok-state_in.ensures c.in_ok-narrow_in.ensures c.in_ok-narrow_in-2.ensures c.in_ok-narrow_in-3.ensures
    c.in_ok-narrow_in-4.ensures c.in_ok-narrow_in-5.ensures c.in_ok-narrow_in-6.ensures
    c.in_ok-narrow_in-7.ensures c.in_ok-narrow_in-8.ensures c.in_ok-narrow_in-9.ensures c.in_ok-narrow_in-10.ensures c.in_ok-narrow_in-11.ensures c.in_ok-narrow_in-12.ensures
    c.in_ok-form_in.ensures c.in_ok-narrow_in-13.ensures
