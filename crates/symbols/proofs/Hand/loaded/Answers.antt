-- `symbols::Hand::loaded` meets its contract: the byte's bits come after those that are held. Assumes nothing.
use Prim.Native.Nat.{◌*◌, ◌-◌, ◌%◌, ◌^◌}
use mathlib.Core.Path.{refl}
use native.Mathlib.Omega.{arith}
use lib.ListN.{get_or}
use Rattle.symbols.proofs.Hands.{moved_small, head_small, loading}
use Rattle.symbols.proofs.Hand.loaded.Goals as goal

pub overflow_add-result-2 : goal.overflow_add-result-2
overflow_add-result-2 c =
    let a = c.args in
    let part = get_or a.page.now a.self.at 0 * 2 ^ a.bit % 256 in
    omega (arith, head_small c.requires.0, moved_small part (16 - a.self.bits) (omega arith) (omega arith))

pub returns : goal.returns
returns c =
    let x = c.type_inv.page c.args.self.at in
    loading c.requires.0 _ _ _ c.requires.1 x.fits c.requires.3 (omega arith) refl c.requires.2 refl refl
