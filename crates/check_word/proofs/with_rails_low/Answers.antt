-- `check_word::with_rails_low` meets its contract. Assumes nothing.
use Prim.Native.Nat.{◌+◌, ◌-◌, ◌*◌}
use native.Mathlib.Omega.{arith}
use Rattle.check_word.proofs.Falling.{low_copied, low_levels}
use Rattle.check_word.proofs.with_rails_low.Goals as goal

pub returns : goal.returns
returns c =
    let n = c.args.counts in
    let t = low_copied n c.args.row.now c.requires.0 c.requires.1 c.copy_from_slice.new.self (2 * n.inputs + n.gates - 2 * n.inputs) (omega arith)
    c.copy_from_slice.ensures.after in
    (t.row_for_holds, t.rails, low_levels n c.args.row.now _ c.requires.1 _ t (omega arith))
