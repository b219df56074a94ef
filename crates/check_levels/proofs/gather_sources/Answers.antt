-- `check_levels::gather_sources` meets its contract. The loop's invariant: the registers before t have what leads to their data. Assumes nothing.
use native.Mathlib.Omega.{arith}
use Rattle.check_levels.proofs.Gathering.{filled_none, data_gathers}
use Rattle.check_levels.proofs.gather_sources.Goals as goal

pub loop-t-init : goal.loop-t-init
loop-t-init c = filled_none _ _ _ _ _

pub returns : goal.returns
returns c =
    let l = c.loop-t in record {
      long = l.invariant.long;
      gathered = λ p own t h r s u hu hm row.
          data_gathers _ _ _ _ _ c.requires.0 p own t h r _ _ u _ (c.gather.ensures.gathered p own t h r s) hm row (l.invariant.done u (omega (arith, l.invariant.long, c.loop-t-test.false)));
    }
