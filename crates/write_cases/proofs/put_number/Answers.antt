-- `write_cases::put_number` meets its contract. Assumes nothing.
use native.Mathlib.Omega.{arith}
use lib.ListN.{length-set}
use Rattle.write_cases.proofs.put_number.Goals as goal

pub bounds-line-1 : goal.bounds-line-1
bounds-line-1 c = simp length-set (omega arith)

pub bounds-line-2 : goal.bounds-line-2
bounds-line-2 c = simp length-set (omega arith)
