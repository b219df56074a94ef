-- `text_table::hash_on` meets its contract. Assumes nothing.
use native.Mathlib.Omega.{arith}
use Rattle.text_table.proofs.Tables.{hashed_start, hashed_on, hashed_end}
use Rattle.text_table.proofs.hash_on.Goals as goal

pub loop-b-init : goal.loop-b-init
loop-b-init c = hashed_start c.requires

pub overflow_mul-r : goal.overflow_mul-r
overflow_mul-r c = omega (arith, c.loop-b.invariant.small)

pub loop-b-preserved : goal.loop-b-preserved
loop-b-preserved c = hashed_on c.loop-b.invariant (omega arith)

pub returns : goal.returns
returns c = hashed_end c.loop-b.invariant (omega arith)
