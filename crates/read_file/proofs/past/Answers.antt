-- `read_file::past` meets its contract. Assumes nothing.
use native.Mathlib.Omega.{arith}
use Rattle.read_file.proofs.past.Goals as goal

pub returns-then-spare : goal.returns-then-spare
returns-then-spare c = λ there. let used = there c.if-spare.true in omega (arith, c.ranges.v)
