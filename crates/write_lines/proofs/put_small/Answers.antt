-- `write_lines::put_small` meets its contract. Assumes nothing.
use native.Mathlib.Omega.{arith}
use Rattle.write_decimal.proofs.Decimal.{decimal_short}
use Rattle.write_lines.proofs.Within.{within}
use Rattle.write_lines.proofs.put_small.Goals as goal

pub put_decimal-requires : goal.put_decimal-requires
put_decimal-requires c = omega (arith, decimal_short 4 c.args.n (omega arith) (omega arith))

pub returns : goal.returns
returns c =
    within 5 c.put_decimal.ensures (decimal_short 4 c.args.n (omega arith) (omega arith))
