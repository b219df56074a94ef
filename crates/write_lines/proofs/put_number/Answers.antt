-- `write_lines::put_number` meets its contract. Assumes nothing.
use native.Mathlib.Omega.{arith}
use Rattle.write_decimal.proofs.Decimal.{decimal_long}
use Rattle.write_lines.proofs.Within.{within}
use Rattle.write_lines.proofs.put_number.Goals as goal

pub put_decimal-requires : goal.put_decimal-requires
put_decimal-requires c = omega (arith, decimal_long c.args.n)

pub returns : goal.returns
returns c =
    within 20 c.put_decimal.ensures (decimal_long c.args.n)
