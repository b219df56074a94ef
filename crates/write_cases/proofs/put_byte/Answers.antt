-- `write_cases::put_byte` meets its contract. Assumes nothing.
use native.Mathlib.Omega.{arith}
use Rattle.write_decimal.proofs.Decimal.{decimal_short}
use Rattle.write_lines.proofs.Within.{within, within_one, within-++}
use Rattle.write_cases.proofs.put_byte.Goals as goal

pub put_decimal-requires : goal.put_decimal-requires
put_decimal-requires c = omega (arith, decimal_short 2 c.args.byte (omega arith) (omega arith))

pub returns : goal.returns
returns c = within-++ (within_one c.put_char-first.ensures) (within 3 c.put_decimal.ensures (decimal_short 2 c.args.byte (omega arith) (omega arith)))
