-- `write_decimal::put_decimal` meets its contract: the cycle of calls {put_decimal}. The measure is the number.
-- Assumes nothing.
use native.Mathlib.Omega.{arith}
use Rattle.write_decimal.proofs.Decimal.{one_room, one_put, front_room, last_room, more_put}
use Rattle.write_decimal.proofs.+put_decimal.Goals as goal

pub put_char-requires : goal.put_char-requires
put_char-requires t c = one_room c.args.n c.args.at c.args.buffer.now c.requires c.if-n-lt10.true

pub returns-then-n-lt10 : goal.returns-then-n-lt10
returns-then-n-lt10 t c = one_put c.args.n c.args.at c.args.buffer.now c.requires c.if-n-lt10.true c.put_char.ensures

pub put_decimal-last-requires : goal.put_decimal-last-requires
put_decimal-last-requires t c =
    (omega (arith, c.decreases), front_room c.args.n c.args.at c.args.buffer.now c.requires c.if-n-lt10.false (omega arith))

pub put_char-requires-2 : goal.put_char-requires-2
put_char-requires-2 t c =
    last_room c.args.n c.args.at c.args.buffer.now c.requires c.if-n-lt10.false (omega arith) c.put_decimal-last.ensures

pub returns : goal.returns
returns t c =
    more_put c.args.n c.args.at c.args.buffer.now c.requires c.if-n-lt10.false (omega arith) c.put_decimal-last.ensures
    c.put_char-2.ensures
