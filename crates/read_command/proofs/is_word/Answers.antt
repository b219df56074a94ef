-- `read_command::is_word` meets its contract: a u16 is below 2 to the power 16. Assumes nothing.
use Prim.Native.Nat.{◌*◌, ◌%◌, ◌^◌}
use native.Mathlib.Omega.{arith}
use mathlib.Core.Path.{◌≡◌, sym}
use lib.Pow.{pow_mono}
use borrow.Author.Tests.{lt-ltb}
use Rattle.read_command.proofs.is_word.Goals as goal

pub returns-then-n-lt16 : goal.returns-then-n-lt16
returns-then-n-lt16 c =
    let n = c.args.n in
    let e : 1 * 2 ^ n % 2 ^ 64 ≡ 2 ^ n = omega (arith, pow_mono {i = n} {j = 16} (omega arith)) in
    rw e

pub returns : goal.returns
returns c =
    let n = c.args.n in
    let w = c.args.w in
    sym (lt-ltb w (2 ^ n) (omega (arith, pow_mono {i = 16} {j = n} (omega arith))))
