-- `lane_settle::block_count` meets its contract: there are few numbers of inputs. Assumes nothing.
use Prim.Native.Nat.{ℕ, zero, suc, ◌+◌, ◌-◌, ◌*◌, ◌%◌, ◌^◌, ◌≤◌, ◌<◌}
use native.Mathlib.Omega.{arith}
use mathlib.Core.Path.{◌≡◌}
use lib.Dec.{lit≤, lit<}
use Rattle.lane_settle.proofs.block_count.Goals as goal

one : (n : ℕ) → n < 6 → (2 ^ n ≤ 64 * 1) × (64 * 1 < 2 ^ n + 64)
one zero h = (lit≤ tt, lit< tt)
one (suc zero) h = (lit≤ tt, lit< tt)
one (suc (suc zero)) h = (lit≤ tt, lit< tt)
one (suc (suc (suc zero))) h = (lit≤ tt, lit< tt)
one (suc (suc (suc (suc zero)))) h = (lit≤ tt, lit< tt)
one (suc (suc (suc (suc (suc zero))))) h = (lit≤ tt, lit< tt)
one (suc (suc (suc (suc (suc (suc n)))))) h = absurd (omega arith)

more : (k : ℕ) → k ≤ 4 → (1 * 2 ^ k % 18446744073709551616 ≤ 16) × (2 ^ (6 + k) ≤ 64 * (1 * 2 ^ k % 18446744073709551616))
    × (64 * (1 * 2 ^ k % 18446744073709551616) < 2 ^ (6 + k) + 64)
more zero h = (lit≤ tt, lit≤ tt, lit< tt)
more (suc zero) h = (lit≤ tt, lit≤ tt, lit< tt)
more (suc (suc zero)) h = (lit≤ tt, lit≤ tt, lit< tt)
more (suc (suc (suc zero))) h = (lit≤ tt, lit≤ tt, lit< tt)
more (suc (suc (suc (suc zero)))) h = (lit≤ tt, lit≤ tt, lit< tt)
more (suc (suc (suc (suc (suc k))))) h = absurd (omega arith)

pub returns-then-inputs-lt6 : goal.returns-then-inputs-lt6
returns-then-inputs-lt6 c = let o = one c.args.inputs (omega arith) in (lit≤ tt, o.0, o.1)

pub returns : goal.returns
returns c =
    let n = c.args.inputs in
    let e : 6 + (n - 6) ≡ n = omega arith in
    let m = more (n - 6) (omega arith) in
    (m.0, rw e at m.1, rw e at m.2)
