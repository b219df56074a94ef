-- `lane_count::counters` meets its contract. The loop's invariant: the digits from place i on are read. Assumes nothing.
use Prim.Native.Nat.{ℕ}
use native.Mathlib.Omega.{arith}
use mathlib.Core.Path.{◌≡◌, ap, ◌∙◌}
use lib.ListN.{drop}
use Rattle.lane_count.specs.Counters.{counted_beside}
use Rattle.lane_count.proofs.Beside.{beside_next, beside_fits, beside_none, mask_small}
use Rattle.lane_count.proofs.counters.Goals as goal

pub loop-i-init : goal.loop-i-init
loop-i-init c = beside_none c.args.j c.args.digits.now

pub overflow_mul-high : goal.overflow_mul-high
overflow_mul-high c = omega (arith, beside_fits c.args.j c.args.digits.now c.loop-i.i (omega arith) (omega arith) c.requires.0)

pub overflow_add-high : goal.overflow_add-high
overflow_add-high c =
    let l = c.loop-i in
    omega (
      arith,
      beside_fits c.args.j c.args.digits.now l.i (omega arith) (omega arith) c.requires.0,
      mask_small c.args.j c.args.digits.now l.i (omega arith) (omega arith),
    )

pub loop-i-preserved : goal.loop-i-preserved
loop-i-preserved c =
    let l = c.loop-i in omega (arith, l.invariant, beside_next c.args.j c.args.digits.now l.i (omega arith) (omega arith))

pub returns : goal.returns
returns c =
    let l = c.loop-i in
    let e : l.i ≡ 0 = omega arith in
    l.invariant ∙ ap (λ (n : ℕ). counted_beside c.args.j (drop n c.args.digits.now)) e
