-- The proof of the cycle of calls {visit}. The loop's invariant: what the first pins come from is visited. The measure is how many gates are left.
-- Assumes nothing.
use Prim.Native.Nat.{ℕ, ◌+◌, ◌<◌}
use native.Mathlib.Omega.{arith}
use mathlib.Core.Path.{◌≡◌, sym, subst}
use mathlib.Core.List.{List}
use lib.ListN.{set}
use Rattle.verdict.specs.Levels.{sum}
use Rattle.circuit.specs.Stage.{pin_in}
use Rattle.circuit_order.specs.Marks.{Visited, FirstPins}
use Rattle.circuit_order.proofs.Visiting.{visit_skip, visit_gate, visit_left, visit_sum, visit_more, visit_done}
use Rattle.circuit_order.proofs.+visit.Goals as goal
use Rattle.circuit_order.proofs.+visit.Goals.{then-left-net-gt0, else-left-net-gt0}

pub visit-requires : goal.visit-requires
visit-requires t c =
    let z = c.requires in
    let l = c.loop-i.invariant in
    let h : c.loop-i.i < 4 = omega arith in
    let is = c.pin_of-net.ensures.is in
    let e = rw is at c.if-left-net-gt0.true in
    rw is (
      subst (λ (u : ℕ). sum (set c.loop-i.left (pin_in c.args.code.now c.args.k c.loop-i.i) 0) < u) c.decreases (visit_sum c.args.counts c.args.code.now z.0 c.args.k z.1 c.args.left.now c.loop-i.left c.loop-i.i h l e),
      (z.0, (visit_gate c.args.counts c.args.code.now z.0 c.args.k z.1 c.args.left.now c.loop-i.left c.loop-i.i h l e).1, visit_left c.args.counts c.args.code.now z.0 c.args.k z.1 c.args.left.now c.loop-i.left c.loop-i.i h l e),
    )

pub loop-i-preserved : goal.loop-i-preserved
loop-i-preserved t c =
    let z = c.requires in
    let l = c.loop-i in
    let h : c.loop-i.i < 4 = omega arith in
    let is = c.pin_of-net.ensures.is in
    let on : List ℕ → Type 0 = λ u. Visited c.args.counts c.args.code.now c.args.left.now u (FirstPins c.args.counts c.args.code.now c.args.k (l.i + 1)) in
    elim c.if-left-net-gt0.branch [
      | then-left-net-gt0 w ↦ subst on (sym w.left-is)
          (visit_more c.args.counts c.args.code.now z.0 c.args.k z.1 c.args.left.now
          c.loop-i.left c.loop-i.i h l.invariant (rw is at w.if-left-net-gt0.true) _
          (rw is at w.visit.ensures))
      | else-left-net-gt0 w ↦ subst on (sym w.left-is)
          (visit_skip c.args.counts c.args.code.now z.0 c.args.k z.1 c.args.left.now
          c.loop-i.left c.loop-i.i h l.invariant (rw is at w.if-left-net-gt0.false))
    ]

pub returns : goal.returns
returns t c =
    let z = c.requires in let four : c.loop-i.i ≡ 4 = omega (arith, c.loop-i-test.false) in
    visit_done c.args.counts c.args.code.now z.0 c.args.k z.1 c.args.left.now c.loop-i.left
    (subst (λ (i : ℕ). Visited c.args.counts c.args.code.now c.args.left.now c.loop-i.left (FirstPins c.args.counts c.args.code.now c.args.k i)) four c.loop-i.invariant)
