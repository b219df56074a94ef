-- `lane_complete::fall_gates` meets its contract. The loop's invariant: the gates before place i of the order have their levels. Assumes nothing.
use native.Mathlib.Omega.{arith}
use mathlib.Core.Path.{◌≡◌, subst}
use lib.ListN.{length-set}
use Rattle.lane_settle.specs.Block.{LanesSettledTo}
use Rattle.lane_settle.proofs.Resting.{settled_rest}
use Rattle.lane_complete.proofs.Turns.{fall_turn}
use Rattle.lane_complete.proofs.fall_gates.Goals as goal

pub loop-i-preserved : goal.loop-i-preserved
loop-i-preserved c =
    let l = c.loop-i in (
      simp length-set l.invariant.0,
      λ b n r. fall_turn c.args.counts c.args.code.now c.requires.0 c.requires.1 c.args.row.now l.row (omega (arith, l.invariant.0, c.requires.3)) l.i (omega arith) _
          c.gate_at-k.ensures b n c.args.rest.now r (l.invariant.1 b n r) _ c.stay_words.ensures,
    )

pub returns-clause-settled : goal.returns-clause-settled
returns-clause-settled c =
    let l = c.loop-i in
    let e : l.i ≡ c.args.counts.gates = omega arith in
    λ b n rows r ok s. settled_rest c.args.counts c.args.code.now c.requires.1 rows l.row
    (subst (LanesSettledTo c.args.counts c.args.code.now rows l.row) e (l.invariant.1 b n r rows ok s))
