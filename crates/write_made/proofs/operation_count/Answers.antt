-- `write_made::operation_count` meets its contract. The loop's invariant: the gates from gate k on are counted. Assumes nothing.
use Prim.Native.Nat.{ℕ}
use native.Mathlib.Omega.{arith}
use mathlib.Core.Path.{◌≡◌, sym, ap, ◌∙◌}
use lib.ListN.{drop}
use Rattle.make_spec.specs.Count.{operations}
use Rattle.circuit.specs.Stage.{tabulate}
use Rattle.circuit.specs.Reference.{operator_in, operators_in}
use Rattle.write_made.proofs.Marking.{counted_start, counted_not, counted_one}
use Rattle.write_made.proofs.operation_count.Goals as goal

pub loop-k-init : goal.loop-k-init
loop-k-init c = counted_start _ _

pub loop-k-preserved-then-operation_of-ne1 : goal.loop-k-preserved-then-operation_of-ne1
loop-k-preserved-then-operation_of-ne1 c = counted_one _ _ (omega arith) c.loop-k.invariant (λ e. c.if-operation_of-ne1.true (c.operation_of.ensures.is ∙ e))

pub loop-k-preserved : goal.loop-k-preserved
loop-k-preserved c = counted_not _ _ (omega arith) c.loop-k.invariant (sym c.operation_of.ensures.is ∙ c.if-operation_of-ne1.false)

pub returns : goal.returns
unfolding operators_in
returns c =
    let l = c.loop-k in
    let e : l.k ≡ 0 = omega arith in
    (l.invariant.is ∙ ap (λ (k : ℕ). operations (drop k (tabulate (operator_in c.args.reference.now) c.args.sizes.gates))) e, omega (arith, l.invariant.few))
