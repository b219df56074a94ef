-- `call_keys::next_by_key` meets its contract. The loop's invariant: of the nets that were looked at, the best is known. Assumes nothing.
use Prim.Native.Nat.{ℕ}
use native.Mathlib.Omega.{arith}
use mathlib.Core.Path.{◌≡◌, sym, ◌∙◌, subst}
use Rattle.circuit.specs.Stage.{net_count}
use Rattle.circuit_steps.specs.Moves.{moves, loaded_net, row_in}
use Rattle.run_spec.specs.Keys.{key_in}
use Rattle.call_keys.specs.Lists.{BestOf}
use Rattle.call_keys.proofs.Best.{best_start, best_past, best_of_both}
use Rattle.call_keys.proofs.next_by_key.Goals as goal
use Rattle.call_keys.proofs.next_by_key.Goals.{then-may_switch, else-may_switch}

pub loop-net-init : goal.loop-net-init
loop-net-init c =
    (best_start (moves (loaded_net c.args.counts c.args.code.now) (row_in c.args.counts c.args.goal.now) (row_in c.args.counts c.args.row.now)) (key_in c.args.keys.now) (net_count c.args.counts), omega arith)

pub may_switch-requires : goal.may_switch-requires
may_switch-requires c =
    (c.requires.0, c.requires.1, c.requires.2, c.requires.3, omega (arith, c.loop-net-test.true))

pub earlier-best-requires : goal.earlier-best-requires
earlier-best-requires c =
    let l = c.loop-net in
    (omega (arith, c.requires.4), omega (arith, l.invariant.0.within), omega (arith, c.loop-net-test.true))

pub loop-net-preserved : goal.loop-net-preserved
loop-net-preserved c =
    let l = c.loop-net in
    let more = c.loop-net-test.true in
    let may = c.may_switch.ensures in (
      elim c.if-may_switch.branch [
        | then-may_switch w ↦ rw w.best-is (best_of_both (moves (loaded_net c.args.counts c.args.code.now) (row_in c.args.counts c.args.goal.now) (row_in c.args.counts c.args.row.now)) (key_in c.args.keys.now) (net_count c.args.counts) l.net l.best l.invariant.0 (sym may ∙ w.if-may_switch.true) (omega (arith, more)) _ w.earlier-best.ensures)
        | else-may_switch w ↦ rw w.best-is (best_past (moves (loaded_net c.args.counts c.args.code.now) (row_in c.args.counts c.args.goal.now) (row_in c.args.counts c.args.row.now)) (key_in c.args.keys.now) (net_count c.args.counts) l.net l.best l.invariant.0 (sym may ∙ w.if-may_switch.false))
      ],
      omega (arith, more),
    )

pub returns : goal.returns
returns c =
    let l = c.loop-net in
    let all : l.net ≡ net_count c.args.counts = omega (arith, l.invariant.1, c.loop-net-test.false) in
    subst (λ (m : ℕ). BestOf (moves (loaded_net c.args.counts c.args.code.now) (row_in c.args.counts c.args.goal.now) (row_in c.args.counts c.args.row.now)) (key_in c.args.keys.now) (net_count c.args.counts) m l.best) all l.invariant.0
