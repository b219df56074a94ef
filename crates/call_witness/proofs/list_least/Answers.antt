-- `call_witness::list_least` meets its contract. The loop's invariant: what has switched is listed, and none below a place may switch. Assumes nothing.
use Prim.Native.Nat.{◌+◌, ◌*◌}
use native.Mathlib.Omega.{arith}
use mathlib.Core.Path.{◌≡◌, refl}
use Rattle.circuit_steps.specs.Moves.{row_in}
use Rattle.call_witness.proofs.Steps.{walk_start, walk_long, walk_full, walk_none, is_net_holds, walk_room, walk_turn}
use Rattle.call_witness.proofs.list_least.Goals as goal

pub overflow_add-end : goal.overflow_add-end
overflow_add-end c =
    omega (arith, c.requires.4, c.requires.0.within.inputs_in, c.requires.0.within.gates_in_holds)

pub loop-count-init : goal.loop-count-init
loop-count-init c =
    (walk_start c.args.counts c.args.code.now (row_in c.args.counts c.args.goal.now) c.args.held _ _ _ c.requires.3 c.requires.4, refl)

pub least_from-net-requires : goal.least_from-net-requires
least_from-net-requires c =
    let w = c.loop-count.invariant.0 in
    (c.table-entries.ensures, c.requires.0, c.requires.1, w.row_for_holds, w.from_in)

pub shape_of-row-then-net-nets : goal.shape_of-row-then-net-nets
shape_of-row-then-net-nets c = c.loop-count.invariant.1

pub shape_of-list-then-net-nets : goal.shape_of-list-then-net-nets
shape_of-list-then-net-nets c =
    walk_long c.args.counts c.args.code.now (row_in c.args.counts c.args.goal.now) c.args.held _ _ _ _ _ c.loop-count.invariant.0

pub returns-then-net-nets : goal.returns-then-net-nets
returns-then-net-nets c =
    let l = c.loop-count in
    let w = l.invariant.0 in
    record { row = w.row_for_holds; listed = walk_none c.args.counts c.args.code.now (row_in c.args.counts c.args.goal.now) c.args.held _ _ _ _ _ w _ c.least_from-net.ensures c.if-net-nets.true }

pub switch_net-requires : goal.switch_net-requires
switch_net-requires c =
    let w = c.loop-count.invariant.0 in
    (w.row_for_holds, is_net_holds c.args.counts c.args.code.now (row_in c.args.counts c.args.goal.now) c.args.held _ _ _ _ _ w _ c.least_from-net.ensures c.if-net-nets.false (omega arith))

pub overflow_cast-list : goal.overflow_cast-list
overflow_cast-list c =
    let l = c.loop-count in
    omega (arith, is_net_holds c.args.counts c.args.code.now (row_in c.args.counts c.args.goal.now) c.args.held _ _ _ _ _ l.invariant.0 _ c.least_from-net.ensures c.if-net-nets.false (omega (arith, c.loop-count-test.true)), c.requires.0.within.inputs_in, c.requires.0.within.gates_in_holds)

pub offset_bounds-list-count : goal.offset_bounds-list-count
offset_bounds-list-count c =
    let l = c.loop-count in
    omega (arith, walk_room c.args.counts c.args.code.now (row_in c.args.counts c.args.goal.now) c.args.held _ _ _ _ _ l.invariant.0 _ c.least_from-net.ensures c.if-net-nets.false (omega (arith, c.loop-count-test.true)))

pub bounds-list-count : goal.bounds-list-count
bounds-list-count c =
    let l = c.loop-count in
    walk_room c.args.counts c.args.code.now (row_in c.args.counts c.args.goal.now) c.args.held _ _ _ _ _ l.invariant.0 _ c.least_from-net.ensures c.if-net-nets.false (omega (arith, c.loop-count-test.true))

pub look_from-from-requires : goal.look_from-from-requires
look_from-from-requires c =
    let l = c.loop-count in
    omega (arith, is_net_holds c.args.counts c.args.code.now (row_in c.args.counts c.args.goal.now) c.args.held _ _ _ _ _ l.invariant.0 _ c.least_from-net.ensures c.if-net-nets.false (omega (arith, c.loop-count-test.true)), c.requires.2.long)

pub loop-count-preserved : goal.loop-count-preserved
loop-count-preserved c =
    let l = c.loop-count in (
      walk_turn c.args.counts c.args.code.now (row_in c.args.counts c.args.goal.now) c.args.held _ _ _ _ _ l.invariant.0 _ c.least_from-net.ensures c.if-net-nets.false (omega (arith, c.loop-count-test.true)) _ c.requires.2 _ c.switch_net.ensures.row c.switch_net.ensures.toggled _ c.look_from-from.ensures,
      omega (arith, c.row-1.given, l.invariant.1),
    )

pub shape_of-row : goal.shape_of-row
shape_of-row c = c.loop-count.invariant.1

pub shape_of-list : goal.shape_of-list
shape_of-list c =
    walk_long c.args.counts c.args.code.now (row_in c.args.counts c.args.goal.now) c.args.held _ _ _ _ _ c.loop-count.invariant.0

pub returns : goal.returns
returns c =
    let l = c.loop-count in
    let w = l.invariant.0 in
    let e : l.count ≡ c.args.start + (2 * c.args.counts.inputs + c.args.counts.gates) = omega arith in
    record { row = w.row_for_holds; listed = rw (← e) (walk_full c.args.counts c.args.code.now (row_in c.args.counts c.args.goal.now) c.args.held _ _ _ _ _ w (omega arith)) }
