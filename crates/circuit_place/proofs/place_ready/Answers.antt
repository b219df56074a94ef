-- `circuit_place::place_ready` meets its contract. The loop's invariant: the nets before i have had their turn. Assumes nothing.
use native.Mathlib.Omega.{arith}
use mathlib.Core.Path.{refl}
use Rattle.circuit_place.proofs.Placing.{turn_first, turn_room, turn_place, turn_skip, turn_last}
use Rattle.circuit_place.proofs.place_ready.Goals as goal
use Rattle.circuit_place.proofs.place_ready.Goals.{then-is_ready, else-is_ready}

pub loop-i-init : goal.loop-i-init
loop-i-init c = (refl, turn_first c.args.code.now c.args.first c.args.count c.args.taken c.requires.1)

pub is_ready-requires : goal.is_ready-requires
is_ready-requires c = let l = c.loop-i in (l.invariant.1.placing.long, c.loop-i-test.true, c.requires.0)

pub overflow_add-placed : goal.overflow_add-placed
overflow_add-placed c = let l = c.loop-i in omega (arith, c.requires.0, turn_room c.args.code.now l.code c.args.first c.args.count c.args.taken l.placed l.i l.invariant.1 c.loop-i-test.true l.invariant.0 l.code 0 _ c.is_ready.ensures c.if-is_ready.true)

pub overflow_cast-code : goal.overflow_cast-code
overflow_cast-code c = let l = c.loop-i in omega (arith, c.requires.0, turn_room c.args.code.now l.code c.args.first c.args.count c.args.taken l.placed l.i l.invariant.1 c.loop-i-test.true l.invariant.0 l.code 0 _ c.is_ready.ensures c.if-is_ready.true)

pub overflow_mul-code : goal.overflow_mul-code
overflow_mul-code c = let l = c.loop-i in omega (arith, l.invariant.1.placing.long, c.requires.0)

pub overflow_add-code : goal.overflow_add-code
overflow_add-code c = let l = c.loop-i in omega (arith, l.invariant.1.placing.long, c.requires.0)

pub offset_bounds-code-i : goal.offset_bounds-code-i
offset_bounds-code-i c = let l = c.loop-i in omega (arith, l.invariant.1.placing.long, c.requires.0)

pub bounds-code-i : goal.bounds-code-i
bounds-code-i c = let l = c.loop-i in omega (arith, l.invariant.1.placing.long, c.loop-i-test.true)

pub loop-i-preserved : goal.loop-i-preserved
loop-i-preserved c =
    let l = c.loop-i in
    elim c.if-is_ready.branch [
      | then-is_ready w ↦ turn_place c.args.code.now l.code c.args.first c.args.count c.args.taken l.placed l.i l.invariant.1 c.loop-i-test.true l.invariant.0 _ _ _ c.is_ready.ensures w.if-is_ready.true w.code-is w.placed-is
      | else-is_ready w ↦ turn_skip c.args.code.now l.code c.args.first c.args.count c.args.taken l.placed l.i l.invariant.1 c.loop-i-test.true l.invariant.0 _ _ _ c.is_ready.ensures w.if-is_ready.false w.code-is w.placed-is
    ]

pub shape_of-code : goal.shape_of-code
shape_of-code c = c.loop-i.invariant.0

pub returns : goal.returns
returns c = let l = c.loop-i in turn_last c.args.code.now l.code c.args.first c.args.count c.args.taken l.placed l.i l.invariant.1 c.loop-i-test.false
