-- `lane_count::count_high` meets its contract. The loops' invariant: the counters say how many of the nets passed are high. Assumes nothing.
use Prim.Native.Nat.{◌+◌, ◌*◌}
use native.Mathlib.Omega.{arith}
use mathlib.Core.Path.{◌≡◌, subst}
use lib.ListN.{get_or}
use Rattle.lane_count.proofs.Levels.{CountedTo, counted_start, counted_room, counted_more, counted_eight}
use Rattle.lane_cells.proofs.Lane.{level_small}
use Rattle.lane_count.proofs.count_high.Goals as goal

pub loop-i-init : goal.loop-i-init
loop-i-init c = counted_start _ _

pub add_eight-requires : goal.add_eight-requires
add_eight-requires c =
    let l = c.loop-i in
    (omega (arith, l.invariant.long), omega (arith, c.requires.0), counted_room _ _ l.digits (8 * l.i) l.invariant 8 (omega (arith, c.requires.1)))

pub loop-i-preserved : goal.loop-i-preserved
loop-i-preserved c =
    let l = c.loop-i in
    let a = c.add_eight.ensures in
    let e : 8 * l.i + 8 ≡ 8 * (l.i + 1) = omega arith in
    subst (CountedTo c.args.row.now c.args.from _) e (counted_eight _ _ l.digits (8 * l.i) l.invariant (omega (arith, c.requires.0)) _ a.0 a.1)

pub add-requires : goal.add-requires
add-requires c j =
    let l = c.loop-i-2 in
    let room = counted_room _ _ l.digits l.i l.invariant 1 (omega (arith, c.requires.1)) j in
    omega (arith, room, level_small j (get_or c.args.row.now (c.args.from + l.i) 0))

pub loop-i-2-preserved : goal.loop-i-2-preserved
loop-i-2-preserved c =
    let l = c.loop-i-2 in
    let a = c.add.ensures in
    counted_more _ _ l.digits l.i l.invariant (omega (arith, c.requires.0)) _ a.0 (λ j. omega (arith, a.1 j))

pub returns : goal.returns
returns c =
    let l = c.loop-i-2 in
    let e : l.i ≡ c.args.count = omega arith in
    let s = subst (CountedTo c.args.row.now c.args.from l.digits) e l.invariant in (s.long, s.says)
