-- `family::next_stage` meets its contract. Assumes nothing.
use Rattle.call_next.proofs.Calling.{located_listed}
use native.Mathlib.Omega.{arith}
use Rattle.call_next.proofs.Calling.{first_listed, next_outside, next_start, next_stage_lem}
use Rattle.call_next.proofs.next_stage.Goals as goal

pub write_place-requires : goal.write_place-requires
write_place-requires c = first_listed _ _ c.first_from-following.ensures

pub overflow_add-number : goal.overflow_add-number
overflow_add-number c = let l = located_listed _ _ _ _ _ c.in-Stage.is c.locate-at.ensures in omega (arith, l.2)

pub first_from-following-requires-in-Stage : goal.first_from-following-requires-in-Stage
first_from-following-requires-in-Stage c = let l = located_listed _ _ _ _ _ c.in-Stage.is c.locate-at.ensures in (l.0, l.1)

pub write_place-requires-in-Stage : goal.write_place-requires-in-Stage
write_place-requires-in-Stage c = first_listed _ _ c.first_from-following-in-Stage.ensures

pub returns-in-Start : goal.returns-in-Start
returns-in-Start c =
    next_start c.args.s.now c.args.buffer.now _ c.in-Start.is
    c.locate-at.ensures _ c.first_from-following.ensures
    c.write_place.ensures

pub returns-in-Stage : goal.returns-in-Stage
returns-in-Stage c =
    next_stage_lem c.args.s.now c.args.buffer.now _ _ _ _ c.in-Stage.is
    c.locate-at.ensures _ c.first_from-following-in-Stage.ensures
    c.write_place-in-Stage.ensures

pub returns-in-Outside : goal.returns-in-Outside
returns-in-Outside c =
    next_outside c.args.s.now c.args.buffer.now _ c.in-Outside.is c.locate-at.ensures
    c.refused_by.ensures
