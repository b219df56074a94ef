-- `family::write_place` meets its contract. Assumes nothing.
use Rattle.call_next.proofs.Calling.{place_listed, place_stage, place-start, place_outside}
use Rattle.call_next.proofs.write_place.Goals as goal

pub write_number-requires : goal.write_number-requires
write_number-requires c =
    place_listed _ c.args.buffer.now _ _ _ c.in-Stage.is c.requires

pub returns-in-Stage : goal.returns-in-Stage
returns-in-Stage c =
    place_stage _ c.args.buffer.now _ _ _ _ c.in-Stage.is c.write_number.ensures

pub returns-in-Start : goal.returns-in-Start
returns-in-Start c = place-start _ c.args.buffer.now c.in-Start.is c.refused_by.ensures

pub returns-in-Outside : goal.returns-in-Outside
returns-in-Outside c = place_outside _ c.args.buffer.now c.in-Outside.is c.refused_by-in-Outside.ensures
