-- `lane_settle::mark_pins` meets its contract. Assumes nothing.
use mathlib.Core.Path.{◌∙◌}
use Rattle.lane_settle.proofs.Marks.{pins_marked}
use Rattle.lane_settle.proofs.mark_pins.Goals as goal

pub returns : goal.returns
returns c =
    let fourth = c.mark-4 in
    let third = c.mark-3 in
    let second = c.mark-2 in
    let first = c.mark in (
      fourth.ensures.0 ∙ third.ensures.0 ∙ second.ensures.0 ∙ first.ensures.0,
      pins_marked c.args.code.now c.args.k _
          c.pins_of-pins.ensures.is
          c.args.words c.args.ack.now first.new.ack second.new.ack third.new.ack
          fourth.new.ack first.ensures.1 second.ensures.1 third.ensures.1 fourth.ensures.1,
    )
