-- `write_joined::put_gate` meets its contract. Assumes nothing.
use mathlib.Core.Path.{◌∙◌}
use Rattle.gates.specs.Cell.{pin_count}
use Rattle.circuit.specs.Stage.{cell_in, pin_in, stage_in}
use Rattle.write_joined.specs.Moved.{net_moved}
use Rattle.write_command.proofs.Putting.{put_same}
use Rattle.write_joined.proofs.Moving.{pins_of, four_operands, five_equal}
use Rattle.write_joined.proofs.put_gate.Goals as goal

pub returns : goal.returns
returns c =
    let code = c.args.code.now in
    let k = c.args.k in
    let g = c.requires.0.gate k c.requires.2 in
    put_same
    (five_equal c.kind_at.ensures c.pin_in_whole-a.ensures
    c.pin_in_whole-b.ensures c.pin_in_whole-c.ensures
    c.pin_in_whole-d.ensures
    ∙ four_operands _ (pin_count (cell_in code k)) (net_moved (stage_in c.args.place.counts c.args.place.first.now) c.args.place.moved) (pin_in code k) (pins_of (cell_in code k) g.low g.high))
    c.put_stage_gate.ensures
