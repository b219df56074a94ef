-- `text_read::put_line` meets its contract. Assumes nothing.
use mathlib.Core.Path.{ap, ◌∙◌}
use Rattle.text_names.specs.Tailed.{drivers_of}
use Rattle.text_spec.specs.Characters.{kind_named}
use Rattle.text_read.proofs.Making.{line_put}
use Rattle.text_read.proofs.put_line.Goals as goal

pub returns : goal.returns
returns c =
    line_put (drivers_of c.args.s.now) c.args.line.now c.kind_named-kind.result c.pin_net-a.result c.pin_net-b.result c.pin_net-c.result c.pin_net-d.result
    c.part-pins.result.now (c.kind_named-kind.ensures ∙ ap kind_named c.part.ensures) c.part-pins.ensures c.pin_net-a.ensures c.pin_net-b.ensures
    c.pin_net-c.ensures c.pin_net-d.ensures c.put_stage_gate.ensures
