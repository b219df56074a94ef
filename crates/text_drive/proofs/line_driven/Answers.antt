-- `text_drive::line_driven` meets its contract. Assumes nothing.
use mathlib.Core.Path.{ap, ◌∙◌}
use Rattle.text_spec.specs.FromText.{all_driven}
use Rattle.text_spec.specs.Lines.{split}
use Rattle.text_spec.specs.Characters.{comma}
use Rattle.text_names.specs.Tailed.{drivers_of}
use Rattle.text_drive.proofs.line_driven.Goals as goal

pub returns : goal.returns
returns c = c.pins_driven.ensures ∙ ap (λ l. all_driven (drivers_of c.args.s.now) (split comma l)) c.part.ensures
