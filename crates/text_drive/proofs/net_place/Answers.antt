-- `text_drive::net_place` meets its contract. Assumes nothing.
use mathlib.Core.Path.{ap, ◌∙◌}
use Rattle.text_spec.specs.FromText.{net}
use Rattle.text_names.specs.Tailed.{drivers_of}
use Rattle.text_names.proofs.Driven.{tailed_bare}
use Rattle.text_drive.proofs.net_place.Goals as goal

pub place-requires : goal.place-requires
place-requires c = (c.requires.0, c.requires.1)

pub returns : goal.returns
returns c = c.place.ensures ∙ ap (λ x. net x (drivers_of c.args.s.now)) (tailed_bare c.part.result.now ∙ c.part.ensures)
