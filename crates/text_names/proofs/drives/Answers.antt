-- `text_names::drives` meets its contract. Assumes nothing.
use mathlib.Core.Path.{ap, ◌∙◌}
use Rattle.text_spec.specs.Characters as characters
use Rattle.text_names.specs.Tailed.{tailed}
use Rattle.text_names.proofs.Driven.{tailed_bare}
use Rattle.text_names.proofs.drives.Goals as goal

pub returns : goal.returns
returns c =
    c.same_tailed.ensures ∙ ap (characters.same (tailed c.args.a.now c.args.t)) (tailed_bare c.part.result.now ∙ c.part.ensures)
