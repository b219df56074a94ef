-- `text_names::rail_among` meets its contract. Assumes nothing.
use mathlib.Core.Path.{ap, ◌∙◌}
use Rattle.std.proofs.Common.{rules, tests}
use Rattle.std.specs.List.{list_any}
use Rattle.std.proofs.lemmas.Iterator.Search.{any_from_yields_List}
use Rattle.std.proofs.lemmas.Iterator.Splits.{YieldsList-from_slice_split}
use Rattle.text_spec.specs.Characters.{comma}
use Rattle.text_spec.specs.Lines.{split}
use Rattle.text_scan.proofs.Pieces.{split_list}
use Rattle.text_names.specs.Tailed.{tailed}
use Rattle.text_names.proofs.Driven.{has_rail, rails_any}
use Rattle.text_names.proofs.rail_among.Goals as goal

pub returns : goal.returns
returns c =
    let x = tailed c.args.a.now c.args.t in
    any_from_yields_List (has_rail x) _ _ _ c.any.ensures.ran
    (YieldsList-from_slice_split _ _ c.args.s.now c.split.ensures.rest c.split.ensures.done c.split.ensures.closure (λ x r q k. search (rules, tests)))
    (λ x b q k. search (rules, tests))
    ∙ ap (list_any (has_rail x)) (split_list comma c.args.s.now)
    ∙ rails_any x (split comma c.args.s.now)
