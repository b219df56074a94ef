-- `text_scan::are_names` meets its contract. Assumes nothing.
use Rattle.std.proofs.Common.{rules, tests}
use mathlib.Core.Path.{◌∙◌}
use Rattle.std.proofs.lemmas.Iterator.Search.{all_from_yields_List}
use Rattle.std.proofs.lemmas.Iterator.Splits.{YieldsList-from_slice_split}
use Rattle.text_spec.specs.Characters.{is_name}
use Rattle.text_scan.proofs.Pieces.{names_list}
use Rattle.text_scan.proofs.are_names.Goals as goal

pub returns : goal.returns
returns c =
    all_from_yields_List (is_name c.args.most) _ _ _ c.all.ensures.ran
    (YieldsList-from_slice_split _ _ c.args.s.now c.split.ensures.rest c.split.ensures.done c.split.ensures.closure (λ x r q k. search (rules, tests)))
    (λ x b q k. search (rules, tests))
    ∙ names_list c.args.most c.args.s.now
