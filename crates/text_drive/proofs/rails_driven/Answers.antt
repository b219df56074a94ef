-- `text_drive::rails_driven` meets its contract. Assumes nothing.
use mathlib.Core.Path.{ap, ◌∙◌}
use lib.Dec.{eqb}
use Rattle.std.proofs.Common.{rules, tests}
use Rattle.std.specs.List.{list_all}
use Rattle.std.proofs.lemmas.Iterator.Search.{all_from_yields_List}
use Rattle.std.proofs.lemmas.Iterator.Splits.{YieldsList-from_slice_split}
use Rattle.text_spec.specs.Characters.{comma}
use Rattle.text_spec.specs.Lines.{split}
use Rattle.text_scan.proofs.Pieces.{split_list}
use Rattle.text_names.specs.Tailed.{drivers_of}
use Rattle.text_drive.proofs.Needed.{both_rails, all_rails}
use Rattle.text_drive.proofs.rails_driven.Goals as goal

pub returns : goal.returns
returns c =
    let ds = drivers_of c.args.s.now in
    all_from_yields_List (both_rails ds) _ _ _ c.all.ensures.ran
    (YieldsList-from_slice_split _ (λ b. eqb b comma) c.args.line.now c.split.ensures.rest c.split.ensures.done c.split.ensures.closure (λ x r q k. search (rules, tests)))
    (λ x b q k. search (rules, tests))
    ∙ ap (list_all (both_rails ds)) (split_list comma c.args.line.now)
    ∙ all_rails ds (split comma c.args.line.now)
