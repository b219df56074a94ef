-- `text_scan::is_plain` meets its contract. Assumes nothing.
use Rattle.std.proofs.Common.{rules, tests}
use mathlib.Core.Path.{◌∙◌}
use Rattle.std.proofs.lemmas.Iterator.{YieldsList-from_slice}
use Rattle.std.proofs.lemmas.Iterator.Search.{all_from_yields_List}
use Rattle.text_spec.specs.Characters.{name_byte}
use Rattle.text_scan.proofs.Pieces.{every_list}
use Rattle.text_scan.proofs.is_plain.Goals as goal

pub returns : goal.returns
returns c =
    all_from_yields_List name_byte _ _ _ c.all.ensures.ran (YieldsList-from_slice c.args.s.now (cc)) (λ x b q k. search (rules, tests))
    ∙ every_list name_byte c.args.s.now
