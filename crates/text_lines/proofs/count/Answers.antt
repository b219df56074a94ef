-- `text_lines::count` meets its contract. Assumes nothing.
use mathlib.Core.Path.{◌∙◌}
use lib.Dec.{eqb}
use Rattle.std.proofs.Common.{rules, tests}
use Rattle.std.proofs.lemmas.Iterator.{YieldsList-from_slice}
use Rattle.std.proofs.lemmas.Iterator.Consumers.{YieldsList-at, YieldsList-from_filter, count_from_yields_List}
use Rattle.text_lines.proofs.LineForms.{separators_filtered}
use Rattle.text_lines.proofs.count.Goals as goal

pub returns : goal.returns
returns c =
    count_from_yields_List c.filter.result _ c.count.ensures.ran
    (YieldsList-from_filter _ (λ b. eqb b c.args.c) (YieldsList-at c.filter.ensures.source (YieldsList-from_slice c.args.s.now (cc))) c.filter.ensures.closure
    (λ x r q k. search (rules, tests)))
    ∙ separators_filtered c.args.c c.args.s.now
