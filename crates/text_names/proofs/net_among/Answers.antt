-- `text_names::net_among` meets its contract. Assumes nothing.
use mathlib.Core.Path.{◌∙◌}
use Rattle.std.proofs.Common.{rules, tests}
use Rattle.std.proofs.lemmas.Iterator.Search.{any_from_yields_List}
use Rattle.text_scan.proofs.Turns.{lines_road}
use Rattle.text_names.specs.Tailed.{tailed}
use Rattle.text_names.proofs.Driven.{has_net, nets_any}
use Rattle.text_names.proofs.net_among.Goals as goal

pub returns : goal.returns
returns c =
    let x = tailed c.args.a.now c.args.t in
    any_from_yields_List (has_net x) c.any.new.self _ _ c.any.ensures.ran (lines_road _) (λ x b q k. search (rules, tests))
    ∙ nets_any x c.args.s.now
