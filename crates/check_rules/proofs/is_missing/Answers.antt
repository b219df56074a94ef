-- `check_rules::is_missing` meets its contract. Assumes nothing.
use mathlib.Core.Path.{◌∙◌}
use Rattle.check_rules.proofs.Rules.{missing_told}
use Rattle.check_rules.proofs.is_missing.Goals as goal

pub returns : goal.returns
returns c = λ p of behind_of.
    let t = c.targets_of in
    c.lacks.ensures ∙ missing_told p c.args.sources.now of c.requires.0 c.args.k c.requires.1 t.result t.ensures c.args.behind.now behind_of
