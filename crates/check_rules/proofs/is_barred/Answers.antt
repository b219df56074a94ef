-- `check_rules::is_barred` meets its contract. Assumes nothing.
use borrow.Author.Rules.{rules}
use mathlib.Core.Path.{◌∙◌}
use Rattle.check_rules.proofs.Rules.{barred_alone, barred_data, barred_told}
use Rattle.check_rules.proofs.is_barred.Goals as goal

pub returns-then-reached-eq0 : goal.returns-then-reached-eq0
returns-then-reached-eq0 c = λ p ki-is of level-is behind_of.
    barred_alone p c.args.sources.now of c.requires.0 c.args.k c.requires.2 c.targets_of-reached.result c.targets_of-reached.ensures (search rules) c.args.ki ki-is c.if-reached-eq0.true

pub returns-then-behind-k : goal.returns-then-behind-k
returns-then-behind-k c = λ p ki-is of level-is behind_of.
    barred_data p c.args.sources.now of c.requires.0 c.args.k c.requires.2 c.targets_of-reached.result c.targets_of-reached.ensures (search rules)
    c.args.behind.now behind_of c.if-reached-eq0.false c.if-behind-k.true

pub returns : goal.returns
returns c = λ p ki-is of level-is behind_of.
    let n = c.level_set-next in
    c.lacks.ensures
    ∙ barred_told p c.args.sources.now of c.requires.0 c.args.k c.requires.2 c.targets_of-reached.result c.targets_of-reached.ensures (search rules)
    c.args.behind.now behind_of c.if-reached-eq0.false c.args.levels.now level-is c.requires.1
    c.if-behind-k.false n.result n.ensures
