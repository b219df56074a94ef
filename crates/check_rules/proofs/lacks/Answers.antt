-- `check_rules::lacks` meets its contract. Assumes nothing.
use Rattle.check_rules.proofs.Sets.{lacks_is}
use borrow.Author.Rules.{rules}
use Rattle.check_rules.proofs.lacks.Goals as goal

pub returns : goal.returns
returns c = lacks_is c.args.all c.args.few (search rules)
