-- `check_rules::level_set` meets its contract. The loop's invariant: the number is the set of those registers before t that have the level. Assumes nothing.
use lib.ListN.{get_or}
use lib.Dec.{eqb}
use Rattle.check_rules.specs.Rules.{SetTo}
use Rattle.check_rules.proofs.level_set.Given as goal

abbrev pub invariant-loop-t : goal.invariant-loop-t
invariant-loop-t l = SetTo (λ i. eqb (get_or l.levels i 0) l.level) l.t l.all
