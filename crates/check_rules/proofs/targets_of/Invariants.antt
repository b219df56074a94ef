-- `check_rules::targets_of` meets its contract. The loop's invariant: the number is the set of those registers before t that k reaches. Assumes nothing.
use Rattle.check_levels.specs.Graph.{source_in}
use Rattle.check_rules.specs.Rules.{SetTo}
use Rattle.check_rules.proofs.targets_of.Given as goal

abbrev pub invariant-loop-t : goal.invariant-loop-t
invariant-loop-t l = SetTo (source_in l.sources l.k) l.t l.all
