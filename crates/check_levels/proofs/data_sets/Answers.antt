-- `check_levels::data_sets` meets its contract. Assumes nothing.
use Rattle.check_levels.proofs.Gathering.{set_join}
use Rattle.check_levels.proofs.data_sets.Goals as goal

pub returns : goal.returns
returns c = let a = c.args in set_join a.rails.now a.first a.sets.now _ _ _ _ c.set_at-a.ensures c.set_at-b.ensures
