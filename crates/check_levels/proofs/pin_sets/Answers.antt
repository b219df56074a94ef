-- `check_levels::pin_sets` meets its contract. Assumes nothing.
use Rattle.check_levels.proofs.Gathering.{set_join}
use Rattle.check_levels.proofs.pin_sets.Goals as goal

pub returns : goal.returns
returns c =
    let a = c.args in
    let join = set_join a.rails.now a.first a.sets.now in
    join _ _ _ _ c.set_at-a.ensures (join _ _ _ _ c.set_at-b.ensures (join _ _ _ _ c.set_at-c.ensures c.set_at-d.ensures))
