-- `check_levels::joined` meets its contract. Assumes nothing.
use Rattle.check_levels.proofs.joined.Goals as goal

pub returns-then-add : goal.returns-then-add
returns-then-add c = rw c.if-add.true
