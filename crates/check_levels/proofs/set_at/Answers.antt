-- `check_levels::set_at` meets its contract. Assumes nothing.
use Rattle.check_levels.proofs.Gathering.{set_before, set_past, set_rail, set_other}
use Rattle.check_levels.proofs.set_at.Goals as goal

pub returns-then-x-first : goal.returns-then-x-first
returns-then-x-first c = set_before c.args.rails.now c.args.first c.args.sets.now c.args.net c.if-x-first.true

pub returns-then-rails-i : goal.returns-then-rails-i
returns-then-rails-i c = set_past c.args.rails.now c.args.first c.args.sets.now c.args.net c.if-x-first.false c.requires.0.rows c.if-rails-i.true

pub returns-then-rails-i-eq1 : goal.returns-then-rails-i-eq1
returns-then-rails-i-eq1 c = set_rail c.args.rails.now c.args.first c.args.sets.now c.args.net c.if-x-first.false c.requires.0 c.if-rails-i-eq1.true

pub returns : goal.returns
returns c = set_other c.args.rails.now c.args.first c.args.sets.now c.args.net c.if-x-first.false c.if-rails-i-eq1.false
