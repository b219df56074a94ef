-- `check_open::place_of` meets its contract. Assumes nothing.
use Rattle.check_open.proofs.Itself.{place-before, place-past, place_here}
use Rattle.check_open.proofs.place_of.Goals as goal

pub returns-then-x-first : goal.returns-then-x-first
returns-then-x-first c = let a = c.args in place-before a.nets.now a.first a.x c.if-x-first.true

pub returns-then-nets-i : goal.returns-then-nets-i
returns-then-nets-i c = place-past c.args.nets.now c.args.first c.args.x c.if-x-first.false c.requires c.if-nets-i.true

pub returns : goal.returns
returns c = place_here c.args.nets.now c.args.first c.args.x c.if-x-first.false
