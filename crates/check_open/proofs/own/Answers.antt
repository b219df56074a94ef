-- `check_open::own` meets its contract. Assumes nothing.
use Rattle.check_open.proofs.Itself.{ko_below, own_before, own_past, own_ko_holds, own_else}
use Rattle.check_open.proofs.own.Goals as goal

pub returns-then-x-first : goal.returns-then-x-first
returns-then-x-first c = let a = c.args in own_before a.nets.now a.first a.x c.if-x-first.true

pub returns-then-nets-i : goal.returns-then-nets-i
returns-then-nets-i c = own_past c.args.nets.now c.args.first c.args.x c.if-x-first.false c.requires.0 c.if-nets-i.true

pub returns-then-nets-i-eq2 : goal.returns-then-nets-i-eq2
returns-then-nets-i-eq2 c =
    own_ko_holds c.args.nets.now c.args.first c.args.x c.if-x-first.false c.if-nets-i-eq2.true (ko_below c.args.nets.now c.args.first c.args.x c.requires.1 c.if-nets-i-eq2.true)

pub returns : goal.returns
returns c = own_else c.args.nets.now c.args.first c.args.x c.if-x-first.false c.if-nets-i-eq2.false
