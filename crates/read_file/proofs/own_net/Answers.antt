-- `read_file::own_net` meets its contract. Assumes nothing.
use Rattle.read_file.proofs.Carrying.{element_net, rail_net, ko_net}
use Rattle.read_file.proofs.own_net.Goals as goal

pub returns-then-note-eq1 : goal.returns-then-note-eq1
returns-then-note-eq1 c = element_net _ _ c.requires c.if-note-eq1.true

pub returns-then-i-lt2 : goal.returns-then-i-lt2
returns-then-i-lt2 c = rail_net _ _ c.requires c.if-note-eq1.false c.if-i-lt2.true

pub returns : goal.returns
returns c = ko_net _ _ c.requires c.if-note-eq1.false c.if-i-lt2.false
