-- `circuit_wire::wired_net` meets its contract. Assumes nothing.
use Rattle.circuit_wire.proofs.Numbers.{net_before, net_past, net_row}
use Rattle.circuit_wire.proofs.wired_net.Goals as goal

pub returns-then-net-first : goal.returns-then-net-first
returns-then-net-first c = net_before c.args.nets.now c.args.first c.args.net c.if-net-first.true

pub returns-then-nets-i : goal.returns-then-nets-i
returns-then-nets-i c = net_past c.args.nets.now c.args.first c.args.net c.if-net-first.false c.if-nets-i.true

pub returns : goal.returns
returns c = net_row c.args.nets.now c.args.first c.args.net c.if-net-first.false c.if-nets-i.false
