-- `circuit_wire::wire` meets its contract. Assumes nothing.
use Rattle.circuit_wire.proofs.Wiring.{wire_before, wire_past, rail_read, other_read}
use Rattle.circuit_wire.proofs.wire.Goals as goal

pub returns-then-x-first : goal.returns-then-x-first
returns-then-x-first c = wire_before c.args.nets.now c.args.first c.args.net c.if-x-first.true

pub returns-then-nets-i : goal.returns-then-nets-i
returns-then-nets-i c = wire_past c.args.nets.now c.args.first c.args.net c.if-x-first.false c.if-nets-i.true

pub returns-then-nets-i-eq1 : goal.returns-then-nets-i-eq1
returns-then-nets-i-eq1 c = rail_read c.args.nets.now c.args.first c.args.net c.if-x-first.false c.if-nets-i.false c.if-nets-i-eq1.true

pub returns : goal.returns
returns c = other_read c.args.nets.now c.args.first c.args.net c.if-x-first.false c.if-nets-i.false c.if-nets-i-eq1.false
