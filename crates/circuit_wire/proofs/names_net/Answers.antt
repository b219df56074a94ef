-- `circuit_wire::names_net` meets its contract. Assumes nothing.
use Rattle.circuit_wire.proofs.Numbers.{names_lead, names_low, names_past}
use Rattle.circuit_wire.proofs.names_net.Goals as goal

pub returns-then-j-eq0 : goal.returns-then-j-eq0
returns-then-j-eq0 c = names_lead c.args.gates c.args.i c.if-i-gates.true c.if-j-eq0.true

pub returns-then-i-gates : goal.returns-then-i-gates
returns-then-i-gates c = names_low c.args.gates c.args.i c.if-i-gates.true c.if-j-eq0.false

pub returns : goal.returns
returns c = names_past c.args.gates c.args.i c.if-i-gates.false
