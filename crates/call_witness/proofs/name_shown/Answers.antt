-- `call_witness::name_shown` meets its contract. Assumes nothing.
use Rattle.circuit.specs.Stage.{stage_in}
use Rattle.call_witness.proofs.Names.{name_accepted, name_idle, name_refused}
use Rattle.call_witness.proofs.name_shown.Goals as goal

pub returns-then-verdict-eq0 : goal.returns-then-verdict-eq0
returns-then-verdict-eq0 c = name_accepted c.args.order (stage_in c.args.counts c.args.code.now) c.args.verdict c.args.asked c.if-verdict-eq0.true

pub cared_name-requires : goal.cared_name-requires
cared_name-requires c = c.requires

pub returns-then-verdict-eq32 : goal.returns-then-verdict-eq32
returns-then-verdict-eq32 c = name_idle c.args.order (stage_in c.args.counts c.args.code.now) c.args.verdict c.args.asked c.if-verdict-eq0.false c.if-verdict-eq32.true _ c.cared_name.ensures

pub returns : goal.returns
returns c = name_refused c.args.order (stage_in c.args.counts c.args.code.now) c.args.verdict c.args.asked c.if-verdict-eq0.false c.if-verdict-eq32.false
