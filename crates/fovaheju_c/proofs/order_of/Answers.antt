-- `fovaheju_c::order_of` meets its contract.
use Rattle.std.proofs.Common.{rules}
use Rattle.check_spec.specs.Words.{order_of}
use Rattle.fovaheju_c.proofs.order_of.Goals as goal

pub returns-then-mark-eq0 : goal.returns-then-mark-eq0
unfolding order_of
returns-then-mark-eq0 c = search rules

pub returns : goal.returns
unfolding order_of
returns c = search rules
