-- `call_draw::yielded` meets its contract. Assumes nothing.
use Rattle.std.proofs.Common.{mod-lt, rules}
use Rattle.draw_spec.specs.Draws.{yield}
use Rattle.call_draw.proofs.yielded.Goals as goal

pub returns : goal.returns
unfolding yield
returns c = (search rules, mod-lt _ c.requires)
