-- `call_draw::advance` meets its contract. Assumes nothing.
use borrow.Author.Rules.{rules}
use Rattle.draw_spec.specs.Draws.{advance}
use Rattle.call_draw.proofs.advance.Goals as goal

pub returns : goal.returns
unfolding advance
returns c = search rules
