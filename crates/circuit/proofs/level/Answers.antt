-- `circuit::level` meets its contract. Assumes nothing.
use borrow.Author.Rules.{rules}
use Rattle.circuit.proofs.level.Goals as goal

pub returns : goal.returns
returns c = record { is = search rules; small = c.requires.1 }
