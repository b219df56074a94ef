-- `words::turned_five` meets its contract: the table is what spelling five bits gives, number by number. Assumes nothing.
use Rattle.verdict.specs.declared.WordOrder.TheVariants.{FirstHighest}
use Rattle.verdict.specs.Graph.{tabulate}
use Rattle.verdict.specs.Words.{bits_of, word_of, spelled}
use Rattle.verdict.proofs.Graph.{get_d_tabulate}
use Rattle.words.proofs.turned_five.Goals as goal

pub returns : goal.returns
unfolding spelled bits_of word_of tabulate
returns c = get_d_tabulate (spelled FirstHighest 5) 32 c.args.bits 0 c.requires
