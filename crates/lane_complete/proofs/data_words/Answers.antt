-- `lane_complete::data_words` meets its contract. Assumes nothing.
use Rattle.std.proofs.Common.{rules, tests}
use Rattle.lane_complete.proofs.Outputs.{by_data, data_only}
use Rattle.lane_complete.proofs.data_words.Goals as goal

pub returns : goal.returns
returns c = data_only c.args.counts c.args.code.now c.args.row.now c.requires.0 _ (c.words_where.ensures by_data (λ x y r k. search (rules, tests)))
