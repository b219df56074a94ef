-- `check_word::unobserved_gate` meets its contract. Assumes nothing.
use Rattle.std.proofs.Common.{rules}
use Rattle.circuit.proofs.Settling.{low_row}
use Rattle.words.proofs.Rest.{settled_word}
use Rattle.check_word.proofs.Holding.{unobserved_word}
use Rattle.check_word.proofs.unobserved_gate.Goals as goal

pub settle_word-requires : goal.settle_word-requires
settle_word-requires c = (c.requires.0, c.requires.1, low_row c.args.counts c.requires.0.within)

pub least-requires : goal.least-requires
least-requires c =
    let s = c.settle_word.ensures in
    let e = settled_word c.args.counts c.args.code.now _ c.args.w s.settled in search (rules, e)

pub returns : goal.returns
returns c = c.least.ensures _ (λ j r h post.
    let e = unobserved_word c.args.counts c.args.code.now _ c.args.w c.settle_word.ensures.settled j in search (rules, e))
