-- `call_witness::rails_without` meets its contract. Assumes nothing.
use native.Mathlib.Omega.{arith}
use Rattle.circuit.proofs.Settling.{low_row}
use Rattle.call_witness.proofs.Goals.{without_none, without_row, without_one}
use Rattle.call_witness.proofs.rails_without.Goals as goal

pub spell_word-requires : goal.spell_word-requires
spell_word-requires c = low_row c.args.counts c.requires

pub returns-then-i-counts : goal.returns-then-i-counts
returns-then-i-counts c =
    let s = c.spell_word.ensures in (
      without_row c.args.counts c.args.w _ s.row s.rails c.args.i c.if-i-counts.true,
      without_one c.args.counts c.args.w _ s.row s.rails c.args.i c.if-i-counts.true,
    )

pub returns : goal.returns
returns c =
    let s = c.spell_word.ensures in
    (s.row, without_none c.args.counts c.args.w _ s.row s.rails c.args.i (λ q. omega arith))
