-- `call_witness::rails_alone` meets its contract. Assumes nothing.
use native.Mathlib.Omega.{arith}
use Rattle.circuit.proofs.Settling.{low_row}
use Rattle.call_witness.proofs.Goals.{alone_none, alone_row, alone_one}
use Rattle.call_witness.proofs.rails_alone.Goals as goal

pub spell_word-requires : goal.spell_word-requires
spell_word-requires c = low_row c.args.counts c.requires

pub returns-then-i-counts : goal.returns-then-i-counts
returns-then-i-counts c =
    let s = c.spell_word.ensures in
    let low = low_row c.args.counts c.requires in (
      alone_row c.args.counts c.args.w low c.args.i _ s.row s.rails c.if-i-counts.true,
      alone_one c.args.counts c.args.w low c.args.i _ s.row s.rails c.if-i-counts.true,
    )

pub returns : goal.returns
returns c =
    let low = low_row c.args.counts c.requires in
    (low, alone_none c.args.counts c.args.w low c.args.i (λ q. omega arith))
