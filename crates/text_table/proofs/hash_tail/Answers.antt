-- `text_table::hash_tail` meets its contract. Assumes nothing.
use native.Mathlib.Omega.{arith}
use borrow.Author.Tests.{eq-eqb, ne_eqb}
use Rattle.text_table.specs.Table.{hash_from, tail_hash}
use Rattle.text_table.proofs.hash_tail.Goals as goal

pub returns-then-t-eq0 : goal.returns-then-t-eq0
unfolding tail_hash
returns-then-t-eq0 c = (rw (eq-eqb _ _ c.if-t-eq0.true), c.requires)

pub returns : goal.returns
unfolding tail_hash hash_from
returns c = (rw (ne_eqb _ _ c.if-t-eq0.false), omega arith)
