-- `text_table::link` meets its contract. Assumes nothing.
use Rattle.text_table.proofs.Tables.{kept_all}
use native.Mathlib.Omega.{arith}
use mathlib.Core.Path.{◌∙◌}
use lib.ListN.{length-set}
use Rattle.text_table.proofs.Tables.{linking_start, linking_on, linking_end}
use Rattle.text_table.proofs.link.Goals as goal

pub loop-k-init : goal.loop-k-init
loop-k-init c =
    let clear-heads = c.clear_heads in
    linking_start (clear-heads.ensures.0.long ∙ c.requires) kept_all clear-heads.ensures.1

pub bounds-table-head-in-loop-k : goal.bounds-table-head-in-loop-k
bounds-table-head-in-loop-k c = simp length-set (omega (arith, c.loop-k.invariant.size, c.loop-k.invariant.long))

pub loop-k-preserved : goal.loop-k-preserved
loop-k-preserved c = linking_on c.loop-k.invariant (omega arith)

pub returns : goal.returns
returns c = linking_end c.clear_heads.ensures.0 c.loop-k.invariant (omega arith)
