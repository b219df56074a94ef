-- `text_table::table_place` meets its contract. Assumes nothing.
use Prim.Native.Nat.{◌-◌}
use lib.ListN.{length}
use Rattle.text_names.specs.Tailed.{tailed}
use Rattle.text_table.proofs.Tables.{Passed}
use Rattle.text_table.proofs.table_place.Given as goal

abbrev pub invariant-loop-k : goal.invariant-loop-k
invariant-loop-k l = Passed (tailed l.a l.t) l.s l.table l.k

abbrev pub decreases-loop-k : goal.decreases-loop-k
decreases-loop-k l = length l.table - l.k
