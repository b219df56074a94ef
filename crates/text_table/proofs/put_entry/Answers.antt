-- `text_table::put_entry` meets its contract. Assumes nothing.
use Rattle.text_table.proofs.Tables.{four}
use Prim.Native.Nat.{◌*◌}
use native.Mathlib.Omega.{arith}
use lib.ListN.{length-set}
use Rattle.text_table.proofs.put_entry.Goals as goal

pub bounds-table-at-2 : goal.bounds-table-at-2
bounds-table-at-2 c = simp length-set (omega arith)

pub bounds-table-at-3 : goal.bounds-table-at-3
bounds-table-at-3 c = simp length-set (omega arith)

pub bounds-table-at-4 : goal.bounds-table-at-4
bounds-table-at-4 c = simp length-set (omega arith)

pub returns : goal.returns
returns c = four c.args.table.now (5 * c.args.k) c.args.h c.args.«from» c.args.to c.args.t
