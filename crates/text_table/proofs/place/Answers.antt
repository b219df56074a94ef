-- `text_table::place` meets its contract. Assumes nothing.
use native.Mathlib.Omega.{arith}
use Rattle.text_table.proofs.place.Goals as goal

pub returns-then-table-eq0 : goal.returns-then-table-eq0
returns-then-table-eq0 c = c.scan_place.ensures

pub table_place-requires : goal.table_place-requires
table_place-requires c = c.requires.1 (omega (arith, c.if-table-eq0.false))

pub returns : goal.returns
returns c = c.table_place.ensures.0
