-- `text_table::is_driven` meets its contract. Assumes nothing.
use native.Mathlib.Omega.{arith}
use lib.ListN.{length}
use Rattle.text_names.specs.Tailed.{tailed, drivers_of}
use Rattle.text_table.proofs.Tables.{found_driven}
use Rattle.text_table.proofs.is_driven.Goals as goal

pub table_place-requires : goal.table_place-requires
table_place-requires c = c.requires (omega (arith, c.if-table-eq0.false))

pub overflow_mul-result : goal.overflow_mul-result
overflow_mul-result c =
    let f = c.requires (omega (arith, c.if-table-eq0.false)) in omega (arith, f.long, c.table_place.ensures.1)

pub overflow_add-result : goal.overflow_add-result
overflow_add-result c =
    let f = c.requires (omega (arith, c.if-table-eq0.false)) in omega (arith, f.long, c.table_place.ensures.1)

pub returns : goal.returns
returns c =
    let f = c.requires (omega (arith, c.if-table-eq0.false)) in
    found_driven (tailed c.args.a.now c.args.t) (drivers_of c.args.s.now) c.table_place.result (length c.args.table.now)
    c.table_place.ensures.0 f.long
