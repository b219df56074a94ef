-- `text_table::is_entry` meets its contract. Assumes nothing.
use native.Mathlib.Omega.{arith}
use mathlib.Core.Path.{ap, ◌∙◌}
use Rattle.text_spec.specs.Characters.{same}
use Rattle.text_names.specs.Tailed.{tailed}
use Rattle.text_table.proofs.Tables.{full_entry, other_hash}
use Rattle.text_table.proofs.is_entry.Goals as goal

pub returns-then-table-at : goal.returns-then-table-at
returns-then-table-at c =
    other_hash (full_entry c.requires.0 c.args.k c.requires.1) _ c.args.h c.requires.2 c.if-table-at.true

pub slice_bounds-same_tailed-count : goal.slice_bounds-same_tailed-count
slice_bounds-same_tailed-count c =
    let e = full_entry c.requires.0 c.args.k c.requires.1 in omega (arith, e.inside.0, e.inside.1)

pub slice_bounds-same_tailed-start : goal.slice_bounds-same_tailed-start
slice_bounds-same_tailed-start c =
    let e = full_entry c.requires.0 c.args.k c.requires.1 in omega (arith, e.inside.0, e.inside.1)

pub slice_bounds-same_tailed-end : goal.slice_bounds-same_tailed-end
slice_bounds-same_tailed-end c =
    let e = full_entry c.requires.0 c.args.k c.requires.1 in omega (arith, e.inside.0, e.inside.1)

pub overflow_cast-table : goal.overflow_cast-table
overflow_cast-table c =
    omega (arith, (full_entry c.requires.0 c.args.k c.requires.1).tail)

pub returns : goal.returns
returns c =
    c.same_tailed.ensures ∙ ap (same (tailed c.args.a.now c.args.t)) (full_entry c.requires.0 c.args.k c.requires.1).name
