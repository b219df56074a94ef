-- `circuit_load::load_pipeline` meets its contract. Assumes nothing.
use native.Mathlib.Omega.{arith}
use Rattle.circuit_load.proofs.Holding.{within, code_room, notes_end, lent_fits, pipeline_held}
use Rattle.circuit_load.proofs.load_pipeline.Goals as goal

pub ground_of-requires : goal.ground_of-requires
ground_of-requires c = within c.requires.1 c.requires.0

pub load_stage-requires : goal.load_stage-requires
load_stage-requires c = (c.requires.0, c.requires.1, code_room c.requires.1 c.requires.0 c.requires.2)

pub overflow_add-from : goal.overflow_add-from
overflow_add-from c = omega (arith, notes_end c.requires.1 c.requires.0, c.well_formed)

pub overflow_add-end : goal.overflow_add-end
overflow_add-end c = omega (arith, notes_end c.requires.1 c.requires.0, c.well_formed)

pub overflow_add-end-2 : goal.overflow_add-end-2
overflow_add-end-2 c = omega (arith, notes_end c.requires.1 c.requires.0, c.well_formed)

pub offset_bounds-places-from : goal.offset_bounds-places-from
offset_bounds-places-from c = omega (arith, notes_end c.requires.1 c.requires.0, c.well_formed)

pub slice_bounds-load_parts-end : goal.slice_bounds-load_parts-end
slice_bounds-load_parts-end c = omega (arith, notes_end c.requires.1 c.requires.0)

pub overflow_mul-counts : goal.overflow_mul-counts
overflow_mul-counts c = omega (arith, (within c.requires.1 c.requires.0).inputs_in)

pub overflow_add-counts : goal.overflow_add-counts
overflow_add-counts c = omega (arith, (within c.requires.1 c.requires.0).inputs_in, (within c.requires.1 c.requires.0).gates_in_holds)

pub load_parts-requires : goal.load_parts-requires
load_parts-requires c = lent_fits c.requires.1 c.requires.0 c.requires.3 c.requires.4

pub returns : goal.returns
returns c =
    let l = c.load_stage.ensures in
    let p = c.load_parts.ensures in
    pipeline_held c.requires.1 c.requires.0 l.same c.ground_of.ensures l.raw c.requires.3 c.requires.4 p.nets p.registers
