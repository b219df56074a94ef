-- `call_text_read::fill_table` meets its contract. Assumes nothing.
use Prim.Native.Nat.{◌+◌, ◌*◌}
use native.Mathlib.Omega.{arith}
use mathlib.Core.Path.{sym, ◌∙◌}
use lib.Seq.{length-take-le}
use Rattle.call_text_read.proofs.Counting.{counted_rails, counted_drivers, table_none, table_filled}
use Rattle.call_text_read.proofs.fill_table.Goals as goal

pub returns-then-inputs-gt-INPUTS : goal.returns-then-inputs-gt-INPUTS
returns-then-inputs-gt-INPUTS c = table_none c.requires.0 (λ few. omega (arith, few.inputs_in, c.if-inputs-gt-INPUTS.true))

pub returns-then-gates-gt-STAGE_GATES : goal.returns-then-gates-gt-STAGE_GATES
returns-then-gates-gt-STAGE_GATES c = table_none c.requires.0 (λ few. omega (arith, few.gates_in_holds, c.if-gates-gt-STAGE_GATES.true))

pub slice_bounds-index-end-2 : goal.slice_bounds-index-end-2
slice_bounds-index-end-2 c = sym (length-take-le _ _ (omega arith))

pub index-requires : goal.index-requires
index-requires c = (
  c.requires.0.formed,
  counted_rails c.requires.0,
  length-take-le (5 * (2 * c.args.inputs + c.args.gates) + 256) c.args.table.now (omega arith) ∙ omega (arith, counted_drivers c.requires.0),
)

pub returns : goal.returns
returns c = table_filled c.requires.0 _ _ c.index.ensures
