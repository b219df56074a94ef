-- `text_write::is_named` meets its contract. Assumes nothing.
use native.Mathlib.Omega.{arith}
use mathlib.Core.Path.{◌∙◌}
use Rattle.circuit.specs.Stage.{output_in}
use Rattle.text_write.proofs.Second.{named_before}
use Rattle.text_write.proofs.is_named.Goals as goal

pub returns-else-v-counts : goal.returns-else-v-counts
returns-else-v-counts c =
    let n = c.args.counts.inputs in
    let outputs = output_in c.args.counts c.args.code.now in
    c.names_before.ensures ∙ named_before n outputs c.args.v c.args.j (omega arith)
