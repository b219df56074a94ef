-- `circuit_values::all_null` meets its contract. Assumes nothing.
use Rattle.verdict.specs.Rows.{is_null}
use Rattle.circuit.specs.Rows.{nets_in}
use Rattle.circuit_values.proofs.Outputs.{all_pass, not_all_pass}
use Rattle.circuit_values.proofs.all_null.Goals as goal

pub returns-in-Some : goal.returns-in-Some
returns-in-Some c =
    not_all_pass is_null (nets_in c.args.counts c.args.row.now) c.args.counts c.args.code.now _
    c.first_not_null.ensures _ c.in-Some.is

pub returns-in-None : goal.returns-in-None
returns-in-None c =
    all_pass is_null (nets_in c.args.counts c.args.row.now) c.args.counts c.args.code.now _
    c.first_not_null.ensures c.in-None.is
