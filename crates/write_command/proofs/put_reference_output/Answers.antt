-- `write_command::put_reference_output` meets its contract. Assumes nothing.
use native.Mathlib.Omega.{arith}
use Rattle.netlist.specs.Commands.{command_table, own_commands, form_in}
use Rattle.write_command.proofs.Joining.{put-++}
use Rattle.write_command.proofs.put_reference_output.Goals as goal

pub returns : goal.returns
unfolding command_table own_commands form_in
returns c =
    let lead = c.put_bytes.ensures in
    let a = c.put_operand.ensures in
    put-++ lead a (omega arith)
