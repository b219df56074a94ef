-- `write_command::put_stage_gate` meets its contract. Assumes nothing.
use native.Mathlib.Omega.{arith}
use Rattle.netlist.specs.Commands.{command_table, own_commands, form_in}
use Rattle.write_command.proofs.Joining.{put-++}
use Rattle.write_command.proofs.put_stage_gate.Goals as goal

pub returns : goal.returns
unfolding command_table own_commands form_in
returns c =
    let lead = c.put_bytes.ensures in
    let pin_a = c.put_operand.ensures in
    let pin_b = c.put_operand-2.ensures in
    let pin_c = c.put_operand-3.ensures in
    let pin_d = c.put_operand-4.ensures in
    put-++ (put-++ (put-++ (put-++ lead pin_a (omega arith)) pin_b (omega arith)) pin_c (omega arith)) pin_d (omega arith)
