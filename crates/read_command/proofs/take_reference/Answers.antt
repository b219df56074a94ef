-- `read_command::take_reference` meets its contract: each arm is a row of the table, and in the others the command is stray. Assumes nothing.
use native.Mathlib.Omega.{arith}
use mathlib.Core.Path.{refl, sym}
use Rattle.netlist.specs.declared.File.TheVariants as file
use Rattle.netlist.specs.Commands.{command_table, own_commands, form_in, stray}
use Rattle.netlist.proofs.Walk.{not_first}
use Rattle.read_command.proofs.Forms.{later_stray}
use Rattle.read_command.proofs.Position.{next_stray}
use Rattle.read_command.proofs.take_reference.Goals as goal

pub take_row-requires : goal.take_row-requires
unfolding command_table own_commands form_in stray
take_row-requires c =
    record { at_in_bounds = (c.requires.0, not_first _ c.requires.1); operands_value = rw c.in-0.is }

pub take_row-requires-in-17 : goal.take_row-requires-in-17
unfolding command_table own_commands form_in stray
take_row-requires-in-17 c =
    record { at_in_bounds = (c.requires.0, not_first _ c.requires.1); operands_value = rw c.in-17.is }

pub take_row-requires-in-18 : goal.take_row-requires-in-18
unfolding command_table own_commands form_in stray
take_row-requires-in-18 c =
    record { at_in_bounds = (c.requires.0, not_first _ c.requires.1); operands_value = rw c.in-18.is }

pub returns-in_default : goal.returns-in_default
unfolding own_commands
returns-in_default c =
    sym (next_stray _ _ _ _ _ c.requires.0 _ refl _ (sym (later_stray file.Reference _ _ (λ e. omega arith) (λ e. omega arith, (λ e. omega arith, tt)) c.requires.1)) refl)
