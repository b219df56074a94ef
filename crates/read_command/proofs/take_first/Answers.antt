-- `read_command::take_first` meets its contract: every other command is stray there. Assumes nothing.
use native.Mathlib.Omega.{arith}
use mathlib.Core.Path.{refl, sym}
use Rattle.netlist.specs.Commands.{command_table, form_in, stray}
use Rattle.read_command.proofs.Forms.{first_stray}
use Rattle.read_command.proofs.Position.{next_stray}
use Rattle.read_command.proofs.take_first.Goals as goal

pub take_row-requires : goal.take_row-requires
unfolding command_table form_in stray
take_row-requires c = record { at_in_bounds = (c.requires, refl); operands_value = rw c.in-1.is }

pub returns-in_default : goal.returns-in_default
returns-in_default c =
    sym (next_stray _ _ _ _ _ c.requires _ refl _ (sym (first_stray c.args.file _ (λ e. omega arith))) refl)
