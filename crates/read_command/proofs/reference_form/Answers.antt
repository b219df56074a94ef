-- `read_command::reference_form` meets its contract: each arm is a row of the table. Assumes nothing.
use native.Mathlib.Omega.{arith}
use mathlib.Core.Path.{◌∙◌}
use Rattle.netlist.specs.declared.File.TheVariants as file
use Rattle.netlist.specs.Commands.{own_commands, form_in}
use Rattle.read_command.proofs.Forms.{in_no_row}
use Rattle.read_command.proofs.reference_form.Goals as goal

pub returns-in-17 : goal.returns-in-17
unfolding own_commands form_in
returns-in-17 c = rw c.in-17.is c.as_form.ensures

pub returns-in-18 : goal.returns-in-18
unfolding own_commands form_in
returns-in-18 c = rw c.in-18.is c.as_form-in-18.ensures

pub returns-in_default : goal.returns-in_default
unfolding own_commands
returns-in_default c =
    c.as_form-in_default.ensures ∙ in_no_row (own_commands file.Reference) c.args.command (λ e. omega arith, (λ e. omega arith, tt))
