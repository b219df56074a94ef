-- `read_command::pipeline_form` meets its contract: each arm is a row of the table. Assumes nothing.
use native.Mathlib.Omega.{arith}
use mathlib.Core.Path.{◌∙◌}
use Rattle.netlist.specs.declared.File.TheVariants as file
use Rattle.netlist.specs.Commands.{own_commands, form_in}
use Rattle.read_command.proofs.Forms.{in_no_row}
use Rattle.read_command.proofs.pipeline_form.Goals as goal

pub returns-in-2 : goal.returns-in-2
unfolding own_commands form_in
returns-in-2 c = rw c.in-2.is c.as_form.ensures

pub returns-in-3 : goal.returns-in-3
unfolding own_commands form_in
returns-in-3 c = rw c.in-3.is c.as_form-in-3.ensures

pub returns-in-4 : goal.returns-in-4
unfolding own_commands form_in
returns-in-4 c = rw c.in-4.is c.as_form-in-4.ensures

pub returns-in-5 : goal.returns-in-5
unfolding own_commands form_in
returns-in-5 c = rw c.in-5.is c.as_form-in-5.ensures

pub returns-in-6 : goal.returns-in-6
unfolding own_commands form_in
returns-in-6 c = rw c.in-6.is c.as_form-in-6.ensures

pub returns-in_default : goal.returns-in_default
unfolding own_commands
returns-in_default c =
    c.as_form-in_default.ensures ∙ in_no_row (own_commands file.Pipeline) c.args.command (λ e. omega arith, (λ e. omega arith, (λ e. omega arith, (λ e. omega arith, (λ e. omega arith, tt)))))
