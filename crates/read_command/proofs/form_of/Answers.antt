-- `read_command::form_of` meets its contract: end and inputs are rows of every file, and others of the file's own. Assumes nothing.
use native.Mathlib.Omega.{arith}
use mathlib.Core.Path.{◌∙◌}
use Rattle.netlist.specs.declared.File.TheVariants as file
use Rattle.netlist.specs.Commands.{command_table, own_commands, form_in}
use Rattle.read_command.proofs.Forms.{own_row}
use Rattle.read_command.proofs.form_of.Goals as goal

pub returns-in-0 : goal.returns-in-0
unfolding command_table form_in
returns-in-0 c = rw c.in-0.is c.as_form.ensures

pub returns-in-1 : goal.returns-in-1
unfolding command_table form_in
returns-in-1 c = rw c.in-1.is c.as_form-in-1.ensures

pub returns-in-Stage : goal.returns-in-Stage
unfolding own_commands
returns-in-Stage c =
    rw c.in-Stage.is (c.stage_form.ensures ∙ own_row file.Stage c.args.command (λ e. omega arith) (λ e. omega arith))

pub returns-in-Pipeline : goal.returns-in-Pipeline
unfolding own_commands
returns-in-Pipeline c =
    rw c.in-Pipeline.is (c.pipeline_form.ensures ∙ own_row file.Pipeline c.args.command (λ e. omega arith) (λ e. omega arith))

pub returns-in-Reference : goal.returns-in-Reference
unfolding own_commands
returns-in-Reference c =
    rw c.in-Reference.is (c.reference_form.ensures ∙ own_row file.Reference c.args.command (λ e. omega arith) (λ e. omega arith))
