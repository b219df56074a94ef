-- `read_command::take_row` meets its contract: the room is compared with what is left of the file. Assumes nothing.
use native.Mathlib.Omega.{arith}
use mathlib.Core.Path.{sym, ap, ◌∙◌}
use Rattle.netlist.specs.declared.Form.{Form}
use Rattle.netlist.specs.Commands.{stray}
use Rattle.read_command.proofs.Forms.{few_bytes}
use Rattle.read_command.proofs.Position.{next_cut, next_whole}
use Rattle.read_command.proofs.take_row.Goals as goal

pub width-requires : goal.width-requires
width-requires c = omega (arith, few_bytes _ _ (c.as_form-form.ensures ∙ c.requires.operands_value))

pub returns-then-s-at : goal.returns-then-s-at
returns-then-s-at c =
    sym (next_cut _ _ _ _ _ c.requires.at_in_bounds.0 _ (c.as_form-form.ensures ∙ c.requires.operands_value) _ (ap (λ (x : Form). stray c.args.at x.sort) (sym c.as_form-form.ensures)) c.requires.at_in_bounds.1 _
    c.width.ensures c.if-s-at.true)

pub take_command-requires : goal.take_command-requires
take_command-requires c =
    (c.as_form-form.ensures ∙ c.requires.operands_value, omega (arith, c.width.ensures))

pub returns : goal.returns
returns c =
    c.take_command.ensures ∙ sym (next_whole _ _ _ _ _ c.requires.at_in_bounds.0 _ (c.as_form-form.ensures ∙ c.requires.operands_value) _ (ap (λ (x : Form). stray c.args.at x.sort) (sym c.as_form-form.ensures)) c.requires.at_in_bounds.1 _
    c.width.ensures c.if-s-at.false)
