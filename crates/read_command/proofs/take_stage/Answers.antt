-- `read_command::take_stage` meets its contract: each arm is a row of the table, and in the others the command is stray. Assumes nothing.
use native.Mathlib.Omega.{arith}
use mathlib.Core.Path.{◌≡◌, refl, sym}
use Rattle.netlist.specs.Bytes.{byte}
use Rattle.netlist.specs.Commands.{command_table, own_commands, form_in, stray}
use Rattle.netlist.proofs.Walk.{not_first}
use Rattle.read_command.proofs.Forms.{stage_rows, no_stage_row, later_stray}
use Rattle.read_command.proofs.Position.{next_stray}
use Rattle.read_command.proofs.take_stage.Goals as goal

-- the end
pub take_row-requires : goal.take_row-requires
unfolding command_table form_in stray
take_row-requires c =
    record { at_in_bounds = (c.requires.0, not_first _ c.requires.1); operands_value = rw c.in-0.is }

-- a gate, an output, a care word
pub take_row-requires-in-2 : goal.take_row-requires-in-2
unfolding stray
take_row-requires-in-2 c =
    record { at_in_bounds = (c.requires.0, not_first _ c.requires.1); operands_value = rw c.in-2.is (stage_rows c.args.file c.requires.2).0 }

pub take_row-requires-in-3 : goal.take_row-requires-in-3
unfolding stray
take_row-requires-in-3 c =
    record { at_in_bounds = (c.requires.0, not_first _ c.requires.1); operands_value = rw c.in-3.is (stage_rows c.args.file c.requires.2).1 }

pub take_row-requires-in-6 : goal.take_row-requires-in-6
unfolding stray
take_row-requires-in-6 c =
    record { at_in_bounds = (c.requires.0, not_first _ c.requires.1); operands_value = rw c.in-6.is (stage_rows c.args.file c.requires.2).2 }

-- a register, a C-element
pub take_row-requires-in-Pipeline : goal.take_row-requires-in-Pipeline
unfolding command_table own_commands form_in stray
take_row-requires-in-Pipeline c =
    record { at_in_bounds = (c.requires.0, not_first _ c.requires.1); operands_value = rw (c.in-Pipeline.is, c.in-4.is) }

pub take_row-requires-in-Pipeline-file : goal.take_row-requires-in-Pipeline-file
unfolding command_table own_commands form_in stray
take_row-requires-in-Pipeline-file c =
    record { at_in_bounds = (c.requires.0, not_first _ c.requires.1); operands_value = rw (c.in-Pipeline-file.is, c.in-5.is) }

-- no command of a stage
pub returns-in_default-file : goal.returns-in_default-file
returns-in_default-file c =
    let b = byte c.args.s.now c.args.at in
    let is : b ≡ 0x04 = c.in-4.is in
    let rows = no_stage_row c.args.file b c.requires.2 (omega arith, omega arith, omega arith) (λ e. absurd (c.in_default-file.not-Pipeline e)) in
    sym (next_stray _ _ _ _ _ c.requires.0 _ refl _ (sym (later_stray c.args.file b _ (omega arith) rows c.requires.1)) refl)

pub returns-in_default-file-2 : goal.returns-in_default-file-2
returns-in_default-file-2 c =
    let b = byte c.args.s.now c.args.at in
    let is : b ≡ 0x05 = c.in-5.is in
    let rows = no_stage_row c.args.file b c.requires.2 (omega arith, omega arith, omega arith) (λ e. absurd (c.in_default-file-2.not-Pipeline e)) in
    sym (next_stray _ _ _ _ _ c.requires.0 _ refl _ (sym (later_stray c.args.file b _ (omega arith) rows c.requires.1)) refl)

-- nor of a pipeline
pub returns-in_default : goal.returns-in_default
returns-in_default c =
    let b = byte c.args.s.now c.args.at in
    let rows = no_stage_row c.args.file b c.requires.2 (λ e. omega arith, λ e. omega arith, λ e. omega arith) (λ e. (λ d. omega arith, λ d. omega arith)) in
    sym (next_stray _ _ _ _ _ c.requires.0 _ refl _ (sym (later_stray c.args.file _ _ (λ e. omega arith) rows c.requires.1)) refl)
