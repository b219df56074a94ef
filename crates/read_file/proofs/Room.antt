-- The places of both files' commands fit u16s, so that room for as many as the limits allow is all that a caller shows.
-- Assumes nothing.
use Prim.Native.Nat.{ℕ, ◌+◌, ◌^◌, ◌≤◌}
use native.Mathlib.Omega.{arith}
use mathlib.Core.Bool.{Bool, true, false}
use lib.Pow.{pow_mono}
use Rattle.netlist.specs.declared.File.TheVariants as file
use Rattle.netlist.specs.declared.Limits.{Limits}
use Rattle.netlist.specs.Commands.{stage_file, command_table, own_commands, form_in}
use Rattle.netlist.specs.Reading.{stage_limits, reference_limits, NoMore}
use Rattle.read_file.specs.Files.{most_care, first_care, RoomFor}

module _ (most : Limits) (long : ℕ) where
  pub stage_room_holds : (registers : Bool) → NoMore most stage_limits → first_care stage_limits + 2 ^ stage_limits.inputs ≤ long → RoomFor (stage_file registers) most long
  unfolding command_table own_commands form_in most_care
  stage_room_holds true less h =
      let few : 2 ^ most.inputs ≤ 2 ^ stage_limits.inputs = pow_mono {i = most.inputs} {j = stage_limits.inputs} less.inputs_in in
      record { few_inputs = omega (arith, less.inputs_in); u16s = omega (arith, less.gates_in_holds, less.outputs_in_holds); space = omega (arith, less.gates_in_holds, less.outputs_in_holds) }
  stage_room_holds false less h =
      let few : 2 ^ most.inputs ≤ 2 ^ stage_limits.inputs = pow_mono {i = most.inputs} {j = stage_limits.inputs} less.inputs_in in
      record { few_inputs = omega (arith, less.inputs_in); u16s = omega (arith, less.gates_in_holds, less.outputs_in_holds); space = omega (arith, less.gates_in_holds, less.outputs_in_holds) }

  pub reference_room_holds : NoMore most reference_limits → first_care reference_limits ≤ long → RoomFor file.Reference most long
  unfolding command_table own_commands form_in most_care
  reference_room_holds less h =
      let few : 2 ^ most.inputs ≤ 2 ^ reference_limits.inputs = pow_mono {i = most.inputs} {j = reference_limits.inputs} less.inputs_in in
      record { few_inputs = omega (arith, less.inputs_in); u16s = omega (arith, less.gates_in_holds, less.outputs_in_holds); space = omega (arith, less.gates_in_holds, less.outputs_in_holds) }
