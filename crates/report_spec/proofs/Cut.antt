-- Cutting longer files at what a program reads of them changes no report.
-- Assumes nothing.
use native.Mathlib.Omega.{arith}
use mathlib.Core.Path.{◌≡◌}
use mathlib.Core.List.{List}
use lib.ListN.{take}
use Prim.Native.Nat.{ℕ}
use Rattle.netlist.specs.declared.File.TheVariants.{Stage}
use Rattle.netlist.specs.Commands.{own_commands, command_table, form_in}
use Rattle.netlist.specs.Reading.{stage_limits}
use Rattle.netlist.specs.Read.{most_bytes}
use Rattle.verdict.specs.declared.WordOrder.{WordOrder}
use Rattle.check_spec.specs.Content.{plain_files}
use Rattle.check_spec.proofs.Cut.{content_cut, verdict_cut}
use Rattle.report_spec.specs.Report.{report_on}

pub report_cut : (order : WordOrder) (s r : List ℕ) → report_on order (plain_files (take most_bytes s) (take most_bytes r)) ≡ report_on order (plain_files s r)
unfolding report_on command_table own_commands form_in
report_cut order s r = rw (verdict_cut order (plain_files s r) (omega arith) (omega arith), content_cut Stage stage_limits (omega arith) s)
