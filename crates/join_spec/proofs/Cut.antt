-- Cutting longer files at what a program reads of them changes no answer of the join.
-- Assumes nothing.
use Prim.Native.Nat.{ℕ, ◌≤◌}
use native.Mathlib.Omega.{arith}
use mathlib.Core.Path.{◌≡◌, refl}
use mathlib.Core.List.{List, ◌∷◌}
use Rattle.netlist.specs.declared.File.TheVariants.{Stage, Reference}
use Rattle.netlist.specs.Commands.{own_commands, command_table, form_in}
use Rattle.netlist.specs.Reading.{part_stage_limits, part_reference_limits}
use Rattle.netlist.specs.Read.{farthest, most_bytes}
use Rattle.verdict.specs.declared.WordOrder.{WordOrder}
use Rattle.check_spec.specs.Cases.{judge}
use Rattle.check_spec.specs.Content.{Files, part_files}
use Rattle.check_spec.proofs.Cut.{content_cut, cut_files, verdict_cut}
use Rattle.join_spec.specs.Joining.{whole, passed_on, seam_checks, join_checks}

pub join_cut : (order : WordOrder) (s1 r1 s2 r2 : List ℕ) (stage_room reference_room : ℕ)
    → (judge (join_checks order (cut_files (part_files s1 r1)) (cut_files (part_files s2 r2)) stage_room reference_room) ≡ judge (join_checks order (part_files s1 r1) (part_files s2 r2) stage_room reference_room))
    × (whole (cut_files (part_files s1 r1)) (cut_files (part_files s2 r2)) ≡ whole (part_files s1 r1) (part_files s2 r2))
unfolding command_table own_commands form_in seam_checks
join_cut order s1 r1 s2 r2 stage_room reference_room =
    let far : farthest Stage part_stage_limits ≤ most_bytes = omega arith in
    let far' : farthest Reference part_reference_limits ≤ most_bytes = omega arith in
    let s = content_cut Stage part_stage_limits far s1 in
    let r = content_cut Reference part_reference_limits far' r1 in
    let t = content_cut Stage part_stage_limits far s2 in
    let u = content_cut Reference part_reference_limits far' r2 in
    (rw (verdict_cut order (part_files s1 r1) far far', verdict_cut order (part_files s2 r2) far far', s, r, t, u), rw (s, r, t, u))
