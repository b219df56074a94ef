-- `circuit_load::read_stage` meets its contract. Assumes nothing.
use native.Mathlib.Omega.{arith}
use mathlib.Core.Bool.{false}
use mathlib.Core.Path.{refl, sym, ap, ◌∙◌}
use Rattle.netlist.specs.declared.File.TheVariants as file
use Rattle.netlist.specs.declared.Limits.{Limits}
use Rattle.netlist.specs.Reading.{read_file, stage_limits}
use Rattle.netlist.specs.Read.{outcome_of}
use Rattle.netlist.proofs.Bounds.{no_more}
use Rattle.read_file.proofs.Room.{stage_room_holds}
use Rattle.circuit_load.proofs.Reading.{holds_no_stage}
use Rattle.circuit_load.proofs.Holding.{stage_read_by, read_as, stage_read, within, code_room, holds_stage}
use Rattle.circuit_load.proofs.read_stage.Goals as goal

pub read_file-outcome-requires : goal.read_file-outcome-requires
read_file-outcome-requires c = stage_room_holds _ _ false (no_more _ stage_limits c.stage_limits-most.ensures) (omega arith)

pub ground_of-requires : goal.ground_of-requires
ground_of-requires c =
    let f = c.read_file-outcome in
    let less = no_more _ stage_limits c.stage_limits-most.ensures in
    within less (stage_read false (read_as false refl (stage_room_holds _ _ false less (omega arith)) (sym c.in-Ok.is ∙ f.ensures.answered) f.ensures.placed))

pub load_stage-requires : goal.load_stage-requires
load_stage-requires c =
    let f = c.read_file-outcome in
    let less = no_more _ stage_limits c.stage_limits-most.ensures in
    let w = read_as false refl (stage_room_holds _ _ false less (omega arith)) (sym c.in-Ok.is ∙ f.ensures.answered) f.ensures.placed in
    (stage_read false w, less, code_room less (stage_read false w) c.requires)

pub returns-in-Ok : goal.returns-in-Ok
returns-in-Ok c =
    let f = c.read_file-outcome in
    let is = c.stage_limits-most.ensures in
    let less = no_more _ stage_limits is in
    let e = sym c.in-Ok.is ∙ f.ensures.answered in
    let w = read_as false refl (stage_room_holds _ _ false less (omega arith)) e f.ensures.placed in
    let l = c.load_stage.ensures in
    let read = stage_read_by c.args.s.now _ is (e, holds_stage less w l.same c.ground_of.ensures l.raw) in
    record { answered = read.0; loaded = read.1 }

pub returns-in_default : goal.returns-in_default
returns-in_default c =
    let f = c.read_file-outcome in
    let e = f.ensures.answered ∙ ap (λ (m : Limits). outcome_of (read_file file.Stage m c.args.s.now)) c.stage_limits-most.ensures in
    record { answered = e; loaded = holds_no_stage c.args.s.now _ _ _ _ (sym c.in_default.is ∙ e) }
