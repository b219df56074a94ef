-- `circuit_load::read_pipeline_within` meets its contract. Assumes nothing.
use native.Mathlib.Omega.{arith}
use mathlib.Core.Path.{sym, ap, ◌∙◌}
use Rattle.netlist.specs.declared.File.{File}
use Rattle.netlist.specs.Reading.{read_file}
use Rattle.netlist.specs.Read.{outcome_of}
use Rattle.read_file.proofs.Room.{stage_room_holds}
use Rattle.circuit_load.proofs.Holding.{read_as, stage_read, holds_pipeline, holds_no_pipeline}
use Rattle.circuit_load.proofs.read_pipeline_within.Goals as goal

pub read_file-outcome-requires : goal.read_file-outcome-requires
read_file-outcome-requires c =
    rw c.stage_file.ensures (stage_room_holds c.args.most _ c.args.registers c.requires.0 (omega arith))

pub load_pipeline-requires : goal.load_pipeline-requires
load_pipeline-requires c =
    let f = c.read_file-outcome in
    let is = c.stage_file.ensures in
    let w = read_as c.args.registers is (rw is (stage_room_holds c.args.most _ c.args.registers c.requires.0 (omega arith)))
    (sym c.in-Ok.is ∙ f.ensures.answered) f.ensures.placed in
    (stage_read c.args.registers w, c.requires.0, c.requires.1, c.requires.2, c.requires.3)

pub returns-in-Ok : goal.returns-in-Ok
returns-in-Ok c =
    let f = c.read_file-outcome in
    let is = c.stage_file.ensures in
    let e = sym c.in-Ok.is ∙ f.ensures.answered in
    let w = read_as c.args.registers is (rw is (stage_room_holds c.args.most _ c.args.registers c.requires.0 (omega arith))) e f.ensures.placed in
    record { answered = e ∙ ap (λ (x : File). outcome_of (read_file x c.args.most c.args.s.now)) is; loaded = holds_pipeline c.args.registers w c.load_pipeline.ensures }

pub returns-in_default : goal.returns-in_default
returns-in_default c =
    let f = c.read_file-outcome in
    let e = f.ensures.answered ∙ ap (λ (x : File). outcome_of (read_file x c.args.most c.args.s.now)) c.stage_file.ensures in
    record { answered = e; loaded = holds_no_pipeline c.args.s.now _ _ _ _ _ _ (sym c.in_default.is ∙ e) }
