-- `circuit_load::read_reference_within` meets its contract. Assumes nothing.
use native.Mathlib.Omega.{arith}
use mathlib.Core.Path.{sym, ◌∙◌}
use Rattle.netlist.specs.declared.File.TheVariants as file
use Rattle.read_file.proofs.Room.{reference_room_holds}
use Rattle.circuit_load.proofs.Reading.{was_read, holds_reference, holds_no_reference}
use Rattle.circuit_load.proofs.read_reference_within.Goals as goal

pub read_file-outcome-requires : goal.read_file-outcome-requires
read_file-outcome-requires c = reference_room_holds c.args.most _ c.requires.0 (omega arith)

pub load_reference-requires : goal.load_reference-requires
load_reference-requires c =
    let f = c.read_file-outcome in
    let less = c.requires.0 in
    let w = was_read file.Reference c.args.most c.args.s.now _ _ (reference_room_holds c.args.most _ less (omega arith)).space
    (sym c.in-Ok.is ∙ f.ensures.answered) f.ensures.placed in
    let n = w.file_read.within in
    (w.file_read, less, omega (arith, n.gates_in_holds, n.outputs_in_holds, less.gates_in_holds, less.outputs_in_holds))

pub returns-in-Ok : goal.returns-in-Ok
returns-in-Ok c =
    let f = c.read_file-outcome in
    let e = sym c.in-Ok.is ∙ f.ensures.answered in
    let w = was_read file.Reference c.args.most c.args.s.now _ _ (reference_room_holds c.args.most _ c.requires.0 (omega arith)).space e f.ensures.placed in
    let l = c.load_reference.ensures in
    record { answered = e; loaded = holds_reference c.args.most c.args.s.now _ _ _ w l.same l.loaded }

pub returns-in_default : goal.returns-in_default
returns-in_default c =
    let f = c.read_file-outcome in
    record { answered = f.ensures.answered; loaded = holds_no_reference c.args.s.now _ _ _ _ (sym c.in_default.is ∙ f.ensures.answered) }
