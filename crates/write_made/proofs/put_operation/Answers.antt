-- `write_made::put_operation` meets its contract. Assumes nothing.
use native.Mathlib.Omega.{arith}
use mathlib.Core.Path.{ap}
use Rattle.write_made.specs.Rails.{pair_of}
use Rattle.netlist.specs.declared.File.TheVariants as file
use Rattle.netlist.specs.Writing.{gate}
use Rattle.make_spec.specs.Make.{realize}
use Rattle.write_command.specs.Parts.{bytes_of}
use Rattle.write_command.proofs.Putting.{put_same}
use Rattle.write_made.proofs.Operations.{part_at, gates_or, or_nor}
use Rattle.write_made.proofs.put_operation.Goals as goal

pub returns-in-2 : goal.returns-in-2
unfolding realize
returns-in-2 c next =
    let z = c.args in
    put_same (ap (bytes_of file.Stage gate) (part_at (λ x. x.gates) 2 z.operation (pair_of z.a) (pair_of z.b) next c.in-2.is))
    c.put_and.ensures

pub returns-in-4 : goal.returns-in-4
unfolding realize
returns-in-4 c next =
    let z = c.args in
    put_same (ap (bytes_of file.Stage gate) (part_at (λ x. x.gates) 4 z.operation (pair_of z.a) (pair_of z.b) next c.in-4.is))
    c.put_xor.ensures

pub returns-in-5 : goal.returns-in-5
unfolding realize
returns-in-5 c next =
    let z = c.args in
    put_same (ap (bytes_of file.Stage gate) (part_at (λ x. x.gates) 5 z.operation (pair_of z.a) (pair_of z.b) next c.in-5.is))
    c.put_and-in-5.ensures

pub returns-in_default : goal.returns-in_default
returns-in_default c next =
    let z = c.args in
    let op = or_nor z.operation (omega arith) (omega arith) (λ e. omega arith) (λ e. omega arith) in
    put_same (ap (bytes_of file.Stage gate) (gates_or z.operation (pair_of z.a) (pair_of z.b) next op)) c.put_and-in_default.ensures
