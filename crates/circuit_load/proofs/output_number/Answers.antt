-- `circuit_load::output_number` meets its contract. Assumes nothing.
use Prim.Native.Nat.{◌/◌}
use native.Mathlib.Omega.{arith}
use mathlib.Core.Path.{◌∙◌}
use Rattle.circuit_load.proofs.Numbers.{output_rail_holds, output_care}
use Rattle.circuit_load.proofs.Reading.{rails_room}
use Rattle.circuit_load.proofs.output_number.Goals as goal

pub operand-requires : goal.operand-requires
operand-requires c = omega (arith, rails_room c.args.most c.args.s.now c.args.places.now c.args.counts c.requires.0 (c.args.j / 2) (omega arith))

pub returns-then-j-rails : goal.returns-then-j-rails
returns-then-j-rails c = c.operand.ensures ∙ output_rail_holds c.args.most c.args.s.now c.args.places.now c.args.counts c.args.j c.if-j-rails.true

pub returns : goal.returns
returns c = output_care c.args.most c.args.s.now c.args.places.now c.args.counts c.args.j (omega arith)
