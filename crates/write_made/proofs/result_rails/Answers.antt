-- `write_made::result_rails` meets its contract. Assumes nothing.
use native.Mathlib.Omega.{arith}
use Rattle.write_made.specs.Rails.{pair_of}
use Rattle.make_spec.specs.Make.{realize}
use Rattle.write_made.proofs.Operations.{part_at, rails_other}
use Rattle.write_made.proofs.result_rails.Goals as goal

pub returns-in-1 : goal.returns-in-1
unfolding realize
returns-in-1 c b = part_at (λ x. x.rails) 1 c.args.operation (pair_of c.args.a) (pair_of b) c.args.next c.in-1.is

pub returns-in-2 : goal.returns-in-2
unfolding realize
returns-in-2 c b = part_at (λ x. x.rails) 2 c.args.operation (pair_of c.args.a) (pair_of b) c.args.next c.in-2.is

pub returns-in-6 : goal.returns-in-6
unfolding realize
returns-in-6 c b = part_at (λ x. x.rails) 6 c.args.operation (pair_of c.args.a) (pair_of b) c.args.next c.in-6.is

pub returns-in_default : goal.returns-in_default
returns-in_default c b = rails_other c.args.operation (pair_of c.args.a) (pair_of b) c.args.next (omega arith) (omega arith)
