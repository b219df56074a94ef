-- `family::locate` meets its contract. Assumes nothing.
use native.Mathlib.Omega.{arith}
use Rattle.call_next.proofs.Locating.{located_start, outside_long, outside_inputs}
use Rattle.call_next.proofs.locate.Goals as goal
use Rattle.call_next.proofs.locate.Goals.{then-long-lt8-via-then-long-lt8, then-long-lt8-via-else-long-lt8+then-long-gt28, then-long-lt8-via-else-long-lt8+else-long-gt28+then-long-ne8}

pub returns-then-long-eq0 : goal.returns-then-long-eq0
returns-then-long-eq0 c = located_start c.args.s.now c.if-long-eq0.true

pub returns-then-long-lt8 : goal.returns-then-long-lt8
returns-then-long-lt8 c =
    outside_long c.args.s.now (λ e. omega arith)
    (λ g l e.
    elim c.then-long-lt8.branch [
      | then-long-lt8-via-then-long-lt8 w ↦ omega arith
      | then-long-lt8-via-else-long-lt8+then-long-gt28 w ↦ omega arith
      | then-long-lt8-via-else-long-lt8+else-long-gt28+then-long-ne8 w ↦ omega arith
    ])

pub returns-then-inputs-lt1 : goal.returns-then-inputs-lt1
returns-then-inputs-lt1 c =
    outside_inputs c.args.s.now (λ e. omega arith) (λ n a b e. omega (arith, c.wide-inputs.ensures.0, c.then-inputs-lt1.either))
