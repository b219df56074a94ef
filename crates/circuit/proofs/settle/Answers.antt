-- `circuit::settle` meets its contract: no gate is before the first place, and none is held. Assumes nothing.
use Prim.Native.Nat.{ℕ}
use mathlib.Core.Path.{ap, ◌∙◌}
use mathlib.Core.List.{List, ◌++◌}
use Rattle.circuit.specs.Rows.{rail_part}
use Rattle.circuit.proofs.Settling.{settle_none}
use Rattle.circuit.proofs.settle.Goals as goal

pub returns : goal.returns
returns c =
    let s = c.settle_from.ensures in
    let rails = rail_part c.args.counts c.args.row.now in
    record { settled = s.settled ∙ ap (λ (l : List ℕ). rails ++ l) (settle_none c.args.counts c.args.code.now rails); row = s.row }
