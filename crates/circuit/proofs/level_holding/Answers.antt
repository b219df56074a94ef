-- `circuit::level_holding` meets its contract. Assumes nothing.
use native.Mathlib.Omega.{arith}
use Rattle.verdict.proofs.Gates.{is_set_binary}
use Rattle.circuit.specs.Rows.{nets_in}
use Rattle.circuit.proofs.Settling.{held_at, set_at}
use Rattle.circuit.proofs.level_holding.Goals as goal

pub returns-then-k-held : goal.returns-then-k-held
returns-then-k-held c =
    (held_at c.args.counts c.args.code.now (nets_in c.args.counts c.args.row.now) _ _ c.requires.2 c.if-k-held.true, omega arith)

pub returns : goal.returns
returns c = (
  set_at c.args.counts c.args.code.now (nets_in c.args.counts c.args.row.now) _ _ c.requires.2 c.if-k-held.false _
      c.gate_level.ensures,
  rw c.gate_level.ensures (is_set_binary _ _),
)
