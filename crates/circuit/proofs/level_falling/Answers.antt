-- `circuit::level_falling` meets its contract. Assumes nothing.
use native.Mathlib.Omega.{arith}
use mathlib.Core.Path.{sym, ◌∙◌}
use Rattle.verdict.proofs.Gates.{is_set_binary}
use Rattle.circuit.proofs.Falling.{fall_low, fall_kept, fall_hold_low, fall_hold_high, fall_relaxed}
use Rattle.circuit.proofs.level_falling.Goals as goal

pub returns-then-row-net-eq0 : goal.returns-then-row-net-eq0
returns-then-row-net-eq0 c =
    (fall_low c.args.counts c.args.code.now c.args.row.now c.requires.1 c.requires.3 c.args.k c.requires.2 c.args.kept c.if-row-net-eq0.true, omega arith)

pub returns-then-k-kept : goal.returns-then-k-kept
returns-then-k-kept c =
    (fall_kept c.args.counts c.args.code.now c.args.row.now c.requires.1 c.requires.3 c.args.k c.requires.2 c.args.kept c.if-row-net-eq0.false c.if-k-kept.true, omega arith)

pub returns-then-pattern-eq0 : goal.returns-then-pattern-eq0
returns-then-pattern-eq0 c = (
  fall_hold_low c.args.counts c.args.code.now c.args.row.now c.requires.1 c.requires.3 c.args.k c.requires.2 c.args.kept
      c.if-row-net-eq0.false c.if-k-kept.false
      (sym c.has_hold.ensures ∙ c.if-has_hold.true) _ c.pattern.ensures c.if-pattern-eq0.true,
  omega arith,
)

pub returns-then-has_hold : goal.returns-then-has_hold
returns-then-has_hold c = (
  fall_hold_high c.args.counts c.args.code.now c.args.row.now c.requires.1 c.requires.3 c.args.k c.requires.2 c.args.kept
      c.if-row-net-eq0.false c.if-k-kept.false
      (sym c.has_hold.ensures ∙ c.if-has_hold.true) _ c.pattern.ensures c.if-pattern-eq0.false,
  omega arith,
)

pub returns : goal.returns
returns c = (
  fall_relaxed c.args.counts c.args.code.now c.args.row.now c.requires.1 c.requires.3 c.args.k c.requires.2 c.args.kept
      c.if-row-net-eq0.false c.if-k-kept.false (sym c.has_hold.ensures ∙ c.if-has_hold.false) _ c.gate_level.ensures,
  rw c.gate_level.ensures (is_set_binary _ _),
)
