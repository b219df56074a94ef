-- `circuit::gate_level` meets its contract. Assumes nothing.
use mathlib.Core.Path.{ap₂, ◌∙◌}
use Rattle.gates.specs.Cell.{set_bit}
use Rattle.circuit.proofs.Pins.{pattern_small, level_by_pattern}
use Rattle.circuit.proofs.gate_level.Goals as goal

pub sets-requires : goal.sets-requires
sets-requires c =
    let cell = c.cell_of-cell.ensures in (
      c.requires.0,
      cell.low,
      cell.high,
      rw (cell.is, c.pattern.ensures)
          (pattern_small c.args.counts c.args.code.now c.args.row.now c.requires.1 c.requires.3 c.args.k c.requires.2),
    )

pub returns : goal.returns
returns c =
    c.sets.ensures ∙ ap₂ set_bit c.cell_of-cell.ensures.is c.pattern.ensures
    ∙ level_by_pattern c.args.counts c.args.code.now c.args.row.now c.requires.1 c.requires.3 c.args.k c.requires.2
