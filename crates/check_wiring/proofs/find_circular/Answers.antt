-- `check_wiring::find_circular` meets its contract. Assumes nothing.
use native.Mathlib.Omega.{arith}
use Prim.Native.Nat.{◌≤◌}
use mathlib.Core.Path.{sym, ap, ◌∙◌, subst}
use lib.ListN.{length}
use Rattle.check_levels.specs.Graph.{ComesFrom}
use Rattle.check_wiring.proofs.Lent.{part_long, whole_long, part_back}
use Rattle.check_wiring.proofs.find_circular.Goals as goal

pub slice_bounds-closed-end-2 : goal.slice_bounds-closed-end-2
slice_bounds-closed-end-2 c =
    let few : c.args.counts.registers ≤ length c.args.sources = omega (arith, c.requires.0.1.registers_are, c.requires.0.1.parts.few, c.requires.1) in
    omega (arith, few, whole_long c.args.counts.registers c.args.sources c.close.new.sources few c.close.auto.sources)

pub slice_bounds-least_circular-end : goal.slice_bounds-least_circular-end
slice_bounds-least_circular-end c =
    let few : c.args.counts.registers ≤ length c.args.sources = omega (arith, c.requires.0.1.registers_are, c.requires.0.1.parts.few, c.requires.1) in
    let m = c.args.counts.registers in
    let part = c.close.new.sources in
    sym (ap length (part_back m c.args.sources part few c.close.auto.sources) ∙ part_long m c.args.sources part few c.close.auto.sources)

pub least_circular-requires : goal.least_circular-requires
least_circular-requires c =
    let few : c.args.counts.registers ≤ length c.args.sources = omega (arith, c.requires.0.1.registers_are, c.requires.0.1.parts.few, c.requires.1) in
    let back = part_back c.args.counts.registers c.args.sources c.close.new.sources few c.close.auto.sources in
    (c.requires.0.0, c.requires.0.1, subst (ComesFrom c.requires.0.0) (sym back) (c.close.ensures c.requires.0.0 c.requires.0.2))

pub returns : goal.returns
returns c =
    let few : c.args.counts.registers ≤ length c.args.sources = omega (arith, c.requires.0.1.registers_are, c.requires.0.1.parts.few, c.requires.1) in
    let back = part_back c.args.counts.registers c.args.sources c.close.new.sources few c.close.auto.sources in
    λ p o of. c.least_circular.ensures p o (subst (ComesFrom p) (sym back) (c.close.ensures p of))
