-- `circuit_place::place_elements` meets its contract. The loop's invariant: the C-elements that have a place come after those at their pins.
-- The measure is how many can still take one. Assumes nothing.
use mathlib.Core.Path.{refl, sym, ◌∙◌}
use native.Mathlib.Omega.{arith}
use Rattle.circuit_place.proofs.Placing.{placing_anew, placing_on, passed_end, placed_bound}
use Rattle.circuit_place.proofs.place_elements.Goals as goal

pub loop-placed-init : goal.loop-placed-init
loop-placed-init c = (c.requires.1, refl)

pub place_ready-more-requires : goal.place_ready-more-requires
place_ready-more-requires c = let l = c.loop-placed in (c.requires.0, placing_anew c.args.code.now l.code c.args.first c.args.count l.placed l.invariant.0)

pub shape_of-code-then-more-placed : goal.shape_of-code-then-more-placed
shape_of-code-then-more-placed c = let l = c.loop-placed in let q = c.place_ready-more in q.ensures.placing.long ∙ sym c.requires.1.long

pub returns-then-more-placed : goal.returns-then-more-placed
returns-then-more-placed c = let l = c.loop-placed in let q = c.place_ready-more in passed_end c.args.code.now l.code _ c.args.first c.args.count l.placed _ l.invariant.0 q.ensures c.if-more-placed.true

pub loop-placed-smaller : goal.loop-placed-smaller
loop-placed-smaller c = let l = c.loop-placed in let q = c.place_ready-more in omega (arith, c.if-more-placed.false, q.ensures.more, placed_bound l.code _ c.args.first c.args.count _ q.ensures.placing)

pub loop-placed-preserved : goal.loop-placed-preserved
loop-placed-preserved c = let l = c.loop-placed in let q = c.place_ready-more in (placing_on c.args.code.now l.code _ c.args.first c.args.count l.placed _ l.invariant.0 q.ensures.placing, q.ensures.placing.long ∙ sym c.requires.1.long)
