-- `circuit_wire::resolve` meets its contract. The loop's invariant: what is left to follow leads from x to where all leads from the net. Assumes nothing.
use Prim.Native.Nat.{◌-◌}
use native.Mathlib.Omega.{arith}
use mathlib.Core.Path.{sym, ◌∙◌}
use Rattle.circuit_wire.specs.Wire.{wire_in}
use Rattle.circuit_wire.proofs.Wiring.{times_own, times_turn, times_none}
use Rattle.circuit_wire.proofs.resolve.Goals as goal

pub loop-step-preserved : goal.loop-step-preserved
loop-step-preserved c =
    let l = c.loop-step in
    times_turn (wire_in c.args.nets.now c.args.first) c.args.registers l._step l.x _ c.loop-step-test.true c.wire-next.ensures ∙ l.invariant

pub returns-then-next-x : goal.returns-then-next-x
returns-then-next-x c =
    let l = c.loop-step in
    let f = wire_in c.args.nets.now c.args.first in
    sym (times_own f (c.args.registers - l._step) l.x (sym c.wire-next.ensures ∙ c.if-next-x.true)) ∙ l.invariant

pub returns : goal.returns
returns c = let l = c.loop-step in times_none (wire_in c.args.nets.now c.args.first) _ l.x (omega arith) ∙ l.invariant
