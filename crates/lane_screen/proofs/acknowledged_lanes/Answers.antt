-- `lane_screen::acknowledged_lanes` meets its contract. Assumes nothing.
use Prim.Native.Nat.{◌+◌, ◌*◌}
use mathlib.Core.Path.{refl, sym, subst, ◌∙◌}
use mathlib.Core.Bool.{Bool}
use lib.ListN.{get_or}
use lib.Bits.{bit_xor}
use Rattle.lane_cells.specs.Cells.{needing}
use Rattle.lane_screen.specs.Marks.{PinsAcknowledged}
use Rattle.lane_screen.proofs.ByNet.{acknowledged_rise, acknowledged_hold, acknowledged_relaxed, acknowledged_lone}
use Rattle.lane_screen.proofs.acknowledged_lanes.Goals as goal

pub returns-then-has_hold : goal.returns-then-has_hold
returns-then-has_hold c =
    let high = get_or c.args.row.now (2 * c.args.counts.inputs + c.args.k) 0 in
    subst (λ (falls : Bool). PinsAcknowledged falls c.args.counts c.args.code.now c.args.k c.args.row.now (needing high high high high high)) (sym c.if-falls.true)
    (acknowledged_hold c.args.counts c.args.code.now c.requires.0 c.requires.1 c.args.k c.requires.2 c.args.row.now (sym c.has_hold.ensures ∙ c.if-has_hold.true) high refl)

pub returns-then-by_net : goal.returns-then-by_net
returns-then-by_net c =
    subst (λ (falls : Bool). PinsAcknowledged falls c.args.counts c.args.code.now c.args.k c.args.row.now c.cofactors.result)
    (sym c.if-falls.true)
    (acknowledged_relaxed c.args.counts c.args.code.now c.requires.0 c.requires.1 c.args.k c.requires.2 c.args.row.now
    (sym c.has_hold.ensures ∙ c.if-has_hold.false)
    c.cofactors.result c.cofactors.ensures)

pub returns-then-falls : goal.returns-then-falls
returns-then-falls c =
    subst (λ (falls : Bool). PinsAcknowledged falls c.args.counts c.args.code.now c.args.k c.args.row.now c.lone_gate.result)
    (sym c.if-falls.true)
    (acknowledged_lone c.args.counts c.args.code.now c.requires.0 c.requires.1 c.args.k c.requires.2 c.args.row.now
    (sym c.has_hold.ensures ∙ c.if-has_hold.false)
    c.lone_gate.result c.lone_gate.ensures)

pub returns : goal.returns
returns c =
    let high = get_or c.args.row.now (2 * c.args.counts.inputs + c.args.k) 0 in
    let low = c.cofactors-low in
    subst (λ (falls : Bool). PinsAcknowledged falls c.args.counts c.args.code.now c.args.k c.args.row.now
    (needing high (bit_xor high low.result.a) (bit_xor high low.result.b) (bit_xor high low.result.c) (bit_xor high low.result.d)))
    (sym c.if-falls.false)
    (acknowledged_rise c.args.counts c.args.code.now c.requires.0 c.requires.1 c.args.k c.requires.2 c.args.row.now high refl low.result low.ensures)
