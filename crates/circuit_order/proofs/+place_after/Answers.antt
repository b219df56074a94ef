-- The proof of the cycle of calls {place_after}. The loop's invariant: the nets at the first pins of gate k wait no more, and what had a place keeps it. The
-- measure is the depth. Assumes nothing.
use Prim.Native.Nat.{ℕ, suc, ◌+◌, ◌-◌, ◌<◌}
use native.Mathlib.Omega.{arith}
use Rattle.circuit_order.specs.Placing.{Placing, AfterPins, PlacedAfter}
use Rattle.circuit_order.proofs.After.{after_none, pins_skip, pins_more, pins_stuck, after_gone, after_ready, after_placed}
use mathlib.Core.Path.{◌≡◌, sym, subst, subst₃}
use mathlib.Core.List.{List}
use Rattle.circuit_order.proofs.+place_after.Goals as goal
use Rattle.circuit_order.proofs.+place_after.Goals.{then-waiting-feeder-gt0+else-waiting-feeder-gt0-2, else-waiting-feeder-gt0}

pub returns-then-depth-eq0 : goal.returns-then-depth-eq0
returns-then-depth-eq0 t c =
    rw c.if-depth-eq0.true (after_none c.args.counts c.args.code.now c.args.waiting.now c.args.taken c.args.k c.requires.0)

pub returns-then-waiting-feeder-gt0-2 : goal.returns-then-waiting-feeder-gt0-2
returns-then-waiting-feeder-gt0-2 t c =
    let p = c.place_after-placed in
    let e : suc (c.args.depth - 1) ≡ c.args.depth = omega (arith, c.if-depth-eq0.false) in
    let is = c.pin_of-feeder.ensures.is in
    subst (PlacedAfter c.args.counts c.args.code.now p.new.code c.args.waiting.now p.new.waiting p.result c.args.k) e
    (pins_stuck _ _ _ _ _ _ _ c.requires.1 _ c.loop-pin.invariant (omega arith) _ _ _ _
    (rw is at c.if-waiting-feeder-gt0.true) (rw is at p.ensures) (rw is at c.if-waiting-feeder-gt0-2.true))

pub loop-pin-preserved : goal.loop-pin-preserved
loop-pin-preserved t c =
    let l = c.loop-pin in
    let h : c.loop-pin.pin < 4 = omega arith in
    let is = c.pin_of-feeder.ensures.is in
    let on : List ℕ → List ℕ → ℕ → Type 0 = λ u v m. AfterPins c.args.counts c.args.code.now u c.args.waiting.now v m c.args.k (l.pin + 1) in
    elim c.if-waiting-feeder-gt0.branch [
      | then-waiting-feeder-gt0+else-waiting-feeder-gt0-2 w ↦ subst₃ on (sym w.code-is) (sym w.waiting-is) (sym w.placed-is)
          (pins_more _ _ _ _ _ _ _ c.requires.1 _ l.invariant h _ _ _ _ (rw is at w.if-waiting-feeder-gt0.true) (rw is at w.place_after-placed.ensures) (rw is at w.if-waiting-feeder-gt0-2.false))
      | else-waiting-feeder-gt0 w ↦ subst₃ on (sym w.code-is) (sym w.waiting-is) (sym w.placed-is)
          (pins_skip _ _ _ _ _ _ _ c.requires.1 _ l.invariant (rw is at w.if-waiting-feeder-gt0.false))
    ]

pub returns-then-waiting-counts-eq0 : goal.returns-then-waiting-counts-eq0
returns-then-waiting-counts-eq0 t c =
    let l = c.loop-pin in
    let four : l.pin ≡ 4 = omega (arith, c.loop-pin-test.false) in
    after_gone _ _ _ _ _ _ _ c.requires.1
    (subst (AfterPins c.args.counts c.args.code.now l.code c.args.waiting.now l.waiting l.placed c.args.k) four l.invariant)
    _ c.if-waiting-counts-eq0.true

pub place-requires : goal.place-requires
place-requires t c =
    let l = c.loop-pin in
    let four : l.pin ≡ 4 = omega (arith, c.loop-pin-test.false) in
    (l.invariant.placing, c.requires.1, after_ready _ _ _ _ _ _ _ c.requires.1 (subst (AfterPins c.args.counts c.args.code.now l.code c.args.waiting.now l.waiting l.placed c.args.k) four l.invariant) 0 c.if-waiting-counts-eq0.false)

pub returns : goal.returns
returns t c =
    let l = c.loop-pin in
    let four : l.pin ≡ 4 = omega (arith, c.loop-pin-test.false) in
    let p = c.place in
    subst (λ (v : List ℕ). PlacedAfter c.args.counts c.args.code.now p.new.code c.args.waiting.now v (l.placed + 1) c.args.k c.args.depth) (sym p.ensures.2)
    (after_placed _ _ _ _ _ _ _ c.requires.1 (subst (AfterPins c.args.counts c.args.code.now l.code c.args.waiting.now l.waiting l.placed c.args.k) four l.invariant) _ _ (subst (λ (v : List ℕ). Placing c.args.counts p.new.code v (l.placed + 1)) p.ensures.2 p.ensures.0) p.ensures.1)
