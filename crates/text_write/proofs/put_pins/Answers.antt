-- `text_write::put_pins` meets its contract. The loop's invariant: the pins from i on are left. Assumes nothing.
use Prim.Native.Nat.{ℕ}
use native.Mathlib.Omega.{arith}
use mathlib.Core.List.{List}
use Rattle.text_write.proofs.Loops.{list_room, list_begun, list_done, comma_room, item_room, item_put}
use Rattle.text_write.proofs.Names.{pin_name, pin_parts}
use Rattle.text_write.proofs.put_pins.Goals as goal

pub put_pin-at-requires : goal.put_pin-at-requires
put_pin-at-requires c =
    let m = c.pin_count-count in
    let is = pin_parts c.args.counts c.args.code.now c.args.k m.result m.ensures in
    let item : ℕ → List ℕ = pin_name c.args.counts c.args.code.now c.args.k in
    (c.requires.0, c.requires.1, omega arith, list_room item m.result c.args.work.now c.args.start is c.requires.2)

pub loop-i-init : goal.loop-i-init
loop-i-init c =
    let m = c.pin_count-count in
    let is = pin_parts c.args.counts c.args.code.now c.args.k m.result m.ensures in
    let item : ℕ → List ℕ = pin_name c.args.counts c.args.code.now c.args.k in
    (omega arith, m.ensures.some, list_begun item m.result c.args.work.now c.args.start is c.requires.2 c.put_pin-at.ensures)

pub put_char-at-requires : goal.put_char-at-requires
put_char-at-requires c =
    let item : ℕ → List ℕ = pin_name c.args.counts c.args.code.now c.args.k in
    comma_room item c.pin_count-count.result c.loop-i.i c.loop-i.invariant.2 c.loop-i-test.true

pub put_pin-at-requires-in-loop-i : goal.put_pin-at-requires-in-loop-i
put_pin-at-requires-in-loop-i c =
    let m = c.pin_count-count in
    let item : ℕ → List ℕ = pin_name c.args.counts c.args.code.now c.args.k in (
      c.requires.0,
      c.requires.1,
      omega (arith, c.loop-i-test.true, m.ensures.most),
      item_room item m.result c.loop-i.i c.loop-i.invariant.2
          c.loop-i-test.true c.put_char-at.ensures,
    )

pub loop-i-preserved : goal.loop-i-preserved
loop-i-preserved c =
    let l = c.loop-i in
    let t = c.loop-i-test.true in
    let item : ℕ → List ℕ = pin_name c.args.counts c.args.code.now c.args.k in (
      omega arith,
      omega (arith, t),
      item_put item
          c.pin_count-count.result l.i l.invariant.2 t
          c.put_char-at.ensures c.put_pin-at-in-loop-i.ensures,
    )

pub returns : goal.returns
returns c =
    let m = c.pin_count-count in
    let is = pin_parts c.args.counts c.args.code.now c.args.k m.result m.ensures in
    let item : ℕ → List ℕ = pin_name c.args.counts c.args.code.now c.args.k in
    list_done item m.result c.args.work.now c.args.start is c.requires.2 c.put_pin-at.ensures c.loop-i.i
    c.loop-i.invariant.2 c.loop-i-test.false
