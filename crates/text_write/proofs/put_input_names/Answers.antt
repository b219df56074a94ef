-- `text_write::put_input_names` meets its contract. The loop's invariant: the names from i on are left. Assumes nothing.
use native.Mathlib.Omega.{arith}
use Prim.Native.Nat.{ℕ}
use mathlib.Core.List.{List}
use Rattle.text_write.proofs.Loops.{list_begun, list_done, comma_room, item_room, item_put}
use Rattle.text_spec.specs.ToText.{x}
use Rattle.text_write.proofs.Names.{input_parts}
use Rattle.text_write.proofs.put_input_names.Goals as goal

pub loop-i-init : goal.loop-i-init
loop-i-init c =
    let put-numbered = c.put_numbered-at in
    let item : ℕ → List ℕ = x in (
      omega arith,
      c.requires.0,
      list_begun item c.args.inputs c.args.work.now c.args.start (input_parts c.args.inputs c.requires.0)
          c.requires.2 put-numbered.ensures,
    )

pub put_char-at-requires : goal.put_char-at-requires
put_char-at-requires c =
    let loop = c.loop-i in
    let loop-test = c.loop-i-test in
    let item : ℕ → List ℕ = x in
    comma_room item c.args.inputs loop.i loop.invariant.2 loop-test.true

pub put_numbered-at-requires-in-loop-i : goal.put_numbered-at-requires-in-loop-i
put_numbered-at-requires-in-loop-i c =
    let loop-test = c.loop-i-test in
    let loop = c.loop-i in
    let put-char = c.put_char-at in
    let item : ℕ → List ℕ = x in
    (omega (arith, loop-test.true, c.requires.1), item_room item c.args.inputs loop.i loop.invariant.2 loop-test.true put-char.ensures)

pub loop-i-preserved : goal.loop-i-preserved
loop-i-preserved c =
    let loop-test = c.loop-i-test in
    let loop = c.loop-i in
    let put-char = c.put_char-at in
    let put-numbered2 = c.put_numbered-at-in-loop-i in
    let item : ℕ → List ℕ = x in (
      omega arith,
      omega (arith, loop-test.true),
      item_put item c.args.inputs loop.i loop.invariant.2 loop-test.true put-char.ensures
          put-numbered2.ensures,
    )

pub returns : goal.returns
returns c =
    let put-numbered = c.put_numbered-at in
    let loop = c.loop-i in
    let loop-test = c.loop-i-test in
    let item : ℕ → List ℕ = x in
    list_done item c.args.inputs c.args.work.now c.args.start (input_parts c.args.inputs c.requires.0) c.requires.2
    put-numbered.ensures loop.i loop.invariant.2 loop-test.false
