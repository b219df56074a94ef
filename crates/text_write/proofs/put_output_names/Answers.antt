-- `text_write::put_output_names` meets its contract. The loop's invariant: the names from j on are left. Assumes nothing.
use native.Mathlib.Omega.{arith}
use Prim.Native.Nat.{ℕ}
use mathlib.Core.List.{List}
use Rattle.text_write.proofs.Loops.{list_room, list_begun, list_done, comma_room, item_room, item_put}
use Rattle.text_write.proofs.Names.{name_at, output_parts}
use Rattle.text_write.proofs.put_output_names.Goals as goal

pub put_output_name-at-requires : goal.put_output_name-at-requires
put_output_name-at-requires c =
    let item : ℕ → List ℕ = name_at c.args.counts c.args.code.now in (
      c.requires.0,
      c.requires.1,
      list_room item c.args.counts.outputs c.args.work.now c.args.start
          (output_parts c.args.counts c.args.code.now c.requires.1) c.requires.2,
    )

pub loop-j-init : goal.loop-j-init
loop-j-init c =
    let put-output-name = c.put_output_name-at in
    let item : ℕ → List ℕ = name_at c.args.counts c.args.code.now in (
      omega arith,
      c.requires.1,
      list_begun item c.args.counts.outputs c.args.work.now c.args.start
          (output_parts c.args.counts c.args.code.now c.requires.1) c.requires.2 put-output-name.ensures,
    )

pub put_char-at-requires : goal.put_char-at-requires
put_char-at-requires c =
    let loop = c.loop-j in
    let loop-test = c.loop-j-test in
    let item : ℕ → List ℕ = name_at c.args.counts c.args.code.now in
    comma_room item c.args.counts.outputs loop.j loop.invariant.2 loop-test.true

pub put_output_name-at-requires-in-loop-j : goal.put_output_name-at-requires-in-loop-j
put_output_name-at-requires-in-loop-j c =
    let loop-test = c.loop-j-test in
    let loop = c.loop-j in
    let put-char = c.put_char-at in
    let item : ℕ → List ℕ = name_at c.args.counts c.args.code.now in
    (c.requires.0, loop-test.true, item_room item c.args.counts.outputs loop.j loop.invariant.2 loop-test.true put-char.ensures)

pub loop-j-preserved : goal.loop-j-preserved
loop-j-preserved c =
    let loop-test = c.loop-j-test in
    let loop = c.loop-j in
    let put-char = c.put_char-at in
    let put-output-name2 = c.put_output_name-at-in-loop-j in
    let item : ℕ → List ℕ = name_at c.args.counts c.args.code.now in (
      omega arith,
      omega (arith, loop-test.true),
      item_put item c.args.counts.outputs loop.j loop.invariant.2 loop-test.true
          put-char.ensures put-output-name2.ensures,
    )

pub returns : goal.returns
returns c =
    let put-output-name = c.put_output_name-at in
    let loop = c.loop-j in
    let loop-test = c.loop-j-test in
    let item : ℕ → List ℕ = name_at c.args.counts c.args.code.now in
    list_done item c.args.counts.outputs c.args.work.now c.args.start
    (output_parts c.args.counts c.args.code.now c.requires.1) c.requires.2 put-output-name.ensures loop.j loop.invariant.2
    loop-test.false
