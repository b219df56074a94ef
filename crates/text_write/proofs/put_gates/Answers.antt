-- `text_write::put_gates` meets its contract. The loop's invariant: the lines from gate k on are left. Assumes nothing.
use native.Mathlib.Omega.{arith}
use Prim.Native.Nat.{ℕ}
use mathlib.Core.Path.{refl, sym, ap}
use mathlib.Core.List.{List, [], ◌∷◌, ◌++◌}
use lib.ListN.{length}
use Rattle.write_decimal.proofs.Decimal.{next_same}
use Rattle.text_write.specs.Parts.{gate_line}
use Rattle.text_write.proofs.Loops.{text_all, text_none, parts_none, first_room, second_room, both_put}
use Rattle.text_write.proofs.Names.{lines_from, gate_parts}
use Rattle.text_write.proofs.put_gates.Goals as goal

pub loop-k-init : goal.loop-k-init
loop-k-init c =
    let names = c.names-names in
    let counts = c.args.counts in
    let code = c.args.code.now in
    let e = gate_parts counts code in
    (names.ensures, omega arith, text_all c.args.work.now c.args.start (lines_from counts code 0) (omega (arith, ap length e, c.requires.1)))

pub slice_bounds-put_gate-end : goal.slice_bounds-put_gate-end
slice_bounds-put_gate-end c =
    let loop = c.loop-k in
    sym loop.invariant.0.long

pub put_gate-at-requires : goal.put_gate-at-requires
put_gate-at-requires c =
    let loop = c.loop-k in
    let loop-test = c.loop-k-test in
    let counts = c.args.counts in
    let code = c.args.code.now in
    let part : ℕ → List ℕ = λ k. gate_line counts code k ++ (10 ∷ []) in (
      loop.invariant.0,
      c.requires.0,
      loop-test.true,
      first_room part counts.gates loop.k loop.invariant.2 loop-test.true
          (gate_line counts code loop.k) (10 ∷ []) refl,
    )

pub put_char-at-requires : goal.put_char-at-requires
put_char-at-requires c =
    let loop = c.loop-k in
    let loop-test = c.loop-k-test in
    let put-gate = c.put_gate-at in
    let counts = c.args.counts in
    let code = c.args.code.now in
    let part : ℕ → List ℕ = λ k. gate_line counts code k ++ (10 ∷ []) in
    second_room part counts.gates loop.k loop.invariant.2 loop-test.true (gate_line counts code loop.k) (10 ∷ []) refl put-gate.ensures

pub loop-k-preserved : goal.loop-k-preserved
loop-k-preserved c =
    let loop = c.loop-k in
    let loop-test = c.loop-k-test in
    let put-gate = c.put_gate-at in
    let put-char = c.put_char-at in
    let counts = c.args.counts in
    let code = c.args.code.now in
    let part : ℕ → List ℕ = λ k. gate_line counts code k ++ (10 ∷ []) in (
      loop.invariant.0,
      omega (arith, loop-test.true),
      both_put part counts.gates loop.k loop.invariant.2 loop-test.true (gate_line counts code loop.k) (10 ∷ []) refl put-gate.ensures
          put-char.ensures,
    )

pub shape_of-work : goal.shape_of-work
shape_of-work c =
    let loop = c.loop-k in
    omega (arith, loop.invariant.2.left.long)

pub returns : goal.returns
returns c =
    let loop = c.loop-k in
    let loop-test = c.loop-k-test in
    let counts = c.args.counts in
    let code = c.args.code.now in
    let part : ℕ → List ℕ = λ k. gate_line counts code k ++ (10 ∷ []) in
    next_same (sym (gate_parts counts code)) (text_none loop.invariant.2 (parts_none part counts.gates loop.k loop-test.false))
