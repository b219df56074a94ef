-- `text_scan::part` meets its contract. The loop's invariant: the part that is left to find in the rest is the one to find. Assumes nothing.
use Prim.Native.Nat.{suc, ◌+◌, ◌-◌}
use native.Mathlib.Omega.{arith}
use mathlib.Core.Path.{◌≡◌, sym, ◌∙◌}
use Rattle.text_spec.specs.Characters.{space}
use Rattle.text_scan.proofs.Pieces.{piece_first, piece_next}
use Rattle.text_scan.proofs.part.Goals as goal

pub loop-before-preserved : goal.loop-before-preserved
loop-before-preserved c =
    let l = c.loop-before in
    let left : c.args.i - l._before ≡ suc (c.args.i - (l._before + 1)) = omega (arith, c.loop-before-test.true) in
    rw c.after_piece-rest.ensures (sym (piece_next space l.rest.now (c.args.i - (l._before + 1))) ∙ rw left at l.invariant)

pub returns : goal.returns
returns c =
    let l = c.loop-before in
    let none : c.args.i - l._before ≡ 0 = omega (arith, c.loop-before-test.false) in
    rw (c.piece_len.ensures.0) (sym (piece_first space l.rest.now)) ∙ rw none at l.invariant
