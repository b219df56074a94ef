-- `words::mark_care` meets its contract. The loop's invariant: the first care words are marked. Assumes nothing.
use Prim.Native.Nat.{ℕ, ◌+◌}
use native.Mathlib.Omega.{arith}
use mathlib.Core.Path.{◌≡◌, refl, sym, ◌∙◌, subst}
use mathlib.Core.List.{List}
use lib.ListN.{length, length-set}
use Rattle.circuit.specs.Stage.{stage_care}
use Rattle.words.proofs.Membership.{care_long, care_is}
use Rattle.words.proofs.Marking.{MarkedTo, marked_start, marked_more, marked_past, marked_done}
use Rattle.words.proofs.mark_care.Goals as goal
use Rattle.words.proofs.mark_care.Goals.{then-w-marks, else-w-marks}

pub loop-k-init : goal.loop-k-init
loop-k-init c = (refl, marked_start (stage_care c.args.counts c.args.code.now) c.args.marks.now c.requires.1)

pub loop-k-preserved : goal.loop-k-preserved
loop-k-preserved c =
    let l = c.loop-k in
    let h = c.loop-k-test.true in
    let ws = stage_care c.args.counts c.args.code.now in
    let long = care_long c.args.counts c.args.code.now in
    let is = care_is c.args.counts c.args.code.now l.k h _ c.care_of-w.ensures.is in
    let on : List ℕ → Type 0 = λ u. (length u ≡ length c.args.marks.now) × MarkedTo ws u (l.k + 1) in
    let r : on c.if-w-marks.marks = elim c.if-w-marks.branch [
      | then-w-marks w ↦ subst on (sym w.marks-is) (length-set l.marks _ 1 ∙ l.invariant.0, marked_more ws l.marks l.k l.invariant.1 _ is (omega (arith, h, long)) w.if-w-marks.true)
      | else-w-marks w ↦ subst on (sym w.marks-is) (l.invariant.0, marked_past ws l.marks l.k l.invariant.1 _ is (omega (arith, h, long)) w.if-w-marks.false)
    ] in
    r

pub returns : goal.returns
returns c =
    let l = c.loop-k in
    (marked_done c.args.counts c.args.code.now l.marks l.k (omega (arith, c.loop-k-test.false)) l.invariant.1, l.invariant.0)
