-- `call_make::make_loaded` meets its contract. Assumes nothing.
use native.Mathlib.Omega.{arith}
use mathlib.Core.Path.{sym, ap, ◌∙◌}
use Prim.Native.Nat.{ℕ, ◌≤◌}
use lib.ListN.{length}
use Rattle.verdict.specs.declared.Verdict.{Verdict}
use Rattle.verdict.specs.FourNumbers.{verdict, accepted}
use Rattle.verdict.specs.Written.{answer_of}
use Rattle.call_make.proofs.Answering.{bytes, made_long, told_25, told_26, told_27, told_none, refused_as, made_as, needed_is}
use Rattle.call_make.proofs.make_loaded.Goals as goal

pub returns-in-Some : goal.returns-in-Some
returns-in-Some c =
    let code = c.args.reference.now in
    refused_as c.args.sizes code c.args.buffer.now _ _ (c.refused.ensures ∙ ap (λ (v : Verdict). answer_of v 0) c.fault.ensures)
    (told_25 c.args.sizes code c.args.buffer.now _ (sym c.in-Some.is ∙ c.leading_nowhere.ensures)) (omega arith)

pub returns-then-gates-gt-STAGE_GATES : goal.returns-then-gates-gt-STAGE_GATES
returns-then-gates-gt-STAGE_GATES c =
    let code = c.args.reference.now in
    let n = needed_is c.args.sizes code c.requires.1 _ c.operation_count-gates.ensures.0 in
    let found = sym c.in_default.is ∙ c.leading_nowhere.ensures in
    refused_as c.args.sizes code c.args.buffer.now _ _ (c.refused-then-gates-gt-STAGE_GATES.ensures
    ∙ ap (λ (v : Verdict). answer_of v 0) c.fault-then-gates-gt-STAGE_GATES.ensures ∙ ap (λ (g : ℕ). answer_of (verdict 26 2 g 0) 0) n)
    (told_26 c.args.sizes code c.args.buffer.now found (omega (arith, n, c.if-gates-gt-STAGE_GATES.true))) (omega arith)

pub returns-then-buffer-count : goal.returns-then-buffer-count
returns-then-buffer-count c =
    let code = c.args.reference.now in
    let n = needed_is c.args.sizes code c.requires.1 _ c.operation_count-gates.ensures.0 in
    let found = sym c.in_default.is ∙ c.leading_nowhere.ensures in
    refused_as c.args.sizes code c.args.buffer.now _ _
    (c.refused-then-buffer-count.ensures ∙ ap (λ (v : Verdict). answer_of v 0) c.fault-then-buffer-count.ensures)
    (told_27 c.args.sizes code c.args.buffer.now found (omega (arith, n, c.if-gates-gt-STAGE_GATES.false)) (omega (arith, n, c.if-buffer-count.true, made_long c.args.sizes code)))
    (omega arith)

pub put_stage-requires : goal.put_stage-requires
put_stage-requires c =
    let n = needed_is c.args.sizes c.args.reference.now c.requires.1 _ c.operation_count-gates.ensures.0 in
    let long = made_long c.args.sizes c.args.reference.now in
    (c.requires.0, c.requires.1, omega (arith, n, c.if-gates-gt-STAGE_GATES.false), omega (arith, n, c.if-buffer-count.false, long))

pub returns : goal.returns
returns c =
    let code = c.args.reference.now in
    let n = needed_is c.args.sizes code c.requires.1 _ c.operation_count-gates.ensures.0 in
    let long = made_long c.args.sizes code in
    let found = sym c.in_default.is ∙ c.leading_nowhere.ensures in
    let fits : length (bytes c.args.sizes code c.args.buffer.now) ≤ length c.args.buffer.now = omega (arith, n, long, c.if-buffer-count.false) in
    made_as c.args.sizes code c.args.buffer.now _ _ (c.wrote.ensures ∙ ap (answer_of accepted) (omega (arith, n, long))) c.put_stage.ensures fits
    (told_none c.args.sizes code c.args.buffer.now found (omega (arith, n, c.if-gates-gt-STAGE_GATES.false)) fits)
