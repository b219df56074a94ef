-- `check_word::find` meets its contract. Assumes nothing.
use Rattle.circuit.specs.Reference.{reference_in}
use Rattle.check_word.proofs.Found.{found_wrong, found_missing, found_unobserved, found_remaining, found_still_high}
use Rattle.check_word.proofs.find.Goals as goal

pub returns-in-Wrong : goal.returns-in-Wrong
returns-in-Wrong c =
    found_wrong c.args.counts c.args.code.now (reference_in c.args.sizes c.args.reference.now) c.args.w _ _
    c.wrong_output.ensures c.in-Wrong.is

pub returns-in-Missing : goal.returns-in-Missing
returns-in-Missing c =
    found_missing c.args.counts c.args.code.now (reference_in c.args.sizes c.args.reference.now) c.args.w _ _
    c.missing_input.ensures c.in-Missing.is

pub returns-in-Unobserved : goal.returns-in-Unobserved
returns-in-Unobserved c =
    found_unobserved c.args.counts c.args.code.now (reference_in c.args.sizes c.args.reference.now) c.args.w _ _
    c.unobserved_gate.ensures c.in-Unobserved.is

pub returns-in-Remaining : goal.returns-in-Remaining
returns-in-Remaining c =
    found_remaining c.args.counts c.args.code.now (reference_in c.args.sizes c.args.reference.now) c.args.w _ _ c.remaining_input.ensures c.in-Remaining.is

pub returns-in-StillHigh : goal.returns-in-StillHigh
returns-in-StillHigh c =
    found_still_high c.args.counts c.args.code.now (reference_in c.args.sizes c.args.reference.now) c.args.w _ _ c.still_high_gate.ensures c.in-StillHigh.is
