-- `check_words::sweep_check` meets its contract: a check whose mask names none of the words finds nothing. Assumes nothing.
use Rattle.circuit.specs.Stage.{stage_in}
use Rattle.circuit.specs.Reference.{reference_in}
use Rattle.check_words.proofs.Sweeping.{none_worth}
use Rattle.check_words.proofs.sweep_check.Goals as goal

pub returns-then-none_named : goal.returns-then-none_named
returns-then-none_named c =
    let s = stage_in c.args.counts c.args.code.now in
    let r = reference_in c.args.sizes c.args.reference.now in
    none_worth c.args.which c.args.order s r _ c.requires.2 (c.none_named.ensures c.if-none_named.true)
