-- `check_words::nothing_named` meets its contract. Assumes nothing.
use Rattle.circuit.specs.Stage.{stage_in}
use Rattle.check_words.proofs.Sweeping.{rises_pass, falls_pass, then_fall, no_fall}
use Rattle.check_words.proofs.nothing_named.Goals as goal

pub returns-then-all_hold : goal.returns-then-all_hold
returns-then-all_hold c e order r few clean =
    let s = stage_in c.args.counts c.args.code.now in
    no_fall order c.args.counts c.args.code.now c.requires.0 c.requires.1 (c.all_hold.ensures.0 c.if-all_hold.true) r few
    (rises_pass order s r c.args.masks clean
    (c.none_named.ensures c.if-none_named.true)
    (c.none_named-then-none_named.ensures c.if-none_named-2.true))

pub returns-then-none_named-3 : goal.returns-then-none_named-3
returns-then-none_named-3 c e order r few clean =
    let s = stage_in c.args.counts c.args.code.now in
    then_fall order s r (rises_pass order s r c.args.masks clean
    (c.none_named.ensures
    c.if-none_named.true)
    (c.none_named-then-none_named.ensures c.if-none_named-2.true))
    (falls_pass order s r c.args.masks clean (c.none_named-then-none_named-2.ensures c.if-none_named-3.true))
