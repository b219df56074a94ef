-- `call_join::uncared_named` meets its contract. The loop's invariant: nothing is found under the names before name k. Assumes nothing.
use Prim.Native.Nat.{◌-◌, ◌^◌, ◌<◌}
use native.Mathlib.Omega.{arith}
use mathlib.Core.Path.{refl, sym, subst}
use lib.ListN.{get_or}
use Rattle.verdict.specs.Words.{spelled}
use Rattle.verdict.proofs.Names.{spelled_below}
use Rattle.lane_screen.specs.Suspects.{Unnamed}
use Rattle.check_words.proofs.Sweeping.{swept_start, swept_on, swept_here, swept_none}
use Rattle.call_join.specs.Steps.{uncared_under}
use Rattle.call_join.proofs.Answers.{cared_under, uncared_under_holds}
use Rattle.call_join.proofs.Masks.{unnamed_cared, named_uncared}
use Rattle.call_join.proofs.uncared_named.Goals as goal

pub loop-name-init : goal.loop-name-init
loop-name-init c = λ function second n. swept_start _ _ _ _

pub word_of-w-requires : goal.word_of-w-requires
word_of-w-requires c = c.requires.0

pub returns-then-is_named : goal.returns-then-is_named
returns-then-is_named c =
    let name = get_or c.args.list.now c.loop-name.name-index 0 in
    let w = spelled c.args.order c.args.inputs name in
    let below : w < 2 ^ c.args.inputs = spelled_below c.args.order c.args.inputs name (c.requires.1 c.loop-name.name-index (omega arith)) in
    λ function second n.
    swept_here 23 0 (uncared_under c.args.order c.args.inputs function second) c.args.list.now c.loop-name.name-index (omega arith)
    (c.loop-name.invariant function second n) 0 _ refl
    (uncared_under_holds c.args.order c.args.inputs function second name
    (named_uncared c.args.inputs function second c.args.masks.now n w below c.is_named.result c.if-is_named.true
    (λ u. c.is_named.ensures.1 (subst (Unnamed c.args.masks.now) (sym c.word_of-w.ensures) u))))

pub loop-name-preserved : goal.loop-name-preserved
loop-name-preserved c =
    let name = get_or c.args.list.now c.loop-name.name-index 0 in
    let w = spelled c.args.order c.args.inputs name in
    let below : w < 2 ^ c.args.inputs = spelled_below c.args.order c.args.inputs name (c.requires.1 c.loop-name.name-index (omega arith)) in
    λ function second n.
    swept_on 23 0 (uncared_under c.args.order c.args.inputs function second) c.args.list.now c.loop-name.name-index (omega arith)
    (c.loop-name.invariant function second n)
    (cared_under c.args.order c.args.inputs function second name
    (unnamed_cared c.args.inputs function second c.args.masks.now n w below
    (subst (Unnamed c.args.masks.now) c.word_of-w.ensures (c.is_named.ensures.0 c.if-is_named.false))))

pub returns : goal.returns
returns c = λ function second n. swept_none _ _ _ _ c.loop-name.name-index (omega arith) (c.loop-name.invariant function second n)
