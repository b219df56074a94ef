-- `call_join::uncared_words` meets its contract. The loop's invariant: those of the words before word j are named. Assumes nothing.
use Prim.Native.Nat.{ℕ, ◌-◌}
use native.Mathlib.Omega.{arith}
use mathlib.Core.Path.{◌≡◌, sym, ap, ◌∙◌}
use mathlib.Core.Bool.{not}
use Rattle.verdict.specs.Words.{words, is_in}
use Rattle.circuit.specs.Stage.{stage_in}
use Rattle.call_join.specs.Steps.{answer_in}
use Rattle.call_join.proofs.Answers.{answer_below}
use Rattle.call_join.proofs.Masks.{words_start, words_left, words_put}
use Rattle.call_join.proofs.uncared_words.Goals as goal

pub loop-j-init : goal.loop-j-init
loop-j-init c = words_start _

pub word_answered-answer-requires : goal.word_answered-answer-requires
word_answered-answer-requires c = (c.requires.0, c.requires.1, omega arith)

pub is_marked-requires : goal.is_marked-requires
is_marked-requires c =
    let l = c.loop-j in
    let below = answer_below c.args.sizes1 c.args.reference1.now c.args.values.now l.j in
    (c.requires.2, c.requires.3, omega (arith, c.word_answered-answer.ensures, below, c.requires.4))

pub loop-j-preserved-then-is_marked : goal.loop-j-preserved-then-is_marked
loop-j-preserved-then-is_marked c =
    let l = c.loop-j in
    let t = stage_in c.args.counts2 c.args.code2.now in
    let is : is_in (answer_in c.args.sizes1 c.args.reference1.now c.args.values.now l.j) (words t) ≡ c.is_marked.result =
    ap (λ (w : ℕ). is_in w (words t)) (sym c.word_answered-answer.ensures) ∙ sym c.is_marked.ensures in
    words_left _ _ _ l.invariant (omega arith) (ap not (is ∙ c.if-is_marked.true))

pub loop-j-preserved : goal.loop-j-preserved
loop-j-preserved c =
    let l = c.loop-j in
    let t = stage_in c.args.counts2 c.args.code2.now in
    let is : is_in (answer_in c.args.sizes1 c.args.reference1.now c.args.values.now l.j) (words t) ≡ c.is_marked.result =
    ap (λ (w : ℕ). is_in w (words t)) (sym c.word_answered-answer.ensures) ∙ sym c.is_marked.ensures in
    words_put _ _ _ l.invariant (omega arith) (ap not (is ∙ c.if-is_marked.false))

pub returns : goal.returns
returns c = λ j d. c.loop-j.invariant.before j (omega arith)
