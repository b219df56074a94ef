-- `words::list_names` meets its contract. The loop's invariant: the names before the next one are looked at, and those of words are listed.
-- Assumes nothing.
use Prim.Native.Nat.{ℕ}
use native.Mathlib.Omega.{arith}
use mathlib.Core.Path.{◌≡◌, sym, ap, ◌∙◌}
use Rattle.verdict.specs.Words.{words, is_in}
use Rattle.circuit.specs.Stage.{stage_in}
use Rattle.words.proofs.Membership.{few_words}
use Rattle.words.proofs.Marking.{none_marked}
use Rattle.verdict.proofs.Names.{spelled_below}
use Rattle.words.proofs.Listing.{list_start, list_long, list_hit, list_miss, list_done, spells_word, names_are}
use Rattle.words.proofs.list_names.Goals as goal
use Rattle.words.proofs.list_names.Goals.{then-is_marked, else-is_marked}

pub mark_care-requires : goal.mark_care-requires
mark_care-requires c =
    (c.requires.0, none_marked 1024)

pub loop-name-init : goal.loop-name-init
loop-name-init c =
    list_start _ _ _ _ (names_are c.args.order (stage_in c.args.counts c.args.code.now))

pub is_marked-requires : goal.is_marked-requires
is_marked-requires c =
    let few = few_words c.args.counts.inputs c.requires.0.within.inputs_in in (
      c.requires.0,
      c.mark_care.ensures.0,
      omega (
        arith,
        few,
        c.mark_care.ensures.1,
        c.word_of-w.ensures,
        spelled_below c.args.order c.args.counts.inputs c.loop-name.name (omega (arith, few, c.loop-name-test.true)),
      ),
    )

pub bounds-list-count : goal.bounds-list-count
bounds-list-count c =
    let l = c.loop-name in
    omega (arith, few_words c.args.counts.inputs c.requires.0.within.inputs_in, c.requires.1, l.invariant.few, c.loop-name-test.true, list_long _ _ _ _ _ _ _ l.invariant (omega (arith, few_words c.args.counts.inputs c.requires.0.within.inputs_in, c.requires.1, l.invariant.few, c.loop-name-test.true)))

pub loop-name-preserved : goal.loop-name-preserved
loop-name-preserved c =
    let l = c.loop-name in
    let s = stage_in c.args.counts c.args.code.now in
    let few = few_words c.args.counts.inputs c.requires.0.within.inputs_in in
    let h = c.loop-name-test.true in
    let is : spells_word c.args.order s l.name ≡ c.is_marked.result =
    ap (λ (w : ℕ). is_in w (words s)) (sym c.word_of-w.ensures) ∙ sym c.is_marked.ensures in
    elim c.if-is_marked.branch [
      | then-is_marked w ↦ rw (w.list-is, w.count-is) (list_hit _ _ _ _ _ _ _ l.invariant (omega (arith, few, h)) (omega (arith, few, c.requires.1)) (is ∙ w.if-is_marked.true))
      | else-is_marked w ↦ rw (w.list-is, w.count-is) (list_miss _ _ _ _ _ _ _ l.invariant (omega (arith, few, h)) (is ∙ w.if-is_marked.false))
    ]

pub returns : goal.returns
returns c =
    let l = c.loop-name in list_done _ _ _ _ _ _ _ l.invariant (omega (arith, few_words c.args.counts.inputs c.requires.0.within.inputs_in, c.loop-name-test.false))
