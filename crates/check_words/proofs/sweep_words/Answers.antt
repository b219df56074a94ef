-- `check_words::sweep_words` meets its contract. The loop's invariant: nothing is found under the names before place `from`, nor in a word that what is left
-- of the mask does not name. Assumes nothing.
use Prim.Native.Nat.{◌<◌}
use native.Mathlib.Omega.{arith}
use mathlib.Core.Path.{◌≡◌, refl, sym, ap, ◌∙◌}
use lib.ListN.{length, get_or}
use borrow.Author.Rules.{rules}
use Rattle.verdict.specs.Words.{names}
use Rattle.circuit.specs.Stage.{stage_in}
use Rattle.circuit.specs.Reference.{reference_in}
use Rattle.check_word.specs.Finds.{finds}
use Rattle.check_words.proofs.Sweeping.{swept_start, swept_on, swept_unnamed, swept_here, swept_none, finds_under, swept_words, as_many, word_at, name_at_holds}
use Rattle.check_words.proofs.sweep_words.Goals as goal

pub loop-k-init : goal.loop-k-init
loop-k-init c = (swept_start _ _ _ _, c.requires.2, search rules, refl, omega arith)

pub returns-in-Some-find_suspect : goal.returns-in-Some-find_suspect
returns-in-Some-find_suspect c =
    let found = c.find_suspect in
    let next = c.in-Some.ensures in
    let s = stage_in c.args.counts c.args.code.now in
    let r = reference_in c.args.sizes c.args.reference.now in
    let find = finds_under c.args.which c.args.order s r in
    let list = c.args.list.now in
    let k = c.in-Some.k in
    let h : k < length list = next.1 in
    let under : find (get_or (names c.args.order s) k 0) ≡ found.result =
    ap (finds c.args.which s r) (sym (word_at c.args.order s list c.requires.1 k h)) ∙ sym found.ensures.found in
    let past = swept_unnamed c.args.which c.args.order s r list c.requires.1 c.loop-k.left c.loop-k.invariant.1 _ c.loop-k.from k next.0 (omega arith) next.2
    c.loop-k.invariant.0 in
    swept_words c.args.which c.args.order s r _ _ c.number_of-number.ensures
    (swept_here _ _ find _ k (omega (arith, h, as_many c.args.order s list c.requires.1)) past _ _
    (c.word_of-name.ensures ∙ name_at_holds c.args.order s list c.requires.1 k h) (under ∙ c.in-Some-find_suspect.is))

pub loop-k-preserved : goal.loop-k-preserved
loop-k-preserved c =
    let found = c.find_suspect in
    let next = c.in-Some.ensures in
    let s = stage_in c.args.counts c.args.code.now in
    let r = reference_in c.args.sizes c.args.reference.now in
    let find = finds_under c.args.which c.args.order s r in
    let list = c.args.list.now in
    let k = c.in-Some.k in
    let h : k < length list = next.1 in
    let under : find (get_or (names c.args.order s) k 0) ≡ found.result =
    ap (finds c.args.which s r) (sym (word_at c.args.order s list c.requires.1 k h)) ∙ sym found.ensures.found in
    let past = swept_unnamed c.args.which c.args.order s r list c.requires.1 c.loop-k.left c.loop-k.invariant.1 _ c.loop-k.from k next.0 (omega arith) next.2
    c.loop-k.invariant.0 in (
      swept_on _ _ find _ k (omega (arith, h, as_many c.args.order s list c.requires.1)) past (under ∙ c.in_default-find_suspect.is),
      found.ensures.clean,
      found.ensures.long.0 ∙ c.loop-k.invariant.2,
      found.ensures.long.1 ∙ c.loop-k.invariant.3,
      omega (arith, h),
    )

pub returns : goal.returns
returns c =
    let s = stage_in c.args.counts c.args.code.now in
    let r = reference_in c.args.sizes c.args.reference.now in
    let list = c.args.list.now in
    let past = swept_unnamed c.args.which c.args.order s r list c.requires.1 c.loop-k.left c.loop-k.invariant.1 _ c.loop-k.from (length list) c.loop-k.invariant.4
    (omega arith) c.in_default.ensures c.loop-k.invariant.0 in
    swept_words c.args.which c.args.order s r _ _ c.number_of-number.ensures
    (swept_none _ _ (finds_under c.args.which c.args.order s r) _ (length list) (omega (arith, as_many c.args.order s list c.requires.1)) past)
