-- `lane_rise::listed_words` meets its contract. The loop's invariant: the masks name the words before word k, and no others. Assumes nothing.
use Prim.Native.Nat.{ℕ, ◌+◌, ◌*◌, ◌/◌, ◌%◌, ◌^◌, ◌≤◌, ◌<◌}
use native.Mathlib.Omega.{arith}
use mathlib.Core.Path.{◌≡◌, refl, sym, ap, subst, ◌∙◌}
use lib.ListN.{length-set}
use Rattle.circuit.specs.Stage.{care_in}
use Rattle.lane_rise.specs.Rising.{word_at, ListedIn}
use Rattle.lane_rise.proofs.Listing.{block_of, size_of, with_word, listed_start, listed_more}
use Rattle.lane_rise.proofs.listed_words.Goals as goal

-- a word stands in one of the blocks
inside : (n v : ℕ) → n ≤ 10 → v % (1 * 2 ^ n % 18446744073709551616) / 64 < 16
inside n v few = omega (arith, ap (λ (m : ℕ). v % m) (size_of n few), block_of n v few)

pub loop-k-init : goal.loop-k-init
loop-k-init c = (refl, listed_start _ _)

pub bounds-masks-w : goal.bounds-masks-w
bounds-masks-w c = inside c.args.counts.inputs c.care_of.result c.requires.within.inputs_in

pub bounds-masks-w-in-loop-k : goal.bounds-masks-w-in-loop-k
bounds-masks-w-in-loop-k c = inside c.args.counts.inputs c.care_of.result c.requires.within.inputs_in

pub loop-k-preserved : goal.loop-k-preserved
loop-k-preserved c =
    let l = c.loop-k in
    let n = c.args.counts.inputs in
    let v = c.care_of.result in
    let e : v % (1 * 2 ^ n % 18446744073709551616) ≡ word_at c.args.counts c.args.code.now l.k =
    ap (λ (m : ℕ). v % m) (size_of n c.requires.within.inputs_in) ∙ ap (λ (w : ℕ). w % 2 ^ n) c.care_of.ensures.is in (
      length-set l.masks (v % (1 * 2 ^ n % 18446744073709551616) / 64) _ ∙ l.invariant.0,
      subst (λ (w : ℕ). ListedIn c.args.counts c.args.code.now (l.k + 1) (with_word l.masks w)) (sym e)
          (listed_more c.args.counts c.args.code.now l.masks l.k l.invariant.1
          (omega (arith, block_of n (care_in c.args.counts c.args.code.now l.k) c.requires.within.inputs_in, l.invariant.0))),
    )
