-- `words::is_marked` meets its contract. Assumes nothing.
use Prim.Native.Nat.{ℕ, ◌*◌, ◌%◌, ◌^◌}
use native.Mathlib.Omega.{arith}
use mathlib.Core.Path.{◌≡◌, ap, ◌∙◌}
use lib.Dec.{ltb}
use Rattle.words.proofs.Membership.{few_words, of_all_holds, of_care}
use Rattle.words.proofs.is_marked.Goals as goal

-- src/lib.rt:93:9
pub returns-then-counts-eq0 : goal.returns-then-counts-eq0
returns-then-counts-eq0 c =
    let n = c.args.counts.inputs in
    let e : 1 * 2 ^ n % 2 ^ 64 ≡ 2 ^ n = omega (arith, few_words n c.requires.0.within.inputs_in) in
    ap (λ (m : ℕ). ltb c.args.w m) e ∙ of_all_holds c.args.counts c.args.code.now c.args.w c.if-counts-eq0.true

-- src/lib.rt:88:1
pub returns : goal.returns
returns c =
    of_care c.args.counts c.args.code.now c.args.w c.if-counts-eq0.false _
    (c.requires.1 c.args.w c.requires.2)
