-- `lane_screen::none_of_all` meets its contract. Assumes nothing.
use Prim.Native.Nat.{ℕ, ◌^◌, ◌<◌, ◌≤◌}
use Rattle.std.proofs.Common.{rules, tests, arith}
use mathlib.Core.Path.{◌≡◌, sym, ◌∙◌}
use lib.ListN.{length, get_or, take}
use lib.Seq.{length-take-le, get_or-take}
use Rattle.std.specs.Bool.{⊤}
use Rattle.std.proofs.lemmas.Bool.{MatchBool-at_true}
use Rattle.std.proofs.lemmas.Iterator.{YieldsList-from_slice, cases_from_all}
use Rattle.lane_screen.proofs.Naming.{clear_unnamed}
use Rattle.lane_screen.proofs.none_of_all.Goals as goal

pub returns : goal.returns
returns c e w h =
    let count = c.block_count-count in
    let mask = c.args.mask.now in
    let n = count.result in
    let within : n ≤ length mask = omega arith in
    let told = cases_from_all _ _ c.all.result (λ (x : ℕ). x ≡ 0) (λ (x : ℕ). ⊤) c.all.ensures.ran (YieldsList-from_slice (take n mask) (grind arith))
    (λ x q k. search (rules, tests)) (λ x q k. tt) in
    let zeros : (k : ℕ) → k < n → get_or mask k 0 ≡ 0 =
    λ k d. sym (get_or-take n mask k 0 d) ∙ MatchBool-at_true _ _ e told k 0 (omega arith) (omega (arith, length-take-le n mask within)) in
    clear_unnamed mask n within zeros (2 ^ c.args.inputs) w h count.ensures.1
