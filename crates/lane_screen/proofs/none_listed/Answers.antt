-- `lane_screen::none_listed` meets its contract. Assumes nothing.
use Prim.Native.Nat.{ℕ}
use Rattle.std.proofs.Common.{rules, tests, arith}
use Rattle.std.specs.Bool.{⊤}
use Rattle.std.proofs.lemmas.Iterator.{YieldsList-from_range, cases_from_all}
use Rattle.circuit.specs.Stage.{care_in}
use Rattle.lane_screen.specs.Suspects.{Unnamed}
use Rattle.lane_screen.proofs.Below.{Below, all_below}
use Rattle.lane_screen.proofs.none_listed.Goals as goal

pub returns : goal.returns
returns c =
    let n = c.args.counts.care in
    let Yes : ℕ → Type 0 = λ k. Unnamed c.args.mask.now (care_in c.args.counts c.args.code.now k) in
    let No : ℕ → Type 0 = λ k. ⊤ in
    let told : Below Yes No n c.all.result =
    cases_from_all _ _ _ Yes No c.all.ensures.ran (YieldsList-from_range 0 n n (cc) (omega arith)) (λ x q k. search (rules, tests)) (λ x q k. tt) in
    all_below Yes No n _ told
