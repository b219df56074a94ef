-- `lane_screen::all_hold` meets its contract. Assumes nothing.
use Prim.Native.Nat.{ℕ}
use Rattle.std.proofs.Common.{rules, tests, arith}
use mathlib.Core.Path.{◌≡◌}
use mathlib.Core.Bool.{true, false}
use Rattle.std.proofs.lemmas.Iterator.{YieldsList-from_range, cases_from_all}
use Rattle.runs.proofs.Test.{clash}
use Rattle.circuit.specs.Stage.{gate_in}
use Rattle.lane_screen.proofs.Hold.{hold_all, all_hold}
use Rattle.lane_screen.proofs.Below.{Below, all_below, none_below}
use Rattle.lane_screen.proofs.all_hold.Goals as goal

pub returns : goal.returns
returns c =
    let code = c.args.code.now in
    let n = c.args.counts.gates in
    let Yes : ℕ → Type 0 = λ k. (gate_in code k).hold ≡ true in
    let No : ℕ → Type 0 = λ k. (gate_in code k).hold ≡ false in
    let told : Below Yes No n c.all.result =
    cases_from_all _ _ _ Yes No c.all.ensures.ran (YieldsList-from_range 0 n n (cc) (omega arith)) (λ x q k. search (rules, tests)) (λ x q k. search (rules, tests)) in (
      λ e. hold_all c.args.counts code (all_below Yes No n _ told e),
      λ all. none_below Yes No n _ told (λ k h off. clash (all_hold c.args.counts code all k h) off),
    )
