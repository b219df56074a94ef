-- `lane_cells::input_lanes` meets its contract: each of the six patterns is computed at all 64 words. Assumes nothing.
use Prim.Native.Nat.{ℕ, ◌+◌, ◌-◌, ◌*◌, ◌≤◌, ◌<◌}
use native.Mathlib.Omega.{arith}
use lib.Dec.{lit<}
use mathlib.Core.Path.{◌≡◌, sym, ap, ◌∙◌}
use Rattle.lane_cells.specs.Lane.{level_in}
use Rattle.lane_cells.proofs.Lane.{level_zero}
use Rattle.lane_cells.proofs.Blocks.{Pattern, pattern_at, high_bit, all-at}
use Rattle.lane_cells.proofs.input_lanes.Goals as goal

-- input i, known to be input k, whose pattern is x
known : (k i x b : ℕ) → i ≡ k → k < 6 → Pattern k x → (j : ℕ) → j < 64 → level_in j x ≡ level_in i (64 * b + j)
known k i x b e h t j d = pattern_at k x b h t j d ∙ ap (λ (n : ℕ). level_in n (64 * b + j)) (sym e)

shift : (i : ℕ) → i < 10 → i - 6 < 64
shift i h = omega arith

pub overflow_shr-q : goal.overflow_shr-q
overflow_shr-q c = shift c.args.i c.requires

pub returns-then-q-eq1 : goal.returns-then-q-eq1
unfolding level_in
returns-then-q-eq1 c j h =
    let a = c.args in
    let six : 6 ≤ a.i = omega arith in
    all-at j h ∙ sym (high_bit a.i a.b j six h ∙ c.if-q-eq1.true)

pub returns-in-0 : goal.returns-in-0
unfolding level_in
returns-in-0 c = known 0 _ _ _ c.in-0.is (lit< tt) tt

pub returns-in-1 : goal.returns-in-1
unfolding level_in
returns-in-1 c = known 1 _ _ _ c.in-1.is (lit< tt) tt

pub returns-in-2 : goal.returns-in-2
unfolding level_in
returns-in-2 c = known 2 _ _ _ c.in-2.is (lit< tt) tt

pub returns-in-3 : goal.returns-in-3
unfolding level_in
returns-in-3 c = known 3 _ _ _ c.in-3.is (lit< tt) tt

pub returns-in-4 : goal.returns-in-4
unfolding level_in
returns-in-4 c = known 4 _ _ _ c.in-4.is (lit< tt) tt

pub returns-in-5 : goal.returns-in-5
unfolding level_in
returns-in-5 c = known 5 _ _ _ c.in-5.is (lit< tt) tt

pub returns-else-q-eq1 : goal.returns-else-q-eq1
unfolding level_in
returns-else-q-eq1 c j h =
    let a = c.args in
    let six : 6 ≤ a.i = omega arith in
    let low : level_in (a.i - 6) a.b ≡ 0 = omega (arith, c.if-q-eq1.false) in
    level_zero j ∙ sym (high_bit a.i a.b j six h ∙ low)
