-- `lane_screen::is_named` meets its contract. Assumes nothing.
use Prim.Native.Nat.{ℕ, ◌%◌}
use mathlib.Core.Path.{ap, sym, ◌∙◌}
use Rattle.lane_cells.specs.Lane.{level_in, lane}
use Rattle.lane_screen.proofs.is_named.Goals as goal

pub returns-in-Some : goal.returns-in-Some
unfolding level_in
returns-in-Some c =
    let there = c.in-Some.ensures.lookup.3 in
    let same = ap (λ (x : ℕ). lane (c.args.w % 64) x) (there.1 0) in
    (λ e. record { inside = there.0; clear = sym same ∙ e }, λ u. same ∙ u.clear)
