-- A mask from which words of one block are taken in which a check finds nothing.
-- Assumes nothing.
use Rattle.std.specs.Prelude.{None}
use Prim.Native.Nat.{ℕ, ◌+◌, ◌*◌, ◌/◌, ◌%◌, ◌<◌}
use native.Mathlib.Omega.{arith}
use mathlib.Core.Path.{◌≡◌, refl, sym, ◌∙◌}
use mathlib.Core.Bool.{Bool, true, false, ◌&&◌}
use mathlib.Core.Logic.{◌⊎◌, inl, inr}
use mathlib.Core.List.{List}
use lib.ListN.{length, get_or, set}
use lib.Bits.{bit_and}
use Rattle.netlist.specs.Content.{Stage, Reference}
use Rattle.check_word.specs.declared.Sweep.{Sweep}
use Rattle.check_word.specs.Finds.{finds}
use Rattle.lane_cells.specs.Lane.{lane}
use Rattle.lane_cells.proofs.Lane.{lane_and}
use Rattle.lane_screen.specs.Suspects.{CleanIn, Clean}
use Rattle.lane_screen.proofs.Naming.{clean_more}

one_false : (a b : Bool) → (a && b) ≡ false → (a ≡ false) ⊎ (b ≡ false)
one_false true b e = inr e
one_false false b e = inl refl

pub clean_narrowed : (which : Sweep) (s : Stage) (r : Reference) (mask : List ℕ) (b words : ℕ) → b < length mask → CleanIn which s r b words → Clean which s r mask
    → Clean which s r (set mask b (bit_and (get_or mask b 0) words))
clean_narrowed which s r mask b words h new ok = clean_more s r which mask b (bit_and (get_or mask b 0) words) ok
    (λ j d e. go j d (one_false (lane j (get_or mask b 0)) (lane j words) (sym (lane_and j (get_or mask b 0) words) ∙ e)))
  where
    go : (j : ℕ) → j < 64 → (lane j (get_or mask b 0) ≡ false) ⊎ (lane j words ≡ false) → finds which s r (64 * b + j) ≡ None
    go j d (inr e) = new j d e
    go j d (inl e) =
        let block : (64 * b + j) / 64 ≡ b = omega arith in
        let bit : (64 * b + j) % 64 ≡ j = omega arith in
        ok (64 * b + j) (record { inside = omega arith; clear = rw (block, bit) e })
