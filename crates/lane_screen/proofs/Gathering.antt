-- Masks that gather, word by word, where something fails: a word that is in none of their parts passes everything.
-- Assumes nothing.
use Prim.Native.Nat.{ℕ, ◌+◌, ◌<◌}
use native.Mathlib.Omega.{arith}
use native.Mathlib.Decide.{ℕ_discrete}
use mathlib.Core.Path.{◌≡◌, refl, sym, ap, ◌∙◌}
use mathlib.Core.Bool.{Bool, true, false, not, ◌&&◌, ◌||◌}
use lib.Bits.{bit_and, bit_or, bit_xor}
use Rattle.runs.proofs.Test.{clash}
use Rattle.lane_cells.specs.Lane.{lane}
use Rattle.lane_cells.proofs.Lane.{lane_and, lane_or, unlike, lane_xor}
use Rattle.lane_cells.proofs.Blocks.{lane_not}

pub neither : (j a b : ℕ) → lane j (bit_or a b) ≡ false → (lane j a ≡ false) × (lane j b ≡ false)
neither j a b e = go (lane j a) (lane j b) (sym (lane_or j a b) ∙ e)
  where
    go : (x y : Bool) → (x || y) ≡ false → (x ≡ false) × (y ≡ false)
    go true y z = absurd (clash refl z)
    go false y z = (refl, z)

-- a test of each number below a bound, gathered in a mask
abbrev pub GatheredTo : (ℕ → ℕ → Type 0) → ℕ → ℕ → Type 0
GatheredTo Passes words n = (j : ℕ) → j < 64 → lane j words ≡ false → (i : ℕ) → i < n → Passes j i

pub gathered_more : (Passes : ℕ → ℕ → Type 0) (words n x : ℕ) → GatheredTo Passes words n → ((j : ℕ) → j < 64 → lane j x ≡ false → Passes j n) → GatheredTo Passes (bit_or words x) (n + 1)
gathered_more Passes words n x g h j d e i l = go (ℕ_discrete i n)
  where
    go : Dec (i ≡ n) → Passes j i
    go (yes q) = rw q (h j d (neither j words x e).1)
    go (no q) = g j d (neither j words x e).0 i (omega arith)

-- a level that is not marked
pub not_unmarked : (j level mark : ℕ) → lane j (bit_and level (bit_xor level mark)) ≡ false → lane j level ≡ true → lane j mark ≡ true
not_unmarked j level mark e u = go (lane j level) (lane j mark) (sym (lane_and j level (bit_xor level mark) ∙ ap (λ (b : Bool). lane j level && b) (lane_xor j level mark)) ∙ e) u
  where
    go : (x y : Bool) → (x && unlike x y) ≡ false → x ≡ true → y ≡ true
    go true true z v = refl
    go true false z v = absurd (clash refl z)
    go false y z v = absurd (clash v refl)

-- two rails that read as a value: rail 1 has it, and rail 0 the other level
pub read_as : (j rail0 rail1 value : ℕ) → j < 64 → lane j (bit_or (bit_xor (bit_xor rail0 value) 0xFFFF_FFFF_FFFF_FFFF) (bit_xor rail1 value)) ≡ false
    → (lane j rail0 ≡ not (lane j value)) × (lane j rail1 ≡ lane j value)
read_as j rail0 rail1 value d e =
    let n = neither j (bit_xor (bit_xor rail0 value) 0xFFFF_FFFF_FFFF_FFFF) (bit_xor rail1 value) e in (
      unlike_of (lane j rail0) (lane j value) (sym (lane_not j (bit_xor rail0 value) d ∙ ap not (lane_xor j rail0 value)) ∙ n.0),
      like_of (lane j rail1) (lane j value) (sym (lane_xor j rail1 value) ∙ n.1),
    )
  where
    unlike_of : (x y : Bool) → not (unlike x y) ≡ false → x ≡ not y
    unlike_of true true z = absurd (clash refl z)
    unlike_of true false z = refl
    unlike_of false true z = refl
    unlike_of false false z = absurd (clash refl z)

    like_of : (x y : Bool) → unlike x y ≡ false → x ≡ y
    like_of true true z = refl
    like_of true false z = absurd (clash refl z)
    like_of false true z = absurd (clash refl z)
    like_of false false z = refl
