-- The number that the bytes of a file show is that of the file's stage.
-- Assumes nothing.
use Prim.Native.Nat.{ℕ, zero, suc, ◌+◌, ◌*◌, ◌-◌, ◌/◌, ◌%◌, ◌≤◌, ◌<◌}
use native.Mathlib.Omega.{arith}
use native.Mathlib.Nat.{mod-lt, div-add-mod'}
use mathlib.Core.Path.{◌≡◌, refl, ap, ◌∙◌}
use mathlib.Core.List.{List, ◌∷◌}
use lib.ListN.{get_or}
use Rattle.next_spec.specs.Family.{file_of}
use Rattle.next_spec.specs.Numbered.{nets_of, stages, lists, stage_numbered}
use Rattle.next_spec.proofs.Bytes.{list_bytes, output_bytes}
use Rattle.next_spec.specs.Listing.{InShape}
use Rattle.call_next.specs.Steps.{gate_at, gates_at, number_in}
use Rattle.next_spec.proofs.Digits.{quotient_low, square}
use Rattle.next_spec.proofs.Less.{stage_bytes}
use Rattle.call_next.proofs.Stores.{list_one, list_two}
use Rattle.next_spec.proofs.Members.{nets_some}

-- ---- as the code computes it

module _ (s : List ℕ) (m at k a b : ℕ) (e : k ≡ get_or s (at + 1) 0) (f : a ≡ get_or s (at + 2) 0) (g : b ≡ get_or s (at + 4) 0) where
  pub gate_zero : k ≡ 0 → a * m + b ≡ gate_at s m at
  gate_zero z = let h : 0 - 1 ≡ 0 = omega arith in rw (← e, ← f, ← g, z, h) (omega arith)

  pub gate_some : (q : ℕ) → q ≡ m * m → (k - 1) * q + (a * m + b) ≡ gate_at s m at
  gate_some q h = rw (← e, ← f, ← g, h)

module _ (s : List ℕ) (m g : ℕ) where
  pub shown_none : g ≡ 0 → 0 ≡ gates_at s m g
  unfolding gates_at
  shown_none e = rw e

  pub shown_one : g ≡ 1 → (x : ℕ) → x ≡ gate_at s m 2 → x ≡ gates_at s m g
  unfolding gates_at
  shown_one e x h = rw e h

  pub shown_two : g ≡ 2 → (x y q : ℕ) → x ≡ gate_at s m 2 → y ≡ gate_at s m 12 → q ≡ m * m → x * (2 * q) + y ≡ gates_at s m g
  unfolding gates_at
  shown_two e x y q h i j = rw (e, h, i, j)

  pub shown : (x a b q : ℕ) → x ≡ gates_at s m g → a ≡ get_or s (3 + 10 * g) 0 → b ≡ get_or s (5 + 10 * g) 0 → q ≡ m * m → x * q + (a * m + b) ≡ number_in s m g
  unfolding number_in
  shown x a b q h i j e = rw (h, i, j, e)

-- ---- in a file of the family

module _ (m : ℕ) (some : 1 ≤ m) (low : m ≤ 6) where
  two_shown : (y : ℕ) → y < m * m → y / m % 256 * m + y % m % 256 ≡ y
  two_shown y l =
      let q : y / m < m = quotient_low m some y m l in
      let r : y % m < m = mod-lt y some in
      let a : y / m % 256 ≡ y / m = omega arith in
      let b : y % m % 256 ≡ y % m = omega arith in
      rw (a, b) (div-add-mod' y m)

  gate-shown : (x : ℕ) → (1 + x / (m * m) - 1) * (m * m) + (x % (m * m) / m % 256 * m + x % (m * m) % m % 256) ≡ x
  gate-shown x =
      let a : 1 + x / (m * m) - 1 ≡ x / (m * m) = omega arith in
      rw (a, two_shown (x % (m * m)) (mod-lt x (square m some))) (div-add-mod' x (m * m))

  list_shown : (n g x y : ℕ) → g ≤ 2 → x < lists m g → y < m * m → number_in (1 ∷ n ∷ list_bytes m g x (output_bytes m y)) m g ≡ x * (m * m) + y
  unfolding number_in gates_at list_bytes lists
  list_shown n zero x y l b h = let e : x ≡ 0 = omega arith in rw (e, two_shown y h)
  list_shown n (suc zero) x y l b h =
      ap (λ (t : List ℕ). number_in (1 ∷ n ∷ t) m 1) (list_one m x (output_bytes m y)) ∙ rw (gate-shown x, two_shown y h)
  list_shown n (suc (suc zero)) x y l b h =
      let k = 2 * (m * m) in
      ap (λ (t : List ℕ). number_in (1 ∷ n ∷ t) m 2) (list_two m x k (output_bytes m y) refl)
      ∙ rw (gate-shown (x / k), gate-shown (x % k), two_shown y h, div-add-mod' x k)
  list_shown n (suc (suc (suc g))) x y l b h = absurd (omega arith)

module _ (n g z : ℕ) (shaped : InShape n g) (below : z < stages n g) where
  pub number_shown : number_in (file_of (stage_numbered n g z)) (nets_of n g) g ≡ z
  number_shown =
      let m = nets_of n g in
      let some : 1 ≤ m = nets_some n g shaped in
      let low : m ≤ 6 = omega (arith, shaped.inputs_in, shaped.gates_in_holds) in
      let k : 1 ≤ m * m = square m some in
      ap (λ (s : List ℕ). number_in s m g) (stage_bytes n g z)
      ∙ list_shown m some low n g (z / (m * m)) (z % (m * m)) shaped.gates_in_holds (quotient_low (m * m) k z (lists m g) below) (mod-lt z k) ∙
      div-add-mod' z (m * m)
