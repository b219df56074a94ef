-- Quotient and remainder as two digits of a number: the greater quotient decides, then the remainder.
-- Assumes nothing.
use Prim.Native.Nat.{ℕ, zero, suc, ◌+◌, ◌*◌, ◌/◌, ◌%◌, ◌≤◌, ◌<◌}
use native.Mathlib.Omega.{arith}
use native.Mathlib.Nat.{div-add-mod', div-lt_iff_lt-mul, mod-lt, mul-add-div_right, mul-add-mod_self_right, div-eq_of_lt, mod-eq_of_lt}
use native.Mathlib.Nat.{mul-le-mul, mul-le-mul_right}
use native.Mathlib.Decide.{dec_lt, ℕ_discrete}
use mathlib.Core.Path.{◌≡◌, ap, ◌∙◌}
use mathlib.Core.Logic.{◌⊎◌, inl, inr}
use Rattle.next_spec.specs.Numbered.{lists}

module _ (k : ℕ) (some : 1 ≤ k) where
  pub quotient_low : (z b : ℕ) → z < b * k → z / k < b
  quotient_low z b l = (div-lt_iff_lt-mul some).1 l

  pub digits_back : (a b : ℕ) → b < k → ((a * k + b) / k ≡ a) × ((a * k + b) % k ≡ b)
  digits_back a b l =
      let q : b / k ≡ 0 = div-eq_of_lt l in
      let e : (a * k + b) / k ≡ a + b / k = mul-add-div_right some a b in
      (omega arith, mul-add-mod_self_right a k b ∙ mod-eq_of_lt l)

  pub digits_low : (a b c : ℕ) → a < c → b < k → a * k + b < c * k
  digits_low a b c l m = let h : suc a * k ≤ c * k = mul-le-mul_right k l in omega arith

  pub digits_less : (y z : ℕ) → y < z → (y / k < z / k) ⊎ ((y / k ≡ z / k) × (y % k < z % k))
  digits_less y z l = go (dec_lt (y / k) (z / k)) (ℕ_discrete (y / k) (z / k))
    where
      a : y / k * k + y % k ≡ y
      a = div-add-mod' y k

      b : z / k * k + z % k ≡ z
      b = div-add-mod' z k

      go : Dec (y / k < z / k) → Dec (y / k ≡ z / k) → (y / k < z / k) ⊎ ((y / k ≡ z / k) × (y % k < z % k))
      go (yes p) e = inl p
      go (no p) (yes e) = inr (e, let h : y / k * k ≡ z / k * k = ap (λ (q : ℕ). q * k) e in omega (arith, a, b))
      go (no p) (no e) =
          let q : z / k < y / k = omega arith in
          let h : suc (z / k) * k ≤ y / k * k = mul-le-mul_right k q in
          let r : z % k < k = mod-lt z some in
          absurd (omega (arith, a, b))

-- there is a gate, and a list of gates, over one net or more
module _ (m : ℕ) (some : 1 ≤ m) where
  pub square : 1 ≤ m * m
  square = mul-le-mul some some

  pub lists_some : (g : ℕ) → 1 ≤ lists m g
  unfolding lists
  lists_some zero = omega arith
  lists_some (suc g) = let h : 1 * 1 ≤ m * m * lists m g = mul-le-mul square (lists_some g) in omega arith

pub apart : (x y : ℕ) → x ≤ y → (x ≡ y) ⊎ (suc x ≤ y)
apart x y l = go (ℕ_discrete x y)
  where
    go : Dec (x ≡ y) → (x ≡ y) ⊎ (suc x ≤ y)
    go (yes e) = inl e
    go (no e) = inr (omega arith)
