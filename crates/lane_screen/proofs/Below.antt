-- What `all` says where it goes over the numbers below a bound.
-- Assumes nothing.
use Prim.Native.Nat.{ℕ, ◌<◌}
use native.Mathlib.Omega.{arith}
use mathlib.Core.Path.{◌≡◌, refl, subst}
use mathlib.Core.Bool.{Bool, true, false}
use lib.ListN.{length, get_or}
use Rattle.std.specs.Bool.{MatchBool}
use Rattle.std.specs.List.{range_with_len, AllWithin, HoldsAt}
use Rattle.std.proofs.lemmas.List.FromFn.{length-range_with_len, get_or-range_with_len}

abbrev pub Below : (ℕ → Type 0) → (ℕ → Type 0) → ℕ → Bool → Type 0
Below P Q n r = MatchBool r (AllWithin P (range_with_len 0 n) 0 (length (range_with_len 0 n))) ((k : ℕ) × (k < length (range_with_len 0 n)) × HoldsAt Q (range_with_len 0 n) k)

item : (n k : ℕ) → k < n → get_or (range_with_len 0 n) k 0 ≡ k
item n k h = rw (get_or-range_with_len 0 n k 0 h) (omega arith)

module _ (P Q : ℕ → Type 0) (n : ℕ) where
  -- each of them passes where it says so
  pub all_below : (r : Bool) → Below P Q n r → r ≡ true → (k : ℕ) → k < n → P k
  all_below true m e k h = subst P (item n k h) (m k 0 (omega arith) (omega (arith, length-range_with_len 0 n)))
  all_below false m e k h = cc

  -- and it says so where none of them fails
  pub none_below : (r : Bool) → Below P Q n r → ((k : ℕ) → k < n → Q k → ⊥) → r ≡ true
  none_below true m fails = refl
  none_below false m fails = absurd (go m)
    where
      go : Below P Q n false → ⊥
      go m = let h : m.0 < n = omega (arith, m.1, length-range_with_len 0 n) in fails m.0 h (subst Q (item n m.0 h) (m.2 0))
