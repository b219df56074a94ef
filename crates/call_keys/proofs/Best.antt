-- Looking for the net with the least key. Assumes nothing.
use Rattle.std.specs.Prelude.{Some, None}
use Prim.Native.Nat.{ℕ, ◌+◌, ◌≤◌, ◌<◌}
use native.Mathlib.Omega.{arith}
use native.Mathlib.Decide.{dec_lt, ℕ_discrete}
use mathlib.Core.Path.{◌≡◌, sym, ap, ◌∙◌, subst}
use mathlib.Core.Logic.{inl, inr, ⊎_elim}
use mathlib.Core.Bool.{Bool, true, false}
use Rattle.runs.proofs.Test.{clash}
use Rattle.run_spec.proofs.Played.{Before, NextIs}
use Rattle.call_keys.specs.Lists.{BestOf, Earlier}

module _ (test : ℕ → Bool) (key : ℕ → ℕ) (n : ℕ) where
  pub best_start : BestOf test key n 0 n
  best_start = record { within = omega arith; none = λ e i h. absurd (omega arith); some = λ l. absurd (omega arith) }

  module _ (m best : ℕ) (b : BestOf test key n m best) where
    pub best_past : test m ≡ false → BestOf test key n (m + 1) best
    best_past e = record {
      within = b.within;
      none = λ q i h. go i h (ℕ_discrete i m) (λ l. b.none q i l);
      some = λ l. let s = b.some l in (omega (arith, s.0), s.1, λ i h t. still i h t (ℕ_discrete i m) s.2);
    }
      where
        go : (i : ℕ) → i < m + 1 → Dec (i ≡ m) → (i < m → test i ≡ false) → test i ≡ false
        go i h (yes q) before = ap test q ∙ e
        go i h (no q) before = before (omega (arith, q))

        still : (i : ℕ) → i < m + 1 → test i ≡ true → Dec (i ≡ m) → ((i : ℕ) → i < m → test i ≡ true → Before key best i) → Before key best i
        still i h t (yes q) before = absurd (clash t (ap test q ∙ e))
        still i h t (no q) before = before i (omega (arith, q)) t

    module _ (passes : test m ≡ true) (h : m < n) (r : ℕ) where
      kept : (r ≡ best) × (best < n) × (key best ≤ key m) → BestOf test key n (m + 1) r
      kept (e, l, le) = subst (BestOf test key n (m + 1)) (sym e) (record {
        within = b.within;
        none = λ q. absurd (omega arith);
        some = λ x. (omega (arith, s.0), s.1, λ i k t. go i k t (ℕ_discrete i m));
      })
        where
          s : (best < m) × (test best ≡ true) × ((i : ℕ) → i < m → test i ≡ true → Before key best i)
          s = b.some l

          last : Dec (key best < key m) → Before key best m
          last (yes x) = inl x
          last (no x) = inr (omega arith, omega (arith, s.0))

          go : (i : ℕ) → i < m + 1 → test i ≡ true → Dec (i ≡ m) → Before key best i
          go i k t (yes q) = subst (Before key best) (sym q) (last (dec_lt (key best) (key m)))
          go i k t (no q) = s.2 i (omega (arith, q)) t

      taken : (r ≡ m) × (best < n → key m < key best) → BestOf test key n (m + 1) r
      taken (e, less) = subst (BestOf test key n (m + 1)) (sym e) (record {
        within = omega arith;
        none = λ q. absurd (omega arith);
        some = λ x. (omega arith, passes, λ i k t. go i k t (ℕ_discrete i m) (dec_lt best n));
      })
        where
          go : (i : ℕ) → i < m + 1 → test i ≡ true → Dec (i ≡ m) → Dec (best < n) → Before key m i
          go i k t (yes q) d = inr (ap key (sym q), omega (arith, q))
          go i k t (no q) (yes l) = inl (⊎_elim (λ x. omega (arith, less l, x)) (λ x. omega (arith, less l, x.0)) ((b.some l).2 i (omega (arith, q)) t))
          go i k t (no q) (no l) = absurd (clash t (b.none (omega (arith, b.within)) i (omega (arith, q))))

      pub best_of_both : Earlier key n best m r → BestOf test key n (m + 1) r
      best_of_both = ⊎_elim kept taken

  pub best_none : (best : ℕ) → BestOf test key n n best → best ≡ n → NextIs key test n None
  best_none best b e = b.none e

  pub best_next : (best : ℕ) → BestOf test key n n best → ¬ (best ≡ n) → NextIs key test n (Some best)
  best_next best b d = b.some (omega (arith, b.within, d))
