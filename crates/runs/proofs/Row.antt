-- Laws of rows, of lists of switchings, and of counts.
-- Assumes nothing.
use mathlib.Core.Path.{◌≡◌, refl, sym, ap, ◌∙◌, fun_ext}
use mathlib.Core.Logic.{◌⊎◌, inl, inr, ◌≢◌}
use mathlib.Core.Bool.{Bool, true, false, not, cond, ◌&&◌}
use mathlib.Core.List.{List, [], ◌∷◌, ◌++◌}
use Prim.Native.Nat.{ℕ, zero, suc, ◌+◌, ◌≤◌, ◌<◌}
use native.Mathlib.Omega.{arith}
use lib.Dec.{eqb}
use Rattle.runs.specs.Row.{Row, Rule, ◌∖◌, low, toggle, after, Legal, tally, count}
use Rattle.runs.specs.Theory.{◌⊑◌}
use Rattle.runs.proofs.Test.{clash, true?, not-true, and_same, same?, eqb_same, eqb_other}

-- ---- order

pub ⊑_refl : (r : Row) → r ⊑ r
⊑_refl r k h = h

pub ⊑_trans : (r s t : Row) → r ⊑ s → s ⊑ t → r ⊑ t
⊑_trans r s t p q k h = q k (p k h)

pub ⊑-antisym : (r s : Row) → r ⊑ s → s ⊑ r → r ≡ s
⊑-antisym r s p q = fun_ext (λ k. go k (true? (r k)) (true? (s k)))
  where
    go : (k : ℕ) → (r k ≡ true) ⊎ (r k ≡ false) → (s k ≡ true) ⊎ (s k ≡ false) → r k ≡ s k
    go k (inl a) b = a ∙ sym (p k a)
    go k (inr a) (inl b) = absurd (clash (q k b) a)
    go k (inr a) (inr b) = a ∙ sym b

pub ⊑-low : (r s : Row) → r ⊑ s → (k : ℕ) → s k ≡ false → r k ≡ false
⊑-low r s o k e = not-true (r k) (λ x. clash (o k x) e)

-- what is not taken away stays
pub ∖-same : (r X : Row) (k : ℕ) → X k ≡ false → r k ≡ (r ∖ X) k
∖-same r X k e = and_same (r k) (not (X k)) (λ x. ap not e)

-- ---- switchings

pub toggle_same : (r : Row) (k : ℕ) → toggle r k k ≡ not (r k)
toggle_same r k = rw (eqb_same k)

pub toggle_high : (r : Row) (k : ℕ) → r k ≡ false → toggle r k k ≡ true
toggle_high r k e = toggle_same r k ∙ ap not e

pub toggle_other : (r : Row) (k i : ℕ) → i ≢ k → toggle r k i ≡ r i
toggle_other r k i n = rw (eqb_other i k n)

pub toggle-⊑ : (r : Row) (k : ℕ) → r k ≡ false → r ⊑ toggle r k
toggle-⊑ r k e i h = go (same? i k)
  where
    go : (i ≡ k) ⊎ (i ≢ k) → toggle r k i ≡ true
    go (inl p) = absurd (clash h (rw p e))
    go (inr n) = toggle_other r k i n ∙ h

cond_comm : (a b x : Bool) → cond a (not (cond b (not x) x)) (cond b (not x) x) ≡ cond b (not (cond a (not x) x)) (cond a (not x) x)
cond_comm true true x = refl
cond_comm true false x = refl
cond_comm false true x = refl
cond_comm false false x = refl

pub toggle_comm : (r : Row) (i k : ℕ) → toggle (toggle r i) k ≡ toggle (toggle r k) i
toggle_comm r i k = fun_ext (λ n. cond_comm (eqb n k) (eqb n i) (r n))

pub after-++ : (r : Row) (l m : List ℕ) → after r (l ++ m) ≡ after (after r l) m
after-++ r [] m = refl
after-++ r (k ∷ l) m = after-++ (toggle r k) l m

pub Legal-++ : (can : Rule) (r : Row) (l m : List ℕ) → Legal can r l → Legal can (after r l) m → Legal can r (l ++ m)
Legal-++ can r [] m p q = q
Legal-++ can r (k ∷ l) m p q = (p.0, Legal-++ can (toggle r k) l m p.1 q)

-- ---- counts

tally-≤ : (b : Bool) (m n : ℕ) → m ≤ n → tally b m ≤ suc n
tally-≤ true m n h = omega arith
tally-≤ false m n h = omega arith

tally-suc : (b : Bool) (m : ℕ) → tally b (suc m) ≡ suc (tally b m)
tally-suc true m = refl
tally-suc false m = refl

pub count-≤ : (n : ℕ) (r : Row) → count n r ≤ n
count-≤ zero r = omega arith
count-≤ (suc n) r = tally-≤ (r n) (count n r) n (count-≤ n r)

pub count_low : (n : ℕ) → count n low ≡ 0
count_low zero = refl
count_low (suc n) = count_low n

-- what is high in the greater row and not in the lesser
pub count-∖ : (n : ℕ) (r s : Row) → r ⊑ s → count n (s ∖ r) + count n r ≡ count n s
count-∖ zero r s o = omega arith
count-∖ (suc n) r s o = go (r n) (s n) (o n) (count-∖ n r s o)
  where
    go : (a b : Bool) → (a ≡ true → b ≡ true) → count n (s ∖ r) + count n r ≡ count n s
        → tally (b && not a) (count n (s ∖ r)) + tally a (count n r) ≡ tally b (count n s)
    go true true f h = omega arith
    go true false f h = absurd (clash (f refl) refl)
    go false true f h = omega arith
    go false false f h = h

count-outside : (n : ℕ) (r : Row) (k : ℕ) → n ≤ k → count n (toggle r k) ≡ count n r
count-outside zero r k h = refl
count-outside (suc n) r k h = rw (toggle_other r k n (omega arith), count-outside n r k (omega arith))

-- a rise adds one
pub count_toggle : (n : ℕ) (r : Row) (k : ℕ) → k < n → r k ≡ false → count n (toggle r k) ≡ suc (count n r)
count_toggle zero r k h e = omega arith
count_toggle (suc n) r k h e = go (λ d. count_toggle n r k d e) (same? n k)
  where
    go : (k < n → count n (toggle r k) ≡ suc (count n r)) → (n ≡ k) ⊎ (n ≢ k) → count (suc n) (toggle r k) ≡ suc (count (suc n) r)
    go f (inl p) =
        let t : toggle r k n ≡ true = rw p (toggle_high r k e) in
        let z : r n ≡ false = rw p e in
        rw (t, z, count-outside n r k (omega arith))
    go f (inr q) = rw (toggle_other r k n q, f (omega arith)) (tally-suc (r n) (count n r))
