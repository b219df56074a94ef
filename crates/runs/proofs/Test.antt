-- Boolean tests: how an equation with `true` or `false` is taken apart and put together.
-- Assumes nothing.
use mathlib.Core.Path.{◌≡◌, refl, sym, ap}
use mathlib.Core.Logic.{◌⊎◌, inl, inr, ◌≢◌}
use mathlib.Core.Bool.{Bool, true, false, not, ◌&&◌, ◌||◌}
use Prim.Native.Nat.{ℕ, zero, suc, ◌≤◌, ◌<◌}
use native.Mathlib.Omega.{arith}
use lib.Dec.{T, eqb, ltb, eqb→eq, eqb_refl, ltb→lt, lt→ltb, nltb→le}

-- ---- one test

pub clash : {b : Bool} → b ≡ true → b ≡ false → ⊥
clash p q = let z : ◌≡◌ {A = ℕ} 0 1 = cc in omega arith

pub true? : (b : Bool) → (b ≡ true) ⊎ (b ≡ false)
true? true = inl refl
true? false = inr refl

pub not-true : (b : Bool) → (b ≡ true → ⊥) → b ≡ false
not-true true f = absurd (f refl)
not-true false f = refl

pub not-false : (b : Bool) → (b ≡ false → ⊥) → b ≡ true
not-false true f = refl
not-false false f = absurd (f refl)

pub of_not : (b : Bool) → not b ≡ true → b ≡ false
of_not true e = absurd (clash refl (sym e))
of_not false e = refl

pub true→T : (b : Bool) → b ≡ true → T b
true→T true e = tt
true→T false e = absurd (clash e refl)

pub T→true : (b : Bool) → T b → b ≡ true
T→true true t = refl
T→true false t = absurd t

-- ---- and, or

pub and_in : (a b : Bool) → a ≡ true → b ≡ true → (a && b) ≡ true
and_in a b e f = cc

pub and_left : (a b : Bool) → (a && b) ≡ true → a ≡ true
and_left true b e = refl
and_left false b e = e

pub and_right : (a b : Bool) → (a && b) ≡ true → b ≡ true
and_right true b e = e
and_right false b e = absurd (clash e refl)

-- the second holds where the first does
pub and_same : (a b : Bool) → (a ≡ true → b ≡ true) → a ≡ (a && b)
and_same true b f = sym (f refl)
and_same false b f = refl

pub or_left : (a b : Bool) → a ≡ true → (a || b) ≡ true
or_left true b e = refl
or_left false b e = absurd (clash e refl)

pub or_right : (a b : Bool) → b ≡ true → (a || b) ≡ true
or_right true b e = refl
or_right false b e = e

pub or_cases : (a b : Bool) → (a || b) ≡ true → (a ≡ true) ⊎ (b ≡ true)
or_cases true b e = inl refl
or_cases false b e = inr e

pub or_mono : (a b c : Bool) → (b ≡ true → c ≡ true) → (a || b) ≡ true → (a || c) ≡ true
or_mono true b c f e = refl
or_mono false b c f e = f e

-- ---- numbers

pub eqb_same : (i : ℕ) → eqb i i ≡ true
eqb_same i = T→true (eqb i i) (eqb_refl i)

pub eqb_eq : (k i : ℕ) → eqb k i ≡ true → k ≡ i
eqb_eq k i e = eqb→eq k i (true→T (eqb k i) e)

pub eqb_other : (k i : ℕ) → k ≢ i → eqb k i ≡ false
eqb_other k i n = not-true (eqb k i) (λ e. n (eqb_eq k i e))

pub same? : (k i : ℕ) → (k ≡ i) ⊎ (k ≢ i)
same? k i = go (true? (eqb k i))
  where
    go : (eqb k i ≡ true) ⊎ (eqb k i ≡ false) → (k ≡ i) ⊎ (k ≢ i)
    go (inl e) = inl (eqb_eq k i e)
    go (inr e) = inr (λ p. clash (rw p (eqb_same i)) e)

pub ltb-true : (m n : ℕ) → ltb m n ≡ true → m < n
ltb-true m n e = ltb→lt m n (true→T (ltb m n) e)

pub ltb-false : (m n : ℕ) → ltb m n ≡ false → n ≤ m
ltb-false m n e = nltb→le m n (true→T (not (ltb m n)) (ap not e))

pub lt-ltb : (m n : ℕ) → m < n → ltb m n ≡ true
lt-ltb m n h = T→true (ltb m n) (lt→ltb m n h)

pub le-ltb : (m n : ℕ) → n ≤ m → ltb m n ≡ false
le-ltb m n h = not-true (ltb m n) (λ e. omega (arith, ltb-true m n e))

-- a test that holds somewhere below n, or nowhere there
pub find : (p : ℕ → Bool) (n : ℕ) → ((i : ℕ) × (i < n) × (p i ≡ true)) ⊎ ((i : ℕ) → i < n → p i ≡ false)
find p zero = inr (λ i h. absurd (omega arith))
find p (suc n) = go (find p n) (true? (p n))
  where
    go : ((i : ℕ) × (i < n) × (p i ≡ true)) ⊎ ((i : ℕ) → i < n → p i ≡ false) → (p n ≡ true) ⊎ (p n ≡ false)
        → ((i : ℕ) × (i < suc n) × (p i ≡ true)) ⊎ ((i : ℕ) → i < suc n → p i ≡ false)
    go (inl x) d = inl (x.0, omega (arith, x.1), x.2)
    go (inr f) (inl e) = inl (n, omega arith, e)
    go (inr f) (inr e) = inr (λ i h. last i h (same? i n))
      where
        last : (i : ℕ) → i < suc n → (i ≡ n) ⊎ (i ≢ n) → p i ≡ false
        last i h (inl q) = rw q e
        last i h (inr q) = f i (omega arith)
