-- Sums over the numbers below a bound, and sums over a list by how often each number stands in it.
-- Assumes nothing.
use Prim.Native.Nat.{ℕ, zero, suc, ◌+◌, ◌*◌, ◌≤◌, ◌<◌}
use native.Mathlib.Omega.{arith}
use native.Mathlib.Decide.{ℕ_discrete, dec_lt}
use mathlib.Core.Path.{◌≡◌, refl, sym, ap, ap₂, ◌∙◌}
use mathlib.Core.Bool.{Bool, true, false}
use mathlib.Core.List.{List, [], ◌∷◌, map}
use lib.ListN.{length, get_or}
use lib.Dec.{eqb}
use borrow.Author.Tests.{eq-eqb, ne_eqb}
use Rattle.runs.specs.Row.{tally, times}
use Rattle.verdict.specs.Levels.{sum}

-- ---- below a bound

abbrev pub up_to : ℕ → (ℕ → ℕ) → ℕ
up_to zero f = 0
up_to (suc m) f = f m + up_to m f

pub up_to_same : (m : ℕ) (f g : ℕ → ℕ) → ((k : ℕ) → k < m → f k ≡ g k) → up_to m f ≡ up_to m g
up_to_same zero f g e = refl
up_to_same (suc m) f g e = ap₂ ◌+◌ (e m (omega arith)) (up_to_same m f g (λ k h. e k (omega arith)))

pub up_to_zero : (m : ℕ) (f : ℕ → ℕ) → ((k : ℕ) → k < m → f k ≡ 0) → up_to m f ≡ 0
up_to_zero zero f e = refl
up_to_zero (suc m) f e = omega (arith, e m (omega arith), up_to_zero m f (λ k h. e k (omega arith)))

pub up_to_split : (a b : ℕ) (f : ℕ → ℕ) → up_to (a + b) f ≡ up_to a f + up_to b (λ k. f (a + k))
up_to_split a zero f = let e : a + 0 ≡ a = omega arith in ap (λ (m : ℕ). up_to m f) e ∙ omega arith
up_to_split a (suc b) f = let e : a + suc b ≡ suc (a + b) = omega arith in ap (λ (m : ℕ). up_to m f) e ∙ omega (arith, up_to_split a b f)

-- twice a sum
pub up_to_twice : (m : ℕ) (f : ℕ → ℕ) → up_to m (λ k. 2 * f k) ≡ 2 * up_to m f
up_to_twice zero f = refl
up_to_twice (suc m) f = omega (arith, up_to_twice m f)

pub up_to_levels : (v : List ℕ) → sum v ≡ up_to (length v) (λ k. get_or v k 0)
up_to_levels [] = refl
up_to_levels (x ∷ v) =
    let e : 1 + length v ≡ suc (length v) = omega arith in
    let s : up_to (1 + length v) (λ k. get_or (x ∷ v) k 0) ≡ up_to 1 (λ k. get_or (x ∷ v) k 0) + up_to (length v) (λ k. get_or (x ∷ v) (1 + k) 0) = up_to_split 1 (length v) (λ k. get_or (x ∷ v) k 0) in
    let t : up_to (length v) (λ k. get_or (x ∷ v) (1 + k) 0) ≡ up_to (length v) (λ k. get_or v k 0) = up_to_same (length v) (λ k. get_or (x ∷ v) (1 + k) 0) (λ k. get_or v k 0) (λ k h. let q : 1 + k ≡ suc k = omega arith in ap (λ (i : ℕ). get_or (x ∷ v) i 0) q) in
    omega (arith, up_to_levels v, sym (ap (λ (m : ℕ). up_to m (λ k. get_or (x ∷ v) k 0)) e) ∙ s, t)

-- ---- by how often

-- so many times x
abbrev pub weigh : ℕ → ℕ → ℕ
weigh zero x = 0
weigh (suc n) x = x + weigh n x

module _ (x : ℕ) (t f : ℕ → ℕ) where
  other : (k : ℕ) → (k ≡ x → ⊥) → weigh (tally (eqb k x) (t k)) (f k) ≡ weigh (t k) (f k)
  other k d = simp (ne_eqb k x d)

  apart : (m : ℕ) → m ≤ x → up_to m (λ k. weigh (tally (eqb k x) (t k)) (f k)) ≡ up_to m (λ k. weigh (t k) (f k))
  apart m h = up_to_same m _ _ (λ k hk. other k (λ e. omega arith))

  one_more : (m : ℕ) → x < m → up_to m (λ k. weigh (tally (eqb k x) (t k)) (f k)) ≡ f x + up_to m (λ k. weigh (t k) (f k))
  one_more zero h = absurd (omega arith)
  one_more (suc m) h = go (ℕ_discrete m x) (one_more m)
    where
      go : Dec (m ≡ x) → (x < m → up_to m (λ k. weigh (tally (eqb k x) (t k)) (f k)) ≡ f x + up_to m (λ k. weigh (t k) (f k))) → up_to (suc m) (λ k. weigh (tally (eqb k x) (t k)) (f k)) ≡ f x + up_to (suc m) (λ k. weigh (t k) (f k))
      go (yes e) before =
          let a : weigh (tally (eqb m x) (t m)) (f m) ≡ f m + weigh (t m) (f m) = simp (eq-eqb m x e) in
          omega (arith, a, ap f e, apart m (omega arith))
      go (no d) before = omega (arith, other m d, before (omega arith))

-- a list in which nothing from m on stands
module _ (m x : ℕ) (l : List ℕ) (none : (k : ℕ) → m ≤ k → times k (x ∷ l) ≡ 0) where
  pub first_below : x < m
  first_below = go (dec_lt x m)
    where
      go : Dec (x < m) → x < m
      go (yes h) = h
      go (no h) = absurd (omega (arith, sym (ap (λ b. tally b (times x l)) (eq-eqb x x refl)) ∙ none x (omega arith)))

  pub tail_none : (k : ℕ) → m ≤ k → times k l ≡ 0
  tail_none k h = go (eqb k x) (none k h)
    where
      go : (b : Bool) → tally b (times k l) ≡ 0 → times k l ≡ 0
      go true e = absurd (omega (arith, e))
      go false e = e

pub sum_times : (f : ℕ → ℕ) (m : ℕ) (l : List ℕ) → ((k : ℕ) → m ≤ k → times k l ≡ 0) → sum (map f l) ≡ up_to m (λ k. weigh (times k l) (f k))
sum_times f m [] none = sym (up_to_zero m _ (λ k h. refl))
sum_times f m (x ∷ l) none = omega (arith, sum_times f m l (tail_none m x l none), one_more x (λ k. times k l) f m (first_below m x l none))

pub weigh_zero : (n : ℕ) → weigh n 0 ≡ 0
weigh_zero zero = refl
weigh_zero (suc n) = omega (arith, weigh_zero n)

-- ---- two lists in which each number stands as often

past_sum : (l : List ℕ) (k : ℕ) → suc (sum l) ≤ k → times k l ≡ 0
past_sum [] k h = refl
past_sum (x ∷ l) k h = ap (λ b. tally b (times k l)) (ne_eqb k x (λ e. omega arith)) ∙ past_sum l k (omega arith)

pub sum_same : (f : ℕ → ℕ) (l m : List ℕ) → ((k : ℕ) → times k l ≡ times k m) → sum (map f l) ≡ sum (map f m)
sum_same f l m e =
    let past = suc (sum l + sum m) in
    sum_times f past l (λ k h. past_sum l k (omega arith))
    ∙ up_to_same past _ _ (λ k h. ap (λ (n : ℕ). weigh n (f k)) (e k))
    ∙ sym (sum_times f past m (λ k h. past_sum m k (omega arith)))
