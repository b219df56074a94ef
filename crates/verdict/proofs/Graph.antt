-- The test of leading to a goal says what it means; and where no net leads back to itself, nets have a rank that falls with each step.
-- Assumes nothing.
use Prim.Native.Nat.{ℕ, zero, suc, ◌≤◌, ◌<◌}
use native.Mathlib.Omega.{arith}
use native.Mathlib.Decide.{dec_lt}
use mathlib.Core.Path.{◌≡◌, refl, sym, ap, ◌∙◌, subst}
use mathlib.Core.Bool.{Bool, true, false, ◌||◌}
use mathlib.Core.Logic.{◌⊎◌, inl, inr, ⊎_elim}
use mathlib.Core.List.{List, [], ◌∷◌}
use lib.ListN.{length, get_or, replicate, get_or-eq_default}
use lib.Dec.{ltb, eqb}
use borrow.Author.Tests.{ltb-true, lt-ltb, eqb-true, eq-eqb}
use Rattle.gates.specs.Cell.{bit}
use Rattle.verdict.specs.Rows.{high, rounds}
use Rattle.verdict.specs.Graph.{In, Leads, here, onward, OnLoop, any_high, tabulate, leading, leads, on_loop}
use Rattle.verdict.specs.Levels.{Bits, Below, sum}
use Rattle.verdict.proofs.Levels.{bit-≤-1, bit_mono, below_get, below_split, bits_length, bits_sum, high_mono}
use Rattle.verdict.proofs.Rounds.{rounds_bits, rounds_fixed}

-- ---- levels by tests

high_bit : (row : List ℕ) (x : ℕ) (b : Bool) → get_or row x 0 ≡ bit b → high row x ≡ b
high_bit row x true e = lt-ltb 0 (get_or row x 0) (omega arith)
high_bit row x false e = ap (λ (v : ℕ). ltb 0 v) e

-- a high net is one of the row
pub high_in_holds : (row : List ℕ) (x : ℕ) → high row x ≡ true → x < length row
high_in_holds row x h = go (dec_lt x (length row))
  where
    go : Dec (x < length row) → x < length row
    go (yes l) = l
    go (no l) = absurd (let past : get_or row x 0 ≡ 0 = get_or-eq_default row 0 (omega arith) in omega (arith, ltb-true 0 (get_or row x 0) h))

||-cases : (a b : Bool) → (a || b) ≡ true → (a ≡ true) ⊎ (b ≡ true)
||-cases true b e = inl refl
||-cases false b e = inr e

||-left : (a b : Bool) → a ≡ true → (a || b) ≡ true
||-left a b e = rw e

||-right : (a b : Bool) → b ≡ true → (a || b) ≡ true
||-right true b e = refl
||-right false b e = e

pub any_high_in : (row nets : List ℕ) (p : ℕ) → In p nets → high row p ≡ true → any_high row nets ≡ true
any_high_in row [] p h e = absurd h
any_high_in row (q ∷ nets) p (inl s) e = rw (sym (ap (high row) s) ∙ e)
any_high_in row (q ∷ nets) p (inr h) e = ||-right (high row q) (any_high row nets) (any_high_in row nets p h e)

pub any_high_out : (row nets : List ℕ) → any_high row nets ≡ true → (p : ℕ) × In p nets × (high row p ≡ true)
any_high_out row [] e = absurd (let z : ◌≡◌ {A = ℕ} 0 1 = cc in omega arith)
any_high_out row (q ∷ nets) e =
    ⊎_elim (λ h. (q, inl refl, h)) (λ h. let r = any_high_out row nets h in (r.0, inr r.1, r.2)) (||-cases (high row q) (any_high row nets) e)

-- ---- values of a function

pub length_tabulate : {A : Type 0} (f : ℕ → A) (m : ℕ) → length (tabulate f m) ≡ m
unfolding tabulate
length_tabulate f zero = refl
length_tabulate f (suc m) = ap suc (length_tabulate (λ i. f (suc i)) m)

pub get_d_tabulate : {A : Type 0} (f : ℕ → A) (m k : ℕ) (d : A) → k < m → get_or (tabulate f m) k d ≡ f k
unfolding tabulate
get_d_tabulate f zero k d h = absurd (omega arith)
get_d_tabulate f (suc m) zero d h = refl
get_d_tabulate f (suc m) (suc k) d h = get_d_tabulate (λ i. f (suc i)) m k d (omega arith)

pub bits_tabulate : (f : ℕ → Bool) (m : ℕ) → Bits m (tabulate (λ x. bit (f x)) m)
unfolding tabulate
bits_tabulate f zero = tt
bits_tabulate f (suc m) = (bit-≤-1 (f 0), bits_tabulate (λ i. f (suc i)) m)

pub below_tabulate : (f g : ℕ → Bool) → ((x : ℕ) → f x ≡ true → g x ≡ true) → (m : ℕ) → Below (tabulate (λ x. bit (f x)) m) (tabulate (λ x. bit (g x)) m)
unfolding tabulate
below_tabulate f g h zero = tt
below_tabulate f g h (suc m) = (bit_mono (f 0) (g 0) (h 0), below_tabulate (λ i. f (suc i)) (λ i. g (suc i)) (λ i. h (suc i)) m)

-- ---- steps

module _ (next : ℕ → List ℕ) where
  pub leads_trans : (y z : ℕ) {x : ℕ} → Leads next y x → Leads next z y → Leads next z x
  leads_trans y z here q = q
  leads_trans y z (onward i p) q = onward i (leads_trans y z p q)

-- ---- the test

module _ (next : ℕ → List ℕ) (goal : ℕ → Bool) (size : ℕ) where
  abbrev round : List ℕ → List ℕ
  round marks = tabulate (λ x. bit (goal x || any_high marks (next x))) size

  round_bits : (v : List ℕ) → Bits size v → Bits size (round v)
  round_bits v b = bits_tabulate (λ x. goal x || any_high v (next x)) size

  round_rises : (u v : List ℕ) → Below u v → Below (round u) (round v)
  round_rises u v h = below_tabulate (λ x. goal x || any_high u (next x)) (λ x. goal x || any_high v (next x)) more size
    where
      more : (x : ℕ) → (goal x || any_high u (next x)) ≡ true → (goal x || any_high v (next x)) ≡ true
      more x e =
          ⊎_elim (||-left (goal x) (any_high v (next x)))
          (λ a. let r = any_high_out u (next x) a in ||-right (goal x) (any_high v (next x)) (any_high_in v (next x) r.0 r.1 (high_mono u v (below_get u v h) r.0 r.2)))
          (||-cases (goal x) (any_high u (next x)) e)

  round_at : (m : List ℕ) (x : ℕ) → x < size → high (round m) x ≡ (goal x || any_high m (next x))
  round_at m x h = high_bit (round m) x (goal x || any_high m (next x)) (get_d_tabulate (λ x. bit (goal x || any_high m (next x))) size x 0 h)

  -- x leads to a goal among the nets
  abbrev pub ToGoal : ℕ → Type 0
  ToGoal x = (y : ℕ) × (y < size) × (goal y ≡ true) × Leads next y x

  marks_sound : (k x : ℕ) → high (rounds round size k) x ≡ true → ToGoal x
  unfolding rounds
  marks_sound zero x e = absurd (low size x e)
    where
      low : (n x : ℕ) → high (replicate n 0) x ≡ true → ⊥
      low zero x e = omega (arith, ltb-true 0 0 e)
      low (suc n) zero e = omega (arith, ltb-true 0 0 e)
      low (suc n) (suc x) e = low n x e
  marks_sound (suc k) x e =
      let b = bits_length size (rounds round size (suc k)) (rounds_bits round size round_bits round_rises (suc k)) in
      let h : x < size = omega (arith, high_in_holds (rounds round size (suc k)) x e) in
      ⊎_elim (λ g. (x, h, g, here))
      (λ a.
      let r = any_high_out (rounds round size k) (next x) a in
      let f = marks_sound k r.0 r.2 in
      (f.0, f.1, f.2, onward r.1 f.3))
      (||-cases (goal x) (any_high (rounds round size k) (next x)) (sym (round_at (rounds round size k) x h) ∙ e))

  pub leads_sound : (x : ℕ) → leads next goal size x ≡ true → ToGoal x
  unfolding leading
  leads_sound x e = marks_sound _ x e

  leads-at : (x : ℕ) → x < size → leads next goal size x ≡ (goal x || any_high (leading next goal size) (next x))
  unfolding leading
  leads-at x h = ap (λ (m : List ℕ). high m x) (sym (rounds_fixed round size round_bits round_rises)) ∙ round_at (leading next goal size) x h

-- ---- steps from nets alone

module _ (next : ℕ → List ℕ) (size : ℕ) (inside : (u v : ℕ) → In v (next u) → u < size) where
  pub leads_complete : (goal : ℕ → Bool) (y : ℕ) {x : ℕ} → y < size → goal y ≡ true → Leads next y x → leads next goal size x ≡ true
  leads_complete goal y {x} h g here = leads-at next goal size x h ∙ ||-left (goal x) (any_high (leading next goal size) (next x)) g
  leads_complete goal y {x} h g (onward {z = z} i l) =
      leads-at next goal size x (inside x z i)
      ∙ ||-right (goal x) (any_high (leading next goal size) (next x)) (any_high_in (leading next goal size) (next x) z i (leads_complete goal y h g l))

  -- the test with one goal
  pub leads_from : {x : ℕ} (y : ℕ) → y < size → Leads next y x → leads next (eqb y) size x ≡ true
  leads_from y h l = leads_complete (eqb y) y h (eq-eqb y y refl) l

  pub leads_to : (x y : ℕ) → leads next (eqb y) size x ≡ true → Leads next y x
  leads_to x y e = let f = leads_sound next (eqb y) size x e in subst (λ (z : ℕ). Leads next z x) (sym (eqb-true y f.0 f.2)) f.3

  pub on_loop_sound : (x : ℕ) → on_loop next size x ≡ true → OnLoop next x
  on_loop_sound x e = let r = any_high_out (leading next (eqb x) size) (next x) e in (r.0, r.1, leads_to r.0 x r.2)

  pub on_loop_complete : (x : ℕ) → OnLoop next x → on_loop next size x ≡ true
  on_loop_complete x l = any_high_in (leading next (eqb x) size) (next x) l.0 l.1 (leads_from x (inside x l.0 l.1) l.2)

  -- which nets x leads to, and how many
  abbrev reached : ℕ → List ℕ
  reached x = tabulate (λ y. bit (leads next (eqb y) size x)) size

  pub rank : ℕ → ℕ
  rank x = sum (reached x)

  pub rank-≤ : (x : ℕ) → rank x ≤ size
  unfolding rank
  rank-≤ x = bits_sum size (reached x) (bits_tabulate (λ y. leads next (eqb y) size x) size)

  -- a net leads to itself
  pub rank_some : (x : ℕ) → x < size → 1 ≤ rank x
  unfolding rank
  rank_some x h =
      ⊎_elim (λ e. absurd (omega (arith, sym (at (λ y. false)) ∙ ap (λ (l : List ℕ). get_or l x 0) e ∙ at (λ y. leads next (eqb y) size x) ∙ ap bit (leads_from x h here))))
      (λ l. omega arith)
      (below_split (tabulate (λ y. bit false) size) (reached x) (below_tabulate (λ y. false) (λ y. leads next (eqb y) size x) (λ y e. absurd (let z : ◌≡◌ {A = ℕ} 0 1 = cc in omega arith)) size))
    where
      at : (f : ℕ → Bool) → get_or (tabulate (λ y. bit (f y)) size) x 0 ≡ bit (f x)
      at f = get_d_tabulate (λ y. bit (f y)) size x 0 h

  -- a step from u to v: u leads to whatever v does, and to itself
  pub rank_falls : (u v : ℕ) → ¬ (OnLoop next u) → In v (next u) → rank v < rank u
  unfolding rank
  rank_falls u v free i =
      ⊎_elim (λ e. absurd (free (v, i, back e))) (λ h. h)
      (below_split (reached v) (reached u) (below_tabulate (λ y. leads next (eqb y) size v) (λ y. leads next (eqb y) size u) more size))
    where
      more : (y : ℕ) → leads next (eqb y) size v ≡ true → leads next (eqb y) size u ≡ true
      more y e = let f = leads_sound next (eqb y) size v e in leads_complete (eqb y) f.0 f.1 f.2 (onward i f.3)

      at : (x : ℕ) → high (reached x) u ≡ leads next (eqb u) size x
      at x = high_bit (reached x) u (leads next (eqb u) size x) (get_d_tabulate (λ y. bit (leads next (eqb y) size x)) size u 0 (inside u v i))

      back : reached v ≡ reached u → Leads next u v
      back e = leads_to v u (sym (at v) ∙ ap (λ (l : List ℕ). high l u) e ∙ at u ∙ leads_from u (inside u v i) here)
