-- Laws of tests of lists, and of steps that lead to a goal: what the search in so many steps finds, and that as many as there are nets are enough.
-- Assumes nothing.
use Prim.Native.Nat.{ℕ, zero, suc, ◌<◌}
use native.Mathlib.Omega.{arith}
use mathlib.Core.Path.{◌≡◌, refl, sym, ap, ◌∙◌, subst}
use mathlib.Core.Logic.{◌⊎◌, inl, inr, ⊎_elim}
use mathlib.Core.Bool.{Bool, true, false, cond, ◌||◌}
use mathlib.Core.List.{List, [], ◌∷◌}
use lib.ListN.{replicate}
use lib.Dec.{eqb, ltb}
use Rattle.gates.specs.Cell.{bit}
use Rattle.runs.specs.Acyclic.{AllPins}
use Rattle.runs.proofs.Test.{clash, or_cases, eqb_eq, ltb-true}
use Rattle.verdict.specs.Lists.{some, reaches, lead_to}
use Rattle.verdict.specs.Rows.{high, rounds}
use Rattle.verdict.specs.Graph.{In, Leads, here, onward, OnLoop, any_high, tabulate, leading}
use Rattle.verdict.proofs.Graph.{high_in_holds, any_high_out, length_tabulate, get_d_tabulate, leads_complete, on_loop_complete}
use Rattle.verdict.proofs.Bridge.{high_bit}

-- ---- some of a list

pub some_in : (test : ℕ → Bool) (l : List ℕ) (p : ℕ) → In p l → test p ≡ true → some test l ≡ true
unfolding some
some_in test [] p x'' t = elim x'' [ ]
some_in test (x ∷ xs) p (inl e) t = rw (ap test (sym e) ∙ t)
some_in test (x ∷ xs) p (inr i) t = go (test x) refl (some_in test xs p i t)
  where
    go : (b : Bool) → test x ≡ b → some test xs ≡ true → cond (test x) true (some test xs) ≡ true
    go true e later = rw e
    go false e later = rw e later

pub some_out : (test : ℕ → Bool) (l : List ℕ) → some test l ≡ true → (p : ℕ) × In p l × (test p ≡ true)
unfolding some
some_out test [] e = absurd (clash e refl)
some_out test (x ∷ xs) e = go (test x) refl (some_out test xs) e
  where
    go : (b : Bool) → test x ≡ b → (some test xs ≡ true → (p : ℕ) × In p xs × (test p ≡ true)) → cond (test x) true (some test xs) ≡ true
        → (p : ℕ) × In p (x ∷ xs) × (test p ≡ true)
    go true q later e = (x, inl refl, q)
    go false q later e = let r = later (rw q at e) in (r.0, inr r.1, r.2)

-- what is so of each number of a list is so of one that is in it
pub some_all : (P : ℕ → Type 0) (l : List ℕ) → AllPins P l → (n : ℕ) → some (eqb n) l ≡ true → P n
unfolding some
some_all P [] p n e = absurd (clash e refl)
some_all P (x ∷ xs) p n e = go (eqb n x) refl (some_all P xs p.1 n) e
  where
    go : (b : Bool) → eqb n x ≡ b → (some (eqb n) xs ≡ true → P n) → cond (eqb n x) true (some (eqb n) xs) ≡ true → P n
    go true q later e = rw (eqb_eq n x q) p.0
    go false q later e = later (rw q at e)

-- ---- the test of reaching

module _ (next : ℕ → List ℕ) (goal : ℕ → Bool) where
  abbrev test : ℕ → ℕ → Bool
  test k y = cond (goal y) true (reaches next goal k y)

  test_in : (k y : ℕ) → (goal y ≡ true) ⊎ (reaches next goal k y ≡ true) → test k y ≡ true
  test_in k y (inl g) = rw g
  test_in k y (inr r) = go (goal y) refl
    where
      go : (b : Bool) → goal y ≡ b → test k y ≡ true
      go true e = rw e
      go false e = rw e r

  test_out : (k y : ℕ) → test k y ≡ true → (goal y ≡ true) ⊎ (reaches next goal k y ≡ true)
  test_out k y e = go (goal y) refl
    where
      go : (b : Bool) → goal y ≡ b → (goal y ≡ true) ⊎ (reaches next goal k y ≡ true)
      go true q = inl q
      go false q = inr (rw q at e)

  -- x has a step to a net that is a goal or leads to one
  pub reaches_sound : (k x : ℕ) → reaches next goal k x ≡ true → (z : ℕ) × In z (next x) × (y : ℕ) × (goal y ≡ true) × Leads next y z
  unfolding reaches
  reaches_sound zero x e = absurd (clash e refl)
  reaches_sound (suc k) x e = let r = some_out (test k) (next x) e in go r.0 r.1 (test_out k r.0 r.2) (reaches_sound k r.0)
    where
      go : (y : ℕ) → In y (next x) → (goal y ≡ true) ⊎ (reaches next goal k y ≡ true)
          → (reaches next goal k y ≡ true → (z : ℕ) × In z (next y) × (u : ℕ) × (goal u ≡ true) × Leads next u z)
          → (z : ℕ) × In z (next x) × (u : ℕ) × (goal u ≡ true) × Leads next u z
      go y i (inl q) later = (y, i, y, q, here)
      go y i (inr q) later = let l = later q in (y, i, l.2, l.3, onward l.1 l.4)

  step_in : (k x p : ℕ) → In p (next x) → (goal p ≡ true) ⊎ (reaches next goal k p ≡ true) → reaches next goal (suc k) x ≡ true
  unfolding reaches
  step_in k x p i t = some_in (test k) (next x) p i (test_in k p t)

  -- with a step more the same is reached
  pub reaches_more : (k x : ℕ) → reaches next goal k x ≡ true → reaches next goal (suc k) x ≡ true
  unfolding reaches
  reaches_more zero x e = absurd (clash e refl)
  reaches_more (suc k) x e =
      let r = some_out (test k) (next x) e in
      step_in (suc k) x r.0 r.1 (⊎_elim (λ g. inl g) (λ q. inr (reaches_more k r.0 q)) (test_out k r.0 r.2))

  -- the same of a list: one of it is a goal or leads to one
  pub lead_sound : (k : ℕ) (xs : List ℕ) → lead_to next goal k xs ≡ true → (x : ℕ) × In x xs × (y : ℕ) × (goal y ≡ true) × Leads next y x
  lead_sound k xs e = let r = some_out (test k) xs e in let l = lead r.0 (test_out k r.0 r.2) in (r.0, r.1, l.0, l.1, l.2)
    where
      lead : (x : ℕ) → (goal x ≡ true) ⊎ (reaches next goal k x ≡ true) → (y : ℕ) × (goal y ≡ true) × Leads next y x
      lead x (inl q) = (x, q, here)
      lead x (inr q) = let l = reaches_sound k x q in (l.2, l.3, onward l.1 l.4)

  module _ (size : ℕ) where
    abbrev round : List ℕ → List ℕ
    round marks = tabulate (λ x. bit (goal x || any_high marks (next x))) size

    none_high : (n x : ℕ) → high (replicate n 0) x ≡ true → ⊥
    none_high zero x e = omega (arith, ltb-true 0 0 e)
    none_high (suc n) zero e = omega (arith, ltb-true 0 0 e)
    none_high (suc n) (suc x) e = none_high n x e

    -- one more round marks the goals and what has a marked net one step from it
    again : (m : List ℕ) (x : ℕ) → high (round m) x ≡ true → (goal x ≡ true) ⊎ (any_high m (next x) ≡ true)
    again m x e =
        let h : x < size = omega (arith, high_in_holds (round m) x e, length_tabulate (λ x. bit (goal x || any_high m (next x))) size) in
        or_cases (goal x) (any_high m (next x))
        (sym (ap (λ (v : ℕ). ltb 0 v) (get_d_tabulate (λ x. bit (goal x || any_high m (next x))) size x 0 h) ∙ high_bit (goal x || any_high m (next x))) ∙ e)

    -- what is marked after some rounds is a goal or reaches one in fewer steps
    pub marked : (k x : ℕ) → high (rounds round size (suc k)) x ≡ true → (goal x ≡ true) ⊎ (reaches next goal k x ≡ true)
    unfolding rounds
    marked zero x e =
        ⊎_elim (λ g. inl g) (λ a. let r = any_high_out (rounds round size 0) (next x) a in absurd (none_high size r.0 r.2)) (again (rounds round size 0) x e)
    marked (suc k) x e =
        ⊎_elim (λ g. inl g)
        (λ a. let r = any_high_out (rounds round size (suc k)) (next x) a in inr (step_in k x r.0 r.1 (marked k r.0 r.2)))
        (again (rounds round size (suc k)) x e)

-- as many steps as there are nets are enough to find a goal
module _ (next : ℕ → List ℕ) (goal : ℕ → Bool) where
  pub lead_complete : (size : ℕ) → ((u v : ℕ) → In v (next u) → u < size) → (xs : List ℕ) {x : ℕ} → In x xs → (y : ℕ) → y < size → goal y ≡ true
      → Leads next y x → lead_to next goal size xs ≡ true
  unfolding leading
  lead_complete zero inside xs i y h g l = absurd (omega arith)
  lead_complete (suc m) inside xs {x} i y h g l =
      some_in (test next goal (suc m)) xs x i (test_in next goal (suc m) x
      (⊎_elim (λ q. inl q) (λ q. inr (reaches_more next goal m x q)) (marked next goal (suc m) m x (leads_complete next (suc m) inside goal y h g l))))

-- .. and a net on a loop
module _ (next : ℕ → List ℕ) where
  pub loop-found : (m : ℕ) → ((u v : ℕ) → In v (next u) → u < suc m) → (x : ℕ) → OnLoop next x → reaches next (eqb x) (suc m) x ≡ true
  unfolding leading
  loop-found m inside x l =
      let r = any_high_out (leading next (eqb x) (suc m)) (next x) (on_loop_complete next (suc m) inside x l) in
      step_in next (eqb x) m x r.0 r.1 (marked next (eqb x) (suc m) m r.0 r.2)

  pub found_loop : (k x : ℕ) → reaches next (eqb x) k x ≡ true → OnLoop next x
  found_loop k x e =
      let r = reaches_sound next (eqb x) k x e in
      (r.0, r.1, subst (λ (y : ℕ). Leads next y r.0) (sym (eqb_eq x r.2 r.3)) r.4)
