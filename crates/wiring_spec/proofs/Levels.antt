-- Where no register reaches itself, a register's level is one more than the highest level its data comes from.
-- Assumes nothing.
use Prim.Native.Nat.{ℕ, zero, suc, max, ◌≤◌, ◌<◌}
use native.Mathlib.Omega.{arith}
use native.Mathlib.Decide.{dec_le}
use mathlib.Core.Path.{◌≡◌, refl, ap, ap₂, ◌∙◌}
use mathlib.Core.Logic.{◌⊎◌, inl, inr}
use mathlib.Core.List.{List, [], ◌∷◌, map}
use Rattle.verdict.specs.Paths.{In}
use Rattle.verdict.proofs.Graph as graph
use Rattle.verdict.proofs.Graph.{rank-≤, rank_some, rank_falls}
use Rattle.wiring_spec.specs.Parts.{Pipeline, register_count}
use Rattle.wiring_spec.specs.Wiring.{sources, highest, level_within, level}
use Rattle.wiring_spec.specs.Passing.{Reaches, ReachesOn, LevelOf}
use Rattle.wiring_spec.proofs.Passing.{source_inside, source_in, source_out, step_inside, itself_loop}

map-in : (f g : ℕ → ℕ) (xs : List ℕ) → ((x : ℕ) → In x xs → f x ≡ g x) → map f xs ≡ map g xs
map-in f g [] h = refl
map-in f g (x ∷ xs) h = ap₂ ◌∷◌ (h x (inl refl)) (map-in f g xs (λ y i. h y (inr i)))

-- the highest of some levels is none below any, and one of them, or 0
highest-above : (f : ℕ → ℕ) (ks : List ℕ) (k : ℕ) → In k ks → f k ≤ highest (map f ks)
unfolding highest
highest-above f [] k x' = elim x' [ ]
highest-above f (x ∷ ks) k (inl e) = omega (arith, ap f e)
highest-above f (x ∷ ks) k (inr i) = omega (arith, highest-above f ks k i)

highest-some : (f : ℕ → ℕ) (ks : List ℕ) → (((k : ℕ) → ¬ (In k ks)) × (◌≡◌ {A = ℕ} (highest (map f ks)) 0)) ⊎ ((k : ℕ) × In k ks × (highest (map f ks) ≡ f k))
unfolding highest
highest-some f [] = inl ((λ k i. i), refl)
highest-some f (x ∷ ks) = go (dec_le (highest (map f ks)) (f x)) (highest-some f ks)
  where
    go : Dec (highest (map f ks) ≤ f x) → (((k : ℕ) → ¬ (In k ks)) × (◌≡◌ {A = ℕ} (highest (map f ks)) 0)) ⊎ ((k : ℕ) × In k ks × (highest (map f ks) ≡ f k))
        → (((k : ℕ) → ¬ (In k (x ∷ ks))) × (◌≡◌ {A = ℕ} (max (f x) (highest (map f ks))) 0)) ⊎ ((k : ℕ) × In k (x ∷ ks) × (max (f x) (highest (map f ks)) ≡ f k))
    go (yes l) r = inr (x, inl refl, omega arith)
    go (no l) (inl e) = absurd (omega (arith, e.1))
    go (no l) (inr r) = inr (r.0, inr r.1, omega (arith, r.2))

-- no level is more than the number of registers
pub level_bound : (p : Pipeline) (t : ℕ) → level p t ≤ register_count p
unfolding level level_within highest
level_bound p t = go (register_count p) t
  where
    most : (k : ℕ) (ls : List ℕ) → ((l : ℕ) → In l ls → level_within k p l ≤ k) → highest (map (level_within k p) ls) ≤ k
    most k [] h = omega arith
    most k (l ∷ ls) h = let a = h l (inl refl) in let b = most k ls (λ x i. h x (inr i)) in omega arith

    go : (k t : ℕ) → level_within k p t ≤ k
    go zero t = omega arith
    go (suc k) t = let m = most k (sources p t) (λ l i. go k l) in omega arith

module _ (p : Pipeline) (forward : (k : ℕ) → ¬ (ReachesOn p k k)) where
  abbrev m : ℕ
  m = register_count p

  -- how many registers a register comes from, itself among them
  abbrev pub rank : ℕ → ℕ
  rank = graph.rank (sources p) m (step_inside p)

  pub source_falls : (k t : ℕ) → In k (sources p t) → rank k < rank t
  source_falls k t i = rank_falls (sources p) m (step_inside p) t k (λ l. forward t ((itself_loop p t).1 l)) i

  pub register_rank : (t : ℕ) → t < m → 1 ≤ rank t
  register_rank t h = rank_some (sources p) m (step_inside p) t h

  stable : (f t : ℕ) → t < m → rank t ≤ f → level_within f p t ≡ level_within (suc f) p t
  unfolding level_within
  stable zero t h c = absurd (omega (arith, register_rank t h))
  stable (suc f) t h c =
      ap (λ (ls : List ℕ). suc (highest ls)) (map-in (level_within f p) (level_within (suc f) p) (sources p t)
      (λ k i. stable f k (source_inside p k t (source_out p k t i)) (omega (arith, source_falls k t i))))

  level-is : (t : ℕ) → t < m → level p t ≡ suc (highest (map (level p) (sources p t)))
  unfolding level level_within
  level-is t h = stable m t h (rank-≤ (sources p) m (step_inside p) t)

  -- ---- in the paper's words

  pub level_of : (t : ℕ) → t < m → LevelOf p t
  level_of t h = record {
    above = λ k r. omega (arith, level-is t h, highest-above (level p) (sources p t) k (source_in p k t r));
    next = go (highest-some (level p) (sources p t));
  }
    where
      go : (((k : ℕ) → ¬ (In k (sources p t))) × (◌≡◌ {A = ℕ} (highest (map (level p) (sources p t))) 0))
          ⊎ ((k : ℕ) × In k (sources p t) × (highest (map (level p) (sources p t)) ≡ level p k))
          → (((k : ℕ) → ¬ (Reaches p k t)) × (level p t ≡ 1)) ⊎ ((k : ℕ) × Reaches p k t × (level p t ≡ suc (level p k)))
      go (inl e) = inl ((λ k r. e.0 k (source_in p k t r)), level-is t h ∙ ap suc e.1)
      go (inr r) = inr (r.0, source_out p r.0 t r.1, level-is t h ∙ ap suc r.2)
