-- Gathering from nets one after the other, and through a step.
-- Assumes nothing.
use Prim.Native.Nat.{ℕ, ◌<◌}
use mathlib.Core.Path.{◌≡◌, refl, sym, subst}
use mathlib.Core.Bool.{Bool, true, false, ◌||◌}
use mathlib.Core.Logic.{inl, inr, ⊎_elim}
use mathlib.Core.List.{List, [], ◌∷◌}
use Rattle.runs.proofs.Test.{clash, not-true, or_left, or_right, or_cases}
use Rattle.verdict.specs.Lists.{lead_to}
use Rattle.verdict.specs.Paths.{In, Leads, here, onward}
use Rattle.verdict.proofs.Steps.{lead_sound, lead_complete}
use Rattle.wiring_spec.specs.Gathering.{Gathers}
use Rattle.wiring_spec.proofs.Nets.{never}

module _ (next : ℕ → List ℕ) (own : ℕ → Bool) where
  pub gathers_none : Gathers next own [] false
  gathers_none = record { sound = λ e. absurd (never e); complete = λ x y i e l. absurd i }

  -- a net more
  pub gathers_more : (x : ℕ) (xs : List ℕ) (b c : Bool) → Gathers next own (x ∷ []) b → Gathers next own xs c → Gathers next own (x ∷ xs) (b || c)
  gathers_more x xs b c g h = record {
    sound = λ e. ⊎_elim (λ q. let r = g.sound q in (r.0, only r.0 r.1, r.2, r.3, r.4)) (λ q. let r = h.sound q in (r.0, inr r.1, r.2, r.3, r.4)) (or_cases b c e);
    complete = complete;
  }
    where
      only : (y : ℕ) → In y (x ∷ []) → In y (x ∷ xs)
      only y (inl e) = inl e
      only y (inr i) = absurd i

      complete : (z y : ℕ) → In z (x ∷ xs) → own y ≡ true → Leads next y z → (b || c) ≡ true
      complete z y (inl e) o l = or_left b c (g.complete z y (inl e) o l)
      complete z y (inr i) o l = or_right b c (h.complete z y i o l)

  -- a net by itself, and what is one step from it
  pub gathers_step : (x : ℕ) (b : Bool) → Gathers next own (next x) b → Gathers next own (x ∷ []) (own x || b)
  gathers_step x b g = record {
    sound = λ e. ⊎_elim (λ q. (x, inl refl, x, q, here)) (λ q. let r = g.sound q in (x, inl refl, r.2, r.3, onward r.1 r.4)) (or_cases (own x) b e);
    complete = complete;
  }
    where
      at : (y : ℕ) {z : ℕ} → z ≡ x → own y ≡ true → Leads next y z → (own x || b) ≡ true
      at y e o here = or_left (own x) b (subst (λ (z : ℕ). own z ≡ true) e o)
      at y e o (onward {z = z} i l) = or_right (own x) b (g.complete z y (subst (λ (u : ℕ). In z (next u)) e i) o l)

      complete : (z y : ℕ) → In z (x ∷ []) → own y ≡ true → Leads next y z → (own x || b) ≡ true
      complete z y (inl e) o l = at y e o l
      complete z y (inr i) o l = absurd i

  -- it is the search in as many steps as there are nets
  pub gathers_lead : (size : ℕ) → ((u v : ℕ) → In v (next u) → u < size) → ((y : ℕ) → own y ≡ true → y < size) → (xs : List ℕ) (b : Bool) → Gathers next own xs b
      → b ≡ lead_to next own size xs
  gathers_lead size inside net xs b g = go b refl
    where
      go : (c : Bool) → b ≡ c → c ≡ lead_to next own size xs
      go true e = let r = g.sound e in sym (lead_complete next own size inside xs r.1 r.2 (net r.2 r.3) r.3 r.4)
      go false e = sym (not-true _ (λ q. let r = lead_sound next own size xs q in clash (g.complete r.0 r.2 r.1 r.3 r.4) e))
