-- Cases: the first that fails is named, and those before it pass; what follows for the cases of some checks, and of a sweep.
-- Assumes nothing.
use Prim.Native.Nat.{ℕ, zero, suc, ◌+◌, ◌≤◌, ◌<◌}
use native.Mathlib.Omega.{arith}
use mathlib.Core.Path.{◌≡◌, refl, sym, ap, ◌∙◌, subst}
use mathlib.Core.Logic.{◌⊎◌, inl, inr, ⊎_elim}
use mathlib.Core.Bool.{Bool, true, false, cond}
use mathlib.Core.List.{List, [], ◌∷◌, ◌++◌, map, flat_map}
use native.Mathlib.Decide.{dec_lt}
use Rattle.runs.proofs.Test.{clash, same?}
use Rattle.verdict.specs.declared.Verdict.{Verdict}
use Rattle.verdict.specs.Graph.{In}
use Rattle.check_spec.specs.Cases.{accepted, verdict, Case, case, Check, first, judge, sweep}
use Rattle.check_spec.specs.Lists.{numbers}
use Rattle.check_spec.specs.Demands.{Pass, Named, Judged}

-- the earliest failing case is named, or all pass and what comes later is the answer
pub first_says : (cases : List Case) (later : Verdict) → Named cases (first cases later) ⊎ (Pass cases × (first cases later ≡ later))
unfolding first
first_says [] later = inr (tt, refl)
first_says (c ∷ cs) later = go c.fails refl (first_says cs later)
  where
    go : (b : Bool) → c.fails ≡ b → Named cs (first cs later) ⊎ (Pass cs × (first cs later ≡ later))
        → Named (c ∷ cs) (first (c ∷ cs) later) ⊎ (Pass (c ∷ cs) × (first (c ∷ cs) later ≡ later))
    go true e r = inl (record { before = []; case_is = c; later = cs; stands = refl; fails = e; none = tt; names = rw e })
    go false e (inl n) = inl (record {
      before = c ∷ n.before;
      case_is = n.case_is;
      later = n.later;
      stands = ap (λ (l : List Case). c ∷ l) n.stands;
      fails = n.fails;
      none = (e, n.none);
      names = rw e n.names;
    })
    go false e (inr p) = inr ((e, p.0), rw e p.1)

pub first_pass : (cs : List Case) (later : Verdict) → Pass cs → first cs later ≡ later
unfolding first
first_pass [] later p = refl
first_pass (c ∷ cs) later p = rw p.0 (first_pass cs later p.1)

pub first-++ : (a b : List Case) (later : Verdict) → first (a ++ b) later ≡ first a (first b later)
unfolding first
first-++ [] b later = refl
first-++ (c ∷ a) b later = ap (λ (v : Verdict). cond c.fails c.names v) (first-++ a b later)

-- all cases of some checks
abbrev cases_of : List Check → List Case
cases_of checks = flat_map (λ c. c) checks

judge-first : (checks : List Check) → judge checks ≡ first (cases_of checks) accepted
unfolding judge flat_map first
judge-first [] = refl
judge-first (c ∷ cs) = ap (first c) (judge-first cs) ∙ sym (first-++ c (cases_of cs) accepted)

-- "otherwise the verdict names the earliest failing check and its least case"
pub judged : (checks : List Check) → Judged checks (judge checks)
judged checks = subst (Judged checks) (sym (judge-first checks)) (first_says (cases_of checks) accepted)

-- ---- something that each case of a list says

abbrev pub Each : (Case → Type 0) → List Case → Type 0
Each P [] = Unit {0}
Each P (c ∷ cs) = P c × Each P cs

pub each_map : (P Q : Case → Type 0) → ((c : Case) → P c → Q c) → (cs : List Case) → Each P cs → Each Q cs
each_map P Q h [] p = tt
each_map P Q h (c ∷ cs) p = (h c p.0, each_map P Q h cs p.1)

pub each-++ : (P : Case → Type 0) (a b : List Case) → Each P a → Each P b → Each P (a ++ b)
each-++ P [] b p q = q
each-++ P (c ∷ a) b p q = (p.0, each-++ P a b p.1 q)

-- what the named case says
pub named_says : (P : Case → Type 0) (cases : List Case) (v : Verdict) → Each P cases → Named cases v → (c : Case) × P c × (c.fails ≡ true) × (v ≡ c.names)
named_says P cases v p n = (n.case_is, at n.before (subst (Each P) n.stands p), n.fails, n.names)
  where
    at : (before : List Case) → Each P (before ++ (n.case_is ∷ n.later)) → P n.case_is
    at [] q = q.0
    at (c ∷ before) q = at before q.1

-- a verdict of a number that no case names: all pass
pub none_named : (number : ℕ) (cases : List Case) (later : Verdict) → Each (λ c. ¬ (c.names.number ≡ number)) cases → (first cases later).number ≡ number
    → Pass cases × (first cases later ≡ later)
none_named number cases later p e = ⊎_elim (λ n. absurd (named n)) (λ q. q) (first_says cases later)
  where
    named : Named cases (first cases later) → ⊥
    named n = let r = named_says (λ c. ¬ (c.names.number ≡ number)) cases (first cases later) p n in r.1 (sym (ap (λ (v : Verdict). v.number) r.3) ∙ e)

-- ---- a check of some words at some places

module _ (number file : ℕ) (places : List ℕ) (fails : ℕ → ℕ → Bool) where
  abbrev in_word : ℕ → List ℕ → List Case
  in_word w is = map (λ i. case number file i w (fails w i)) is

  pub sweep_each : (P : Case → Type 0) (ws : List ℕ) → ((w : ℕ) → In w ws → (i : ℕ) → In i places → P (case number file i w (fails w i)))
      → Each P (sweep number file ws places fails)
  unfolding sweep flat_map
  sweep_each P [] h = tt
  sweep_each P (w ∷ ws) h = each-++ P (in_word w places) (sweep number file ws places fails) (word places (h w (inl refl))) (sweep_each P ws (λ v x. h v (inr x)))
    where
      word : (is : List ℕ) → ((i : ℕ) → In i is → P (case number file i w (fails w i))) → Each P (in_word w is)
      word [] h = tt
      word (i ∷ is) h = (h i (inl refl), word is (λ k x. h k (inr x)))

  pub sweep_in : (ws : List ℕ) → ((w : ℕ) → In w ws → (i : ℕ) → In i places → fails w i ≡ false) → Pass (sweep number file ws places fails)
  sweep_in ws h = each_pass (sweep number file ws places fails) (sweep_each (λ c. c.fails ≡ false) ws h)
    where
      each_pass : (cs : List Case) → Each (λ c. c.fails ≡ false) cs → Pass cs
      each_pass [] p = tt
      each_pass (c ∷ cs) p = (p.0, each_pass cs p.1)

  pub sweep_out : (ws : List ℕ) → Pass (sweep number file ws places fails) → (w : ℕ) → In w ws → (i : ℕ) → In i places → fails w i ≡ false
  unfolding sweep flat_map
  sweep_out [] p w x4 i x = elim x4 [ ]
  sweep_out (v ∷ ws) p w (inl e) i x = ap (λ (u : ℕ). fails u i) e ∙ word places (left (in_word v places) p) i x
    where
      left : (a : List Case) → Pass (a ++ sweep number file ws places fails) → Pass a
      left [] p = tt
      left (c ∷ a) p = (p.0, left a p.1)

      word : (is : List ℕ) → Pass (in_word v is) → (i : ℕ) → In i is → fails v i ≡ false
      word [] p i x8 = elim x8 [ ]
      word (k ∷ is) p i (inl e) = ap (fails v) e ∙ p.0
      word (k ∷ is) p i (inr x) = word is p.1 i x
  sweep_out (v ∷ ws) p w (inr y) i x = sweep_out ws (right (in_word v places) p) w y i x
    where
      right : (a : List Case) → Pass (a ++ sweep number file ws places fails) → Pass (sweep number file ws places fails)
      right [] p = p
      right (c ∷ a) p = right a p.1

-- what is named of several places from j on: the first that fails, or where none does what comes later
abbrev pub Placed : (ℕ → Bool) → (ℕ → Verdict) → ℕ → ℕ → Verdict → Verdict → Type 0
Placed fails names j m later v =
    ((g : ℕ) × (j ≤ g) × (g < j + m) × (fails g ≡ true) × ((k : ℕ) → j ≤ k → k < g → fails k ≡ false) × (v ≡ names g))
    ⊎ (((k : ℕ) → j ≤ k → k < j + m → fails k ≡ false) × (v ≡ later))

module _ (number file w : ℕ) (fails : ℕ → Bool) (others : List Case) (later : Verdict) where
  abbrev names : ℕ → Verdict
  names g = verdict number file g w

  -- of so many places from j on, and other cases behind them
  abbrev placed : ℕ → ℕ → Verdict
  placed j m = first (map (λ i. case number file i w (fails i)) (numbers j m) ++ others) later

  pub places_say : (j m : ℕ) → Placed fails names j m (first others later) (placed j m)
  unfolding numbers first
  places_say j zero = inr ((λ k a b. absurd (omega arith)), refl)
  places_say j (suc m) = go (fails j) refl (places_say (suc j) m)
    where
      at : (k : ℕ) → fails j ≡ false → (suc j ≤ k → fails k ≡ false) → j ≤ k → fails k ≡ false
      at k e f h = ⊎_elim (λ q. ap fails (sym q) ∙ e) (λ n. f (omega (arith, n))) (same? j k)

      go : (b : Bool) → fails j ≡ b → Placed fails names (suc j) m (first others later) (placed (suc j) m)
          → Placed fails names j (suc m) (first others later) (cond (fails j) (names j) (placed (suc j) m))
      go true q p = inl (j, omega arith, omega arith, q, (λ k a b. absurd (omega arith)), rw q)
      go false q (inl (g, l, h, e, none, is)) = inl (g, omega arith, omega arith, e, (λ k a b. at k q (λ d. none k d b) a), rw q is)
      go false q (inr (none, is)) = inr ((λ k a b. at k q (λ d. none k d (omega arith)) a), rw q is)

  -- the first place that fails is named
  pub places_first : (j m g : ℕ) → j ≤ g → g < j + m → ((k : ℕ) → j ≤ k → k < g → fails k ≡ false) → fails g ≡ true → placed j m ≡ names g
  places_first j m g l h none e = go (places_say j m)
    where
      go : Placed fails names j m (first others later) (placed j m) → placed j m ≡ names g
      go (inr (all, is)) = absurd (clash e (all g l h))
      go (inl (k, a, b, t, before, is)) = is ∙ ap names (same (dec_lt k g) (dec_lt g k))
        where
          same : Dec (k < g) → Dec (g < k) → k ≡ g
          same (yes d) x = absurd (clash t (none k a d))
          same (no d) (yes x) = absurd (clash e (before g l x))
          same (no d) (no x) = omega arith
