-- Checks under their numbers: what one says where it finds nothing, and what is claimed of a case of it that fails; hence what the verdict of a list of checks
-- says by its number, wherever in the list a check stands.
-- Assumes nothing.
use Prim.Native.Nat.{ℕ, ◌+◌, ◌-◌, ◌*◌, ◌<◌}
use native.Mathlib.Omega.{arith}
use mathlib.Core.Path.{◌≡◌, refl, sym, ap, ◌∙◌}
use mathlib.Core.Logic.{◌⊎◌, inl, inr, ◌↔◌}
use mathlib.Core.Bool.{Bool, true, false, not}
use mathlib.Core.List.{List, [], ◌∷◌, flat_map}
use lib.ListN.{length}
use lib.Dec.{eqb}
use Rattle.runs.specs.Net.{IsGate}
use Rattle.runs.proofs.Test.{clash, not-false, eqb_same, eqb_eq}
use Rattle.verdict.specs.declared.Verdict.{Verdict}
use Rattle.verdict.specs.declared.WordOrder.{WordOrder}
use Rattle.verdict.specs.Graph.{In}
use Rattle.verdict.proofs.Words.{index_in, in_index}
use Rattle.check_spec.specs.Cases.{accepted, verdict, case, Check, first, judge, sweep}
use Rattle.check_spec.specs.Lists.{numbers}
use Rattle.check_spec.specs.Content.{Content}
use Rattle.check_spec.specs.Rows.{net_of}
use Rattle.check_spec.specs.Words.{spelled, names, IsWord}
use Rattle.check_spec.specs.Checks.{swept}
use Rattle.check_spec.specs.Demands.{Pass, Named}
use Rattle.check_spec.proofs.First.{Each, Placed, each_map, places_say, first_says, first_pass, named_says, none_named, sweep_each, sweep_in, sweep_out}
use Rattle.check_spec.proofs.Names.{named_word, word_named}

-- a verdict of a number that the first of some checks does not name: it passes, and the verdict is that of the others
pub judge_later : (number : ℕ) (c : Check) (cs : List Check) → Each (λ d. ¬ (d.names.number ≡ number)) c → (judge (c ∷ cs)).number ≡ number
    → Pass c × (judge (c ∷ cs) ≡ judge cs)
unfolding judge
judge_later number c cs p e = none_named number c (judge cs) p e

pub judge_pass : (c : Check) (cs : List Check) → Pass c → judge (c ∷ cs) ≡ judge cs
unfolding judge
judge_pass c cs p = first_pass c (judge cs) p

-- ---- the law of a check, and those of a list

-- A check of some number: it finds nothing exactly if what it says is so, which is part of what is to be so for the whole of its list; and what is claimed of
-- a verdict that it gives.
pub record Law (Whole : Type 0) (Claim : Verdict → Type 0) (number : ℕ) (Says : Type 0) (c : Check) : Type 0 where
  pub passes : Pass c ↔ Says
  pub in_whole : Whole → Says
  pub cases : Each (λ d. (d.names.number ≡ number) × (d.fails ≡ true → Claim d.names)) c

-- a check names a verdict: a case of it fails, and the verdict is that of the first
abbrev pub Names : Check → Verdict → Type 0
Names c v = (later : Verdict) × Named c (first c later) × (v ≡ first c later)

infixr 5 ◌&◌
pub data Laws (Whole : Type 0) (Claim : Verdict → Type 0) : List Check → Type 1 where
  none : Laws Whole Claim []
  ◌&◌ : {number : ℕ} {Says : Type 0} {c : Check} {cs : List Check} → Law Whole Claim number Says c → Laws Whole Claim cs → Laws Whole Claim (c ∷ cs)

module _ {Whole : Type 0} {Claim : Verdict → Type 0} where
  other : (n : ℕ) {number : ℕ} {Says : Type 0} {c : Check} → Law Whole Claim number Says c → eqb number n ≡ false → Each (λ d. ¬ (d.names.number ≡ n)) c
  other n {c = c} l e = each_map _ _ (λ d h p. clash (ap (λ (k : ℕ). eqb k n) (sym h.0 ∙ p) ∙ eqb_same n) e) c l.cases

  -- what check m says, if it stands before check n; every check stands before 0, which is the number of none
  abbrev pub Before : ℕ → ℕ → {cs : List Check} → Laws Whole Claim cs → Type 0
  Before n m none = Unit {0}
  Before n m (◌&◌ {number = k} {Says = Says} l ls) =
      elim (eqb k n) as (λ b. Type 0)
      [ true ↦ Unit {0} | false ↦ elim (eqb k m) as (λ b. Type 0) [ true ↦ Says | false ↦ Before n m ls ] ]

  -- the verdict is one of which something is claimed, or accepts
  pub claimed : {cs : List Check} → Laws Whole Claim cs → Claim (judge cs) ⊎ (judge cs ≡ accepted)
  unfolding judge
  claimed none = inr refl
  claimed (◌&◌ {number = k} {Says = Says} {c = c} {cs = cs} l ls) = go (first_says c (judge cs)) (claimed ls)
    where
      go : Named c (first c (judge cs)) ⊎ (Pass c × (first c (judge cs) ≡ judge cs)) → Claim (judge cs) ⊎ (judge cs ≡ accepted)
          → Claim (first c (judge cs)) ⊎ (first c (judge cs) ≡ accepted)
      go (inl n) later = let r = named_says _ c (first c (judge cs)) l.cases n in inl (rw r.3 (r.1.1 r.2))
      go (inr q) (inl x) = inl (rw q.1 x)
      go (inr q) (inr z) = inr (q.1 ∙ z)

  -- nothing is found in a whole
  pub whole_accepted : Whole → {cs : List Check} → Laws Whole Claim cs → judge cs ≡ accepted
  unfolding judge
  whole_accepted w none = refl
  whole_accepted w (◌&◌ {number = k} {Says = Says} {c = c} {cs = cs} l ls) = judge_pass c cs (l.passes.1 (l.in_whole w)) ∙ whole_accepted w ls

  -- what the checks of number n say; no verdict has that number where it is so
  abbrev pub Saying : ℕ → {cs : List Check} → Laws Whole Claim cs → Type 0
  Saying n none = Unit {0}
  Saying n (◌&◌ {number = k} {Says = Says} l ls) = elim (eqb k n) as (λ b. Type 0) [ true ↦ Says × Saying n ls | false ↦ Saying n ls ]

  pub not_named : (n : ℕ) → ¬ (n ≡ 0) → {cs : List Check} (ls : Laws Whole Claim cs) → Saying n ls → ¬ ((judge cs).number ≡ n)
  unfolding judge
  not_named n z none p e = z (sym e)
  not_named n z (◌&◌ {number = k} {Says = Says} {c = c} {cs = cs} l ls) p e = go (eqb k n) refl p (not_named n z ls)
    where
      go : (b : Bool) → eqb k n ≡ b → elim b as (λ b. Type 0) [ true ↦ Says × Saying n ls | false ↦ Saying n ls ] → (Saying n ls → ¬ ((judge cs).number ≡ n)) → ⊥
      go true q p later = later p.1 (ap (λ (v : Verdict). v.number) (sym (judge_pass c cs (l.passes.1 p.0))) ∙ e)
      go false q p later = later p (ap (λ (v : Verdict). v.number) (sym (judge_later n c cs (other n l q) e).1) ∙ e)

  -- no check has number n
  abbrev pub lacking : ℕ → {cs : List Check} → Laws Whole Claim cs → Bool
  lacking n none = true
  lacking n (◌&◌ {number = k} l ls) = elim (eqb k n) as (λ b. Bool) [ true ↦ false | false ↦ lacking n ls ]

  lacking-says : (n : ℕ) {cs : List Check} (ls : Laws Whole Claim cs) → lacking n ls ≡ true → Saying n ls
  lacking-says n none a = tt
  lacking-says n (◌&◌ {number = k} {Says = Says} l ls) a = go (eqb k n) a (lacking-says n ls)
    where
      go : (b : Bool) → elim b as (λ b. Bool) [ true ↦ false | false ↦ lacking n ls ] ≡ true → (lacking n ls ≡ true → Saying n ls)
          → elim b as (λ b. Type 0) [ true ↦ Says × Saying n ls | false ↦ Saying n ls ]
      go true a later = absurd (clash a refl)
      go false a later = later a

  -- which check of number n a verdict of this number comes from: the first of them, or a later one where the first says what it says
  abbrev pub From : ℕ → Verdict → {cs : List Check} → Laws Whole Claim cs → Type 0
  From n v none = ⊥
  From n v (◌&◌ {number = k} {Says = Says} {c = c} l ls) =
      elim (eqb k n) as (λ b. Type 0)
      [ true ↦ elim (lacking n ls) as (λ b. Type 0) [ true ↦ Names c v | false ↦ Names c v ⊎ (Says × From n v ls) ] | false ↦ From n v ls ]

  pub comes_from : (n : ℕ) → ¬ (n ≡ 0) → (v : Verdict) {cs : List Check} (ls : Laws Whole Claim cs) → v ≡ judge cs → v.number ≡ n → From n v ls
  unfolding judge
  comes_from n z v none is e = absurd (z (sym e ∙ ap (λ (v : Verdict). v.number) is))
  comes_from n z v (◌&◌ {number = k} {Says = Says} {c = c} {cs = cs} l ls) is e = go (eqb k n) (lacking n ls) refl refl (comes_from n z v ls)
    where
      here : (judge (c ∷ cs)).number ≡ n
      here = ap (λ (v : Verdict). v.number) (sym is) ∙ e

      go : (b d : Bool) → eqb k n ≡ b → lacking n ls ≡ d → (v ≡ judge cs → v.number ≡ n → From n v ls)
          → elim b as (λ b. Type 0) [ true ↦ elim d as (λ b. Type 0) [ true ↦ Names c v | false ↦ Names c v ⊎ (Says × From n v ls) ] | false ↦ From n v ls ]
      go false d q a later = later (is ∙ (judge_later n c cs (other n l q) here).1) e
      go true true q a later = at (first_says c (judge cs))
        where
          at : Named c (first c (judge cs)) ⊎ (Pass c × (first c (judge cs) ≡ judge cs)) → Names c v
          at (inl m) = (judge cs, m, is)
          at (inr p) = absurd (not_named n z ls (lacking-says n ls a) (ap (λ (v : Verdict). v.number) (sym p.1) ∙ here))
      go true false q a later = at (first_says c (judge cs))
        where
          at : Named c (first c (judge cs)) ⊎ (Pass c × (first c (judge cs) ≡ judge cs)) → Names c v ⊎ (Says × From n v ls)
          at (inl m) = inl (judge cs, m, is)
          at (inr p) = inr (l.passes.0 p.0, later (is ∙ p.1) e)

  -- what the checks before number n say, all together
  abbrev pub AllBefore : ℕ → {cs : List Check} → Laws Whole Claim cs → Type 0
  AllBefore n none = Unit {0}
  AllBefore n (◌&◌ {number = k} {Says = Says} l ls) = elim (eqb k n) as (λ b. Type 0) [ true ↦ Unit {0} | false ↦ Says × AllBefore n ls ]

  -- no check before number n has the number v
  abbrev pub apart : ℕ → ℕ → {cs : List Check} → Laws Whole Claim cs → Bool
  apart n v none = true
  apart n v (◌&◌ {number = k} l ls) =
      elim (eqb k n) as (λ b. Bool) [ true ↦ true | false ↦ elim (eqb k v) as (λ b. Bool) [ true ↦ false | false ↦ apart n v ls ] ]

  -- it holds where the verdict has such a number
  pub all_before : (n v : ℕ) {cs : List Check} (ls : Laws Whole Claim cs) → apart n v ls ≡ true → (judge cs).number ≡ v → AllBefore n ls
  all_before n v none a e = tt
  all_before n v (◌&◌ {number = k} {Says = Says} {c = c} {cs = cs} l ls) a e = go (eqb k n) (eqb k v) refl a (all_before n v ls)
    where
      go : (b d : Bool) → eqb k v ≡ d → elim b as (λ b. Bool) [ true ↦ true | false ↦ elim d as (λ b. Bool) [ true ↦ false | false ↦ apart n v ls ] ] ≡ true
          → (apart n v ls ≡ true → (judge cs).number ≡ v → AllBefore n ls) → elim b as (λ b. Type 0) [ true ↦ Unit {0} | false ↦ Says × AllBefore n ls ]
      go true d q a later = tt
      go false true q a later = absurd (clash a refl)
      go false false q a later =
          let p = judge_later v c cs (other v l q) e in
          (l.passes.0 p.0, later a (ap (λ (x : Verdict). x.number) (sym p.1) ∙ e))

  -- each by its number
  pub said : (n m : ℕ) {cs : List Check} (ls : Laws Whole Claim cs) → AllBefore n ls → Before n m ls
  said n m none a = tt
  said n m (◌&◌ {number = k} {Says = Says} l ls) a = go (eqb k n) (eqb k m) a (said n m ls)
    where
      go : (b d : Bool) → elim b as (λ b. Type 0) [ true ↦ Unit {0} | false ↦ Says × AllBefore n ls ] → (AllBefore n ls → Before n m ls)
          → elim b as (λ b. Type 0) [ true ↦ Unit {0} | false ↦ elim d as (λ b. Type 0) [ true ↦ Says | false ↦ Before n m ls ] ]
      go true d a later = tt
      go false true a later = a.0
      go false false a later = later a.1

  -- what all checks of a number say that stand before number n, where several have it
  abbrev pub EachBefore : ℕ → ℕ → {cs : List Check} → Laws Whole Claim cs → Type 0
  EachBefore n m none = Unit {0}
  EachBefore n m (◌&◌ {number = k} {Says = Says} l ls) =
      elim (eqb k n) as (λ b. Type 0)
      [ true ↦ Unit {0} | false ↦ elim (eqb k m) as (λ b. Type 0) [ true ↦ Says × EachBefore n m ls | false ↦ EachBefore n m ls ] ]

  pub each_said : (n m : ℕ) {cs : List Check} (ls : Laws Whole Claim cs) → AllBefore n ls → EachBefore n m ls
  each_said n m none a = tt
  each_said n m (◌&◌ {number = k} {Says = Says} l ls) a = go (eqb k n) (eqb k m) a (each_said n m ls)
    where
      go : (b d : Bool) → elim b as (λ b. Type 0) [ true ↦ Unit {0} | false ↦ Says × AllBefore n ls ] → (AllBefore n ls → EachBefore n m ls)
          → elim b as (λ b. Type 0) [ true ↦ Unit {0} | false ↦ elim d as (λ b. Type 0) [ true ↦ Says × EachBefore n m ls | false ↦ EachBefore n m ls ] ]
      go true d a later = tt
      go false true a later = (a.0, later a.1)
      go false false a later = later a.1

  apart_itself : (n : ℕ) {cs : List Check} (ls : Laws Whole Claim cs) → apart n n ls ≡ true
  apart_itself n none = refl
  apart_itself n (◌&◌ {number = k} l ls) = go (eqb k n) (apart_itself n ls)
    where
      go : (b : Bool) → apart n n ls ≡ true → elim b as (λ b. Bool) [ true ↦ true | false ↦ elim b as (λ b. Bool) [ true ↦ false | false ↦ apart n n ls ] ] ≡ true
      go true e = refl
      go false e = e

  -- what check m says, where the verdict has the number n
  pub before : (n m : ℕ) {cs : List Check} (ls : Laws Whole Claim cs) → (judge cs).number ≡ n → Before n m ls
  before n m ls e = said n m ls (all_before n n ls (apart_itself n ls) e)

  -- the checks from number n on, whose verdict it is where those before say what they say
  abbrev pub from : ℕ → {cs : List Check} → Laws Whole Claim cs → List Check
  from n none = []
  from n (◌&◌ {number = k} {c = c} {cs = cs} l ls) = elim (eqb k n) as (λ b. List Check) [ true ↦ c ∷ cs | false ↦ from n ls ]

  pub judge_from : (n : ℕ) {cs : List Check} (ls : Laws Whole Claim cs) → AllBefore n ls → judge cs ≡ judge (from n ls)
  judge_from n none p = refl
  judge_from n (◌&◌ {number = k} {Says = Says} {c = c} {cs = cs} l ls) p = go (eqb k n) p (judge_from n ls)
    where
      go : (b : Bool) → elim b as (λ b. Type 0) [ true ↦ Unit {0} | false ↦ Says × AllBefore n ls ] → (AllBefore n ls → judge cs ≡ judge (from n ls))
          → judge (c ∷ cs) ≡ judge (elim b as (λ b. List Check) [ true ↦ c ∷ cs | false ↦ from n ls ])
      go true p later = refl
      go false p later = judge_pass c cs (l.passes.1 p.0) ∙ later p.1

  -- the numbers of a list, in its order
  abbrev pub numbers_of : {cs : List Check} → Laws Whole Claim cs → List ℕ
  numbers_of none = []
  numbers_of (◌&◌ {number = k} l ls) = k ∷ numbers_of ls

-- ---- laws of checks

-- where a check passes that compares two numbers, one that looks at some places, one at the gates, and one that sweeps the words
pub equal_passes : (number file at word mine theirs : ℕ) → Pass (case number file at word (not (eqb mine theirs)) ∷ []) ↔ (mine ≡ theirs)
equal_passes number file at word mine theirs = (
  (λ p. eqb_eq mine theirs (not-false (eqb mine theirs) (λ e. clash (ap not e) p.0))),
  (λ e. (ap not (ap (eqb mine) (sym e) ∙ eqb_same mine), tt)),
)

pub places_passes : (number file m : ℕ) (fails : ℕ → Bool) → Pass (sweep number file (0 ∷ []) (numbers 0 m) (λ w. fails)) ↔ ((i : ℕ) → i < m → fails i ≡ false)
places_passes number file m fails = (
  (λ p i l. sweep_out number file (numbers 0 m) (λ w. fails) (0 ∷ []) p 0 (inl refl) i (index_in m i l)),
  (λ h. sweep_in number file (numbers 0 m) (λ w. fails) (0 ∷ []) (λ w x i y. h i (in_index m i y))),
)

-- the least place at which it fails, where it names a verdict
pub places_least : (number file m : ℕ) (fails : ℕ → Bool) (v : Verdict) → Names (sweep number file (0 ∷ []) (numbers 0 m) (λ w. fails)) v
    → (i : ℕ) × (i < m) × (fails i ≡ true) × ((k : ℕ) → k < i → fails k ≡ false) × (v ≡ verdict number file i 0)
unfolding sweep flat_map first
places_least number file m fails v n = go (places_say number file 0 fails [] n.0 0 m)
  where
    go : Placed fails (λ i. verdict number file i 0) 0 m n.0 (first (sweep number file (0 ∷ []) (numbers 0 m) (λ w. fails)) n.0)
        → (i : ℕ) × (i < m) × (fails i ≡ true) × ((k : ℕ) → k < i → fails k ≡ false) × (v ≡ verdict number file i 0)
    go (inl (i, a, l, t, less, is)) = (i, omega arith, t, (λ k h. less k (omega arith) h), n.2 ∙ is)
    go (inr (all, is)) =
        let each = sweep_each number file (numbers 0 m) (λ w. fails) (λ c. c.fails ≡ false) (0 ∷ []) (λ w x i y. all i (omega arith) (omega (arith, in_index m i y))) in
        let r = named_says (λ c. c.fails ≡ false) _ _ each n.1 in
        absurd (clash r.2 r.1)

module _ (s : Content) where
  pub gates_passes : (number : ℕ) (fails : ℕ → Bool) → Pass (sweep number 1 (0 ∷ []) (numbers 0 (length s.gates)) (λ w g. fails (2 * s.inputs + g)))
      ↔ ((g : ℕ) → IsGate (net_of s) g → fails g ≡ false)
  gates_passes number fails =
      let at = places_passes number 1 (length s.gates) (λ g. fails (2 * s.inputs + g)) in (
        (λ p g i.
            let e : 2 * s.inputs + (g - 2 * s.inputs) ≡ g = omega (arith, i.0) in
            ap fails (sym e) ∙ at.0 p (g - 2 * s.inputs) (omega (arith, i.0, i.1))),
        (λ h. at.1 (λ g l. h (2 * s.inputs + g) (omega arith, omega arith))),
      )

  pub swept_passes : (order : WordOrder) (number file m : ℕ) (fails : ℕ → ℕ → Bool) → Pass (swept order s number file m fails)
      ↔ ((w : ℕ) → IsWord s w → (i : ℕ) → i < m → fails w i ≡ false)
  swept_passes order number file m fails =
      let sp = spelled order s.inputs in (
        (λ p w x i l.
            let n = word_named order s w x in
            ap (λ (u : ℕ). fails u i) (sym n.2)
            ∙ sweep_out number file (numbers 0 m) (λ name. fails (sp name)) (names order s) p n.0 n.1 i (index_in m i l)),
        (λ h. sweep_in number file (numbers 0 m) (λ name. fails (sp name)) (names order s) (λ name x i y. h (sp name) (named_word order s name x) i (in_index m i y))),
      )

-- their laws
zero_in : (w : ℕ) → In w (0 ∷ []) → w ≡ 0
zero_in w (inl e) = e
zero_in w (inr h) = absurd h

module _ {Whole : Type 0} {Claim : Verdict → Type 0} where
  pub test_law : (number file at word : ℕ) (fails : Bool) → (Whole → fails ≡ false) → Claim (verdict number file at word)
      → Law Whole Claim number (fails ≡ false) (case number file at word fails ∷ [])
  test_law number file at word fails h claim = record { passes = (λ p. p.0, λ e. (e, tt)); in_whole = h; cases = ((refl, λ e. claim), tt) }

  pub equal_law : (number file at word mine theirs : ℕ) → (Whole → mine ≡ theirs) → Claim (verdict number file at word)
      → Law Whole Claim number (mine ≡ theirs) (case number file at word (not (eqb mine theirs)) ∷ [])
  equal_law number file at word mine theirs h claim = record { passes = equal_passes number file at word mine theirs; in_whole = h; cases = ((refl, λ e. claim), tt) }

  pub places_law : (number file m : ℕ) (fails : ℕ → Bool) → (Whole → (i : ℕ) → i < m → fails i ≡ false)
      → ((i : ℕ) → i < m → fails i ≡ true → Claim (verdict number file i 0))
      → Law Whole Claim number ((i : ℕ) → i < m → fails i ≡ false) (sweep number file (0 ∷ []) (numbers 0 m) (λ w. fails))
  places_law number file m fails h claim = record {
    passes = places_passes number file m fails;
    in_whole = h;
    cases = sweep_each number file (numbers 0 m) (λ w. fails) _ (0 ∷ []) (λ w x i y. (refl, λ e. rw (zero_in w x) (claim i (in_index m i y) e)));
  }

  module _ (s : Content) where
    pub gates_law : (number : ℕ) (fails : ℕ → Bool) → (Whole → (g : ℕ) → IsGate (net_of s) g → fails g ≡ false) → ((i : ℕ) → Claim (verdict number 1 i 0))
        → Law Whole Claim number ((g : ℕ) → IsGate (net_of s) g → fails g ≡ false) (sweep number 1 (0 ∷ []) (numbers 0 (length s.gates)) (λ w g. fails (2 * s.inputs + g)))
    gates_law number fails h claim = record {
      passes = gates_passes s number fails;
      in_whole = h;
      cases = sweep_each number 1 (numbers 0 (length s.gates)) (λ w g. fails (2 * s.inputs + g)) _ (0 ∷ []) (λ w x i y. (refl, λ e. rw (zero_in w x) (claim i)));
    }

    pub swept_law : (order : WordOrder) (number file m : ℕ) (fails : ℕ → ℕ → Bool) → (Whole → (w : ℕ) → IsWord s w → (i : ℕ) → i < m → fails w i ≡ false)
        → ((name : ℕ) → In name (names order s) → (i : ℕ) → i < m → fails (spelled order s.inputs name) i ≡ true → Claim (verdict number file i name))
        → Law Whole Claim number ((w : ℕ) → IsWord s w → (i : ℕ) → i < m → fails w i ≡ false) (swept order s number file m fails)
    swept_law order number file m fails h claim = record {
      passes = swept_passes s order number file m fails;
      in_whole = h;
      cases = sweep_each number file (numbers 0 m) (λ name. fails (spelled order s.inputs name)) _ (names order s) (λ name x i y. (refl, claim name x i (in_index m i y)));
    }
