-- What a verdict that speaks of runs says of its two files: they read, the stage has no loop, and the test of its check holds in the word and at the place
-- that are named.
-- Assumes nothing.
use Prim.Native.Nat.{ℕ, ◌+◌, ◌*◌, ◌<◌}
use native.Mathlib.Omega.{arith}
use mathlib.Core.Path.{◌≡◌, refl, sym, ap, ◌∙◌, subst}
use mathlib.Core.Logic.{◌⊎◌, inl, inr}
use mathlib.Core.Bool.{Bool, true, false}
use mathlib.Core.List.{List, [], ◌∷◌}
use lib.ListN.{length}
use lib.Dec.{eqb}
use Rattle.verdict.specs.declared.Verdict.{Verdict}
use Rattle.verdict.specs.declared.WordOrder.{WordOrder}
use Rattle.verdict.proofs.Words.{in_index}
use Rattle.check_spec.specs.Cases.{Case, Check, accepted, first, judge}
use Rattle.check_spec.specs.Lists.{some, numbers}
use Rattle.check_spec.specs.Content.{Content, Files, raw_in, stage_in, reference_in}
use Rattle.check_spec.specs.Rows.{net_of, reaches_itself}
use Rattle.check_spec.specs.Words.{spelled, names}
use Rattle.check_spec.specs.Checks.{swept, wrong, incomplete, unobservable, fall_incomplete, fall_unobservable, looped, retired, retired_gate, never_rises, idle, checks}
use Rattle.check_spec.specs.Verdicts.{verdict_on}
use Rattle.check_spec.specs.Demands.{Pass, Named, BothRead, LoopFree, wiring_in}
use Rattle.wiring_spec.specs.Wiring.{registers, circular, uneven, missing, barred}
use Rattle.verdict.proofs.Steps.{some_all}
use Rattle.check_spec.proofs.First.{Each, first_says, named_says, sweep_each}
use Rattle.check_spec.proofs.Wired.{wired_free}
use Rattle.check_spec.proofs.Laws.{before}
use Rattle.check_spec.proofs.Sound.{Ran, laws, past_reading, accepted_sound, sound_free}
use Rattle.check_spec.proofs.Demanded.{of_runs_holds}

-- ---- what each case of some checks says, the named case says

abbrev EachCheck : (Case → Type 0) → List Check → Type 0
EachCheck P [] = Unit {0}
EachCheck P (c ∷ cs) = Each P c × EachCheck P cs

judge-says : (P : Case → Type 0) (cs : List Check) → EachCheck P cs
    → ((c : Case) × P c × (c.fails ≡ true) × (judge cs ≡ c.names)) ⊎ (judge cs ≡ accepted)
unfolding judge
judge-says P [] p = inr refl
judge-says P (c ∷ cs) p = go (first_says c (judge cs)) (judge-says P cs p.1)
  where
    go : Named c (first c (judge cs)) ⊎ (Pass c × (first c (judge cs) ≡ judge cs)) → ((d : Case) × P d × (d.fails ≡ true) × (judge cs ≡ d.names)) ⊎ (judge cs ≡ accepted)
        → ((d : Case) × P d × (d.fails ≡ true) × (first c (judge cs) ≡ d.names)) ⊎ (first c (judge cs) ≡ accepted)
    go (inl n) later = inl (named_says P c (first c (judge cs)) p.0 n)
    go (inr q) (inl (d, x, y, z)) = inl (d, x, y, q.1 ∙ z)
    go (inr q) (inr z) = inr (q.1 ∙ z)

module _ (order : WordOrder) (f : Files) where
  abbrev s : Content
  s = stage_in f

  abbrev raw : Content
  raw = raw_in f

  abbrev r : Content
  r = reference_in f

  abbrev v : Verdict
  v = verdict_on order f

  -- the word that the verdict names
  abbrev pub named : ℕ
  named = spelled order s.inputs v.word

  pub accepted_free : v.number ≡ 0 → BothRead f × LoopFree (net_of s)
  accepted_free e = let h = (accepted_sound order f e).1 in (h.read, sound_free h)

  pub refused_free : Ran v.number → BothRead f × LoopFree (net_of s)
  unfolding laws
  refused_free h =
      let n = v.number in
      let p = past_reading f order n (of_runs_holds n h).1 refl in
      let w = wired_free raw in
      let ls = laws f order in (
        p.0,
        some_all (λ k. (judge (checks order raw r)).number ≡ k → LoopFree (net_of s)) (13 ∷ 14 ∷ 15 ∷ 20 ∷ 21 ∷ []) (
          (λ q. w (before 13 12 ls q) (before 13 33 ls q)),
          (
            (λ q. w (before 14 12 ls q) (before 14 33 ls q)),
            (
              (λ q. w (before 15 12 ls q) (before 15 33 ls q)),
              (
                (λ q. w (before 20 12 ls q) (before 20 33 ls q)),
                ((λ q. w (before 21 12 ls q) (before 21 33 ls q)), tt),
              ),
            ),
          ),
        ) n h (ap (λ (x : Verdict). x.number) (sym p.1)),
      )

  -- ---- the test of a number, at a place and in a word

  abbrev Tested : ℕ → ℕ → ℕ → Type 0
  Tested n i w =
      elim (eqb n 13) as (λ b. Type 0) [
        | true ↦ (i < length s.outputs) × (wrong s r w i ≡ true)
        | false ↦
            elim (eqb n 14) as (λ b. Type 0) [
              | true ↦ (i < s.inputs) × (incomplete s w i ≡ true)
              | false ↦
                  elim (eqb n 15) as (λ b. Type 0) [
                    | true ↦ (i < length s.gates) × (unobservable s w i ≡ true)
                    | false ↦
                        elim (eqb n 20) as (λ b. Type 0) [
                          | true ↦ (i < s.inputs) × (fall_incomplete s w i ≡ true)
                          | false ↦
                              elim (eqb n 21) as (λ b. Type 0) [ true ↦ (i < length s.gates) × (fall_unobservable s w i ≡ true) | false ↦ Unit {0} ]
                        ]
                  ]
            ]
      ]

  abbrev Holds : Case → Type 0
  Holds c = c.fails ≡ true → Tested c.names.number c.names.at (spelled order s.inputs c.names.word)

  each_holds : EachCheck Holds (checks order raw r)
  unfolding checks looped retired idle
  each_holds =
      let sp = spelled order s.inputs in
      let m = length s.gates in
      let p = wiring_in f in
      let outs = length s.outputs in (
        ((λ t. tt), tt),
        (
          ((λ t. tt), tt),
          (
            sweep_each 12 1 (numbers 0 (length raw.gates)) (λ w g. reaches_itself (net_of raw) (2 * raw.inputs + g)) Holds (0 ∷ []) (λ w x i y t. tt),
            (
              sweep_each 33 1 (registers p) (λ w. circular p) Holds (0 ∷ []) (λ w x i y t. tt),
              (
                sweep_each 33 1 (registers p) (λ w. uneven p) Holds (0 ∷ []) (λ w x i y t. tt),
                (
                  sweep_each 34 1 (registers p) (λ w. missing p) Holds (0 ∷ []) (λ w x i y t. tt),
                  (
                    sweep_each 35 1 (registers p) (λ w. barred p) Holds (0 ∷ []) (λ w x i y t. tt),
                    (
                      sweep_each 28 1 (numbers 0 m) (λ w. retired_gate s) Holds (0 ∷ []) (λ w x i y t. tt),
                      (
                        sweep_each 13 1 (numbers 0 outs) (λ name. wrong s r (sp name)) Holds (names order s) (λ w x i y t. (in_index outs i y, t)),
                        (
                          sweep_each 14 1 (numbers 0 s.inputs) (λ name. incomplete s (sp name)) Holds (names order s) (λ w x i y t. (in_index s.inputs i y, t)),
                          (
                            sweep_each 15 1 (numbers 0 m) (λ name. unobservable s (sp name)) Holds (names order s) (λ w x i y t. (in_index m i y, t)),
                            (
                              sweep_each 20 1 (numbers 0 s.inputs) (λ name. fall_incomplete s (sp name)) Holds (names order s) (λ w x i y t. (in_index s.inputs i y, t)),
                              (
                                sweep_each 21 1 (numbers 0 m) (λ name. fall_unobservable s (sp name)) Holds (names order s) (λ w x i y t. (in_index m i y, t)),
                                (
                                  sweep_each 32 1 (numbers 0 m) (λ w g. never_rises s (2 * s.inputs + g)) Holds (0 ∷ []) (λ w x i y t. tt),
                                  tt,
                                ),
                              ),
                            ),
                          ),
                        ),
                      ),
                    ),
                  ),
                ),
              ),
            ),
          ),
        ),
      )

  tested : (n : ℕ) → Ran n → v.number ≡ n → Tested n v.at named
  tested n h e = subst (λ (k : ℕ). Tested k v.at named) e (go (judge-says Holds (checks order raw r) each_holds))
    where
      is : v ≡ judge (checks order raw r)
      is = (past_reading f order n (of_runs_holds n h).1 e).1

      go : ((c : Case) × Holds c × (c.fails ≡ true) × (judge (checks order raw r) ≡ c.names)) ⊎ (judge (checks order raw r) ≡ accepted) → Tested v.number v.at named
      go (inl (c, holds, t, q)) = subst (λ (x : Verdict). Tested x.number x.at (spelled order s.inputs x.word)) (sym (is ∙ q)) (holds t)
      go (inr q) = absurd (omega (arith, (of_runs_holds n h).0, ap (λ (x : Verdict). x.number) (is ∙ q)))

  pub at_13 : v.number ≡ 13 → (v.at < length s.outputs) × (wrong s r named v.at ≡ true)
  unfolding some
  at_13 e = tested 13 refl e

  pub at_14 : v.number ≡ 14 → (v.at < s.inputs) × (incomplete s named v.at ≡ true)
  unfolding some
  at_14 e = tested 14 refl e

  pub at_15 : v.number ≡ 15 → (v.at < length s.gates) × (unobservable s named v.at ≡ true)
  unfolding some
  at_15 e = tested 15 refl e

  pub at_20 : v.number ≡ 20 → (v.at < s.inputs) × (fall_incomplete s named v.at ≡ true)
  unfolding some
  at_20 e = tested 20 refl e

  pub at_21 : v.number ≡ 21 → (v.at < length s.gates) × (fall_unobservable s named v.at ≡ true)
  unfolding some
  at_21 e = tested 21 refl e
