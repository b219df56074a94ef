-- The refusals of a call that takes a stage and a list of a given length: reading, 12 and 16, and what holds where there is none.
-- Assumes nothing.
use Prim.Native.Nat.{ℕ, zero, suc, ◌+◌, ◌-◌, ◌*◌, ◌≤◌, ◌<◌}
use native.Mathlib.Omega.{arith}
use mathlib.Core.Path.{◌≡◌, refl, sym, ap, ◌∙◌, subst}
use mathlib.Core.Logic.{◌⊎◌, inl, inr, ◌≢◌}
use mathlib.Core.Bool.{Bool, true, false, cond, not}
use mathlib.Core.List.{List, [], ◌∷◌, ◌++◌, map, flat_map}
use lib.ListN.{length}
use lib.Dec.{eqb}
use Rattle.runs.specs.Net.{nets}
use Rattle.runs.proofs.Test.{clash, not-false, same?, eqb_eq, eqb_same, eqb_other}
use Rattle.netlist.specs.declared.File.TheVariants.{Stage}
use Rattle.netlist.specs.Reading.{Places, Reading, refused, readable, read_file, stage_limits}
use Rattle.verdict.specs.declared.Verdict.{Verdict}
use Rattle.verdict.proofs.Words.{index_in, in_index}
use Rattle.verdict.proofs.Refusals.{InTable}
use Rattle.check_spec.specs.Cases.{verdict, accepted, Case, case, Check, first, judge, sweep}
use Rattle.check_spec.specs.Lists.{numbers}
use Rattle.check_spec.specs.Content.{Content}
use Rattle.check_spec.specs.Rows.{net_of, reaches_itself}
use Rattle.check_spec.specs.Checks.{looped}
use Rattle.check_spec.specs.Verdicts.{refusal, reading, row_stage}
use Rattle.check_spec.specs.Demands.{Pass, Named, LoopFree}
use Rattle.check_spec.proofs.First.{Each, each-++, first_pass, judged, named_says, places_first, sweep_each, sweep_in, sweep_out}
use Rattle.check_spec.proofs.Sound.{reading_number}
use Rattle.run_spec.specs.Play.{wrong_length, opening_checks}

pass_left : (a b : List Case) → Pass (a ++ b) → Pass a
pass_left [] b p = tt
pass_left (c ∷ a) b p = (p.0, pass_left a b p.1)

pass_right : (a b : List Case) → Pass (a ++ b) → Pass b
pass_right [] b p = p
pass_right (c ∷ a) b p = pass_right a b p.1

module _ (stage : List ℕ) (each : ℕ) (list : List ℕ) where
  abbrev s : Content
  s = row_stage stage

  abbrev n : ℕ
  n = each * nets (net_of s)

  abbrev checks : List Check
  checks = opening_checks stage each list

  abbrev loops : ℕ → Bool
  loops g = reaches_itself (net_of s) (2 * s.inputs + g)

  -- ---- each refusal at its condition

  pub by_reading : (number at : ℕ) → read_file Stage stage_limits stage ≡ refused number at → judge checks ≡ verdict number 1 at 0
  unfolding judge first refusal
  by_reading number at e = ap (λ (x : Reading). first (refusal Stage x) (judge (looped s ∷ wrong_length n list ∷ []))) e

  module _ (p : Places) (reads : read_file Stage stage_limits stage ≡ readable p) where
    past_reading : judge checks ≡ judge (looped s ∷ wrong_length n list ∷ [])
    unfolding judge first refusal
    past_reading = ap (λ (x : Reading). first (refusal Stage x) (judge (looped s ∷ wrong_length n list ∷ []))) reads

    pub by_12 : (g : ℕ) → g < length s.gates → ((k : ℕ) → k < g → loops k ≡ false) → loops g ≡ true → judge checks ≡ verdict 12 1 g 0
    unfolding judge looped sweep flat_map
    by_12 g h none e = past_reading ∙ places_first 12 1 0 loops [] (judge (wrong_length n list ∷ [])) 0 (length s.gates) g (omega arith) (omega arith) (λ k a b. none k b) e

    module _ (free : (k : ℕ) → k < length s.gates → loops k ≡ false) where
      past_12 : judge checks ≡ judge (wrong_length n list ∷ [])
      unfolding judge looped
      past_12 = past_reading ∙ first_pass (looped s) (judge (wrong_length n list ∷ []))
          (sweep_in 12 1 (numbers 0 (length s.gates)) (λ w. loops) (0 ∷ []) (λ w x i y. free i (in_index (length s.gates) i y)))

      pub by_16 : ¬ (length list ≡ n) → judge checks ≡ verdict 16 3 (length list) 0
      unfolding judge first
      by_16 d = past_12 ∙ ap (λ (b : Bool). cond (not b) (verdict 16 3 (length list) 0) accepted) (eqb_other (length list) n d)

      pub by_none : length list ≡ n → judge checks ≡ accepted
      unfolding judge first
      by_none e =
          let z : eqb (length list) n ≡ true = rw e (eqb_same n) in
          past_12 ∙ ap (λ (b : Bool). cond (not b) (verdict 16 3 (length list) 0) accepted) z

  -- ---- where there is none

  pub record Unrefused : Type 0 where
    pub is : judge checks ≡ accepted
    pub reads : Pass (reading Stage stage_limits stage)
    pub free : LoopFree (net_of s)
    pub fits : length list ≡ n

  numbered : Each (λ c. ¬ (c.names.number ≡ 0)) (flat_map (λ c. c) checks)
  unfolding looped flat_map
  numbered =
      each-++ (λ c. ¬ (c.names.number ≡ 0)) (reading Stage stage_limits stage) _ (reading_number 0 (λ t. omega (arith, t.0)) Stage stage_limits stage)
      (each-++ (λ c. ¬ (c.names.number ≡ 0)) (looped s) _ (sweep_each 12 1 (numbers 0 (length s.gates)) (λ w. loops) (λ c. ¬ (c.names.number ≡ 0)) (0 ∷ []) (λ w x i y q. omega arith))
      ((λ q. omega arith), tt))

  pub unrefused : (judge checks).number ≡ 0 → Unrefused
  unfolding flat_map looped
  unrefused e = go (judged checks)
    where
      go : Named (flat_map (λ c. c) checks) (judge checks) ⊎ Pass (flat_map (λ c. c) checks) × (judge checks ≡ accepted) → Unrefused
      go (inl x) =
          let y = named_says (λ c. ¬ (c.names.number ≡ 0)) (flat_map (λ c. c) checks) (judge checks) numbered x in
          absurd (y.1 (sym (ap (λ (v : Verdict). v.number) y.3) ∙ e))
      go (inr (p, is)) =
          let later = pass_right (reading Stage stage_limits stage) _ p in
          let last = pass_right (looped s) (wrong_length n list ++ []) later in
          record {
            is = is;
            reads = pass_left (reading Stage stage_limits stage) _ p;
            free = λ net h.
                let z : 2 * s.inputs + (net - 2 * s.inputs) ≡ net = omega (arith, h.0) in
                ap (reaches_itself (net_of s)) (sym z)
                ∙ sweep_out 12 1 (numbers 0 (length s.gates)) (λ w. loops) (0 ∷ []) (pass_left (looped s) (wrong_length n list ++ []) later) 0 (inl refl) (net - 2 * s.inputs)
                (index_in (length s.gates) (net - 2 * s.inputs) (omega (arith, h.0, h.1)));
            fits = eqb_eq (length list) n (not-false (eqb (length list) n) (λ q. clash (ap not q) last.0));
          }
