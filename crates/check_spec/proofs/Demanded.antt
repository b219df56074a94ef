-- Demands 2 and 3 as theorems about the verdict on two files.
-- Assumes nothing.
use Prim.Native.Nat.{ℕ, ◌≤◌, ◌<◌}
use native.Mathlib.Omega.{arith}
use mathlib.Core.Path.{◌≡◌, refl, sym, ap, ◌∙◌, subst}
use mathlib.Core.Logic.{◌⊎◌, inl, inr, ◌↔◌, ⊎_elim}
use mathlib.Core.Bool.{Bool, true, false}
use mathlib.Core.List.{List, [], ◌∷◌, flat_map}
use lib.ListN.{length}
use Rattle.runs.specs.Theory.{AllHold}
use Rattle.netlist.specs.declared.File.TheVariants.{Reference}
use Rattle.netlist.specs.Commands.{stage_file}
use Rattle.netlist.specs.Reading.{Reading, refused, readable, read_file}
use Rattle.verdict.specs.declared.Verdict.{Verdict}
use Rattle.verdict.specs.declared.WordOrder.{WordOrder}
use Rattle.verdict.proofs.Refusals.{InTable}
use Rattle.check_spec.specs.Cases.{verdict, accepted, first, judge, sweep}
use Rattle.wiring_spec.specs.Parts.{Pipeline, register_count}
use Rattle.wiring_spec.specs.Wiring.{registers, circular, uneven, missing, barred}
use Rattle.wiring_spec.specs.Passing.{Circular, Uneven, Missing, Barred, Passes}
use Rattle.wiring_spec.proofs.Passing.{circular_sound, circular_complete, uneven_sound, uneven_complete, missing_sound, missing_complete, barred_sound, barred_complete, none_out, least_out, levelled_found, passes_exactly}
use Rattle.wiring_spec.proofs.Means.{wiring_means, wires_mean}
use Rattle.check_spec.specs.Content.{Content, Files, raw_in, stage_in, reference_in}
use Rattle.check_spec.specs.Rows.{net_of}
use Rattle.check_spec.specs.Words.{spelled}
use Rattle.check_spec.specs.Checks.{retired_gate, checks}
use Rattle.check_spec.specs.Verdicts.{refusal, checks_on, verdict_on}
use Rattle.check_spec.specs.Demands.{BothRead, LoopFree, Comparable, wiring_in, Acceptable, Demand2, Broken, Miswired, Demand3}
use Rattle.check_spec.proofs.First.{judged, places_first}
use Rattle.verdict.proofs.Steps.{some_all}
use Rattle.check_spec.proofs.Loops.{loops_found, settled_is, risen_is, fallen_is}
use Rattle.check_spec.proofs.Pairs.{data_of_holds, all_data_holds, all_null_holds}
use Rattle.check_spec.proofs.OneWord.{inside, hold_clean}
use Rattle.check_spec.proofs.Laws.{Names, numbers_of, all_before, said, each_said, before, claimed, comes_from, not_named, judge_from, places_least}
use Rattle.check_spec.proofs.View.{plain_verdict, wiring_named}
use Rattle.check_spec.proofs.Wired.{steps, wired_free}
use Rattle.check_spec.proofs.Sound.{Ran, Wired, laws, past_reading, reads_past, accepted_faultless, accepted_sound, idle_sound, faultless_accepted, sound_answers, sound_kept}

-- demand 3 speaks of numbers above 12, and of none by which a file is refused in reading
pub of_runs_holds : (n : ℕ) → Ran n → (12 < n) × (¬ (InTable n))
of_runs_holds n e = let r = some_all (λ k. (12 < k) × (17 < k → 19 < k)) (13 ∷ 14 ∷ 15 ∷ 20 ∷ 21 ∷ []) (omega arith) n e in (r.0, λ t. omega (arith, t.2 (omega arith), r.1 (omega (arith, t.2 (omega arith)))))

of_wires : (n : ℕ) → Wired n → ¬ (InTable n)
of_wires n e t = let r = some_all (λ k. 19 < k) (33 ∷ 34 ∷ 35 ∷ []) (omega arith) n e in omega (arith, t.2 (omega arith))

module _ (order : WordOrder) (f : Files) where
  abbrev raw : Content
  raw = raw_in f

  abbrev s : Content
  s = stage_in f

  abbrev r : Content
  r = reference_in f

  abbrev number : Verdict → ℕ
  number v = v.number

  -- the checks stand in the order of the papers: 33 to 35 "in this order between 12 and 28", 28 "between 12 and 13", 20 and 21 "after 15", 32 "after all
  -- other checks"
  pub check_order : numbers_of (laws f order) ≡ 10 ∷ 11 ∷ 12 ∷ 33 ∷ 33 ∷ 34 ∷ 35 ∷ 28 ∷ 13 ∷ 14 ∷ 15 ∷ 20 ∷ 21 ∷ 32 ∷ []
  unfolding laws
  check_order = refl

  -- ---- demand 2

  exactly : Comparable f → (verdict_on order f ≡ accepted) ↔ Acceptable f
  exactly k = (
    (λ v. let h = (accepted_faultless order f (ap number v)).1 in record { wiring = h.0.wiring; cast = h.0.cast; conforms = h.0.conforms; rises = h.1 }),
    (λ a. faultless_accepted {f = f} (
      record {
        read = k.read;
        inputs = k.inputs;
        outputs = k.outputs;
        raw_free = k.loop_free;
        wiring = a.wiring;
        cast = a.cast;
        conforms = a.conforms;
      },
      a.rises,
    ) order),
  )

  -- with hold everywhere the checks of the fall find nothing where those of the rise do
  hold_only : AllHold (net_of s) → ¬ ((number (verdict_on order f) ≡ 20) ⊎ (number (verdict_on order f) ≡ 21))
  unfolding laws
  hold_only hold (inl e) =
      let z = ap number (sym (past_reading f order 20 (λ t. omega (arith, t.1)) e).1) ∙ e in
      let ls = laws f order in
      not_named 20 (λ q. omega arith) ls (
        (λ w i. (hold_clean s r (wired_free raw (before 20 12 ls z) (before 20 33 ls z)) w hold (record { right = before 20 13 ls z w i; complete = before 20 14 ls z w i; observable = before 20 15 ls z w i })).complete),
        tt,
      ) z
  hold_only hold (inr e) =
      let z = ap number (sym (past_reading f order 21 (λ t. omega (arith, t.1)) e).1) ∙ e in
      let ls = laws f order in
      not_named 21 (λ q. omega arith) ls (
        (λ w i. (hold_clean s r (wired_free raw (before 21 12 ls z) (before 21 33 ls z)) w hold (record { right = before 21 13 ls z w i; complete = before 21 14 ls z w i; observable = before 21 15 ls z w i })).observable),
        tt,
      ) z

  -- "The check refuses them": 28 at the least gate of a retired kind
  retired : Comparable f → Passes (wiring_in f) → (g : ℕ) → g < length s.gates → retired_gate s g ≡ true → ((k : ℕ) → k < g → retired_gate s k ≡ false)
      → verdict_on order f ≡ verdict 28 1 g 0
  unfolding laws judge sweep flat_map
  retired k w g l e none =
      let n = (passes_exactly (wiring_in f)).0 w in
      reads_past f order k.read ∙ judge_from 28 (laws f order) (k.inputs, (k.outputs, (k.loop_free, (n.circular, (n.uneven, (n.missing, (n.barred, tt)))))))
      ∙ places_first 28 1 0 (retired_gate s) [] _ 0 (length s.gates) g (omega arith) (omega arith) (λ k a b. none k b) e

  -- Demand 2 holds of the verdict, whatever the two files hold.
  pub demand_2 : Demand2 order f (verdict_on order f)
  demand_2 = record {
    exactly = exactly;
    least = judged (checks_on order f);
    loops = loops_found raw;
    gates_only = λ x. ap (λ (next : ℕ → List ℕ). next x) (steps raw);
    data_is = data_of_holds;
    all_data_is = all_data_holds (net_of s);
    all_null_is = all_null_holds (net_of s);
    settled_is = λ free. settled_is s free;
    risen_is = λ free. risen_is s free;
    fallen_is = λ free w X. fallen_is s free _ X (inside s r free w);
    hold_only = hold_only;
    wiring_is = wiring_means (wiring_in f);
    wires_are = wires_mean (wiring_in f);
    nets_named = λ less read. wiring_named f less read.0;
    wires_free = wired_free raw;
    plain = plain_verdict order f;
    retired = retired;
    either_order = λ other. (
      (λ e. faultless_accepted (accepted_faultless order f (ap number e)).1 other),
      (λ e. faultless_accepted (accepted_faultless other f (ap number e)).1 order),
    );
  }

  -- ---- demand 3

  broken : Ran (number (verdict_on order f)) → BothRead f × Broken f (spelled order s.inputs (verdict_on order f).word) (verdict_on order f)
  unfolding laws
  broken e =
      let n = number (verdict_on order f) in
      let h = of_runs_holds n e in
      let p = past_reading f order n h.1 refl in
      let z : number (judge (checks order raw r)) ≡ n = ap number (sym p.1) in
      let ls = laws f order in
      let w = wired_free raw in
      let free = some_all (λ k. number (judge (checks order raw r)) ≡ k → LoopFree (net_of s)) (13 ∷ 14 ∷ 15 ∷ 20 ∷ 21 ∷ []) (
        (λ q. w (before 13 12 ls q) (before 13 33 ls q)),
        (
          (λ q. w (before 14 12 ls q) (before 14 33 ls q)),
          (
            (λ q. w (before 15 12 ls q) (before 15 33 ls q)),
            (
              (λ q. w (before 20 12 ls q) (before 20 33 ls q)),
              ((λ q. w (before 21 12 ls q) (before 21 33 ls q)), tt),
            ),
          ),
        ),
      ) n e z in (
        p.0,
        subst (λ (v : Verdict). Broken f (spelled order s.inputs v.word) v) (sym p.1)
            (⊎_elim (λ c. c.1 free (rw p.1 at e)) (λ q. absurd (omega (arith, h.0, ap number (p.1 ∙ q)))) (claimed ls)),
      )

  -- 33, 34 and 35 name the least register, and those before them say that there is none
  miswired : Wired (number (verdict_on order f)) → BothRead f × Miswired (wiring_in f) (verdict_on order f)
  unfolding laws
  miswired e =
      let n = number (verdict_on order f) in
      let b = past_reading f order n (of_wires n e) refl in
      (b.0, some_all (λ k. n ≡ k → Miswired p v) (33 ∷ 34 ∷ 35 ∷ []) (by_33 b.1, (by_34 b.1, (by_35 b.1, tt))) n e refl)
    where
      p : Pipeline
      p = wiring_in f

      v : Verdict
      v = verdict_on order f

      -- the least register at which a test fails, where what comes before it is so
      at_least_lem : (n : ℕ) (fails : ℕ → Bool) → Names (sweep n 1 (0 ∷ []) (registers p) (λ w. fails)) v
          → ((k : ℕ) → k < register_count p → fails k ≡ true → ((j : ℕ) → j < k → fails j ≡ false) → Miswired p (verdict n 1 k 0)) → Miswired p v
      at_least_lem n fails m says = let r = places_least n 1 (register_count p) fails v m in subst (Miswired p) (sym r.4) (says r.0 r.1 r.2 r.3)

      by_33 : v ≡ judge (checks order raw r) → number v ≡ 33 → Miswired p v
      by_33 is q =
          ⊎_elim
          (λ m. at_least_lem 33 (circular p) m (λ k l t less. record {
            is = refl;
            register = l;
            circular = λ z. inl (least_out p (circular p) (Circular p) (circular_sound p) (circular_complete p) k t less);
            missing = λ z. absurd (omega arith);
            barred = λ z. absurd (omega arith);
          }))
          (λ m. at_least_lem 33 (uneven p) m.1 (λ k l t less. record {
            is = refl;
            register = l;
            circular = λ z. inr (none_out p (circular p) (Circular p) (circular_complete p) m.0, least_out p (uneven p) (Uneven p) (uneven_sound p) (uneven_complete p) k t less);
            missing = λ z. absurd (omega arith);
            barred = λ z. absurd (omega arith);
          }))
          (comes_from 33 (λ z. omega arith) v (laws f order) is q)

      by_34 : v ≡ judge (checks order raw r) → number v ≡ 34 → Miswired p v
      by_34 is q =
          let ls = laws f order in
          let levels = each_said 34 33 ls (all_before 34 34 ls refl (ap number (sym is) ∙ q)) in
          at_least_lem 34 (missing p) (comes_from 34 (λ z. omega arith) v ls is q) (λ k l t less. record {
            is = refl;
            register = l;
            circular = λ z. absurd (omega arith);
            missing = λ z. (levelled_found p levels.0 levels.1.0, least_out p (missing p) (Missing p) (missing_sound p) (missing_complete p) k t less);
            barred = λ z. absurd (omega arith);
          })

      by_35 : v ≡ judge (checks order raw r) → number v ≡ 35 → Miswired p v
      by_35 is q =
          let ls = laws f order in
          let a = all_before 35 35 ls refl (ap number (sym is) ∙ q) in
          let levels = each_said 35 33 ls a in
          at_least_lem 35 (barred p) (comes_from 35 (λ z. omega arith) v ls is q) (λ k l t less. record {
            is = refl;
            register = l;
            circular = λ z. absurd (omega arith);
            missing = λ z. absurd (omega arith);
            barred = λ z. (
              levelled_found p levels.0 levels.1.0,
              none_out p (missing p) (Missing p) (missing_complete p) (said 35 34 ls a),
              least_out p (barred p) (Barred p) (barred_sound p) (barred_complete p) k t less,
            );
          })

  -- a verdict names one of the two files, or none
  pub verdict_file : (verdict_on order f).file ≤ 2
  unfolding judge first refusal
  verdict_file = go f.registers (read_file (stage_file f.registers) f.stage_most f.stage) (read_file Reference f.reference_most f.reference)
    where
      go : (b : Bool) (x y : Reading) → (first (refusal (stage_file b) x) (first (refusal Reference y) (judge (checks order raw r)))).file ≤ 2
      go true (refused number at) y = omega arith
      go false (refused number at) y = omega arith
      go b (readable p) (refused number at) = omega arith
      go b (readable p) (readable q) = ⊎_elim (λ c. c.0) (λ e. omega (arith, ap (λ (v : Verdict). v.file) e)) (claimed (laws f order))

  -- Demand 3 holds of the verdict, whatever the two files hold.
  pub demand_3 : Demand3 order f (verdict_on order f)
  demand_3 = record {
    kept = λ e. let p = accepted_sound order f e in (p.0, p.1.read, sound_kept p.1);
    broken = broken;
    idle = λ e. let h = idle_sound order f e in (h.read, ⊎_elim (λ q. absurd (omega (arith, sym e ∙ ap number q))) (λ i. i) (sound_answers h order));
    miswired = miswired;
  }
