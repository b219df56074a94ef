-- Opening a stage: what 12 and 16 find in its flat form is what the definitions find in the file. Assumes nothing.
use Rattle.std.specs.Prelude.{Option, Some, None, Ok, Err}
use Prim.Native.Nat.{ℕ, ◌+◌, ◌*◌, ◌≤◌, ◌<◌}
use native.Mathlib.Omega.{arith}
use mathlib.Core.Path.{◌≡◌, refl, sym, ap, ◌∙◌, subst}
use mathlib.Core.Logic.{◌⊎◌, inl, inr}
use mathlib.Core.Bool.{Bool, true, false}
use mathlib.Core.List.{List}
use lib.ListN.{length}
use Rattle.runs.specs.Net.{nets}
use Rattle.netlist.specs.declared.File.TheVariants as file
use Rattle.netlist.specs.declared.Counts.{Counts}
use Rattle.netlist.specs.Types.{refusal}
use Rattle.netlist.specs.Reading.{Places, readable, read_file, stage_limits}
use Rattle.netlist.specs.Read.{outcome_of}
use Rattle.netlist.specs.Content.{Stage, stage_of}
use Rattle.verdict.specs.declared.Verdict.{Verdict}
use Rattle.verdict.specs.FourNumbers.{verdict, accepted}
use Rattle.verdict.specs.Loops as loops
use Rattle.verdict.proofs.Least.{LeastAt, LeastSays, least_says}
use Rattle.verdict.proofs.Refusals.{refused_number}
use Rattle.verdict.specs.Nets as flat
use Rattle.check_spec.specs.Cases.{judge}
use Rattle.check_spec.specs.Content.{Content}
use Rattle.check_spec.specs.Rows.{net_of, reaches_itself}
use Rattle.check_spec.specs.Verdicts.{row_stage}
use Rattle.check_spec.proofs.Bridge.{loop_alike}
use Rattle.circuit.specs.Stage.{net_count, stage_gates, stage_in, StageLoaded}
use Rattle.circuit.proofs.Settling.{length_stage_gates}
use Rattle.circuit_order.specs.Marks.{LoopFound}
use Rattle.circuit_load.specs.Load.{HoldsStage}
use Rattle.circuit_load.proofs.Reading.{was_refused, stage_held}
use Rattle.circuit_steps.proofs.Stages.{SameStage, same_stage}
use Rattle.run_spec.specs.Play.{opening_checks}
use Rattle.run_spec.proofs.Refusals.{by_reading, by_12, by_16, by_none, unrefused}
use Rattle.call_open.specs.Opened.{Opening}
use Rattle.call_open.specs.Opened.{LeastLoop, NoLoops, ByLoaded, OpenedFrom, StageOpened, ByFile, OpenedAs}

-- ---- 12 in the flat form

module _ (c : Counts) (code after : List ℕ) (found : Option ℕ) (l : LoopFound c code after found) where
  abbrev Says : Option ℕ → Type 0
  Says = LeastSays (loops.reaches_itself c.inputs (stage_gates c code)) 0 (length (stage_gates c code))

  says : Says found
  says = least_says (loops.reaches_itself c.inputs (stage_gates c code)) 0 (length (stage_gates c code)) found (sym l.least_loop)

  pub loop-found : (g : ℕ) → found ≡ Some g → LeastLoop c code g
  loop-found g e =
      let s : Says (Some g) = subst Says e says in
      record { gate = omega (arith, s.below, length_stage_gates c code); loops = s.passes; none_before = λ k h. s.none_before k (omega arith) h }

  pub none_found : found ≡ None → NoLoops c code
  none_found e k h = subst Says e says k (omega arith) (omega (arith, length_stage_gates c code))

-- ---- a file that was read

module _ (stage : List ℕ) (c : Counts) (code : List ℕ)
    (answered : Ok c ≡ outcome_of (read_file file.Stage stage_limits stage)) (holds : HoldsStage stage (read_file file.Stage stage_limits stage) code) where
  abbrev s : Content
  s = row_stage stage

  held : (p : Places) × (read_file file.Stage stage_limits stage ≡ readable p) × (stage_in c code ≡ stage_of stage p) × StageLoaded c code
  held = stage_held stage (read_file file.Stage stage_limits stage) c code answered holds

  same : SameStage s c code
  same = same_stage stage c code held.0 held.1 held.2

  pub was_loaded : StageLoaded c code
  was_loaded = held.3

  loop_is : (g : ℕ) → g < c.gates → reaches_itself (net_of s) (2 * s.inputs + g) ≡ loops.reaches_itself c.inputs (stage_gates c code) g
  loop_is g h = loop_alike s g (omega (arith, same.gates)) ∙ ap (λ (x : Stage). loops.reaches_itself x.inputs x.gates g) (sym same.view)

  free : NoLoops c code → (k : ℕ) → k < length s.gates → reaches_itself (net_of s) (2 * s.inputs + k) ≡ false
  free none k h = loop_is k (omega (arith, same.gates)) ∙ none k (omega (arith, same.gates))

  all_nets_holds : net_count c ≡ nets (net_of s)
  all_nets_holds = omega (arith, same.inputs, same.gates)

  module _ (list : List ℕ) (each given : ℕ) (long : length list ≡ given) where
    wanted : each * net_count c ≡ each * nets (net_of s)
    wanted = ap (λ (n : ℕ). each * n) all_nets_holds

    by_loaded : (after : List ℕ) (o : Opening) → ByLoaded c code given (each * net_count c) after o → ByFile stage list each after o
    by_loaded after (Err v) (inl (g, l, e)) = (
      e ∙ sym (by_12 stage each list held.0 held.1 g (omega (arith, l.gate, same.gates)) (λ k h. loop_is k (omega (arith, l.gate)) ∙ l.none_before k h)
          (loop_is g l.gate ∙ l.loops)),
      λ q. omega (arith, ap (λ (x : Verdict). x.number) e),
    )
    by_loaded after (Err v) (inr (none, d, e)) = (
      e ∙ ap (λ (n : ℕ). verdict 16 3 n 0) (sym long) ∙ sym (by_16 stage each list held.0 held.1 (free none) (λ q. d (sym long ∙ q ∙ sym wanted))),
      λ q. omega (arith, ap (λ (x : Verdict). x.number) e),
    )
    by_loaded after (Ok d) (is, none, e, loaded, again) = (
      subst (λ (x : Counts). StageOpened stage x after) (sym is)
          (record { loaded = loaded; net = ap flat.net_of again ∙ same.net; inputs = same.inputs; gates = same.gates }),
      by_none stage each list held.0 held.1 (free none) (long ∙ e ∙ wanted),
    )

    pub opened_as : (after : List ℕ) (o : Opening) → OpenedFrom c code given (each * net_count c) after o → OpenedAs stage list each after o
    opened_as after o f = record { by = by_loaded after o f.by }

-- ---- a file that was not

pub refused_as : (stage : List ℕ) (number at : ℕ) → Err (refusal number at) ≡ outcome_of (read_file file.Stage stage_limits stage) → (list : List ℕ) (each : ℕ) (code : List ℕ)
    → OpenedAs stage list each code (Err (verdict number 1 at 0))
refused_as stage number at e list each code =
    let q = was_refused (read_file file.Stage stage_limits stage) number at e in
    record { by = (sym (by_reading stage each list number at q), λ z. omega (arith, (refused_number file.Stage stage_limits stage number at q).0)) }

-- ---- what a caller has of it

module _ {stage list : List ℕ} {each : ℕ} {code : List ℕ} {o : Opening} (a : OpenedAs stage list each code o) where
  pub refused_by : (v : Verdict) → o ≡ Err v → (v ≡ judge (opening_checks stage each list)) × (¬ (v.number ≡ 0))
  refused_by v e = (subst (OpenedAs stage list each code) e a).by

  module _ (c : Counts) (e : o ≡ Ok c) where
    pub opened_by : StageOpened stage c code × (judge (opening_checks stage each list) ≡ accepted)
    opened_by = (subst (OpenedAs stage list each code) e a).by

    pub opened_fits : length list ≡ each * net_count c
    opened_fits =
        let nets-are : nets (net_of (row_stage stage)) ≡ net_count c = omega (arith, opened_by.0.inputs, opened_by.0.gates) in
        (unrefused stage each list (ap (λ (v : Verdict). v.number) opened_by.1)).fits ∙ ap (λ (n : ℕ). each * n) nets-are
