-- The witness of two files: what the run shows is what the verdict says. Assumes nothing.
use Rattle.std.specs.Prelude.{Ok, Err}
use Prim.Native.Nat.{ℕ, ◌*◌, ◌≤◌}
use native.Mathlib.Omega.{arith}
use mathlib.Core.Path.{◌≡◌, refl, sym, ap, ap₂, ◌∙◌, subst}
use mathlib.Core.Bool.{true, false, cond}
use mathlib.Core.List.{List, [], ◌∷◌, ◌++◌}
use lib.ListN.{length, take}
use lib.Dec.{eqb}
use Rattle.runs.proofs.Test.{clash}
use Rattle.netlist.specs.declared.File.TheVariants as file
use Rattle.netlist.specs.declared.Counts.{Counts}
use Rattle.netlist.specs.Types.{refusal as unread}
use Rattle.netlist.specs.Reading.{Places, Reading, readable, read_file, stage_limits}
use Rattle.netlist.specs.Read.{outcome_of}
use Rattle.verdict.specs.declared.Verdict.{Verdict}
use Rattle.verdict.specs.declared.WordOrder.{WordOrder}
use Rattle.verdict.specs.Words as words
use Rattle.check_spec.specs.Lists.{some}
use Rattle.check_spec.specs.Content.{Content, Files, plain_files, stage_in}
use Rattle.check_spec.specs.Rows.{net_of}
use Rattle.check_spec.specs.Words.{spelled}
use Rattle.check_spec.specs.Verdicts.{refusal, reading, row_stage, verdict_on}
use Rattle.check_spec.specs.Demands.{Pass, BothRead, LoopFree}
use Rattle.check_spec.proofs.View.{stage_partless}
use Rattle.check_spec.proofs.Wired.{wired_none}
use Rattle.check_spec.proofs.Alike.{spelled_alike, names_alike}
use Rattle.netlist.specs.Content.{stage_of}
use Rattle.circuit.specs.Stage as flat
use Rattle.circuit.specs.Stage.{net_count, StageLoaded}
use Rattle.circuit_load.specs.Load.{HoldsStage}
use Rattle.circuit_load.proofs.Reading.{was_refused, stage_held}
use Rattle.circuit_steps.proofs.Stages.{SameStage, same_stage}
use Rattle.write_run.specs.declared.Lengths.{Lengths}
use Rattle.write_run.specs.Listing.{RunPut}
use Rattle.write_run.proofs.Listing.{run_taken}
use Rattle.run_spec.specs.declared.RunAnswer.{RunAnswer}
use Rattle.run_spec.specs.Played.{Run, switchings, answering, handed_out}
use Rattle.run_spec.specs.Witness.{of_runs, asked_or_first, name_shown, witness_run, witness_on, WitnessDemand}
use Rattle.run_spec.proofs.Named.{refused_free, at_14, at_15, at_20, at_21}
use Rattle.run_spec.proofs.Numbers.{run_few}
use Rattle.run_spec.proofs.Witness.{both_read, witness_demand, nothing_given}
use Rattle.call_witness.specs.Lists.{NamedIn, rise_in, fall_in, name_in, Showable, GivenFor}
use Rattle.call_witness.proofs.Runs.{rise_same, fall_same}

-- ---- a stage that was read

module _ (stage : List ℕ) (v : Verdict) (show : Showable stage v) (c : Counts) (code : List ℕ)
    (answered : Ok c ≡ outcome_of (read_file file.Stage stage_limits stage)) (holds : HoldsStage stage (read_file file.Stage stage_limits stage) code) where
  abbrev s : Content
  s = row_stage stage

  held : (p : Places) × (read_file file.Stage stage_limits stage ≡ readable p) × (flat.stage_in c code ≡ stage_of stage p) × StageLoaded c code
  held = stage_held stage (read_file file.Stage stage_limits stage) c code answered holds

  same : SameStage s c code
  same = same_stage stage c code held.0 held.1 held.2

  pub opened : StageLoaded c code
  opened = held.3

  pub named_in : NamedIn c v
  named_in = record {
    input_14 = λ e. omega (arith, show.input_14 e, same.inputs);
    gate_15 = λ e. omega (arith, show.gate_15 e, same.gates);
    input_20 = λ e. omega (arith, (show.input_20 e).0, same.inputs);
    gate_21 = λ e. omega (arith, show.gate_21 e, same.gates);
  }

  module _ (order : WordOrder) (asked name : ℕ) (names-it : name ≡ name_in order (flat.stage_in c code) v asked) (w : ℕ) (spells : w ≡ words.spelled order c.inputs name) where
    name_is : name ≡ name_shown order s v asked
    unfolding name_in name_shown
    name_is =
        names-it ∙ ap (λ (l : List ℕ). cond (eqb v.number 0) asked (cond (eqb v.number 32) (asked_or_first l asked) v.word))
        (ap (words.names order) same.view ∙ sym (names_alike order s))

    abbrev word : ℕ
    word = spelled order s.inputs (name_shown order s v asked)

    word-is : w ≡ word
    word-is =
        spells ∙ sym (spelled_alike order c.inputs name) ∙ ap (λ (n : ℕ). spelled order n name) same.inputs
        ∙ ap (spelled order s.inputs) name_is

    abbrev run : Run
    run = witness_run s v word

    lists-are : rise_in c code v w ++ fall_in c code v w ≡ switchings run
    lists-are =
        ap₂ (λ (a b : List ℕ). a ++ b) (rise_same s c code same v w show.speaks) (fall_same s c code same v w (λ e. (show.input_20 e).1))
        ∙ ap (λ (x : ℕ). switchings (witness_run s v x)) word-is

    rise_long : length (rise_in c code v w) ≡ length run.rise
    rise_long = ap length (rise_same s c code same v w show.speaks ∙ ap (λ (x : ℕ). (witness_run s v x).rise) word-is)

    pub lists_few : (before list : List ℕ) (r : Lengths) → RunPut (rise_in c code v w) (fall_in c code v w) before r list → 2 * net_count c ≤ length before
        → r.count ≤ length before
    lists_few before list r put room = omega (arith, put.count-is, ap length lists-are, run_few s v word, same.inputs, same.gates)

    pub handed_count : (before list : List ℕ) (r : Lengths) → RunPut (rise_in c code v w) (fall_in c code v w) before r list → 2 * net_count c ≤ length before
        → r.count ≡ length (take r.count list)
    handed_count before list r put room =
        put.count-is ∙ sym (ap length (run_taken put (omega (arith, put.count-is, lists_few before list r put room))))

    pub given_for : (before list : List ℕ) (r : Lengths) → RunPut (rise_in c code v w) (fall_in c code v w) before r list → 2 * net_count c ≤ length before
        → (lent lent' : List ℕ) → lent' ≡ handed_out (take r.count list) lent → (a : RunAnswer)
        → a ≡ record { verdict = v; rise = r.rise; count = r.count } → GivenFor order stage v asked lent a lent'
    given_for before list r put room lent lent' h a e =
        let few : length (rise_in c code v w ++ fall_in c code v w) ≤ length before = omega (arith, put.count-is, lists_few before list r put room) in
        record {
          answer = e ∙ ap₂ {C = RunAnswer} (λ (x y : ℕ). record { verdict = v; rise = x; count = y }) (put.rise_is ∙ rise_long) (put.count-is ∙ ap length lists-are);
          list_is = h ∙ ap (λ (l : List ℕ). handed_out l lent) (run_taken put few ∙ lists-are);
        }

-- it was read
pub not_refused : (stage : List ℕ) → Pass (reading file.Stage stage_limits stage) → (number at : ℕ) → Err (unread number at) ≡ outcome_of (read_file file.Stage stage_limits stage) → ⊥
unfolding refusal
not_refused stage p number at e =
    let q = was_refused (read_file file.Stage stage_limits stage) number at e in
    clash refl (subst (λ (x : Reading). Pass (refusal file.Stage x)) q p).0

-- ---- two files

module _ (order : WordOrder) (stage reference : List ℕ) (v : Verdict) (is : v ≡ verdict_on order (plain_files stage reference)) where
  abbrev f : Files
  f = plain_files stage reference

  number : (n : ℕ) → v.number ≡ n → (verdict_on order f).number ≡ n
  number n e = ap (λ (x : Verdict). x.number) (sym is) ∙ e

  at-is : v.at ≡ (verdict_on order f).at
  at-is = ap (λ (x : Verdict). x.at) is

  -- without registers it is the stage as the file has it
  plain : stage_in f ≡ row_stage stage
  plain = wired_none (row_stage stage) (stage_partless stage_limits stage)

  inputs_are : (stage_in f).inputs ≡ (row_stage stage).inputs
  inputs_are = ap (λ (c : Content). c.inputs) plain

  gates_are : length (stage_in f).gates ≡ length (row_stage stage).gates
  gates_are = ap (λ (c : Content). length c.gates) plain

  pub showable : some (eqb v.number) of_runs ≡ true → Showable stage v
  unfolding some
  showable h = record {
    reads = read.0;
    speaks = h;
    input_14 = λ e. omega (arith, at-is, inputs_are, (at_14 order f (number 14 e)).0);
    gate_15 = λ e. omega (arith, at-is, gates_are, (at_15 order f (number 15 e)).0);
    input_20 = λ e. (
      omega (arith, at-is, inputs_are, (at_20 order f (number 20 e)).0),
      subst (λ (c : Content). LoopFree (net_of c)) plain
          (refused_free order f (subst (λ (n : ℕ). some (eqb n) (13 ∷ 14 ∷ 15 ∷ 20 ∷ 21 ∷ []) ≡ true) (sym (number 20 e)) refl)).1,
    );
    gate_21 = λ e. omega (arith, at-is, gates_are, (at_21 order f (number 21 e)).0);
  }
    where
      read : BothRead f
      read = both_read order f (subst (λ (x : Verdict). some (eqb x.number) of_runs ≡ true) is h)

  module _ (asked : ℕ) (before : List ℕ) where
    pub shown_demand : (r : RunAnswer) (list : List ℕ) → GivenFor order stage v asked before r list → WitnessDemand order f asked before r list
    shown_demand r list g =
        let to : witness_run (row_stage stage) v (spelled order (row_stage stage).inputs (name_shown order (row_stage stage) v asked)) ≡ witness_on order f asked =
        ap₂ (λ (c : Content) (x : Verdict). witness_run c x (spelled order c.inputs (name_shown order c x asked))) (sym plain) is in
        witness_demand order f asked before r list (g.answer ∙ ap₂ answering is to) (g.list_is ∙ ap (λ (x : Run). handed_out (switchings x) before) to)

    pub none_demand : some (eqb v.number) of_runs ≡ false → (r : RunAnswer) → r ≡ record { verdict = v; rise = 0; count = 0 } → WitnessDemand order f asked before r before
    none_demand h r e =
        let no : some (eqb (verdict_on order f).number) of_runs ≡ false = subst (λ (x : Verdict). some (eqb x.number) of_runs ≡ false) is h in
        let n = nothing_given order f asked before no in
        witness_demand order f asked before r before (e ∙ ap {B = RunAnswer} (λ (x : Verdict). record { verdict = x; rise = 0; count = 0 }) is ∙ sym n.0) (sym n.1)
