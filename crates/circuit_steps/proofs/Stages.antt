-- A stage file that was loaded: its flat form is the stage that the definitions see. Assumes nothing.
use Prim.Native.Nat.{ℕ}
use mathlib.Core.Path.{◌≡◌, sym, ap, ◌∙◌}
use mathlib.Core.Bool.{false}
use mathlib.Core.List.{List}
use lib.ListN.{length, length-map}
use Rattle.netlist.specs.declared.File.TheVariants as file
use Rattle.netlist.specs.declared.Counts.{Counts}
use Rattle.netlist.specs.Reading.{Places, Reading, readable, read_file, stage_limits}
use Rattle.netlist.specs.Content.{Stage, stage_of, gate_of}
use Rattle.verdict.specs.Nets as verdict
use Rattle.check_spec.specs.Content.{Content, content_at}
use Rattle.check_spec.specs.Rows.{net_of}
use Rattle.check_spec.specs.Verdicts.{row_stage}
use Rattle.check_spec.specs.Loaded.{stage_view}
use Rattle.check_spec.proofs.View.{stage_view_holds, net_view}
use Rattle.circuit.specs.Stage.{stage_in}
use Rattle.circuit.proofs.Settling.{length_stage_gates}
use Rattle.circuit_steps.specs.Moves.{loaded_net}

pub record SameStage (s : Content) (c : Counts) (code : List ℕ) : Type 0 where
  pub view : stage_in c code ≡ stage_view s
  pub net : loaded_net c code ≡ net_of s
  pub inputs : c.inputs ≡ s.inputs
  pub gates : c.gates ≡ length s.gates

pub same_stage : (stage : List ℕ) (c : Counts) (code : List ℕ) (p : Places) → read_file file.Stage stage_limits stage ≡ readable p → stage_in c code ≡ stage_of stage p
    → SameStage (row_stage stage) c code
same_stage stage c code p e q =
    let view : stage_in c code ≡ stage_view (row_stage stage) = q ∙ sym (ap (λ (x : Reading). stage_view (content_at file.Stage stage x)) e ∙ stage_view_holds false stage p) in
    record {
      view = view;
      net = ap verdict.net_of view ∙ net_view (row_stage stage);
      inputs = ap (λ (s : Stage). s.inputs) view;
      gates = sym (length_stage_gates c code) ∙ ap (λ (s : Stage). length s.gates) view ∙ length-map (row_stage stage).gates gate_of;
    }
