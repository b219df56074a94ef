-- What the call answers, step by step.
-- Assumes nothing.
use Rattle.std.specs.Prelude.{Option, Some, None, Ok, Err}
use Prim.Native.Nat.{ℕ, zero, suc, ◌≤◌, ◌<◌}
use native.Mathlib.Omega.{arith}
use mathlib.Core.Path.{◌≡◌, refl, sym, ap, ◌∙◌}
use mathlib.Core.Bool.{Bool, true, false, cond}
use mathlib.Core.List.{List, [], ◌∷◌}
use lib.ListN.{length, get_or, take}
use lib.Dec.{ltb}
use Rattle.netlist.specs.declared.File.TheVariants as file
use Rattle.netlist.specs.declared.Counts.{Counts}
use Rattle.netlist.specs.Types.{refusal as unread}
use Rattle.netlist.specs.Reading.{Reading, read_file, stage_limits}
use Rattle.netlist.specs.Read.{outcome_of}
use Rattle.netlist.specs.Content.{Stage, stage_of}
use Rattle.netlist.proofs.Lists.{Bytes}
use Rattle.netlist.proofs.Stages.{stage_formed}
use Rattle.verdict.specs.Checks.{verdict}
use Rattle.verdict.specs.declared.Answer.{Answer}
use Rattle.verdict.specs.Written.{Written, answer_of, written, refuse, write, write_or}
use Rattle.write_command.proofs.Joining.{put_holding}
use Rattle.verdict.proofs.Written.{holding_take}
use Rattle.write_decimal.specs.Put.{PutNext}
use Rattle.circuit.specs.Stage.{tabulate, output_in, stage_outputs, stage_care, stage_in, StageLoaded}
use Rattle.circuit.proofs.Tabulate.{length_tabulate}
use Rattle.circuit_load.specs.Load.{HoldsStage}
use Rattle.circuit_load.proofs.Reading.{was_refused, stage_held}
use Rattle.text_spec.specs.FromText.{TextAnswer, refusal, gives, unless, if_room}
use Rattle.text_spec.specs.ToText.{second_name, text_for, care_list, stage_text, on_reading, to_text}
use Rattle.text_spec.specs.Call.{leaves, text_from}

-- ---- 29, 31, 24

care_some : (f : ℕ → ℕ) (m : ℕ) → 0 < m → care_list (tabulate f m) ≡ Some 0
unfolding care_list tabulate
care_some f zero l = absurd (omega arith)
care_some f (suc m) l = refl

care_none : (f : ℕ → ℕ) (m : ℕ) → m ≤ 0 → care_list (tabulate f m) ≡ None
unfolding care_list tabulate
care_none f zero l = refl
care_none f (suc m) l = absurd (omega arith)

pub room_leaves : (s buffer : List ℕ) → write_or (verdict 24 3 0 0) s buffer ≡ leaves (if_room (length buffer) s) buffer
unfolding write_or if_room leaves
room_leaves s buffer = go (ltb (length buffer) (length s))
  where
    go : (b : Bool) → cond b (refuse (verdict 24 3 0 0) buffer) (write s buffer) ≡ leaves (cond b (refusal 24 3 0) (gives s)) buffer
    go true = refl
    go false = refl

-- a text that was put into a workspace stands at its start
pub text_taken : {work after : List ℕ} (text : List ℕ) (count : ℕ) → PutNext work 0 text after count → length text ≤ length work → take count after ≡ text
text_taken {work} {after} text count p room =
    let e : count ≡ length text = omega (arith, p.end) in
    ap (λ (k : ℕ). take k after) e ∙ ap (take (length text)) (put_holding p.put room) ∙ holding_take text work

module _ (c : Counts) (code buffer : List ℕ) where
  abbrev answer : TextAnswer
  answer = stage_text (length buffer) (stage_in c code)

  abbrev again : Option ℕ
  again = second_name c.inputs [] 0 (stage_outputs c code)

  cared : (d : Option ℕ) → care_list (stage_care c code) ≡ d → answer ≡ unless 29 d (unless 31 again (if_room (length buffer) (text_for (stage_in c code))))
  unfolding stage_text
  cared d e = rw e

  pub care_leaves : {a : Answer} → 0 < c.care → a ≡ answer_of (verdict 29 1 0 0) 0 → written a buffer ≡ leaves answer buffer
  unfolding unless leaves stage_care
  care_leaves l e = rw (cared (Some 0) (care_some _ c.care l), e)

  module _ (l : c.care ≤ 0) where
    named : (d : Option ℕ) → d ≡ again → answer ≡ unless 31 d (if_room (length buffer) (text_for (stage_in c code)))
    unfolding unless stage_care
    named d e = cared None (care_none _ c.care l) ∙ rw (sym e)

    pub second_leaves : {a : Answer} (j : ℕ) → Some j ≡ again → a ≡ answer_of (verdict 31 1 j 0) 0 → written a buffer ≡ leaves answer buffer
    unfolding unless leaves
    second_leaves j d e = rw (named (Some j) d, e)

    pub text_leaves : {w : Written} → None ≡ again → w ≡ leaves (if_room (length buffer) (text_for (stage_in c code))) buffer → w ≡ leaves answer buffer
    unfolding unless
    text_leaves d e = e ∙ sym (ap (λ (t : TextAnswer). leaves t buffer) (named None d))

-- ---- a stage file

module _ (s buffer : List ℕ) where
  pub file_refused : {a : Answer} (number at : ℕ) → Err (unread number at) ≡ outcome_of (read_file file.Stage stage_limits s)
      → a ≡ answer_of (verdict number 1 at 0) 0 → written a buffer ≡ text_from s buffer
  unfolding to_text on_reading leaves
  file_refused number at e d = rw (was_refused (read_file file.Stage stage_limits s) number at e, d)

  module _ (c : Counts) (code : List ℕ) (e : Ok c ≡ outcome_of (read_file file.Stage stage_limits s))
      (h : HoldsStage s (read_file file.Stage stage_limits s) code) where
    pub file_loaded : StageLoaded c code × (1 ≤ c.inputs) × (1 ≤ c.outputs)
    unfolding stage_outputs
    file_loaded =
        let held = stage_held s (read_file file.Stage stage_limits s) c code e h in
        let formed = stage_formed stage_limits s held.0 held.1 in
        let inputs : c.inputs ≡ (stage_of s held.0).inputs = ap (λ (x : Stage). x.inputs) held.2 in
        let outputs : length (stage_outputs c code) ≡ length (stage_of s held.0).outputs = ap (λ (x : Stage). length x.outputs) held.2 in
        (held.3, omega (arith, inputs, formed.inputs_in), omega (arith, outputs, length_tabulate (output_in c code) c.outputs, formed.outputs_in_holds))

    pub file_leaves_holds : {w : Written} → w ≡ leaves (stage_text (length buffer) (stage_in c code)) buffer → w ≡ text_from s buffer
    unfolding to_text on_reading
    file_leaves_holds d =
        let held = stage_held s (read_file file.Stage stage_limits s) c code e h in
        d
        ∙ ap (λ (x : Stage). leaves (stage_text (length buffer) x) buffer) held.2
        ∙ sym (ap (λ (x : Reading). leaves (on_reading (length buffer) s x) buffer) held.1)

-- ---- the bytes of a slice

pub bytes_small : (s : List ℕ) → ((i : ℕ) → get_or s i 0 < 256) → Bytes s
bytes_small [] h = tt
bytes_small (b ∷ s) h = (h 0, bytes_small s (λ i. h (suc i)))
