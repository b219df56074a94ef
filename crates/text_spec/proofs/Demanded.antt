-- What is promised of reading a text, and of writing one, follows from the answer.
-- Assumes nothing.
use Rattle.std.specs.Prelude.{Option, Some, None}
use Prim.Native.Nat.{ℕ, ◌+◌, ◌*◌, ◌≤◌}
use native.Mathlib.Omega.{arith}
use mathlib.Core.Path.{◌≡◌, refl, sym, ap, ap₂, subst, ◌∙◌}
use mathlib.Core.Bool.{Bool, true, false, cond}
use mathlib.Core.List.{List, []}
use lib.ListN.{length, take}
use lib.Dec.{ltb}
use Rattle.netlist.specs.declared.File.TheVariants as file
use Rattle.netlist.specs.declared.Limits.{Limits}
use Rattle.netlist.specs.Content.{Stage, stage_of}
use Rattle.netlist.specs.Reading.{Places, GatesFirst, Reading, refused, readable, read_file, stage_limits}
use Rattle.netlist.proofs.Lists.{Bytes}
use Rattle.verdict.proofs.Refusals.{refused_number}
use Rattle.verdict.specs.declared.Answer.{Answer}
use Rattle.verdict.specs.Written.{Written, written}
use Rattle.verdict.proofs.Written.{holding_take}
use Rattle.text_spec.specs.Characters.{newline}
use Rattle.text_spec.specs.Lines.{split, other_form, Text, text_of}
use Rattle.text_spec.specs.FromText.{needing, driving, drivers, undriven, driven_again, file_of, from_parsed, from_text}
use Rattle.text_spec.specs.FromText.{TextAnswer, refusal, gives, unless, unless_refused, if_room, unless_more}
use Rattle.text_spec.specs.ToText.{second_name, text_for, care_list, stage_text, on_reading, to_text}
use Rattle.text_spec.specs.Call.{leaves, stage_from, text_from}
use Rattle.text_spec.specs.Promises.{Stands, ReadDemand, WriteDemand}
use Rattle.text_spec.proofs.RoundTrip.{text_read_again}
use Rattle.text_spec.proofs.LeastLines.{least_lines}
use Rattle.text_spec.proofs.LeastOutput.{least_output}
use Rattle.text_spec.proofs.Stands.{text_stands}

-- ---- a refusal has a number

Numbered : TextAnswer → Type 0
Numbered (refusal number file at) = 1 ≤ number
Numbered (gives s) = Unit {0}

found-numbered : (number : ℕ) (f : Option ℕ) (later : TextAnswer) → 1 ≤ number → Numbered later → Numbered (unless number f later)
unfolding unless Numbered
found-numbered number (Some i) later l h = l
found-numbered number None later l h = h

room_numbered : (room : ℕ) (s : List ℕ) → Numbered (if_room room s)
unfolding if_room Numbered
room_numbered room s = go (ltb room (length s))
  where
    go : (b : Bool) → Numbered (cond b (refusal 24 3 0) (gives s))
    go true = omega arith
    go false = tt

more_numbered : (most : Limits) (t : Text) (later : TextAnswer) → Numbered later → Numbered (unless_more most t later)
unfolding unless_more Numbered
more_numbered most t later h = go (ltb most.inputs (length t.inputs)) (ltb most.gates (length t.gates))
  where
    go : (a b : Bool) → Numbered (cond a (refusal 3 1 1) (cond b (refusal 6 1 (2 + 10 * most.gates)) later))
    go true b = omega arith
    go false true = omega arith
    go false false = h

read_numbered : (most : Limits) (s : List ℕ) (later : TextAnswer) → Numbered later → Numbered (unless_refused (read_file file.Stage most s) later)
unfolding unless_refused Numbered
read_numbered most s later h = go (read_file file.Stage most s) refl
  where
    go : (r : Reading) → read_file file.Stage most s ≡ r → Numbered (unless_refused r later)
    go (refused number at) e = (refused_number file.Stage most s number at e).0
    go (readable p) e = h

numbered : (most : Limits) (room : ℕ) (u : List ℕ) → Numbered (from_text most room u)
unfolding from_text
numbered most room u =
    let t = text_of (split newline u) in
    found-numbered 29 (other_form 0 (split newline u)) (from_parsed most room t) (omega arith)
    (found-numbered 30 (undriven (drivers t) 0 (needing t)) _ (omega arith)
    (found-numbered 31 (driven_again [] 0 (driving t)) _ (omega arith)
    (more_numbered most t _
    (read_numbered most (file_of t) _
    (room_numbered room (file_of t))))))

stage_numbered_lem : (room : ℕ) (c : Stage) → Numbered (stage_text room c)
unfolding stage_text
stage_numbered_lem room c =
    found-numbered 29 (care_list c.care) _ (omega arith)
    (found-numbered 31 (second_name c.inputs [] 0 c.outputs) _ (omega arith)
    (room_numbered room (text_for c)))

-- ---- the promises

-- whatever the text holds, and whatever the buffer's length
pub read_demanded : (text buffer : List ℕ) (r : Answer) (after : List ℕ) → written r after ≡ stage_from text buffer → ReadDemand text buffer r after
unfolding leaves Numbered
read_demanded text buffer r after e = record { answer = e; least = least_lines text buffer r after e; stands = go (from_text stage_limits (length buffer) text) refl e }
  where
    go : (a : TextAnswer) → from_text stage_limits (length buffer) text ≡ a → written r after ≡ leaves a buffer → r.verdict.number ≡ 0 →
        Stands stage_limits (take r.count after)
    go (refusal number file at) is w z =
        absurd (omega (arith, subst Numbered is (numbered stage_limits (length buffer) text), ap (λ (x : Written). x.verdict.number) w))
    go (gives s) is w z =
        let own : take r.count after ≡ s = ap₂ take (ap (λ (x : Written). x.count) w) (ap (λ (x : Written). x.buffer) w) ∙ holding_take s buffer in
        subst (Stands stage_limits) (sym own) (text_stands stage_limits (length buffer) text s is)

-- whatever the file holds: its bytes are below 256
module _ (stage buffer : List ℕ) (small : Bytes stage) (r : Answer) (after : List ℕ) (e : written r after ≡ text_from stage buffer) where
  back : r.verdict.number ≡ 0 → (p : Places) → read_file file.Stage stage_limits stage ≡ readable p → GatesFirst p → (room : ℕ) → length stage ≤ room →
      from_text stage_limits room (take r.count after) ≡ gives stage
  unfolding to_text on_reading leaves Numbered
  back z p reads first room fits = go (to_text stage_limits (length buffer) stage) refl e
    where
      go : (a : TextAnswer) → to_text stage_limits (length buffer) stage ≡ a → written r after ≡ leaves a buffer →
          from_text stage_limits room (take r.count after) ≡ gives stage
      go (refusal number f at) is w =
          let t : stage_text (length buffer) (stage_of stage p) ≡ refusal number f at = sym (ap (on_reading (length buffer) stage) reads) ∙ is in
          absurd (omega (arith, subst Numbered t (stage_numbered_lem (length buffer) (stage_of stage p)), ap (λ (x : Written). x.verdict.number) w))
      go (gives u) is w =
          let own : take r.count after ≡ u = ap₂ take (ap (λ (x : Written). x.count) w) (ap (λ (x : Written). x.buffer) w) ∙ holding_take u buffer in
          ap (from_text stage_limits room) own
          ∙ text_read_again stage_limits (omega arith) (omega arith) (omega arith) stage small p reads first u (length buffer) room is fits

  pub write_demanded : WriteDemand stage buffer r after
  write_demanded = record { answer = e; least = least_output stage buffer r after e; back = back }
