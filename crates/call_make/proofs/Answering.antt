-- The whole stage, put part by part, and what the call answers by its checks.
-- Assumes nothing.
use Rattle.std.specs.Prelude.{Option, Some, None, Ok, Err}
use Prim.Native.Nat.{ℕ, ◌+◌, ◌*◌, ◌≤◌, ◌<◌}
use native.Mathlib.Omega.{arith}
use mathlib.Core.Path.{◌≡◌, refl, sym, ap, ap₂, ◌∙◌, subst}
use mathlib.Core.Bool.{not}
use mathlib.Core.List.{List, [], ◌∷◌, map}
use lib.ListN.{length, get_or, length-map}
use borrow.Author.Tests.{lt-ltb, le-ltb}
use Rattle.netlist.specs.declared.File.TheVariants as file
use Rattle.netlist.specs.declared.Counts.{Counts}
use Rattle.netlist.specs.declared.Limits.{Limits}
use Rattle.netlist.specs.Types.{Outcome}
use Rattle.netlist.specs.Types.{refusal as unread}
use Rattle.netlist.specs.Commands.{when_found}
use Rattle.netlist.specs.Reading.{Reading, read_file, stage_limits, reference_limits}
use Rattle.netlist.specs.Read.{outcome_of}
use Rattle.netlist.specs.Formed.{ReferenceFormed}
use Rattle.netlist.specs.Writing.{gate, output, All}
use Rattle.netlist.proofs.References.{reference_formed}
use Rattle.verdict.specs.declared.Verdict.{Verdict}
use Rattle.verdict.specs.declared.Answer.{Answer}
use Rattle.verdict.specs.Search.{least}
use Rattle.verdict.specs.Written.{Written, answer_of, written}
use Rattle.verdict.proofs.Refusals.{refused_number}
use Rattle.check_spec.specs.Cases.{verdict, accepted, first, judge}
use Rattle.check_spec.specs.Content.{Content}
use Rattle.check_spec.specs.Verdicts.{refusal}
use Rattle.check_spec.specs.Writing.{leaving}
use Rattle.check_spec.proofs.Back.{reference_content}
use Rattle.check_spec.proofs.Writing.{stage_bytes, leaves_none}
use Rattle.make_spec.specs.Make.{built, rails_at, made_stage, leads_out, reference_read, made_bytes, make_checks, make_checks_on}
use Rattle.check_spec.specs.Loaded.{from_reference}
use Rattle.make_spec.specs.Count.{operations}
use Rattle.make_spec.proofs.Making.{needed_counted, later_verdict, judged_by}
use Rattle.write_command.specs.Put.{Put}
use Rattle.write_command.specs.Parts.{bytes_of}
use Rattle.write_command.proofs.Joining.{put-++, put_holding}
use Rattle.write_command.proofs.Files.{bytes_length, stage_gate_width, stage_output_width, file_parts, file_length}
use Rattle.write_command.proofs.Putting.{put_same}
use Rattle.circuit.specs.Reference.{signal_in, signals_in, operator_in, operators_in, reference_in, ReferenceLoaded}
use Rattle.circuit.proofs.Tabulate.{length_tabulate}
use Rattle.circuit_load.specs.Load.{HoldsReference}
use Rattle.circuit_load.proofs.Reading.{was_refused, reference_held}
use Rattle.write_made.specs.Rails.{content_in, pair_stored, pairs_in}
use Rattle.call_make.proofs.Building.{signal_pair}

-- ---- the stage

module _ (c : Counts) (code : List ℕ) where
  abbrev loaded : Content
  loaded = content_in c code

  outputs_count : length (signals_in c code) ≡ c.outputs
  unfolding signals_in
  outputs_count = length_tabulate (signal_in c code) c.outputs

  gates_count : length (operators_in c code) ≡ c.gates
  unfolding operators_in
  gates_count = length_tabulate (operator_in code) c.gates

  -- the rails of the outputs
  abbrev outs : List (List ℕ)
  outs = (made_stage loaded).outputs

  outs_long : length outs ≡ c.outputs
  unfolding made_stage
  outs_long = length-map loaded.outputs (λ (o : List ℕ). rails_at (built loaded) (get_or o 0 0)) ∙ length-map (signals_in c code) (λ (v : ℕ). v ∷ []) ∙ outputs_count

  pub made_long : length (made_bytes loaded) ≡ 3 + 10 * length (built loaded).gates + 5 * c.outputs
  unfolding made_stage bytes_of
  made_long =
      ap length (stage_bytes (made_stage loaded)) ∙ file_length file.Stage gate output c.inputs [] (built loaded).gates outs 10 5 refl stage_gate_width stage_output_width
      ∙ omega (arith, outs_long)

  pub made_put : {b0 b1 b2 b3 b4 : List ℕ} {at end : ℕ} (rails : List ℕ) → ReferenceFormed reference_limits (reference_in c code) → Put b0 0 (0x01 ∷ c.inputs ∷ []) b1
      → Put b1 2 (bytes_of file.Stage gate (built loaded).gates) b2 → Put b2 at (bytes_of file.Stage output (map (pair_stored rails) (signals_in c code))) b3 → Put b3 end (0x00 ∷ []) b4
      → pairs_in rails (c.inputs + c.gates) ≡ (built loaded).rails → at ≡ 2 + 10 * length (built loaded).gates → end ≡ at + 5 * c.outputs → Put b0 0 (made_bytes loaded) b4
  unfolding made_stage bytes_of
  made_put rails formed p g o z e f h =
      put_same (sym (stage_bytes (made_stage loaded) ∙ file_parts file.Stage gate output c.inputs [] (built loaded).gates outs))
      (put-++ p
      (put-++ g
      (put-++ (put_same (ap (bytes_of file.Stage output) (rails-of (signals_in c code) formed.outputs_formed)) o) z (omega (arith, h, outs_long, bytes_length file.Stage output 5 stage_output_width outs)))
      (omega (arith, f, bytes_length file.Stage gate 10 stage_gate_width (built loaded).gates)))
      refl)
    where
      rails-of : (l : List ℕ) → All (λ v. v < c.inputs + length (operators_in c code)) l
          → map (pair_stored rails) l ≡ map (λ (o : List ℕ). rails_at (built loaded) (get_or o 0 0)) (map (λ (v : ℕ). v ∷ []) l)
      rails-of [] a = refl
      rails-of (v ∷ l) a = ap₂ (λ (x : List ℕ) (m : List (List ℕ)). x ∷ m) (sym (signal_pair rails (c.inputs + c.gates) v (built loaded) e (omega (arith, a.0, gates_count)))) (rails-of l a.1)

  pub needed_is : ReferenceFormed reference_limits (reference_in c code) → (n : ℕ) → n ≡ operations (operators_in c code) → 2 * n ≡ length (built loaded).gates
  needed_is formed n e = omega (arith, e, needed_counted (reference_in c code) formed)

-- ---- the answer

-- of a reference that was loaded: 25 as the loop finds it, then 26 and 27 by the count of gates
module _ (c : Counts) (code buffer : List ℕ) where
  abbrev pub bytes : List ℕ
  bytes = made_bytes (loaded c code)

  abbrev needed : ℕ
  needed = length (built (loaded c code)).gates

  abbrev verdict_of : Verdict
  verdict_of = judge (make_checks (loaded c code) (length buffer))

  abbrev search : Option ℕ
  search = least (λ x. not (leads_out (loaded c code) x)) 0 (c.inputs + c.gates)

  told : (x : Option ℕ) → x ≡ search → verdict_of ≡ when_found x (λ x. verdict 25 2 x 0) (later_verdict (loaded c code) (length buffer))
  told x e =
      judged_by (loaded c code) (length buffer)
      ∙ ap (λ (f : Option ℕ). when_found f (λ x. verdict 25 2 x 0) (later_verdict (loaded c code) (length buffer))) (ap (λ (m : ℕ). least (λ x. not (leads_out (loaded c code) x)) 0 (c.inputs + m)) (gates_count c code) ∙ sym e)

  pub told_25 : (x : ℕ) → Some x ≡ search → verdict_of ≡ verdict 25 2 x 0
  unfolding when_found
  told_25 x e = told (Some x) e

  pub told_26 : None ≡ search → stage_limits.gates < needed → verdict_of ≡ verdict 26 2 needed 0
  unfolding when_found
  told_26 e l = told None e ∙ rw (lt-ltb stage_limits.gates needed l)

  pub told_27 : None ≡ search → needed ≤ stage_limits.gates → length buffer < length bytes → verdict_of ≡ verdict 27 3 0 0
  unfolding when_found
  told_27 e l s = told None e ∙ rw (le-ltb stage_limits.gates needed l, lt-ltb (length buffer) (length bytes) s)

  pub told_none : None ≡ search → needed ≤ stage_limits.gates → length bytes ≤ length buffer → verdict_of ≡ accepted
  unfolding when_found
  told_none e l s = told None e ∙ rw (le-ltb stage_limits.gates needed l, le-ltb (length buffer) (length bytes) s)

  pub refused_as : (a : Answer) (v : Verdict) → a ≡ answer_of v 0 → verdict_of ≡ v → 1 ≤ v.number → written a buffer ≡ leaving verdict_of bytes buffer
  refused_as a v e f l = ap (λ (x : Answer). written x buffer) e ∙ sym (leaves_none v (λ z. omega arith) bytes buffer) ∙ sym (ap (λ (u : Verdict). leaving u bytes buffer) f)

  pub made_as : (a : Answer) (after : List ℕ) → a ≡ answer_of accepted (length bytes) → Put buffer 0 bytes after → length bytes ≤ length buffer → verdict_of ≡ accepted
      → written a after ≡ leaving verdict_of bytes buffer
  unfolding leaving
  made_as a after e p l f = rw (e, put_holding p l) (sym (ap (λ (u : Verdict). leaving u bytes buffer) f))

-- what was read within some limits, where these are those of a reference
pub reference_read_by : (given : Limits) (s : List ℕ) (r : Outcome) (code : List ℕ) → given ≡ reference_limits
    → (r ≡ outcome_of (read_file file.Reference given s)) × HoldsReference s (read_file file.Reference given s) code
    → (r ≡ outcome_of (read_file file.Reference reference_limits s)) × HoldsReference s (read_file file.Reference reference_limits s) code
reference_read_by given s r code e h =
    subst (λ (m : Limits). (r ≡ outcome_of (read_file file.Reference m s)) × HoldsReference s (read_file file.Reference m s) code) e h

-- the file that was read
module _ (s buffer : List ℕ) where
  abbrev reading : Reading
  reading = read_file file.Reference reference_limits s

  -- what the call leaves
  abbrev left : Written
  left = leaving (judge (make_checks_on s (length buffer))) (made_bytes (reference_read s)) buffer

  pub file_refused : (a : Answer) (number at : ℕ) → Err (unread number at) ≡ outcome_of reading → a ≡ answer_of (verdict number 2 at 0) 0 → written a buffer ≡ left
  unfolding judge first refusal
  file_refused a number at e h =
      let r = was_refused reading number at e in
      ap (λ (x : Answer). written x buffer) h
      ∙ sym (leaves_none (verdict number 2 at 0) (λ z. omega (arith, (refused_number file.Reference reference_limits s number at r).0)) (made_bytes (reference_read s)) buffer)
      ∙ sym (ap (λ (x : Reading). leaving (judge (refusal file.Reference x ∷ make_checks (reference_read s) (length buffer))) (made_bytes (reference_read s)) buffer) r)

  module _ (c : Counts) (code : List ℕ) (e : Ok c ≡ outcome_of reading) (h : HoldsReference s reading code) where
    pub file_loaded : ReferenceLoaded c code × ReferenceFormed reference_limits (reference_in c code)
    file_loaded =
        let l = reference_held s reading c code e h in
        (l.3, subst (ReferenceFormed reference_limits) (sym l.2) (reference_formed reference_limits s l.0 l.1))

    pub file_made : (a : Answer) (after : List ℕ) → written a after ≡ leaving (verdict_of c code buffer) (bytes c code buffer) buffer → written a after ≡ left
    unfolding judge first refusal
    file_made a after m =
        let l = reference_held s reading c code e h in
        let is : loaded c code ≡ reference_read s = ap from_reference l.2 ∙ sym (reference_content reference_limits s l.0 l.1) in
        m ∙ ap₂ (λ (x : Reading) (r : Content). leaving (judge (refusal file.Reference x ∷ make_checks r (length buffer))) (made_bytes r) buffer) (sym l.1) is
