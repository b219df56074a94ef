-- Two stages in a row as one: output j of the first is tied to input j of the second; and the call that joins them.
use Rattle.std.specs.Prelude.{ℕ, ◌+◌, ◌-◌, ◌*◌, ◌/◌, ◌%◌, ◌≤◌, ◌<◌, ◌≡◌, Bool, cond, not, ◌||◌, List, [], ◌∷◌, ◌++◌, map, length, get_or, take, eqb, ltb}
use Rattle.runs.specs.Net.{nets}
use Rattle.netlist.specs.declared.File.TheVariants.{Stage, Reference}
use Rattle.netlist.specs.Coded.{Coded}
use Rattle.verdict.specs.declared.Verdict.{Verdict}
use Rattle.verdict.specs.declared.WordOrder.{WordOrder}
use Rattle.verdict.specs.Written.{Written, written}
use Rattle.check_spec.specs.Cases.{accepted, Check, case, judge, unequal}
use Rattle.check_spec.specs.Lists.{bit_of, of_bits}
use Rattle.check_spec.specs.Content.{Content, Files, stage_in, reference_in, files}
use Rattle.check_spec.specs.Rows.{net_of}
use Rattle.check_spec.specs.Words.{cares_for, IsWord, answer}
use Rattle.check_spec.specs.Checks.{swept}
use Rattle.check_spec.specs.Verdicts.{verdict_on}
use Rattle.check_spec.specs.Demands.{Judged, BothRead, Kept, AcceptedUnlessIdle}
use Rattle.check_spec.specs.Writing.{write_file, leaving}
use Rattle.join_spec.specs.declared.JoinAnswer.{JoinAnswer}

-- ---- the whole

-- "inputs, the first part's care list, gates (first part first), the second's outputs". What the second part names has another number in the whole:
-- `in_whole` gives it, for a net or for a signal
unfoldable pub joined_by : (ℕ → ℕ) → Content → Content → Content
joined_by in_whole one two = record {
  inputs = one.inputs;
  gates = one.gates ++ map (λ (g : Coded). record { code = g.code; operands = map in_whole g.operands }) two.gates;
  outputs = map (map in_whole) two.outputs;
  care = one.care;
  parts = [];
}

-- A net of the second part in the whole: rail 0 or 1 of its input j is that rail of the first part's output j, and its gates' nets follow
-- those of the first part. The same of a signal.
unfoldable pub net_in_whole : Content → Content → ℕ → ℕ
net_in_whole one two net =
    cond (ltb net (2 * two.inputs)) ((net_of one).rail (net / 2) (eqb (net % 2) 1)) (nets (net_of one) + (net - 2 * two.inputs))

unfoldable pub signal_in_whole : Content → Content → ℕ → ℕ
signal_in_whole one two x = cond (ltb x two.inputs) (get_or (get_or one.outputs x []) 0 0) (one.inputs + length one.gates + (x - two.inputs))

abbrev pub joined_stage : Files → Files → Content
joined_stage one two = joined_by (net_in_whole (stage_in one) (stage_in two)) (stage_in one) (stage_in two)

abbrev pub joined_reference : Files → Files → Content
joined_reference one two = joined_by (signal_in_whole (reference_in one) (reference_in two)) (reference_in one) (reference_in two)

abbrev pub whole : Files → Files → Files
whole one two = files (write_file Stage (joined_stage one two)) (write_file Reference (joined_reference one two))

-- ---- the call

-- "a part's own refusal is passed on, first part first, the second's with 3 added to its file"
abbrev pub passed_on : Verdict → ℕ → Check
passed_on v added = case v.number (v.file + added) v.at v.word (not (eqb v.number 0)) ∷ []

-- the answer to word w as a word: output j is bit j
abbrev pub answer_word : Content → ℕ → ℕ
answer_word r w = of_bits (length r.outputs) (answer r (bit_of w))

-- 22 counts at the seam unequal, 23 the least care word whose answer the second does not care for, 24 a buffer too short
unfoldable pub seam_checks : WordOrder → Files → Files → ℕ → ℕ → List Check
seam_checks order one two stage_room reference_room =
    unequal 22 (length (stage_in one).outputs) (stage_in two).inputs ∷
    swept order (stage_in one) 23 0 1 (λ w i. not (cares_for (stage_in two) (answer_word (reference_in one) w))) ∷
    (case 24 3 0 0 (ltb stage_room (length (whole one two).stage) || ltb reference_room (length (whole one two).reference)) ∷ []) ∷
    []

abbrev pub join_checks : WordOrder → Files → Files → ℕ → ℕ → List Check
join_checks order one two stage_room reference_room =
    passed_on (verdict_on order one) 0 ∷ passed_on (verdict_on order two) 3 ∷ seam_checks order one two stage_room reference_room

-- What is said of two files that are to be the whole: they read as defined, the reference answers what the second part answers to the answer of the
-- first, "the whole is accepted", in either order, "unless a gate never rises" (M-110), "and its runs obey everything said of a stage" in either case.
pub record Joined (one two f : Files) : Type 0 where
  pub reads : BothRead f
  pub stage_is : stage_in f ≡ joined_stage one two
  pub reference_is : reference_in f ≡ joined_reference one two
  pub answers : (bits : ℕ → Bool) (j : ℕ) → j < length (reference_in two).outputs
      → answer (reference_in f) bits j ≡ answer (reference_in two) (answer (reference_in one) bits) j
  pub whole_accepted : (order : WordOrder) → AcceptedUnlessIdle order f
  pub kept : (w : ℕ) → IsWord (stage_in f) w → Kept f w

-- "both parts are accepted and every answer the first gives on its care words is a care word of the second", with equal counts at the seam
pub record Joinable (order : WordOrder) (one two : Files) : Type 0 where
  pub first_accepted : verdict_on order one ≡ accepted
  pub second_accepted : verdict_on order two ≡ accepted
  pub counts : length (stage_in one).outputs ≡ (stage_in two).inputs
  pub cared : (w : ℕ) → IsWord (stage_in one) w → IsWord (stage_in two) (answer_word (reference_in one) w)

-- What is said of the join, by the order of words, the files of its parts, the two buffers, its answer and the buffers after it: these are as defined,
-- the earliest failing case is named, and where it accepts, the bytes at the start of the buffers, as many as it says, are the whole, and in the other
-- order it accepts too, and so writes the same. Parts that can be joined are accepted where the buffers have room.
pub record JoinDemand (order : WordOrder) (one two : Files) (stage_out reference_out : List ℕ) (r : JoinAnswer)
    (stage_left reference_left : List ℕ) : Type 0 where
  pub stage_left_holds : written (record { verdict = r.verdict; count = r.stage_count }) stage_left
      ≡ leaving (judge (join_checks order one two (length stage_out) (length reference_out))) (whole one two).stage stage_out
  pub reference_left_holds : written (record { verdict = r.verdict; count = r.reference_count }) reference_left
      ≡ leaving (judge (join_checks order one two (length stage_out) (length reference_out))) (whole one two).reference reference_out
  pub least : Judged (join_checks order one two (length stage_out) (length reference_out)) r.verdict
  pub joined : r.verdict.number ≡ 0
      → (r.verdict ≡ accepted) × Joined one two (files (take r.stage_count stage_left) (take r.reference_count reference_left))
  pub accepts : Joinable order one two → length (whole one two).stage ≤ length stage_out → length (whole one two).reference ≤ length reference_out
      → r.verdict ≡ accepted
  pub either_order : (other : WordOrder) → r.verdict ≡ accepted → judge (join_checks other one two (length stage_out) (length reference_out)) ≡ accepted
