-- Two sound parts, with equal counts at the seam, whose answers are cared for, make a sound whole: in each word this follows from what holds of the parts
-- in theirs.
-- Assumes nothing.
use Prim.Native.Nat.{ℕ, zero, suc, ◌+◌, ◌^◌, ◌≤◌, ◌<◌}
use native.Mathlib.Omega.{arith}
use mathlib.Core.Path.{◌≡◌, refl, sym, ap, ◌∙◌, subst}
use mathlib.Core.Bool.{Bool, true}
use mathlib.Core.List.{List}
use lib.ListN.{length}
use Rattle.runs.specs.Row.{Row}
use Rattle.runs.specs.Net.{Net, input_rail}
use Rattle.runs.specs.Pair.{DataOf}
use Rattle.runs.specs.Acyclic.{Acyclic}
use Rattle.runs.specs.Tight.{Tight, Clear}
use Rattle.runs.specs.Complete.{Conforms}
use Rattle.runs.proofs.Tight.{passes_tight}
use Rattle.runs.proofs.Clear.{fall_passes_clear}
use Rattle.runs.proofs.Complete.{tight_conforms, conforms_passes, conforms_fall_passes}
use Rattle.runs.proofs.Series.{series_tight, series_clear}
use Rattle.netlist.specs.declared.File.TheVariants.{Stage, Reference}
use Rattle.netlist.specs.Reading.{stage_limits, reference_limits, part_stage_limits, part_reference_limits}
use Rattle.check_spec.specs.Lists.{bit_of}
use Rattle.check_spec.specs.Content.{Content, Files, raw_in, stage_in, reference_in, part_files}
use Rattle.check_spec.specs.Rows.{net_of}
use Rattle.check_spec.specs.Words.{rails_for, cares_for, IsWord, answer}
use Rattle.check_spec.specs.Demands.{BothRead}
use Rattle.check_spec.proofs.Loops.{acyclic}
use Rattle.check_spec.proofs.Names.{bit_of_holds}
use Rattle.check_spec.proofs.OneWord.{word_data, spells_bit}
use Rattle.check_spec.proofs.View.{stage_partless, reference_partless, pipeline_reads}
use Rattle.check_spec.proofs.Wired.{wired_none, plain_stage}
use Rattle.check_spec.proofs.Formed.{Formed, Small, read_formed, written_reads}
use Rattle.check_spec.proofs.Sound.{Sound, sound_inputs, sound_outputs, sound_free, Agrees, sound_from, sound_answers, sound_kept}
use Rattle.join_spec.specs.Joining.{joined_by, net_in_whole, joined_stage, joined_reference, whole, answer_word, Joined}
use Rattle.join_spec.proofs.Whole.{RoomForTwo, outputs_length}
use Rattle.join_spec.proofs.Series.{stage_named, whole_cast, in_series, stage_formed, whole_free}
use Rattle.join_spec.proofs.Answers.{answer_local, reference_formed, whole_answers}

-- the limits of parts leave room for two in a file that the check reads
stage_room_holds : RoomForTwo part_stage_limits stage_limits
stage_room_holds = record { inputs = omega arith; gates = omega arith; outputs = omega arith }

reference_room_holds : RoomForTwo part_reference_limits reference_limits
reference_room_holds = record { inputs = omega arith; gates = omega arith; outputs = omega arith }

-- a word in which a stage conforms
module _ (S : Acyclic) (w : ℕ) (a : ℕ → Bool) (k : Conforms S.net (rails_for w) a) where
  word_tight : Tight S.net (rails_for w) a
  word_tight = passes_tight S (rails_for w) a (word_data S.net w) (conforms_passes S (rails_for w) a k)

  word_clear : Clear S.net (rails_for w)
  word_clear = fall_passes_clear S (rails_for w) (word_data S.net w) (conforms_fall_passes S (rails_for w) a k)

module _ (s1 r1 s2 r2 : List ℕ) where
  abbrev one : Files
  one = part_files s1 r1

  abbrev two : Files
  two = part_files s2 r2

  abbrev S : Content
  S = joined_stage one two

  abbrev R : Content
  R = joined_reference one two

  module _ (a : Sound one) (b : Sound two) (counts : length (stage_in one).outputs ≡ (stage_in two).inputs) where
    seam : (stage_in two).inputs ≡ length (stage_in one).outputs
    seam = sym counts

    -- the second reference takes as many inputs as the first has outputs
    signals : (reference_in two).inputs ≡ length (reference_in one).outputs
    signals = sym (sound_inputs b) ∙ seam ∙ sound_outputs a

    formed1 : Formed Stage part_stage_limits (stage_in one)
    formed1 = let none = stage_partless part_stage_limits s1 in rw (wired_none (raw_in one) none) (read_formed Stage part_stage_limits s1 a.read.0 none)

    formed2 : Formed Stage part_stage_limits (stage_in two)
    formed2 = let none = stage_partless part_stage_limits s2 in rw (wired_none (raw_in two) none) (read_formed Stage part_stage_limits s2 b.read.0 none)

    ordered1 : Formed Reference part_reference_limits (reference_in one)
    ordered1 = read_formed Reference part_reference_limits r1 a.read.1 (reference_partless part_reference_limits r1)

    ordered2 : Formed Reference part_reference_limits (reference_in two)
    ordered2 = read_formed Reference part_reference_limits r2 b.read.1 (reference_partless part_reference_limits r2)

    answers : (bits : ℕ → Bool) (j : ℕ) → j < length (reference_in two).outputs → answer R bits j ≡ answer (reference_in two) (answer (reference_in one) bits) j
    answers = whole_answers (reference_in one) (reference_in two) part_reference_limits ordered1 ordered2 signals

    module _ (w : ℕ) where
      abbrev next : ℕ
      next = answer_word (reference_in one) w

      -- the bits of that word are the first part's answer
      next_bit : (j : ℕ) → j < (stage_in two).inputs → bit_of next j ≡ answer (reference_in one) (bit_of w) j
      next_bit j l = bit_of_holds (length (reference_in one).outputs) (answer (reference_in one) (bit_of w)) j (omega (arith, sound_outputs a))

      -- the whole answers to w what the second part answers to it
      answers_next : (j : ℕ) → j < length (stage_in two).outputs → answer (reference_in two) (bit_of next) j ≡ answer R (bit_of w) j
      answers_next j l =
          ap (λ (f : ℕ → Bool). f j) (answer_local (reference_in two) (bit_of next) (answer (reference_in one) (bit_of w)) (λ i h. next_bit i (omega (arith, sound_inputs b))))
          ∙ sym (answers (bit_of w) j (omega (arith, sound_outputs b)))

      whole-conforms : IsWord (stage_in one) w → IsWord (stage_in two) next → Conforms (net_of S) (rails_for w) (answer R (bit_of w))
      unfolding joined_by
      whole-conforms h h' =
          let A = acyclic (stage_in one) (sound_free a) in
          let B = acyclic (stage_in two) (sound_free b) in
          let W = acyclic S (whole_free (stage_in one) (stage_in two) part_stage_limits formed1 formed2 seam (sound_free a) (sound_free b)) in
          let v = answer (reference_in one) (bit_of w) in
          let spelt : (j : ℕ) → j < (stage_in two).inputs → DataOf (rails_for next) (input_rail j) (v j) = λ j l. spells_bit next j (v j) (next_bit j l) in
          let ta = word_tight A w v (a.conforms w h) in
          let tb = word_tight B next (answer (reference_in two) (bit_of next)) (b.conforms next h') in
          let tb' : Tight (net_of (stage_in two)) (rails_for next) (answer R (bit_of w)) = record {
            right = λ r s j l. subst (DataOf r ((net_of (stage_in two)).rail j)) (answers_next j l) (tb.right r s j l);
            tight = tb.tight;
          } in
          let named_a = stage_named part_stage_limits (stage_in one) formed1 in
          let named_b = stage_named part_stage_limits (stage_in two) formed2 in
          let s = in_series (stage_in one) (stage_in two) part_stage_limits formed1 formed2 seam in
          let move = net_in_whole (stage_in one) (stage_in two) in
          tight_conforms W (rails_for w) (answer R (bit_of w)) (word_data (net_of S) w)
          (series_tight A B W move named_a named_b s (rails_for w) v (rails_for next) spelt (answer R (bit_of w)) ta tb')
          (series_clear A B W move named_a named_b s (rails_for w) v (rails_for next) spelt ta.right (word_clear A w v (a.conforms w h))
          (word_clear B next (answer (reference_in two) (bit_of next)) (b.conforms next h')))

    module _ (cared : (w : ℕ) → IsWord (stage_in one) w → IsWord (stage_in two) (answer_word (reference_in one) w)) where
      agrees : Agrees S R
      unfolding joined_by cares_for
      agrees = record {
        plain = refl;
        inputs = sound_inputs a;
        outputs = outputs_length _ (stage_in one) (stage_in two) ∙ sound_outputs b ∙ sym (outputs_length _ (reference_in one) (reference_in two));
        free = whole_free (stage_in one) (stage_in two) part_stage_limits formed1 formed2 seam (sound_free a) (sound_free b);
        cast = whole_cast (stage_in one) (stage_in two) a.cast b.cast;
        conforms = λ w h. whole-conforms w h (cared w h);
      }

      -- "the whole is accepted, and its runs obey everything said of a stage", "unless a gate never rises"
      pub whole_joined : Joined one two (whole one two)
      whole_joined =
          let small : Small stage_limits = record { words = omega arith; nets = omega arith } in
          let small' : Small reference_limits = record { words = omega arith; nets = omega arith } in
          let s = pipeline_reads true stage_limits _ (written_reads Stage stage_limits S small (stage_formed (stage_in one) (stage_in two) part_stage_limits formed1 formed2 seam stage_limits stage_room_holds)) in
          let r = written_reads Reference reference_limits R small' (reference_formed (reference_in one) (reference_in two) part_reference_limits ordered1 ordered2 signals reference_limits reference_room_holds) in
          let h : Sound (whole one two) = sound_from (s.0, r.0) s.1 r.1 agrees in
          record {
            reads = (s.0, r.0);
            stage_is = plain_stage s.1 agrees.plain;
            reference_is = r.1;
            answers = λ bits j l. ap (λ (c : Content). answer c bits j) r.1 ∙ answers bits j l;
            whole_accepted = sound_answers h;
            kept = sound_kept h;
          }
