-- The join from its steps: the parts' verdicts, then 22, 23 and 24, and what the call leaves in the buffers.
-- Assumes nothing.
use Rattle.std.specs.Prelude.{Option, Ok, Err}
use Prim.Native.Nat.{ℕ, ◌+◌, ◌*◌, ◌^◌, ◌≤◌, ◌<◌}
use native.Mathlib.Omega.{arith}
use mathlib.Core.Path.{◌≡◌, refl, sym, ap, ap₂, ◌∙◌, subst}
use mathlib.Core.Bool.{Bool, true, false, not, cond, ◌||◌}
use mathlib.Core.Logic.{◌⊎◌, ⊎_elim}
use mathlib.Core.List.{List, [], ◌∷◌, map, map-map, map-id}
use lib.ListN.{length, get_or, drop, length-map}
use lib.Dec.{eqb, ltb}
use borrow.Author.Tests.{eq-eqb, ne_eqb, lt-ltb, le-ltb}
use Rattle.netlist.specs.declared.File.TheVariants.{Stage, Reference}
use Rattle.netlist.specs.declared.Counts.{Counts}
use Rattle.netlist.specs.declared.Limits.{Limits}
use Rattle.netlist.specs.Reading.{Reading, refused, readable, read_file, part_stage_limits, part_reference_limits}
use Rattle.netlist.specs.Content as parsed
use Rattle.netlist.specs.Writing.{pair_operands, write_stage, write_reference}
use Rattle.verdict.specs.declared.Verdict.{Verdict}
use Rattle.verdict.specs.declared.WordOrder.{WordOrder}
use Rattle.verdict.specs.FourNumbers.{Finding}
use Rattle.verdict.specs.Graph.{tabulate}
use Rattle.verdict.specs.Words.{words, names, spelled, is_in}
use Rattle.verdict.specs.Checks.{sweep}
use Rattle.verdict.specs.Written.{holding}
use Rattle.check_spec.specs.Cases.{verdict, accepted, case, Check, first, judge, unequal}
use Rattle.check_spec.specs.Lists.{numbers}
use Rattle.check_spec.specs.Content as content
use Rattle.check_spec.specs.Content.{Content, Files, content_at, content_of, files_within, part_files}
use Rattle.check_spec.specs.Words.{cares_for}
use Rattle.check_spec.specs.Checks.{swept}
use Rattle.check_spec.specs.Verdicts.{verdict_on}
use Rattle.check_spec.specs.Loaded.{from_stage, from_reference, stage_view, reference_view}
use Rattle.check_spec.specs.Writing.{leaving}
use Rattle.check_spec.proofs.Names.{of_bits_below}
use Rattle.check_spec.proofs.Alike.{cares_alike}
use Rattle.check_spec.proofs.Bridge.{fault_or, swept_is, sweep_number}
use Rattle.check_spec.proofs.Back.{stage_content, reference_content}
use Rattle.check_spec.proofs.Wired.{plain_stage}
use Rattle.check_spec.proofs.Writing.{leaves_none, leaves_bytes}
use Rattle.check_spec.proofs.Sound.{Sound, accepted_sound}
use Rattle.circuit.specs.Stage.{stage_gates, stage_outputs, stage_care, stage_in, StageLoaded}
use Rattle.circuit.specs.Reference.{operators_in, signals_in, reference_in, ReferenceLoaded}
use Rattle.check_files.specs.Judgement.{PairLoaded}
use Rattle.check_files.proofs.Files.{plain_content}
use Rattle.join_spec.specs.declared.JoinAnswer.{JoinAnswer}
use Rattle.join_spec.specs.Joining as joins
use Rattle.join_spec.specs.Joining.{whole, seam_checks, join_checks, JoinDemand}
use Rattle.join_spec.proofs.Call.{passed_accepts, passed_refuses, join_demand}
use Rattle.write_command.specs.Put.{Put}
use Rattle.write_command.proofs.Joining.{put_holding}
use Rattle.write_joined.specs.Whole as code
use Rattle.write_joined.proofs.Whole.{outputs_count, signals_count}
use Rattle.call_join.specs.declared.FileCounts.{FileCounts}
use Rattle.call_join.specs.Steps.{answer_word, uncared_under, PartsLoaded, PartsHeld, answer_with, Leaves}
use Rattle.call_join.proofs.Answers.{answer_word_lem}
use Rattle.call_join.proofs.Wholes.{stage_bytes, reference_bytes}

-- ---- what is left in the buffers

-- a refusal writes nothing
pub leaves_refused : {v : Verdict} (w : Verdict) (f : Files) {r : JoinAnswer} (stage reference : List ℕ) → v ≡ w → ¬ (w.number ≡ 0) → r ≡ answer_with w 0 0 → Leaves v f r stage reference stage reference
leaves_refused w f stage reference e n is = rw (e, is) (record {
  stage_left_holds = sym (leaves_none w n f.stage stage);
  reference_left_holds = sym (leaves_none w n f.reference reference);
})

or-true : (b : Bool) → (b || true) ≡ true
or-true true = refl
or-true false = refl

-- ---- two parts

module _ (order : WordOrder) (counts : FileCounts) (code1 reference1 code2 reference2 : List ℕ) (loaded : PartsLoaded counts code1 reference1 code2 reference2)
    (one two : Files) (held : PartsHeld counts code1 reference1 code2 reference2 one two) where
  abbrev S1 : parsed.Stage
  S1 = stage_in counts.stage1 code1

  abbrev R1 : parsed.Reference
  R1 = reference_in counts.reference1 reference1

  abbrev S2 : parsed.Stage
  S2 = stage_in counts.stage2 code2

  abbrev R2 : parsed.Reference
  R2 = reference_in counts.reference2 reference2

  pub stage_is : (whole one two).stage ≡ write_stage (code.joined_stage S1 S2)
  stage_is = rw (held.stage1_is, held.stage2_is) (stage_bytes S1 S2)

  pub reference_is : (whole one two).reference ≡ write_reference (code.joined_reference R1 R2)
  reference_is = rw (held.reference1_is, held.reference2_is) (reference_bytes R1 R2)

  outputs_are : length (content.stage_in one).outputs ≡ counts.stage1.outputs
  outputs_are = ap (λ (c : Content). length c.outputs) held.stage1_is ∙ length-map S1.outputs pair_operands ∙ outputs_count counts.stage1 code1

  inputs_are : (content.stage_in two).inputs ≡ counts.stage2.inputs
  inputs_are = ap (λ (c : Content). c.inputs) held.stage2_is

  -- the code's answer and the code's words are those of the contents
  cared : counts.stage1.outputs ≡ counts.stage2.inputs → (w : ℕ) → cares_for (content.stage_in two) (joins.answer_word (content.reference_in one) w) ≡ is_in (answer_word R1 w) (words S2)
  unfolding words
  cared e w =
      let same : joins.answer_word (content.reference_in one) w ≡ answer_word R1 w = ap (λ (c : Content). joins.answer_word c w) held.reference1_is ∙ answer_word_lem R1 w in
      let long : length (content.reference_in one).outputs ≡ (content.stage_in two).inputs =
      ap (λ (c : Content). length c.outputs) held.reference1_is ∙ length-map R1.outputs (λ (v : ℕ). v ∷ []) ∙ omega (arith, signals_count counts.reference1 reference1, loaded.outputs, e) ∙ sym inputs_are in
      let below : joins.answer_word (content.reference_in one) w < 2 ^ (content.stage_in two).inputs =
      subst (λ (k : ℕ). joins.answer_word (content.reference_in one) w < 2 ^ k) long (of_bits_below (length (content.reference_in one).outputs) _) in
      cares_alike (content.stage_in two) (joins.answer_word (content.reference_in one) w) below
      ∙ ap₂ (λ (x : ℕ) (c : Content). is_in x (words (stage_view c))) same held.stage2_is

  module _ (stage_room reference_room : ℕ) where
    abbrev m : ℕ
    m = length (write_stage (code.joined_stage S1 S2))

    abbrev n : ℕ
    n = length (write_reference (code.joined_reference R1 R2))

    abbrev is_short : Bool
    is_short = ltb stage_room m || ltb reference_room n

    pub seam_22 : ¬ (counts.stage1.outputs ≡ counts.stage2.inputs) → judge (seam_checks order one two stage_room reference_room) ≡ verdict 22 0 counts.stage1.outputs counts.stage2.inputs
    unfolding seam_checks judge first
    seam_22 d = rw (outputs_are, inputs_are, ne_eqb counts.stage1.outputs counts.stage2.inputs d)

    pub seam_is : counts.stage1.outputs ≡ counts.stage2.inputs → (x : Finding) → x ≡ sweep 23 0 (uncared_under order counts.stage1.inputs R1 S2) (names order S1)
        → judge (seam_checks order one two stage_room reference_room) ≡ fault_or x (cond is_short (verdict 24 3 0 0) accepted)
    unfolding seam_checks judge first names words numbers
    seam_is e x is =
        let rest : Verdict = cond (ltb stage_room (length (whole one two).stage) || ltb reference_room (length (whole one two).reference)) (verdict 24 3 0 0) accepted in
        let under : Content → Finding = λ c. sweep 23 0 (uncared_under order c.inputs R1 S2) (names order (stage_view c)) in
        let fails : ℕ → ℕ → Bool = λ w i. not (cares_for (content.stage_in two) (joins.answer_word (content.reference_in one) w)) in
        ap (λ (b : Bool). cond (not b) (verdict 22 0 (length (content.stage_in one).outputs) (content.stage_in two).inputs) (first (swept order (content.stage_in one) 23 0 1 fails) rest))
        (eq-eqb (length (content.stage_in one).outputs) (content.stage_in two).inputs (outputs_are ∙ e ∙ sym inputs_are))
        ∙ swept_is order (content.stage_in one) 23 0 1 1 fails (λ w i. not (is_in (answer_word R1 w) (words S2))) refl (λ w i l. ap not (cared e w)) rest
        ∙ ap₂ fault_or (ap under held.stage1_is ∙ sym is) (ap₂ (λ (a b : List ℕ). cond (ltb stage_room (length a) || ltb reference_room (length b)) (verdict 24 3 0 0) accepted) stage_is reference_is)

    -- a fault of 23 has its number
    pub leaves_uncared : counts.stage1.outputs ≡ counts.stage2.inputs → (v : Verdict) → Err v ≡ sweep 23 0 (uncared_under order counts.stage1.inputs R1 S2) (names order S1)
        → {r : JoinAnswer} (stage reference : List ℕ) → r ≡ answer_with v 0 0 → Leaves (judge (seam_checks order one two stage_room reference_room)) (whole one two) r stage reference stage reference
    leaves_uncared e v is stage reference a = leaves_refused v (whole one two) stage reference (seam_is e (Err v) is) (λ z. omega (arith, sweep_number 23 0 _ (names order S1) v (sym is), z)) a

    module _ (e : counts.stage1.outputs ≡ counts.stage2.inputs) (passed : Ok tt ≡ sweep 23 0 (uncared_under order counts.stage1.inputs R1 S2) (names order S1)) where
      pub leaves_short : (stage_room < m) ⊎ (reference_room < n) → {r : JoinAnswer} (stage reference : List ℕ) → r ≡ answer_with (verdict 24 3 0 0) 0 0
          → Leaves (judge (seam_checks order one two stage_room reference_room)) (whole one two) r stage reference stage reference
      leaves_short l stage reference a =
          let short : is_short ≡ true = ⊎_elim (λ h. rw (lt-ltb stage_room m h)) (λ h. rw (lt-ltb reference_room n h) (or-true (ltb stage_room m))) l in
          leaves_refused (verdict 24 3 0 0) (whole one two) stage reference (seam_is e (Ok tt) passed ∙ rw short) (λ z. omega arith) a

      pub leaves_written : m ≤ stage_room → n ≤ reference_room
          → (r : JoinAnswer) {stage reference after after' : List ℕ} → r.verdict ≡ accepted
          → r.stage_count ≡ m → r.reference_count ≡ n
          → Put stage 0 (write_stage (code.joined_stage S1 S2)) after → m ≤ length stage
          → Put reference 0 (write_reference (code.joined_reference R1 R2)) after' → n ≤ length reference
          → Leaves (judge (seam_checks order one two stage_room reference_room)) (whole one two) r stage reference after after'
      leaves_written l l' r {stage} {reference} v em en s fits t fits' = rw (seam_is e (Ok tt) passed, le-ltb stage_room m l, le-ltb reference_room n l', stage_is, reference_is) (record {
        stage_left_holds = (λ i. record { verdict = v i; count = em i; buffer = put_holding s fits i }) ∙ sym (leaves_bytes accepted refl _ stage);
        reference_left_holds = (λ i. record { verdict = v i; count = en i; buffer = put_holding t fits' i }) ∙ sym (leaves_bytes accepted refl _ reference);
      })

-- ---- a part that the check left

pub part_held : {m n : Limits} {s t : List ℕ} {c : Counts} {code : List ℕ} {d : Counts} {reference : List ℕ} → m ≡ part_stage_limits → n ≡ part_reference_limits
    → PairLoaded (files_within false m n s t) c code d reference
    → (content.stage_in (part_files s t) ≡ from_stage (stage_in c code)) × (content.reference_in (part_files s t) ≡ from_reference (reference_in d reference))
part_held {m} {n} {s} {t} em en p =
    let from = p.stage_from_holds in
    let answer = p.reference_from in (
      plain_stage (ap (λ (l : Limits). content_of Stage l s) (sym em) ∙ stage_content m s from.places from.reads ∙ ap from_stage (sym (plain_content from))) refl,
      ap (λ (l : Limits). content_of Reference l t) (sym en) ∙ reference_content n t answer.places answer.reads ∙ ap from_reference (sym answer.content),
    )

-- a flat form of few numbers has few care words
pub few_care : {c : Counts} {code : List ℕ} {n : ℕ} → StageLoaded c code → length code ≡ n → n ≤ 0x10000 → c.care ≤ 0x10000
few_care l e h = omega (arith, l.room)

-- ---- the parts' verdicts

-- a verdict within limits that are those of a part
pub judged_by : (order : WordOrder) (m n : Limits) (s t : List ℕ) (v : Verdict) → v ≡ verdict_on order (files_within false m n s t) → m ≡ part_stage_limits → n ≡ part_reference_limits → v ≡ verdict_on order (part_files s t)
judged_by order m n s t v e em en = e ∙ ap₂ (λ (x y : Limits). verdict_on order (files_within false x y s t)) em en

pub accepts_zero : {v w : Verdict} → v ≡ w → v.number ≡ 0 → w.number ≡ 0
accepts_zero e z = ap (λ (x : Verdict). x.number) (sym e) ∙ z

module _ (order : WordOrder) (one two : Files) (stage reference : List ℕ) where
  abbrev checks : Verdict
  checks = judge (join_checks order one two (length stage) (length reference))

  pub first_refused : (v : Verdict) → v ≡ verdict_on order one → ¬ (v.number ≡ 0) → {r : JoinAnswer} → r ≡ answer_with v 0 0 → Leaves checks (whole one two) r stage reference stage reference
  first_refused v e n a =
      let z : v.file + 0 ≡ v.file = omega arith in
      leaves_refused v (whole one two) stage reference
      (rw (← e) (passed_refuses v 0 _ n) ∙ ap (λ (k : ℕ). verdict v.number k v.at v.word) z) n a

  module _ (accepts : (verdict_on order one).number ≡ 0) where
    pub second_refused : (v : Verdict) → v ≡ verdict_on order two → ¬ (v.number ≡ 0) → {r : JoinAnswer} → r ≡ answer_with (verdict v.number (v.file + 3) v.at v.word) 0 0
        → Leaves checks (whole one two) r stage reference stage reference
    second_refused v e n a = leaves_refused _ (whole one two) stage reference (passed_accepts (verdict_on order one) 0 _ accepts ∙ rw (← e) (passed_refuses v 3 _ n)) n a

    pub both_accepted : (verdict_on order two).number ≡ 0 → {r : JoinAnswer} {after after' : List ℕ} → Leaves (judge (seam_checks order one two (length stage) (length reference))) (whole one two) r stage reference after after'
        → Leaves checks (whole one two) r stage reference after after'
    both_accepted accepts' {r} {after} {after'} l = subst (λ (v : Verdict). Leaves v (whole one two) r stage reference after after') (sym (passed_accepts (verdict_on order one) 0 _ accepts ∙ passed_accepts (verdict_on order two) 3 _ accepts')) l

pub demanded : (order : WordOrder) (s1 r1 s2 r2 : List ℕ) {r : JoinAnswer} {stage reference after after' : List ℕ}
    → Leaves (judge (join_checks order (part_files s1 r1) (part_files s2 r2) (length stage) (length reference))) (whole (part_files s1 r1) (part_files s2 r2)) r stage reference after after'
    → JoinDemand order (part_files s1 r1) (part_files s2 r2) stage reference r after after'
demanded order s1 r1 s2 r2 {r} {stage} {reference} {after} {after'} l = join_demand order s1 r1 s2 r2 stage reference r after after' l.stage_left_holds l.reference_left_holds
