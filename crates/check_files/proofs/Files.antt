-- The two files by what reading and loading them answers, and by what the checks find.
-- Assumes nothing.
use Rattle.std.specs.Prelude.{Option, Some, None, Ok, Err}
use Prim.Native.Nat.{ℕ, ◌≤◌}
use native.Mathlib.Omega.{arith}
use mathlib.Core.Path.{◌≡◌, refl, sym, ap, ap₂, subst, ◌∙◌}
use mathlib.Core.Bool.{Bool, true, false, ◌&&◌}
use mathlib.Core.List.{List, [], ◌∷◌}
use lib.Dec.{ltb}
use Rattle.runs.proofs.Test.{and_left, and_right, ltb-true}
use Rattle.netlist.specs.declared.File.TheVariants as file
use Rattle.netlist.specs.declared.Limits.{Limits}
use Rattle.netlist.specs.declared.Counts.{Counts}
use Rattle.netlist.specs.Types.{refusal as unread}
use Rattle.netlist.specs.Commands.{stage_file}
use Rattle.netlist.specs.Reading.{Places, counts_of, Reading, refused, readable, read_file, stage_limits, NoMore}
use Rattle.netlist.specs.Read.{outcome_of}
use Rattle.netlist.specs.Content.{Stage, Reference, stage_of}
use Rattle.verdict.specs.declared.Verdict.{Verdict}
use Rattle.verdict.specs.declared.WordOrder.{WordOrder}
use Rattle.verdict.specs.FourNumbers.{Finding}
use Rattle.verdict.specs.Checks.{verdict, Check, at_fault, sweep, finding, or_later, first_fault, checks, rise_sweeps, fall_sweeps}
use Rattle.verdict.specs.Verdicts as verdicts
use Rattle.verdict.proofs.Refusals.{refused_number}
use Rattle.wiring_spec.specs.Parts.{Pipeline}
use Rattle.wiring_spec.specs.Table.{wiring_checks}
use Rattle.check_spec.specs.Cases.{first, judge}
use Rattle.check_spec.specs.Content.{Content, pipeline_of, content_at, content_of, wired, Files, raw_in, files_within}
use Rattle.check_spec.specs.Verdicts.{file_number, refusal, verdict_on}
use Rattle.check_spec.specs.Demands.{Demand2, Demand3}
use Rattle.check_spec.specs.Loaded.{stage_view, reference_view}
use Rattle.check_spec.proofs.Demanded.{demand_2, demand_3}
use Rattle.check_spec.proofs.View.{stage_partless, stage_view_holds, reference_view_holds}
use Rattle.check_spec.proofs.Wired.{wired_none}
use Rattle.check_spec.proofs.Alike.{read_care}
use Rattle.check_spec.proofs.Bridge.{alike_judge, checks_alike}
use Rattle.circuit.specs.Stage.{stage_in}
use Rattle.circuit.specs.Reference.{reference_in}
use Rattle.circuit_load.specs.Load.{HoldsReference}
use Rattle.circuit_load.specs.Parts.{PipelineHeld, HoldsPipeline}
use Rattle.circuit_load.proofs.Reading.{was_refused, reference_held}
use Rattle.circuit_load.proofs.Holding.{pipeline_told}
use Rattle.check_word.specs.Loaded.{BothLoaded}
use Rattle.check_files.specs.Held.{StageHeld, content_in}
use Rattle.check_files.specs.declared.Sizes.{Sizes}
use Rattle.check_files.specs.Judgement.{StageFrom, ReferenceFrom, PairLoaded, JudgedAs}

-- ---- a verdict that refuses has a number, and file 0, 1 or 2

abbrev Refusal : Verdict → Type 0
Refusal v = (1 ≤ v.number) × (v.file ≤ 2)

named : Check → Bool
named c = ltb 0 c.number && ltb c.file 3

each_named : List Check → Bool
each_named [] = true
each_named (c ∷ cs) = named c && each_named cs

swept_as : (number file : ℕ) (find : ℕ → Option ℕ) (ws : List ℕ) (v : Verdict) → sweep number file find ws ≡ Err v → (v.number ≡ number) × (v.file ≡ file)
unfolding sweep at_fault
swept_as number file find [] v e = absurd (let z : ◌≡◌ {A = ℕ} 0 1 = cc in omega arith)
swept_as number file find (w ∷ ws) v e = go (find w) e (swept_as number file find ws v)
  where
    go : (x : Option ℕ) → at_fault number file w x (sweep number file find ws) ≡ Err v → (sweep number file find ws ≡ Err v → (v.number ≡ number) × (v.file ≡ file))
        → (v.number ≡ number) × (v.file ≡ file)
    go (Some i) e later = let q : v ≡ verdict number file i w = cc in (ap (λ (x : Verdict). x.number) q, ap (λ (x : Verdict). x.file) q)
    go None e later = later e

fault_named : (cs : List Check) → each_named cs ≡ true → (v : Verdict) → first_fault cs ≡ Err v → Refusal v
unfolding first_fault or_later finding named each_named
fault_named [] n v e = absurd (let z : ◌≡◌ {A = ℕ} 0 1 = cc in omega arith)
fault_named (c ∷ cs) n v e = go (finding c) refl e (fault_named cs (and_right (named c) (each_named cs) n) v)
  where
    go : (x : Finding) → finding c ≡ x → or_later x (first_fault cs) ≡ Err v → (first_fault cs ≡ Err v → Refusal v) → Refusal v
    go (Err u) f e later =
        let is = swept_as c.number c.file _ c.words v (f ∙ e) in
        let own = and_left (named c) (each_named cs) n in
        (omega (arith, is.0, ltb-true 0 c.number (and_left _ (ltb c.file 3) own)), omega (arith, is.1, ltb-true c.file 3 (and_right (ltb 0 c.number) _ own)))
    go (Ok _) f e later = later e

checks-named : (order : WordOrder) (raw : Stage) (p : Pipeline) (s : Stage) (r : Reference) → each_named (checks order raw (wiring_checks p) s r) ≡ true
unfolding checks wiring_checks rise_sweeps fall_sweeps named each_named
checks-named order raw p s r = refl

-- ---- two files that are read

module _ (order : WordOrder) (f : Files) where
  abbrev s : List ℕ
  s = f.stage

  abbrev t : List ℕ
  t = f.reference

  abbrev stage_reading : Reading
  stage_reading = read_file (stage_file f.registers) f.stage_most f.stage

  abbrev reference_reading : Reading
  reference_reading = read_file file.Reference f.reference_most f.reference

  abbrev given : Verdict
  given = verdict_on order f

  refused_as : {code reference : List ℕ} (v : Verdict) → v ≡ given → Refusal v → JudgedAs order f (Err v) code reference
  refused_as v e n = record {
    verdict_is = e;
    refuses = λ u q. let i : v ≡ u = cc in subst Refusal i n;
    loaded = λ d q. absurd (let z : ◌≡◌ {A = ℕ} 0 1 = cc in omega arith);
  }

  refuses_stage : (number at : ℕ) → stage_reading ≡ refused number at → verdict number 1 at 0 ≡ given
  unfolding judge first refusal
  refuses_stage number at e = rw e (ap (λ (k : ℕ). verdict number k at 0) (one f.registers))
    where
      one : (registers : Bool) → 1 ≡ file_number (stage_file registers)
      one true = refl
      one false = refl

  pub stage_refused : {code reference : List ℕ} (number at : ℕ) → Err (unread number at) ≡ outcome_of stage_reading
      → JudgedAs order f (Err (verdict number 1 at 0)) code reference
  stage_refused number at e =
      let r = was_refused stage_reading number at e in
      refused_as (verdict number 1 at 0) (refuses_stage number at r) ((refused_number (stage_file f.registers) f.stage_most s number at r).0, omega arith)

  module _ (less : NoMore f.stage_most stage_limits) (c : Counts) (code nets regs : List ℕ) (is : Ok c ≡ outcome_of stage_reading)
      (h : HoldsPipeline s stage_reading code nets regs) where
    told : (p : Places) × (stage_reading ≡ readable p) × (c ≡ counts_of p) × PipelineHeld s p code nets regs
    told = pipeline_told s stage_reading c code nets regs is h

    refuses_reference : (number at : ℕ) → reference_reading ≡ refused number at → verdict number 2 at 0 ≡ given
    unfolding judge first refusal
    refuses_reference number at e = rw (told.1, e)

    pub reference_refused : {code' reference : List ℕ} (number at : ℕ) → Err (unread number at) ≡ outcome_of reference_reading
        → JudgedAs order f (Err (verdict number 2 at 0)) code' reference
    reference_refused number at e =
        let r = was_refused reference_reading number at e in
        refused_as (verdict number 2 at 0) (refuses_reference number at r) ((refused_number file.Reference f.reference_most t number at r).0, omega arith)

    pub held : StageHeld c code nets regs
    held = record {
      registers = f.registers;
      most = f.stage_most;
      less = less;
      bytes = s;
      places = told.0;
      reads = told.1;
      counted = told.2;
      held = told.3;
    }

    content_is : content_in held ≡ raw_in f
    unfolding held
    content_is = ap (content_at (stage_file f.registers) s) (sym told.1)

    module _ (sizes : Counts) (reference : List ℕ) (it : Ok sizes ≡ outcome_of reference_reading)
        (k : HoldsReference t reference_reading reference) where
      of_reference : ReferenceFrom f.reference_most t sizes reference
      of_reference =
          let r = reference_held t reference_reading sizes reference it k in record { places = r.0; reads = r.1; content = r.2 }

      abbrev found : Finding
      found = first_fault (checks order (stage_view (content_in held)) (wiring_checks (pipeline_of (content_in held))) (stage_view (wired (content_in held))) (reference_in sizes reference))

      abbrev found_in : Content → Reference → Finding
      found_in p r = first_fault (checks order (stage_view p) (wiring_checks (pipeline_of p)) (stage_view (wired p)) r)

      judged : verdicts.verdict_of found ≡ given
      unfolding judge first refusal
      judged =
          let p = content_at (stage_file f.registers) s (readable told.0) in
          let q = content_at file.Reference t (readable of_reference.places) in
          let same : reference_in sizes reference ≡ reference_view q = of_reference.content ∙ sym (reference_view_holds t of_reference.places) in
          ap verdicts.verdict_of (ap₂ found_in (content_is ∙ ap (content_at (stage_file f.registers) s) told.1) same)
          ∙ sym (alike_judge (checks_alike order p q (read_care (stage_file f.registers) f.stage_most s told.0 told.1)))
          ∙ rw (told.1, of_reference.reads)

      pub checks_refuse : {code' : List ℕ} (v : Verdict) → Err v ≡ found → JudgedAs order f (Err v) code' reference
      unfolding verdicts.verdict_of
      checks_refuse v e =
          let p = content_in held in
          refused_as v (ap verdicts.verdict_of e ∙ judged)
          (fault_named (checks order (stage_view p) (wiring_checks (pipeline_of p)) (stage_view (wired p)) (reference_in sizes reference))
          (checks-named order (stage_view p) (pipeline_of p) (stage_view (wired p)) (reference_in sizes reference)) v (sym e))

      pub checks_pass : {code' : List ℕ} → Ok tt ≡ found → BothLoaded c code' sizes reference × (stage_in c code' ≡ stage_view (wired (content_in held)))
          → JudgedAs order f (Ok (record { stage = c; reference = sizes })) code' reference
      unfolding verdicts.verdict_of
      checks_pass {code'} e b = record {
        verdict_is = ap verdicts.verdict_of e ∙ judged;
        refuses = λ v q. absurd (let z : ◌≡◌ {A = ℕ} 0 1 = cc in omega arith);
        loaded = λ d q.
            let pair : Sizes = record { stage = c; reference = sizes } in
            let i : pair ≡ d = cc in
            subst (λ (x : Sizes). PairLoaded f x.stage code' x.reference reference) i
            (record {
              both = b.0;
              stage_from_holds = record { places = told.0; reads = told.1; content = b.1 ∙ ap (λ (p : Content). stage_view (wired p)) content_is };
              reference_from = of_reference;
            });
      }

-- without registers the circuit that was loaded is the stage as the file has it
pub plain_content : {most : Limits} {bytes : List ℕ} {c : Counts} {code : List ℕ} (from : StageFrom false most bytes c code) → stage_in c code ≡ stage_of bytes from.places
plain_content {most} {bytes} from =
    from.content ∙ ap stage_view (wired_none (content_of file.Stage most bytes) (stage_partless most bytes))
    ∙ ap (λ (x : Reading). stage_view (content_at file.Stage bytes x)) from.reads ∙ stage_view_holds false bytes from.places

-- ---- the call

-- within limits that were handed on
pub within : (registers : Bool) {m n m' n' : Limits} (s t : List ℕ) → m ≡ m' → n ≡ n' → files_within registers m n s t ≡ files_within registers m' n' s t
within registers s t e e' = ap₂ (λ (a b : Limits). files_within registers a b s t) e e'

pub answered : (order : WordOrder) {f g : Files} → f ≡ g → (v : Verdict) → v ≡ verdict_on order f → v ≡ verdict_on order g
answered order same v is = is ∙ ap (verdict_on order) same

-- of the verdict that is promised, what is demanded holds
pub checked : (order : WordOrder) (f : Files) (v : Verdict) → v ≡ verdict_on order f → (v ≡ verdict_on order f) × (Demand2 order f v × Demand3 order f v)
checked order f v is = (is, (subst (Demand2 order f) (sym is) (demand_2 order f), subst (Demand3 order f) (sym is) (demand_3 order f)))
