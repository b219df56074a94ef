-- The call: its checks by their tests, that the stage it writes reads back, and that this stage is accepted against its reference.
-- Assumes nothing.
use Rattle.std.specs.Prelude.{Some}
use Prim.Native.Nat.{ℕ, suc, ◌+◌, ◌*◌, ◌≤◌, ◌<◌}
use native.Mathlib.Omega.{arith}
use mathlib.Core.Path.{◌≡◌, refl, sym, ap, ap₂, ◌∙◌, subst}
use mathlib.Core.Bool.{Bool, true, false, cond, not}
use mathlib.Core.Logic.{inl}
use mathlib.Core.List.{List, [], ◌∷◌, map, flat_map}
use lib.ListN.{length, take, length-map}
use lib.Dec.{ltb}
use Rattle.runs.proofs.Test.{clash, not-false, ltb-false}
use Rattle.netlist.specs.declared.File.TheVariants.{Stage, Reference}
use Rattle.netlist.specs.Commands.{when_found, command_table, own_commands, form_in}
use Rattle.netlist.specs.Reading.{Nets, Reading, refused, readable, read_file, stage_limits, reference_limits}
use Rattle.netlist.specs.Read.{farthest, most_bytes}
use Rattle.netlist.specs.Coded.{Coded}
use Rattle.netlist.specs.Content as parsed
use Rattle.netlist.specs.Content.{reference_of}
use Rattle.netlist.specs.Writing.{All}
use Rattle.netlist.specs.Formed.{ReferenceFormed}
use Rattle.netlist.proofs.Readable.{in_pins, in_rails}
use Rattle.netlist.proofs.Formed.{GatesFormed, OutputFormed}
use Rattle.netlist.proofs.References.{reference_formed}
use Rattle.netlist.proofs.Cut.{read_file_take}
use Rattle.verdict.specs.declared.Verdict.{Verdict}
use Rattle.verdict.specs.declared.Answer.{Answer}
use Rattle.verdict.specs.Checks as found
use Rattle.verdict.specs.Search.{least}
use Rattle.verdict.specs.Written.{Written, written}
use Rattle.verdict.proofs.Written.{holding_take}
use Rattle.check_spec.proofs.Cut.{read_short}
use Rattle.check_spec.specs.Cases.{verdict, accepted, first, judge, sweep, sweep_places}
use Rattle.check_spec.specs.Lists.{numbers}
use Rattle.check_spec.specs.Content.{Content, content_at, stage_in, files}
use Rattle.check_spec.specs.Loaded.{from_reference}
use Rattle.check_spec.specs.Rows.{no_gate}
use Rattle.check_spec.specs.Verdicts.{refusal, reading}
use Rattle.check_spec.specs.Demands.{Pass, Judged}
use Rattle.check_spec.specs.Writing.{leaving}
use Rattle.check_spec.proofs.First.{judged}
use Rattle.check_spec.proofs.Laws.{Laws, none, ◌&◌, judge_later, before, whole_accepted, places_law, test_law}
use Rattle.check_spec.proofs.Sound.{Sound, Agrees, reading_number, sound_from, sound_answers, sound_kept}
use Rattle.check_spec.proofs.View.{pipeline_reads}
use Rattle.check_spec.proofs.Wired.{plain_stage}
use Rattle.check_spec.proofs.Formed.{Formed, nets_of, read_of, written_reads}
use Rattle.check_spec.proofs.Back.{reference_content}
use Rattle.check_spec.proofs.Writing.{leaves_bytes, leaves_verdict}
use Rattle.make_spec.proofs.Leading.{leads_found}
use Rattle.make_spec.specs.Make.{rails_at, built, made_stage, leads_out, reference_read, made_bytes, make_checks, make_checks_on, LeadsFound, MadeFrom, MakeDemand}
use Rattle.make_spec.specs.Count.{operations}
use Rattle.make_spec.proofs.Lists.{at_all}
use Rattle.make_spec.proofs.Gates.{Fit, BothBelow}
use Rattle.make_spec.proofs.Stage.{stage, size, all, whole, two_rails, fit, fit_at, free, outputs_are, outputs_long, word_conforms, word_waits}

-- ---- the checks

first-swept : (number file : ℕ) (f : ℕ → Bool) (l : List ℕ) (v : Verdict) → first (sweep_places number file l f) v ≡ when_found (found.first f l) (λ x. verdict number file x 0) v
unfolding first sweep flat_map found.first when_found
first-swept number file f [] v = refl
first-swept number file f (x ∷ l) v = go (f x) (first-swept number file f l v)
  where
    go : (b : Bool) {u : Verdict} → u ≡ when_found (found.first f l) (λ x. verdict number file x 0) v
        → cond b (verdict number file x 0) u ≡ when_found (cond b (Some x) (found.first f l)) (λ x. verdict number file x 0) v
    go true e = refl
    go false e = e

-- 26, 27 or none, as tests
abbrev pub later_verdict : Content → ℕ → Verdict
later_verdict r room =
    cond (ltb stage_limits.gates (length (built r).gates)) (verdict 26 2 (length (built r).gates) 0) (cond (ltb room (length (made_bytes r))) (verdict 27 3 0 0) accepted)

-- what the call finds: a search for 25, then these
pub judged_by : (r : Content) (room : ℕ)
    → judge (make_checks r room) ≡ when_found (least (λ x. not (leads_out r x)) 0 (r.inputs + length r.gates)) (λ x. verdict 25 2 x 0) (later_verdict r room)
unfolding make_checks judge first
judged_by r room = first-swept 25 2 (λ x. not (leads_out r x)) (numbers 0 (r.inputs + length r.gates)) _

-- ---- the stage

module _ (N : Nets) where
  gates_formed : (k : ℕ) (xs : List Coded) → All (Fit (2 * N.inputs + N.gates)) xs → GatesFormed Stage N k xs
  gates_formed k [] h = tt
  gates_formed k (x ∷ xs) h = (record { known = h.0.known; whole = h.0.whole; named = in_pins N k 0 x.operands h.0.pins_in_holds }, gates_formed (suc k) xs h.1)

  output_formed : (vs : List ℕ) → length vs ≡ 2 → BothBelow (2 * N.inputs + N.gates) vs → OutputFormed Stage N vs
  unfolding command_table own_commands form_in
  output_formed [] e b = absurd (omega arith)
  output_formed (x ∷ []) e b = absurd (omega arith)
  output_formed (x ∷ y ∷ []) e b = record { whole = refl; named = in_rails N N.gates 0 (x ∷ y ∷ []) (b false, (b true, tt)) }
  output_formed (x ∷ y ∷ z ∷ vs) e b = absurd (omega arith)

module _ (r : parsed.Reference) (formed : ReferenceFormed reference_limits r) where
  -- two gates for each operation that is not NOT
  pub needed_counted : length (built (from_reference r)).gates ≡ 2 * operations r.gates
  needed_counted = (whole r formed).count ∙ omega arith

  abbrev c : Content
  c = stage r formed

  stage_formed : length c.gates ≤ stage_limits.gates → Formed Stage stage_limits c
  stage_formed few = record {
    inputs_in = formed.inputs_in;
    gates_in_holds = few;
    outputs_in_holds = rw (outputs_long r formed) formed.outputs_in_holds;
    gates = gates_formed (nets_of c) 0 c.gates (at_all (Fit (2 * r.inputs + length c.gates)) c.gates no_gate (λ j l. fit r formed j l _ (omega arith)));
    outputs = rw (outputs_are r formed) (outputs r.outputs formed.outputs_formed);
    care_in_holds = tt;
    care_stage = inl refl;
    plain = refl;
  }
    where
      outputs : (l : List ℕ) → All (λ v. v < size r formed) l → All (OutputFormed Stage (nets_of c)) (map (rails_at (all r formed)) l)
      outputs [] h = tt
      outputs (v ∷ l) h = let t = two_rails r formed v h.0 in (output_formed (nets_of c) (rails_at (all r formed) v) t.0 t.1, outputs l h.1)

  module _ (lead : (s : ℕ) → s < size r formed → leads_out (from_reference r) s ≡ true) where
    agrees : Agrees c (from_reference r)
    agrees = record {
      plain = refl;
      inputs = refl;
      outputs = outputs_long r formed ∙ sym (length-map r.outputs (λ (v : ℕ). v ∷ []));
      free = free r formed;
      cast = λ net g. (fit_at r formed net g).cast;
      conforms = λ w h. word_conforms r formed w lead;
    }

    -- the bytes read as the stage, in which checks 10 to 21 find nothing
    pub made_from : length c.gates ≤ stage_limits.gates → (reference : List ℕ) → Pass (reading Reference reference_limits reference) → reference_read reference ≡ from_reference r
        → MadeFrom (files (made_bytes (from_reference r)) reference)
    unfolding made_stage
    made_from few reference read is =
        let s = pipeline_reads true stage_limits _ (written_reads Stage stage_limits c (record { words = omega arith; nets = omega arith }) (stage_formed few)) in
        let h : Sound (files (made_bytes (from_reference r)) reference) = sound_from (s.0, read) s.1 is agrees in
        let is-stage : stage_in (files (made_bytes (from_reference r)) reference) ≡ c = plain_stage s.1 refl in
        record {
          reads = h.read;
          stage_is = is-stage ∙ ap made_stage (sym is);
          stage_accepted = sound_answers h;
          kept = sound_kept h;
          waits = rw (is-stage, is) (λ w h. word_waits r formed w);
        }

-- ---- the call

-- what is so where it makes a stage
pub record Makes (r : Content) (room : ℕ) : Type 0 where
  pub leads : (x : ℕ) → x < r.inputs + length r.gates → leads_out r x ≡ true
  pub few : ltb 256 (length (built r).gates) ≡ false
  pub fits : ltb room (length (made_bytes r)) ≡ false

unfoldable make_laws : (r : Content) (room : ℕ) → Laws (Makes r room) (λ v. Unit {0}) (make_checks r room)
unfolding make_checks
make_laws r room =
    places_law 25 2 (r.inputs + length r.gates) (λ x. not (leads_out r x)) (λ h x l. ap not (h.leads x l)) (λ x l e. tt)
    & test_law 26 2 (length (built r).gates) 0 (ltb 256 (length (built r).gates)) (λ h. h.few) tt
    & test_law 27 3 0 0 (ltb room (length (made_bytes r))) (λ h. h.fits) tt
    & none

module _ (reference : List ℕ) where
  abbrev R : Content
  R = reference_read reference

  -- where the verdict has the number 0, the reference is read, and a stage is made
  accepts : (room : ℕ) → (judge (make_checks_on reference room)).number ≡ 0 → Pass (reading Reference reference_limits reference) × Makes R room × (judge (make_checks_on reference room) ≡ accepted)
  unfolding make_laws
  accepts room e =
      let p = judge_later 0 _ (make_checks R room) (reading_number 0 (λ t. omega (arith, t.0)) Reference reference_limits reference) e in
      let z : (judge (make_checks R room)).number ≡ 0 = ap (λ (v : Verdict). v.number) (sym p.1) ∙ e in
      let ls = make_laws R room in
      let h : Makes R room = record { leads = λ x l. not-false _ (λ q. clash (ap not q) (before 0 25 ls z x l)); few = before 0 26 ls z; fits = before 0 27 ls z } in
      (p.0, h, p.1 ∙ whole_accepted h ls)

  made : (room : ℕ) → Pass (reading Reference reference_limits reference) → Makes R room → MadeFrom (files (made_bytes R) reference)
  made room read h =
      let p = read_of Reference reference_limits reference read in
      let r = reference_of reference p.0 in
      let is : R ≡ from_reference r = reference_content reference_limits reference p.0 p.1 in
      let m : Makes (from_reference r) room = subst (λ (c : Content). Makes c room) is h in
      rw is (made_from r (reference_formed reference_limits reference p.0 p.1) m.leads (ltb-false 256 _ m.few) reference read is)

  -- a reference that is read is well formed, and one that is not has no gates
  all_leads : LeadsFound R
  unfolding content_at
  all_leads = go (read_file Reference reference_limits reference) refl
    where
      go : (x : Reading) → read_file Reference reference_limits reference ≡ x → LeadsFound (content_at Reference reference x)
      go (refused number at) e = leads_found _ tt
      go (readable p) e =
          let is : content_at Reference reference (readable p) ≡ from_reference (reference_of reference p) = ap (content_at Reference reference) (sym e) ∙ reference_content reference_limits reference p e in
          rw is (leads_found (from_reference (reference_of reference p)) (reference_formed reference_limits reference p e).gates_formed)

  -- what is said of the call, of an answer that is the one defined
  pub make_demand : (buffer : List ℕ) (r : Answer) (left : List ℕ)
      → written r left ≡ leaving (judge (make_checks_on reference (length buffer))) (made_bytes R) buffer → MakeDemand reference buffer r left
  make_demand buffer r left e =
      let checks = make_checks_on reference (length buffer) in
      let is : r.verdict ≡ judge checks = ap (λ (x : Written). x.verdict) e ∙ leaves_verdict (judge checks) (λ z. (accepts (length buffer) z).2) (made_bytes R) buffer in
      record {
        answer = e;
        least = subst (Judged checks) (sym is) (judged checks);
        leads = all_leads;
        made = λ n.
            let z : (judge checks).number ≡ 0 = ap (λ (v : Verdict). v.number) (sym is) ∙ n in
            let a = accepts (length buffer) z in
            let t : take r.count left ≡ made_bytes R = ap (λ (x : Written). take x.count x.buffer) (e ∙ leaves_bytes (judge checks) z (made_bytes R) buffer) ∙ holding_take (made_bytes R) buffer in
            (is ∙ a.2, subst (λ (b : List ℕ). MadeFrom (files b reference)) (sym t) (made (length buffer) a.0 a.1));
      }

  -- cutting a longer reference at what the program reads of it changes neither the verdict nor the stage
  pub make_cut : (room : ℕ) → (judge (make_checks_on (take most_bytes reference) room) ≡ judge (make_checks_on reference room)) × (reference_read (take most_bytes reference) ≡ reference_read reference)
  unfolding command_table own_commands form_in content_at
  make_cut room = (ap₂ (λ (x : Reading) (c : Content). judge (refusal Reference x ∷ make_checks c room)) same is, is)
    where
      far : farthest Reference reference_limits ≤ most_bytes
      far = omega arith

      same : read_file Reference reference_limits (take most_bytes reference) ≡ read_file Reference reference_limits reference
      same = read_file_take Reference reference_limits reference most_bytes far

      go : (x : Reading) → read_file Reference reference_limits reference ≡ x → content_at Reference (take most_bytes reference) x ≡ content_at Reference reference x
      go (refused number at) e = refl
      go (readable p) e = ap (λ (b : List ℕ). content_at Reference b (readable p)) (read_short Reference reference_limits far reference p e)

      is : reference_read (take most_bytes reference) ≡ reference_read reference
      is = ap (content_at Reference (take most_bytes reference)) same ∙ go (read_file Reference reference_limits reference) refl
