-- The settled-row call: its verdict and the row after it are those of the code's definitions, and what demands 1 and 2 say of them.
-- Assumes nothing.
use Rattle.std.specs.Prelude.{Ok, Err}
use Prim.Native.Nat.{ℕ, ◌+◌, ◌-◌, ◌*◌}
use native.Mathlib.Omega.{arith}
use mathlib.Core.Path.{◌≡◌, refl, sym, ap, ◌∙◌, subst}
use mathlib.Core.Logic.{⊎_elim}
use mathlib.Core.Bool.{Bool, false, cond, not}
use mathlib.Core.List.{List, [], ◌∷◌, ◌++◌, map, flat_map}
use lib.ListN.{length, get_or, take, length-map, length-append}
use lib.Seq.{length-take-le, take-append_seam, get_or-append-add, get_or-take}
use lib.Dec.{eqb, ltb}
use Rattle.gates.specs.Cell.{bit}
use Rattle.runs.specs.Row.{Row, low}
use Rattle.runs.specs.Net.{Net, nets}
use Rattle.runs.specs.Settled.{Settled}
use Rattle.runs.proofs.Test.{clash, eqb_other}
use Rattle.runs.proofs.Rise.{rise_goes_on, rise_end_is}
use Rattle.netlist.specs.declared.File.TheVariants as file
use Rattle.netlist.specs.Reading.{Reading, refused, readable, read_file, stage_limits}
use Rattle.netlist.specs.Content as parsed
use Rattle.netlist.specs.Content.{gate_of}
use Rattle.verdict.specs.declared.Verdict.{Verdict}
use Rattle.verdict.specs.FourNumbers.{Finding}
use Rattle.verdict.specs.Levels.{Bits}
use Rattle.verdict.specs.Rows as levels
use Rattle.verdict.specs.Loops as loops
use Rattle.verdict.specs.Nets as code
use Rattle.verdict.specs.Checks as found
use Rattle.verdict.specs.Verdicts as given
use Rattle.verdict.proofs.Levels.{bits_length, bits_get}
use Rattle.verdict.proofs.Settling.{settled_bits}
use Rattle.verdict.proofs.Bridge.{settled_row_holds}
use Rattle.verdict.proofs.Refusals.{refused_number}
use Rattle.check_spec.specs.Cases.{accepted, first, judge, sweep}
use Rattle.check_spec.specs.Lists.{numbers}
use Rattle.check_spec.specs.Content.{Content, content_at}
use Rattle.check_spec.specs.Rows.{net_of, risen, reaches_itself}
use Rattle.check_spec.specs.Checks.{illegal, looped, row_checks}
use Rattle.check_spec.specs.Verdicts.{refusal, reading, rails_in, row_stage, row_checks_on, row_verdict, settled_bytes, row_after}
use Rattle.check_spec.specs.Demands.{Pass, Judged, LoopFree, TheOnly, RisesTo, RowGiven, Fits, DemandRow}
use Rattle.check_spec.specs.Loaded.{stage_view}
use Rattle.check_spec.proofs.First.{judged}
use Rattle.check_spec.proofs.Laws.{Laws, none, ◌&◌, numbers_of, judge_later, before, claimed, equal_law, places_law, gates_law}
use Rattle.check_spec.proofs.Sound.{reading_number}
use Rattle.check_spec.proofs.Loops.{acyclic, loops_found, settled_is}
use Rattle.check_spec.proofs.View.{stage_view_holds, net_view}
use Rattle.check_spec.proofs.Alike.{rise_alike, list_is, level}
use Rattle.check_spec.proofs.Bridge.{Alike, alike, also, alike_judge, alike_passed, whole_passes, sweep_is, placed_is, loop_alike}

-- ---- the verdict

module _ (c : Content) (row : List ℕ) where
  abbrev s : parsed.Stage
  s = stage_view c

  long : length c.gates ≡ length s.gates
  long = sym (length-map c.gates gate_of)

  row_checks_alike : Alike (row_checks c row) (found.row_checks s row)
  unfolding row_checks looped found.row_checks found.finding found.illegal sweep flat_map
  row_checks_alike =
      also (placed_is 12 1 (length c.gates) (length s.gates) (λ g. reaches_itself (net_of c) (2 * c.inputs + g)) (loops.reaches_itself c.inputs s.gates) long (loop_alike c)) λ n12.
      also (λ later. sweep_is 16 3 (length row ∷ []) (λ w i. not (eqb (length row) (nets (net_of c)))) (λ w i. not (eqb (length row) (2 * c.inputs + length s.gates))) (0 ∷ [])
      (λ w x i y. ap (λ (k : ℕ). not (eqb (length row) (2 * c.inputs + k))) long) later) λ n16.
      also (placed_is 17 3 c.inputs c.inputs (illegal row) (found.illegal row) refl (λ i h. refl)) λ n17.
      alike

  unfoldable pub row_laws : Laws (Fits c row) (λ v. ¬ (v.number ≡ 28)) (row_checks c row)
  unfolding row_checks looped
  row_laws =
      gates_law c 12 (reaches_itself (net_of c)) (λ h. h.loop_free) (λ g q. omega arith)
      & equal_law 16 3 (length row) 0 (length row) (nets (net_of c)) (λ h. h.long) (λ q. omega arith)
      & places_law 17 3 c.inputs (illegal row) (λ h. h.legal) (λ i l e q. omega arith)
      & none

  pub row_order : numbers_of row_laws ≡ 12 ∷ 16 ∷ 17 ∷ []
  unfolding row_laws
  row_order = refl

  -- a row that passes fits the stage
  fitting : (judge (row_checks c row)).number ≡ 0 → Fits c row
  unfolding row_laws
  fitting e = record { loop_free = before 0 12 row_laws e; long = before 0 16 row_laws e; legal = before 0 17 row_laws e }

-- ---- the row

module _ (c : Content) (free : LoopFree (net_of c)) (row : List ℕ) (fits : length row ≡ nets (net_of c)) where
  abbrev wires : List ℕ
  wires = take (2 * c.inputs) row

  abbrev after' : List ℕ
  after' = levels.settled (stage_view c).gates wires

  abbrev R : Row
  R = risen (net_of c) (rails_in row) low

  wires-long : length wires ≡ 2 * c.inputs
  wires-long = length-take-le (2 * c.inputs) row (omega arith)

  bits : Bits (length (stage_view c).gates) (levels.settled_levels (stage_view c).gates wires)
  bits = settled_bits (stage_view c).gates wires

  -- the code's row is the settled one
  row_alike : code.row_of after' ≡ R
  row_alike = (settled_is c free (rails_in row)).1 (code.row_of after') (λ k.
      subst (λ (M : Net). Settled M (code.row_of wires) (code.row_of after')) (net_view c) (settled_row_holds (stage_view c) wires wires-long) k
      ∙ ap (λ (up : Row → Row). up (code.row_of after') k)
      (rise_alike (net_of c) (code.row_of wires) (rails_in row) (λ k h. ap (ltb 0) (get_or-take (2 * c.inputs) row k 0 h))))

  bytes_alike : settled_bytes c row ≡ after'
  unfolding settled_bytes
  bytes_alike =
      let L = levels.settled_levels (stage_view c).gates wires in
      let long : length c.gates ≡ length L = sym (bits_length (length (stage_view c).gates) L bits ∙ length-map c.gates gate_of) in
      ap (λ (m : List ℕ). wires ++ m) (ap (λ (k : ℕ). map (λ k. bit (R k)) (numbers (2 * c.inputs) k)) long
      ∙ sym (list_is (λ k. bit (R k)) (2 * c.inputs) L (λ i h.
      level (get_or L i 0) (bits_get (length (stage_view c).gates) L bits i)
      ∙ ap (λ (x : ℕ). bit (ltb 0 x)) (sym (get_or-append-add wires L i 0) ∙ ap (λ (n : ℕ). get_or after' (n + i) 0) wires-long)
      ∙ ap (λ (r : Row). bit (r (2 * c.inputs + i))) row_alike)))

  row_given : RowGiven c row after'
  row_given =
      let L = levels.settled_levels (stage_view c).gates wires in
      let rises = acyclic c free in
      record {
        long = omega (arith, wires-long, length-append wires L, bits_length (length (stage_view c).gates) L bits, length-map c.gates gate_of);
        inputs_kept = subst (λ (n : ℕ). take n after' ≡ wires) wires-long (take-append_seam wires L);
        levels = λ g h.
            let e : g ≡ length wires + (g - 2 * c.inputs) = omega (arith, h.0, wires-long) in
            rw (ap (λ (k : ℕ). get_or after' k 0) e ∙ get_or-append-add wires L (g - 2 * c.inputs) 0) (bits_get (length (stage_view c).gates) L bits (g - 2 * c.inputs));
        settled = subst (TheOnly (Settled (net_of c) (rails_in row))) (sym row_alike) (settled_is c free (rails_in row));
        given = subst (RisesTo (net_of c) (rails_in row)) (sym row_alike) (record {
          goes_on = rise_goes_on rises (rails_in row);
          end_is = λ l p e. rise_end_is rises (rails_in row) R (settled_is c free (rails_in row)).0 l p e;
        });
      }

-- ---- the call

-- what is said of an answer of the code's definitions
pub record RowIs (stage row : List ℕ) (a : given.RowAnswer) : Type 0 where
  pub verdict_is : row_verdict stage row ≡ a.verdict
  pub row_is : row_after stage row ≡ a.row
  pub demand : DemandRow stage row a.verdict a.row

number_of : {v w : Verdict} → v ≡ w → v.number ≡ w.number
number_of e = ap (λ (v : Verdict). v.number) e

fault_passed : {v : Verdict} → ◌≡◌ {A = Finding} (Err v) (Ok tt) → ⊥
fault_passed e = let z : ◌≡◌ {A = ℕ} 0 1 = cc in omega arith

-- an accepted call has read its stage
row_reads : (stage row : List ℕ) → (row_verdict stage row).number ≡ 0 → Pass (reading file.Stage stage_limits stage)
row_reads stage row e =
    (judge_later 0 (reading file.Stage stage_limits stage) (row_checks (row_stage stage) row) (reading_number 0 (λ t. omega (arith, t.0)) file.Stage stage_limits stage) e).0

-- the law that joins the two
pub row_is : (stage row : List ℕ) → RowIs stage row (given.settled_row stage row)
unfolding given.settled_row_within given.settle_reading given.settle_unless judge first refusal row_after given.verdict_of
row_is stage row = go (read_file file.Stage (stage_limits) stage) refl
  where
    least : (v : Verdict) → row_verdict stage row ≡ v → Judged (row_checks_on stage row) v
    least v e = subst (Judged (row_checks_on stage row)) e (judged (row_checks_on stage row))

    refuse : (v : Verdict) → row_verdict stage row ≡ v → ¬ (v.number ≡ 0) → (Pass (reading file.Stage stage_limits stage) → Fits (row_stage stage) row → v ≡ accepted) → ¬ (v.number ≡ 28)
        → RowIs stage row (given.answer_with v row)
    refuse v e n served not-28 = record {
      verdict_is = e;
      row_is = ap (λ (x : Verdict). cond (eqb x.number 0) (settled_bytes (row_stage stage) row) row) e
          ∙ ap (λ (b : Bool). cond b (settled_bytes (row_stage stage) row) row) (eqb_other v.number 0 n);
      demand = record { least = least v e; loops = loops_found (row_stage stage); unchanged = λ d. refl; given = λ z. absurd (n (number_of z)); served = served; never_28 = not-28 };
    }

    settle : (c : Content) → row_stage stage ≡ c → row_verdict stage row ≡ judge (row_checks c row)
        → (x : Finding) → found.first_fault (found.row_checks (stage_view c) row) ≡ x → RowIs stage row (given.settle_unless x (stage_view c) row)
    settle c is e (Err v) f =
        let z : judge (row_checks c row) ≡ v = alike_judge (row_checks_alike c row) ∙ ap given.verdict_of f in
        let found_none : Fits c row → ◌≡◌ {A = Finding} (Err v) (Ok tt) = λ fit. sym f ∙ alike_passed (row_checks_alike c row) (whole_passes fit (row_laws c row)) in
        refuse v (e ∙ z) (λ q. fault_passed (found_none (fitting c row (number_of z ∙ q)))) (λ read fit. absurd (fault_passed (found_none (subst (λ (x : Content). Fits x row) is fit))))
        (⊎_elim (λ n q. n (number_of z ∙ q)) (λ y q. omega (arith, number_of (sym z ∙ y))) (claimed (row_laws c row)))
    settle c is e (Ok _) f =
        let z : row_verdict stage row ≡ accepted = e ∙ alike_judge (row_checks_alike c row) ∙ ap given.verdict_of f in
        let fit = fitting c row (number_of (sym e ∙ z)) in
        record {
          verdict_is = z;
          row_is = ap (λ (x : Verdict). cond (eqb x.number 0) (settled_bytes (row_stage stage) row) row) z
              ∙ ap (λ (x : Content). settled_bytes x row) is ∙ bytes_alike c fit.loop_free row fit.long;
          demand = record {
            least = least accepted z;
            loops = loops_found (row_stage stage);
            unchanged = λ d. absurd (d refl);
            given = λ q. (
              row_reads stage row (number_of z),
              subst (λ (x : Content). RowGiven x row (after' c fit.loop_free row fit.long)) (sym is) (row_given c fit.loop_free row fit.long),
            );
            served = λ read fit. refl;
            never_28 = λ q. omega arith;
          };
        }

    go : (x : Reading) → read_file file.Stage (stage_limits) stage ≡ x → RowIs stage row (given.settle_reading stage row x)
    go (refused number at) e =
        let t = refused_number file.Stage (stage_limits) stage number at e in
        refuse (given.answer_with (record { number = number; file = 1; at = at; word = 0 }) row).verdict (rw e) (λ q. omega (arith, q, t.0))
        (λ read fit. absurd (clash refl (rw e at read).0)) (λ q. omega (arith, q, t.1))
    go (readable p) e =
        let c = content_at file.Stage stage (readable p) in
        subst (λ (s : parsed.Stage). RowIs stage row (given.settle_unless (found.first_fault (found.row_checks s row)) s row)) (stage_view_holds false stage p)
        (settle c (ap (content_at file.Stage stage) e) (rw e) (found.first_fault (found.row_checks (stage_view c) row)) refl)
