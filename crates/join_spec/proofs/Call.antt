-- What is said of a call of the join, from what it leaves in the buffers.
-- Assumes nothing.
use Prim.Native.Nat.{ℕ, ◌+◌, ◌^◌, ◌≤◌, ◌<◌}
use native.Mathlib.Omega.{arith}
use mathlib.Core.Path.{◌≡◌, refl, sym, ap, ap₂, ◌∙◌, subst, subst₂}
use mathlib.Core.Bool.{Bool, true, false, cond, not, ◌&&◌, ◌||◌}
use mathlib.Core.Logic.{⊎_elim}
use mathlib.Core.List.{List, [], ◌∷◌}
use lib.ListN.{length, take}
use lib.Dec.{eqb, ltb}
use Rattle.runs.proofs.Test.{clash, and_in, and_right, not-false, same?, lt-ltb, le-ltb, eqb_eq, eqb_other}
use Rattle.verdict.specs.declared.Verdict.{Verdict}
use Rattle.verdict.specs.declared.WordOrder.{WordOrder}
use Rattle.verdict.specs.Written.{Written, written, write, refuse}
use Rattle.verdict.proofs.Written.{holding_take}
use Rattle.check_spec.specs.Cases.{verdict, accepted, Check, first, judge}
use Rattle.check_spec.specs.Lists.{bit_of}
use Rattle.check_spec.specs.Content.{Files, stage_in, reference_in, files, part_files}
use Rattle.check_spec.specs.Words.{cares_for, IsWord, answer}
use Rattle.check_spec.specs.Verdicts.{verdict_on}
use Rattle.check_spec.specs.Demands.{Judged}
use Rattle.check_spec.specs.Writing.{leaving}
use Rattle.check_spec.proofs.First.{judged}
use Rattle.check_spec.proofs.Names.{of_bits_below}
use Rattle.check_spec.proofs.Laws.{Laws, none, ◌&◌, before, whole_accepted, equal_law, test_law, swept_law}
use Rattle.check_spec.proofs.Sound.{Sound, sound_outputs, Faultless, accepted_faultless, faultless_accepted}
use Rattle.check_spec.proofs.Writing.{leaves_bytes, leaves_verdict}
use Rattle.join_spec.specs.declared.JoinAnswer.{JoinAnswer}
use Rattle.join_spec.specs.Joining.{whole, passed_on, answer_word, seam_checks, join_checks, Joined, Joinable, JoinDemand}
use Rattle.join_spec.proofs.Joined.{whole_joined}

-- ---- a part's refusal, and what comes later

module _ (v : Verdict) (added : ℕ) (cs : List Check) where
  pub passed_accepts : v.number ≡ 0 → judge (passed_on v added ∷ cs) ≡ judge cs
  unfolding judge first
  passed_accepts e = rw e

  pub passed_refuses : ¬ (v.number ≡ 0) → judge (passed_on v added ∷ cs) ≡ verdict v.number (v.file + added) v.at v.word
  unfolding judge first
  passed_refuses n = rw (eqb_other v.number 0 n)

  passed_number : (judge (passed_on v added ∷ cs)).number ≡ 0 → v.number ≡ 0
  passed_number e = ⊎_elim (λ z. z) (λ n. sym (ap (λ (x : Verdict). x.number) (passed_refuses n)) ∙ e) (same? v.number 0)

-- ---- the checks of the join

module _ (one two : Files) (stage_room reference_room : ℕ) where
  abbrev is_short : Bool
  is_short = ltb stage_room (length (whole one two).stage) || ltb reference_room (length (whole one two).reference)

  -- the seam and the buffers fit
  pub record Fits : Type 0 where
    pub counts : length (stage_in one).outputs ≡ (stage_in two).inputs
    pub cared : (w : ℕ) → IsWord (stage_in one) w → cares_for (stage_in two) (answer_word (reference_in one) w) ≡ true
    pub room : is_short ≡ false

  module _ (order : WordOrder) where
    unfoldable pub seam_laws : Laws Fits (λ v. Unit {0}) (seam_checks order one two stage_room reference_room)
    unfolding seam_checks
    seam_laws =
        equal_law 22 0 (length (stage_in one).outputs) (stage_in two).inputs (length (stage_in one).outputs) (stage_in two).inputs (λ h. h.counts) tt
        & swept_law (stage_in one) order 23 0 1 (λ w i. not (cares_for (stage_in two) (answer_word (reference_in one) w))) (λ h w i k l. ap not (h.cared w i)) (λ name x i l e. tt)
        & test_law 24 3 0 0 is_short (λ h. h.room) tt
        & none

    -- where the join accepts, its parts are faultless, and the seam and the buffers fit
    join-fits : (judge (join_checks order one two stage_room reference_room)).number ≡ 0 → Faultless one × Faultless two × Fits
    unfolding seam_laws
    join-fits e =
        let z1 = passed_number (verdict_on order one) 0 _ e in
        let e1 = ap (λ (v : Verdict). v.number) (sym (passed_accepts (verdict_on order one) 0 _ z1)) ∙ e in
        let z2 = passed_number (verdict_on order two) 3 _ e1 in
        let e2 : (judge (seam_checks order one two stage_room reference_room)).number ≡ 0 = ap (λ (v : Verdict). v.number) (sym (passed_accepts (verdict_on order two) 3 _ z2)) ∙ e1 in
        let ls = seam_laws in (
          (accepted_faultless order one z1).1,
          (accepted_faultless order two z2).1,
          record {
            counts = before 0 22 ls e2;
            cared = λ w i. not-false _ (λ q. clash (ap not q) (before 0 23 ls e2 w i 0 (omega arith)));
            room = before 0 24 ls e2;
          },
        )

  -- and there it does
  pub fits_joined : Faultless one → Faultless two → Fits → (order : WordOrder) → judge (join_checks order one two stage_room reference_room) ≡ accepted
  fits_joined a b h order =
      passed_accepts (verdict_on order one) 0 _ (ap (λ (v : Verdict). v.number) (faultless_accepted a order))
      ∙ passed_accepts (verdict_on order two) 3 _ (ap (λ (v : Verdict). v.number) (faultless_accepted b order)) ∙ whole_accepted h (seam_laws order)

  -- an answer of the first part is a word of the second, where the counts at the seam are equal
  cared_word : Sound one → length (stage_in one).outputs ≡ (stage_in two).inputs → (w : ℕ) → cares_for (stage_in two) (answer_word (reference_in one) w) ≡ true → IsWord (stage_in two) (answer_word (reference_in one) w)
  cared_word a counts w e =
      let below = of_bits_below (length (reference_in one).outputs) (answer (reference_in one) (bit_of w)) in
      and_in _ _ (lt-ltb _ _ (subst (λ (k : ℕ). answer_word (reference_in one) w < 2 ^ k) (sym (sound_outputs a) ∙ counts) below)) e

-- ---- the call

module _ (order : WordOrder) (s1 r1 s2 r2 stage reference : List ℕ) (r : JoinAnswer) (stage_left reference_left : List ℕ) where
  abbrev one : Files
  one = part_files s1 r1

  abbrev two : Files
  two = part_files s2 r2

  abbrev v : Verdict
  v = judge (join_checks order one two (length stage) (length reference))

  -- what is left of a file where the call accepts: as many bytes as it says, and these
  file_left : (count : ℕ) (left bytes buffer : List ℕ) → written (record { verdict = r.verdict; count = count }) left ≡ leaving v bytes buffer → v.number ≡ 0 → take count left ≡ bytes
  file_left count left bytes buffer e z = ap (λ (x : Written). take x.count x.buffer) (e ∙ leaves_bytes v z bytes buffer) ∙ holding_take bytes buffer

  pub join_demand : written (record { verdict = r.verdict; count = r.stage_count }) stage_left ≡ leaving v (whole one two).stage stage
      → written (record { verdict = r.verdict; count = r.reference_count }) reference_left ≡ leaving v (whole one two).reference reference
      → JoinDemand order one two stage reference r stage_left reference_left
  join_demand s t =
      let n = length stage in
      let m = length reference in
      let fits = join-fits one two n m order in
      let all : v.number ≡ 0 → v ≡ accepted = λ z. let f = fits z in fits_joined one two n m f.0 f.1 f.2 order in
      let is : r.verdict ≡ v = ap (λ (x : Written). x.verdict) s ∙ leaves_verdict v all (whole one two).stage stage in
      let zero : r.verdict.number ≡ 0 → v.number ≡ 0 = λ z. ap (λ (x : Verdict). x.number) (sym is) ∙ z in
      record {
        stage_left_holds = s;
        reference_left_holds = t;
        least = subst (Judged (join_checks order one two n m)) (sym is) (judged (join_checks order one two n m));
        joined = λ z.
            let f = fits (zero z) in (
              is ∙ all (zero z),
              subst₂ (λ (a b : List ℕ). Joined one two (files a b)) (sym (file_left _ stage_left (whole one two).stage stage s (zero z))) (sym (file_left _ reference_left (whole one two).reference reference t (zero z)))
                  (whole_joined s1 r1 s2 r2 f.0.0 f.1.0 f.2.counts (λ w i. cared_word one two n m f.0.0 f.2.counts w (f.2.cared w i))),
            );
        accepts = λ j a b.
            let fit : Fits one two n m = record {
              counts = j.counts;
              cared = λ w i. and_right (ltb (answer_word (reference_in one) w) (2 ^ (stage_in two).inputs)) _ (j.cared w i);
              room = rw (le-ltb n (length (whole one two).stage) a, le-ltb m (length (whole one two).reference) b);
            } in
            is ∙ fits_joined one two n m (accepted_faultless order one (ap (λ (x : Verdict). x.number) j.first_accepted)).1 (accepted_faultless order two (ap (λ (x : Verdict). x.number) j.second_accepted)).1 fit order;
        either_order = λ other e. let f = fits (zero (ap (λ (x : Verdict). x.number) e)) in fits_joined one two n m f.0 f.1 f.2 other;
      }
