-- Demand 3 in one word: what is kept where the tests find nothing, and what a run shows where one finds something.
-- Assumes nothing.
use Prim.Native.Nat.{ℕ, ◌+◌, ◌*◌, ◌<◌}
use mathlib.Core.Path.{◌≡◌, ap}
use mathlib.Core.Logic.{inr}
use mathlib.Core.Bool.{true, not}
use lib.ListN.{length}
use Rattle.runs.specs.Row.{Row, only}
use Rattle.runs.specs.Net.{Net, rails_of_inputs}
use Rattle.runs.specs.Pair.{DataOf}
use Rattle.runs.specs.Promise.{Promise}
use Rattle.runs.specs.Witness.{Wrong, Incomplete, Unobservable}
use Rattle.runs.specs.FallWitness.{FallIncomplete, FallUnobservable}
use Rattle.runs.proofs.Test.{clash, of_not, and_in}
use Rattle.runs.proofs.Rise.{rise_goes_on, rise_end_is, rises_alike}
use Rattle.runs.proofs.Fall.{falls_alike}
use Rattle.runs.proofs.Promise.{passes_promise, promise_not_wrong, promise_not_incomplete, promise_not_unobservable, promise_not_fall_incomplete, promise_not_fall_unobservable}
use Rattle.runs.proofs.Witness as show
use Rattle.check_spec.specs.Lists.{bit_of}
use Rattle.check_spec.specs.Content.{Content, Files, stage_in, reference_in}
use Rattle.check_spec.specs.Rows.{net_of, risen, fallen, data_of, all_data, all_null}
use Rattle.check_spec.specs.Words.{rails_for, answer}
use Rattle.check_spec.specs.Checks.{rest, wrong, incomplete, unobservable, fall_incomplete, fall_unobservable}
use Rattle.check_spec.specs.Demands.{LoopFree, Kept}
use Rattle.check_spec.proofs.Loops.{acyclic, risen_is, fallen_is}
use Rattle.check_spec.proofs.Pairs.{all_data_holds, all_null_holds}
use Rattle.check_spec.proofs.OneWord.{CleanRise, CleanFall, word_data, high_out, rest_settled, inside, missing_settled, gate, rise_passes, fall_passes}

-- the fields of `Kept`
pub word_kept : (f : Files) → LoopFree (net_of (stage_in f)) → (w : ℕ) → CleanRise (stage_in f) (reference_in f) w → CleanFall (stage_in f) w → Kept f w
word_kept f free w k l =
    let s = stage_in f in
    let r = reference_in f in
    let S = acyclic s free in
    let R = rest_settled s r free w in
    record {
      promise = passes_promise S (rails_for w) (answer r (bit_of w)) (word_data (net_of s) w) (rise_passes s r free w k) (inr (fall_passes s r free w l));
      rest-is = record { goes_on = rise_goes_on S (rails_for w); end_is = λ l q e. rise_end_is S (rails_for w) (rest s w) R l q e };
      rises = rises_alike S (rails_for w);
      falls = falls_alike S (rails_for w) (rest s w) R;
    }

-- a run of the word shows it, and the promise is broken
module _ (s r : Content) (free : LoopFree (net_of s)) (w : ℕ) where
  abbrev Breaks : Type 0 → Type 0
  Breaks Run = Run × (¬ (Promise (net_of s) (rails_for w) (answer r (bit_of w))))

  abbrev N : Net
  N = net_of s

  abbrev c : Row
  c = rails_for w

  abbrev of : ℕ → Row
  of i = rails_of_inputs N (only i)

  pub wrong_shown : (j : ℕ) → j < length s.outputs → wrong s r w j ≡ true → Breaks ((j < length s.outputs) × Wrong N c (answer r (bit_of w)) j)
  unfolding wrong
  wrong_shown j h e =
      let a = answer r (bit_of w) j in
      let R = rest s w in
      let no : ¬ (DataOf R (N.rail j) a) =
      λ d. clash (and_in (R (N.rail j a)) (not (R (N.rail j (not a)))) d.0 (ap not d.1)) (of_not (data_of R (N.rail j) a) e) in
      let run = show.wrong (acyclic s free) c (answer r (bit_of w)) R (rest_settled s r free w) j no in
      ((h, run), λ p. promise_not_wrong N _ _ p j h run)

  pub incomplete_shown : (i : ℕ) → i < s.inputs → incomplete s w i ≡ true → Breaks ((i < s.inputs) × Incomplete N c i)
  unfolding incomplete
  incomplete_shown i h e =
      let row = risen N c (of i) in
      let run = show.incomplete (acyclic s free) c i h row (missing_settled s r free w i) ((all_data_holds N row).0 e) in
      ((h, run), λ p. promise_not_incomplete N _ _ p i h run)

  pub unobservable_shown : (g : ℕ) → g < length s.gates → unobservable s w g ≡ true → Breaks ((g < length s.gates) × Unobservable N c (2 * s.inputs + g))
  unfolding unobservable
  unobservable_shown g h e =
      let net = 2 * s.inputs + g in
      let u = high_out s w (λ row net. all_data N (risen N c (only net))) g e in
      let row = risen N c (only net) in
      let is = gate s r free w g h in
      let run = show.unobservable (acyclic s free) c (rest s w) (rest_settled s r free w) net is u.0 row (risen_is s free c (only net)).0
      ((all_data_holds N row).0 u.1) in
      ((h, run), λ p. promise_not_unobservable N _ _ p net is run)

  pub fall_incomplete_shown : (i : ℕ) → i < s.inputs → fall_incomplete s w i ≡ true → Breaks ((i < s.inputs) × FallIncomplete N c i)
  unfolding fall_incomplete
  fall_incomplete_shown i h e =
      let row = fallen N (rest s w) (of i) in
      let run = show.fall_incomplete_holds (acyclic s free) c (word_data N w) (rest s w) (rest_settled s r free w) i h row
      (fallen_is s free (rest s w) (of i) (inside s r free w)).0 ((all_null_holds N row).0 e) in
      ((h, run), λ p. promise_not_fall_incomplete N _ _ p i h run)

  pub fall_unobservable_shown : (g : ℕ) → g < length s.gates → fall_unobservable s w g ≡ true → Breaks ((g < length s.gates) × FallUnobservable N c (2 * s.inputs + g))
  unfolding fall_unobservable
  fall_unobservable_shown g h e =
      let net = 2 * s.inputs + g in
      let u = high_out s w (λ row net. all_null N (fallen N row (only net))) g e in
      let row = fallen N (rest s w) (only net) in
      let is = gate s r free w g h in
      let run = show.fall_unobservable_holds (acyclic s free) c (rest s w) (rest_settled s r free w) net is u.0 row
      (fallen_is s free (rest s w) (only net) (inside s r free w)).0 ((all_null_holds N row).0 u.1) in
      ((h, run), λ p. promise_not_fall_unobservable N _ _ p net is run)
