-- What the promise gives, and that it is kept in every word in which the checks find nothing: demand 3.
-- Assumes nothing.
use mathlib.Core.Path.{◌≡◌, sym, ap, ◌∙◌, subst}
use mathlib.Core.Logic.{◌⊎◌, inl, inr}
use mathlib.Core.Bool.{Bool, true, false}
use mathlib.Core.List.{List, []}
use Prim.Native.Nat.{ℕ, ◌<◌}
use native.Mathlib.Omega.{arith}
use lib.ListN.{length}
use Rattle.runs.specs.Row.{Row, low, after}
use Rattle.runs.specs.Net.{Net, IsGate, input_rail, rise_step, fall_step, RiseList, RiseEnd, FallList, FallEnd}
use Rattle.runs.specs.Theory.{AllHold}
use Rattle.runs.specs.Settled.{Settled}
use Rattle.runs.specs.Pair.{AllData, AllNull, Reads, InputsData, AllLow}
use Rattle.runs.specs.Acyclic.{Acyclic}
use Rattle.runs.specs.Checks.{Passes, FallPasses}
use Rattle.runs.specs.Tight.{Tight, Clear}
use Rattle.runs.specs.Promise.{GoesOn, Falling, Arrived, Rest, Rising, Promise}
use Rattle.runs.specs.Witness.{Wrong, Incomplete, Unobservable}
use Rattle.runs.specs.FallWitness.{RiseAndFall, FallIncomplete, FallUnobservable}
use Rattle.runs.proofs.Test.{clash}
use Rattle.runs.proofs.Net.{by_net_gate, input_rail_inside}
use Rattle.runs.proofs.Pair.{null_not_data, below_not_both, reads_data}
use Rattle.runs.proofs.Rise.{rise_goes_on, rise_switched, rise_supported, rise_one_end, rise_end_settled, settled_exists, settled_ended, settled_data, rise-⊑-settled}
use Rattle.runs.proofs.Fall.{fall-⊑, fall_goes_on, fall_released, fall_end_low, fall_end_switched}
use Rattle.runs.proofs.Tight.{passes_tight}
use Rattle.runs.proofs.Clear.{fall_passes_clear, tight_clear}

-- ---- what a kept promise gives

module _ (N : Net) (c : Row) (answer : ℕ → Bool) (keeps : Promise N c answer) where
  -- a full fall is as long as the rise before it
  pub promise_fall_length : (l m : List ℕ) → RiseList N c l → RiseEnd N c l → FallList N (after low l) m → FallEnd N (after low l) m
      → length m ≡ length l
  promise_fall_length l m p e q d =
      let rest : Rest N c answer l = (keeps.lists l p).end_rest e in
      ((rest.falls m q).end_switched d).as_many ∙ sym rest.switched.as_many

  -- there is a full rise, to a row that reads the answer, and a full fall from there, to all low
  pub promise_cycle : (l m : List ℕ) × RiseList N c l × RiseEnd N c l × Reads N (after low l) answer
      × FallList N (after low l) m × FallEnd N (after low l) m × AllLow N (after (after low l) m)
  promise_cycle =
      let l : GoesOn (rise_step N c) low [] = (keeps.lists [] tt).goes_on in
      let rising : Rising N c answer l.more = keeps.lists l.more l.legal in
      let rest : Rest N c answer l.more = rising.end_rest l.ended in
      let m : GoesOn (fall_step N) (after low l.more) [] = (rest.falls [] tt).goes_on in
      (l.more, m.more, l.legal, l.ended, (rising.data_whole rest.all_data_holds).read, m.legal, m.ended, (rest.falls m.more m.legal).end_low m.ended)

  -- and no run breaks it at an output, an input or a gate

  pub promise_not_wrong : (j : ℕ) → j < N.outputs → ¬ (Wrong N c answer j)
  promise_not_wrong j h x =
      let end = x.goes_on [] tt in
      let rising : Rising N c answer end.more = keeps.lists end.more end.legal in
      (x.wrong end.more end.legal end.ended).wrong ((rising.data_whole (rising.end_rest end.ended).all_data_holds).read j h)

  pub promise_not_incomplete : (i : ℕ) → i < N.inputs → ¬ (Incomplete N c i)
  promise_not_incomplete i h (l, x) = null_not_data (after low l) (input_rail i) x.null (((keeps.lists l x.legal).data_whole x.all_data_holds).inputs i h)

  pub promise_not_unobservable : (g : ℕ) → IsGate N g → ¬ (Unobservable N c g)
  promise_not_unobservable g h (l, x) = clash may (((keeps.lists l x.legal).data_whole x.all_data_holds).still g h)
    where
      may : rise_step N c (after low l) g ≡ true
      may = rw x.gate_low (by_net_gate N g (c g) (N.fires (after low l) g) h ∙ x.set)

  -- a fall that leaves all outputs NULL leaves all low
  all_low_holds : (l m : List ℕ) → RiseAndFall N c l m → AllNull N (after (after low l) m) → AllLow N (after (after low l) m)
  all_low_holds l m x n = (((keeps.lists l x.rise_legal).end_rest x.rise_ended).falls m x.fall_legal).null_low n

  pub promise_not_fall_incomplete : (i : ℕ) → i < N.inputs → ¬ (FallIncomplete N c i)
  promise_not_fall_incomplete i h (l, m, x) = null_not_data (after (after low l) m) (input_rail i) (rail-low false, rail-low true) x.input_data
    where
      rail-low : (b : Bool) → after (after low l) m (input_rail i b) ≡ false
      rail-low b = all_low_holds l m x.lists x.all_null_holds (input_rail i b) (omega (arith, input_rail_inside N i b h))

  pub promise_not_fall_unobservable : (g : ℕ) → IsGate N g → ¬ (FallUnobservable N c g)
  promise_not_fall_unobservable g h (l, m, x) = clash x.gate_high (all_low_holds l m x.lists x.all_null_holds g h.1)

-- ---- it is kept

module _ (S : Acyclic) (c : Row) (answer : ℕ → Bool) (word : InputsData S.net c) (t : Tight S.net c answer) where
  -- a list that leaves all outputs DATA leaves the rest
  pub data_rest : (R : Row) → Settled S.net c R → (l : List ℕ) → RiseList S.net c l → AllData S.net (after low l) → after low l ≡ R
  data_rest R rest l p d = t.tight R rest (after low l) (rise_supported S c l p) d

  rest-whole : (R : Row) → Settled S.net c R → Arrived S.net c answer R
  rest-whole R rest = record { inputs = settled_data S.net c R rest word; still = λ g h. settled_ended S c R rest g; read = t.right R rest }

  module _ (clear : Clear S.net c) where
    falling : (R : Row) → Settled S.net c R → (l : List ℕ) → FallList S.net R l → Falling S.net R l
    falling R rest l p = record {
      goes_on = fall_goes_on S c R rest l p;
      not_both = λ j h. below_not_both (after R l) R (S.net.rail j) (answer j) (fall-⊑ S c R rest l p) (t.right R rest j h);
      null_low = λ n k h. ap (λ (r : Row). r k) (clear R rest (after R l) (fall-⊑ S c R rest l p) (fall_released S c R rest l p) n);
      end_switched = fall_end_switched S c R rest l p;
      end_low = λ e k h. ap (λ (r : Row). r k) (fall_end_low S c R rest l p e);
    }

    rising : (l : List ℕ) → RiseList S.net c l → Rising S.net c answer l
    rising l p =
        let R : (R : Row) × Settled S.net c R = settled_exists S c in
        record {
          goes_on = rise_goes_on S c l p;
          not_both = λ j h. below_not_both (after low l) R.0 (S.net.rail j) (answer j) (rise-⊑-settled S c R.0 R.1 l p) (t.right R.0 R.1 j h);
          data_whole = λ d. subst (λ (r : Row). Arrived S.net c answer r) (sym (data_rest R.0 R.1 l p d)) (rest-whole R.0 R.1);
          end_rest = λ e. end (rise_end_settled S c l p e);
        }
      where
        end : Settled S.net c (after low l) → Rest S.net c answer l
        end h = record {
          switched = rise_switched S c l p;
          settled = h;
          all_data_holds = reads_data S.net (after low l) answer (t.right (after low l) h);
          falls = falling (after low l) h;
        }

    pub tight_promise : Promise S.net c answer
    tight_promise = record { lists = rising; one_end = rise_one_end S c }

-- Demand 3: where 13 to 15 find nothing, and every gate has hold or 20 and 21 find nothing, the promise is kept.
pub passes_promise : (S : Acyclic) (c : Row) (answer : ℕ → Bool) → InputsData S.net c → Passes S.net c answer
    → (AllHold S.net) ⊎ (FallPasses S.net c) → Promise S.net c answer
passes_promise S c answer word ok (inl hold) = let t : Tight S.net c answer = passes_tight S c answer word ok in tight_promise S c answer word t (tight_clear S c answer hold t)
passes_promise S c answer word ok (inr fall-ok) = tight_promise S c answer word (passes_tight S c answer word ok) (fall_passes_clear S c word fall-ok)
