-- A failing check shows a run that breaks the promise, at the output, input or gate named: a list that leaves the row in which the check fails shows
-- so, and there is such a list.
-- Assumes nothing.
use mathlib.Core.Path.{◌≡◌, sym, ap, ◌∙◌, subst}
use mathlib.Core.Logic.{◌⊎◌, inl, inr, ◌≢◌}
use mathlib.Core.Bool.{Bool, true, false, not, ◌&&◌, and-true}
use mathlib.Core.List.{List}
use Prim.Native.Nat.{ℕ, ◌<◌}
use Rattle.runs.specs.Row.{Row, ◌∖◌, low, only, after}
use Rattle.runs.specs.Net.{IsGate, input_rail, rise_up, rails_of_inputs, rise_step, fall_step, RiseList, FallList}
use Rattle.runs.specs.Theory.{Reached}
use Rattle.runs.specs.Settled.{Settled, SettledHeld, SettledKept}
use Rattle.runs.specs.Pair.{DataOf, AllData, AllNull, InputsData}
use Rattle.runs.specs.Acyclic.{Acyclic}
use Rattle.runs.specs.Witness.{Wrong, ShowsIncomplete, Incomplete, ShowsUnobservable, Unobservable}
use Rattle.runs.specs.FallWitness.{RiseAndFall, ShowsFallIncomplete, FallIncomplete, ShowsFallUnobservable, FallUnobservable}
use Rattle.runs.proofs.Test.{clash, not-false, same?, eqb_same, eqb_other}
use Rattle.runs.proofs.Net.{by_net_gate, rails_of_inputs_in}
use Rattle.runs.proofs.Moves.{missing_held}
use Rattle.runs.proofs.Rise.{settled_one, settled_reached, settled_ended, settled_data, rise_goes_on, rise_end_is, held_reached, held_low}
use Rattle.runs.proofs.Fall.{kept_reached, kept_still}

-- ---- the rise

module _ (S : Acyclic) (c : Row) where
  pub wrong : (answer : ℕ → Bool) (R : Row) → Settled S.net c R → (j : ℕ) → ¬ (DataOf R (S.net.rail j) (answer j)) → Wrong S.net c answer j
  wrong answer R rest j n = record {
    goes_on = rise_goes_on S c;
    wrong = λ l p e. record {
      legal = p;
      ended = e;
      wrong = λ s. n (subst (λ (r : Row). DataOf r (S.net.rail j) (answer j)) (rise_end_is S c R rest l p e) s);
    };
  }

  -- with a gate held low that is high at rest, its set expression still holds: else the row would be the rest
  held_fires : (R : Row) → Settled S.net c R → (g : ℕ) → IsGate S.net g → R g ≡ true → (r : Row) → SettledHeld S.net c (only g) r
      → S.net.fires r g ≡ true
  held_fires R rest g h u r held = not-false (S.net.fires r g) (λ z. clash (ap (λ (s : Row). s g) (settled_one S c r R (λ k. settled z k (same? k g)) rest) ∙ u) is_low)
    where
      is_low : r g ≡ false
      is_low = held_low S c (only g) r held g (eqb_same g)

      settled : S.net.fires r g ≡ false → (k : ℕ) → (k ≡ g) ⊎ (k ≢ g) → r k ≡ rise_up S.net c r k
      settled z k (inl e) = rw e (is_low ∙ sym (by_net_gate S.net g (c g) (S.net.fires r g) h ∙ z))
      settled z k (inr n) = held k ∙ ap (λ (b : Bool). rise_up S.net c r k && not b) (eqb_other k g n) ∙ and-true (rise_up S.net c r k)

  module _ (l : List ℕ) (legal : RiseList S.net c l) (r : Row) (arrives : after low l ≡ r) (data-there : AllData S.net r) where
    pub shows_incomplete : (i : ℕ) → i < S.net.inputs → SettledHeld S.net c (rails_of_inputs S.net (only i)) r → ShowsIncomplete S.net c i l
    shows_incomplete i h held =
        let z : (b : Bool) → r (input_rail i b) ≡ false = λ b. held_low S c (rails_of_inputs S.net (only i)) r held (input_rail i b) (rails_of_inputs_in S.net (only i) i b h (eqb_same i)) in
        record { legal = legal; all_data_holds = rw arrives data-there; null = rw arrives (z false, z true) }

    pub shows_unobservable : (R : Row) → Settled S.net c R → (g : ℕ) → IsGate S.net g → R g ≡ true → SettledHeld S.net c (only g) r
        → ShowsUnobservable S.net c g l
    shows_unobservable R rest g h u held = record {
      legal = legal;
      all_data_holds = rw arrives data-there;
      gate_low = rw arrives (held_low S c (only g) r held g (eqb_same g));
      set = rw arrives (held_fires R rest g h u r held);
    }

  pub incomplete : (i : ℕ) → i < S.net.inputs → (r : Row) → Settled S.net (c ∖ rails_of_inputs S.net (only i)) r → AllData S.net r
      → Incomplete S.net c i
  incomplete i h r g d =
      let held : SettledHeld S.net c (rails_of_inputs S.net (only i)) r = missing_held S.net c (only i) r g in
      let t : Reached (rise_step S.net c) low r = held_reached S c (rails_of_inputs S.net (only i)) r held in
      (t.list, shows_incomplete t.list t.legal r t.arrives d i h held)

  pub unobservable : (R : Row) → Settled S.net c R → (g : ℕ) → IsGate S.net g → R g ≡ true → (r : Row) → SettledHeld S.net c (only g) r
      → AllData S.net r → Unobservable S.net c g
  unobservable R rest g h u r held d =
      let t : Reached (rise_step S.net c) low r = held_reached S c (only g) r held in
      (t.list, shows_unobservable t.list t.legal r t.arrives d R rest g h u held)

-- ---- the fall

module _ (S : Acyclic) (c R : Row) (rest : Settled S.net c R) where
  module _ (l m : List ℕ) (lists : RiseAndFall S.net c l m) (r : Row) (arrives : after (after low l) m ≡ r) (null-there : AllNull S.net r) where
    pub shows_fall_incomplete : InputsData S.net c → (i : ℕ) → i < S.net.inputs → SettledKept S.net (rails_of_inputs S.net (only i)) R r
        → ShowsFallIncomplete S.net c i l m
    shows_fall_incomplete word i h kept =
        let same : (b : Bool) → r (input_rail i b) ≡ R (input_rail i b) = λ b. kept_still S (rails_of_inputs S.net (only i)) R r kept (input_rail i b) (rails_of_inputs_in S.net (only i) i b h (eqb_same i)) in
        record {
          lists = lists;
          all_null_holds = rw arrives null-there;
          input_data = rw arrives (same false ∙ settled_data S.net c R rest word i h ∙ ap not (sym (same true)));
        }

    pub shows_fall_unobservable : (g : ℕ) → R g ≡ true → SettledKept S.net (only g) R r → ShowsFallUnobservable S.net c g l m
    shows_fall_unobservable g u kept = record {
      lists = lists;
      all_null_holds = rw arrives null-there;
      gate_high = rw arrives (kept_still S (only g) R r kept g (eqb_same g) ∙ u);
    }

  -- a rise to the rest and a list of the fall from there are a rise and a fall
  pub rise_and_fall : (l m : List ℕ) → RiseList S.net c l → after low l ≡ R → FallList S.net R m → RiseAndFall S.net c l m
  rise_and_fall l m p e q = record { rise_legal = p; rise_ended = rw e (settled_ended S c R rest); fall_legal = rw e q }

  -- a row that is settled by the fall rule is left by a rise and a fall
  record Fallen (r : Row) : Type 0 where
    rise : List ℕ
    fall : List ℕ
    lists : RiseAndFall S.net c rise fall
    arrives : after (after low rise) fall ≡ r

  fallen-row : (X r : Row) → SettledKept S.net X R r → Fallen r
  fallen-row X r kept =
      let t : Reached (rise_step S.net c) low R = settled_reached S c R rest in
      let f : Reached (fall_step S.net) R r = kept_reached S c R rest X r kept in
      record {
        rise = t.list;
        fall = f.list;
        lists = rise_and_fall t.list f.list t.legal t.arrives f.legal;
        arrives = ap (λ (s : Row). after s f.list) t.arrives ∙ f.arrives;
      }

module _ (S : Acyclic) (c : Row) where
  pub fall_incomplete_holds : InputsData S.net c → (R : Row) → Settled S.net c R → (i : ℕ) → i < S.net.inputs → (r : Row)
      → SettledKept S.net (rails_of_inputs S.net (only i)) R r → AllNull S.net r → FallIncomplete S.net c i
  fall_incomplete_holds word R rest i h r kept n =
      let t : Fallen S c R rest r = fallen-row S c R rest (rails_of_inputs S.net (only i)) r kept in
      (t.rise, t.fall, shows_fall_incomplete S c R rest t.rise t.fall t.lists r t.arrives n word i h kept)

  pub fall_unobservable_holds : (R : Row) → Settled S.net c R → (g : ℕ) → IsGate S.net g → R g ≡ true → (r : Row)
      → SettledKept S.net (only g) R r → AllNull S.net r → FallUnobservable S.net c g
  fall_unobservable_holds R rest g h u r kept n =
      let t : Fallen S c R rest r = fallen-row S c R rest (only g) r kept in
      (t.rise, t.fall, shows_fall_unobservable S c R rest t.rise t.fall t.lists r t.arrives n g u kept)
