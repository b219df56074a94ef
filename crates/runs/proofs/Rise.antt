-- The rise of any set of rails: what holds after every list, at every end, and of settled rows.
-- Assumes nothing.
use mathlib.Core.Path.{◌≡◌, refl, sym, ap, ◌∙◌, subst}
use mathlib.Core.Logic.{◌⊎◌, inl, inr, ◌≢◌}
use mathlib.Core.Bool.{Bool, true, false, not, ◌&&◌, and-false}
use mathlib.Core.List.{List}
use Prim.Native.Nat.{ℕ, ◌≤◌, ◌<◌}
use native.Mathlib.Omega.{arith}
use Rattle.runs.specs.Exchange.{OneFromAnother}
use Rattle.runs.specs.Row.{times, Row, Rule, ◌∖◌, low, only, toggle, after, Ended}
use Rattle.runs.specs.Net.{Net, rails, nets, IsGate, input_rail, rise_up, rise_step, RiseList, RiseEnd}
use Rattle.runs.specs.Theory.{◌⊑◌, Reached}
use Rattle.runs.specs.Settled.{Settled, SettledHeld}
use Rattle.runs.specs.Pair.{InputsData}
use Rattle.runs.specs.Acyclic.{Acyclic}
use Rattle.runs.specs.Tight.{Supported}
use Rattle.runs.specs.Promise.{GoesOn, Switched}
use Rattle.runs.proofs.Test.{eqb_same, eqb_other, same?}
use Rattle.runs.proofs.Row.{∖-same, count_low}
use Rattle.runs.proofs.System.{Quiet, mask, mask_ranked}
use Rattle.runs.proofs.Persistent.{can_rise, persistent, quiet_low, quiet_after, length_after, times_after, full_ended, one_end, goes_on}
use Rattle.runs.proofs.Settled as General
use Rattle.runs.proofs.Exchange.{Swapped, exchange, at_most_once, one_from_another}
use Rattle.runs.proofs.Net.{Place, rail, gate, none, place, rise_up_cong, by_net_rail, by_net_gate, by_net_none, by_net_inside, by_net_mono, input_rail_inside}
use Rattle.runs.proofs.Moves.{rise, rise_ranked}

module _ (S : Acyclic) (c : Row) where
  quiet : Quiet (rise S c) low
  quiet = quiet_low (rise S c)

  -- ---- after every list

  -- a net that may switch is low: no net falls
  pub rise_low : (l : List ℕ) → RiseList S.net c l → (k : ℕ) → rise_step S.net c (after low l) k ≡ true → after low l k ≡ false
  rise_low l p k e = (can_rise (rise S c) (after low l) k (quiet_after (rise S c) low l quiet p) e).0

  -- a net that may switch still may after another has switched
  pub rise_persistent : (l : List ℕ) → RiseList S.net c l → (i k : ℕ) → rise_step S.net c (after low l) i ≡ true
      → rise_step S.net c (after low l) k ≡ true → i ≢ k → rise_step S.net c (toggle (after low l) i) k ≡ true
  rise_persistent l p i k = persistent (rise S c) (after low l) i k (quiet_after (rise S c) low l quiet p)

  pub rise_goes_on : (l : List ℕ) → RiseList S.net c l → GoesOn (rise_step S.net c) low l
  rise_goes_on l p = goes_on (rise S c) low l quiet p

  pub rise_switched : (l : List ℕ) → RiseList S.net c l → Switched S.net (after low l) l
  rise_switched l p = record {
    as_many = omega (arith, length_after (rise S c) low l quiet p, count_low (nets S.net));
    once = λ k. omega (arith, times_after (rise S c) low l quiet p k);
  }

  pub rise_supported : (l : List ℕ) → RiseList S.net c l → Supported S.net c (after low l)
  rise_supported l p = General.supported_after (rise S c) low l quiet p

  -- ---- ends

  pub rise_one_end : (l m : List ℕ) → RiseList S.net c l → RiseList S.net c m → RiseEnd S.net c l → RiseEnd S.net c m
      → after low l ≡ after low m
  rise_one_end l m p q d e = one_end (rise S c) low l m quiet p q d e

  pub rise_end_settled : (l : List ℕ) → RiseList S.net c l → RiseEnd S.net c l → Settled S.net c (after low l)
  rise_end_settled l p e = General.end_settled (rise S c) low l quiet p e

  -- any two full rises, one from the other by exchanging neighbours
  pub rise_exchange : (l m : List ℕ) → RiseList S.net c l → RiseList S.net c m → RiseEnd S.net c l → RiseEnd S.net c m
      → Swapped (rise_step S.net c) low m l
  rise_exchange l m p q d e = exchange (rise S c) low l m quiet p q d e

  -- any two full rises
  pub rises_alike : OneFromAnother (rise_step S.net c) low
  rises_alike = one_from_another (rise_step S.net c) low rise_exchange (λ l p k. at_most_once (after low l k) (times k l) ((rise_switched l p).once k))

  -- ---- the settled row

  pub settled_exists : (R : Row) × Settled S.net c R
  settled_exists = General.settling (rise S c) low quiet

  pub settled_one : (a b : Row) → Settled S.net c a → Settled S.net c b → a ≡ b
  settled_one a b p q = General.settled_one (rise S c) (rise_ranked S c) low a b p q

  pub settled_reached : (R : Row) → Settled S.net c R → Reached (rise_step S.net c) low R
  settled_reached R h = General.reached (rise S c) (rise_ranked S c) low R quiet h

  -- it is an end, and every end is it
  pub settled_ended : (R : Row) → Settled S.net c R → Ended (rise_step S.net c) R
  settled_ended R h = full_ended (rise S c) R (General.settled_quiet (rise S c) (rise_ranked S c) low R quiet h) (General.settled_full (rise S c) low R h)

  pub rise_end_is : (R : Row) → Settled S.net c R → (l : List ℕ) → RiseList S.net c l → RiseEnd S.net c l → after low l ≡ R
  rise_end_is R h l p e = General.end_is (rise S c) (rise_ranked S c) low R l quiet h p e

  -- supported rows lie below it
  pub supported-⊑-settled : (r R : Row) → Supported S.net c r → Settled S.net c R → r ⊑ R
  supported-⊑-settled r R s h = General.supported-⊑-settled (rise S c) (rise_ranked S c) low r R s h

  pub rise-⊑-settled : (R : Row) → Settled S.net c R → (l : List ℕ) → RiseList S.net c l → after low l ⊑ R
  rise-⊑-settled R h l p = supported-⊑-settled (after low l) R (rise_supported l p) h

  -- ---- with the nets of X held low

  pub held_exists : (X : Row) → (r : Row) × SettledHeld S.net c X r
  held_exists X = General.settling (mask (rise S c) X) low quiet

  pub held_one : (X a b : Row) → SettledHeld S.net c X a → SettledHeld S.net c X b → a ≡ b
  held_one X a b p q = General.settled_one (mask (rise S c) X) (mask_ranked (rise S c) X (rise_ranked S c)) low a b p q

  pub held_reached : (X r : Row) → SettledHeld S.net c X r → Reached (rise_step S.net c) low r
  held_reached X r h = General.held_reached (rise S c) X (rise_ranked S c) low r quiet h

  pub held_supported : (X r : Row) → SettledHeld S.net c X r → Supported S.net c r
  held_supported X r h = General.held_supported (rise S c) X low r h

  pub held_low : (X r : Row) → SettledHeld S.net c X r → (k : ℕ) → X k ≡ true → r k ≡ false
  held_low X r h k x = General.held_still (rise S c) X low r h k x refl

  -- a supported row that is low in X lies below the row settled with X held low
  pub supported-⊑-held : (X r a : Row) → Supported S.net c r → ((k : ℕ) → X k ≡ true → r k ≡ false) → SettledHeld S.net c X a → r ⊑ a
  supported-⊑-held X r a s x h = General.supported-⊑-held (rise S c) X (rise_ranked S c) low r a s (λ k y z. x k y) h

-- more rails, more high nets
pub settled_mono : (S : Acyclic) (c d : Row) → c ⊑ d → (r s : Row) → Settled S.net c r → Settled S.net d s → r ⊑ s
settled_mono S c d o r s h g = supported-⊑-settled S d r s (λ k e. up k (sym (h k) ∙ e)) g
  where
    up : (k : ℕ) → rise_up S.net c r k ≡ true → rise_up S.net d r k ≡ true
    up k = by_net_mono S.net k (c k) (S.net.fires r k) (d k) (S.net.fires r k) (o k) (λ e. e)

-- ---- a settled row by its parts: rails, gates, and nets that do not exist

pub settled_by : (N : Net) (c r : Row) → ((k : ℕ) → k < rails N → r k ≡ c k) → ((g : ℕ) → IsGate N g → r g ≡ N.fires r g)
    → ((k : ℕ) → nets N ≤ k → r k ≡ false) → Settled N c r
settled_by N c r f g h k = go (place N k)
  where
    go : Place N k → r k ≡ rise_up N c r k
    go (rail x) = f k x ∙ sym (by_net_rail N k (c k) (N.fires r k) x)
    go (gate x) = g k x ∙ sym (by_net_gate N k (c k) (N.fires r k) x)
    go (none x) = h k x ∙ sym (by_net_none N k (c k) (N.fires r k) x)

pub held_by : (N : Net) (c X r : Row) → ((k : ℕ) → k < rails N → r k ≡ (c ∖ X) k) → ((g : ℕ) → IsGate N g → r g ≡ (N.fires r ∖ X) g)
    → ((k : ℕ) → nets N ≤ k → r k ≡ false) → SettledHeld N c X r
held_by N c X r f g h k = go (place N k)
  where
    go : Place N k → r k ≡ (rise_up N c r ∖ X) k
    go (rail x) = f k x ∙ ap (λ (b : Bool). b && not (X k)) (sym (by_net_rail N k (c k) (N.fires r k) x))
    go (gate x) = g k x ∙ ap (λ (b : Bool). b && not (X k)) (sym (by_net_gate N k (c k) (N.fires r k) x))
    go (none x) = h k x ∙ ap (λ (b : Bool). b && not (X k)) (sym (by_net_none N k (c k) (N.fires r k) x))

-- "the same, except that gate g is low"
pub held_only_by : (N : Net) (c r : Row) (g : ℕ) → IsGate N g → ((k : ℕ) → k < rails N → r k ≡ c k) → r g ≡ false
    → ((i : ℕ) → IsGate N i → i ≢ g → r i ≡ N.fires r i) → ((k : ℕ) → nets N ≤ k → r k ≡ false) → SettledHeld N c (only g) r
held_only_by N c r g x f z h n = held_by N c (only g) r (λ k d. f k d ∙ ∖-same c (only g) k (eqb_other k g (omega arith))) (λ i d. at i d (same? i g)) n
  where
    at : (i : ℕ) → IsGate N i → (i ≡ g) ⊎ (i ≢ g) → r i ≡ (N.fires r ∖ only g) i
    at i d (inl e) = rw e (z ∙ sym (ap (λ (b : Bool). N.fires r g && not b) (eqb_same g) ∙ and-false (N.fires r g)))
    at i d (inr e) = h i d e ∙ ∖-same (N.fires r) (only g) i (eqb_other i g e)

pub settled_cong : (N : Net) (c d : Row) → ((k : ℕ) → k < rails N → c k ≡ d k) → (r : Row) → Settled N c r → Settled N d r
settled_cong N c d h r g = subst (λ (up : Rule). (k : ℕ) → r k ≡ up r k) (rise_up_cong N c d h) g

module _ (N : Net) (c R : Row) (rest : Settled N c R) where
  pub settled_rail : (k : ℕ) → k < rails N → R k ≡ c k
  settled_rail k h = rest k ∙ by_net_rail N k (c k) (N.fires R k) h

  pub settled_gate : (g : ℕ) → IsGate N g → R g ≡ N.fires R g
  settled_gate g h = rest g ∙ by_net_gate N g (c g) (N.fires R g) h

  pub settled_inside : (k : ℕ) → R k ≡ true → k < nets N
  settled_inside k e = by_net_inside N k (c k) (N.fires R k) (sym (rest k) ∙ e)

  pub settled_data : InputsData N c → InputsData N R
  settled_data h i d = settled_rail (input_rail i false) (input_rail_inside N i false d) ∙ h i d ∙ ap not (sym (settled_rail (input_rail i true) (input_rail_inside N i true d)))
