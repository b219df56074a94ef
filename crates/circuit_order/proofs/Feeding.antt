-- The pins of a gate in the code: four nets, of which those that its cell lacks are the ground, so that no mark is there.
-- Assumes nothing.
use Prim.Native.Nat.{ℕ, zero, suc, ◌≤◌, ◌<◌}
use native.Mathlib.Omega.{arith}
use native.Mathlib.Decide.{dec_lt, ℕ_discrete}
use mathlib.Core.Path.{◌≡◌, refl, sym, ap, ◌∙◌}
use mathlib.Core.Bool.{Bool, false, ◌||◌}
use mathlib.Core.Logic.{inl, inr}
use mathlib.Core.List.{List, [], ◌∷◌}
use lib.ListN.{length, get_or, take, set, length-set}
use lib.Seq.{get_or-set_same, get_or-set_other}
use lib.Dec.{ltb}
use Rattle.gates.specs.Cell.{pin_count}
use Rattle.netlist.specs.declared.Counts.{Counts}
use Rattle.netlist.specs.Content.{Gate}
use Rattle.verdict.specs.Rows.{high}
use Rattle.verdict.specs.Graph.{any_high}
use Rattle.verdict.specs.Loops.{In, pins_at}
use Rattle.circuit.specs.Stage.{net_count, cell_in, pin_in, gate_in, stage_gates, StageLoaded}
use Rattle.circuit.specs.Rows.{RowFor}
use Rattle.circuit.proofs.Tabulate.{get_d_tabulate, map_tabulate}
use Rattle.circuit_order.specs.Marks.{MarksFor, fed_by}

first_in : (l : List ℕ) (m i : ℕ) → i < m → i < length l → In (get_or l i 0) (take m l)
first_in [] m i h l = absurd (omega arith)
first_in (p ∷ ps) zero i h l = absurd (omega arith)
first_in (p ∷ ps) (suc m) zero h l = inl refl
first_in (p ∷ ps) (suc m) (suc i) h l = inr (first_in ps m i (omega arith) (omega arith))

in_take : (p : ℕ) (l : List ℕ) (m : ℕ) → In p (take m l) → In p l
in_take p [] zero h = absurd h
in_take p [] (suc m) h = absurd h
in_take p (q ∷ l) zero h = absurd h
in_take p (q ∷ l) (suc m) (inl e) = inl e
in_take p (q ∷ l) (suc m) (inr h) = inr (in_take p l m h)

module _ (code : List ℕ) (k : ℕ) where
  abbrev four_pins : List ℕ
  four_pins = pin_in code k 0 ∷ pin_in code k 1 ∷ pin_in code k 2 ∷ pin_in code k 3 ∷ []

  at_pin : (i : ℕ) → i < 4 → get_or four_pins i 0 ≡ pin_in code k i
  at_pin zero h = refl
  at_pin (suc zero) h = refl
  at_pin (suc (suc zero)) h = refl
  at_pin (suc (suc (suc zero))) h = refl
  at_pin (suc (suc (suc (suc i)))) h = absurd (omega arith)

  pin_at : (i : ℕ) → i < pin_count (cell_in code k) → i < 4 → In (pin_in code k i) (gate_in code k).pins
  pin_at i a l = rw (at_pin i l) at (first_in four_pins (pin_count (cell_in code k)) i a l)

pub pins_at_stage_gates : (c : Counts) (code : List ℕ) (k : ℕ) → k < c.gates → pins_at (stage_gates c code) k ≡ (gate_in code k).pins
unfolding stage_gates
pins_at_stage_gates c code k h =
    ap (λ (l : List (List ℕ)). get_or l k []) (map_tabulate (λ (g : Gate). g.pins) (gate_in code) c.gates)
    ∙ get_d_tabulate (λ i. (gate_in code i).pins) c.gates k [] h

-- nets of which those from place m on are unmarked
any_first : (marks nets : List ℕ) (m : ℕ) → ((i : ℕ) → m ≤ i → i < length nets → high marks (get_or nets i 0) ≡ false) →
    any_high marks nets ≡ any_high marks (take m nets)
any_first marks [] zero low = refl
any_first marks [] (suc m) low = refl
any_first marks (p ∷ nets) zero low = rw (low 0 (omega arith) (omega arith)) (any_first marks nets zero (λ i h l. low (suc i) (omega arith) (omega arith)))
any_first marks (p ∷ nets) (suc m) low = ap (λ (b : Bool). high marks p || b) (any_first marks nets m (λ i h l. low (suc i) (omega arith) (omega arith)))

-- ---- marks are rows of their stage

pub marks_row : (c : Counts) (marks : List ℕ) → MarksFor c marks → RowFor c marks
marks_row c marks m = record { long = omega (arith, m.long, m.room); bit = λ p h. m.bit p; ground = m.ground }

-- after a store of 0 or 1 at a net
pub marks_set : (c : Counts) (marks : List ℕ) → MarksFor c marks → (p x : ℕ) → p < net_count c → x ≤ 1 → MarksFor c (set marks p x)
marks_set c marks m p x h l = record {
  long = length-set marks p x ∙ m.long;
  room = m.room;
  bit = λ q. go q (ℕ_discrete q p);
  ground = get_or-set_other marks p (net_count c) x 0 (λ e. omega arith) ∙ m.ground;
}
  where
    go : (q : ℕ) → Dec (q ≡ p) → get_or (set marks p x) q 0 ≤ 1
    go q (yes e) = rw e (omega (arith, get_or-set_same marks p x 0 (omega (arith, m.long, m.room))))
    go q (no d) = omega (arith, get_or-set_other marks p q x 0 d, m.bit q)

module _ (c : Counts) (code marks : List ℕ) (loaded : StageLoaded c code) (m : MarksFor c marks) (k : ℕ) (h : k < c.gates) where
  abbrev four : List ℕ
  four = pin_in code k 0 ∷ pin_in code k 1 ∷ pin_in code k 2 ∷ pin_in code k 3 ∷ []

  at : (i : ℕ) → pin_count (cell_in code k) ≤ i → i < 4 → high marks (pin_in code k i) ≡ false
  at i a l = ap (λ (p : ℕ). high marks p) ((loaded.gate k h).absent i a l) ∙ ap (ltb 0) m.ground

  low : (i : ℕ) → pin_count (cell_in code k) ≤ i → i < 4 → high marks (get_or four i 0) ≡ false
  low zero a l = at 0 a l
  low (suc zero) a l = at 1 a l
  low (suc (suc zero)) a l = at 2 a l
  low (suc (suc (suc zero))) a l = at 3 a l
  low (suc (suc (suc (suc i)))) a l = absurd (omega arith)

  -- no mark is at any of the four
  pub unfed : ((i : ℕ) → i < 4 → get_or marks (pin_in code k i) 0 ≡ 0) → fed_by (stage_gates c code) marks k ≡ false
  unfed z =
      ap (any_high marks) (pins_at_stage_gates c code k h)
      ∙ sym (any_first marks four (pin_count (cell_in code k)) low)
      ∙ rw (z 0 (omega arith), z 1 (omega arith), z 2 (omega arith), z 3 (omega arith)) refl

-- of the four numbers those that are nets are its cell's pins
module _ (c : Counts) (code : List ℕ) (loaded : StageLoaded c code) (k : ℕ) (h : k < c.gates) where
  pub pin_in_holds : (i : ℕ) → i < 4 → pin_in code k i < net_count c → In (pin_in code k i) (pins_at (stage_gates c code) k)
  pin_in_holds i l e = rw (pins_at_stage_gates c code k h) (go (dec_lt i (pin_count (cell_in code k))))
    where
      go : Dec (i < pin_count (cell_in code k)) → In (pin_in code k i) (gate_in code k).pins
      go (yes a) = pin_at code k i a l
      go (no a) = absurd (omega (arith, e, (loaded.gate k h).absent i (omega arith) l))

  pub pin_out : (p : ℕ) → In p (pins_at (stage_gates c code) k) → (i : ℕ) × (i < 4) × (p ≡ pin_in code k i)
  pin_out p x = four-out p (in_take p (four_pins code k) (pin_count (cell_in code k)) (rw (pins_at_stage_gates c code k h) at x))
    where
      four-out : (p : ℕ) → In p (four_pins code k) → (i : ℕ) × (i < 4) × (p ≡ pin_in code k i)
      four-out p (inl e) = (0, omega arith, e)
      four-out p (inr (inl e)) = (1, omega arith, e)
      four-out p (inr (inr (inl e))) = (2, omega arith, e)
      four-out p (inr (inr (inr (inl e)))) = (3, omega arith, e)
      four-out p (inr (inr (inr (inr e)))) = absurd e
