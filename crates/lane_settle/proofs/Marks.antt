-- Marks of nets, in 64 words at a time.
-- Assumes nothing.
use Prim.Native.Nat.{ℕ, ◌<◌}
use native.Mathlib.Omega.{arith}
use native.Mathlib.Decide.{ℕ_discrete}
use mathlib.Core.Path.{◌≡◌, sym, ap, ◌∙◌}
use mathlib.Core.Bool.{true}
use mathlib.Core.Logic.{◌⊎◌, inl, inr}
use mathlib.Core.List.{List}
use lib.ListN.{length, get_or, set}
use lib.Seq.{get_or-set_same, get_or-set_other}
use lib.Bits.{bit_or}
use Rattle.runs.proofs.Test.{or_cases}
use Rattle.netlist.specs.declared.Counts.{Counts}
use Rattle.circuit.specs.Stage.{net_count, pin_in}
use Rattle.circuit.specs.declared.form.Pins.{Pins}
use Rattle.circuit.specs.Form.{pins_in}
use Rattle.lane_cells.specs.declared.CellLanes.{CellLanes}
use Rattle.lane_cells.specs.Lane.{lane, row_in}
use Rattle.lane_cells.specs.Cells.{need_of}
use Rattle.lane_cells.proofs.Lane.{lane_or}
use Rattle.lane_settle.specs.Block.{MarkedWith, PinsMarked}

-- net `net` is marked in some words more, and nothing else is
abbrev pub MarkedMore : List ℕ → ℕ → ℕ → List ℕ → Type 0
MarkedMore ack net words ack' = (j p : ℕ) → row_in j ack' p ≡ true → (row_in j ack p ≡ true) ⊎ ((p ≡ net) × (lane j words ≡ true))

pub mark_more : (ack : List ℕ) (net words : ℕ) → net < length ack → MarkedMore ack net words (set ack net (bit_or (get_or ack net 0) words))
mark_more ack net words h j p e = go (ℕ_discrete p net)
  where
    go : Dec (p ≡ net) → (row_in j ack p ≡ true) ⊎ ((p ≡ net) × (lane j words ≡ true))
    go (yes q) = or (or_cases (lane j (get_or ack net 0)) (lane j words) (sym (lane_or j (get_or ack net 0) words) ∙ sym (ap (lane j) stored) ∙ e))
      where
        stored : get_or (set ack net (bit_or (get_or ack net 0) words)) p 0 ≡ bit_or (get_or ack net 0) words
        stored = rw q (get_or-set_same ack net (bit_or (get_or ack net 0) words) 0 h)

        or : (row_in j ack net ≡ true) ⊎ (lane j words ≡ true) → (row_in j ack p ≡ true) ⊎ ((p ≡ net) × (lane j words ≡ true))
        or (inl x) = inl (rw q x)
        or (inr x) = inr (q, x)
    go (no d) = inl (sym (ap (lane j) (get_or-set_other ack net p (bit_or (get_or ack net 0) words) 0 d)) ∙ e)

-- the four pins of a gate, one after the other
pub pins_marked : (code : List ℕ) (k : ℕ) (at : Pins) → at ≡ pins_in code k → (words : CellLanes) (ack ack₁ ack₂ ack₃ ack₄ : List ℕ) → MarkedMore ack at.a words.a ack₁
    → MarkedMore ack₁ at.b words.b ack₂ → MarkedMore ack₂ at.c words.c ack₃ → MarkedMore ack₃ at.d words.d ack₄ → PinsMarked code k words ack ack₄
pins_marked code k at is words ack ack₁ ack₂ ack₃ ack₄ a b c d j p e = fourth (d j p e)
  where
    At : Type 0
    At = (t : ℕ) × (t < 4) × (p ≡ pin_in code k t) × (lane j (need_of words t) ≡ true)

    first : (row_in j ack p ≡ true) ⊎ ((p ≡ at.a) × (lane j words.a ≡ true)) → (row_in j ack p ≡ true) ⊎ At
    first (inl x) = inl x
    first (inr x) = inr (0, omega arith, x.0 ∙ ap (λ (q : Pins). q.a) is, x.1)

    second : (row_in j ack₁ p ≡ true) ⊎ ((p ≡ at.b) × (lane j words.b ≡ true)) → (row_in j ack p ≡ true) ⊎ At
    second (inl x) = first (a j p x)
    second (inr x) = inr (1, omega arith, x.0 ∙ ap (λ (q : Pins). q.b) is, x.1)

    third : (row_in j ack₂ p ≡ true) ⊎ ((p ≡ at.c) × (lane j words.c ≡ true)) → (row_in j ack p ≡ true) ⊎ At
    third (inl x) = second (b j p x)
    third (inr x) = inr (2, omega arith, x.0 ∙ ap (λ (q : Pins). q.c) is, x.1)

    fourth : (row_in j ack₃ p ≡ true) ⊎ ((p ≡ at.d) × (lane j words.d ≡ true)) → (row_in j ack p ≡ true) ⊎ At
    fourth (inl x) = third (c j p x)
    fourth (inr x) = inr (3, omega arith, x.0 ∙ ap (λ (q : Pins). q.d) is, x.1)

-- what is said of marks still holds once a gate's pins are marked, where it holds of the net at each pin in the words that are given for it
pub marked_pins : (Holds : ℕ → ℕ → Type 0) (c : Counts) (code : List ℕ) (k : ℕ) (words : CellLanes) (ack ack' : List ℕ) → PinsMarked code k words ack ack'
    → ((j t : ℕ) → j < 64 → t < 4 → pin_in code k t < net_count c → lane j (need_of words t) ≡ true → Holds j (pin_in code k t)) → MarkedWith Holds c ack → MarkedWith Holds c ack'
marked_pins Holds c code k words ack ack' more ok m j p d h e = go (more j p e)
  where
    go : (row_in j ack p ≡ true) ⊎ ((t : ℕ) × (t < 4) × (p ≡ pin_in code k t) × (lane j (need_of words t) ≡ true)) → Holds j p
    go (inl x) = m j p d h x
    go (inr x) = rw x.2 (ok j x.0 d x.1 (rw x.2 at h) x.3)
