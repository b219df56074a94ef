-- A net by itself: its place, and what it is.
-- Assumes nothing.
use Prim.Native.Nat.{ℕ, ◌+◌, ◌*◌, ◌-◌, ◌/◌, ◌%◌, ◌≤◌, ◌<◌}
use native.Mathlib.Omega.{arith}
use mathlib.Core.Path.{◌≡◌, sym, ap, ◌∙◌}
use mathlib.Core.Bool.{true, false}
use mathlib.Core.List.{List}
use lib.ListN.{length, get_or, get_or-eq_default}
use lib.Dec.{eqb}
use borrow.Author.Tests.{lt-ltb, le-ltb, ne_eqb}
use Rattle.lane_cells.proofs.Lane.{lane_zero}
use Rattle.lane_rise.proofs.Lanes.{one_at, one_lane}
use Rattle.wiring_spec.specs.Tables.{slot}
use Rattle.circuit_place.specs.Placing.{place}
use Rattle.check_open.specs.Opening.{own_ko, own_data, Own}

module _ (nets : List ℕ) (first x : ℕ) where
  abbrev i : ℕ
  i = x - first

  zero_slot : get_or nets (8 * i + 0) 0 ≡ get_or nets (8 * i) 0
  zero_slot = let z : 8 * i + 0 ≡ 8 * i = omega arith in ap (λ (k : ℕ). get_or nets k 0) z

  pub ko_below : ((i : ℕ) → slot nets i 0 ≡ 2 → slot nets i 6 < 64) → get_or nets (8 * (x - first)) 0 ≡ 2 → get_or nets (8 * (x - first) + 6) 0 < 64
  ko_below f e = f i (zero_slot ∙ e)

  pub place-before : x < first → 0 ≡ place nets first x
  unfolding place
  place-before h = rw (lt-ltb x first h)

  pub place-past : first ≤ x → length nets % 8 ≡ 0 → length nets / 8 ≤ x - first → 0 ≡ place nets first x
  unfolding place
  place-past h m l = rw (le-ltb x first h) (sym (get_or-eq_default nets 0 (omega arith)))

  pub place_here : first ≤ x → get_or nets (8 * (x - first) + 5) 0 ≡ place nets first x
  unfolding place
  place_here h = rw (le-ltb x first h)

  pub own_before : x < first → Own nets first x (record { kos = 0; other = true })
  unfolding own_ko own_data
  own_before h = record { of_kos = λ t l. rw (lt-ltb x first h) (lane_zero t); of_other = rw (lt-ltb x first h) }

  module _ (h : first ≤ x) where
    pub own_past : length nets % 8 ≡ 0 → length nets / 8 ≤ x - first → Own nets first x (record { kos = 0; other = false })
    unfolding own_ko own_data
    own_past m l =
        let none : slot nets i 0 ≡ 0 = get_or-eq_default nets 0 (omega arith) in
        record { of_kos = λ t k. rw (le-ltb x first h, none) (lane_zero t); of_other = rw (le-ltb x first h, none) }

    pub own_ko_holds : get_or nets (8 * (x - first)) 0 ≡ 2 → slot nets (x - first) 6 < 64 → Own nets first x (record { kos = one_at (slot nets (x - first) 6); other = false })
    unfolding own_ko own_data
    own_ko_holds e s =
        let two : slot nets i 0 ≡ 2 = zero_slot ∙ e in
        record { of_kos = λ t k. rw (le-ltb x first h, two) (one_lane (slot nets i 6) t s k); of_other = rw (le-ltb x first h, two) }

    pub own_else : ¬ (get_or nets (8 * (x - first)) 0 ≡ 2) → Own nets first x (record { kos = 0; other = eqb (get_or nets (8 * (x - first)) 0) 1 })
    unfolding own_ko own_data
    own_else d = record {
      of_kos = λ t k. rw (le-ltb x first h, ne_eqb (slot nets i 0) 2 (λ e. d (sym zero_slot ∙ e))) (lane_zero t);
      of_other = rw (le-ltb x first h) (ap (λ (v : ℕ). eqb v 1) (sym zero_slot));
    }
