-- The levels of a row, counted in each word: one net, or eight, after the other.
-- Assumes nothing.
use Prim.Native.Nat.{ℕ, ◌+◌, ◌*◌, ◌^◌, ◌≤◌, ◌<◌}
use native.Mathlib.Omega.{arith}
use native.Mathlib.Nat.{add-zero}
use mathlib.Core.Path.{◌≡◌, ap, ◌∙◌}
use mathlib.Core.List.{List}
use lib.ListN.{length, get_or, set, take, drop, replicate, length-replicate}
use Rattle.verdict.specs.Levels.{sum}
use Rattle.lane_cells.specs.Lane.{level_in, lane_of}
use Rattle.lane_cells.proofs.Lane.{level_small}
use Rattle.lane_cells.proofs.Blocks.{level_at, length_lane}
use Rattle.lane_count.specs.declared.Sum.{Sum}
use Rattle.lane_count.specs.Counters.{Sums, counted, digit_count}
use Rattle.lane_count.proofs.Summing.{sum_part, sum_parts}
use Rattle.lane_count.proofs.Adding.{counted_zero, counted_low}

-- ---- eight nets

pair-levels : (j : ℕ) (row : List ℕ) (at : ℕ) → at + 2 ≤ length row
    → sum (take 2 (drop at (lane_of j row))) ≡ level_in j (get_or row at 0) + level_in j (get_or row (at + 1) 0)
pair-levels j row at h =
    let l = lane_of j row in
    omega (
      arith,
      sum_part l at 0 (omega (arith, length_lane j row)),
      sum_part l at 1 (omega (arith, length_lane j row)),
      ap (λ (n : ℕ). get_or l n 0) (add-zero at),
      level_at j row at,
      level_at j row (at + 1),
    )

module _ (j : ℕ) (row : List ℕ) (at : ℕ) (h : at + 8 ≤ length row) where
  abbrev pair : ℕ → ℕ
  pair p = level_in j (get_or row p 0) + level_in j (get_or row (p + 1) 0)

  eight_levels : sum (take 8 (drop at (lane_of j row))) ≡ pair at + pair (at + 2) + pair (at + 4) + pair (at + 6)
  eight_levels =
      omega (
        arith,
        sum_parts (lane_of j row) at 2 2,
        sum_parts (lane_of j row) at 4 2,
        sum_parts (lane_of j row) at 6 2,
        pair-levels j row at (omega arith),
        pair-levels j row (at + 2) (omega arith),
        pair-levels j row (at + 4) (omega arith),
        pair-levels j row (at + 6) (omega arith),
      )

  pub eight_few : sum (take 8 (drop at (lane_of j row))) ≤ 8
  eight_few =
      let few : (p : ℕ) → pair p ≤ 2 = λ p. omega (arith, level_small j (get_or row p 0), level_small j (get_or row (p + 1) 0)) in
      omega (arith, eight_levels, few at, few (at + 2), few (at + 4), few (at + 6))

-- what they carry out of the three lowest digits is still to be added
module _ (digits row : List ℕ) (at : ℕ) (ab cd ef gh abcd efgh all : Sum) (p : Sums ab (get_or digits 0 0) (get_or row at 0) (get_or row (at + 1) 0))
    (q : Sums cd ab.low (get_or row (at + 2) 0) (get_or row (at + 2 + 1) 0)) (r : Sums ef cd.low (get_or row (at + 4) 0) (get_or row (at + 4 + 1) 0))
    (s : Sums gh ef.low (get_or row (at + 6) 0) (get_or row (at + 6 + 1) 0)) (t : Sums abcd (get_or digits 1 0) ab.high cd.high)
    (u : Sums efgh abcd.low ef.high gh.high) (v : Sums all (get_or digits 2 0) abcd.high efgh.high) where
  pub eight_sum : 3 ≤ length digits → at + 8 ≤ length row → (j : ℕ)
      → counted j (set (set (set digits 0 gh.low) 1 efgh.low) 2 all.low) + 2 ^ 3 * level_in j all.high
      ≡ counted j digits + sum (take 8 (drop at (lane_of j row)))
  eight_sum long room j =
      omega (arith, counted_low j digits gh.low efgh.low all.low long, p j, q j, r j, s j, t j, u j, v j, eight_levels j row at room)

-- ---- one after the other

-- the counters say how many of the first i nets from a place on are high
pub record CountedTo (row : List ℕ) (from : ℕ) (digits : List ℕ) (i : ℕ) : Type 0 where
  pub long : length digits ≡ digit_count
  pub says : (j : ℕ) → counted j digits ≡ sum (take i (drop from (lane_of j row)))
  pub small : (j : ℕ) → counted j digits ≤ i

module _ (row : List ℕ) (from : ℕ) where
  pub counted_start : CountedTo row from (replicate digit_count 0) 0
  counted_start = record { long = length-replicate {A = ℕ} digit_count 0; says = λ j. counted_zero j digit_count; small = λ j. omega (arith, counted_zero j digit_count) }

  module _ (digits : List ℕ) (i : ℕ) (s : CountedTo row from digits i) where
    -- there is room for n more
    pub counted_room : (n : ℕ) → i + n < 2 ^ digit_count → (j : ℕ) → counted j digits + n < 2 ^ length digits
    counted_room n h j = rw s.long (omega (arith, s.small j))

    pub counted_more : from + i < length row → (digits' : List ℕ) → length digits' ≡ length digits
        → ((j : ℕ) → counted j digits' ≡ counted j digits + level_in j (get_or row (from + i) 0)) → CountedTo row from digits' (i + 1)
    counted_more h digits' long more = record {
      long = long ∙ s.long;
      says = λ j. omega (arith, more j, s.says j, sum_part (lane_of j row) from i (omega (arith, length_lane j row)), level_at j row (from + i));
      small = λ j. omega (arith, more j, s.small j, level_small j (get_or row (from + i) 0));
    }

    pub counted_eight : from + i + 8 ≤ length row → (digits' : List ℕ) → length digits' ≡ length digits
        → ((j : ℕ) → counted j digits' ≡ counted j digits + sum (take 8 (drop (from + i) (lane_of j row)))) → CountedTo row from digits' (i + 8)
    counted_eight h digits' long more = record {
      long = long ∙ s.long;
      says = λ j. omega (arith, more j, s.says j, sum_parts (lane_of j row) from i 8);
      small = λ j. omega (arith, more j, s.small j, eight_few j row (from + i) h);
    }
