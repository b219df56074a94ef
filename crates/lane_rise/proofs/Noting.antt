-- The gates of a block that has settled are noted, block after block: in the end a gate is noted exactly if it rises.
-- Assumes nothing.
use Prim.Native.Nat.{ℕ, ◌+◌, ◌*◌, ◌/◌, ◌%◌, ◌^◌, ◌≤◌, ◌<◌}
use native.Mathlib.Omega.{arith}
use native.Mathlib.Decide.{ℕ_discrete}
use native.Mathlib.Nat.{mod-lt}
use mathlib.Core.Path.{◌≡◌, refl, sym, ap, ◌∙◌}
use mathlib.Core.Bool.{Bool, true, ◌&&◌, ◌||◌}
use mathlib.Core.Logic.{◌⊎◌, inl, inr}
use mathlib.Core.List.{List}
use lib.ListN.{length, get_or, set, replicate, length-set, length-replicate}
use lib.Seq.{get_or-set_same, get_or-set_other}
use lib.Dec.{lit<}
use lib.Bits.{bit_and, bit_or}
use lib.Pow.{pow_pos}
use Rattle.runs.proofs.Test.{clash, and_in, and_left, and_right, or_cases, or_left, or_right}
use Rattle.netlist.specs.declared.Counts.{Counts}
use Rattle.netlist.specs.Reading.{stage_limits}
use Rattle.verdict.specs.Words.{bits_of, rails_of}
use Rattle.verdict.specs.Rows.{settled}
use Rattle.verdict.specs.Nets.{row_of, rest_row}
use Rattle.circuit.specs.Stage.{stage_gates, stage_in}
use Rattle.circuit.proofs.Settling.{length_stage_gates}
use Rattle.lane_cells.specs.Lane.{lane, row_in}
use Rattle.lane_cells.proofs.Lane.{lane_zero, lane_and, lane_or}
use Rattle.lane_settle.specs.Block.{rest_in, Resting}
use Rattle.lane_rise.specs.Rising.{Rises, WordMasks, NotedIn, NotedTo, Noted}
use Rattle.lane_rise.proofs.Lanes.{zeros_at, bits_mod}

-- ---- the loop over the gates of a block

-- the gates before gate k are noted, and the others are as they were
pub record NotedSoFar (row : List ℕ) (from words : ℕ) (start rose : List ℕ) (k : ℕ) : Type 0 where
  pub noted : NotedIn row from k words start rose
  pub after : (g : ℕ) → k ≤ g → get_or rose g 0 ≡ get_or start g 0

module _ (row : List ℕ) (from words : ℕ) (start : List ℕ) where
  pub so_far_start : NotedSoFar row from words start start 0
  so_far_start = record { noted = record { same_long = refl; at = λ j g h. absurd (omega arith) }; after = λ g h. refl }

  abbrev note_at : List ℕ → ℕ → ℕ
  note_at rose k = bit_or (get_or rose k 0) (bit_and (get_or row (from + k) 0) words)

  pub so_far_more : (rose : List ℕ) (k : ℕ) → NotedSoFar row from words start rose k → k < length rose
      → NotedSoFar row from words start (set rose k (note_at rose k)) (k + 1)
  so_far_more rose k s room = record {
    noted = record { same_long = length-set rose k (note_at rose k) ∙ s.noted.same_long; at = λ j g h. at j g h (ℕ_discrete g k) };
    after = λ g h. get_or-set_other rose k g (note_at rose k) 0 (λ e. omega arith) ∙ s.after g (omega arith);
  }
    where
      at : (j g : ℕ) → g < k + 1 → Dec (g ≡ k) → row_in j (set rose k (note_at rose k)) g ≡ (row_in j start g || (row_in j row (from + g) && lane j words))
      at j g h (yes q) = rw q here
        where
          here : row_in j (set rose k (note_at rose k)) k ≡ (row_in j start k || (row_in j row (from + k) && lane j words))
          here =
              ap (lane j) (get_or-set_same rose k (note_at rose k) 0 room)
              ∙ lane_or j (get_or rose k 0) (bit_and (get_or row (from + k) 0) words)
              ∙ ap (λ (b : Bool). lane j (get_or rose k 0) || b) (lane_and j (get_or row (from + k) 0) words)
              ∙ ap (λ (x : ℕ). lane j x || (row_in j row (from + k) && lane j words)) (s.after k (omega arith))
      at j g h (no q) = ap (lane j) (get_or-set_other rose k g (note_at rose k) 0 q) ∙ s.noted.at j g (omega arith)

-- ---- the loop over the blocks

-- the rest of a word is told by its bits
same_rest : (c : Counts) (code : List ℕ) (v w net : ℕ) → bits_of c.inputs v ≡ bits_of c.inputs w
    → rest_row (stage_in c code) v net ≡ rest_row (stage_in c code) w net
same_rest c code v w net e = ap (λ (bits : List ℕ). row_of (settled (stage_gates c code) (rails_of bits)) net) e

module _ (c : Counts) (code masks : List ℕ) where
  pub noted_start : NotedTo c code masks (replicate stage_limits.gates 0) 0
  noted_start = record {
    long = length-replicate {A = ℕ} stage_limits.gates 0;
    risen = λ g j h d e. absurd (clash e (ap (lane j) (zeros_at stage_limits.gates g) ∙ lane_zero j));
    kept = λ g a j h l d m r. absurd (omega arith);
  }

  module _ (words : WordMasks (stage_in c code) masks) (rose : List ℕ) (b : ℕ) (n : NotedTo c code masks rose b) where
    pub noted_more : (row rose' : List ℕ) → Resting c code b row → NotedIn row (2 * c.inputs) c.gates (get_or masks b 0) rose rose'
        → NotedTo c code masks rose' (b + 1)
    noted_more row rose' at_rest new = record {
      long = new.same_long ∙ n.long;
      risen = λ g j h d e. from_word g j h d (or_cases (row_in j rose g) (row_in j row (2 * c.inputs + g) && lane j (get_or masks b 0)) (sym (new.at j g h) ∙ e));
      kept = λ g a j h l d m r. new.at j g h ∙ is_kept g a j h l d m r (ℕ_discrete a b);
    }
      where
        from_word : (g j : ℕ) → g < c.gates → j < 64
            → (row_in j rose g ≡ true) ⊎ ((row_in j row (2 * c.inputs + g) && lane j (get_or masks b 0)) ≡ true) → Rises (stage_in c code) g
        from_word g j h d (inl x) = n.risen g j h d x
        from_word g j h d (inr x) =
            let p = words.named b j d (and_right (row_in j row (2 * c.inputs + g)) (lane j (get_or masks b 0)) x) in
            record {
              word = p.0;
              is_word = p.1;
              high = same_rest c code p.0 (64 * b + j) (2 * c.inputs + g) p.2
                  ∙ sym (at_rest.nets j (2 * c.inputs + g) d (omega arith))
                  ∙ and_left (row_in j row (2 * c.inputs + g)) (lane j (get_or masks b 0)) x;
            }

        is_kept : (g a j : ℕ) → g < c.gates → a < b + 1 → j < 64 → lane j (get_or masks a 0) ≡ true → rest_in c code a j (2 * c.inputs + g) ≡ true → Dec (a ≡ b)
            → (row_in j rose g || (row_in j row (2 * c.inputs + g) && lane j (get_or masks b 0))) ≡ true
        is_kept g a j h l d m r (yes q) =
            or_right (row_in j rose g) (row_in j row (2 * c.inputs + g) && lane j (get_or masks b 0))
            (and_in (row_in j row (2 * c.inputs + g)) (lane j (get_or masks b 0))
            (at_rest.nets j (2 * c.inputs + g) d (omega arith) ∙ sym (ap (λ (x : ℕ). rest_in c code x j (2 * c.inputs + g)) q) ∙ r)
            (sym (ap (λ (x : ℕ). lane j (get_or masks x 0)) q) ∙ m))
        is_kept g a j h l d m r (no q) =
            or_left (row_in j rose g) (row_in j row (2 * c.inputs + g) && lane j (get_or masks b 0)) (n.kept g a j h (omega arith) d m r)

    -- a block without a word that is cared for adds nothing
    pub noted_skip : get_or masks b 0 ≡ 0 → NotedTo c code masks rose (b + 1)
    noted_skip none = record { long = n.long; risen = n.risen; kept = λ g a j h l d m r. go g a j h l d m r (ℕ_discrete a b) }
      where
        go : (g a j : ℕ) → g < c.gates → a < b + 1 → j < 64 → lane j (get_or masks a 0) ≡ true → rest_in c code a j (2 * c.inputs + g) ≡ true → Dec (a ≡ b) → row_in j rose g ≡ true
        go g a j h l d m r (yes q) = absurd (clash m (ap (λ (x : ℕ). lane j (get_or masks x 0)) q ∙ ap (lane j) none ∙ lane_zero j))
        go g a j h l d m r (no q) = n.kept g a j h (omega arith) d m r

    -- all words of the stage stand in those blocks
    pub noted_all : 2 ^ c.inputs ≤ 64 * b → Noted (stage_in c code) rose
    noted_all all = record {
      risen = λ g j h d e. n.risen g j (omega (arith, length_stage_gates c code)) d e;
      kept = λ g w h i e.
          let v = w % 2 ^ c.inputs in
          let is : 64 * (v / 64) + v % 64 ≡ v = omega arith in
          let below : v < 2 ^ c.inputs = mod-lt w (pow_pos c.inputs) in
          let high : rest_in c code (v / 64) (v % 64) (2 * c.inputs + g) ≡ true =
          same_rest c code (64 * (v / 64) + v % 64) w (2 * c.inputs + g) (ap (bits_of c.inputs) is ∙ bits_mod c.inputs w) ∙ e in
          (v % 64, n.kept g (v / 64) (v % 64) (omega (arith, length_stage_gates c code)) (omega arith) (mod-lt v (lit< tt)) (words.all w i) high);
    }
