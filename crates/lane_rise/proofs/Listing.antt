-- Words are put into masks one after the other, and the masks name the words of a stage.
-- Assumes nothing.
use Prim.Native.Nat.{ℕ, ◌+◌, ◌*◌, ◌/◌, ◌%◌, ◌^◌, ◌≤◌, ◌<◌}
use native.Mathlib.Omega.{arith}
use native.Mathlib.Decide.{ℕ_discrete}
use native.Mathlib.Nat.{mod-lt}
use mathlib.Core.Path.{◌≡◌, refl, sym, ap, subst, ◌∙◌}
use mathlib.Core.Bool.{true, ◌||◌}
use mathlib.Core.Logic.{◌⊎◌, inl, inr}
use mathlib.Core.List.{List}
use lib.ListN.{length, get_or, set, replicate, get_or-replicate}
use lib.Seq.{get_or-set_same, get_or-set_other}
use lib.Dec.{eqb, lit<}
use lib.Bits.{bit_or}
use lib.Pow.{pow_pos, pow_mono}
use borrow.Author.Tests.{eqb-true, eq-eqb}
use Rattle.runs.proofs.Test.{clash, or_cases, or_left, or_right}
use Rattle.netlist.specs.declared.Counts.{Counts}
use Rattle.verdict.specs.Words.{bits_of}
use Rattle.circuit.specs.Stage.{care_in, stage_in}
use Rattle.lane_cells.specs.Lane.{lane}
use Rattle.lane_cells.proofs.Lane.{lane_zero, lane_or}
use Rattle.lane_cells.proofs.Blocks.{all-at}
use Rattle.lane_rise.specs.Rising.{WordMasks, word_at, ListedIn}
use Rattle.lane_rise.proofs.Lanes.{zeros_at, one_at, one_lane, bits_mod}
use Rattle.lane_rise.proofs.Care.{word_of_all, care_words, word_of_care}

-- a word of so many inputs stands in one of 16 blocks
pub block_of : (inputs w : ℕ) → inputs ≤ 10 → w % 2 ^ inputs / 64 < 16
block_of inputs w few = omega (arith, mod-lt w (pow_pos inputs), pow_mono {i = inputs} {j = 10} few)

-- how many words so many inputs have, as 64 bits hold it
pub size_of : (inputs : ℕ) → inputs ≤ 10 → 1 * 2 ^ inputs % 18446744073709551616 ≡ 2 ^ inputs
size_of inputs few = omega (arith, pow_mono {i = inputs} {j = 10} few)

-- ---- one word more

abbrev pub with_word : List ℕ → ℕ → List ℕ
with_word masks w = set masks (w / 64) (bit_or (get_or masks (w / 64) 0) (one_at (w % 64)))

module _ (masks : List ℕ) (w : ℕ) (room : w / 64 < length masks) where
  stored : get_or (with_word masks w) (w / 64) 0 ≡ bit_or (get_or masks (w / 64) 0) (one_at (w % 64))
  stored = get_or-set_same masks (w / 64) (bit_or (get_or masks (w / 64) 0) (one_at (w % 64))) 0 room

  lane_here : (j : ℕ) → lane j (get_or (with_word masks w) (w / 64) 0) ≡ (lane j (get_or masks (w / 64) 0) || lane j (one_at (w % 64)))
  lane_here j = ap (lane j) stored ∙ lane_or j (get_or masks (w / 64) 0) (one_at (w % 64))

  lane-elsewhere : (b j : ℕ) → (b ≡ w / 64 → ⊥) → lane j (get_or (with_word masks w) b 0) ≡ lane j (get_or masks b 0)
  lane-elsewhere b j d = ap (lane j) (get_or-set_other masks (w / 64) b (bit_or (get_or masks (w / 64) 0) (one_at (w % 64))) 0 d)

  -- what is named was named before, or is that word
  word_named : (b j : ℕ) → j < 64 → lane j (get_or (with_word masks w) b 0) ≡ true → (lane j (get_or masks b 0) ≡ true) ⊎ (w ≡ 64 * b + j)
  word_named b j d e = go (ℕ_discrete b (w / 64))
    where
      here : b ≡ w / 64 → (lane j (get_or masks (w / 64) 0) ≡ true) ⊎ (lane j (one_at (w % 64)) ≡ true) → (lane j (get_or masks b 0) ≡ true) ⊎ (w ≡ 64 * b + j)
      here q (inl x) = inl (ap (λ (n : ℕ). lane j (get_or masks n 0)) q ∙ x)
      here q (inr x) =
          let k : j ≡ w % 64 = eqb-true j (w % 64) (sym (one_lane (w % 64) j (mod-lt w (lit< tt)) d) ∙ x) in
          inr (omega arith)

      go : Dec (b ≡ w / 64) → (lane j (get_or masks b 0) ≡ true) ⊎ (w ≡ 64 * b + j)
      go (yes q) =
          here q
          (or_cases (lane j (get_or masks (w / 64) 0)) (lane j (one_at (w % 64)))
          (sym (lane_here j) ∙ sym (ap (λ (n : ℕ). lane j (get_or (with_word masks w) n 0)) q) ∙ e))
      go (no q) = inl (sym (lane-elsewhere b j q) ∙ e)

  -- and both are
  still_named : (b j : ℕ) → lane j (get_or masks b 0) ≡ true → lane j (get_or (with_word masks w) b 0) ≡ true
  still_named b j e = go (ℕ_discrete b (w / 64))
    where
      go : Dec (b ≡ w / 64) → lane j (get_or (with_word masks w) b 0) ≡ true
      go (yes q) =
          ap (λ (n : ℕ). lane j (get_or (with_word masks w) n 0)) q
          ∙ lane_here j
          ∙ or_left (lane j (get_or masks (w / 64) 0)) (lane j (one_at (w % 64))) (sym (ap (λ (n : ℕ). lane j (get_or masks n 0)) q) ∙ e)
      go (no q) = lane-elsewhere b j q ∙ e

  now_named : lane (w % 64) (get_or (with_word masks w) (w / 64) 0) ≡ true
  now_named =
      lane_here (w % 64)
      ∙ or_right (lane (w % 64) (get_or masks (w / 64) 0)) (lane (w % 64) (one_at (w % 64)))
      (one_lane (w % 64) (w % 64) (mod-lt w (lit< tt)) (mod-lt w (lit< tt)) ∙ eq-eqb (w % 64) (w % 64) refl)

-- ---- the loop over a list

module _ (c : Counts) (code : List ℕ) where
  pub listed_start : ListedIn c code 0 (replicate 16 0)
  listed_start = record {
    named = λ b j d e. absurd (clash e (ap (lane j) (zeros_at 16 b) ∙ lane_zero j));
    all = λ k h. absurd (omega arith);
  }

  pub listed_more : (masks : List ℕ) (k : ℕ) → ListedIn c code k masks → word_at c code k / 64 < length masks
      → ListedIn c code (k + 1) (with_word masks (word_at c code k))
  listed_more masks k l room = record { named = named; all = all }
    where
      named : (b j : ℕ) → j < 64 → lane j (get_or (with_word masks (word_at c code k)) b 0) ≡ true → (i : ℕ) × (i < k + 1) × (word_at c code i ≡ 64 * b + j)
      named b j d e = go (word_named masks (word_at c code k) room b j d e)
        where
          go : (lane j (get_or masks b 0) ≡ true) ⊎ (word_at c code k ≡ 64 * b + j) → (i : ℕ) × (i < k + 1) × (word_at c code i ≡ 64 * b + j)
          go (inl x) = let p = l.named b j d x in (p.0, omega (arith, p.1), p.2)
          go (inr x) = (k, omega arith, x)

      all : (i : ℕ) → i < k + 1 → lane (word_at c code i % 64) (get_or (with_word masks (word_at c code k)) (word_at c code i / 64) 0) ≡ true
      all i h = go (ℕ_discrete i k)
        where
          go : Dec (i ≡ k) → lane (word_at c code i % 64) (get_or (with_word masks (word_at c code k)) (word_at c code i / 64) 0) ≡ true
          go (yes q) =
              ap (λ (n : ℕ). lane (word_at c code n % 64) (get_or (with_word masks (word_at c code k)) (word_at c code n / 64) 0)) q ∙ now_named masks (word_at c code k) room
          go (no q) = still_named masks (word_at c code k) room (word_at c code i / 64) (word_at c code i % 64) (l.all i (omega arith))

-- ---- the words of a stage

module _ (c : Counts) (code : List ℕ) where
  pub all_masks : c.care ≡ 0 → c.inputs ≤ 10 → WordMasks (stage_in c code) (replicate 16 0xFFFF_FFFF_FFFF_FFFF)
  all_masks none few = record {
    named = λ b j d e.
        let v = 64 * b + j in
        (v % 2 ^ c.inputs, word_of_all c code none (v % 2 ^ c.inputs) (mod-lt v (pow_pos c.inputs)), bits_mod c.inputs v);
    all = λ w i.
        let v = w % 2 ^ c.inputs in
        ap (lane (v % 64)) (get_or-replicate 16 (v / 64) 0xFFFF_FFFF_FFFF_FFFF 0 (block_of c.inputs w few))
        ∙ ap (λ (x : ℕ). eqb x 1) (all-at (v % 64) (mod-lt v (lit< tt)));
  }

  pub care_masks : (c.care ≡ 0 → ⊥) → (masks : List ℕ) → ListedIn c code c.care masks
      → WordMasks (stage_in c code) masks
  care_masks some masks l = record {
    named = λ b j d e.
        let p = l.named b j d e in
        let w = care_in c code p.0 in
        (w, word_of_care c code some p.0 p.1, sym (bits_mod c.inputs w) ∙ ap (bits_of c.inputs) p.2);
    all = λ w i.
        let p = care_words c code some w i in
        subst (λ (v : ℕ). lane (v % 2 ^ c.inputs % 64) (get_or masks (v % 2 ^ c.inputs / 64) 0) ≡ true) p.2 (l.all p.0 p.1);
  }
