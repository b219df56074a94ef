-- The gates of a stage that rise in some word that it cares for.
use Rattle.std.specs.Prelude.{ℕ, ◌+◌, ◌*◌, ◌/◌, ◌%◌, ◌^◌, ◌<◌, ◌≡◌, true, ◌&&◌, ◌||◌, List, length, get_or}
use Rattle.netlist.specs.declared.Counts.{Counts}
use Rattle.netlist.specs.Reading.{stage_limits}
use Rattle.netlist.specs.Content.{Stage}
use Rattle.verdict.specs.Words.{IsWord, bits_of}
use Rattle.verdict.specs.Checks.{high_at}
use Rattle.circuit.specs.Stage.{care_in, stage_in}
use Rattle.lane_cells.specs.Lane.{lane, row_in}
use Rattle.lane_settle.specs.Block.{rest_in}

-- it rises: in some word of the stage it is high at the rest
pub record Rises (s : Stage) (g : ℕ) : Type 0 where
  pub word : ℕ
  pub is_word : IsWord s word
  pub high : high_at s word g ≡ true

-- ---- the words of a stage in blocks of 64

-- A mask for each block. A word is named in it by its inputs alone: lanes past the last word of fewer than six inputs repeat the words, and are
-- named with them.
pub record WordMasks (s : Stage) (masks : List ℕ) : Type 0 where
  pub named : (b j : ℕ) → j < 64 → lane j (get_or masks b 0) ≡ true → (w : ℕ) × IsWord s w × (bits_of s.inputs w ≡ bits_of s.inputs (64 * b + j))
  pub all : (w : ℕ) → IsWord s w → lane (w % 2 ^ s.inputs % 64) (get_or masks (w % 2 ^ s.inputs / 64) 0) ≡ true

-- care word k of a stage, taken below 2 to the power of the inputs
abbrev pub word_at : Counts → List ℕ → ℕ → ℕ
word_at c code k = care_in c code k % 2 ^ c.inputs

-- the masks of its first care words, so many
pub record ListedIn (c : Counts) (code : List ℕ) (count : ℕ) (masks : List ℕ) : Type 0 where
  pub named : (b j : ℕ) → j < 64 → lane j (get_or masks b 0) ≡ true → (k : ℕ) × (k < count) × (word_at c code k ≡ 64 * b + j)
  pub all : (k : ℕ) → k < count → lane (word_at c code k % 64) (get_or masks (word_at c code k / 64) 0) ≡ true

-- ---- gates that rose

-- what is noted of so many gates, whose levels stand in a row from a place on, in the words of a mask
pub record NotedIn (row : List ℕ) (from count words : ℕ) (before rose : List ℕ) : Type 0 where
  pub same_long : length rose ≡ length before
  pub at : (j g : ℕ) → g < count → row_in j rose g ≡ (row_in j before g || (row_in j row (from + g) && lane j words))

-- of the blocks before block b: a gate that is noted rises in some word, and one that is high in a word that is named is noted
pub record NotedTo (c : Counts) (code masks rose : List ℕ) (b : ℕ) : Type 0 where
  pub long : length rose ≡ stage_limits.gates
  pub risen : (g j : ℕ) → g < c.gates → j < 64 → row_in j rose g ≡ true → Rises (stage_in c code) g
  pub kept : (g a j : ℕ) → g < c.gates → a < b → j < 64 → lane j (get_or masks a 0) ≡ true → rest_in c code a j (2 * c.inputs + g) ≡ true
      → row_in j rose g ≡ true

-- of all of them: gate g is noted exactly if it rises
pub record Noted (s : Stage) (rose : List ℕ) : Type 0 where
  pub risen : (g j : ℕ) → g < length s.gates → j < 64 → row_in j rose g ≡ true → Rises s g
  pub kept : (g w : ℕ) → g < length s.gates → IsWord s w → high_at s w g ≡ true → (j : ℕ) × (row_in j rose g ≡ true)
