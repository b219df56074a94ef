-- The counters of a block at rest, and the words that they are written for.
-- Assumes nothing.
use Prim.Native.Nat.{ℕ, zero, suc, ◌+◌, ◌-◌, ◌*◌, ◌%◌, ◌≤◌, ◌<◌}
use native.Mathlib.Omega.{arith}
use native.Mathlib.Decide.{ℕ_discrete, dec_lt}
use mathlib.Core.Path.{◌≡◌, refl, sym, ap, ◌∙◌}
use mathlib.Core.Logic.{◌⊎◌, inl, inr}
use mathlib.Core.List.{List, ◌++◌}
use lib.ListN.{length, get_or, take, drop, set, replicate, length-set, length-drop, length-replicate}
use lib.Seq.{ext_get_or, get_or-take, get_or-drop, get_or-append-add, length-take-le, get_or-set_same, get_or-set_other}
use lib.Dec.{eqb, ltb}
use Rattle.runs.proofs.Test.{clash}
use Rattle.netlist.specs.declared.Counts.{Counts}
use Rattle.netlist.specs.Reading.{Within, stage_limits}
use Rattle.verdict.specs.Levels.{sum}
use Rattle.verdict.specs.Rows.{settled_levels}
use Rattle.verdict.specs.Words.{bits_of, rails_in}
use Rattle.verdict.proofs.Levels.{bits_length, bits_get}
use Rattle.verdict.proofs.Settling.{settled_bits}
use Rattle.verdict.proofs.Words.{bits_of_length, rails_length}
use Rattle.circuit.specs.Stage.{net_count, stage_gates, stage_in}
use Rattle.circuit.specs.Rows.{row_size}
use Rattle.circuit.proofs.Settling.{length_stage_gates, low_row}
use Rattle.lane_cells.specs.Lane.{level_in, lane_of}
use Rattle.lane_cells.proofs.Lane.{level_small}
use Rattle.lane_cells.proofs.Blocks.{level_at, length_lane}
use Rattle.lane_settle.specs.Block.{Room, Resting}
use Rattle.report_spec.specs.High.{gates_high}
use Rattle.lane_count.specs.Counters.{counted}

-- two levels that are high together are the same
same-level : (x y : ℕ) → x ≤ 1 → y ≤ 1 → eqb x 1 ≡ ltb 0 y → x ≡ y
same-level zero zero h k e = refl
same-level (suc zero) (suc zero) h k e = refl
same-level zero (suc zero) h k e = absurd (clash refl (sym e))
same-level (suc zero) zero h k e = absurd (clash refl e)
same-level zero (suc (suc y)) h k e = absurd (omega arith)
same-level (suc zero) (suc (suc y)) h k e = absurd (omega arith)
same-level (suc (suc x)) y h k e = absurd (omega arith)

-- ---- in a block at rest the gates that are high are those of the rest

module _ (c : Counts) (code : List ℕ) (b : ℕ) (row : List ℕ) (room : Room c row) (at_rest : Resting c code b row) (j : ℕ) (d : j < 64) where
  abbrev w : ℕ
  w = 64 * b + j

  abbrev rails : List ℕ
  rails = rails_in (stage_in c code) w

  abbrev levels : List ℕ
  levels = settled_levels (stage_gates c code) rails

  rails-long : length rails ≡ 2 * c.inputs
  rails-long = rails_length (bits_of c.inputs w) ∙ ap (λ (k : ℕ). 2 * k) (bits_of_length c.inputs w)

  levels_long : length levels ≡ c.gates
  levels_long = bits_length (length (stage_gates c code)) levels (settled_bits (stage_gates c code) rails) ∙ length_stage_gates c code

  part : List ℕ
  part = take c.gates (drop (2 * c.inputs) (lane_of j row))

  part_long : length part ≡ c.gates
  unfolding part
  part_long = length-take-le c.gates (drop (2 * c.inputs) (lane_of j row)) (omega (arith, length-drop (2 * c.inputs) (lane_of j row), length_lane j row))

  level-is : (k : ℕ) → k < c.gates → get_or part k 0 ≡ get_or levels k 0
  unfolding part
  level-is k h =
      get_or-take c.gates (drop (2 * c.inputs) (lane_of j row)) k 0 h
      ∙ get_or-drop (2 * c.inputs) (lane_of j row) k 0
      ∙ level_at j row (2 * c.inputs + k)
      ∙ same-level (level_in j (get_or row (2 * c.inputs + k) 0)) (get_or levels k 0) (level_small j (get_or row (2 * c.inputs + k) 0))
      (bits_get (length (stage_gates c code)) levels (settled_bits (stage_gates c code) rails) k)
      (at_rest.nets j (2 * c.inputs + k) d (omega arith) ∙ ap (λ (x : ℕ). ltb 0 x) behind)
    where
      behind : get_or (rails ++ levels) (2 * c.inputs + k) 0 ≡ get_or levels k 0
      behind = let e : 2 * c.inputs + k ≡ length rails + k = omega (arith, rails-long) in ap (λ (n : ℕ). get_or (rails ++ levels) n 0) e ∙ get_or-append-add rails levels k 0

  block_high : sum (take c.gates (drop (2 * c.inputs) (lane_of j row))) ≡ gates_high (stage_in c code) w
  unfolding part
  block_high = ap sum (ext_get_or 0 part levels (part_long ∙ sym levels_long) (λ k h. level-is k (omega (arith, part_long))))

-- ---- written one after the other

-- the counters of some words of block b are written, and the words before the block are as they were
pub record Written (b : ℕ) (digits start high : List ℕ) (For : ℕ → Type 0) : Type 0 where
  pub same_long : length high ≡ length start
  pub written : (j : ℕ) → j < 64 → For j → get_or high (64 * b + j) 0 ≡ counted j digits
  pub before : (w : ℕ) → w < 64 * b → get_or high w 0 ≡ get_or start w 0

-- four words at a time, 16 apart: of each 16 words the first n
abbrev pub WrittenTo : ℕ → List ℕ → List ℕ → List ℕ → ℕ → Type 0
WrittenTo b digits start high n = Written b digits start high (λ j. j % 16 < n)

module _ (b : ℕ) (digits start : List ℕ) where
  pub written_start : WrittenTo b digits start start 0
  written_start = record { same_long = refl; written = λ j d h. absurd (omega arith); before = λ w h. refl }

  -- one word more
  put : (high : List ℕ) (For : ℕ → Type 0) → Written b digits start high For → (v at x : ℕ) → at ≡ 64 * b + v → at < length high → x ≡ counted v digits
      → Written b digits start (set high at x) (λ j. (j ≡ v) ⊎ For j)
  put high For s v at x place room is = record {
    same_long = length-set high at x ∙ s.same_long;
    written = go;
    before = λ w h. get_or-set_other high at w x 0 (λ e. omega arith) ∙ s.before w h;
  }
    where
      here : get_or (set high at x) (64 * b + v) 0 ≡ counted v digits
      here = ap (λ (n : ℕ). get_or (set high at x) n 0) (sym place) ∙ get_or-set_same high at x 0 room ∙ is

      go : (j : ℕ) → j < 64 → (j ≡ v) ⊎ For j → get_or (set high at x) (64 * b + j) 0 ≡ counted j digits
      go j d (inl e) = rw e here
      go j d (inr h) = at-word (ℕ_discrete j v)
        where
          at-word : Dec (j ≡ v) → get_or (set high at x) (64 * b + j) 0 ≡ counted j digits
          at-word (yes e) = rw e here
          at-word (no q) = get_or-set_other high at (64 * b + j) x 0 (λ e. q (omega arith)) ∙ s.written j d h

  -- the next of each 16 words
  pub written_more : (high : List ℕ) (n : ℕ) → WrittenTo b digits start high n → 64 * b + 64 ≤ length high → n < 16 → (x₀ x₁ x₂ x₃ : ℕ) → x₀ ≡ counted n digits
      → x₁ ≡ counted (16 + n) digits → x₂ ≡ counted (32 + n) digits → x₃ ≡ counted (48 + n) digits
      → WrittenTo b digits start (set (set (set (set high (64 * b + n) x₀) (64 * b + 16 + n) x₁) (64 * b + 32 + n) x₂) (64 * b + 48 + n) x₃) (n + 1)
  written_more high n s room h x₀ x₁ x₂ x₃ e₀ e₁ e₂ e₃ =
      let one = put high _ s n (64 * b + n) x₀ refl (omega arith) e₀ in
      let two = put _ _ one (16 + n) (64 * b + 16 + n) x₁ (omega arith) (omega (arith, one.same_long, s.same_long)) e₁ in
      let three = put _ _ two (32 + n) (64 * b + 32 + n) x₂ (omega arith) (omega (arith, two.same_long, s.same_long)) e₂ in
      let all = put _ _ three (48 + n) (64 * b + 48 + n) x₃ (omega arith) (omega (arith, three.same_long, s.same_long)) e₃ in
      record { same_long = all.same_long; written = λ j d l. all.written j d (which j d l); before = all.before }
    where
      which : (j : ℕ) → j < 64 → j % 16 < n + 1 → (j ≡ 48 + n) ⊎ ((j ≡ 32 + n) ⊎ ((j ≡ 16 + n) ⊎ ((j ≡ n) ⊎ (j % 16 < n))))
      which j d l = go (ℕ_discrete j (48 + n)) (ℕ_discrete j (32 + n)) (ℕ_discrete j (16 + n)) (ℕ_discrete j n)
        where
          go : Dec (j ≡ 48 + n) → Dec (j ≡ 32 + n) → Dec (j ≡ 16 + n) → Dec (j ≡ n) → (j ≡ 48 + n) ⊎ ((j ≡ 32 + n) ⊎ ((j ≡ 16 + n) ⊎ ((j ≡ n) ⊎ (j % 16 < n))))
          go (yes e) q r t = inl e
          go (no p) (yes e) r t = inr (inl e)
          go (no p) (no q) (yes e) t = inr (inr (inl e))
          go (no p) (no q) (no r) (yes e) = inr (inr (inr (inl e)))
          go (no p) (no q) (no r) (no t) = inr (inr (inr (inr (omega arith))))

-- ---- block after block

-- it is known how many gates are high in each word of the first b blocks
abbrev pub HighTo : Counts → List ℕ → List ℕ → ℕ → Type 0
HighTo c code high b = (w : ℕ) → w < 64 * b → get_or high w 0 ≡ gates_high (stage_in c code) w

high_more : (c : Counts) (code high : List ℕ) (b : ℕ) → HighTo c code high b → (high' : List ℕ) → ((w : ℕ) → w < 64 * b → get_or high' w 0 ≡ get_or high w 0)
    → ((j : ℕ) → j < 64 → get_or high' (64 * b + j) 0 ≡ gates_high (stage_in c code) (64 * b + j)) → HighTo c code high' (b + 1)
high_more c code high b s high' before block w h = go (dec_lt w (64 * b))
  where
    go : Dec (w < 64 * b) → get_or high' w 0 ≡ gates_high (stage_in c code) w
    go (yes l) = before w l ∙ s w l
    go (no l) = let e : 64 * b + (w - 64 * b) ≡ w = omega arith in rw e at (block (w - 64 * b) (omega arith))

-- what the blocks share, and what is known once the first b of them are counted
pub record BlocksTo (c : Counts) (code start high row : List ℕ) (b : ℕ) : Type 0 where
  pub same_long : length high ≡ length start
  pub row_long : length row ≡ row_size
  pub ground : get_or row (net_count c) 0 ≡ 0
  pub high_to : HighTo c code high b

pub blocks_start : (c : Counts) (code start : List ℕ) → Within stage_limits c → BlocksTo c code start start (replicate row_size 0) 0
blocks_start c code start within = record {
  same_long = refl;
  row_long = length-replicate {A = ℕ} row_size 0;
  ground = (low_row c within).ground;
  high_to = λ w h. absurd (omega arith);
}

-- one block more
pub blocks_more : (c : Counts) (code start high row : List ℕ) (b : ℕ) → BlocksTo c code start high row b → (high' row' digits : List ℕ)
    → net_count c < length row → length row' ≡ length row → Resting c code b row'
    → ((j : ℕ) → counted j digits ≡ sum (take c.gates (drop (2 * c.inputs) (lane_of j row'))))
    → (length high' ≡ length high) × ((j : ℕ) → j < 64 → get_or high' (64 * b + j) 0 ≡ counted j digits) × ((w : ℕ) → w < 64 * b → get_or high' w 0 ≡ get_or high w 0)
    → BlocksTo c code start high' row' (b + 1)
blocks_more c code start high row b s high' row' digits room long rest count written = record {
  same_long = written.0 ∙ s.same_long;
  row_long = long ∙ s.row_long;
  ground = rest.ground;
  high_to = high_more c code high b s.high_to high' written.2 (λ j d. written.1 j d ∙ count j ∙ block_high c code b row' (omega (arith, long)) rest j d);
}
