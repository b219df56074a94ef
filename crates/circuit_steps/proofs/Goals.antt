-- The rails of a word in a flat row. Assumes nothing.
use Prim.Native.Nat.{ℕ, zero, suc, ◌+◌, ◌*◌, ◌/◌, ◌≤◌, ◌<◌}
use native.Mathlib.Omega.{arith}
use native.Mathlib.Decide.{ℕ_discrete}
use mathlib.Core.Path.{◌≡◌, refl, sym, ap, ◌∙◌, fun_ext}
use mathlib.Core.Logic.{◌⊎◌, inl, inr}
use mathlib.Core.List.{List, []}
use lib.ListN.{get_or, take, set, replicate, length-set}
use lib.Seq.{get_or-take, get_or-set_same, get_or-set_other}
use lib.Dec.{ltb}
use Rattle.runs.specs.Row.{low}
use Rattle.netlist.specs.declared.Counts.{Counts}
use Rattle.verdict.specs.Words.{bits_of, rails_of}
use Rattle.check_spec.specs.Content.{Content}
use Rattle.check_spec.specs.Words.{rails_for}
use Rattle.check_spec.proofs.Alike.{rails_alike}
use Rattle.circuit.specs.Stage.{net_count}
use Rattle.circuit.specs.Rows.{row_size, RowFor, rail_part}
use Rattle.circuit.proofs.Pins.{nets_at}
use Rattle.circuit.proofs.Settling.{row_set}
use Rattle.circuit_steps.specs.Moves.{row_in}

-- a row of zeros is all low
pub low_levels : (c : Counts) → row_in c (replicate row_size 0) ≡ low
low_levels c = fun_ext (λ k. ap (λ (x : ℕ). ltb 0 x) (zeros (net_count c) row_size k))
  where
    zeros : (m n k : ℕ) → get_or {A = ℕ} (take m (replicate n 0)) k 0 ≡ 0
    zeros zero n k = refl
    zeros (suc m) zero k = refl
    zeros (suc m) (suc n) zero = refl
    zeros (suc m) (suc n) (suc k) = zeros m n k

module _ (c : Counts) (row : List ℕ) (ro : RowFor c row) where
  pub level_in : (k : ℕ) → k < net_count c → row_in c row k ≡ ltb 0 (get_or row k 0)
  level_in k h = ap (λ (x : ℕ). ltb 0 x) (nets_at c row ro k (omega arith))

  -- the rails that spell a word
  pub spelt : (w : ℕ) → rail_part c row ≡ rails_of (bits_of c.inputs w) → (k : ℕ) → k < 2 * c.inputs → row_in c row k ≡ rails_for w k
  spelt w e k h =
      let s : Content = record { inputs = c.inputs; gates = []; outputs = []; care = []; parts = [] } in
      level_in k (omega arith)
      ∙ ap (λ (x : ℕ). ltb 0 x) (sym (get_or-take (2 * c.inputs) row k 0 h) ∙ ap (λ (l : List ℕ). get_or l k 0) e)
      ∙ rails_alike s w k h

  -- ---- the two rails of an input are set

  module _ (i x y : ℕ) (input : i < c.inputs) (lx : x ≤ 1) (ly : y ≤ 1) where
    abbrev one : List ℕ
    one = set row (2 * i) x

    abbrev both : List ℕ
    both = set one (2 * i + 1) y

    one_row : RowFor c one
    one_row = row_set c row ro (2 * i) x (omega arith) lx

    pub pair_row : RowFor c both
    pair_row = row_set c one one_row (2 * i + 1) y (omega arith) ly

    abbrev PairAt : ℕ → Type 0
    PairAt k = ((k ≡ 2 * i) × (get_or both k 0 ≡ x)) ⊎ ((k ≡ 2 * i + 1) × (get_or both k 0 ≡ y)) ⊎ ((¬ (k / 2 ≡ i)) × (get_or both k 0 ≡ get_or row k 0))

    pub pair_at_holds : (k : ℕ) → PairAt k
    pair_at_holds k = go (ℕ_discrete k (2 * i)) (ℕ_discrete k (2 * i + 1))
      where
        go : Dec (k ≡ 2 * i) → Dec (k ≡ 2 * i + 1) → PairAt k
        go (yes p) d = inl (p, get_or-set_other one (2 * i + 1) k y 0 (λ q. omega arith) ∙ ap (λ (j : ℕ). get_or one j 0) p ∙ get_or-set_same row (2 * i) x 0 (omega (arith, ro.long)))
        go (no p) (yes q) = inr (inl (q, ap (λ (j : ℕ). get_or both j 0) q ∙ get_or-set_same one (2 * i + 1) y 0 (omega (arith, ro.long, length-set row (2 * i) x))))
        go (no p) (no q) = inr (inr ((λ e. omega arith), get_or-set_other one (2 * i + 1) k y 0 q ∙ get_or-set_other row (2 * i) k x 0 p))
