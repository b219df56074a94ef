-- A topological order bars loops: what feeds a gate has an earlier place.
-- Assumes nothing.
use Prim.Native.Nat.{ℕ, ◌<◌}
use native.Mathlib.Omega.{arith}
use native.Mathlib.Decide.{dec_lt}
use mathlib.Core.Path.{◌≡◌, sym, ◌∙◌, subst}
use mathlib.Core.List.{List}
use lib.ListN.{length, get_or}
use Rattle.netlist.specs.Content.{Gate}
use Rattle.verdict.specs.Loops.{Feeds, LoopFree}
use Rattle.verdict.proofs.Reaching.{placed_free}
use Rattle.circuit.specs.Order.{TopologicalOrder}

module _ (n : ℕ) (gates : List Gate) (order : List ℕ) (t : TopologicalOrder n gates order) where
  place_by : (k : ℕ) → Dec (k < length gates) → ℕ
  place_by k (yes h) = (t.stands k h).0
  place_by k (no h) = 0

  place : ℕ → ℕ
  place k = place_by k (dec_lt k (length gates))

  at_place : (k : ℕ) → k < length gates → (place k < length gates) × (get_or order (place k) 0 ≡ k)
  unfolding place place_by
  at_place k h = go (dec_lt k (length gates))
    where
      go : (d : Dec (k < length gates)) → (place_by k d < length gates) × (get_or order (place_by k d) 0 ≡ k)
      go (yes l) = let s = t.stands k l in (s.1, s.2)
      go (no l) = absurd (l h)

  before : (j k : ℕ) → j < length gates → k < length gates → Feeds n gates j k → place j < place k
  before j k hj hk f =
      let a = at_place j hj in
      let b = at_place k hk in
      let s = t.earlier (place k) j b.0 hj (subst (Feeds n gates j) (sym b.1) f) in
      omega (arith, s.1, t.once s.0 (place j) (omega (arith, s.1, b.0)) a.0 (s.2 ∙ sym a.1))

  pub order_no_loop : LoopFree n gates
  order_no_loop = placed_free n gates place before
