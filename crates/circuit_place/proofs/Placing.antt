-- Placing the C-elements: a net waits or does not, a place taken, a pass, and passes.
-- Assumes nothing.
use Prim.Native.Nat.{ℕ, ◌+◌, ◌*◌, ◌-◌, ◌≤◌, ◌<◌}
use native.Mathlib.Omega.{arith}
use native.Mathlib.Decide.{ℕ_discrete}
use mathlib.Core.Path.{◌≡◌, refl, sym, ap, ◌∙◌, subst}
use mathlib.Core.Bool.{Bool, true, false, cond, not, ◌&&◌}
use mathlib.Core.List.{List}
use lib.ListN.{length, get_or, set, length-set}
use lib.Seq.{get_or-set_same, get_or-set_other}
use lib.Dec.{eqb, leb, ltb}
use borrow.Author.Tests.{lt-ltb, le-ltb, lt-leb, leb-false, ltb-true, ltb-false, eq-eqb, eqb-true, not-true}
use Rattle.verdict.specs.Paths.{In}
use Rattle.verdict.proofs.Steps.{some_in}
use Rattle.verdict.specs.Lists.{some}
use Rattle.wiring_spec.proofs.Counting.{passing_bound, fewer}
use Rattle.wiring_spec.specs.Tables.{slot}
use Rattle.circuit_place.specs.Placing.{place, waiting, four, InOrder, Placing, Stuck, Passed}

pub never : false ≡ true → ⊥
never e = let z : ◌≡◌ {A = ℕ} 0 1 = cc in omega arith

-- ---- waiting

module _ (code : List ℕ) (first count x : ℕ) where
  module _ (h : first ≤ x) (l : x - first < count) where
    pub waits_at : waiting code first count x ≡ (eqb (slot code (x - first) 0) 3 && eqb (slot code (x - first) 5) 0)
    unfolding waiting
    waits_at = rw (le-ltb x first h, lt-leb count (x - first) l)

  -- a net that waits is a C-element without a place
  pub record Waits : Type 0 where
    pub low : first ≤ x
    pub top : x - first < count
    pub sort : slot code (x - first) 0 ≡ 3
    pub place_none : slot code (x - first) 5 ≡ 0

  pub waits_out : waiting code first count x ≡ true → Waits
  unfolding waiting
  waits_out e = go (ltb x first) refl (leb count (x - first)) refl e
    where
      go : (a : Bool) → ltb x first ≡ a → (b : Bool) → leb count (x - first) ≡ b → cond a false (cond b false (eqb (slot code (x - first) 0) 3 && eqb (slot code (x - first) 5) 0)) ≡ true → Waits
      go true p b q e = absurd (never e)
      go false p true q e = absurd (never e)
      go false p false q e = record {
        low = omega (arith, ltb-false x first p);
        top = omega (arith, leb-false count (x - first) q);
        sort = eqb-true (slot code (x - first) 0) 3 (left (eqb (slot code (x - first) 0) 3) (eqb (slot code (x - first) 5) 0) e);
        place_none = eqb-true (slot code (x - first) 5) 0 (right (eqb (slot code (x - first) 0) 3) (eqb (slot code (x - first) 5) 0) e);
      }
        where
          left : (a b : Bool) → (a && b) ≡ true → a ≡ true
          left true b e = refl
          left false b e = e

          right : (a b : Bool) → (a && b) ≡ true → b ≡ true
          right true b e = e
          right false b e = absurd (never e)

  pub waits_in : Waits → waiting code first count x ≡ true
  waits_in w = waits_at w.low w.top ∙ both (eqb (slot code (x - first) 0) 3) (eqb (slot code (x - first) 5) 0) (eq-eqb (slot code (x - first) 0) 3 w.sort) (eq-eqb (slot code (x - first) 5) 0 w.place_none)
    where
      both : (a b : Bool) → a ≡ true → b ≡ true → (a && b) ≡ true
      both true b e f = f
      both false b e f = absurd (never e)

-- ---- pins

any_in : (test : ℕ → Bool) (xs : List ℕ) → some test xs ≡ false → (y : ℕ) → In y xs → test y ≡ false
any_in test xs e y i = go (test y) refl
  where
    go : (b : Bool) → test y ≡ b → test y ≡ false
    go true q = absurd (never (sym e ∙ some_in test xs y i q))
    go false q = q

-- ---- a place is taken

module _
    (code₀ code : List ℕ)
    (first count placed i : ℕ)
    (w : Placing code₀ code first count placed)
    (hi : i < count)
    (ready : (waiting code first count (first + i) && not (some (waiting code first count) (four code (8 * i + 1)))) ≡ true)
  where
    abbrev code' : List ℕ
    code' = set code (8 * i + 5) (placed + 1)

    waits_here : waiting code first count (first + i) ≡ true
    waits_here = left (waiting code first count (first + i)) (not (some (waiting code first count) (four code (8 * i + 1)))) ready
      where
        left : (a b : Bool) → (a && b) ≡ true → a ≡ true
        left true b e = refl
        left false b e = e

    none_at : some (waiting code first count) (four code (8 * i + 1)) ≡ false
    none_at = not-true (some (waiting code first count) (four code (8 * i + 1))) (right (waiting code first count (first + i)) (not (some (waiting code first count) (four code (8 * i + 1)))) ready)
      where
        right : (a b : Bool) → (a && b) ≡ true → b ≡ true
        right true b e = e
        right false b e = absurd (never e)

    minus : first + i - first ≡ i
    minus = omega arith

    here : Waits code first count (first + i)
    here = waits_out code first count (first + i) waits_here

    here_sort : slot code i 0 ≡ 3
    here_sort = ap (λ (k : ℕ). slot code k 0) (sym minus) ∙ here.sort

    here_none : slot code i 5 ≡ 0
    here_none = ap (λ (k : ℕ). slot code k 5) (sym minus) ∙ here.place_none

    other : (k j : ℕ) → j < 8 → (j ≡ 5 → k ≡ i → ⊥) → slot code' k j ≡ slot code k j
    other k j h d = get_or-set_other code (8 * i + 5) (8 * k + j) (placed + 1) 0 (λ e. d (omega arith) (omega arith))

    own : slot code' i 5 ≡ placed + 1
    own = get_or-set_same code (8 * i + 5) (placed + 1) 0 (omega (arith, w.long))

    -- the place of a net that did not wait stays
    place_same : (y : ℕ) → waiting code first count y ≡ false → place code' first y ≡ place code first y
    unfolding place
    place_same y e = go (ltb y first) refl
      where
        go : (b : Bool) → ltb y first ≡ b → cond b 0 (get_or code' (8 * (y - first) + 5) 0) ≡ cond b 0 (get_or code (8 * (y - first) + 5) 0)
        go true q = refl
        go false q = other (y - first) 5 (omega arith) (λ f g. never (sym e ∙ ap (waiting code first count) (from g) ∙ waits_here))
          where
            from : y - first ≡ i → y ≡ first + i
            from g = omega (arith, ltb-false y first q)

    -- what waits then waited before
    still : (y : ℕ) → waiting code first count y ≡ false → waiting code' first count y ≡ false
    still y e = go (waiting code' first count y) refl
      where
        go : (b : Bool) → waiting code' first count y ≡ b → waiting code' first count y ≡ false
        go false q = q
        go true q = absurd (never (sym e ∙ waits_in code first count y (record { low = v.low; top = v.top; sort = sym (other (y - first) 0 (omega arith) (λ f. absurd (omega arith))) ∙ v.sort; place_none = at (ℕ_discrete (y - first) i) })))
          where
            v : Waits code' first count y
            v = waits_out code' first count y q

            at : Dec (y - first ≡ i) → slot code (y - first) 5 ≡ 0
            at (yes g) = ap (λ (k : ℕ). slot code k 5) g ∙ here_none
            at (no g) = sym (other (y - first) 5 (omega arith) (λ f. g)) ∙ v.place_none

    pins-same : (k : ℕ) → four code' (8 * k + 1) ≡ four code (8 * k + 1)
    pins-same k =
        let a : 8 * k + 1 + 1 ≡ 8 * k + 2 = omega arith in
        let b : 8 * k + 1 + 2 ≡ 8 * k + 3 = omega arith in
        let c : 8 * k + 1 + 3 ≡ 8 * k + 4 = omega arith in
        rw (a, b, c, other k 1 (omega arith) (λ f. absurd (omega arith)), other k 2 (omega arith) (λ f. absurd (omega arith)), other k 3 (omega arith) (λ f. absurd (omega arith)), other k 4 (omega arith) (λ f. absurd (omega arith)))

    below : (y : ℕ) → place code first y ≤ placed
    unfolding place
    below y = go (ltb y first)
      where
        go : (b : Bool) → cond b 0 (get_or code (8 * (y - first) + 5) 0) ≤ placed
        go true = omega arith
        go false = w.top (y - first)

    in_order : (k : ℕ) → k < count → 0 < slot code' k 5 → Dec (k ≡ i) → InOrder code' first count k
    in_order k h g (yes e) = subst (InOrder code' first count) (sym e) (record {
      sort = other i 0 (omega arith) (λ f. absurd (omega arith)) ∙ here_sort;
      done = λ y n. still y (any_in (waiting code first count) (four code (8 * i + 1)) none_at y (subst (In y) (pins-same i) n));
      falls = λ y n. let f = any_in (waiting code first count) (four code (8 * i + 1)) none_at y (subst (In y) (pins-same i) n) in omega (arith, place_same y f, below y, own);
    })
    in_order k h g (no d) =
        let s = other k 5 (omega arith) (λ f. d) in
        let o = w.order k h (omega (arith, s)) in
        record {
          sort = other k 0 (omega arith) (λ f. absurd (omega arith)) ∙ o.sort;
          done = λ y n. still y (o.done y (subst (In y) (pins-same k) n));
          falls = λ y n. let m = subst (In y) (pins-same k) n in omega (arith, place_same y (o.done y m), o.falls y m, s);
        }

    pub place_one : Placing code₀ code' first count (placed + 1)
    place_one = record {
      long = length-set code (8 * i + 5) (placed + 1) ∙ w.long;
      kept = λ k j h d. other k j h (λ f. absurd (d f)) ∙ w.kept k j h d;
      few = omega (arith, w.few, fewer (λ k. ltb 0 (slot code k 5)) (λ k. ltb 0 (slot code' k 5)) count i more hi (lt-ltb 0 (slot code' i 5) (omega (arith, own))) (λ e. omega (arith, ltb-true 0 (slot code i 5) e, here_none)));
      top = λ k. top k (ℕ_discrete k i);
      order = λ k h g. in_order k h g (ℕ_discrete k i);
    }
      where
        more : (k : ℕ) → ltb 0 (slot code k 5) ≡ true → ltb 0 (slot code' k 5) ≡ true
        more k e = at (ℕ_discrete k i)
          where
            at : Dec (k ≡ i) → ltb 0 (slot code' k 5) ≡ true
            at (yes q) = lt-ltb 0 (slot code' k 5) (omega (arith, ap (λ (n : ℕ). slot code' n 5) q, own))
            at (no d) = ap (λ (n : ℕ). ltb 0 n) (other k 5 (omega arith) (λ f. d)) ∙ e

        top : (k : ℕ) → Dec (k ≡ i) → slot code' k 5 ≤ placed + 1
        top k (yes q) = omega (arith, ap (λ (n : ℕ). slot code' n 5) q, own)
        top k (no d) = omega (arith, other k 5 (omega arith) (λ f. d), w.top k)

-- there are no more places than C-elements
pub placed_bound : (code₀ code : List ℕ) (first count placed : ℕ) → Placing code₀ code first count placed → placed ≤ count
placed_bound code₀ code first count placed w = omega (arith, w.few, passing_bound (λ k. ltb 0 (slot code k 5)) count)

-- ---- a pass

-- the first i nets after the gates have had their turn
pub record Turned (code₀ code : List ℕ) (first count taken placed i : ℕ) : Type 0 where
  pub placing : Placing code₀ code first count placed
  pub more : taken ≤ placed
  pub none : placed ≡ taken → Stuck code first count i

module _ (code₀ code : List ℕ) (first count taken placed i : ℕ) (t : Turned code₀ code first count taken placed i) (hi : i < count) where
  pub turn_ready : (waiting code first count (first + i) && not (some (waiting code first count) (four code (8 * i + 1)))) ≡ true → Turned code₀ (set code (8 * i + 5) (placed + 1)) first count taken (placed + 1) (i + 1)
  turn_ready e = record { placing = place_one code₀ code first count placed i t.placing hi e; more = omega (arith, t.more); none = λ q. absurd (omega (arith, t.more)) }

  pub turn_not : (waiting code first count (first + i) && not (some (waiting code first count) (four code (8 * i + 1)))) ≡ false → Turned code₀ code first count taken placed (i + 1)
  turn_not e = record { placing = t.placing; more = t.more; none = λ q k h. at q k h (ℕ_discrete k i) }
    where
      stuck : (w a : Bool) → (w && not a) ≡ false → w ≡ true → a ≡ true
      stuck true true e f = refl
      stuck true false e f = absurd (never (sym e))
      stuck false a e f = absurd (never f)

      at : placed ≡ taken → (k : ℕ) → k < i + 1 → Dec (k ≡ i) → waiting code first count (first + k) ≡ true → some (waiting code first count) (four code (8 * k + 1)) ≡ true
      at q k h (yes p) = subst (λ (k : ℕ). waiting code first count (first + k) ≡ true → some (waiting code first count) (four code (8 * k + 1)) ≡ true) (sym p) (stuck (waiting code first count (first + i)) (some (waiting code first count) (four code (8 * i + 1))) e)
      at q k h (no d) = t.none q k (omega arith)

pub turn_first : (code : List ℕ) (first count taken : ℕ) → Placing code code first count taken → Turned code code first count taken taken 0
turn_first code first count taken w = record { placing = w; more = omega arith; none = λ q k h. absurd (omega arith) }

pub turn_last : (code₀ code : List ℕ) (first count taken placed i : ℕ) → Turned code₀ code first count taken placed i → count ≤ i → Passed code₀ code first count taken placed
turn_last code₀ code first count taken placed i t h = record { placing = t.placing; more = t.more; none = λ q k l. t.none q k (omega arith) }

-- ---- passes

pub placing_anew : (code₀ code : List ℕ) (first count placed : ℕ) → Placing code₀ code first count placed → Placing code code first count placed
placing_anew code₀ code first count placed w = record { long = w.long; kept = λ i j h d. refl; few = w.few; top = w.top; order = w.order }

pub placing_on : (code₀ code more : List ℕ) (first count placed placed' : ℕ) → Placing code₀ code first count placed → Placing code more first count placed' → Placing code₀ more first count placed'
placing_on code₀ code more first count placed placed' w v = record { long = v.long; kept = λ i j h d. v.kept i j h d ∙ w.kept i j h d; few = v.few; top = v.top; order = v.order }

pub passed_end : (code₀ code code' : List ℕ) (first count placed more : ℕ) → Placing code₀ code first count placed → Passed code code' first count placed more → more ≡ placed → Passed code₀ code' first count placed placed
passed_end code₀ code code' first count placed more w v e = record {
  placing = subst (Placing code₀ code' first count) e (placing_on code₀ code code' first count placed more w v.placing);
  more = omega arith;
  none = λ q. v.none e;
}

-- a turn, with the numbers and the count as the code has them after it
module _ (code₀ code : List ℕ) (first count taken placed i : ℕ) (t : Turned code₀ code first count taken placed i) (hi : i < count) (same : length code ≡ length code₀) (code' : List ℕ) (placed' : ℕ) (r : Bool) (is : r ≡ (waiting code first count (first + i) && not (some (waiting code first count) (four code (8 * i + 1))))) where
  pub turn_place : r ≡ true → code' ≡ set code (8 * i + 5) (placed + 1) → placed' ≡ placed + 1 → (length code' ≡ length code₀) × Turned code₀ code' first count taken placed' (i + 1)
  turn_place e a b = rw (a, b) (length-set code (8 * i + 5) (placed + 1) ∙ same, turn_ready code₀ code first count taken placed i t hi (sym is ∙ e))

  pub turn_skip : r ≡ false → code' ≡ code → placed' ≡ placed → (length code' ≡ length code₀) × Turned code₀ code' first count taken placed' (i + 1)
  turn_skip e a b = rw (a, b) (same, turn_not code₀ code first count taken placed i t hi (sym is ∙ e))

  pub turn_room : r ≡ true → placed + 1 ≤ count
  turn_room e = placed_bound code₀ (set code (8 * i + 5) (placed + 1)) first count (placed + 1) (turn_ready code₀ code first count taken placed i t hi (sym is ∙ e)).placing
