-- What opening a Ki finds is what stands behind it in the pipeline, where no loop of C-elements does.
-- Assumes nothing.
use Prim.Native.Nat.{ℕ, zero, suc, ◌+◌, ◌*◌, ◌-◌, ◌≤◌, ◌<◌}
use native.Mathlib.Omega.{arith}
use native.Mathlib.Decide.{dec_lt}
use mathlib.Core.Path.{◌≡◌, refl, sym, ap, ◌∙◌, subst}
use mathlib.Core.Bool.{Bool, true, false}
use mathlib.Core.Logic.{inl, inr}
use Rattle.std.specs.Prelude.{Option, None}
use mathlib.Core.List.{List, [], ◌∷◌}
use lib.ListN.{length, get_or, get_or-eq_default}
use borrow.Author.Tests.{lt-ltb, le-ltb}
use Rattle.verdict.specs.Paths.{In, Leads, here, onward}
use Rattle.lane_cells.specs.Lane.{lane}
use Rattle.wiring_spec.specs.Parts.{Pipeline, Driver, input, gate, rail, acknowledge, completion, nothing, driver_of, all_nets, ki_of}
use Rattle.wiring_spec.specs.Wiring.{openings, is_ko_of, behind}
use Rattle.wiring_spec.specs.Named.{carries_data}
use Rattle.wiring_spec.specs.Tables.{slot, RowOf, PartsLoaded}
use Rattle.wiring_spec.specs.Gathering.{Gathers}
use Rattle.wiring_spec.proofs.Nets.{never, eqb_sym, net_where, Stands, stands, open_inside}
use Rattle.wiring_spec.proofs.Rows.{by_row}
use Rattle.wiring_spec.proofs.Gathering.{gathers_lead}
use Rattle.circuit_place.specs.Placing.{place, four, Passed}
use Rattle.circuit_place.proofs.Order.{row_element, pin_four, four_pin, placed_of}
use Rattle.check_open.specs.declared.Behind.{Behind}
use Rattle.check_open.specs.Opening.{pins, own_ko, own_data, Told, Table}

data_not_ko : (t : ℕ) (d : Driver) → carries_data d ≡ true → is_ko_of t d ≡ false
unfolding carries_data is_ko_of
data_not_ko t input e = refl
data_not_ko t (gate pins) e = refl
data_not_ko t (rail k b) e = refl
data_not_ko t (acknowledge k) e = absurd (never e)
data_not_ko t (completion pins) e = refl
data_not_ko t nothing e = refl

-- a C-element that can be opened has a place
abbrev pub Opens : Pipeline → List ℕ → ℕ → ℕ → Type 0
Opens p nets first x = (v : ℕ) → In v (openings p x) → 0 < place nets first x

module _ (p : Pipeline) (first count : ℕ) (nets regs : List ℕ) (loaded : PartsLoaded p first count nets regs) (long : length nets ≡ 8 * count) where
  -- ---- a net by itself

  ko_is : (t x : ℕ) → own_ko nets first t x ≡ is_ko_of t (driver_of p x)
  unfolding own_ko is_ko_of
  ko_is t = by_row p first count nets regs loaded long (λ x d. own_ko nets first t x ≡ is_ko_of t d) (λ x d l st e. rw (lt-ltb x first l) (sym (data_not_ko t d e))) (λ x d l h st. row x d l) (λ x l h e. rw (le-ltb x first l, e))
    where
      row : (x : ℕ) (d : Driver) → first ≤ x → RowOf p nets (x - first) d → own_ko nets first t x ≡ is_ko_of t d
      row x input l r = absurd r
      row x (gate pins) l r = absurd r
      row x (rail k b) l r = rw (le-ltb x first l, r.0)
      row x (acknowledge k) l r = rw (le-ltb x first l, r.0, r.1) (eqb_sym t k)
      row x (completion pins) l r = rw (le-ltb x first l, r.0)
      row x nothing l r = absurd r

  data_is : (x : ℕ) → own_data nets first x ≡ carries_data (driver_of p x)
  unfolding own_data carries_data
  data_is = by_row p first count nets regs loaded long (λ x d. own_data nets first x ≡ carries_data d) (λ x d l st e. rw (lt-ltb x first l) (sym e)) (λ x d l h st. row x d l) (λ x l h e. rw (le-ltb x first l, e))
    where
      row : (x : ℕ) (d : Driver) → first ≤ x → RowOf p nets (x - first) d → own_data nets first x ≡ carries_data d
      row x input l r = absurd r
      row x (gate pins) l r = absurd r
      row x (rail k b) l r = rw (le-ltb x first l, r.0)
      row x (acknowledge k) l r = rw (le-ltb x first l, r.0)
      row x (completion pins) l r = rw (le-ltb x first l, r.0)
      row x nothing l r = absurd r

  -- ---- the order

  module _ (before : List ℕ) (placed : ℕ) (w : Passed before nets first count placed placed) where
    abbrev at : ℕ → ℕ
    at = place nets first

    at_slot : (x : ℕ) → first ≤ x → at x ≡ slot nets (x - first) 5
    unfolding place
    at_slot x h = rw (le-ltb x first h)

    at_before : (x : ℕ) → x < first → at x ≡ 0
    unfolding place
    at_before x h = rw (lt-ltb x first h)

    pins_of : (x : ℕ) → 0 < at x → pins nets first x ≡ four nets (8 * (x - first) + 1)
    unfolding pins
    pins_of x h = rw (lt-ltb 0 (at x) h)

    pins-none : (x : ℕ) → at x ≡ 0 → pins nets first x ≡ []
    unfolding pins
    pins-none x e = rw e

    -- a net with a place is a C-element's
    record AtPlace (x : ℕ) : Type 0 where
      low : first ≤ x
      top : x - first < count
      sort : slot nets (x - first) 0 ≡ 3

    has_place : (x : ℕ) → 0 < at x → AtPlace x
    has_place x h = go (dec_lt x first) (dec_lt (x - first) count)
      where
        go : Dec (x < first) → Dec (x - first < count) → AtPlace x
        go (yes l) m = absurd (omega (arith, at_before x l))
        go (no l) (yes m) = record { low = omega arith; top = m; sort = (w.placing.order (x - first) m (omega (arith, at_slot x (omega arith)))).sort }
        go (no l) (no m) = let e : slot nets (x - first) 5 ≡ 0 = get_or-eq_default nets 0 (omega arith) in absurd (omega (arith, at_slot x (omega arith)))

    step_place : (x y : ℕ) → In y (pins nets first x) → 0 < at x
    step_place x y i = go (at x) refl
      where
        go : (n : ℕ) → at x ≡ n → 0 < at x
        go zero e = absurd (subst (In y) (pins-none x e) i)
        go (suc n) e = omega arith

    -- the table, of which nothing is known yet
    pub table_of : (met : List (Option Behind)) → length met ≡ count → ((i : ℕ) → get_or met i None ≡ None) → Table nets first met
    table_of met a none = record {
      rows = long ∙ ap (λ (n : ℕ). 8 * n) (sym a);
      ko_in = λ i e. ko i e (dec_lt i count);
      others = λ i h. sort i h (dec_lt i count);
      falls = λ x y i.
          let h = step_place x y i in
          let q = has_place x h in
          omega (arith, at_slot x q.low, (w.placing.order (x - first) q.top (omega (arith, at_slot x q.low))).falls y (subst (In y) (pins_of x h) i));
      right = λ i b h. let q = sym (none i) ∙ h in cc;
    }
      where
        sort : (i : ℕ) → 0 < slot nets i 5 → Dec (i < count) → slot nets i 0 ≡ 3
        sort i h (yes l) = (w.placing.order i l h).sort
        sort i h (no l) = let e : slot nets i 5 ≡ 0 = get_or-eq_default nets 0 (omega arith) in absurd (omega arith)

        register_in : (i : ℕ) (d : Driver) (x : ℕ) → slot nets i 0 ≡ 2 → RowOf p nets i d → Stands p d x → slot nets i 6 < 64
        register_in i input x e r s = absurd r
        register_in i (gate pins) x e r s = absurd r
        register_in i (rail k b) x e r s = absurd (omega (arith, r.0))
        register_in i (acknowledge k) x e r s = omega (arith, r.1, s.0, loaded.few)
        register_in i (completion pins) x e r s = absurd (omega (arith, r.0))
        register_in i nothing x e r s = absurd r

        ko : (i : ℕ) → slot nets i 0 ≡ 2 → Dec (i < count) → slot nets i 6 < 64
        ko i e (yes l) = register_in i (driver_of p (first + i)) (first + i) e (loaded.row i l) (stands p (first + i))
        ko i e (no l) = let z : slot nets i 0 ≡ 0 = get_or-eq_default nets 0 (omega arith) in absurd (omega arith)

    -- ---- paths

    up : (y : ℕ) {x : ℕ} → Opens p nets first x → Leads (openings p) y x → Leads (pins nets first) y x
    up y o here = here
    up y o (onward {x = x} {z = z} i l) =
        let h = o z i in
        onward (subst (In z) (sym (pins_of x h)) (pin_four p first count nets regs loaded x z i))
        (up y (λ v j. ((placed_of p first count nets regs loaded before placed w).before x z v i j h).0) l)

    -- a path from a net, through numbers that may name none
    down : (y : ℕ) → y < all_nets p → {x : ℕ} → Leads (pins nets first) y x → Leads (openings p) y x
    down y h here = here
    down y h (onward {x = x} {z = z} i l) = go (dec_lt z (all_nets p)) (down y h l)
      where
        past : {z : ℕ} → all_nets p ≤ z → Leads (pins nets first) y z → ⊥
        past m here = omega arith
        past m (onward {x = u} {z = v} j q) = omega (arith, (has_place u (step_place u v j)).low, (has_place u (step_place u v j)).top, loaded.all_nets_holds)

        go : Dec (z < all_nets p) → Leads (openings p) y z → Leads (openings p) y x
        go (no m) q = absurd (past (omega arith) l)
        go (yes m) q =
            let e = step_place x z i in
            let a = has_place x e in
            let n : first + (x - first) ≡ x = omega (arith, a.low) in
            let d = subst (λ (u : ℕ). driver_of p u ≡ completion (openings p u)) n (row_element p first count nets regs loaded (x - first) a.top a.sort) in
            let r = subst (RowOf p nets (x - first)) (ap (driver_of p) n ∙ d) (loaded.row (x - first) a.top) in
            onward (four_pin p first count nets regs loaded x z (record { low = a.low; top = a.top; sort = a.sort; some_pin = r.1; few = r.2; pin = r.3 }) (subst (In z) (pins_of x e) i) m) q

    -- ---- what opening tells

    told_as : (own : ℕ → Bool) (goal : Driver → Bool) → ((x : ℕ) → own x ≡ goal (driver_of p x)) → ¬ (goal nothing ≡ true) → (k : ℕ) → Opens p nets first (ki_of p k) → (b : Bool)
        → Gathers (pins nets first) own (ki_of p k ∷ []) b → b ≡ behind p (λ x. goal (driver_of p x)) k
    unfolding behind
    told_as own goal same none k o b g =
        gathers_lead (openings p) (λ x. goal (driver_of p x)) (all_nets p) (open_inside p) net (ki_of p k ∷ []) b (record {
          sound = λ e. let r = g.sound e in let q = sym (same r.2) ∙ r.3 in (r.0, r.1, r.2, q, down r.2 (net r.2 q) r.4);
          complete = λ x y i e l. g.complete x y i (same y ∙ e) (up y (at_ki x i) l);
        })
      where
        net : (y : ℕ) → goal (driver_of p y) ≡ true → y < all_nets p
        net y e = net_where p y (λ d. goal d ≡ true) none e

        at_ki : (x : ℕ) → In x (ki_of p k ∷ []) → Opens p nets first x
        at_ki x (inl e) = subst (Opens p nets first) (sym e) o
        at_ki x (inr i) = absurd i

    module _ (k : ℕ) (o : Opens p nets first (ki_of p k)) (b : Behind) (told : Told nets first (ki_of p k) b) where
      pub kos_behind : (t : ℕ) → t < 64 → lane t b.kos ≡ behind p (λ x. is_ko_of t (driver_of p x)) k
      unfolding is_ko_of
      kos_behind t h = told_as (own_ko nets first t) (is_ko_of t) (ko_is t) never k o (lane t b.kos) (told.of_kos t h)

      pub other_behind : b.other ≡ behind p (λ x. carries_data (driver_of p x)) k
      unfolding carries_data
      other_behind = told_as (own_data nets first) carries_data data_is never k o b.other told.of_other
