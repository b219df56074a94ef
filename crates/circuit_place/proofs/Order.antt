-- What placing is worth in a pipeline whose tables are loaded.
-- Assumes nothing.
use Prim.Native.Nat.{ℕ, zero, suc, ◌+◌, ◌*◌, ◌-◌, ◌≤◌, ◌<◌}
use native.Mathlib.Omega.{arith}
use native.Mathlib.Decide.{dec_lt}
use mathlib.Core.Path.{◌≡◌, refl, sym, ap, ◌∙◌, subst}
use mathlib.Core.Bool.{true}
use mathlib.Core.Logic.{inl, inr}
use mathlib.Core.List.{List, [], ◌∷◌}
use lib.ListN.{length, get_or, get_or-eq_default}
use borrow.Author.Tests.{le-ltb}
use Rattle.netlist.specs.Bytes.{absent}
use Rattle.verdict.specs.Paths.{In}
use Rattle.verdict.proofs.Steps.{some_out}
use Rattle.wiring_spec.specs.Parts.{Pipeline, Driver, input, gate, rail, acknowledge, completion, nothing, driver_of, all_nets}
use Rattle.wiring_spec.specs.Wiring.{opened, openings}
use Rattle.wiring_spec.specs.Tables.{slot, RowOf, PartsLoaded}
use Rattle.wiring_spec.proofs.Nets.{open_inside, open_late, opened_element}
use Rattle.circuit_place.specs.Placing.{place, waiting, four, InOrder, Passed, Placed}
use Rattle.circuit_place.proofs.Placing.{never, waits_out, waits_in}

-- the four numbers of a row, one by one
pub in_four : (code : List ℕ) (i j v : ℕ) → j < 4 → slot code i (1 + j) ≡ v → In v (four code (8 * i + 1))
in_four code i j v h e = go j h e
  where
    go : (j : ℕ) → j < 4 → slot code i (1 + j) ≡ v → In v (four code (8 * i + 1))
    go zero h e = inl (sym e)
    go (suc zero) h e = let z : 8 * i + (1 + 1) ≡ 8 * i + 1 + 1 = omega arith in inr (inl (sym e ∙ ap (λ (k : ℕ). get_or code k 0) z))
    go (suc (suc zero)) h e = let z : 8 * i + (1 + 2) ≡ 8 * i + 1 + 2 = omega arith in inr (inr (inl (sym e ∙ ap (λ (k : ℕ). get_or code k 0) z)))
    go (suc (suc (suc zero))) h e = let z : 8 * i + (1 + 3) ≡ 8 * i + 1 + 3 = omega arith in inr (inr (inr (inl (sym e ∙ ap (λ (k : ℕ). get_or code k 0) z))))
    go (suc (suc (suc (suc j)))) h e = absurd (omega arith)

pub four_in : (code : List ℕ) (i v : ℕ) → In v (four code (8 * i + 1)) → (j : ℕ) × (j < 4) × (slot code i (1 + j) ≡ v)
four_in code i v (inl e) = (0, omega arith, sym e)
four_in code i v (inr (inl e)) = let z : 8 * i + (1 + 1) ≡ 8 * i + 1 + 1 = omega arith in (1, omega arith, ap (λ (k : ℕ). get_or code k 0) z ∙ sym e)
four_in code i v (inr (inr (inl e))) = let z : 8 * i + (1 + 2) ≡ 8 * i + 1 + 2 = omega arith in (2, omega arith, ap (λ (k : ℕ). get_or code k 0) z ∙ sym e)
four_in code i v (inr (inr (inr (inl e)))) = let z : 8 * i + (1 + 3) ≡ 8 * i + 1 + 3 = omega arith in (3, omega arith, ap (λ (k : ℕ). get_or code k 0) z ∙ sym e)
four_in code i v (inr (inr (inr (inr h)))) = absurd h

index_of : (xs : List ℕ) (v d : ℕ) → In v xs → (j : ℕ) × (j < length xs) × (get_or xs j d ≡ v)
index_of [] v d i = absurd i
index_of (x ∷ xs) v d (inl e) = (0, omega arith, sym e)
index_of (x ∷ xs) v d (inr i) = let r = index_of xs v d i in (suc r.0, omega (arith, r.1), r.2)

at-index : (xs : List ℕ) (j d : ℕ) → j < length xs → In (get_or xs j d) xs
at-index [] j d h = absurd (omega arith)
at-index (x ∷ xs) zero d h = inl refl
at-index (x ∷ xs) (suc j) d h = inr (at-index xs j d (omega arith))

module _ (p : Pipeline) (first count : ℕ) (nets regs : List ℕ) (loaded : PartsLoaded p first count nets regs) where
  -- a net that is opened has the row of a C-element, ..
  pub record ElementRow (x : ℕ) : Type 0 where
    pub low : first ≤ x
    pub top : x - first < count
    pub sort : slot nets (x - first) 0 ≡ 3
    pub some_pin : 1 ≤ length (openings p x)
    pub few : length (openings p x) ≤ 4
    pub pin : (j : ℕ) → j < 4 → slot nets (x - first) (1 + j) ≡ get_or (openings p x) j absent

  pub element_row_holds : (x v : ℕ) → In v (openings p x) → ElementRow x
  element_row_holds x v i =
      let low : first ≤ x = omega (arith, open_late p x v i, loaded.first-is) in
      let top : x - first < count = omega (arith, open_inside p x v i, loaded.all_nets_holds) in
      let z : first + (x - first) ≡ x = omega arith in
      let r = subst (RowOf p nets (x - first)) (ap (driver_of p) z ∙ opened_element (driver_of p x) v i) (loaded.row (x - first) top) in
      record { low = low; top = top; sort = r.0; some_pin = r.1; few = r.2; pin = r.3 }

  -- .. and what has such a row is opened
  pub row_element : (i : ℕ) → i < count → slot nets i 0 ≡ 3 → driver_of p (first + i) ≡ completion (openings p (first + i))
  unfolding opened
  row_element i h e = go (driver_of p (first + i)) (loaded.row i h)
    where
      go : (d : Driver) → RowOf p nets i d → d ≡ completion (opened d)
      go input r = absurd r
      go (gate pins) r = absurd r
      go (rail k b) r = absurd (omega (arith, e, r.0))
      go (acknowledge k) r = absurd (omega (arith, e, r.0))
      go (completion pins) r = refl
      go nothing r = absurd r

  -- a C-element's pins are those four numbers that name nets
  pub pin_four : (x v : ℕ) → In v (openings p x) → In v (four nets (8 * (x - first) + 1))
  pin_four x v i =
      let r = element_row_holds x v i in
      let at = index_of (openings p x) v absent i in
      in_four nets (x - first) at.0 v (omega (arith, at.1, r.few)) (r.pin at.0 (omega (arith, at.1, r.few)) ∙ at.2)

  pub four_pin : (x v : ℕ) → ElementRow x → In v (four nets (8 * (x - first) + 1)) → v < all_nets p → In v (openings p x)
  four_pin x v r i h =
      let at = four_in nets (x - first) v i in
      let e = sym (r.pin at.0 at.1) ∙ at.2 in
      go at.0 e (dec_lt at.0 (length (openings p x)))
    where
      go : (j : ℕ) → get_or (openings p x) j absent ≡ v → Dec (j < length (openings p x)) → In v (openings p x)
      go j e (yes l) = subst (λ (y : ℕ). In y (openings p x)) e (at-index (openings p x) j absent l)
      go j e (no l) = absurd (omega (arith, loaded.named.few, sym e ∙ get_or-eq_default (openings p x) absent (omega arith)))

  module _ (before : List ℕ) (placed : ℕ) (w : Passed before nets first count placed placed) where
    place-slot : (x : ℕ) → first ≤ x → place nets first x ≡ slot nets (x - first) 5
    unfolding place
    place-slot x h = rw (le-ltb x first h)

    -- a C-element without a place waits
    pub waits : (x v : ℕ) → In v (openings p x) → place nets first x ≡ 0 → waiting nets first count x ≡ true
    waits x v i e = let r = element_row_holds x v i in waits_in nets first count x (record { low = r.low; top = r.top; sort = r.sort; place_none = sym (place-slot x r.low) ∙ e })

    -- and what waits is one
    pub waits_opened : (x : ℕ) → waiting nets first count x ≡ true → (v : ℕ) × In v (openings p x) × (place nets first x ≡ 0)
    waits_opened x e =
        let v = waits_out nets first count x e in
        let z : first + (x - first) ≡ x = omega (arith, v.low) in
        let d = subst (λ (y : ℕ). driver_of p y ≡ completion (openings p y)) z (row_element (x - first) v.top v.sort) in
        let r = subst (RowOf p nets (x - first)) (ap (driver_of p) z ∙ d) (loaded.row (x - first) v.top) in
        (get_or (openings p x) 0 0, at-index (openings p x) 0 0 r.1, place-slot x v.low ∙ v.place_none)

    in_order : (x v : ℕ) → In v (openings p x) → 0 < place nets first x → InOrder nets first count (x - first)
    in_order x v i h = let r = element_row_holds x v i in w.placing.order (x - first) r.top (omega (arith, place-slot x r.low))

    pub placed_of : Placed p nets first
    placed_of = record {
      before = λ x v u i j h.
          let o = in_order x v i h in
          let r = element_row_holds x v i in
          let f = pin_four x v i in (
            positive (place nets first v) (λ e. never (sym (o.done v f) ∙ waits v u j e)),
            omega (arith, o.falls v f, place-slot x r.low),
          );
      stuck = λ x u i e.
          let r = element_row_holds x u i in
          let z : first + (x - first) ≡ x = omega (arith, r.low) in
          let s = some_out (waiting nets first count) (four nets (8 * (x - first) + 1)) (w.none refl (x - first) r.top (ap (waiting nets first count) z ∙ waits x u i e)) in
          let t = waits_opened s.0 s.2 in
          (s.0, t.0, four_pin x s.0 r s.1 (open_inside p s.0 t.0 t.1), t.1, t.2);
    }
      where
        positive : (k : ℕ) → ¬ (k ≡ 0) → 0 < k
        positive zero d = absurd (d refl)
        positive (suc k) d = omega arith

-- placing leaves the rows as they were but for the places
pub parts_placed : (p : Pipeline) (first count : ℕ) (nets after regs : List ℕ) → ((i j : ℕ) → j < 8 → ¬ (j ≡ 5) → slot after i j ≡ slot nets i j)
    → PartsLoaded p first count nets regs → PartsLoaded p first count after regs
parts_placed p first count nets after regs kept loaded = record {
  first-is = loaded.first-is;
  all_nets_holds = loaded.all_nets_holds;
  few = loaded.few;
  row = λ i h. same i (driver_of p (first + i)) (loaded.row i h);
  register_row = loaded.register_row;
  named = loaded.named;
}
  where
    same : (i : ℕ) (d : Driver) → RowOf p nets i d → RowOf p after i d
    same i input r = r
    same i (gate pins) r = r
    same i (rail k b) r = (kept i 0 (omega arith) (λ e. omega arith) ∙ r.0, kept i 1 (omega arith) (λ e. omega arith) ∙ r.1, kept i 6 (omega arith) (λ e. omega arith) ∙ r.2)
    same i (acknowledge k) r = (kept i 0 (omega arith) (λ e. omega arith) ∙ r.0, kept i 6 (omega arith) (λ e. omega arith) ∙ r.1)
    same i (completion pins) r =
        (kept i 0 (omega arith) (λ e. omega arith) ∙ r.0, r.1, r.2, λ j h. kept i (1 + j) (omega arith) (λ e. omega arith) ∙ r.3 j h)
    same i nothing r = r
