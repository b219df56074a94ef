-- Opening a net: one of another sort, a C-element that is known, and one whose pins are opened one after the other.
-- Assumes nothing.
use Prim.Native.Nat.{ℕ, zero, suc, ◌+◌, ◌*◌, ◌-◌, ◌≤◌, ◌<◌}
use native.Mathlib.Omega.{arith}
use native.Mathlib.Decide.{ℕ_discrete, dec_lt}
use mathlib.Core.Path.{◌≡◌, refl, sym, ap, ◌∙◌, subst}
use mathlib.Core.Bool.{Bool, true, false, ◌||◌}
use mathlib.Core.Logic.{inl, inr}
use mathlib.Core.List.{List, [], ◌∷◌}
use lib.ListN.{length, get_or, set, drop, length-set, get_or-eq_default}
use lib.Seq.{get_or-set_same, get_or-set_other}
use Rattle.std.specs.Prelude.{Option, Some, None}
use lib.Bits.{bit_or}
use borrow.Author.Tests.{lt-ltb, le-ltb}
use Rattle.lane_cells.specs.Lane.{lane}
use Rattle.lane_cells.proofs.Lane.{lane_zero, lane_or}
use Rattle.wiring_spec.specs.Tables.{slot}
use Rattle.wiring_spec.specs.Gathering.{Gathers}
use Rattle.wiring_spec.proofs.Gathering.{gathers_none, gathers_more, gathers_step}
use Rattle.verdict.specs.Paths.{In}
use Rattle.circuit_place.specs.Placing.{place, four}
use Rattle.check_open.specs.declared.Behind.{Behind}
use Rattle.check_open.specs.Opening.{pins, own_ko, own_data, Own, ToldOf, Told, Table}

or-false : (b : Bool) → (b || false) ≡ b
or-false true = refl
or-false false = refl

-- what nothing stands behind, and a net more
pub told_none : (nets : List ℕ) (first : ℕ) → ToldOf nets first [] (record { kos = 0; other = false })
told_none nets first = record {
  of_kos = λ t h. subst (Gathers (pins nets first) (own_ko nets first t) []) (sym (lane_zero t)) (gathers_none (pins nets first) (own_ko nets first t));
  of_other = gathers_none (pins nets first) (own_data nets first);
}

pub told_more : (nets : List ℕ) (first x : ℕ) (xs : List ℕ) (a b r : Behind) → (r.kos ≡ bit_or a.kos b.kos) × (r.other ≡ (a.other || b.other))
    → Told nets first x a → ToldOf nets first xs b → ToldOf nets first (x ∷ xs) r
told_more nets first x xs a b r e g h = record {
  of_kos = λ t l. subst (Gathers (pins nets first) (own_ko nets first t) (x ∷ xs)) (sym (ap (lane t) e.0 ∙ lane_or t a.kos b.kos))
      (gathers_more (pins nets first) (own_ko nets first t) x xs (lane t a.kos) (lane t b.kos) (g.of_kos t l) (h.of_kos t l));
  of_other = subst (Gathers (pins nets first) (own_data nets first) (x ∷ xs)) (sym e.1)
      (gathers_more (pins nets first) (own_data nets first) x xs a.other b.other g.of_other h.of_other);
}

-- ---- a net of another sort

pub own_told : (nets : List ℕ) (first x : ℕ) (b : Behind) → place nets first x ≡ 0 → Own nets first x b → Told nets first x b
unfolding pins
own_told nets first x b e o =
    let none : pins nets first x ≡ [] = rw e in
    record {
      of_kos = λ t h. subst (Gathers (pins nets first) (own_ko nets first t) (x ∷ [])) (or-false (own_ko nets first t x) ∙ sym (o.of_kos t h))
          (gathers_step (pins nets first) (own_ko nets first t) x false (subst (λ (xs : List ℕ). Gathers (pins nets first) (own_ko nets first t) xs false) (sym none) (gathers_none (pins nets first) (own_ko nets first t))));
      of_other = subst (Gathers (pins nets first) (own_data nets first) (x ∷ [])) (or-false (own_data nets first x) ∙ sym o.of_other)
          (gathers_step (pins nets first) (own_data nets first) x false (subst (λ (xs : List ℕ). Gathers (pins nets first) (own_data nets first) xs false) (sym none) (gathers_none (pins nets first) (own_data nets first))));
    }

-- ---- a C-element with a place

module _ (nets : List ℕ) (first : ℕ) (met : List (Option Behind)) (w : Table nets first met) (x : ℕ) (d : ¬ (place nets first x ≡ 0)) where
  pub after_gates : first ≤ x
  unfolding place
  after_gates = go (dec_lt x first)
    where
      go : Dec (x < first) → first ≤ x
      go (yes l) = absurd (d (rw (lt-ltb x first l)))
      go (no l) = omega arith

  place-slot : place nets first x ≡ slot nets (x - first) 5
  unfolding place
  place-slot = rw (le-ltb x first after_gates)

  positive : (k : ℕ) → ¬ (k ≡ 0) → 0 < k
  positive zero n = absurd (n refl)
  positive (suc k) n = omega arith

  pub row_in : x - first < length met
  row_in = go (dec_lt (x - first) (length met))
    where
      go : Dec (x - first < length met) → x - first < length met
      go (yes l) = l
      go (no l) = absurd (d (place-slot ∙ get_or-eq_default nets 0 (omega (arith, w.rows))))

  sort : slot nets (x - first) 0 ≡ 3
  sort = w.others (x - first) (positive (slot nets (x - first) 5) (λ e. d (place-slot ∙ e)))

  own_no_ko : (t : ℕ) → own_ko nets first t x ≡ false
  unfolding own_ko
  own_no_ko t = rw (le-ltb x first after_gates, sort)

  own_no_data : own_data nets first x ≡ false
  unfolding own_data
  own_no_data = rw (le-ltb x first after_gates, sort)

  pins-four : pins nets first x ≡ four nets (8 * (x - first) + 1)
  unfolding pins
  pins-four = rw (lt-ltb 0 (place nets first x) (positive (place nets first x) d))

  -- its pins are all opened
  pub opened_told : (b : Behind) → ToldOf nets first (four nets (8 * (x - first) + 1)) b → Told nets first x b
  opened_told b h = record {
    of_kos = λ t l. subst (Gathers (pins nets first) (own_ko nets first t) (x ∷ [])) (ap (λ (c : Bool). c || lane t b.kos) (own_no_ko t))
        (gathers_step (pins nets first) (own_ko nets first t) x (lane t b.kos) (rw pins-four (h.of_kos t l)));
    of_other = subst (Gathers (pins nets first) (own_data nets first) (x ∷ [])) (ap (λ (c : Bool). c || b.other) own_no_data)
        (gathers_step (pins nets first) (own_data nets first) x b.other (rw pins-four h.of_other));
  }

  pub known_told : (b : Behind) → get_or met (x - first) None ≡ Some b → Told nets first x b
  known_told b e = let z : first + (x - first) ≡ x = omega (arith, after_gates) in subst (λ (y : ℕ). Told nets first y b) z (w.right (x - first) b e)

  pin_at : (j : ℕ) → j < 4 → drop j (four nets (8 * (x - first) + 1)) ≡ slot nets (x - first) (1 + j) ∷ drop (suc j) (four nets (8 * (x - first) + 1))
  pin_at j h = go j h
    where
      i : ℕ
      i = x - first

      go : (j : ℕ) → j < 4 → drop j (four nets (8 * (x - first) + 1)) ≡ slot nets (x - first) (1 + j) ∷ drop (suc j) (four nets (8 * (x - first) + 1))
      go zero h = refl
      go (suc zero) h = let z : 8 * (x - first) + 1 + 1 ≡ 8 * (x - first) + (1 + 1) = omega arith in ap (λ (k : ℕ). get_or nets k 0 ∷ drop 2 (four nets (8 * (x - first) + 1))) z
      go (suc (suc zero)) h = let z : 8 * (x - first) + 1 + 2 ≡ 8 * (x - first) + (1 + 2) = omega arith in ap (λ (k : ℕ). get_or nets k 0 ∷ drop 3 (four nets (8 * (x - first) + 1))) z
      go (suc (suc (suc zero))) h = let z : 8 * (x - first) + 1 + 3 ≡ 8 * (x - first) + (1 + 3) = omega arith in ap (λ (k : ℕ). get_or nets k 0 ∷ []) z
      go (suc (suc (suc (suc j)))) h = absurd (omega arith)

  -- one pin more, from the last on
  pub pin_more : (j : ℕ) → j < 4 → (a b r : Behind) → (r.kos ≡ bit_or a.kos b.kos) × (r.other ≡ (a.other || b.other)) → Told nets first (slot nets (x - first) (1 + j)) a
      → ToldOf nets first (drop (suc j) (four nets (8 * (x - first) + 1))) b → ToldOf nets first (drop j (four nets (8 * (x - first) + 1))) r
  pin_more j h a b r e g s = subst (λ (xs : List ℕ). ToldOf nets first xs r) (sym (pin_at j h)) (told_more nets first _ _ a b r e g s)

  pub pin_falls : (j : ℕ) → j < 4 → place nets first (slot nets (x - first) (1 + j)) < place nets first x
  pin_falls j h = w.falls x (slot nets (x - first) (1 + j)) (subst (In (slot nets (x - first) (1 + j))) (sym pins-four) (in_four j h))
    where
      in_drop : (j : ℕ) (xs : List ℕ) (y : ℕ) → In y (drop j xs) → In y xs
      in_drop zero xs y i = i
      in_drop (suc j) [] y i = i
      in_drop (suc j) (x ∷ xs) y i = inr (in_drop j xs y i)

      in_four : (j : ℕ) → j < 4 → In (slot nets (x - first) (1 + j)) (four nets (8 * (x - first) + 1))
      in_four j h = in_drop j (four nets (8 * (x - first) + 1)) _ (subst (In (slot nets (x - first) (1 + j))) (sym (pin_at j h)) (inl refl))

  -- what was found is remembered
  pub remembers : (b : Behind) → Told nets first x b → Table nets first (set met (x - first) (Some b))
  remembers b told = record {
    rows = w.rows ∙ ap (λ (n : ℕ). 8 * n) (sym (length-set met (x - first) (Some b)));
    ko_in = w.ko_in;
    others = w.others;
    falls = w.falls;
    right = λ i r h. go i r h (ℕ_discrete i (x - first));
  }
    where
      go : (i : ℕ) (r : Behind) → get_or (set met (x - first) (Some b)) i None ≡ Some r → Dec (i ≡ x - first) → Told nets first (first + i) r
      go i r h (yes e) =
          let z : first + i ≡ x = omega (arith, after_gates) in
          let s : Some b ≡ Some r = sym (get_or-set_same met (x - first) (Some b) None row_in) ∙ ap (λ (k : ℕ). get_or (set met (x - first) (Some b)) k None) (sym e) ∙ h in
          let q : b ≡ r = cc in
          rw z (subst (Told nets first x) q told)
      go i r h (no n) = w.right i r (sym (get_or-set_other met (x - first) i (Some b) None n) ∙ h)
