-- 31, output by output: straight pairs, the nets that have a name, and the least output that would give one a second name.
-- Assumes nothing.
use Rattle.std.specs.Prelude.{Some, None}
use Prim.Native.Nat.{ℕ, zero, suc, ◌+◌, ◌*◌, ◌%◌, ◌≤◌, ◌<◌}
use native.Mathlib.Omega.{arith}
use native.Mathlib.Numerals.{add-one}
use mathlib.Core.Path.{◌≡◌, refl, sym, ap, ◌∙◌}
use mathlib.Core.Bool.{Bool, true, false, cond, ◌||◌}
use mathlib.Core.List.{List, [], ◌∷◌, ◌++◌, map-id}
use lib.ListN.{drop}
use lib.Dec.{eqb, ltb}
use Rattle.std.specs.List.{list_any, range_with_len}
use Rattle.std.proofs.lemmas.List.Folds.{list_any-append}
use Rattle.std.proofs.lemmas.List.FromFn.{map-range_with_len_more}
use borrow.Author.Tests.{lt-ltb, le-ltb, eq-eqb, ne_eqb}
use Rattle.netlist.specs.Content.{Pair}
use Rattle.circuit.specs.Stage.{tabulate}
use Rattle.circuit.proofs.Tabulate.{from_at, none_from}
use Rattle.text_spec.specs.ToText.{straight, among, named, second_name}
use Rattle.text_write.specs.Second.{names_net, given, second}

-- ---- an output that is an input pair, rail 0 first

module _ (n : ℕ) (p : Pair) where
  pub not_input : 2 * n ≤ p.rail0 → false ≡ straight n p
  not_input l = rw (le-ltb p.rail0 (2 * n) l)

  pub even_rail : p.rail0 < 2 * n → p.rail0 % 2 ≡ 0 → eqb p.rail1 (p.rail0 + 1) ≡ straight n p
  even_rail l e = rw (lt-ltb p.rail0 (2 * n) l, eq-eqb (p.rail0 % 2) 0 e)

  pub odd_rail : p.rail0 < 2 * n → (p.rail0 % 2 ≡ 0 → ⊥) → false ≡ straight n p
  odd_rail l d = rw (lt-ltb p.rail0 (2 * n) l, ne_eqb (p.rail0 % 2) 0 d)

  -- ---- the nets that it names

  pub straight_none : (v : ℕ) → straight n p ≡ true → false ≡ names_net n p v
  straight_none v s = rw s

  pub names_rail_1 : (v : ℕ) → straight n p ≡ false → v ≡ p.rail1 → true ≡ names_net n p v
  names_rail_1 v s e = rw (s, eq-eqb v p.rail1 e)

  pub names_rail_0 : (v : ℕ) → straight n p ≡ false → (v ≡ p.rail1 → ⊥) → eqb v p.rail0 ≡ names_net n p v
  names_rail_0 v s d = rw (s, ne_eqb v p.rail1 d)

  -- ---- whether it gives a second name, where some nets have one

  module _ (nets : List ℕ) where
    pub straight_no_second : straight n p ≡ true → false ≡ second n nets p
    straight_no_second s = rw s

    module _ (s : straight n p ≡ false) where
      pub second_rail_0 : named n nets p.rail0 ≡ true → true ≡ second n nets p
      second_rail_0 e = rw (s, e)

      pub second_twice : named n nets p.rail0 ≡ false → p.rail1 ≡ p.rail0 → true ≡ second n nets p
      second_twice e d = rw (s, e, eq-eqb p.rail1 p.rail0 d) (go (ltb p.rail1 (2 * n)))
        where
          go : (b : Bool) → true ≡ (b || true)
          go true = refl
          go false = refl

      pub second_rail_1 : named n nets p.rail0 ≡ false → (p.rail1 ≡ p.rail0 → ⊥) → named n nets p.rail1 ≡ second n nets p
      second_rail_1 e d = rw (s, e, ne_eqb p.rail1 p.rail0 d)

-- ---- the nets that have a name before output j

module _ (n : ℕ) (p : ℕ → Pair) (v : ℕ) where
  one_more : (j : ℕ) → among v (given n p (suc j)) ≡ (names_net n (p j) v || among v (given n p j))
  one_more j = go (straight n (p j))
    where
      assoc : (a b c : Bool) → (a || (b || c)) ≡ ((a || b) || c)
      assoc true b c = refl
      assoc false b c = refl

      go : (b : Bool) → among v (cond b (given n p j) ((p j).rail1 ∷ (p j).rail0 ∷ given n p j))
          ≡ (cond b false (eqb v (p j).rail1 || eqb v (p j).rail0) || among v (given n p j))
      go true = refl
      go false = assoc (eqb v (p j).rail1) (eqb v (p j).rail0) (among v (given n p j))

  -- one of the outputs before output j names it
  abbrev pub names_before : ℕ → Bool
  names_before j = list_any (λ i. names_net n (p i) v) (range_with_len 0 j)

  before_more : (j : ℕ) → names_before (j + 1) ≡ (names_before j || (names_net n (p j) v || false))
  before_more j =
      let numbers = range_with_len 0 j in
      let more : range_with_len 0 (j + 1) ≡ numbers ++ (j ∷ []) =
      sym (map-id _) ∙ map-range_with_len_more (λ (i : ℕ). i) 0 j j (omega arith) ∙ ap (λ (l : List ℕ). l ++ (j ∷ [])) (map-id numbers) in
      ap (list_any (λ i. names_net n (p i) v)) more ∙ list_any-append (λ i. names_net n (p i) v) numbers (j ∷ [])

  before_are : (j : ℕ) → names_before j ≡ among v (given n p j)
  before_are zero = refl
  before_are (suc j) =
      ap names_before (sym (add-one j)) ∙ before_more j ∙ swap (names_before j) (names_net n (p j) v) ∙ ap (λ (b : Bool). names_net n (p j) v || b) (before_are j) ∙ sym (one_more j)
    where
      swap : (a b : Bool) → (a || (b || false)) ≡ (b || a)
      swap true true = refl
      swap true false = refl
      swap false true = refl
      swap false false = refl

  pub named_input : (j : ℕ) → v < 2 * n → true ≡ named n (given n p j) v
  named_input j l = rw (lt-ltb v (2 * n) l)

  pub named_before : (j : ℕ) → 2 * n ≤ v → names_before j ≡ named n (given n p j) v
  named_before j l = before_are j ∙ sym (rw (le-ltb v (2 * n) l))

-- ---- the least output that would give a net a second name

module _ (n : ℕ) (p : ℕ → Pair) (m : ℕ) where
  -- none before output j does
  abbrev pub NoneTo : ℕ → Type 0
  NoneTo j = second_name n [] 0 (tabulate p m) ≡ second_name n (given n p j) j (drop j (tabulate p m))

  step : (j : ℕ) (ps : List Pair) →
      second_name n (given n p j) j (p j ∷ ps) ≡ cond (second n (given n p j) (p j)) (Some j) (second_name n (given n p (suc j)) (suc j) ps)
  unfolding second_name
  step j ps = go (straight n (p j))
    where
      go : (b : Bool) →
          cond b (second_name n (given n p j) (suc j) ps)
          (cond (named n (given n p j) (p j).rail0 || named n ((p j).rail0 ∷ given n p j) (p j).rail1) (Some j)
          (second_name n ((p j).rail1 ∷ (p j).rail0 ∷ given n p j) (suc j) ps))
          ≡ cond (cond b false (named n (given n p j) (p j).rail0 || named n ((p j).rail0 ∷ given n p j) (p j).rail1)) (Some j)
          (second_name n (cond b (given n p j) ((p j).rail1 ∷ (p j).rail0 ∷ given n p j)) (suc j) ps)
      go true = refl
      go false = refl

  module _ {j : ℕ} (h : NoneTo j) where
    here : j < m → second_name n [] 0 (tabulate p m)
        ≡ cond (second n (given n p j) (p j)) (Some j) (second_name n (given n p (suc j)) (suc j) (drop (suc j) (tabulate p m)))
    here l = h ∙ ap (second_name n (given n p j) j) (from_at p m j l) ∙ step j (drop (suc j) (tabulate p m))

    pub second_found : j < m → second n (given n p j) (p j) ≡ true → Some j ≡ second_name n [] 0 (tabulate p m)
    second_found l e = sym (here l ∙ rw e)

    pub second_on : j < m → second n (given n p j) (p j) ≡ false → NoneTo (j + 1)
    second_on l e = here l ∙ rw (e, add-one j)

    pub second_none : m ≤ j → None ≡ second_name n [] 0 (tabulate p m)
    unfolding second_name
    second_none l = sym (h ∙ ap (second_name n (given n p j) j) (none_from p m j l))
