-- What a net after the gates carries, part by part.
-- Assumes nothing.
use Prim.Native.Nat.{ℕ, zero, suc, ◌+◌, ◌*◌, ◌-◌, ◌%◌, ◌≤◌, ◌<◌}
use native.Mathlib.Omega.{arith}
use mathlib.Core.Path.{◌≡◌, refl, sym, ap, ◌∙◌}
use mathlib.Core.Bool.{Bool, true, false, cond}
use mathlib.Core.List.{List, [], ◌∷◌, ◌++◌, map}
use lib.ListN.{length, get_or, drop, length-drop}
use lib.Seq.{drop-cons}
use lib.Dec.{ltb}
use borrow.Author.Tests.{lt-ltb, le-ltb, eq-eqb, ne_eqb, ltb-true, ltb-false}
use Rattle.netlist.specs.declared.Sort.{Sort}
use Rattle.netlist.specs.declared.Sort.TheVariants as sort
use Rattle.netlist.specs.Commands.{is_sort}
use Rattle.netlist.specs.Reading.{part_nets, sorts_of, carries_data, is_net}
use Rattle.read_file.specs.declared.Carried.{Carried}
use Rattle.read_file.specs.declared.Carried.TheVariants.{Data, Completion, Nothing}
use Rattle.read_file.specs.Files.{sort_noted, part_noted, nets_noted, nets_with, carried_at}

-- ---- one part

module _ (note : ℕ) where
  element_nets : note % 2 ≡ 1 → nets_noted note ≡ false ∷ []
  unfolding sort_noted part_nets
  element_nets e = rw (eq-eqb (note % 2) 1 e)

  register_nets : (note % 2 ≡ 1 → ⊥) → nets_noted note ≡ true ∷ true ∷ false ∷ []
  unfolding sort_noted part_nets
  register_nets n = rw (ne_eqb (note % 2) 1 n)

  pub element_count : note % 2 ≡ 1 → 1 ≡ length (nets_noted note)
  element_count e = sym (ap length (element_nets e))

  pub register_count_holds : (note % 2 ≡ 1 → ⊥) → 3 ≡ length (nets_noted note)
  register_count_holds n = sym (ap length (register_nets n))

  module _ (i : ℕ) (h : i < length (nets_noted note)) where
    pub element_net : note % 2 ≡ 1 → Completion ≡ carried_at (nets_noted note) i
    unfolding carried_at
    element_net e = let z : i ≡ 0 = omega (arith, element_count e) in rw (element_nets e, z)

    pub rail_net : (note % 2 ≡ 1 → ⊥) → i < 2 → Data ≡ carried_at (nets_noted note) i
    unfolding carried_at
    rail_net n l = rw (register_nets n) (go i l)
      where
        go : (i : ℕ) → i < 2 → Data ≡ carried_at (true ∷ true ∷ false ∷ []) i
        go zero l = refl
        go (suc zero) l = refl
        go (suc (suc i)) l = absurd (omega arith)

    pub ko_net : (note % 2 ≡ 1 → ⊥) → 2 ≤ i → Completion ≡ carried_at (nets_noted note) i
    unfolding carried_at
    ko_net n l = let z : i ≡ 2 = omega (arith, register_count_holds n) in rw (register_nets n, z)

-- ---- part by part

carried_here : (xs ys : List Bool) (i : ℕ) → i < length xs → carried_at (xs ++ ys) i ≡ carried_at xs i
unfolding carried_at
carried_here [] ys i h = absurd (omega arith)
carried_here (x ∷ xs) ys zero h = refl
carried_here (x ∷ xs) ys (suc i) h = carried_here xs ys i (omega arith)

carried_later : (xs ys : List Bool) (i : ℕ) → length xs ≤ i → carried_at (xs ++ ys) i ≡ carried_at ys (i - length xs)
unfolding carried_at
carried_later [] ys i h = let z : i - 0 ≡ i = omega arith in rw z
carried_later (x ∷ xs) ys zero h = absurd (omega arith)
carried_later (x ∷ xs) ys (suc i) h = let z : suc i - suc (length xs) ≡ i - length xs = omega arith in rw z (carried_later xs ys i (omega arith))

nets-split : (c : Sort) (cs : List Sort) → part_nets (c ∷ cs) ≡ part_nets (c ∷ []) ++ part_nets cs
unfolding part_nets
nets-split c cs = go (is_sort sort.Register c)
  where
    go : (b : Bool) → cond b (true ∷ true ∷ false ∷ part_nets cs) (false ∷ part_nets cs) ≡ cond b (true ∷ true ∷ false ∷ []) (false ∷ []) ++ part_nets cs
    go true = refl
    go false = refl

abbrev pub noted : List ℕ → List Bool
noted notes = part_nets (sorts_of (map part_noted notes))

-- part j of some, where `left` nets are to go
module _ (notes : List ℕ) (j left : ℕ) (h : j < length notes) where
  split : noted (drop j notes) ≡ nets_noted (get_or notes j 0) ++ noted (drop (suc j) notes)
  split = ap noted (drop-cons notes j 0 h) ∙ nets-split (sort_noted (get_or notes j 0)) (sorts_of (map part_noted (drop (suc j) notes)))

  pub net_here : left < length (nets_noted (get_or notes j 0)) → carried_at (noted (drop j notes)) left ≡ carried_at (nets_noted (get_or notes j 0)) left
  net_here l = ap (λ (bs : List Bool). carried_at bs left) split ∙ carried_here (nets_noted (get_or notes j 0)) (noted (drop (suc j) notes)) left l

  pub net_later : {own : ℕ} → own ≡ length (nets_noted (get_or notes j 0)) → own ≤ left → carried_at (noted (drop j notes)) left ≡ carried_at (noted (drop (j + 1) notes)) (left - own)
  net_later {own} is l =
      let one : suc j ≡ j + 1 = omega arith in
      ap (λ (bs : List Bool). carried_at bs left) split
      ∙ carried_later (nets_noted (get_or notes j 0)) (noted (drop (suc j) notes)) left (omega arith)
      ∙ rw (← is, one)

pub net_past : (notes : List ℕ) (j left : ℕ) → length notes ≤ j → carried_at (noted (drop j notes)) left ≡ Nothing
unfolding part_nets carried_at
net_past notes j left h = go (drop j notes) (simp length-drop (omega arith))
  where
    go : (xs : List ℕ) → length xs ≡ 0 → carried_at (noted xs) left ≡ Nothing
    go [] e = refl
    go (x ∷ xs) e = absurd (omega arith)

-- ---- what it is asked

test_same : (a b c d : ℕ) → (c < d → a < b) → (d ≤ c → b ≤ a) → ltb a b ≡ ltb c d
test_same a b c d less more = go (ltb c d) refl
  where
    go : (t : Bool) → ltb c d ≡ t → ltb a b ≡ t
    go true e = lt-ltb a b (less (ltb-true c d e))
    go false e = le-ltb a b (more (ltb-false c d e))

abbrev is_data : Carried → Bool
is_data Data = true
is_data Completion = false
is_data Nothing = false

abbrev is_some : Carried → Bool
is_some Data = true
is_some Completion = true
is_some Nothing = false

data_told : (bs : List Bool) (i : ℕ) → get_or bs i false ≡ is_data (carried_at bs i)
unfolding carried_at
data_told [] i = refl
data_told (true ∷ bs) zero = refl
data_told (false ∷ bs) zero = refl
data_told (b ∷ bs) (suc i) = data_told bs i

some-told : (bs : List Bool) (i : ℕ) → ltb i (length bs) ≡ is_some (carried_at bs i)
unfolding carried_at
some-told [] i = le-ltb i 0 (omega arith)
some-told (true ∷ bs) zero = lt-ltb 0 (suc (length bs)) (omega arith)
some-told (false ∷ bs) zero = lt-ltb 0 (suc (length bs)) (omega arith)
some-told (b ∷ bs) (suc i) = test_same (suc i) (suc (length bs)) i (length bs) (λ h. omega arith) (λ h. omega arith) ∙ some-told bs i

module _ (n g : ℕ) (notes : List ℕ) (v : ℕ) where
  pub data_before : v < 2 * n + g → true ≡ carries_data (nets_with n g notes) v
  unfolding carries_data
  data_before h = rw (lt-ltb v (2 * n + g) h)

  pub net_before : v < 2 * n + g → true ≡ is_net (nets_with n g notes) v
  net_before h = sym (lt-ltb v (2 * n + g + length (noted notes)) (omega arith))

  module _ (h : 2 * n + g ≤ v) {k : Carried} (is : carried_at (noted notes) (v - (2 * n + g)) ≡ k) where
    pub data_after : is_data k ≡ carries_data (nets_with n g notes) v
    unfolding carries_data
    data_after = rw (le-ltb v (2 * n + g) h) (sym (data_told (noted notes) (v - (2 * n + g)) ∙ ap is_data is))

    pub net_after : is_some k ≡ is_net (nets_with n g notes) v
    net_after = sym (shifted ∙ some-told (noted notes) (v - (2 * n + g)) ∙ ap is_some is)
      where
        shifted : ltb v (2 * n + g + length (noted notes)) ≡ ltb (v - (2 * n + g)) (length (noted notes))
        shifted =
            test_same v (2 * n + g + length (noted notes)) (v - (2 * n + g)) (length (noted notes)) (λ l. omega arith) (λ l. omega arith)
