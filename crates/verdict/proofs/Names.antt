-- Words by name: the name of a word in either order spells it, each word of a stage has one name, and names rise.
-- Assumes nothing.
use Prim.Native.Nat.{ℕ, zero, suc, ◌+◌, ◌-◌, ◌*◌, ◌/◌, ◌%◌, ◌^◌, ◌≤◌, ◌<◌}
use native.Mathlib.Omega.{arith}
use native.Mathlib.Decide.{ℕ_discrete, dec_lt}
use mathlib.Core.Path.{◌≡◌, refl, sym, ap, ap₂, ◌∙◌, subst}
use mathlib.Core.Bool.{Bool, true, false, cond}
use mathlib.Core.Logic.{◌⊎◌, inl, inr, ⊎_elim, ◌≢◌}
use mathlib.Core.List.{List, [], ◌∷◌, ◌++◌, map, reverse, reverse_aux, reverse_aux-eq, reverse-reverse}
use lib.ListN.{length, get_or, length-reverse}
use lib.Seq.{get_or-append-add}
use lib.Dec.{eqb}
use borrow.Author.Tests.{eq-eqb, ne_eqb}
use Rattle.runs.specs.Row.{tally, times}
use Rattle.runs.proofs.Test.{clash, not-true, eqb_same, eqb_eq, eqb_other, same?, or_left, or_right, or_cases}
use Rattle.netlist.specs.Content.{Stage}
use Rattle.netlist.specs.Reading.{Ascending}
use Rattle.verdict.specs.declared.WordOrder.{WordOrder}
use Rattle.verdict.specs.declared.WordOrder.TheVariants.{FirstHighest, FirstLowest}
use Rattle.verdict.specs.Loops.{In}
use Rattle.verdict.specs.Words.{numbers, words, IsWord, bits_of, word_of, spelled, is_in, select, names}
use Rattle.verdict.proofs.Words.{bits_of_length, bits_of_bit, index_in, numbers_in, rising_in, less_before, numbers_rise, words_rise, word_below}

-- ---- the word that some bits spell

pub bits_of_word_of : (n : ℕ) (bits : List ℕ) → length bits ≡ n → ((i : ℕ) → get_or bits i 0 ≤ 1) → bits_of n (word_of bits) ≡ bits
unfolding bits_of word_of
bits_of_word_of zero [] e h = refl
bits_of_word_of zero (b ∷ bits) e h = absurd (omega arith)
bits_of_word_of (suc n) [] e h = absurd (omega arith)
bits_of_word_of (suc n) (b ∷ bits) e h =
    let low : (b + 2 * word_of bits) % 2 ≡ b = omega (arith, h 0) in
    let rest : (b + 2 * word_of bits) / 2 ≡ word_of bits = omega (arith, h 0) in
    rw (low, rest) (ap (λ (l : List ℕ). b ∷ l) (bits_of_word_of n bits (omega arith) (λ i. h (suc i))))

word_of_bits_of : (n w : ℕ) → w < 2 ^ n → word_of (bits_of n w) ≡ w
unfolding bits_of word_of
word_of_bits_of zero w h = omega arith
word_of_bits_of (suc n) w h = let rest : word_of (bits_of n (w / 2)) ≡ w / 2 = word_of_bits_of n (w / 2) (omega arith) in omega arith

pub word_of_below : (n : ℕ) (bits : List ℕ) → length bits ≡ n → ((i : ℕ) → get_or bits i 0 ≤ 1) → word_of bits < 2 ^ n
unfolding word_of
word_of_below zero [] e h = omega arith
word_of_below zero (b ∷ bits) e h = absurd (omega arith)
word_of_below (suc n) [] e h = absurd (omega arith)
word_of_below (suc n) (b ∷ bits) e h = omega (arith, h 0, word_of_below n bits (omega arith) (λ i. h (suc i)))

-- ---- turning

pub aux_bit : (bits acc : List ℕ) → ((i : ℕ) → get_or bits i 0 ≤ 1) → ((i : ℕ) → get_or acc i 0 ≤ 1) → (i : ℕ) → get_or (reverse_aux bits acc) i 0 ≤ 1
aux_bit [] acc h k i = k i
aux_bit (b ∷ bits) acc h k i = aux_bit bits (b ∷ acc) (λ j. h (suc j)) both i
  where
    both : (j : ℕ) → get_or (b ∷ acc) j 0 ≤ 1
    both zero = h 0
    both (suc j) = k j

turned_bits : (n v : ℕ) → bits_of n (word_of (reverse (bits_of n v))) ≡ reverse (bits_of n v)
turned_bits n v = bits_of_word_of n (reverse (bits_of n v)) (length-reverse (bits_of n v) ∙ bits_of_length n v) (aux_bit (bits_of n v) [] (bits_of_bit n v) (λ i. omega arith))

-- turning twice is no turning
pub spelled_twice : (order : WordOrder) (n v : ℕ) → v < 2 ^ n → spelled order n (spelled order n v) ≡ v
unfolding spelled
spelled_twice FirstHighest n v h = rw (turned_bits n v, reverse-reverse (bits_of n v)) (word_of_bits_of n v h)
spelled_twice FirstLowest n v h = refl

pub spelled_below : (order : WordOrder) (n v : ℕ) → v < 2 ^ n → spelled order n v < 2 ^ n
unfolding spelled
spelled_below FirstHighest n v h = word_of_below n (reverse (bits_of n v)) (length-reverse (bits_of n v) ∙ bits_of_length n v) (aux_bit (bits_of n v) [] (bits_of_bit n v) (λ i. omega arith))
spelled_below FirstLowest n v h = h

-- what stands in a list that is turned
pub aux_at : (l acc : List ℕ) (i : ℕ) → i < length l → get_or (reverse_aux l acc) i 0 ≡ get_or l (length l - 1 - i) 0
aux_at [] acc i h = absurd (omega arith)
aux_at (x ∷ l) acc i h = go (dec_lt i (length l)) (aux_at l (x ∷ acc) i)
  where
    go : Dec (i < length l) → (i < length l → get_or (reverse_aux l (x ∷ acc)) i 0 ≡ get_or l (length l - 1 - i) 0) → get_or (reverse_aux l (x ∷ acc)) i 0 ≡ get_or (x ∷ l) (suc (length l) - 1 - i) 0
    go (yes k) later = let e : suc (length l) - 1 - i ≡ suc (length l - 1 - i) = omega arith in rw e (later k)
    go (no k) later =
        let e : suc (length l) - 1 - i ≡ 0 = omega arith in
        let f : i ≡ length (reverse l) + 0 = omega (arith, length-reverse l) in
        rw (e, reverse_aux-eq l (x ∷ acc)) (ap (λ (k : ℕ). get_or (reverse l ++ (x ∷ acc)) k 0) f ∙ get_or-append-add (reverse l) (x ∷ acc) 0 0)

-- By default input i of the word is bit n - 1 - i of its name: input 0 is the highest.
pub bit_highest : (n name i : ℕ) → i < n → get_or (bits_of n (spelled FirstHighest n name)) i 0 ≡ get_or (bits_of n name) (n - 1 - i) 0
unfolding spelled
bit_highest n name i h =
    let long = bits_of_length n name in
    rw (turned_bits n name) (aux_at (bits_of n name) [] i (omega (arith, long)) ∙ ap (λ (m : ℕ). get_or (bits_of n name) (m - 1 - i) 0) long)

-- ---- membership

pub is_in_in : (x : ℕ) (l : List ℕ) → is_in x l ≡ true → In x l
unfolding is_in
is_in_in x [] e = absurd (clash e refl)
is_in_in x (y ∷ l) e = ⊎_elim (λ h. inl (eqb_eq x y h)) (λ h. inr (is_in_in x l h)) (or_cases (eqb x y) (is_in x l) e)

pub in_is_in : (x : ℕ) (l : List ℕ) → In x l → is_in x l ≡ true
unfolding is_in
in_is_in x [] i = absurd i
in_is_in x (y ∷ l) (inl e) = or_left (eqb x y) (is_in x l) (rw e (eqb_same y))
in_is_in x (y ∷ l) (inr i) = or_right (eqb x y) (is_in x l) (in_is_in x l i)

pub select_in : (test : ℕ → Bool) (l : List ℕ) (x : ℕ) → In x (select test l) → In x l × (test x ≡ true)
unfolding select
select_in test [] x h = absurd h
select_in test (y ∷ l) x h = go (test y) refl h (select_in test l x)
  where
    go : (b : Bool) → test y ≡ b → In x (cond b (y ∷ select test l) (select test l)) → (In x (select test l) → In x l × (test x ≡ true)) → In x (y ∷ l) × (test x ≡ true)
    go true e (inl q) later = (inl q, ap test q ∙ e)
    go true e (inr i) later = let r = later i in (inr r.0, r.1)
    go false e i later = let r = later i in (inr r.0, r.1)

pub in_select : (test : ℕ → Bool) (l : List ℕ) (x : ℕ) → In x l → test x ≡ true → In x (select test l)
unfolding select
in_select test [] x h t = elim h [ ]
in_select test (y ∷ l) x h t = go (test y) refl h (λ i. in_select test l x i t)
  where
    go : (b : Bool) → test y ≡ b → In x (y ∷ l) → (In x l → In x (select test l)) → In x (cond b (y ∷ select test l) (select test l))
    go true e (inl q) later = inl q
    go true e (inr i) later = inr (later i)
    go false e (inl q) later = absurd (clash t (ap test q ∙ e))
    go false e (inr i) later = later i

rising_from : (below floor lower : ℕ) (l : List ℕ) → lower ≤ floor → Ascending below floor l → Ascending below lower l
rising_from below floor lower [] h r = tt
rising_from below floor lower (x ∷ l) h r = (omega (arith, r.0), r.1, r.2)

select-rises : (test : ℕ → Bool) (below floor : ℕ) (l : List ℕ) → Ascending below floor l → Ascending below floor (select test l)
unfolding select
select-rises test below floor [] r = tt
select-rises test below floor (x ∷ l) r = go (test x) (select-rises test below (x + 1) l r.2)
  where
    go : (b : Bool) → Ascending below (x + 1) (select test l) → Ascending below floor (cond b (x ∷ select test l) (select test l))
    go true h = (r.0, r.1, h)
    go false h = rising_from below (x + 1) floor (select test l) (omega (arith, r.0)) h

pub select_alike : (f g : ℕ → Bool) (l : List ℕ) → ((x : ℕ) → In x l → f x ≡ g x) → select f l ≡ select g l
unfolding select
select_alike f g [] h = refl
select_alike f g (x ∷ l) h = rw (h x (inl refl), select_alike f g l (λ y i. h y (inr i))) refl

select-none : (test : ℕ → Bool) (l : List ℕ) → ((x : ℕ) → In x l → test x ≡ false) → select test l ≡ []
unfolding select
select-none test [] h = refl
select-none test (x ∷ l) h = rw (h x (inl refl)) (select-none test l (λ y i. h y (inr i)))

-- those of some numbers in a row that stand in a list which rises among them are the list
select-rising : (j m : ℕ) (ws : List ℕ) → Ascending (j + m) j ws → select (λ x. is_in x ws) (numbers j m) ≡ ws
unfolding select numbers is_in
select-rising j zero [] r = refl
select-rising j zero (w ∷ ws) r = absurd (omega (arith, r.0, r.1))
select-rising j (suc m) ws r = go (λ ws r. select-rising (suc j) m ws r) ws r
  where
    more : j + suc m ≡ suc j + m
    more = omega arith

    at_head : ((ws : List ℕ) → Ascending (suc j + m) (suc j) ws → select (λ x. is_in x ws) (numbers (suc j) m) ≡ ws)
        → (w : ℕ) (ws : List ℕ) → Ascending (j + suc m) j (w ∷ ws) → (w ≡ j) ⊎ (w ≢ j) → select (λ x. is_in x (w ∷ ws)) (j ∷ numbers (suc j) m) ≡ w ∷ ws
    at_head later w ws r (inl e) =
        let next : w + 1 ≡ suc j = omega arith in
        let here : is_in j (w ∷ ws) ≡ true = in_is_in j (w ∷ ws) (inl (sym e)) in
        let others : select (λ x. is_in x (w ∷ ws)) (numbers (suc j) m) ≡ select (λ x. is_in x ws) (numbers (suc j) m) =
        select_alike (λ x. is_in x (w ∷ ws)) (λ x. is_in x ws) (numbers (suc j) m) (λ x i. rw (eqb_other x w (λ q. omega (arith, (numbers_in (suc j) m x i).0))) refl) in
        rw here (ap (λ (l : List ℕ). j ∷ l) (others ∙ later ws (subst (λ (i : ℕ). Ascending (suc j + m) i ws) next (subst (λ (b : ℕ). Ascending b (w + 1) ws) more r.2))) ∙ ap (λ (x : ℕ). x ∷ ws) (sym e))
    at_head later w ws r (inr n) =
        let rest : Ascending (suc j + m) (suc j) (w ∷ ws) = (omega (arith, r.0), omega (arith, r.1), subst (λ (b : ℕ). Ascending b (w + 1) ws) more r.2) in
        let here : is_in j (w ∷ ws) ≡ false = not-true (is_in j (w ∷ ws)) (λ e. omega (arith, (rising_in (suc j + m) (suc j) (w ∷ ws) rest j (is_in_in j (w ∷ ws) e)).0)) in
        rw here (later (w ∷ ws) rest)

    go : ((ws : List ℕ) → Ascending (suc j + m) (suc j) ws → select (λ x. is_in x ws) (numbers (suc j) m) ≡ ws)
        → (ws : List ℕ) → Ascending (j + suc m) j ws → select (λ x. is_in x ws) (j ∷ numbers (suc j) m) ≡ ws
    go later [] r = select-none (λ x. false) (numbers (suc j) m) (λ x h. refl)
    go later (w ∷ ws) r = at_head later w ws r (same? w j)

-- ---- the names of a stage's words

module _ (order : WordOrder) (s : Stage) where
  abbrev cared : ℕ → Bool
  cared name = is_in (spelled order s.inputs name) (words s)

  -- a name spells a word of the stage
  pub name_spells : (name : ℕ) → In name (names order s) → IsWord s (spelled order s.inputs name)
  unfolding names
  name_spells name h = is_in_in (spelled order s.inputs name) (words s) (select_in cared (numbers 0 (2 ^ s.inputs)) name h).1

  -- names rise: each stands once, and what is less stands before
  pub names_rise : Ascending (2 ^ s.inputs) 0 (names order s)
  unfolding names
  names_rise = select-rises cared (2 ^ s.inputs) 0 (numbers 0 (2 ^ s.inputs)) (let e : 0 + 2 ^ s.inputs ≡ 2 ^ s.inputs = omega arith in rw e at (numbers_rise 0 (2 ^ s.inputs)))

  pub less_named_before : (before later : List ℕ) (name : ℕ) → names order s ≡ before ++ (name ∷ later) → (other : ℕ) → In other (names order s) → other < name → In other before
  less_named_before before later name = less_before (2 ^ s.inputs) 0 (names order s) before later name names_rise

  -- each word of a stage whose care words rise has a name
  pub word_name : Ascending (2 ^ s.inputs) 0 s.care → (w : ℕ) → IsWord s w
      → In (spelled order s.inputs w) (names order s) × (spelled order s.inputs (spelled order s.inputs w) ≡ w)
  unfolding names
  word_name care w i =
      let h : w < 2 ^ s.inputs = word_below s care w i in
      let e : spelled order s.inputs (spelled order s.inputs w) ≡ w = spelled_twice order s.inputs w h in (
        in_select cared (numbers 0 (2 ^ s.inputs)) (spelled order s.inputs w) (index_in (2 ^ s.inputs) _ (spelled_below order s.inputs w h))
            (in_is_in (spelled order s.inputs (spelled order s.inputs w)) (words s) (subst (λ (x : ℕ). In x (words s)) (sym e) i)),
        e,
      )

-- ---- each word once

-- how often a number stands in a rising list
times-rising : (below floor : ℕ) (ws : List ℕ) → Ascending below floor ws → (k : ℕ) → (In k ws × (times k ws ≡ 1)) ⊎ ((¬ (In k ws)) × (times k ws ≡ 0))
times-rising below floor [] r k = inr ((λ h. h), refl)
times-rising below floor (w ∷ ws) r k = go (ℕ_discrete k w) (times-rising below (w + 1) ws r.2 k)
  where
    go : Dec (k ≡ w) → (In k ws × (times k ws ≡ 1)) ⊎ ((¬ (In k ws)) × (times k ws ≡ 0))
        → (In k (w ∷ ws) × (tally (eqb k w) (times k ws) ≡ 1)) ⊎ ((¬ (In k (w ∷ ws))) × (tally (eqb k w) (times k ws) ≡ 0))
    go (yes e) (inl h) = absurd (omega (arith, rising_in below (w + 1) ws r.2 k h.0))
    go (yes e) (inr h) = inl (inl e, ap (λ b. tally b (times k ws)) (eq-eqb k w e) ∙ ap suc h.1)
    go (no d) (inl h) = inl (inr h.0, ap (λ b. tally b (times k ws)) (ne_eqb k w d) ∙ h.1)
    go (no d) (inr h) = inr (⊎_elim d h.0, ap (λ b. tally b (times k ws)) (ne_eqb k w d) ∙ h.1)

module _ (order : WordOrder) (s : Stage) (care : Ascending (2 ^ s.inputs) 0 s.care) where
  abbrev word : ℕ → ℕ
  word = spelled order s.inputs

  -- a word stands among the words of some names as often as its name among these
  times-word : (w : ℕ) → w < 2 ^ s.inputs → (l : List ℕ) → ((x : ℕ) → In x l → x < 2 ^ s.inputs) → times w (map word l) ≡ times (word w) l
  times-word w h [] below = refl
  times-word w h (x ∷ l) below = ap₂ tally (go (same? (word w) x)) (times-word w h l (λ y i. below y (inr i)))
    where
      twice : word (word x) ≡ x
      twice = spelled_twice order s.inputs x (below x (inl refl))

      go : (word w ≡ x) ⊎ (word w ≢ x) → eqb w (word x) ≡ eqb (word w) x
      go (inl e) = eq-eqb w (word x) (sym (spelled_twice order s.inputs w h) ∙ ap word e) ∙ sym (eq-eqb (word w) x e)
      go (inr n) = ne_eqb w (word x) (λ e. n (ap word e ∙ twice)) ∙ sym (ne_eqb (word w) x n)

  times-past : (w : ℕ) → 2 ^ s.inputs ≤ w → (l : List ℕ) → ((x : ℕ) → In x l → x < 2 ^ s.inputs) → times w (map word l) ≡ 0
  times-past w h [] below = refl
  times-past w h (x ∷ l) below =
      ap (λ b. tally b (times w (map word l))) (ne_eqb w (word x) (λ e. omega (arith, spelled_below order s.inputs x (below x (inl refl))))) ∙ times-past w h l (λ y i. below y (inr i))

  -- the words in the order of their names
  abbrev swept : List ℕ
  swept = map word (names order s)

  -- The list holds each word once, and nothing else.
  pub words_once : (w : ℕ) → (IsWord s w × (times w (swept) ≡ 1)) ⊎ ((¬ (IsWord s w)) × (times w (swept) ≡ 0))
  words_once w = go (dec_lt w (2 ^ s.inputs))
    where
      below : (x : ℕ) → In x (names order s) → x < 2 ^ s.inputs
      below x i = (rising_in (2 ^ s.inputs) 0 (names order s) (names_rise order s) x i).1

      by_name : w < 2 ^ s.inputs → (In (word w) (names order s) × (times (word w) (names order s) ≡ 1)) ⊎ ((¬ (In (word w) (names order s))) × (times (word w) (names order s) ≡ 0))
          → (IsWord s w × (times w (swept) ≡ 1)) ⊎ ((¬ (IsWord s w)) × (times w (swept) ≡ 0))
      by_name h (inl i) = inl (subst (IsWord s) (spelled_twice order s.inputs w h) (name_spells order s (word w) i.0), times-word w h (names order s) below ∙ i.1)
      by_name h (inr n) = inr ((λ i. n.0 (word_name order s care w i).0), times-word w h (names order s) below ∙ n.1)

      go : Dec (w < 2 ^ s.inputs) → (IsWord s w × (times w (swept) ≡ 1)) ⊎ ((¬ (IsWord s w)) × (times w (swept) ≡ 0))
      go (yes h) = by_name h (times-rising (2 ^ s.inputs) 0 (names order s) (names_rise order s) (word w))
      go (no h) = inr ((λ i. omega (arith, word_below s care w i)), times-past w (omega arith) (names order s) below)

-- in the files' order the names are the words
pub names_lowest : (s : Stage) → Ascending (2 ^ s.inputs) 0 s.care → names FirstLowest s ≡ words s
unfolding names spelled
names_lowest s care = select-rising 0 (2 ^ s.inputs) (words s) (let e : 2 ^ s.inputs ≡ 0 + 2 ^ s.inputs = omega arith in rw e at (words_rise s care))
