-- The rails of an input word: how many there are, that each input is DATA, and what taking inputs away leaves; that answers are bits; and which numbers are words.
-- Assumes nothing.
use Prim.Native.Nat.{ℕ, zero, suc, ◌+◌, ◌-◌, ◌*◌, ◌/◌, ◌%◌, ◌^◌, ◌≤◌, ◌<◌}
use native.Mathlib.Omega.{arith}
use mathlib.Core.Path.{◌≡◌, refl, sym, ap, subst, ◌∙◌}
use mathlib.Core.Bool.{Bool, true, false, cond, not, ◌&&◌}
use mathlib.Core.Logic.{inl, inr}
use mathlib.Core.List.{List, [], ◌∷◌, ◌++◌}
use lib.ListN.{length, get_or}
use lib.Dec.{ltb}
use native.Mathlib.Decide.{dec_lt, ℕ_discrete}
use borrow.Author.Tests.{lt-ltb, le-ltb}
use Rattle.runs.specs.Theory.{word_rails}
use Rattle.netlist.specs.Content.{Coded, Stage, Reference}
use Rattle.verdict.specs.Rows.{high, with_null}
use Rattle.verdict.specs.Loops.{In}
use Rattle.netlist.specs.Reading.{Ascending}
use Rattle.verdict.specs.Words.{numbers, cared_for, words, IsWord, bits_of, rails_of}
use Rattle.verdict.specs.Answers.{operate, values_at, signal_values, answer}

-- ---- rails

pub bits_of_length : (n w : ℕ) → length (bits_of n w) ≡ n
unfolding bits_of
bits_of_length zero w = refl
bits_of_length (suc n) w = ap suc (bits_of_length n (w / 2))

pub bits_of_bit : (n w i : ℕ) → get_or (bits_of n w) i 0 ≤ 1
unfolding bits_of
bits_of_bit zero w i = omega arith
bits_of_bit (suc n) w zero = omega arith
bits_of_bit (suc n) w (suc i) = bits_of_bit n (w / 2) i

pub rails_length : (bits : List ℕ) → length (rails_of bits) ≡ 2 * length bits
unfolding rails_of
rails_length [] = omega arith
rails_length (b ∷ bits) = omega (arith, rails_length bits)

-- the rails of some bits are those that a word calls for in the theory of runs
pub rails_word : (bits : List ℕ) → ((i : ℕ) → get_or bits i 0 ≤ 1) → (k : ℕ) → k < 2 * length bits → high (rails_of bits) k ≡ word_rails (high bits) k
unfolding rails_of
rails_word [] h k l = absurd (omega arith)
rails_word (b ∷ bits) h zero l = go (dec_lt 0 b)
  where
    go : Dec (0 < b) → ltb 0 (1 - b) ≡ not (ltb 0 b)
    go (yes p) = rw (lt-ltb 0 b p, le-ltb 0 (1 - b) (omega (arith, h 0)))
    go (no p) = rw (le-ltb 0 b (omega arith), lt-ltb 0 (1 - b) (omega arith))
rails_word (b ∷ bits) h (suc zero) l = refl
rails_word (b ∷ bits) h (suc (suc k)) l =
    let e : suc (suc k) % 2 ≡ k % 2 = omega arith in
    let f : suc (suc k) / 2 ≡ suc (k / 2) = omega arith in
    rw (e, f) (rails_word bits (λ i. h (suc i)) k (omega arith))

pub null_length : (missing : ℕ → Bool) (n : ℕ) (rails : List ℕ) → length rails ≡ 2 * n → length (with_null missing rails) ≡ 2 * n
unfolding with_null
null_length missing n [] h = h
null_length missing n (a ∷ []) h = h
null_length missing zero (a ∷ b ∷ rails) h = absurd (omega arith)
null_length missing (suc n) (a ∷ b ∷ rails) h = go (missing 0) (null_length (λ i. missing (suc i)) n rails (omega arith))
  where
    go : (m : Bool) → length (with_null (λ i. missing (suc i)) rails) ≡ 2 * n → length (cond m (0 ∷ 0 ∷ with_null (λ i. missing (suc i)) rails) (a ∷ b ∷ with_null (λ i. missing (suc i)) rails)) ≡ 2 * suc n
    go true e = omega arith
    go false e = omega arith

-- a rail is high where it was and its input is not missing
pub null_high : (missing : ℕ → Bool) (n : ℕ) (rails : List ℕ) → length rails ≡ 2 * n → (k : ℕ) → high (with_null missing rails) k ≡ (high rails k && not (missing (k / 2)))
unfolding with_null
null_high missing n [] h k = refl
null_high missing n (a ∷ []) h k = absurd (omega arith)
null_high missing zero (a ∷ b ∷ rails) h k = absurd (omega arith)
null_high missing (suc n) (a ∷ b ∷ rails) h k = go (missing 0) refl k (null_high (λ i. missing (suc i)) n rails (omega arith))
  where
    and-false : (x : Bool) → (x && false) ≡ false
    and-false true = refl
    and-false false = refl

    and-true : (x : Bool) → (x && true) ≡ x
    and-true true = refl
    and-true false = refl

    go : (m : Bool) → missing 0 ≡ m → (k : ℕ) → ((j : ℕ) → high (with_null (λ i. missing (suc i)) rails) j ≡ (high rails j && not (missing (suc (j / 2)))))
        → high (cond m (0 ∷ 0 ∷ with_null (λ i. missing (suc i)) rails) (a ∷ b ∷ with_null (λ i. missing (suc i)) rails)) k ≡ (high (a ∷ b ∷ rails) k && not (missing (k / 2)))
    go true e zero f = sym (ap (λ (x : Bool). ltb 0 a && not x) e ∙ and-false (ltb 0 a))
    go false e zero f = sym (ap (λ (x : Bool). ltb 0 a && not x) e ∙ and-true (ltb 0 a))
    go true e (suc zero) f = sym (ap (λ (x : Bool). ltb 0 b && not x) e ∙ and-false (ltb 0 b))
    go false e (suc zero) f = sym (ap (λ (x : Bool). ltb 0 b && not x) e ∙ and-true (ltb 0 b))
    go true e (suc (suc k)) f = f k ∙ ap (λ (x : ℕ). high rails k && not (missing x)) (omega arith)
    go false e (suc (suc k)) f = f k ∙ ap (λ (x : ℕ). high rails k && not (missing x)) (omega arith)

-- ---- answers

operate-bit : (op : ℕ) (values : List ℕ) → ((i : ℕ) → get_or values i 0 ≤ 1) → operate op values ≤ 1
unfolding operate
operate-bit zero values h = omega arith
operate-bit (suc zero) values h = omega arith
operate-bit (suc (suc zero)) values h = omega (arith, h 0, h 1)
operate-bit (suc (suc (suc zero))) values h = omega (arith, h 0, h 1)
operate-bit (suc (suc (suc (suc zero)))) values h = omega arith
operate-bit (suc (suc (suc (suc (suc zero))))) values h = omega arith
operate-bit (suc (suc (suc (suc (suc (suc zero)))))) values h = omega arith
operate-bit (suc (suc (suc (suc (suc (suc (suc op))))))) values h = omega arith

values_at-bit : (values signals : List ℕ) → ((i : ℕ) → get_or values i 0 ≤ 1) → (i : ℕ) → get_or (values_at values signals) i 0 ≤ 1
values_at-bit values [] h i = omega arith
values_at-bit values (v ∷ signals) h zero = h v
values_at-bit values (v ∷ signals) h (suc i) = values_at-bit values signals h i

snoc_bit : (values : List ℕ) (x : ℕ) → x ≤ 1 → ((i : ℕ) → get_or values i 0 ≤ 1) → (i : ℕ) → get_or (values ++ (x ∷ [])) i 0 ≤ 1
snoc_bit [] x hx h zero = hx
snoc_bit [] x hx h (suc i) = omega arith
snoc_bit (v ∷ values) x hx h zero = h 0
snoc_bit (v ∷ values) x hx h (suc i) = snoc_bit values x hx (λ k. h (suc k)) i

signal_values-bit : (values : List ℕ) (gates : List Coded) → ((i : ℕ) → get_or values i 0 ≤ 1) → (i : ℕ) → get_or (signal_values values gates) i 0 ≤ 1
unfolding signal_values
signal_values-bit values [] h = h
signal_values-bit values (g ∷ gates) h =
    signal_values-bit (values ++ (operate g.code (values_at values g.operands) ∷ [])) gates
    (snoc_bit values (operate g.code (values_at values g.operands)) (operate-bit g.code (values_at values g.operands) (values_at-bit values g.operands h)) h)

pub answer_bit : (r : Reference) (bits : List ℕ) → ((i : ℕ) → get_or bits i 0 ≤ 1) → (j : ℕ) → get_or (answer r bits) j 0 ≤ 1
unfolding answer
answer_bit r bits h = values_at-bit (signal_values bits r.gates) r.outputs (signal_values-bit bits r.gates h)

-- ---- the words of a stage

pub in_numbers : (j m k : ℕ) → j ≤ k → k < j + m → In k (numbers j m)
unfolding numbers
in_numbers j zero k h l = absurd (omega arith)
in_numbers j (suc m) k h l = go (in_numbers (suc j) m k) (ℕ_discrete k j)
  where
    go : (suc j ≤ k → k < suc j + m → In k (numbers (suc j) m)) → Dec (k ≡ j) → In k (j ∷ numbers (suc j) m)
    go later (yes e) = inl e
    go later (no d) = inr (later (omega arith) (omega arith))

pub numbers_in : (j m k : ℕ) → In k (numbers j m) → (j ≤ k) × (k < j + m)
unfolding numbers
numbers_in j zero k h = absurd h
numbers_in j (suc m) k (inl e) = (omega arith, omega arith)
numbers_in j (suc m) k (inr h) = let r = numbers_in (suc j) m k h in (omega (arith, r.0), omega (arith, r.1))

pub index_in : (m k : ℕ) → k < m → In k (numbers 0 m)
index_in m k h = in_numbers 0 m k (omega arith) (omega arith)

pub in_index : (m k : ℕ) → In k (numbers 0 m) → k < m
in_index m k h = omega (arith, (numbers_in 0 m k h).1)

-- ---- rising lists: in them each stands once, and what is less stands before

module _ (below : ℕ) where
  pub rising_in : (floor : ℕ) (ws : List ℕ) → Ascending below floor ws → (v : ℕ) → In v ws → (floor ≤ v) × (v < below)
  rising_in floor [] h v i = absurd i
  rising_in floor (w ∷ ws) h v (inl e) = omega (arith, h.0, h.1)
  rising_in floor (w ∷ ws) h v (inr i) = omega (arith, h.0, rising_in (w + 1) ws h.2 v i)

  pub less_before : (floor : ℕ) (ws before later : List ℕ) (x : ℕ) → Ascending below floor ws → ws ≡ before ++ (x ∷ later) → (y : ℕ) → In y ws → y < x → In y before
  less_before floor [] [] later x h e y i l = absurd i
  less_before floor [] (b ∷ before) later x h e y i l = absurd i
  less_before floor (w ∷ ws) [] later x h e y (inl q) l = absurd (let z : w ≡ x = cc in omega arith)
  less_before floor (w ∷ ws) [] later x h e y (inr i) l = absurd (let z : w ≡ x = cc in omega (arith, rising_in (w + 1) ws h.2 y i))
  less_before floor (w ∷ ws) (b ∷ before) later x h e y (inl q) l = inl (q ∙ (let z : w ≡ b = cc in z))
  less_before floor (w ∷ ws) (b ∷ before) later x h e y (inr i) l = inr (less_before (w + 1) ws before later x h.2 (let z : ws ≡ before ++ (x ∷ later) = cc in z) y i l)

pub numbers_rise : (j m : ℕ) → Ascending (j + m) j (numbers j m)
unfolding numbers
numbers_rise j zero = tt
numbers_rise j (suc m) =
    let e : suc j + m ≡ j + suc m = omega arith in
    let one : suc j ≡ j + 1 = omega arith in
    (omega arith, omega arith, subst (λ (i : ℕ). Ascending (j + suc m) i (numbers (suc j) m)) one (rw e at (numbers_rise (suc j) m)))

-- ---- the words of a stage whose care words rise, as those of a readable file do

module _ (s : Stage) (care : Ascending (2 ^ s.inputs) 0 s.care) where
  pub words_rise : Ascending (2 ^ s.inputs) 0 (words s)
  unfolding words cared_for
  words_rise = go s.care care
    where
      go : (ws : List ℕ) → Ascending (2 ^ s.inputs) 0 ws → Ascending (2 ^ s.inputs) 0 (cared_for s.inputs ws)
      go [] h = let e : 0 + 2 ^ s.inputs ≡ 2 ^ s.inputs = omega arith in rw e at (numbers_rise 0 (2 ^ s.inputs))
      go (w ∷ ws) h = h

  -- a word is below 2 to the number of inputs
  pub word_below : (w : ℕ) → IsWord s w → w < 2 ^ s.inputs
  word_below w i = (rising_in (2 ^ s.inputs) 0 (words s) words_rise w i).1

-- without a care list every word of the inputs is a word of the stage
pub below_word : (s : Stage) → s.care ≡ [] → (w : ℕ) → w < 2 ^ s.inputs → IsWord s w
unfolding words cared_for
below_word s none w h = rw none (index_in (2 ^ s.inputs) w h)

-- a list of all words says the same as none
pub list_of_all : (n : ℕ) → cared_for n (numbers 0 (2 ^ n)) ≡ cared_for n []
unfolding cared_for numbers
list_of_all n = go (2 ^ n) refl
  where
    go : (m : ℕ) → m ≡ 2 ^ n → cared_for n (numbers 0 m) ≡ numbers 0 (2 ^ n)
    go zero e = refl
    go (suc m) e = ap (numbers 0) e
