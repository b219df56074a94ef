-- Laws of pairs of rails: what a pair may hold, and how it changes as rails rise.
-- Assumes nothing.
use mathlib.Core.Path.{◌≡◌, refl, sym, ap, ◌∙◌, subst}
use mathlib.Core.Logic.{◌⊎◌, inl, inr}
use mathlib.Core.Bool.{Bool, true, false, not, ◌||◌}
use Prim.Native.Nat.{ℕ, ◌+◌, ◌*◌, ◌/◌, ◌<◌}
use native.Mathlib.Omega.{arith}
use lib.Dec.{eqb, ltb}
use Rattle.runs.specs.Row.{Row, only}
use Rattle.runs.specs.Net.{Net, rails, input_rail, rails_of_inputs}
use Rattle.runs.specs.Theory.{◌⊑◌, word_rails}
use Rattle.runs.specs.Pair.{DataOf, Data, Null, Both, AllData, AllNull, Reads, InputsData}
use Rattle.runs.specs.Complete.{SomeNull, SomeNotNull}
use Rattle.runs.proofs.Test.{clash, true?, not-true, not-false, of_not, and_right, or_left, or_right, eqb_eq, find}
use Rattle.runs.proofs.Row.{⊑-low}
use Rattle.runs.proofs.Net.{rail_of_input, word_rails_0, word_rails_1}

-- ---- one pair

-- two high rails are no DATA
pub both_not_data : (r : Row) (p : Bool → ℕ) → Both r p → ¬ (Data r p)
both_not_data r p h d = clash h.0 (d ∙ ap not h.1)

pub null_not_data : (r : Row) (p : Bool → ℕ) → Null r p → ¬ (Data r p)
null_not_data r p h d = clash (d ∙ ap not h.1) h.0

pub data_of_data : (r : Row) (p : Bool → ℕ) (b : Bool) → DataOf r p b → Data r p
data_of_data r p true h = h.1 ∙ sym (ap not h.0)
data_of_data r p false h = h.0 ∙ sym (ap not h.1)

-- DATA is DATA0 or DATA1
pub data_cases : (r : Row) (p : Bool → ℕ) → Data r p → (DataOf r p false) ⊎ (DataOf r p true)
data_cases r p d = go (true? (r (p true)))
  where
    go : (r (p true) ≡ true) ⊎ (r (p true) ≡ false) → (DataOf r p false) ⊎ (DataOf r p true)
    go (inl e) = inr (e, d ∙ ap not e)
    go (inr e) = inl (d ∙ ap not e, e)

-- one rail of a DATA pair is high
pub data_high : (r : Row) (p : Bool → ℕ) → Data r p → (b : Bool) × (r (p b) ≡ true)
data_high r p d = go (data_cases r p d)
  where
    go : (DataOf r p false) ⊎ (DataOf r p true) → (b : Bool) × (r (p b) ≡ true)
    go (inl h) = (false, h.0)
    go (inr h) = (true, h.0)

-- and one only
pub data_one : (r : Row) (p : Bool → ℕ) → Data r p → (a b : Bool) → r (p a) ≡ true → r (p b) ≡ true → a ≡ b
data_one r p d true true x y = refl
data_one r p d true false x y = absurd (both_not_data r p (y, x) d)
data_one r p d false true x y = absurd (both_not_data r p (x, y) d)
data_one r p d false false x y = refl

at_null : (r : Row) (p : Bool → ℕ) (b : Bool) → r (p b) ≡ false → r (p (not b)) ≡ false → Null r p
at_null r p true x y = (y, x)
at_null r p false x y = (x, y)

-- a pair below DATA of bit b: not both rails, and DATA only of bit b
pub below_not_both : (r s : Row) (p : Bool → ℕ) (b : Bool) → r ⊑ s → DataOf s p b → ¬ (Both r p)
below_not_both r s p true o h x = clash (o (p false) x.0) h.1
below_not_both r s p false o h x = clash (o (p true) x.1) h.1

pub below_data : (r s : Row) (p : Bool → ℕ) (b : Bool) → r ⊑ s → DataOf s p b → Data r p → DataOf r p b
below_data r s p b o h d = (not-false (r (p b)) (λ e. null_not_data r p (at_null r p b e off) d), off)
  where
    off : r (p (not b)) ≡ false
    off = ⊑-low r s o (p (not b)) h.1

-- ---- inputs

-- a word calls for one rail of each input
pub word_rails_data : (N : Net) (w : ℕ → Bool) → InputsData N (word_rails w)
word_rails_data N w i h = word_rails_0 w i ∙ ap not (sym (word_rails_1 w i))

-- and rails of which each input has one are a word's
pub inputs_data_word : (N : Net) (c : Row) → InputsData N c → (k : ℕ) → k < rails N → c k ≡ word_rails (λ i. c (2 * i + 1)) k
inputs_data_word N c h k d = go (rail_of_input k)
  where
    go : (b : Bool) × (k ≡ input_rail (k / 2) b) → c k ≡ word_rails (λ i. c (2 * i + 1)) k
    go x = subst (λ (n : ℕ). c n ≡ word_rails (λ i. c (2 * i + 1)) n) (sym x.1) (at x.0)
      where
        at : (b : Bool) → c (input_rail (k / 2) b) ≡ word_rails (λ i. c (2 * i + 1)) (input_rail (k / 2) b)
        at false = h (k / 2) (omega arith) ∙ sym (word_rails_0 (λ i. c (2 * i + 1)) (k / 2))
        at true = sym (word_rails_1 (λ i. c (2 * i + 1)) (k / 2))

-- of the two rails of one input, where it is DATA, one is high
pub input_one : (N : Net) (r : Row) → InputsData N r → (k m : ℕ) → k < rails N → rails_of_inputs N (only (k / 2)) m ≡ true → r k ≡ true → r m ≡ true → m ≡ k
input_one N r h k m d x u v =
    let a : (b : Bool) × (k ≡ input_rail (k / 2) b) = rail_of_input k in
    let b : (b : Bool) × (m ≡ input_rail (m / 2) b) = rail_of_input m in
    let e : m / 2 ≡ k / 2 = eqb_eq (m / 2) (k / 2) (and_right (ltb m (rails N)) (eqb (m / 2) (k / 2)) x) in
    let f : m ≡ input_rail (k / 2) b.0 = b.1 ∙ ap (λ n. input_rail n b.0) e in
    let g : a.0 ≡ b.0 = data_one r (input_rail (k / 2)) (h (k / 2) (omega arith)) a.0 b.0 (sym (ap r a.1) ∙ u) (sym (ap r f) ∙ v) in
    f ∙ ap (input_rail (k / 2)) (sym g) ∙ sym a.1

-- ---- all outputs

module _ (N : Net) where
  pub reads_data : (r : Row) (answer : ℕ → Bool) → Reads N r answer → AllData N r
  reads_data r answer h j d = data_of_data r (N.rail j) (answer j) (h j d)

  -- below a row that reads the answer: once all outputs are DATA they stay so
  pub all_data_up : (r s t : Row) (answer : ℕ → Bool) → Reads N t answer → r ⊑ s → s ⊑ t → AllData N r → AllData N s
  all_data_up r s t answer h o n d j x =
      let e : DataOf r (N.rail j) (answer j) = below_data r t (N.rail j) (answer j) (λ k y. n k (o k y)) (h j x) (d j x) in
      data_of_data s (N.rail j) (answer j) (o (N.rail j (answer j)) e.0, ⊑-low s t n (N.rail j (not (answer j))) (h j x).1)

  -- as rails fall, outputs that are NULL stay so
  pub all_null_down : (r s : Row) → r ⊑ s → AllNull N s → AllNull N r
  all_null_down r s o h j d = (⊑-low r s o (N.rail j false) (h j d).0, ⊑-low r s o (N.rail j true) (h j d).1)

  -- not all outputs are DATA: some is NULL
  pub some_null : (r s : Row) (answer : ℕ → Bool) → Reads N s answer → r ⊑ s → ¬ (AllData N r) → SomeNull N r
  some_null r s answer h o n = go (find (λ j. not (r (N.rail j (answer j)))) N.outputs)
    where
      off : (j : ℕ) → j < N.outputs → r (N.rail j (not (answer j))) ≡ false
      off j d = ⊑-low r s o (N.rail j (not (answer j))) (h j d).1

      go : ((j : ℕ) × (j < N.outputs) × (not (r (N.rail j (answer j))) ≡ true)) ⊎ ((j : ℕ) → j < N.outputs → not (r (N.rail j (answer j))) ≡ false)
          → SomeNull N r
      go (inl x) = (x.0, x.1, at_null r (N.rail x.0) (answer x.0) (of_not (r (N.rail x.0 (answer x.0))) x.2) (off x.0 x.1))
      go (inr f) = absurd (n (λ j d. data_of_data r (N.rail j) (answer j) (not-false (r (N.rail j (answer j))) (λ e. clash (ap not e) (f j d)), off j d)))

  pub some_null_not_all_data : (r : Row) → SomeNull N r → ¬ (AllData N r)
  some_null_not_all_data r x d = null_not_data r (N.rail x.0) x.2 (d x.0 x.1)

  -- not all outputs are NULL: some is not
  pub some_not_null : (r : Row) → ¬ (AllNull N r) → SomeNotNull N r
  some_not_null r n = go (find high N.outputs)
    where
      high : ℕ → Bool
      high j = r (N.rail j false) || r (N.rail j true)

      low_of : (j : ℕ) → high j ≡ false → Null r (N.rail j)
      low_of j e =
          let x : r (N.rail j false) ≡ false = not-true (r (N.rail j false)) (λ u. clash (or_left (r (N.rail j false)) (r (N.rail j true)) u) e) in
          let y : r (N.rail j true) ≡ false = not-true (r (N.rail j true)) (λ u. clash (or_right (r (N.rail j false)) (r (N.rail j true)) u) e) in
          (x, y)

      go : ((j : ℕ) × (j < N.outputs) × (high j ≡ true)) ⊎ ((j : ℕ) → j < N.outputs → high j ≡ false) → SomeNotNull N r
      go (inl x) = (x.0, x.1, λ z. clash x.2 (rw (z.0, z.1)))
      go (inr f) = absurd (n (λ j d. low_of j (f j d)))

  pub some_not_null_not_all_null : (r : Row) → SomeNotNull N r → ¬ (AllNull N r)
  some_not_null_not_all_null r x h = x.2 (h x.0 x.1)
