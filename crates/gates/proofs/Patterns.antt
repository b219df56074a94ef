-- The set expressions by patterns of pins: what a table of 432 entries is tested for, and that the count of high pins agrees with an unweighted cell.
-- Each is one test that antt computes and one law that turns it into the rule at each entry. Assumes nothing.
use Prim.Native.Nat.{ℕ, ◌+◌, ◌-◌, ◌*◌, ◌/◌, ◌%◌, ◌^◌, ◌≤◌, ◌<◌}
use native.Mathlib.Omega.{arith}
use mathlib.Core.Path.{◌≡◌, ◌∙◌, sym, ap, subst, subst₂, subst₃}
use mathlib.Core.Bool.{Bool, true, false, ◌||◌, not}
use mathlib.Core.List.{List, []}
use lib.Count.{ones, ones_in}
use lib.Dec.{T, eqb, leb, ltb, eqb→eq, leb→le, ltb→lt}
use lib.ListN.{get_or}
use borrow.Author.Tests.{lt-ltb}
use Rattle.gates.specs.Cell.{cells, cell_at, set_expression, set_bit, at_least, threshold, pin_count}
use Rattle.gates.specs.Table.{entry_of, raised, GateTable}
use Rattle.gates.proofs.Every.{every, every_at}

-- ---- the table

-- entry k % 16 of row k / 16 is its expression's value
unfoldable pub row_test : List (List ℕ) → ℕ → Bool
row_test table k = eqb (get_or (get_or table (k / 16) []) (k % 16) 0) (set_bit (k / 16 + 1) (k % 16))

-- raising pin n % 4 of pattern n / 4 % 16 does not lower the value of cell n / 64 + 1
unfoldable rising_test : ℕ → Bool
rising_test n = leb (set_bit (n / 64 + 1) (n / 4 % 16)) (set_bit (n / 64 + 1) (raised (n / 4 % 16) (n % 4)))

all_rising : T (every rising_test 1728)
unfolding rising_test set_bit set_expression cell_at cells
all_rising = tt

set_bit-rises : (c p i : ℕ) → 1 ≤ c → c ≤ 27 → p < 16 → i < 4 → set_bit c p ≤ set_bit c (raised p i)
unfolding rising_test
set_bit-rises c p i lo hi hp hi' =
    let n = (c - 1) * 64 + p * 4 + i in
    let a : n / 64 + 1 ≡ c = omega arith in
    let b : n / 4 % 16 ≡ p = omega arith in
    let d : n % 4 ≡ i = omega arith in
    leb→le (set_bit c p) (set_bit c (raised p i)) (subst₃ (λ (x y z : ℕ). T (leb (set_bit x y) (set_bit x (raised y z)))) a b d (every_at rising_test 1728 all_rising n (omega arith)))

raised_test : ℕ → Bool
raised_test n = ltb (raised (n / 4) (n % 4)) 16

all_raised : T (every raised_test 64)
unfolding raised_test
all_raised = tt

-- raising a pin leads to one of the 16 patterns
raised-in : (p i : ℕ) → p < 16 → i < 4 → raised p i < 16
unfolding raised_test
raised-in p i hp hi =
    let a : (p * 4 + i) / 4 ≡ p = omega arith in
    let b : (p * 4 + i) % 4 ≡ i = omega arith in
    ltb→lt (raised p i) 16 (subst₂ (λ (x y : ℕ). T (ltb (raised x y) 16)) a b (every_at raised_test 64 all_raised (p * 4 + i) (omega arith)))

module _ (table : List (List ℕ)) (test : T (every (row_test table) 432)) where
  entry_is_set_bit : (c p : ℕ) → 1 ≤ c → c ≤ 27 → p < 16 → entry_of table c p ≡ set_bit c p
  unfolding row_test
  entry_is_set_bit c p lo hi hp =
      let k = 16 * (c - 1) + p in
      let r : k / 16 ≡ c - 1 = omega arith in
      let a : k / 16 + 1 ≡ c = omega arith in
      let b : k % 16 ≡ p = omega arith in
      eqb→eq (entry_of table c p) (set_bit c p) (subst₃ (λ (x y z : ℕ). T (eqb (get_or (get_or table x []) z 0) (set_bit y z))) r a b (every_at (row_test table) 432 test k (omega arith)))

  pub gate_table : GateTable table
  gate_table = record {
    row = entry_is_set_bit;
    rising = λ c p i lo hi hp hi'. subst₂ (λ (x y : ℕ). x ≤ y) (sym (entry_is_set_bit c p lo hi hp)) (sym (entry_is_set_bit c (raised p i) lo hi (raised-in p i hp hi'))) (set_bit-rises c p i lo hi hp hi');
  }

-- ---- unweighted cells

-- the test at a cell and a pattern: weighted, or not a pattern of the cell's pins, or the count decides
unfoldable count_test : ℕ → ℕ → Bool
count_test c p = eqb (threshold c) 0 || (not (ltb p (2 ^ pin_count c)) || eqb (at_least (threshold c) p) (set_bit c p))

all_counts : T (every (λ n. count_test (n / 16) (n % 16)) 192)
unfolding count_test threshold pin_count at_least set_bit set_expression cell_at cells ones ones_in
all_counts = tt

taken : (weighted fits : Bool) (a b : ℕ) → T (weighted || (not fits || eqb a b)) → weighted ≡ false → fits ≡ true → a ≡ b
taken true fits a b t e h = absurd (subst T e tt)
taken false true a b t e h = eqb→eq a b t
taken false false a b t e h = absurd (subst T (sym h) tt)

-- at a pattern of its pins, a cell of threshold m is set exactly if at least m of them are high
pub count_decides : (c p m : ℕ) → threshold c ≡ m → eqb m 0 ≡ false → c < 12 → p < 16 → p < 2 ^ pin_count c → at_least m p ≡ set_bit c p
unfolding count_test
count_decides c p m is some hc hp fits =
    let a : (16 * c + p) / 16 ≡ c = omega arith in
    let b : (16 * c + p) % 16 ≡ p = omega arith in
    ap (λ (x : ℕ). at_least x p) (sym is)
    ∙ taken (eqb (threshold c) 0) (ltb p (2 ^ pin_count c)) (at_least (threshold c) p) (set_bit c p)
    (subst₂ (λ (x y : ℕ). T (count_test x y)) a b (every_at (λ n. count_test (n / 16) (n % 16)) 192 all_counts (16 * c + p) (omega arith)))
    (ap (λ (x : ℕ). eqb x 0) is ∙ some)
    (lt-ltb p (2 ^ pin_count c) fits)
