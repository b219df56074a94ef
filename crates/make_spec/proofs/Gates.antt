-- The two gates of an operation: the rail of value x is set where rails of both operands are high that give x, and, where no operand has both
-- rails high, only there. One computed test over all operations and all levels of the operands' rails.
-- Assumes nothing.
use Prim.Native.Nat.{ℕ, zero, suc, ◌+◌, ◌≤◌, ◌<◌}
use native.Mathlib.Omega.{arith}
use mathlib.Core.Path.{◌≡◌, refl, sym, ap, ◌∙◌, fun_ext}
use mathlib.Core.Bool.{Bool, true, false, not, cond, ◌&&◌}
use mathlib.Core.List.{List, [], ◌∷◌, map, map-map}
use lib.ListN.{length, get_or, length-map}
use lib.Dec.{eqb, leb, ltb}
use borrow.Author.Tests.{leb-true, ltb-true}
use Rattle.gates.specs.Expression.{holds}
use Rattle.gates.specs.Cell as g
use Rattle.gates.specs.Cell.{bit, set_expression, kind_of, is_retired}
use Rattle.runs.specs.Row.{Row}
use Rattle.runs.specs.Pair.{Both}
use Rattle.runs.proofs.Test.{clash, and_in, and_left, and_right, eqb_eq, of_not}
use Rattle.netlist.specs.declared.File.TheVariants as file
use Rattle.netlist.specs.Commands as k
use Rattle.netlist.specs.Commands.{needed}
use Rattle.netlist.specs.Coded.{Coded, hold_of}
use Rattle.netlist.specs.Writing.{All}
use Rattle.check_spec.specs.Lists.{xor}
use Rattle.check_spec.specs.Rows.{no_gate, cell_in, set_in}
use Rattle.check_spec.specs.Words.{operate}
use Rattle.make_spec.specs.Make.{realize}
use Rattle.make_spec.proofs.Signals.{Cause}

-- ---- the operations with two operands

pub data Binary : Type 0 where
  and or xor' nand nor : Binary

abbrev pub code_of : Binary → ℕ
code_of and = 2
code_of or = 3
code_of xor' = 4
code_of nand = 5
code_of nor = 6

-- a test that holds of all of them
abbrev of_all : (Binary → Bool) → Bool
of_all f = f and && (f or && (f xor' && (f nand && f nor)))

all_out : (f : Binary → Bool) → of_all f ≡ true → (k : Binary) → f k ≡ true
all_out f e and = and_left (f and) _ e
all_out f e or = and_left (f or) _ (and_right (f and) _ e)
all_out f e xor' = and_left (f xor') _ (and_right (f or) _ (and_right (f and) _ e))
all_out f e nand = and_left (f nand) _ (and_right (f xor') _ (and_right (f or) _ (and_right (f and) _ e)))
all_out f e nor = and_right (f nand) _ (and_right (f xor') _ (and_right (f or) _ (and_right (f and) _ e)))

-- ---- rails and gates

-- whether the first gate drives rail 1: gate i of the two drives the rail of value i, or of the other
abbrev pub turned : Binary → Bool
turned and = true
turned or = false
turned xor' = false
turned nand = false
turned nor = true

abbrev pub rails_from : Bool → ℕ → List ℕ
rails_from true net = (net + 1) ∷ net ∷ []
rails_from false net = net ∷ (net + 1) ∷ []

pub rail_at : (t x : Bool) (net : ℕ) → get_or (rails_from t net) (bit x) 0 ≡ net + bit (xor t x)
rail_at true true net = omega arith
rail_at true false net = omega arith
rail_at false true net = omega arith
rail_at false false net = omega arith

pub bit_small : (x : Bool) → bit x < 2
bit_small true = omega arith
bit_small false = omega arith

pub xor_twice : (t x : Bool) → xor t (xor t x) ≡ x
xor_twice true true = refl
xor_twice true false = refl
xor_twice false x = refl

-- the rails of both operands by numbers from 0 to 3
abbrev rail_of : List ℕ → List ℕ → ℕ → ℕ
rail_of a b zero = get_or a 0 0
rail_of a b (suc zero) = get_or a 1 0
rail_of a b (suc (suc zero)) = get_or b 0 0
rail_of a b (suc (suc (suc i))) = get_or b 1 0

-- a gate with these at its pins
abbrev pub with_rails : List ℕ → List ℕ → Coded → Coded
with_rails a b x = record { code = x.code; operands = map (rail_of a b) x.operands }

-- gate 0 and gate 1 of an operation, with the numbers for the rails
abbrev pub cell : Binary → Bool → Coded
cell k y = get_or (realize (code_of k) (0 ∷ 1 ∷ []) (2 ∷ 3 ∷ []) 0).gates (bit y) no_gate

-- what an operation becomes
pub realize_two : (k : Binary) (a b : List ℕ) (net : ℕ)
    → realize (code_of k) a b net ≡ record { gates = with_rails a b (cell k false) ∷ with_rails a b (cell k true) ∷ []; rails = rails_from (turned k) net ∷ [] }
unfolding realize
realize_two and a b net = refl
realize_two or a b net = refl
realize_two xor' a b net = refl
realize_two nand a b net = refl
realize_two nor a b net = refl

-- ---- kinds and pins

-- a gate of a known kind with hold, which is cast, whose pins are below a number
pub record Fit (below : ℕ) (x : Coded) : Type 0 where
  pub has_hold : hold_of (kind_of x.code) ≡ true
  pub cast : is_retired (cell_in x) ≡ false
  pub code_byte : x.code < 256
  pub known : 1 ≤ needed file.Stage x.code
  pub whole : length x.operands ≡ needed file.Stage x.code
  pub pins_in_holds : All (λ v. v < below) x.operands

-- all but the pins, as a test
abbrev fit_test : Coded → Bool
fit_test x =
    hold_of (kind_of x.code) && (not (is_retired (cell_in x)) && (ltb x.code 256
    && (leb 1 (needed file.Stage x.code) && eqb (length x.operands) (needed file.Stage x.code))))

all_fit : of_all (λ k. fit_test (cell k false) && fit_test (cell k true)) ≡ true
unfolding realize is_retired g.retired_cells g.among g.kind_of g.pin_count g.cell_at g.cells k.needed k.pins_needed
all_fit = refl

cell-fit : (k : Binary) (y : Bool) → fit_test (cell k y) ≡ true
cell-fit k true = and_right (fit_test (cell k false)) _ (all_out (λ k. fit_test (cell k false) && fit_test (cell k true)) all_fit k)
cell-fit k false = and_left (fit_test (cell k false)) _ (all_out (λ k. fit_test (cell k false) && fit_test (cell k true)) all_fit k)

-- rail x of two, and both below a number
abbrev pub rail : List ℕ → Bool → ℕ
rail p x = get_or p (bit x) 0

abbrev pub BothBelow : ℕ → List ℕ → Type 0
BothBelow below p = (x : Bool) → rail p x < below

pub gate_fit : (below : ℕ) (a b : List ℕ) → BothBelow below a → BothBelow below b → (k : Binary) (y : Bool) → Fit below (with_rails a b (cell k y))
gate_fit below a b ha hb k y =
    let x = cell k y in
    let e = cell-fit k y in
    let f = and_right (hold_of (kind_of x.code)) _ e in
    let h = and_right (not (is_retired (cell_in x))) _ f in
    let i = and_right (ltb x.code 256) _ h in
    record {
      has_hold = and_left (hold_of (kind_of x.code)) _ e;
      cast = of_not (is_retired (cell_in x)) (and_left (not (is_retired (cell_in x))) _ f);
      code_byte = ltb-true x.code 256 (and_left (ltb x.code 256) _ h);
      known = leb-true 1 (needed file.Stage x.code) (and_left (leb 1 (needed file.Stage x.code)) _ i);
      whole = length-map x.operands (rail_of a b) ∙ eqb_eq (length x.operands) _ (and_right (leb 1 (needed file.Stage x.code)) _ i);
      pins_in_holds = pins x.operands;
    }
  where
    below_at : (i : ℕ) → rail_of a b i < below
    below_at zero = ha false
    below_at (suc zero) = ha true
    below_at (suc (suc zero)) = hb false
    below_at (suc (suc (suc i))) = hb true

    pins : (l : List ℕ) → All (λ v. v < below) (map (rail_of a b) l)
    pins [] = tt
    pins (i ∷ l) = (below_at i, pins l)

-- ---- set expressions

-- a test that holds of both Booleans
abbrev every : (Bool → Bool) → Bool
every f = f true && f false

every_out : (f : Bool → Bool) → every f ≡ true → (b : Bool) → f b ≡ true
every_out f e true = and_left (f true) (f false) e
every_out f e false = and_right (f true) (f false) e

abbrev of_four : (Bool → Bool → Bool → Bool → Bool) → Bool
of_four f = every (λ a0. every (λ a1. every (λ b0. every (f a0 a1 b0))))

four-out : (f : Bool → Bool → Bool → Bool → Bool) → of_four f ≡ true → (a0 a1 b0 b1 : Bool) → f a0 a1 b0 b1 ≡ true
four-out f e a0 a1 b0 b1 =
    every_out (f a0 a1 b0) (every_out (λ b0. every (f a0 a1 b0)) (every_out (λ a1. every (λ b0. every (f a0 a1 b0))) (every_out (λ a0. every (λ a1. every (λ b0. every (f a0 a1 b0)))) e a0) a1) b0) b1

abbrev implies : Bool → Bool → Bool
implies x y = cond x y true

implies_out : (x y : Bool) → implies x y ≡ true → x ≡ true → y ≡ true
implies_out true y e h = e
implies_out false y e h = absurd (clash h refl)

same_out : (x y : Bool) → xor x (not y) ≡ true → x ≡ y
same_out true true e = refl
same_out true false e = absurd (clash e refl)
same_out false true e = absurd (clash e refl)
same_out false false e = refl

-- the level of rail p, of the two levels of a pair
abbrev level : Bool → Bool → Bool → Bool
level p x0 x1 = cond p x1 x0

-- four nets with these levels
abbrev four : Bool → Bool → Bool → Bool → Row
four a0 a1 b0 b1 zero = a0
four a0 a1 b0 b1 (suc zero) = a1
four a0 a1 b0 b1 (suc (suc zero)) = b0
four a0 a1 b0 b1 (suc (suc (suc i))) = b1

-- whether the rail of value x is set, by the levels of the operands' rails
abbrev sets : Binary → Bool → Bool → Bool → Bool → Bool → Bool
sets k x a0 a1 b0 b1 = set_in (four a0 a1 b0 b1) (cell k (xor (turned k) x))

-- where rails p and q of the operands are high, the rail of their value is set
abbrev set_where : Binary → Bool → Bool → Bool → Bool → Bool → Bool → Bool
set_where k p q a0 a1 b0 b1 = implies (level p a0 a1 && level q b0 b1) (sets k (operate (code_of k) p q) a0 a1 b0 b1)

-- where rail x is set and no operand has both rails high, each operand has a rail that is high, and x is the value of these
abbrev set_only : Binary → Bool → Bool → Bool → Bool → Bool → Bool
set_only k x a0 a1 b0 b1 =
    implies (sets k x a0 a1 b0 b1 && (not (a0 && a1) && not (b0 && b1))) (level a1 a0 a1 && (level b1 b0 b1 && xor (operate (code_of k) a1 b1) (not x)))

all_where : of_all (λ k. every (λ p. every (λ q. of_four (set_where k p q)))) ≡ true
unfolding realize operate set_expression g.kind_of g.pin_count g.cell_at g.cells
all_where = refl

all_only : of_all (λ k. every (λ x. of_four (set_only k x))) ≡ true
unfolding realize operate set_expression g.kind_of g.pin_count g.cell_at g.cells
all_only = refl

-- the gate that drives the rail of value x
abbrev pub gate_for : Binary → Bool → List ℕ → List ℕ → Coded
gate_for k x a b = with_rails a b (cell k (xor (turned k) x))

module _ (k : Binary) (r : Row) (a b : List ℕ) where
  abbrev a0 : Bool
  a0 = r (get_or a 0 0)

  abbrev a1 : Bool
  a1 = r (get_or a 1 0)

  abbrev b0 : Bool
  b0 = r (get_or b 0 0)

  abbrev b1 : Bool
  b1 = r (get_or b 1 0)

  sets_at : (x : Bool) → set_in r (gate_for k x a b) ≡ sets k x a0 a1 b0 b1
  sets_at x =
      let c = cell k (xor (turned k) x) in
      ap (λ (l : List Bool). holds (set_expression (cell_in c)) (λ i. get_or l i false)) (map-map r (rail_of a b) c.operands)
      ∙ ap (λ (m : Row). set_in m c) (fun_ext alike)
    where
      alike : (i : ℕ) → r (rail_of a b i) ≡ four a0 a1 b0 b1 i
      alike zero = refl
      alike (suc zero) = refl
      alike (suc (suc zero)) = refl
      alike (suc (suc (suc i))) = refl

  level_at : (p : Bool) (c : List ℕ) → r (rail c p) ≡ level p (r (get_or c 0 0)) (r (get_or c 1 0))
  level_at true c = refl
  level_at false c = refl

  pub gate_set : (p q : Bool) → r (rail a p) ≡ true → r (rail b q) ≡ true → set_in r (gate_for k (operate (code_of k) p q) a b) ≡ true
  gate_set p q ha hb =
      sets_at (operate (code_of k) p q)
      ∙ implies_out (level p a0 a1 && level q b0 b1) _
      (four-out (set_where k p q) (every_out (λ q. of_four (set_where k p q)) (every_out (λ p. every (λ q. of_four (set_where k p q))) (all_out (λ k. every (λ p. every (λ q. of_four (set_where k p q)))) all_where k) p) q) a0 a1 b0 b1)
      (and_in (level p a0 a1) (level q b0 b1) (sym (level_at p a) ∙ ha) (sym (level_at q b) ∙ hb))

  not_and : (x y : Bool) → ¬ ((x ≡ true) × (y ≡ true)) → not (x && y) ≡ true
  not_and true true f = absurd (f (refl, refl))
  not_and true false f = refl
  not_and false y f = refl

  pub gate_cause : (x : Bool) → ¬ (Both r (rail a)) → ¬ (Both r (rail b)) → set_in r (gate_for k x a b) ≡ true → Cause (operate (code_of k)) (rail a) (rail b) r x
  gate_cause x na nb e =
      let h = implies_out (sets k x a0 a1 b0 b1 && (not (a0 && a1) && not (b0 && b1))) _
      (four-out (set_only k x) (every_out (λ x. of_four (set_only k x)) (all_out (λ k. every (λ x. of_four (set_only k x))) all_only k) x) a0 a1 b0 b1)
      (and_in (sets k x a0 a1 b0 b1) _ (sym (sets_at x) ∙ e) (and_in (not (a0 && a1)) (not (b0 && b1)) (not_and a0 a1 na) (not_and b0 b1 nb))) in
      let i = and_right (level a1 a0 a1) _ h in
      record {
        p = a1;
        q = b1;
        first = level_at a1 a ∙ and_left (level a1 a0 a1) _ h;
        second = level_at b1 b ∙ and_left (level b1 b0 b1) _ i;
        gives = same_out (operate (code_of k) a1 b1) x (and_right (level b1 b0 b1) _ i);
      }
