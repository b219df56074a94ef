-- Marks of the signals that lead to an output, as the loops set them: what is to be marked yet gives all; a row may be longer than the signals.
-- Assumes nothing.
use Rattle.std.specs.Prelude.{Option, Some}
use Prim.Native.Nat.{ℕ, zero, suc, ◌+◌, ◌-◌, ◌≤◌, ◌<◌}
use native.Mathlib.Omega.{arith}
use native.Mathlib.Numerals.{add-one}
use mathlib.Core.Path.{◌≡◌, refl, sym, ap, ap₂, ◌∙◌}
use mathlib.Core.Bool.{Bool, true, false, cond, not}
use mathlib.Core.List.{List, [], ◌∷◌}
use lib.ListN.{length, set, take, drop, replicate, length-set}
use lib.Dec.{eqb}
use borrow.Author.Tests.{eq-eqb, ne_eqb}
use Rattle.netlist.specs.declared.Counts.{Counts}
use Rattle.netlist.specs.Content.{Coded}
use Rattle.netlist.specs.Formed.{ReferenceFormed}
use Rattle.verdict.specs.Rows.{high}
use Rattle.verdict.specs.Words.{numbers}
use Rattle.verdict.specs.Checks.{first}
use Rattle.verdict.specs.Search.{least}
use Rattle.make_spec.specs.Make.{leads_out}
use Rattle.check_spec.specs.Loaded.{from_reference}
use Rattle.make_spec.specs.Count.{operations}
use Rattle.make_spec.specs.Marks.{marked, marked_from}
use Rattle.make_spec.proofs.Marks.{from_long, marks_are}
use Rattle.circuit.specs.Stage.{tabulate}
use Rattle.netlist.specs.Reading.{reference_limits}
use Rattle.circuit.specs.Reference.{operator_in, operators_in, signals_in, reference_in}
use Rattle.circuit.proofs.Tabulate.{length_tabulate, from_at, none_from}

-- ---- a loop that marks the values of a function

pub record MarkedTo (f : ℕ → ℕ) (m : ℕ) (marks₀ marks : List ℕ) (j : ℕ) : Type 0 where
  pub long : length marks ≡ length marks₀
  pub all : marked marks (drop j (tabulate f m)) ≡ marked marks₀ (tabulate f m)

pub marked_turn : (f : ℕ → ℕ) (m : ℕ) {marks₀ marks : List ℕ} {j : ℕ} → j < m → MarkedTo f m marks₀ marks j → MarkedTo f m marks₀ (set marks (f j) 1) (j + 1)
unfolding marked
marked_turn f m {marks₀} {marks} {j} l t = record {
  long = length-set marks (f j) 1 ∙ t.long;
  all =
      ap (λ (k : ℕ). marked (set marks (f j) 1) (drop k (tabulate f m))) (add-one j)
      ∙ sym (ap (marked marks) (from_at f m j l))
      ∙ t.all;
}

pub marked_done : (f : ℕ → ℕ) (m : ℕ) {marks₀ marks : List ℕ} {j : ℕ} → m ≤ j → MarkedTo f m marks₀ marks j → marks ≡ marked marks₀ (tabulate f m)
unfolding marked
marked_done f m {marks₀} {marks} {j} l t = sym (ap (marked marks) (none_from f m j l)) ∙ t.all

-- ---- the operands of a gate

pub operands_one : (marks : List ℕ) (op a b : ℕ) → op ≡ 1 → set marks a 1 ≡ marked marks (take (cond (eqb op 1) 1 2) (a ∷ b ∷ []))
unfolding marked
operands_one marks op a b e = rw (eq-eqb op 1 e)

pub operands_two : (marks : List ℕ) (op a b : ℕ) → ¬ (op ≡ 1) → set (set marks a 1) b 1 ≡ marked marks (take (cond (eqb op 1) 1 2) (a ∷ b ∷ []))
unfolding marked
operands_two marks op a b d = rw (ne_eqb op 1 d)

-- ---- the gates, the last first

module _ (c : Counts) (code : List ℕ) where
  -- the gates from gate k on have marked their operands
  pub record LeadingTo (marks₀ marks : List ℕ) (k : ℕ) : Type 0 where
    pub most : k ≤ c.gates
    pub is : marks ≡ marked_from (c.inputs + k) (drop k (operators_in c code)) marks₀

  module _ (marks₀ : List ℕ) where
    pub leading_long : {marks : List ℕ} {k : ℕ} → LeadingTo marks₀ marks k → length marks ≡ length marks₀
    leading_long {k = k} t = ap length t.is ∙ from_long marks₀ (c.inputs + k) (drop k (operators_in c code))

    pub leading_start : LeadingTo marks₀ marks₀ c.gates
    unfolding marked_from operators_in
    leading_start = record {
      most = omega arith;
      is = sym (ap (λ (cs : List Coded). marked_from (c.inputs + c.gates) cs marks₀) (none_from (operator_in code) c.gates c.gates (omega arith)));
    }

    from_gate : (k : ℕ) → k < c.gates → (marks : List ℕ) → marks ≡ marked_from (c.inputs + suc k) (drop (suc k) (operators_in c code)) marks₀
        → marked_from (c.inputs + k) (drop k (operators_in c code)) marks₀ ≡ cond (high marks (c.inputs + k)) (marked marks (operator_in code k).operands) marks
    unfolding marked_from operators_in
    from_gate k l marks e =
        let s : suc (c.inputs + k) ≡ c.inputs + suc k = omega arith in
        ap (λ (cs : List Coded). marked_from (c.inputs + k) cs marks₀) (from_at (operator_in code) c.gates k l)
        ∙ ap (λ (later : List ℕ). cond (high later (c.inputs + k)) (marked later (operator_in code k).operands) later)
        (ap (λ (i : ℕ). marked_from i (drop (suc k) (operators_in c code)) marks₀) s ∙ sym e)

    earlier : {marks : List ℕ} {k : ℕ} → 0 < k → LeadingTo marks₀ marks k → marks ≡ marked_from (c.inputs + suc (k - 1)) (drop (suc (k - 1)) (operators_in c code)) marks₀
    earlier {marks} {k} l t = let e : k ≡ suc (k - 1) = omega arith in t.is ∙ ap (λ (i : ℕ). marked_from (c.inputs + i) (drop i (operators_in c code)) marks₀) e

    pub leading_marked : {marks after : List ℕ} {k : ℕ} → 0 < k → LeadingTo marks₀ marks k → high marks (c.inputs + (k - 1)) ≡ true
        → after ≡ marked marks (operator_in code (k - 1)).operands → LeadingTo marks₀ after (k - 1)
    leading_marked {marks} {after} {k} l t h e = record {
      most = omega (arith, t.most);
      is =
          e
          ∙ sym (ap (λ (b : Bool). cond b (marked marks (operator_in code (k - 1)).operands) marks) h)
          ∙ sym (from_gate (k - 1) (omega (arith, t.most)) marks (earlier l t));
    }

    pub leading_unmarked : {marks : List ℕ} {k : ℕ} → 0 < k → LeadingTo marks₀ marks k → high marks (c.inputs + (k - 1)) ≡ false → LeadingTo marks₀ marks (k - 1)
    leading_unmarked {marks} {k} l t h = record {
      most = omega (arith, t.most);
      is =
          sym (ap (λ (b : Bool). cond b (marked marks (operator_in code (k - 1)).operands) marks) h)
          ∙ sym (from_gate (k - 1) (omega (arith, t.most)) marks (earlier l t));
    }

    pub leading_done : {marks : List ℕ} {k : ℕ} → k ≡ 0 → LeadingTo marks₀ marks k → marks ≡ marked_from c.inputs (operators_in c code) marks₀
    leading_done {marks} {k} e t =
        let z : c.inputs + 0 ≡ c.inputs = omega arith in
        t.is
        ∙ ap (λ (i : ℕ). marked_from (c.inputs + i) (drop i (operators_in c code)) marks₀) e
        ∙ ap (λ (i : ℕ). marked_from i (operators_in c code) marks₀) z

-- ---- the count of operations, the last first

module _ (code : List ℕ) (m : ℕ) where
  -- of the m gates those from gate k on are counted
  pub record CountedTo (count k : ℕ) : Type 0 where
    pub most : k ≤ m
    pub few : count + k ≤ m
    pub is : count ≡ operations (drop k (tabulate (operator_in code) m))

  pub counted_start : CountedTo 0 m
  unfolding operations
  counted_start = record { most = omega arith; few = omega arith; is = sym (ap operations (none_from (operator_in code) m m (omega arith))) }

  count-gate : (k : ℕ) → k < m → operations (drop k (tabulate (operator_in code) m))
      ≡ cond (eqb (operator_in code k).code 1) (operations (drop (suc k) (tabulate (operator_in code) m))) (suc (operations (drop (suc k) (tabulate (operator_in code) m))))
  unfolding operations
  count-gate k l = ap operations (from_at (operator_in code) m k l)

  before : {count k : ℕ} → 0 < k → CountedTo count k → count ≡ operations (drop (suc (k - 1)) (tabulate (operator_in code) m))
  before {count} {k} l t = let e : k ≡ suc (k - 1) = omega arith in t.is ∙ ap (λ (i : ℕ). operations (drop i (tabulate (operator_in code) m))) e

  pub counted_not : {count k : ℕ} → 0 < k → CountedTo count k → (operator_in code (k - 1)).code ≡ 1 → CountedTo count (k - 1)
  counted_not {count} {k} l t e = record {
    most = omega (arith, t.most);
    few = omega (arith, t.few);
    is = before l t ∙ sym (count-gate (k - 1) (omega (arith, t.most)) ∙ rw (eq-eqb (operator_in code (k - 1)).code 1 e));
  }

  pub counted_one : {count k : ℕ} → 0 < k → CountedTo count k → ¬ ((operator_in code (k - 1)).code ≡ 1) → CountedTo (count + 1) (k - 1)
  counted_one {count} {k} l t d = record {
    most = omega (arith, t.most);
    few = omega (arith, t.few);
    is =
        add-one count
        ∙ ap suc (before l t)
        ∙ sym (count-gate (k - 1) (omega (arith, t.most)) ∙ rw (ne_eqb (operator_in code (k - 1)).code 1 d));
  }

-- ---- the search for 25

least-same : (f g : ℕ → Bool) (j m : ℕ) → ((i : ℕ) → j ≤ i → i < j + m → f i ≡ g i) → least f j m ≡ least g j m
unfolding first numbers
least-same f g j zero h = refl
least-same f g j (suc m) h =
    ap₂ (λ (b : Bool) (x : Option ℕ). cond b (Some j) x) (h j (omega arith) (omega arith)) (least-same f g (suc j) m (λ i l u. h i (omega arith) (omega arith)))

-- among the marks, in a row of at least as many signals
pub nowhere_in : (c : Counts) (code : List ℕ) → ReferenceFormed reference_limits (reference_in c code) → (size : ℕ) → c.inputs + c.gates ≤ size → (between marks : List ℕ)
    → between ≡ marked (replicate size 0) (signals_in c code) → marks ≡ marked_from c.inputs (operators_in c code) between
    → least (λ x. not (high marks x)) 0 (c.inputs + c.gates) ≡ least (λ x. not (leads_out (from_reference (reference_in c code)) x)) 0 (c.inputs + c.gates)
unfolding operators_in
nowhere_in c code formed size l between marks e f =
    ap (λ (m : List ℕ). least (λ x. not (high m x)) 0 (c.inputs + c.gates)) (f ∙ ap (marked_from c.inputs (operators_in c code)) e)
    ∙ least-same _ _ 0 (c.inputs + c.gates) (λ i h u. ap not (marks_are (reference_in c code) formed size (omega (arith, length_tabulate (operator_in code) c.gates)) i))
