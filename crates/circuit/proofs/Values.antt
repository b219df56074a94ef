-- The gates of a reference in file order: what an operation gives, and what one turn of the loop leaves.
-- Assumes nothing.
use Prim.Native.Nat.{ℕ, zero, suc, ◌+◌, ◌≤◌, ◌<◌}
use native.Mathlib.Omega.{arith}
use native.Mathlib.Numerals.{add-one}
use native.Mathlib.Decide.{ℕ_discrete}
use mathlib.Core.Path.{◌≡◌, refl, sym, ap, ap₂, ◌∙◌}
use mathlib.Core.Bool.{cond}
use mathlib.Core.List.{List, [], ◌∷◌, ◌++◌}
use lib.ListN.{length, get_or, take, drop, set, length-set}
use lib.Seq.{take-suc-set, get_or-set_same, get_or-set_other, drop-length, get_or-take}
use lib.Dec.{eqb}
use borrow.Author.Tests.{ne_eqb}
use Rattle.netlist.specs.declared.Counts.{Counts}
use Rattle.verdict.specs.Answers.{operate, values_at, signal_values}
use Rattle.circuit.specs.Reference.{operator_in, operators_in}
use Rattle.circuit.proofs.Tabulate.{length_tabulate, from_at}

-- ---- one operation

pub operate_other : (op a b : ℕ) → (1 ≤ op → op ≤ 6 → ⊥) → 0 ≡ operate op (a ∷ b ∷ [])
unfolding operate
operate_other zero a b out = refl
operate_other (suc zero) a b out = absurd (out (omega arith) (omega arith))
operate_other (suc (suc zero)) a b out = absurd (out (omega arith) (omega arith))
operate_other (suc (suc (suc zero))) a b out = absurd (out (omega arith) (omega arith))
operate_other (suc (suc (suc (suc zero)))) a b out = absurd (out (omega arith) (omega arith))
operate_other (suc (suc (suc (suc (suc zero))))) a b out = absurd (out (omega arith) (omega arith))
operate_other (suc (suc (suc (suc (suc (suc zero)))))) a b out = absurd (out (omega arith) (omega arith))
operate_other (suc (suc (suc (suc (suc (suc (suc op))))))) a b out = refl

-- an operation on two signals that are known: NOT has the first alone
pub operator_is : (op known : ℕ) (values : List ℕ) (p q : ℕ) → p < known → q < known →
    operate op (get_or values p 0 ∷ get_or values q 0 ∷ []) ≡ operate op (values_at (take known values) (take (cond (eqb op 1) 1 2) (p ∷ q ∷ [])))
unfolding operate
operator_is op known values p q h l = go (ℕ_discrete op 1)
  where
    go : Dec (op ≡ 1) → operate op (get_or values p 0 ∷ get_or values q 0 ∷ []) ≡ operate op
        (values_at (take known values) (take (cond (eqb op 1) 1 2) (p ∷ q ∷ [])))
    go (yes e) = rw (e, get_or-take known values p 0 h)
    go (no d) = rw (ne_eqb op 1 d, get_or-take known values p 0 h, get_or-take known values q 0 l)

-- ---- all gates

module _ (c : Counts) (code : List ℕ) where
  -- the values of the inputs and of the first k gates are written, those of the other gates are to come
  pub record ValuesTo (start values : List ℕ) (k : ℕ) : Type 0 where
    pub within : k ≤ c.gates
    pub same_long : length values ≡ length start
    pub bits : (i : ℕ) → get_or values i 0 ≤ 1
    pub all : signal_values (take (c.inputs + k) values) (drop k (operators_in c code)) ≡ signal_values (take c.inputs start) (operators_in c code)

  pub values_start : (values : List ℕ) → ((i : ℕ) → get_or values i 0 ≤ 1) → ValuesTo values values 0
  values_start values b =
      let e : c.inputs + 0 ≡ c.inputs = omega arith in
      record { within = omega arith; same_long = refl; bits = b; all = ap (λ (m : ℕ). signal_values (take m values) (operators_in c code)) e }

  length-operators : length (operators_in c code) ≡ c.gates
  unfolding operators_in
  length-operators = length_tabulate (operator_in code) c.gates

  operators_from : (k : ℕ) → k < c.gates → drop k (operators_in c code) ≡ operator_in code k ∷ drop (suc k) (operators_in c code)
  unfolding operators_in
  operators_from k h = from_at (operator_in code) c.gates k h

  module _ (start values : List ℕ) (k : ℕ) (v : ValuesTo start values k) where
    pub values_turn : c.inputs + c.gates ≤ length start → k < c.gates → (x : ℕ) →
        (x ≡ operate (operator_in code k).code (values_at (take (c.inputs + k) values) (operator_in code k).operands)) × (x ≤ 1) → ValuesTo start
        (set values (c.inputs + k) x) (k + 1)
    unfolding signal_values
    values_turn room h x is =
        let at = c.inputs + k in
        let e : c.inputs + (k + 1) ≡ suc at = omega arith in
        record {
          within = omega arith;
          same_long = length-set values at x ∙ v.same_long;
          bits = λ i. bit i (ℕ_discrete i at);
          all =
              ap₂ (λ (a b : ℕ). signal_values (take a (set values at x)) (drop b (operators_in c code))) e (add-one k)
              ∙ ap (λ (l : List ℕ). signal_values l (drop (suc k) (operators_in c code))) (take-suc-set values at x (omega (arith, v.same_long)))
              ∙ ap (λ (y : ℕ). signal_values (take at values ++ (y ∷ [])) (drop (suc k) (operators_in c code))) is.0
              ∙ sym (ap (signal_values (take at values)) (operators_from k h))
              ∙ v.all;
        }
      where
        bit : (i : ℕ) → Dec (i ≡ c.inputs + k) → get_or (set values (c.inputs + k) x) i 0 ≤ 1
        bit i (yes q) = rw q (omega (arith, is.1, get_or-set_same values (c.inputs + k) x 0 (omega (arith, v.same_long))))
        bit i (no d) = omega (arith, get_or-set_other values (c.inputs + k) i x 0 d, v.bits i)

    pub values_done : c.gates ≤ k → take (c.inputs + c.gates) values ≡ signal_values (take c.inputs start) (operators_in c code)
    unfolding signal_values
    values_done h =
        let e : k ≡ c.gates = omega (arith, v.within) in
        let z : drop k (operators_in c code) ≡ [] = ap (λ (m : ℕ). drop m (operators_in c code)) (e ∙ sym length-operators)
        ∙ drop-length (operators_in c code) in
        ap (λ (m : ℕ). take (c.inputs + m) values) (sym e) ∙ sym (ap (signal_values (take (c.inputs + k) values)) z) ∙ v.all
