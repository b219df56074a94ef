-- Going through the gates once, the last first, marks the signals that are outputs or lead to one: an operand is an earlier signal than its gate.
-- Assumes nothing.
use Prim.Native.Nat.{ℕ, zero, suc, ◌+◌, ◌≤◌, ◌<◌}
use native.Mathlib.Omega.{arith}
use mathlib.Core.Path.{◌≡◌, refl, sym, ap, ◌∙◌, subst}
use mathlib.Core.Bool.{Bool, true, false, cond, ◌&&◌, ◌||◌, or-false}
use mathlib.Core.Logic.{◌⊎◌, inl, inr, ◌≢◌, ◌↔◌, ⊎_elim}
use mathlib.Core.List.{List, [], ◌∷◌}
use lib.ListN.{length, get_or, set, replicate, length-set, length-replicate}
use lib.Seq.{get_or-set_same, get_or-set_other}
use lib.Dec.{eqb, ltb}
use Rattle.runs.proofs.Test.{clash, true?, not-true, and_in, and_left, and_right, or_left, or_right, or_cases, eqb_same, eqb_other, same?}
use Rattle.netlist.specs.declared.Limits.{Limits}
use Rattle.netlist.specs.Content.{Coded, Reference}
use Rattle.netlist.specs.Writing.{All}
use Rattle.netlist.specs.Formed.{FormedFrom, ReferenceFormed}
use Rattle.netlist.proofs.Lists.{All-map}
use Rattle.verdict.specs.Graph.{In}
use Rattle.verdict.specs.Rows.{high}
use Rattle.check_spec.specs.Lists.{some}
use Rattle.check_spec.specs.Rows.{no_gate}
use Rattle.make_spec.specs.Make.{leads_out}
use Rattle.check_spec.specs.Loaded.{from_reference}
use Rattle.make_spec.specs.Marks.{marked, marked_from}
use Rattle.make_spec.proofs.Lists.{all_in, among_in, in_among}
use Rattle.make_spec.proofs.Leading.{output_leads, operand_leads, leads_cases, output-is}

-- ---- one list of signals marked

high-set : (marks : List ℕ) (x y : ℕ) → x < length marks → high (set marks x 1) y ≡ (eqb y x || high marks y)
high-set marks x y l = go (same? y x)
  where
    go : (y ≡ x) ⊎ (y ≢ x) → high (set marks x 1) y ≡ (eqb y x || high marks y)
    go (inl e) =
        subst (λ (z : ℕ). high (set marks x 1) z ≡ (eqb z x || high marks z)) (sym e)
        (ap (λ (v : ℕ). ltb 0 v) (get_or-set_same marks x 1 0 l) ∙ sym (or_left (eqb x x) (high marks x) (eqb_same x)))
    go (inr d) = ap (λ (v : ℕ). ltb 0 v) (get_or-set_other marks x y 1 0 (λ e. d e)) ∙ sym (ap (λ (b : Bool). b || high marks y) (eqb_other y x d))

pub marked_long : (marks xs : List ℕ) → length (marked marks xs) ≡ length marks
unfolding marked
marked_long marks [] = refl
marked_long marks (x ∷ xs) = marked_long (set marks x 1) xs ∙ simp length-set

or_move : (a b c : Bool) → (b || (a || c)) ≡ (cond a true b || c)
or_move true true c = refl
or_move true false c = refl
or_move false b c = refl

pub marked_high : (marks xs : List ℕ) → All (λ x. x < length marks) xs → (y : ℕ) → high (marked marks xs) y ≡ (some (eqb y) xs || high marks y)
unfolding marked some
marked_high marks [] h y = refl
marked_high marks (x ∷ xs) h y =
    let long : length (set marks x 1) ≡ length marks = simp length-set in
    marked_high (set marks x 1) xs (rw long h.1) y
    ∙ ap (λ (b : Bool). some (eqb y) xs || b) (high-set marks x y h.0)
    ∙ or_move (eqb y x) (some (eqb y) xs) (high marks y)

-- in a row without marks
pub marked_alone : (m : ℕ) (xs : List ℕ) → All (λ x. x < m) xs → (y : ℕ) → high (marked (replicate m 0) xs) y ≡ some (eqb y) xs
marked_alone m xs h y =
    marked_high (replicate m 0) xs (rw (length-replicate {A = ℕ} m 0) h) y ∙ ap (λ (b : Bool). some (eqb y) xs || b) (none m y) ∙ or-false (some (eqb y) xs)
  where
    none : (m y : ℕ) → high (replicate m 0) y ≡ false
    none zero y = refl
    none (suc m) zero = refl
    none (suc m) (suc y) = none m y

-- ---- the gates from signal s on, with some signals marked before

module _ (marks : List ℕ) where
  pub from_long : (s : ℕ) (cs : List Coded) → length (marked_from s cs marks) ≡ length marks
  unfolding marked_from
  from_long s [] = refl
  from_long s (c ∷ cs) = go (high (marked_from (suc s) cs marks) s) (from_long (suc s) cs)
    where
      go : (b : Bool) → length (marked_from (suc s) cs marks) ≡ length marks → length (cond b (marked (marked_from (suc s) cs marks) c.operands) (marked_from (suc s) cs marks)) ≡ length marks
      go true e = marked_long (marked_from (suc s) cs marks) c.operands ∙ e
      go false e = e

  -- one gate more
  from_high : (s : ℕ) (c : Coded) (cs : List Coded) → All (λ x. x < s) c.operands → s < length marks → (y : ℕ)
      → high (marked_from s (c ∷ cs) marks) y ≡ (high (marked_from (suc s) cs marks) s && some (eqb y) c.operands || high (marked_from (suc s) cs marks) y)
  unfolding marked_from
  from_high s c cs h l y = go (high (marked_from (suc s) cs marks) s)
    where
      later : List ℕ
      later = marked_from (suc s) cs marks

      go : (b : Bool) → high (cond b (marked later c.operands) later) y ≡ (b && some (eqb y) c.operands || high later y)
      go true = marked_high later c.operands (All-map (λ x. x < s) (λ x. x < length later) (λ x k. omega (arith, from_long (suc s) cs)) c.operands h) y
      go false = refl

  -- y is marked before, or an operand of one of these gates, of whose signal L holds
  abbrev Says : (ℕ → Type 0) → ℕ → List Coded → ℕ → Type 0
  Says L s cs y = (high marks y ≡ true) ⊎ ((k : ℕ) × (k < length cs) × In y (get_or cs k no_gate).operands × L (s + k))

  -- if that is what L says of these signals, it is what is marked
  pub from_says : (L : ℕ → Type 0) (s : ℕ) (cs : List Coded) → FormedFrom s cs → s + length cs ≤ length marks → ((y : ℕ) → s ≤ y → L y ↔ Says L s cs y)
      → (y : ℕ) → (high (marked_from s cs marks) y ≡ true) ↔ Says L s cs y
  unfolding marked_from
  from_says L s [] f l is y = (λ e. inl e, ⊎_elim (λ e. e) (λ h. absurd (omega (arith, h.1))))
  from_says L s (c ∷ cs) f l is y =
      let ih = from_says L (suc s) cs f.1 (omega arith) (λ z h. ((λ e. pick z (omega arith) (out z ((is z (omega arith)).0 e))), λ e. (is z (omega arith)).1 (on z e))) in
      let at-s : (high later s ≡ true) ↔ L s = ((λ e. (is s (omega arith)).1 (on s ((ih s).0 e))), λ e. (ih s).1 (pick s (omega arith) (out s ((is s (omega arith)).0 e)))) in
      let high_is = from_high s c cs f.0.operands_in_holds (omega arith) y in (
        (λ e. ⊎_elim
            (λ h. inr (0, omega arith, among_in y c.operands (and_right (high later s) _ h), rw zero_more (at-s.0 (and_left (high later s) _ h))))
            (λ h. on y ((ih y).0 h)) (or_cases (high later s && some (eqb y) c.operands) _ (sym high_is ∙ e))),
        (λ e. high_is ∙ ⊎_elim
            (λ h. or_left (high later s && some (eqb y) c.operands) _ (and_in (high later s) _ (at-s.1 h.1) (in_among y c.operands h.0)))
            (λ h. or_right (high later s && some (eqb y) c.operands) _ ((ih y).1 h)) (out y e)),
      )
    where
      later : List ℕ
      later = marked_from (suc s) cs marks

      zero_more : s + 0 ≡ s
      zero_more = omega arith

      one_more : (k : ℕ) → s + suc k ≡ suc s + k
      one_more k = omega arith

      on : (z : ℕ) → Says L (suc s) cs z → Says L s (c ∷ cs) z
      on z (inl e) = inl e
      on z (inr (k, h, i, e)) = inr (suc k, omega arith, i, rw (one_more k) e)

      out : (z : ℕ) → Says L s (c ∷ cs) z → (In z c.operands × L s) ⊎ Says L (suc s) cs z
      out z (inl e) = inr (inl e)
      out z (inr (zero, h, i, e)) = inl (i, rw zero_more at e)
      out z (inr (suc k, h, i, e)) = inr (inr (k, omega arith, i, rw (one_more k) at e))

      -- the operands of the first gate are earlier signals
      pick : (z : ℕ) → s ≤ z → (In z c.operands × L s) ⊎ Says L (suc s) cs z → Says L (suc s) cs z
      pick z h (inl x) = absurd (omega (arith, all_in (λ v. v < s) c.operands f.0.operands_in_holds z x.0))
      pick z h (inr x) = x

-- ---- the whole reference

-- the marks, in a row of at least as many signals, are the test of 25
pub marks_are : {most : Limits} (r : Reference) → ReferenceFormed most r → (m : ℕ) → r.inputs + length r.gates ≤ m
    → (x : ℕ) → high (marked_from r.inputs r.gates (marked (replicate m 0) r.outputs)) x ≡ leads_out (from_reference r) x
marks_are r formed m l x = go (true? (leads_out (from_reference r) x))
  where
    gates : FormedFrom r.inputs r.gates
    gates = formed.gates_formed

    marks : List ℕ
    marks = marked (replicate m 0) r.outputs

    outputs : (y : ℕ) → high marks y ≡ some (eqb y) r.outputs
    outputs = marked_alone m r.outputs (All-map (λ v. v < r.inputs + length r.gates) (λ v. v < m) (λ v h. omega arith) r.outputs formed.outputs_formed)

    L : ℕ → Type 0
    L y = leads_out (from_reference r) y ≡ true

    is : (y : ℕ) → L y ↔ Says marks L r.inputs r.gates y
    is y = (
      (λ e. ⊎_elim (λ o. inl (outputs y ∙ sym (output-is y r.outputs) ∙ o)) (λ h. inr (h.0, h.1.0, h.1.1, h.2)) (leads_cases (from_reference r) gates y e)),
      ⊎_elim
          (λ h. output_leads (from_reference r) gates y (output-is y r.outputs ∙ sym (outputs y) ∙ h))
          (λ h. operand_leads (from_reference r) gates y h.0 (h.1, h.2) h.3),
    )

    says : (high (marked_from r.inputs r.gates marks) x ≡ true) ↔ Says marks L r.inputs r.gates x
    says = from_says marks L r.inputs r.gates gates (omega (arith, length-replicate {A = ℕ} m 0, marked_long (replicate m 0) r.outputs)) (λ y h. is y) x

    go : (leads_out (from_reference r) x ≡ true) ⊎ (leads_out (from_reference r) x ≡ false) → high (marked_from r.inputs r.gates marks) x ≡ leads_out (from_reference r) x
    go (inl e) = says.1 ((is x).0 e) ∙ sym e
    go (inr e) = not-true _ (λ h. clash ((is x).1 (says.0 h)) e) ∙ sym e
