-- The test of 25: a signal leads out exactly if it is an output or an operand of a gate whose signal leads out.
-- Assumes nothing.
use Prim.Native.Nat.{ℕ, zero, suc, ◌+◌, ◌-◌, ◌≤◌, ◌<◌}
use native.Mathlib.Omega.{arith}
use mathlib.Core.Path.{◌≡◌, refl, sym, ap, ◌∙◌, subst}
use mathlib.Core.Bool.{Bool, true, false, cond, ◌||◌}
use mathlib.Core.Logic.{◌⊎◌, inl, inr, ⊎_elim}
use mathlib.Core.List.{List, [], ◌∷◌, map}
use lib.ListN.{length, get_or}
use lib.Dec.{eqb}
use Rattle.runs.proofs.Test.{or_left, or_right, or_cases, clash}
use Rattle.netlist.specs.Formed.{FormedFrom}
use Rattle.netlist.proofs.References.{in_order_at}
use Rattle.verdict.specs.Graph.{In}
use Rattle.verdict.proofs.Words.{in_numbers, numbers_in}
use Rattle.verdict.proofs.Names.{select_in, in_select}
use Rattle.check_spec.specs.Lists.{numbers, some, reaches}
use Rattle.check_spec.specs.Content.{Content}
use Rattle.check_spec.specs.Rows.{no_gate}
use Rattle.verdict.proofs.Steps.{some_in, some_out, reaches_more}
use Rattle.make_spec.specs.Make.{operands_of, readers, is_output, leads_out, LeadsFound}
use Rattle.make_spec.proofs.Lists.{all_in, among_in, in_among}

module _ (r : Content) (formed : FormedFrom r.inputs r.gates) where
  abbrev size : ℕ
  size = r.inputs + length r.gates

  -- x is an operand of gate k
  abbrev Reads : ℕ → ℕ → Type 0
  Reads k x = (k < length r.gates) × In x (get_or r.gates k no_gate).operands

  pub reads_later : (k x : ℕ) → Reads k x → x < r.inputs + k
  reads_later k x (l, i) = all_in (λ v. v < r.inputs + k) (get_or r.gates k no_gate).operands (in_order_at r.inputs r.gates formed k no_gate l).operands_in_holds x i

  reader_gate : (x z : ℕ) → In z (readers r x) → (k : ℕ) × Reads k x × (z ≡ r.inputs + k)
  unfolding readers
  reader_gate x z i =
      let s = select_in (λ y. some (eqb x) (operands_of r y)) (numbers r.inputs (length r.gates)) z i in
      let h = numbers_in r.inputs (length r.gates) z s.0 in
      (z - r.inputs, (omega (arith, h.0, h.1), among_in x (operands_of r z) s.1), omega (arith, h.0))

  gate-reader : (x k : ℕ) → Reads k x → In (r.inputs + k) (readers r x)
  unfolding readers
  gate-reader x k (l, i) =
      let e : r.inputs + k - r.inputs ≡ k = omega arith in
      in_select (λ y. some (eqb x) (operands_of r y)) (numbers r.inputs (length r.gates)) (r.inputs + k) (in_numbers r.inputs (length r.gates) (r.inputs + k) (omega arith) (omega arith))
      (rw (e, operands_of) (in_among x (get_or r.gates k no_gate).operands i))

  -- some reader is an output or reaches one in k steps
  abbrev test : ℕ → ℕ → Bool
  test k y = cond (is_output r y) true (reaches (readers r) (is_output r) k y)

  test_is : (k y : ℕ) → test k y ≡ (is_output r y || reaches (readers r) (is_output r) k y)
  test_is k y = go (is_output r y)
    where
      go : (b : Bool) → cond b true (reaches (readers r) (is_output r) k y) ≡ (b || reaches (readers r) (is_output r) k y)
      go true = refl
      go false = refl

  -- as many steps as there are later signals are enough
  enough : (k x : ℕ) → size ≤ x + suc k → reaches (readers r) (is_output r) (suc k) x ≡ true → reaches (readers r) (is_output r) k x ≡ true
  unfolding reaches
  enough zero x h e =
      let s = some_out (test 0) (readers r x) e in
      let g = reader_gate x s.0 s.1 in
      absurd (omega (arith, g.1.0, reads_later g.0 x g.1))
  enough (suc k) x h e =
      let s = some_out (test (suc k)) (readers r x) e in
      let g = reader_gate x s.0 s.1 in
      some_in (test k) (readers r x) s.0 s.1
      (test_is k s.0 ∙ ⊎_elim (or_left (is_output r s.0) _) (λ f. or_right (is_output r s.0) _ (enough k s.0 (omega (arith, g.2, reads_later g.0 x g.1)) f))
      (or_cases (is_output r s.0) _ (sym (test_is (suc k) s.0) ∙ s.2)))

  pub output_leads : (x : ℕ) → is_output r x ≡ true → leads_out r x ≡ true
  unfolding leads_out
  output_leads x e = or_left (is_output r x) _ e

  -- an operand of a gate that leads out does so too
  pub operand_leads : (x k : ℕ) → Reads k x → leads_out r (r.inputs + k) ≡ true → leads_out r x ≡ true
  unfolding leads_out reaches
  operand_leads x k g e =
      or_right (is_output r x) _ (enough size x (omega arith) (some_in (test size) (readers r x) (r.inputs + k) (gate-reader x k g) (test_is size (r.inputs + k) ∙ e)))

  -- and nothing else leads out
  pub leads_cases : (x : ℕ) → leads_out r x ≡ true → (is_output r x ≡ true) ⊎ ((k : ℕ) × Reads k x × (leads_out r (r.inputs + k) ≡ true))
  unfolding leads_out reaches
  leads_cases x e = go (or_cases (is_output r x) _ e)
    where
      go : (is_output r x ≡ true) ⊎ (reaches (readers r) (is_output r) size x ≡ true) → (is_output r x ≡ true) ⊎ ((k : ℕ) × Reads k x × (leads_out r (r.inputs + k) ≡ true))
      go (inl o) = inl o
      go (inr f) =
          let s = some_out (test size) (readers r x) (reaches_more (readers r) (is_output r) size x f) in
          let g = reader_gate x s.0 s.1 in
          inr (g.0, g.1, subst (λ (z : ℕ). leads_out r z ≡ true) g.2 (sym (test_is size s.0) ∙ s.2))

  -- however many steps it takes
  pub leads_found : LeadsFound r
  unfolding reaches
  leads_found x zero e = absurd (clash e refl)
  leads_found x (suc k) e =
      let s = some_out (test k) (readers r x) e in
      let g = reader_gate x s.0 s.1 in
      let leads : leads_out r s.0 ≡ true = ⊎_elim (output_leads s.0) (leads_found s.0 k) (or_cases (is_output r s.0) _ (sym (test_is k s.0) ∙ s.2)) in
      operand_leads x g.0 g.1 (subst (λ (z : ℕ). leads_out r z ≡ true) g.2 leads)

-- the outputs of a reference whose outputs are these signals
pub output-is : (x : ℕ) (l : List ℕ) → some (λ (o : List ℕ). eqb x (get_or o 0 0)) (map (λ (v : ℕ). v ∷ []) l) ≡ some (eqb x) l
unfolding some
output-is x [] = refl
output-is x (v ∷ l) = ap (λ (b : Bool). cond (eqb x v) true b) (output-is x l)
