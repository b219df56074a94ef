-- The values of a reference's signals: each gate's is its operation's on the values of its operands.
-- Assumes nothing.
use Prim.Native.Nat.{ℕ, zero, suc, ◌+◌, ◌<◌}
use native.Mathlib.Omega.{arith}
use mathlib.Core.Path.{◌≡◌, refl, sym, ap, ap₂, ◌∙◌, subst}
use mathlib.Core.Bool.{Bool, false}
use mathlib.Core.List.{List, [], ◌∷◌, ◌++◌, map}
use lib.ListN.{length, get_or, length-append, get_or-append}
use lib.Seq.{get_or-append_seam}
use Rattle.netlist.specs.Coded.{Coded}
use Rattle.netlist.specs.Writing.{All}
use Rattle.netlist.specs.Formed.{FormedFrom}
use Rattle.check_spec.specs.Rows.{no_gate}
use Rattle.check_spec.specs.Words.{operate, values}

-- the values of some signals, and the operation of a gate on them
abbrev values_at : List Bool → List ℕ → List Bool
values_at known signals = map (λ (x : ℕ). get_or known x false) signals

abbrev pub value_of : List Bool → Coded → Bool
value_of known g = operate g.code (get_or (values_at known g.operands) 0 false) (get_or (values_at known g.operands) 1 false)

pub values_prefix : (known : List Bool) (gates : List Coded) (s : ℕ) → s < length known → get_or (values known gates) s false ≡ get_or known s false
unfolding values
values_prefix known [] s l = refl
values_prefix known (g ∷ gates) s l =
    let x = value_of known g in
    values_prefix (known ++ (x ∷ [])) gates s (omega (arith, length-append known (x ∷ []))) ∙ get_or-append known (x ∷ []) false s l

operands_prefix : (known : List Bool) (gates : List Coded) (signals : List ℕ) → All (λ v. v < length known) signals → values_at (values known gates) signals ≡ values_at known signals
operands_prefix known gates [] h = refl
operands_prefix known gates (v ∷ signals) h = ap₂ {C = List Bool} (λ x l. x ∷ l) (values_prefix known gates v h.0) (operands_prefix known gates signals h.1)

pub values_at_holds : (known : List Bool) (gates : List Coded) → FormedFrom (length known) gates → (i : ℕ) → i < length gates
    → get_or (values known gates) (length known + i) false ≡ value_of (values known gates) (get_or gates i no_gate)
unfolding values
values_at_holds known [] f i l = absurd (omega arith)
values_at_holds known (g ∷ gates) f zero l =
    let x = value_of known g in
    let e : length known + 0 ≡ length known = omega arith in
    rw e
    (values_prefix (known ++ (x ∷ [])) gates (length known) (omega (arith, length-append known (x ∷ []))) ∙ get_or-append_seam known x [] false
    ∙ sym (ap (λ (l : List Bool). operate g.code (get_or l 0 false) (get_or l 1 false)) (operands_prefix known (g ∷ gates) g.operands f.0.operands_in_holds)))
values_at_holds known (g ∷ gates) f (suc i) l =
    let x = value_of known g in
    let long = length-append known (x ∷ []) in
    let e : length known + suc i ≡ length (known ++ (x ∷ [])) + i = omega arith in
    let m : suc (length known) ≡ length (known ++ (x ∷ [])) = omega arith in
    rw e (values_at_holds (known ++ (x ∷ [])) gates (subst (λ (k : ℕ). FormedFrom k gates) m f.1) i (omega arith))
