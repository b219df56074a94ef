-- What one operation becomes: the rails of its result, its gates, and how they are put.
-- Assumes nothing.
use Prim.Native.Nat.{ℕ, zero, suc, ◌+◌, ◌≤◌, ◌<◌}
use native.Mathlib.Omega.{arith}
use native.Mathlib.Decide.{ℕ_discrete}
use mathlib.Core.Path.{◌≡◌, refl, sym, ap}
use mathlib.Core.Logic.{◌⊎◌, inl, inr}
use mathlib.Core.List.{List, [], ◌∷◌, ◌++◌, append-nil}
use lib.ListN.{length, get_or}
use borrow.Author.Tests.{ne_eqb}
use Rattle.netlist.specs.declared.File.TheVariants as file
use Rattle.netlist.specs.Content.{Coded}
use Rattle.netlist.specs.Writing as writing
use Rattle.netlist.specs.Writing.{write_item}
use Rattle.make_spec.specs.Make.{Built, gate, realize}
use Rattle.make_spec.specs.Count.{operations}
use Rattle.write_command.specs.Put.{Put}
use Rattle.write_command.specs.Parts.{bytes_of}
use Rattle.write_command.proofs.Joining.{put_none, put-++}
use Rattle.write_command.proofs.Files.{stage_gate_width}
use Rattle.write_command.proofs.Putting.{put_same}

-- ---- rails and gates by the operation

pub part_at : {X : Type 0} (part : Built → X) (k op : ℕ) (a b : List ℕ) (g : ℕ) → op ≡ k → part (realize k a b g) ≡ part (realize op a b g)
part_at part k op a b g e = ap (λ (x : ℕ). part (realize x a b g)) (sym e)

pub rails_other : (op : ℕ) (a b : List ℕ) (g : ℕ) → 2 < op → op < 6 → (g ∷ (g + 1) ∷ []) ∷ [] ≡ (realize op a b g).rails
unfolding realize
rails_other zero a b g l h = absurd (omega arith)
rails_other (suc zero) a b g l h = absurd (omega arith)
rails_other (suc (suc zero)) a b g l h = absurd (omega arith)
rails_other (suc (suc (suc zero))) a b g l h = refl
rails_other (suc (suc (suc (suc zero)))) a b g l h = refl
rails_other (suc (suc (suc (suc (suc zero))))) a b g l h = refl
rails_other (suc (suc (suc (suc (suc (suc op)))))) a b g l h = absurd (omega arith)

pub gates_or : (op : ℕ) (a b : List ℕ) (g : ℕ) → (op ≡ 3) ⊎ (op ≡ 6)
    → (gate 2 (get_or a 0 0 ∷ get_or b 0 0 ∷ []) ∷ gate 26 (get_or a 1 0 ∷ get_or b 1 0 ∷ get_or a 0 0 ∷ get_or b 0 0 ∷ []) ∷ []) ≡ (realize op a b g).gates
unfolding realize
gates_or op a b g (inl e) = part_at (λ x. x.gates) 3 op a b g e
gates_or op a b g (inr e) = part_at (λ x. x.gates) 6 op a b g e

pub or_nor : (op : ℕ) → 2 < op → op ≤ 6 → ¬ (op ≡ 4) → ¬ (op ≡ 5) → (op ≡ 3) ⊎ (op ≡ 6)
or_nor op l h a b = go (ℕ_discrete op 3)
  where
    go : Dec (op ≡ 3) → (op ≡ 3) ⊎ (op ≡ 6)
    go (yes e) = inl e
    go (no d) = inr (omega arith)

-- NOT has no gate, the others two
pub not_gates : (op : ℕ) (a b : List ℕ) (g : ℕ) → op ≡ 1 → (realize op a b g).gates ≡ []
unfolding realize
not_gates op a b g e = sym (part_at (λ x. x.gates) 1 op a b g e)

pub other_gates : (op : ℕ) (a b : List ℕ) (g : ℕ) → 2 ≤ op → op ≤ 6 → length (realize op a b g).gates ≡ 2
unfolding realize
other_gates zero a b g l h = absurd (omega arith)
other_gates (suc zero) a b g l h = absurd (omega arith)
other_gates (suc (suc zero)) a b g l h = refl
other_gates (suc (suc (suc zero))) a b g l h = refl
other_gates (suc (suc (suc (suc zero)))) a b g l h = refl
other_gates (suc (suc (suc (suc (suc zero))))) a b g l h = refl
other_gates (suc (suc (suc (suc (suc (suc zero)))))) a b g l h = refl
other_gates (suc (suc (suc (suc (suc (suc (suc op))))))) a b g l h = absurd (omega arith)

pub one_operation : (c : Coded) → ¬ (c.code ≡ 1) → operations (c ∷ []) ≡ 1
unfolding operations
one_operation c d = rw (ne_eqb c.code 1 d)

-- ---- gates that are put

pub put_two : {before between after : List ℕ} {at : ℕ} (x y : Coded) → Put before at (write_item file.Stage (writing.gate x)) between
    → Put between (at + 10) (write_item file.Stage (writing.gate y)) after → Put before at (bytes_of file.Stage writing.gate (x ∷ y ∷ [])) after
unfolding bytes_of
put_two x y p q =
    put_same (ap (λ (l : List ℕ). write_item file.Stage (writing.gate x) ++ l) (sym (append-nil (write_item file.Stage (writing.gate y)))))
    (put-++ p q (omega (arith, stage_gate_width x)))

pub put_no_gate : {buffer : List ℕ} {at : ℕ} {gates : List Coded} → gates ≡ [] → Put buffer at (bytes_of file.Stage writing.gate gates) buffer
unfolding bytes_of
put_no_gate {buffer} {at} e = put_same (ap (bytes_of file.Stage writing.gate) (sym e)) (put_none buffer at)
