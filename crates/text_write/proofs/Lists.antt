-- The names and lines of a text as values of functions, and lists of them with commas between or newlines after them.
-- Assumes nothing.
use Prim.Native.Nat.{ℕ, zero, suc, ◌+◌, ◌≤◌}
use native.Mathlib.Omega.{arith}
use mathlib.Core.Path.{◌≡◌, refl, sym, ap, ap₂, ◌∙◌}
use mathlib.Core.List.{List, [], ◌∷◌, ◌++◌, map, append_assoc, append-nil}
use lib.ListN.{take}
use Rattle.netlist.specs.Content.{Coded, Pair}
use Rattle.circuit.specs.Stage.{tabulate}
use Rattle.circuit.proofs.Tabulate.{all_same, map_tabulate}
use Rattle.text_spec.specs.Characters.{newline, comma, range}
use Rattle.text_spec.specs.ToText.{join, ended, output_name, output_names, gate_text, gate_texts}
use Rattle.text_write.proofs.Loops.{flat, parts_from}

-- ---- values of functions

-- the next of a numbered list, counted from i or from the one after it
shift : {A : Type 0} (f : ℕ → ℕ → A) (i m : ℕ) → tabulate (λ k. f (suc i + k) k) m ≡ tabulate (λ k. f (i + suc k) k) m
shift f i m = all_same _ _ m (λ k l. let e : suc i + k ≡ i + suc k = omega arith in rw e)

from_zero : {A : Type 0} (f : ℕ → ℕ → A) (m : ℕ) → tabulate (λ k. f (0 + k) k) m ≡ tabulate (λ k. f k k) m
from_zero f m = all_same _ _ m (λ k l. let e : 0 + k ≡ k = omega arith in rw e)

range-from : {A : Type 0} (f : ℕ → A) (i m : ℕ) → map f (range i m) ≡ tabulate (λ k. f (i + k)) m
unfolding tabulate
range-from f i zero = refl
range-from {A} f i (suc m) = let z : i ≡ i + 0 = omega arith in ap₂ {C = List A} (λ a l. a ∷ l) (ap f z) (range-from f (suc i) m ∙ shift (λ j k. f j) i m)

pub range_are : {A : Type 0} (f : ℕ → A) (m : ℕ) → map f (range 0 m) ≡ tabulate f m
range_are f m = range-from f 0 m ∙ from_zero (λ j k. f j) m

outputs-from : (n : ℕ) (p : ℕ → Pair) (i m : ℕ) → output_names n i (tabulate p m) ≡ tabulate (λ k. output_name n (i + k) (p k)) m
unfolding tabulate
outputs-from n p i zero = refl
outputs-from n p i (suc m) =
    let z : i ≡ i + 0 = omega arith in
    ap₂ {C = List (List ℕ)} (λ a l. a ∷ l) (ap (λ (j : ℕ). output_name n j (p 0)) z)
    (outputs-from n (λ k. p (suc k)) (suc i) m ∙ shift (λ j k. output_name n j (p (suc k))) i m)

pub outputs_are : (n : ℕ) (p : ℕ → Pair) (m : ℕ) → output_names n 0 (tabulate p m) ≡ tabulate (λ j. output_name n j (p j)) m
outputs_are n p m = outputs-from n p 0 m ∙ from_zero (λ j k. output_name n j (p k)) m

pub gates_are : (n : ℕ) (outputs : List Pair) (v : ℕ) (g : ℕ → Coded) (m : ℕ)
    → gate_texts n outputs v (tabulate g m) ≡ tabulate (λ k. gate_text n outputs (v + k) (g k)) m
unfolding tabulate
gates_are n outputs v g zero = refl
gates_are n outputs v g (suc m) =
    let z : v ≡ v + 0 = omega arith in
    ap₂ {C = List (List ℕ)} (λ a l. a ∷ l) (ap (λ (w : ℕ). gate_text n outputs w (g 0)) z)
    (gates_are n outputs (suc v) (λ k. g (suc k)) m ∙ shift (λ w k. gate_text n outputs w (g (suc k))) v m)

pub pins_are : (f : ℕ → ℕ) (m : ℕ) → m ≤ 4 → take m (f 0 ∷ f 1 ∷ f 2 ∷ f 3 ∷ []) ≡ tabulate f m
unfolding tabulate
pins_are f zero l = refl
pins_are f (suc zero) l = refl
pins_are f (suc (suc zero)) l = refl
pins_are f (suc (suc (suc zero))) l = refl
pins_are f (suc (suc (suc (suc zero)))) l = refl
pins_are f (suc (suc (suc (suc (suc m))))) l = absurd (omega arith)

-- ---- commas and newlines

join-flat : (p : List ℕ) (ps : List (List ℕ)) → join comma (p ∷ ps) ≡ p ++ flat (map (λ q. comma ∷ q) ps)
join-flat p [] = sym (append-nil p)
join-flat p (q ∷ ps) = ap (λ (l : List ℕ). p ++ (comma ∷ l)) (join-flat q ps)

-- the first item, then a comma and an item for each of the others
pub join-parts : (item : ℕ → List ℕ) (m : ℕ) → 1 ≤ m → join comma (tabulate item m) ≡ item 0 ++ parts_from (λ i. comma ∷ item i) m 1
unfolding tabulate
join-parts item zero l = absurd (omega arith)
join-parts item (suc m) l =
    join-flat (item 0) (tabulate (λ i. item (suc i)) m)
    ∙ ap (λ (l : List (List ℕ)). item 0 ++ flat l) (map_tabulate (λ (q : List ℕ). comma ∷ q) (λ i. item (suc i)) m)

-- a newline after each line
pub ended_parts : (line : ℕ → List ℕ) (m : ℕ) → ended (tabulate line m) ≡ parts_from (λ k. line k ++ (newline ∷ [])) m 0
unfolding tabulate
ended_parts line zero = refl
ended_parts line (suc m) =
    ap (λ (l : List ℕ). line 0 ++ (newline ∷ l)) (ended_parts (λ k. line (suc k)) m)
    ∙ sym (append_assoc (line 0) (newline ∷ []) (flat (tabulate (λ k. line (suc k) ++ (newline ∷ [])) m)))
