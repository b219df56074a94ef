-- The words of a stage, how they are named, and the reference's answer.
use Rattle.std.specs.Prelude.{ℕ, ◌+◌, ◌-◌, ◌^◌, ◌/◌, ◌%◌, Bool, true, false, cond, not, ◌&&◌, ◌||◌, ◌≡◌, List, [], ◌∷◌, ◌++◌, map, length, get_or, eqb, ltb}
use Rattle.runs.specs.Row.{Row}
use Rattle.verdict.specs.declared.WordOrder.{WordOrder}
use Rattle.verdict.specs.declared.WordOrder.TheVariants.{FirstHighest, FirstLowest}
use Rattle.netlist.specs.Coded.{Coded}
use Rattle.check_spec.specs.Content.{Content}
use Rattle.check_spec.specs.Lists.{xor, numbers, select, some, bit_of, of_bits}

-- the rails of word w: rail 1 of input i if bit i is 1, rail 0 if it is 0. It is asked of the rails of inputs alone
abbrev pub rails_for : ℕ → Row
rails_for w k = eqb (w / 2 ^ (k / 2) % 2) (k % 2)

-- a stage cares for word w: it is in its care list, or there is none
unfoldable pub cares_for : Content → ℕ → Bool
cares_for s w = some (eqb w) s.care || eqb (length s.care) 0

-- The word that a name spells, with n inputs. By default input 0 is the highest bit of the name: of two inputs, the name 2 spells
-- word 1, in which input 0 alone is 1. In the old order a name is the word itself.
unfoldable pub spelled : WordOrder → ℕ → ℕ → ℕ
spelled FirstHighest n name = of_bits n (λ i. bit_of name (n - (i + 1)))
spelled FirstLowest n name = name

-- the order that a caller in C asks for by a number
unfoldable pub order_of : ℕ → WordOrder
order_of mark = cond (eqb mark 0) FirstHighest FirstLowest

-- the names of the words of a stage, the least first: the order in which they are swept
unfoldable pub names : WordOrder → Content → List ℕ
names order s = select (λ name. cares_for s (spelled order s.inputs name)) (numbers 0 (2 ^ s.inputs))

-- the words of a stage: those below 2 to the n that are cared for
unfoldable pub words : Content → List ℕ
words s = select (λ w. cares_for s w) (numbers 0 (2 ^ s.inputs))

-- w is one of them
abbrev pub IsWord : Content → ℕ → Type 0
IsWord s w = (ltb w (2 ^ s.inputs) && cares_for s w) ≡ true

-- ---- the reference's answer

-- operation 1 NOT, 2 AND, 3 OR, 4 XOR, 5 NAND, 6 NOR; NOT has only the first operand
unfoldable pub operate : ℕ → Bool → Bool → Bool
operate operation a b = get_or (false ∷ not a ∷ (a && b) ∷ (a || b) ∷ xor a b ∷ not (a && b) ∷ not (a || b) ∷ []) operation false

-- the values of all signals: those already known, then each gate's, in file order
unfoldable pub values : List Bool → List Coded → List Bool
values known [] = known
values known (g ∷ gates) =
    let operands : List Bool = map (λ x. get_or known x false) g.operands in
    values (known ++ (operate g.code (get_or operands 0 false) (get_or operands 1 false) ∷ [])) gates

-- what output j answers where input i has bit i
unfoldable pub answer : Content → (ℕ → Bool) → ℕ → Bool
answer r bits =
    let signals = values (map bits (numbers 0 r.inputs)) r.gates in
    λ j. get_or signals (get_or (get_or r.outputs j []) 0 0) false
