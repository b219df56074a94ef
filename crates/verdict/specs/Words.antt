-- The words of a stage, the input bits and rails that a word calls for, and how words are named, in the order in which they are swept.
use Rattle.std.specs.Prelude.{ℕ, zero, suc, ◌+◌, ◌-◌, ◌*◌, ◌/◌, ◌%◌, ◌^◌, Bool, false, cond, ◌||◌, List, [], ◌∷◌, reverse, eqb}
use Rattle.netlist.specs.Content.{Stage}
use Rattle.verdict.specs.declared.WordOrder.{WordOrder}
use Rattle.verdict.specs.declared.WordOrder.TheVariants.{FirstHighest, FirstLowest}
use Rattle.verdict.specs.Loops.{In}
unfoldable pub use Rattle.verdict.specs.Lists.{numbers, select}

-- ---- words as files have them: input i is bit i

-- the words that a care list stands for, with n inputs: those of the list, or every word where it is empty
unfoldable pub cared_for : ℕ → List ℕ → List ℕ
cared_for n [] = numbers 0 (2 ^ n)
cared_for n (w ∷ ws) = w ∷ ws

-- the words of a stage
unfoldable pub words : Stage → List ℕ
words s = cared_for s.inputs s.care

abbrev pub IsWord : Stage → ℕ → Type 0
IsWord s w = In w (words s)

-- bit i of word w is input i: the bits of n inputs
unfoldable pub bits_of : ℕ → ℕ → List ℕ
bits_of zero w = []
bits_of (suc n) w = w % 2 ∷ bits_of n (w / 2)

-- the input rails that spell some bits: rail 0 is high for 0, rail 1 for 1
unfoldable pub rails_of : List ℕ → List ℕ
rails_of [] = []
rails_of (b ∷ bits) = (1 - b) ∷ b ∷ rails_of bits

-- the input rails of word w
abbrev pub rails_in : Stage → ℕ → List ℕ
rails_in s w = rails_of (bits_of s.inputs w)

-- the word that some bits spell
unfoldable pub word_of : List ℕ → ℕ
word_of [] = 0
word_of (b ∷ bits) = b + 2 * word_of bits

-- ---- words by name

-- The word that a name spells, with n inputs. By default input 0 is the highest bit of the name, so its bits are turned: of two inputs, the name 2 spells
-- word 1, in which input 0 alone is 1. In the old order a name is the word itself.
unfoldable pub spelled : WordOrder → ℕ → ℕ → ℕ
spelled FirstHighest n name = word_of (reverse (bits_of n name))
spelled FirstLowest n name = name

-- the order that a caller in C asks for by a number: 0 has input 0 as the highest bit, and every other number has it as the lowest
unfoldable pub order_of : ℕ → WordOrder
order_of mark = cond (eqb mark 0) FirstHighest FirstLowest

-- whether a number is in a list
unfoldable pub is_in : ℕ → List ℕ → Bool
is_in x [] = false
is_in x (y ∷ ys) = eqb x y || is_in x ys

-- the names of the words of a stage, the least first: the order in which they are swept
unfoldable pub names : WordOrder → Stage → List ℕ
names order s = select (λ name. is_in (spelled order s.inputs name) (words s)) (numbers 0 (2 ^ s.inputs))
