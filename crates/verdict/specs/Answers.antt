-- The reference's answer to an input word.
use Rattle.std.specs.Prelude.{ℕ, ◌+◌, ◌-◌, ◌%◌, min, max, List, [], ◌∷◌, ◌++◌, map, get_or}
use Rattle.netlist.specs.Content.{Coded, Reference}

-- operation 1 NOT, 2 AND, 3 OR, 4 XOR, 5 NAND, 6 NOR on the values of its operands; NOT has only the first
unfoldable pub operate : ℕ → List ℕ → ℕ
operate operation values =
    let a = get_or values 0 0 in
    let b = get_or values 1 0 in
    get_or (0 ∷ (1 - a) ∷ min a b ∷ max a b ∷ ((a + b) % 2) ∷ (1 - min a b) ∷ (1 - max a b) ∷ []) operation 0

-- the value of each signal of a list
abbrev pub values_at : List ℕ → List ℕ → List ℕ
values_at values signals = map (λ (v : ℕ). get_or values v 0) signals

-- the values of all signals: first those already known, then each gate's, in file order
unfoldable pub signal_values : List ℕ → List Coded → List ℕ
signal_values values [] = values
signal_values values (g ∷ gates) = signal_values (values ++ (operate g.code (values_at values g.operands) ∷ [])) gates

-- what the outputs answer where the inputs have some bits
unfoldable pub answer : Reference → List ℕ → List ℕ
answer r bits = values_at (signal_values bits r.gates) r.outputs
