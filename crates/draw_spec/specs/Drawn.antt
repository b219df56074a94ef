-- The reference that is drawn from a seed, and the answer of the call that writes it.
use Rattle.std.specs.Prelude.{ℕ, ◌+◌, Bool, cond, not, ◌&&◌, List, [], ◌∷◌, ◌++◌, map, length, eqb, leb, ltb}
use Rattle.netlist.specs.declared.File.TheVariants.{Reference}
use Rattle.netlist.specs.Coded.{Coded}
use Rattle.verdict.specs.FourNumbers.{verdict}
use Rattle.verdict.specs.Written.{Written, refuse, write_or}
use Rattle.check_spec.specs.Lists.{numbers, select, some}
use Rattle.check_spec.specs.Content.{Content}
use Rattle.check_spec.specs.Writing.{write_file}
use Rattle.draw_spec.specs.Draws.{gates_from}

-- ---- the reference

-- the operands of some gates
unfoldable pub used_by : List Coded → List ℕ
used_by [] = []
used_by (c ∷ cs) = c.operands ++ used_by cs

-- no gate uses signal x
abbrev pub unused : List Coded → ℕ → Bool
unused gates x = not (some (eqb x) (used_by gates))

-- n inputs and g gates. "Signals that no gate uses become outputs, in order": inputs are signals too
unfoldable pub drawn_reference : ℕ → ℕ → ℕ → Content
drawn_reference seed n g =
    let gates = gates_from n g seed in
    record { inputs = n; gates = gates; outputs = map (λ x. x ∷ []) (select (unused gates) (numbers 0 (n + g))); care = []; parts = [] }

-- its file, with the outputs "after the gates"
abbrev pub drawn_bytes : ℕ → ℕ → ℕ → List ℕ
drawn_bytes seed n g = write_file Reference (drawn_reference seed n g)

-- ---- the call

-- "n of 1 to 10 and g of 0 to 40"
abbrev pub in_range : ℕ → ℕ → Bool
in_range n g = leb 1 n && leb n 10 && leb g 40

abbrev pub many_outputs : ℕ → ℕ → ℕ → Bool
many_outputs seed n g = ltb 16 (length (drawn_reference seed n g).outputs)

-- What the call leaves: "39 n or g out of range; 40 more than 16 outputs (file 0); 41 buffer too short; in this order"; or the file at the start of
-- the buffer. No refusal writes.
unfoldable pub drawn : ℕ → ℕ → ℕ → List ℕ → Written
drawn seed n g buffer =
    cond (not (in_range n g)) (refuse (verdict 39 0 0 0) buffer)
    (cond (many_outputs seed n g) (refuse (verdict 40 0 0 0) buffer)
    (write_or (verdict 41 3 0 0) (drawn_bytes seed n g) buffer))
