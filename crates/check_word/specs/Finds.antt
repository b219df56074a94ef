-- The checks that go over the words of a stage, by one name for each.
use Rattle.std.specs.Prelude.{ℕ, ◌+◌, Bool, true, false, List, length, Option}
use Rattle.netlist.specs.Content.{Gate, Pair, Stage, Reference}
use Rattle.verdict.specs.Rows.{high, settled, settled_holding, all_data}
use Rattle.verdict.specs.Checks.{wrong, incomplete, unobservable, fall_incomplete, fall_unobservable}
use Rattle.verdict.specs.Search.{least}
use Rattle.check_word.specs.declared.Sweep.{Sweep}
use Rattle.check_word.specs.declared.Sweep.TheVariants.{Wrong, Missing, Unobserved, Remaining, StillHigh}

-- what it finds in a word: the least output, input or gate at which it fails
abbrev pub finds : Sweep → Stage → Reference → ℕ → Option ℕ
finds Wrong s r w = least (wrong s r w) 0 (length s.outputs)
finds Missing s r w = least (incomplete s w) 0 s.inputs
finds Unobserved s r w = least (unobservable s w) 0 (length s.gates)
finds Remaining s r w = least (fall_incomplete s w) 0 s.inputs
finds StillHigh s r w = least (fall_unobservable s w) 0 (length s.gates)

-- 15 for given rails: gate g is high, and all outputs are still DATA once the gates have settled with it held low
unfoldable pub unobserved : List Gate → List Pair → List ℕ → ℕ → Bool
unobserved gates pairs rails g = elim (high (settled gates rails) (length rails + g)) as
    (λ b. Bool) [ true ↦ all_data (settled_holding g gates rails) pairs | false ↦ false ]
