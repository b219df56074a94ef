-- A reference in its flat form as content, and the rails of signals in one list of numbers: signal x has two, from 2x on.
use Rattle.std.specs.Prelude.{ℕ, ◌+◌, ◌*◌, List, [], ◌∷◌, get_or}
use Rattle.netlist.specs.declared.Counts.{Counts}
use Rattle.check_spec.specs.Content.{Content}
use Rattle.check_spec.specs.Loaded.{from_reference}
use Rattle.make_spec.specs.Make.{Built, realize}
use Rattle.circuit.specs.Stage.{tabulate}
use Rattle.circuit.specs.Reference.{operation_in, operand_in, reference_in}
use Rattle.circuit.specs.declared.form.Rails.{Rails}

abbrev pub content_in : Counts → List ℕ → Content
content_in c code = from_reference (reference_in c code)

abbrev pub pair_of : Rails → List ℕ
pair_of p = p.rail0 ∷ p.rail1 ∷ []

abbrev pub pair_stored : List ℕ → ℕ → List ℕ
pair_stored rails x = get_or rails (2 * x) 0 ∷ get_or rails (2 * x + 1) 0 ∷ []

-- those of the first m signals
unfoldable pub pairs_in : List ℕ → ℕ → List (List ℕ)
pairs_in rails m = tabulate (pair_stored rails) m

-- what gate k of a reference in its flat form becomes, from the rails that are stored, where so many gates were made before it; a NOT has its operand twice
abbrev pub becomes : Counts → List ℕ → ℕ → List ℕ → ℕ → Built
becomes c code k rails made =
    realize (operation_in code k) (pair_stored rails (operand_in code k 0)) (pair_stored rails (operand_in code k 1)) (2 * c.inputs + made)
