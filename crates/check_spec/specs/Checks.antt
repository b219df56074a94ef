-- The checks that follow reading, in their order, each as the cases that it tries: least word, then least place.
use Rattle.std.specs.Prelude.{ℕ, ◌+◌, ◌*◌, Bool, false, cond, not, ◌&&◌, ◌||◌, List, [], ◌∷◌, length, get_or, eqb, ltb}
use Rattle.gates.specs.Cell.{is_retired}
use Rattle.runs.specs.Row.{Row, low, only}
use Rattle.runs.specs.Net.{nets, rails_of_inputs}
use Rattle.verdict.specs.declared.WordOrder.{WordOrder}
use Rattle.wiring_spec.specs.Parts.{Pipeline}
use Rattle.wiring_spec.specs.Wiring.{registers, circular, uneven, missing, barred}
use Rattle.check_spec.specs.Cases.{Check, case, sweep, sweep_places, unequal}
use Rattle.check_spec.specs.Lists.{numbers, every, bit_of}
use Rattle.check_spec.specs.Content.{Content, pipeline_of, wired}
use Rattle.check_spec.specs.Rows.{driver, cell_in, net_of, risen, fallen, data_of, all_data, all_null, reaches_itself}
use Rattle.check_spec.specs.Words.{rails_for, spelled, names, words, answer}

-- the rest of word w: settled for its rails, with no net held low
abbrev pub rest : Content → ℕ → Row
rest s w = risen (net_of s) (rails_for w) low

-- 13: the settled pair of output j is not the reference's DATA
unfoldable pub wrong : Content → Content → ℕ → ℕ → Bool
wrong s r w =
    let row = rest s w in
    let a = answer r (bit_of w) in
    λ j. not (data_of row ((net_of s).rail j) (a j))

-- 14: with w given and input i NULL, all settled outputs are DATA
unfoldable pub incomplete : Content → ℕ → ℕ → Bool
incomplete s w i = all_data (net_of s) (risen (net_of s) (rails_for w) (rails_of_inputs (net_of s) (only i)))

-- gate g is high in w, and a test of the rest of w and its net passes
unfoldable pub high_and : Content → ℕ → (Row → ℕ → Bool) → ℕ → Bool
high_and s w test =
    let row = rest s w in
    λ g. let t = test row (2 * s.inputs + g) in cond (row (2 * s.inputs + g)) t false

-- 15: a gate high in w; settled with it held low, all outputs still DATA
unfoldable pub unobservable : Content → ℕ → ℕ → Bool
unobservable s w = high_and s w (λ row net. all_data (net_of s) (risen (net_of s) (rails_for w) (only net)))

-- 20: all inputs fallen but i, every gate settled by the fall rule, all outputs NULL
unfoldable pub fall_incomplete : Content → ℕ → ℕ → Bool
fall_incomplete s w = let row = rest s w in λ i. all_null (net_of s) (fallen (net_of s) row (rails_of_inputs (net_of s) (only i)))

-- 21: a gate high in w is held high, all inputs fallen, every other gate settled so, all outputs NULL
unfoldable pub fall_unobservable : Content → ℕ → ℕ → Bool
fall_unobservable s w = high_and s w (λ row net. all_null (net_of s) (fallen (net_of s) row (only net)))

-- 12: gate g reaches itself through pins of gates; the nets of registers are ends
unfoldable pub looped : Content → Check
looped s = sweep_places 12 1 (numbers 0 (length s.gates)) (λ g. reaches_itself (net_of s) (2 * s.inputs + g))

-- 33, 34 and 35: a test of the registers
abbrev pub at_registers : ℕ → (Pipeline → ℕ → Bool) → Content → Check
at_registers number fails raw = sweep_places number 1 (registers (pipeline_of raw)) (fails (pipeline_of raw))

-- a check of the words of a stage, by their names
abbrev pub swept : WordOrder → Content → ℕ → ℕ → ℕ → (ℕ → ℕ → Bool) → Check
swept order s number file m fails = sweep number file (names order s) (numbers 0 m) (λ name. fails (spelled order s.inputs name))

-- 28: a gate of a retired kind
abbrev pub retired_gate : Content → ℕ → Bool
retired_gate s g = is_retired (cell_in (driver s (2 * s.inputs + g)))

unfoldable pub retired : Content → Check
retired s = sweep_places 28 1 (numbers 0 (length s.gates)) (retired_gate s)

-- 32: the gate that drives a net rises in no care word: it is low at the rest of every word of the stage
unfoldable pub never_rises : Content → ℕ → Bool
never_rises s net = every (λ w. not (rest s w net)) (words s)

unfoldable pub idle : Content → Check
idle s = sweep_places 32 1 (numbers 0 (length s.gates)) (λ g. never_rises s (2 * s.inputs + g))

-- of a stage, as reading gives it, against a reference, in their order: 12 and 33 to 35 look at the stage before its registers become wires, the checks
-- from 28 on at the stage with these. The second pass of 33 follows where the first finds no register
unfoldable pub checks : WordOrder → Content → Content → List Check
checks order raw r =
    let s = wired raw in
    unequal 10 raw.inputs r.inputs ∷
    unequal 11 (length raw.outputs) (length r.outputs) ∷
    looped raw ∷
    at_registers 33 circular raw ∷
    at_registers 33 uneven raw ∷
    at_registers 34 missing raw ∷
    at_registers 35 barred raw ∷
    retired s ∷
    swept order s 13 1 (length s.outputs) (wrong s r) ∷
    swept order s 14 1 s.inputs (incomplete s) ∷
    swept order s 15 1 (length s.gates) (unobservable s) ∷
    swept order s 20 1 s.inputs (fall_incomplete s) ∷
    swept order s 21 1 (length s.gates) (fall_unobservable s) ∷
    idle s ∷
    []

-- 17: a rail of input i is above 1, or both are 1
abbrev pub illegal : List ℕ → ℕ → Bool
illegal row i = ltb 1 (get_or row (2 * i) 0) || ltb 1 (get_or row (2 * i + 1) 0) || eqb (get_or row (2 * i) 0) 1 && eqb (get_or row (2 * i + 1) 0) 1

-- of a stage and a row that is lent
unfoldable pub row_checks : Content → List ℕ → List Check
row_checks s row =
    looped s ∷
    (case 16 3 (length row) 0 (not (eqb (length row) (nets (net_of s)))) ∷ []) ∷
    sweep_places 17 3 (numbers 0 s.inputs) (illegal row) ∷
    []
