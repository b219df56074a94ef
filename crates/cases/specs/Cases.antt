-- The twelve marked cases of the paper, the examples of its table, cases that show which fault is named, relaxed gates, retired kinds, gates that
-- never rise, and registers with their completion. proofs/Computed computes them from the definitions alone: each verdict is the one expected.
use Rattle.std.specs.Prelude.{ℕ, zero, suc, ◌+◌, ◌*◌, ◌/◌, ◌%◌}
use mathlib.Core.List.{List, [], ◌∷◌, ◌++◌, map}
use Rattle.verdict.specs.declared.Verdict.{Verdict}
use Rattle.check_spec.specs.Cases.{verdict}
use Rattle.check_spec.specs.Content.{files}
use Rattle.check_spec.specs.Verdicts.{verdict_on, row_verdict, row_after}
use Rattle.verdict.specs.declared.WordOrder.{WordOrder}
use Rattle.verdict.specs.declared.WordOrder.TheVariants.{FirstHighest}

-- ---- files

-- an operand that is not used
abbrev pub FFFF : List ℕ
FFFF = 0xFF ∷ 0xFF ∷ []

-- 2. the wire, and the reference that is a wire
unfoldable pub wire : List ℕ
wire = 1 ∷ 1 ∷ 3 ∷ 0 ∷ 0 ∷ 1 ∷ 0 ∷ 0 ∷ []

unfoldable pub wire_reference : List ℕ
wire_reference = 1 ∷ 1 ∷ 0x12 ∷ 0 ∷ 0 ∷ 0 ∷ []

-- 1. the whole case
unfoldable pub whole_stage : List ℕ
whole_stage = 1 ∷ 2 ∷ 2 ∷ 2 ∷ 1 ∷ 0 ∷ 3 ∷ 0 ∷ 0xFF ∷ 0xFF ∷ 0xFF ∷ 0xFF ∷ 2 ∷ 0x1A ∷ 0 ∷ 0 ∷ 2 ∷ 0 ∷ 1 ∷ 0 ∷ 3 ∷ 0 ∷ 3 ∷ 5 ∷ 0 ∷ 4 ∷ 0 ∷ 0 ∷ []

unfoldable pub and_reference : List ℕ
and_reference = 1 ∷ 2 ∷ 0x11 ∷ 2 ∷ 0 ∷ 0 ∷ 1 ∷ 0 ∷ 0x12 ∷ 2 ∷ 0 ∷ 0 ∷ []

-- 3. the wire's rails swapped
unfoldable pub swapped : List ℕ
swapped = 1 ∷ 1 ∷ 3 ∷ 1 ∷ 0 ∷ 0 ∷ 0 ∷ 0 ∷ []

unfoldable pub not_reference : List ℕ
not_reference = 1 ∷ 1 ∷ 0x11 ∷ 1 ∷ 0 ∷ 0 ∷ 0xFF ∷ 0xFF ∷ 0x12 ∷ 1 ∷ 0 ∷ 0 ∷ []

-- 6. two-input AND with rail 0 TH12(0, 2), rail 1 TH22(1, 3)
unfoldable pub early_and : List ℕ
early_and = 1 ∷ 2 ∷ 2 ∷ 1 ∷ 0 ∷ 0 ∷ 2 ∷ 0 ∷ FFFF ++ FFFF ++ (2 ∷ 2 ∷ 1 ∷ 0 ∷ 3 ∷ 0 ∷ FFFF ++ FFFF ++ (3 ∷ 4 ∷ 0 ∷ 5 ∷ 0 ∷ 0 ∷ []))

-- n = 10, ten wires: the outputs of a stage from input i on, and of a reference
unfoldable pub wires : ℕ → ℕ → List ℕ
wires i zero = 0 ∷ []
wires i (suc m) = 3 ∷ (2 * i) ∷ 0 ∷ (2 * i + 1) ∷ 0 ∷ wires (suc i) m

unfoldable pub wire_signals : ℕ → ℕ → List ℕ
wire_signals i zero = 0 ∷ []
wire_signals i (suc m) = 0x12 ∷ i ∷ 0 ∷ wire_signals (suc i) m

-- m outputs on the wire's nets
unfoldable pub outputs : ℕ → List ℕ
outputs zero = 0 ∷ []
outputs (suc m) = 3 ∷ 0 ∷ 0 ∷ 1 ∷ 0 ∷ outputs m

-- ---- the twelve cases

pub record Case : Type 0 where
  pub stage : List ℕ
  pub reference : List ℕ
  pub expected : Verdict

abbrev pub case : List ℕ → List ℕ → Verdict → Case
case stage reference expected = record { stage = stage; reference = reference; expected = expected }

unfoldable pub twelve : List Case
twelve =
    -- 1. the whole case
    case whole_stage and_reference (verdict 0 0 0 0) ∷
    -- 2. wire against wire
    case wire wire_reference (verdict 0 0 0 0) ∷
    -- 3. its rails swapped
    case swapped wire_reference (verdict 13 1 0 0) ∷
    -- 4. swapped against NOT
    case swapped not_reference (verdict 0 0 0 0) ∷
    -- 5. both rails of the output on net 0
    case (1 ∷ 1 ∷ 3 ∷ 0 ∷ 0 ∷ 0 ∷ 0 ∷ 0 ∷ []) wire_reference (verdict 13 1 0 0) ∷
    -- 6. AND that does not wait for both inputs
    case early_and and_reference (verdict 14 1 0 0) ∷
    -- 7. two inputs, input 0 wired out
    case (1 ∷ 2 ∷ 3 ∷ 0 ∷ 0 ∷ 1 ∷ 0 ∷ 0 ∷ []) (1 ∷ 2 ∷ 0x12 ∷ 0 ∷ 0 ∷ 0 ∷ []) (verdict 14 1 1 0) ∷
    -- 8. wire plus TH12(0, 1) feeding nothing
    case (1 ∷ 1 ∷ 2 ∷ 1 ∷ 0 ∷ 0 ∷ 1 ∷ 0 ∷ FFFF ++ FFFF ++ (3 ∷ 0 ∷ 0 ∷ 1 ∷ 0 ∷ 0 ∷ [])) wire_reference (verdict 15 1 0 0) ∷
    -- 9. wire plus TH12(2, 0), pin A on its own net
    case (1 ∷ 1 ∷ 2 ∷ 1 ∷ 2 ∷ 0 ∷ 0 ∷ 0 ∷ FFFF ++ FFFF ++ (3 ∷ 0 ∷ 0 ∷ 1 ∷ 0 ∷ 0 ∷ [])) wire_reference (verdict 12 1 0 0) ∷
    -- 10. both files empty
    case [] [] (verdict 1 1 0 0) ∷
    -- 11. n = 10, ten wires against ten wires
    case (1 ∷ 0x0A ∷ wires 0 10) (1 ∷ 0x0A ∷ wire_signals 0 10) (verdict 0 0 0 0) ∷
    -- 12. n = 11
    case (1 ∷ 0x0B ∷ []) wire_reference (verdict 3 1 1 0) ∷
    []

-- ---- the examples of the table, for 1 to 11, and more of the same numbers

unfoldable pub examples : List Case
examples =
    -- empty stage; then a reference that ends in a command
    case [] wire_reference (verdict 1 1 0 0) ∷
    case wire (1 ∷ 1 ∷ 0x12 ∷ 0 ∷ []) (verdict 1 2 4 0) ∷
    case (2 ∷ []) wire_reference (verdict 2 1 0 0) ∷
    case (1 ∷ 0x0B ∷ []) wire_reference (verdict 3 1 1 0) ∷
    case (1 ∷ 1 ∷ 2 ∷ 0x1C ∷ 0 ∷ 0 ∷ 1 ∷ 0 ∷ FFFF ++ FFFF) wire_reference (verdict 4 1 3 0) ∷
    case (1 ∷ 1 ∷ 2 ∷ 2 ∷ 0 ∷ 0 ∷ FFFF ++ FFFF ++ FFFF) wire_reference (verdict 5 1 6 0) ∷
    -- one input, then 17 outputs
    case (1 ∷ 1 ∷ outputs 17) wire_reference (verdict 6 1 82 0) ∷
    case (1 ∷ 1 ∷ 3 ∷ 0 ∷ 0 ∷ 1 ∷ 0 ∷ 0 ∷ 0 ∷ []) wire_reference (verdict 7 1 8 0) ∷
    case (1 ∷ 1 ∷ 0 ∷ []) wire_reference (verdict 8 1 2 0) ∷
    case (1 ∷ 1 ∷ 3 ∷ 0 ∷ 0 ∷ 2 ∷ 0 ∷ 0 ∷ []) wire_reference (verdict 9 1 5 0) ∷
    -- no input; a command that is cut; 01 again
    case (1 ∷ 0 ∷ []) wire_reference (verdict 3 1 1 0) ∷
    case (1 ∷ 1 ∷ 2 ∷ 0x1C ∷ []) wire_reference (verdict 1 1 4 0) ∷
    case (1 ∷ 1 ∷ 1 ∷ []) wire_reference (verdict 2 1 2 0) ∷
    -- no output and bytes after end: 8; an absent net and bytes after end: 7
    case (1 ∷ 1 ∷ 0 ∷ 0 ∷ []) wire_reference (verdict 8 1 2 0) ∷
    case (1 ∷ 1 ∷ 3 ∷ 0 ∷ 0 ∷ 2 ∷ 0 ∷ 0 ∷ 0 ∷ []) wire_reference (verdict 7 1 8 0) ∷
    -- FFFF in an output, FFFE at a pin that is needed and at one that is not
    case (1 ∷ 1 ∷ 3 ∷ FFFF ++ (1 ∷ 0 ∷ 0 ∷ [])) wire_reference (verdict 9 1 3 0) ∷
    case (1 ∷ 1 ∷ 2 ∷ 2 ∷ 0 ∷ 0 ∷ 0xFE ∷ FFFF ++ FFFF ++ (0xFF ∷ 3 ∷ 0 ∷ 0 ∷ 1 ∷ 0 ∷ 0 ∷ [])) wire_reference (verdict 9 1 6 0) ∷
    case (1 ∷ 1 ∷ 2 ∷ 1 ∷ 0 ∷ 0 ∷ 1 ∷ 0 ∷ 0xFE ∷ FFFF ++ (0xFF ∷ [])) wire_reference (verdict 5 1 8 0) ∷
    -- in a reference, a gate that names itself, and one that names a later gate
    case wire (1 ∷ 1 ∷ 0x11 ∷ 2 ∷ 0 ∷ 0 ∷ 1 ∷ 0 ∷ 0x12 ∷ 0 ∷ 0 ∷ 0 ∷ []) (verdict 9 2 6 0) ∷
    case wire (1 ∷ 1 ∷ 0x11 ∷ 1 ∷ 2 ∷ 0 ∷ 0xFF ∷ 0xFF ∷ 0x11 ∷ 1 ∷ 0 ∷ 0 ∷ 0xFF ∷ 0xFF ∷ 0x12 ∷ 0 ∷ 0 ∷ 0 ∷ []) (verdict 9 2 4 0) ∷
    -- 1 input against 2, 1 output against 3
    case wire (1 ∷ 2 ∷ 0x12 ∷ 0 ∷ 0 ∷ 0 ∷ []) (verdict 10 0 1 2) ∷
    case wire (1 ∷ 1 ∷ 0x12 ∷ 0 ∷ 0 ∷ 0x12 ∷ 0 ∷ 0 ∷ 0x12 ∷ 0 ∷ 0 ∷ 0 ∷ []) (verdict 11 0 1 3) ∷
    -- a stage whose output stands before its gates, the first of which has its pins on a later gate
    case (1 ∷ 1 ∷ 3 ∷ 2 ∷ 0 ∷ 3 ∷ 0 ∷ 2 ∷ 1 ∷ 4 ∷ 0 ∷ 4 ∷ 0 ∷ FFFF ++ FFFF ++
    (2 ∷ 1 ∷ 1 ∷ 0 ∷ 1 ∷ 0 ∷ FFFF ++ FFFF ++ (2 ∷ 1 ∷ 0 ∷ 0 ∷ 0 ∷ 0 ∷ FFFF ++ FFFF ++ (0 ∷ [])))) wire_reference (verdict 0 0 0 0) ∷
    []

-- ---- which check, word and index is named

-- a gate with two pins, below net 256
abbrev pub two_pins : ℕ → ℕ → ℕ → List ℕ → List ℕ
two_pins kind a b rest = 2 ∷ kind ∷ a ∷ 0 ∷ b ∷ 0 ∷ FFFF ++ FFFF ++ rest

abbrev pub pair : ℕ → ℕ → List ℕ → List ℕ
pair rail0 rail1 rest = 3 ∷ rail0 ∷ 0 ∷ rail1 ∷ 0 ∷ rest

-- the reference of n inputs that has input 0 as each of m outputs
unfoldable pub first_input : ℕ → ℕ → List ℕ
first_input n m = 1 ∷ n ∷ go m
  where
    go : ℕ → List ℕ
    go zero = 0 ∷ []
    go (suc m) = 0x12 ∷ 0 ∷ 0 ∷ go m

-- OR of two inputs whose rail 1 is TH12(1, 3), and its reference
unfoldable pub early_or : List ℕ
early_or = 1 ∷ 2 ∷ two_pins 2 0 2 (two_pins 1 1 3 (pair 4 5 (0 ∷ [])))

unfoldable pub or_reference : List ℕ
or_reference = 1 ∷ 2 ∷ 0x11 ∷ 3 ∷ 0 ∷ 0 ∷ 1 ∷ 0 ∷ 0x12 ∷ 2 ∷ 0 ∷ 0 ∷ []

-- two wires, and TH22(1, 2) that feeds nothing; their reference
unfoldable pub unobserved : List ℕ
unobserved = 1 ∷ 2 ∷ two_pins 2 1 2 (pair 0 1 (pair 2 3 (0 ∷ [])))

unfoldable pub two_wires : List ℕ
two_wires = 1 ∷ 2 ∷ 0x12 ∷ 0 ∷ 0 ∷ 0x12 ∷ 1 ∷ 0 ∷ 0 ∷ []

-- words of two inputs are written with input 0 first
unfoldable pub ordered : List Case
ordered =
    -- two faults at once: the earlier check is named
    case [] [] (verdict 1 1 0 0) ∷
    case wire (first_input 2 3) (verdict 10 0 1 2) ∷
    case (1 ∷ 1 ∷ two_pins 1 2 0 (pair 0 1 (0 ∷ []))) (first_input 1 3) (verdict 11 0 1 3) ∷
    case (1 ∷ 1 ∷ two_pins 1 2 0 (pair 1 0 (0 ∷ []))) wire_reference (verdict 12 1 0 0) ∷
    case (1 ∷ 2 ∷ pair 1 0 (0 ∷ [])) (first_input 2 1) (verdict 13 1 0 0) ∷
    case (1 ∷ 2 ∷ two_pins 1 0 1 (pair 0 1 (0 ∷ []))) (first_input 2 1) (verdict 14 1 1 0) ∷
    -- the least gate on a loop of gates 1 and 2: gate 0 is fed by the loop; gate 0 feeds the loop
    case (1 ∷ 1 ∷ two_pins 1 3 0 (two_pins 1 4 0 (two_pins 1 3 0 (pair 0 1 (0 ∷ []))))) wire_reference (verdict 12 1 1 0) ∷
    case (1 ∷ 1 ∷ two_pins 1 0 1 (two_pins 1 2 4 (two_pins 1 3 0 (pair 0 1 (0 ∷ []))))) wire_reference (verdict 12 1 1 0) ∷
    -- a wire against AND: wrong where input 0 alone is 1, in word 10
    case (1 ∷ 2 ∷ pair 0 1 (0 ∷ [])) and_reference (verdict 13 1 0 2) ∷
    -- two outputs against AND twice, the second wrong in word 00, the first in word 10
    case (1 ∷ 2 ∷ pair 0 1 (pair 1 0 (0 ∷ []))) (1 ∷ 2 ∷ 0x11 ∷ 2 ∷ 0 ∷ 0 ∷ 1 ∷ 0 ∷ 0x12 ∷ 2 ∷ 0 ∷ 0x12 ∷ 2 ∷ 0 ∷ 0 ∷ []) (verdict 13 1 1 0) ∷
    -- OR whose rail 1 does not wait for both inputs: word 01 does without input 0
    case early_or or_reference (verdict 14 1 0 1) ∷
    -- the same with TH22(0, 2) that feeds nothing: 14 in word 01 comes before 15 in word 00
    case (1 ∷ 2 ∷ two_pins 2 0 2 (two_pins 1 1 3 (two_pins 2 0 2 (pair 4 5 (0 ∷ []))))) or_reference (verdict 14 1 0 1) ∷
    -- two wires, and TH22(1, 3) that feeds nothing and rises in word 11 only
    case (1 ∷ 2 ∷ two_pins 2 1 3 (pair 0 1 (pair 2 3 (0 ∷ [])))) (1 ∷ 2 ∷ 0x12 ∷ 0 ∷ 0 ∷ 0x12 ∷ 1 ∷ 0 ∷ 0 ∷ []) (verdict 15 1 0 3) ∷
    -- the same with TH22(1, 2), which rises in word 10 only
    case unobserved two_wires (verdict 15 1 0 2) ∷
    -- the same with TH22(0, 1), which rises in no word
    case (1 ∷ 2 ∷ two_pins 2 0 1 (pair 0 1 (pair 2 3 (0 ∷ [])))) two_wires (verdict 32 1 0 0) ∷
    []

-- ---- one gate more than there may be

-- m gates TH12(0, 1)
unfoldable pub gates : ℕ → List ℕ → List ℕ
gates zero rest = rest
gates (suc m) rest = two_pins 1 0 1 (gates m rest)

-- m inverters on input 0
unfoldable pub inverters : ℕ → List ℕ → List ℕ
inverters zero rest = rest
inverters (suc m) rest = 0x11 ∷ 1 ∷ 0 ∷ 0 ∷ FFFF ++ inverters m rest

-- the 257th gate of a stage and the 513th of a reference, whose kind and operation do not exist either
unfoldable pub many_gates : List Case
many_gates = case (1 ∷ 1 ∷ gates 256 (2 ∷ 0x1C ∷ FFFF ++ FFFF ++ FFFF ++ FFFF)) wire_reference (verdict 6 1 2562 0) ∷ []

unfoldable pub many_operations : List Case
many_operations = case wire (1 ∷ 1 ∷ inverters 512 (0x11 ∷ 7 ∷ FFFF ++ FFFF)) (verdict 6 2 3074 0) ∷ []

-- ---- which of 1 to 9 is named, and where

unfoldable pub refused : List Case
refused =
    -- a kind that does not exist, with all pins absent: 4
    case (1 ∷ 1 ∷ 2 ∷ 0 ∷ FFFF ++ FFFF ++ FFFF ++ FFFF) wire_reference (verdict 4 1 3 0) ∷
    -- two pins that are needed and absent: the first
    case (1 ∷ 1 ∷ 2 ∷ 2 ∷ FFFF ++ FFFF ++ FFFF ++ FFFF) wire_reference (verdict 5 1 4 0) ∷
    -- two nets that do not exist: the first; in the order of the bytes, whether it stands in an output or in a gate
    case (1 ∷ 1 ∷ pair 9 9 (0 ∷ [])) wire_reference (verdict 9 1 3 0) ∷
    case (1 ∷ 1 ∷ pair 9 1 (two_pins 1 9 0 (0 ∷ []))) wire_reference (verdict 9 1 3 0) ∷
    case (1 ∷ 1 ∷ two_pins 1 9 0 (pair 9 1 (0 ∷ []))) wire_reference (verdict 9 1 4 0) ∷
    -- a stage that cannot be read comes before a reference that cannot
    case (1 ∷ 1 ∷ pair 0 2 (0 ∷ [])) [] (verdict 9 1 5 0) ∷
    -- references: 2, for a command before the inputs and for one of a stage; 3; 4; 5, for NOT with two operands and AND with one; 6; 7; 8
    case wire (0x12 ∷ 0 ∷ 0 ∷ 0 ∷ []) (verdict 2 2 0 0) ∷
    case wire (1 ∷ 1 ∷ 2 ∷ []) (verdict 2 2 2 0) ∷
    case wire (1 ∷ 0 ∷ []) (verdict 3 2 1 0) ∷
    case wire (1 ∷ 0x0B ∷ []) (verdict 3 2 1 0) ∷
    case wire (1 ∷ 1 ∷ 0x11 ∷ 0 ∷ 0 ∷ 0 ∷ 0 ∷ 0 ∷ []) (verdict 4 2 3 0) ∷
    case wire (1 ∷ 1 ∷ 0x11 ∷ 7 ∷ 0 ∷ 0 ∷ 0 ∷ 0 ∷ []) (verdict 4 2 3 0) ∷
    case wire (1 ∷ 1 ∷ 0x11 ∷ 1 ∷ 0 ∷ 0 ∷ 0 ∷ 0 ∷ []) (verdict 5 2 6 0) ∷
    case wire (1 ∷ 1 ∷ 0x11 ∷ 2 ∷ 0 ∷ 0 ∷ FFFF) (verdict 5 2 6 0) ∷
    case wire (first_input 1 17) (verdict 6 2 50 0) ∷
    case wire (1 ∷ 1 ∷ 0x12 ∷ 0 ∷ 0 ∷ 0 ∷ 0 ∷ []) (verdict 7 2 6 0) ∷
    case wire (1 ∷ 1 ∷ 0 ∷ []) (verdict 8 2 2 0) ∷
    -- a command that is cut, whatever its operation
    case wire (1 ∷ 1 ∷ 0x11 ∷ 7 ∷ 0 ∷ []) (verdict 1 2 5 0) ∷
    -- an output of a reference that names nothing; one that stands before the gate that it names is no fault
    case wire (1 ∷ 1 ∷ 0x12 ∷ FFFF ++ (0 ∷ [])) (verdict 9 2 3 0) ∷
    case swapped (1 ∷ 1 ∷ 0x12 ∷ 1 ∷ 0 ∷ inverters 1 (0 ∷ [])) (verdict 0 0 0 0) ∷
    []

-- ---- care words

-- a care command
abbrev pub cared : ℕ → List ℕ → List ℕ
cared w rest = 6 ∷ w ∷ 0 ∷ rest

-- case 6 without its inputs command
unfoldable pub early_gates : List ℕ
early_gates = two_pins 1 0 2 (two_pins 2 1 3 (pair 4 5 (0 ∷ [])))

-- of the whole case the two gates, and what follows them
abbrev pub whole_one : List ℕ → List ℕ
whole_one rest = two_pins 2 1 3 rest

abbrev pub whole_zero : List ℕ → List ℕ
whole_zero rest = 2 ∷ 0x1A ∷ 0 ∷ 0 ∷ 2 ∷ 0 ∷ 1 ∷ 0 ∷ 3 ∷ 0 ∷ rest

unfoldable pub care : List Case
care =
    -- 18; 19, where the word is below the one before and where it is the same; a command that is cut is 1
    case (1 ∷ 1 ∷ cared 2 []) wire_reference (verdict 18 1 3 0) ∷
    case (1 ∷ 2 ∷ cared 2 (cared 1 [])) wire_reference (verdict 19 1 6 0) ∷
    case (1 ∷ 1 ∷ cared 1 (cared 1 [])) wire_reference (verdict 19 1 6 0) ∷
    case (1 ∷ 1 ∷ 6 ∷ 2 ∷ []) wire_reference (verdict 1 1 4 0) ∷
    -- 2 before the inputs and in a reference
    case (cared 0 []) wire_reference (verdict 2 1 0 0) ∷
    case wire (1 ∷ 1 ∷ cared 0 []) (verdict 2 2 2 0) ∷
    -- the high byte counts
    case (1 ∷ 1 ∷ 6 ∷ 0 ∷ 1 ∷ []) wire_reference (verdict 18 1 3 0) ∷
    -- a list of words that show no fault, between gates and after outputs too; one whose second word shows one, and one of all words
    case (1 ∷ 2 ∷ cared 0 (cared 3 (whole_one (whole_zero (pair 5 4 (0 ∷ [])))))) and_reference (verdict 0 0 0 0) ∷
    case (1 ∷ 2 ∷ cared 0 (whole_one (cared 3 (whole_zero (pair 5 4 (0 ∷ [])))))) and_reference (verdict 0 0 0 0) ∷
    case (1 ∷ 2 ∷ whole_one (whole_zero (pair 5 4 (cared 0 (cared 3 (0 ∷ [])))))) and_reference (verdict 0 0 0 0) ∷
    case (1 ∷ 2 ∷ cared 1 (cared 3 early_gates)) and_reference (verdict 14 1 0 2) ∷
    case (1 ∷ 2 ∷ cared 0 (cared 1 (cared 2 (cared 3 early_gates)))) and_reference (verdict 14 1 0 0) ∷
    -- a care word is not its place in the list, and not its name: word 2 of the file is 01, the first of which something is found
    case (1 ∷ 2 ∷ cared 2 early_gates) and_reference (verdict 14 1 1 1) ∷
    -- the least name is that of the second care word
    case (1 ∷ 2 ∷ cared 1 (cared 2 early_gates)) and_reference (verdict 14 1 1 1) ∷
    []

-- ---- the order of the files, by the mark

-- AND of input 0 and NOT of input 1 with a relaxed TH22, which falls with the first of its pins, and its reference
unfoldable pub falls_early : List ℕ
falls_early = 1 ∷ 2 ∷ two_pins 0x82 1 2 (2 ∷ 0x1A ∷ 0 ∷ 0 ∷ 3 ∷ 0 ∷ 1 ∷ 0 ∷ 2 ∷ 0 ∷ pair 5 4 (0 ∷ []))

unfoldable pub and_not_reference : List ℕ
and_not_reference = 1 ∷ 2 ∷ 0x11 ∷ 1 ∷ 1 ∷ 0 ∷ FFFF ++ (0x11 ∷ 2 ∷ 0 ∷ 0 ∷ 2 ∷ 0 ∷ 0x12 ∷ 3 ∷ 0 ∷ 0 ∷ [])

-- two wires, the rail 1 of the first through a buffer with hold, whose fall the relaxed gate behind it does not wait for
unfoldable pub stays_high : List ℕ
stays_high = 1 ∷ 2 ∷ two_pins 1 1 1 (two_pins 0x82 4 1 (pair 0 5 (pair 2 3 (0 ∷ []))))

unfoldable pub in_files_order : List Case
in_files_order =
    case (1 ∷ 2 ∷ pair 0 1 (0 ∷ [])) and_reference (verdict 13 1 0 1) ∷
    case early_or or_reference (verdict 14 1 1 1) ∷
    case (1 ∷ 2 ∷ two_pins 2 0 2 (two_pins 1 1 3 (two_pins 2 0 2 (pair 4 5 (0 ∷ []))))) or_reference (verdict 14 1 1 1) ∷
    case (1 ∷ 2 ∷ cared 1 (cared 3 early_gates)) and_reference (verdict 14 1 0 1) ∷
    case (1 ∷ 2 ∷ cared 2 early_gates) and_reference (verdict 14 1 1 2) ∷
    case (1 ∷ 2 ∷ cared 1 (cared 2 early_gates)) and_reference (verdict 14 1 0 1) ∷
    case unobserved two_wires (verdict 15 1 0 1) ∷
    case falls_early and_not_reference (verdict 20 1 0 1) ∷
    case stays_high two_wires (verdict 21 1 0 1) ∷
    -- what is no word is the same in either order: the counts under 10 and 11, the gate under 32, and the place of a care word
    case wire (first_input 2 3) (verdict 10 0 1 2) ∷
    case wire (first_input 1 2) (verdict 11 0 1 2) ∷
    case (1 ∷ 2 ∷ cared 1 (whole_one (whole_zero (pair 5 4 (0 ∷ []))))) and_reference (verdict 32 1 0 0) ∷
    case (1 ∷ 1 ∷ cared 2 []) wire_reference (verdict 18 1 3 0) ∷
    []

-- ---- relaxed gates, kinds 129 to 155, and the fall

-- a buffer for each rail of one input
abbrev pub buffers : ℕ → List ℕ → List ℕ
buffers kind rest = two_pins kind 0 0 (two_pins kind 1 1 rest)

-- the whole case with these kinds of its two gates
abbrev pub and_of : ℕ → ℕ → List ℕ
and_of one zero' = 1 ∷ 2 ∷ two_pins one 1 3 (2 ∷ zero' ∷ 0 ∷ 0 ∷ 2 ∷ 0 ∷ 1 ∷ 0 ∷ 3 ∷ 0 ∷ pair 5 4 (0 ∷ []))

unfoldable pub relaxed : List Case
relaxed =
    -- kinds 128 and 156 do not exist; 130 has two pins
    case (1 ∷ 1 ∷ two_pins 0x80 0 1 (pair 0 1 (0 ∷ []))) wire_reference (verdict 4 1 3 0) ∷
    case (1 ∷ 1 ∷ two_pins 0x9C 0 1 (pair 0 1 (0 ∷ []))) wire_reference (verdict 4 1 3 0) ∷
    case (1 ∷ 1 ∷ 2 ∷ 0x82 ∷ 0 ∷ 0 ∷ FFFF ++ FFFF ++ FFFF) wire_reference (verdict 5 1 6 0) ∷
    -- two relaxed buffers, accepted
    case (1 ∷ 1 ∷ buffers 0x81 (pair 2 3 (0 ∷ []))) wire_reference (verdict 0 0 0 0) ∷
    -- the rise is judged as before: case 8 with a relaxed gate
    case (1 ∷ 1 ∷ two_pins 0x81 0 1 (pair 0 1 (0 ∷ []))) wire_reference (verdict 15 1 0 0) ∷
    -- the AND of the whole case: its relaxed TH22 falls with the first of its pins, in word 3 only; its relaxed THand0 in word 0 already
    case (and_of 0x82 0x1A) and_reference (verdict 20 1 0 3) ∷
    case (and_of 2 0x9A) and_reference (verdict 20 1 0 0) ∷
    case (and_of 0x82 0x9A) and_reference (verdict 20 1 0 0) ∷
    -- 20 and 21 in word 10, which is not the same from the other end
    case falls_early and_not_reference (verdict 20 1 0 2) ∷
    case stays_high two_wires (verdict 21 1 0 2) ∷
    -- a buffer with hold whose output gate does not wait for its fall, and one that does
    case (1 ∷ 1 ∷ buffers 1 (two_pins 0x82 2 0 (two_pins 0x82 3 1 (pair 4 5 (0 ∷ []))))) wire_reference (verdict 21 1 0 0) ∷
    case (1 ∷ 1 ∷ buffers 1 (two_pins 2 2 0 (two_pins 2 3 1 (pair 4 5 (0 ∷ []))))) wire_reference (verdict 0 0 0 0) ∷
    case (1 ∷ 1 ∷ buffers 0x81 (two_pins 2 2 0 (two_pins 2 3 1 (pair 4 5 (0 ∷ []))))) wire_reference (verdict 0 0 0 0) ∷
    []

-- ---- retired kinds, 24 and 152

-- a gate with all four pins on one net
abbrev pub one_pin : ℕ → ℕ → List ℕ → List ℕ
one_pin kind net rest = 2 ∷ kind ∷ net ∷ 0 ∷ net ∷ 0 ∷ net ∷ 0 ∷ net ∷ 0 ∷ rest

-- the wire, with such a gate on its rail 1
abbrev pub wire_by : ℕ → List ℕ
wire_by kind = 1 ∷ 1 ∷ one_pin kind 1 (pair 0 2 (0 ∷ []))

unfoldable pub retired : List Case
retired =
    -- stages that are right in all but their kind; kinds 23, 25, 151 and 153 are still cast
    case (wire_by 0x18) wire_reference (verdict 28 1 0 0) ∷
    case (wire_by 0x98) wire_reference (verdict 28 1 0 0) ∷
    case (wire_by 0x17) wire_reference (verdict 0 0 0 0) ∷
    case (wire_by 0x19) wire_reference (verdict 0 0 0 0) ∷
    case (wire_by 0x97) wire_reference (verdict 0 0 0 0) ∷
    case (wire_by 0x99) wire_reference (verdict 0 0 0 0) ∷
    -- 10 and 12 come before it, 13 and 15 after it; the kind counts where the gate feeds nothing
    case (wire_by 0x18) (first_input 2 1) (verdict 10 0 1 2) ∷
    case (1 ∷ 1 ∷ one_pin 0x18 1 (two_pins 1 3 0 (pair 0 2 (0 ∷ [])))) wire_reference (verdict 12 1 1 0) ∷
    case (wire_by 0x98) not_reference (verdict 28 1 0 0) ∷
    case (1 ∷ 1 ∷ two_pins 1 0 1 (one_pin 0x18 1 (pair 0 1 (0 ∷ [])))) wire_reference (verdict 28 1 1 0) ∷
    -- the least of gates 1 and 2
    case (1 ∷ 1 ∷ two_pins 2 1 1 (one_pin 0x98 2 (one_pin 0x18 3 (pair 0 4 (0 ∷ []))))) wire_reference (verdict 28 1 1 0) ∷
    []

-- ---- gates that never rise

unfoldable pub idle : List Case
idle =
    -- two wires with two such gates behind two that rise: the least is named, and no word
    case (1 ∷ 1 ∷ buffers 1 (two_pins 2 0 1 (two_pins 2 2 3 (pair 2 3 (0 ∷ []))))) wire_reference (verdict 32 1 2 0) ∷
    -- the whole case: its TH22 rises in word 3 alone, which is cared for, or is not; of words 3 alone its THand0 does not rise
    case whole_stage and_reference (verdict 0 0 0 0) ∷
    case (1 ∷ 2 ∷ cared 0 (cared 3 (whole_one (whole_zero (pair 5 4 (0 ∷ [])))))) and_reference (verdict 0 0 0 0) ∷
    case (1 ∷ 2 ∷ cared 0 (cared 1 (cared 2 (whole_one (whole_zero (pair 5 4 (0 ∷ []))))))) and_reference (verdict 32 1 0 0) ∷
    case (1 ∷ 2 ∷ cared 3 (whole_one (whole_zero (pair 5 4 (0 ∷ []))))) and_reference (verdict 32 1 1 0) ∷
    -- case 6 in word 3 alone, in which it waits
    case (1 ∷ 2 ∷ cared 3 early_gates) and_reference (verdict 32 1 0 0) ∷
    -- 13, 14, 15, 20 and 21 come before it: the gate stands before the others, and rises in no word
    case (1 ∷ 1 ∷ two_pins 2 0 1 (pair 1 0 (0 ∷ []))) wire_reference (verdict 13 1 0 0) ∷
    case (1 ∷ 2 ∷ two_pins 2 0 1 (pair 0 1 (0 ∷ []))) (first_input 2 1) (verdict 14 1 1 0) ∷
    case (1 ∷ 1 ∷ two_pins 2 0 1 (two_pins 1 0 1 (pair 0 1 (0 ∷ [])))) wire_reference (verdict 15 1 1 0) ∷
    case (1 ∷ 2 ∷ two_pins 2 0 1 (two_pins 0x82 1 3 (whole_zero (pair 6 5 (0 ∷ []))))) and_reference (verdict 20 1 0 3) ∷
    case (1 ∷ 1 ∷ two_pins 2 0 1 (two_pins 1 1 1 (two_pins 0x82 3 1 (pair 0 4 (0 ∷ []))))) wire_reference (verdict 21 1 1 1) ∷
    -- a gate that feeds others, and does not rise
    case (1 ∷ 1 ∷ two_pins 2 0 1 (two_pins 1 1 2 (pair 0 3 (0 ∷ [])))) wire_reference (verdict 32 1 0 0) ∷
    []

-- ---- registers and completion

abbrev pub u16 : ℕ → List ℕ → List ℕ
u16 v rest = v % 256 ∷ v / 256 ∷ rest

-- a register with its data rails and its Ki, and a C-element
abbrev pub registered : ℕ → ℕ → ℕ → List ℕ → List ℕ
registered a b ki rest = 4 ∷ u16 a (u16 b (u16 ki rest))

abbrev pub completed : ℕ → ℕ → ℕ → ℕ → List ℕ → List ℕ
completed a b c d rest = 5 ∷ u16 a (u16 b (u16 c (u16 d rest)))

abbrev pub two_signals : ℕ → List ℕ
two_signals i = 1 ∷ suc i ∷ 0x12 ∷ 0 ∷ 0 ∷ 0x12 ∷ i ∷ 0 ∷ 0 ∷ []

-- one input with two registers in a row, another register or C-element, and the output of the second register
abbrev pub in_row : (List ℕ → List ℕ) → List ℕ
in_row more = 1 ∷ 1 ∷ registered 0 1 7 (registered 2 3 0xFFFE (more (pair 5 6 (0 ∷ []))))

-- the whole case with a register behind its gates, whose Ki is given
abbrev pub whole_then : ℕ → List ℕ
whole_then ki = 1 ∷ 2 ∷ whole_one (whole_zero (registered 5 4 ki (pair 6 7 (0 ∷ []))))

-- two inputs, two registers each, and a C-element that is behind the Ki of the first
abbrev pub two_rows : ℕ → ℕ → ℕ → ℕ → List ℕ
two_rows a b c d =
    1 ∷ 2 ∷ registered 0 1 16 (registered 2 3 15 (registered 4 5 0xFFFE (registered 7 8 0xFFFE (completed a b c d (pair 10 11 (pair 13 14 (0 ∷ [])))))))

-- one input, a register, and three behind it
abbrev pub three_behind : List ℕ
three_behind =
    1 ∷ 1 ∷ registered 0 1 15 (registered 2 3 0xFFFE (registered 2 3 0xFFFE (registered 2 3 0xFFFE
    (completed 7 10 0xFFFF 0xFFFF (completed 14 13 0xFFFF 0xFFFF (pair 5 6 (pair 8 9 (pair 11 12 (0 ∷ [])))))))))

unfoldable pub pipelines : List Case
pipelines =
    -- a register counts as two wires, whose rails are not exchanged; one behind the whole case's gates
    case (1 ∷ 1 ∷ registered 0 1 0xFFFE (pair 2 3 (0 ∷ []))) wire_reference (verdict 0 0 0 0) ∷
    case (in_row (λ rest. rest)) wire_reference (verdict 0 0 0 0) ∷
    case (1 ∷ 1 ∷ registered 1 0 0xFFFE (pair 2 3 (0 ∷ []))) wire_reference (verdict 13 1 0 0) ∷
    case (whole_then 0xFFFE) and_reference (verdict 0 0 0 0) ∷
    -- a gate behind a register, and a gate command after that of the register that it feeds
    case (1 ∷ 1 ∷ two_pins 1 3 3 (registered 0 1 0xFFFE (pair 2 4 (0 ∷ [])))) wire_reference (verdict 0 0 0 0) ∷
    case (1 ∷ 1 ∷ registered 2 1 0xFFFE (two_pins 1 0 0 (pair 3 4 (0 ∷ [])))) wire_reference (verdict 0 0 0 0) ∷
    -- 1, 5, 9: cut; pins A, B and D; FFFF and FFFE, a net that there is not, a Ko as data or as an output, a C-element as data
    case (1 ∷ 1 ∷ 4 ∷ []) wire_reference (verdict 1 1 3 0) ∷
    case (in_row (completed 0xFFFF 4 0xFFFF 0xFFFF)) wire_reference (verdict 5 1 17 0) ∷
    case (in_row (completed 4 0xFFFF 4 0xFFFF)) wire_reference (verdict 5 1 19 0) ∷
    case (in_row (completed 4 7 0xFFFF 0xFFFE)) wire_reference (verdict 5 1 23 0) ∷
    case (in_row (completed 4 7 0xFFFE 0xFFFF)) wire_reference (verdict 9 1 21 0) ∷
    case (in_row (registered 0xFFFF 1 4)) wire_reference (verdict 9 1 17 0) ∷
    case (in_row (registered 0 1 0xFFFF)) wire_reference (verdict 9 1 21 0) ∷
    case (in_row (registered 0 1 11)) wire_reference (verdict 9 1 21 0) ∷
    case (in_row (registered 0 4 4)) wire_reference (verdict 9 1 19 0) ∷
    case (1 ∷ 1 ∷ registered 0 1 0xFFFE (pair 2 4 (0 ∷ []))) wire_reference (verdict 9 1 12 0) ∷
    case (1 ∷ 1 ∷ registered 0 5 0xFFFE (completed 4 4 0xFFFF 0xFFFF (pair 2 3 (0 ∷ [])))) wire_reference (verdict 9 1 5 0) ∷
    -- 33: a register of a ring; a C-element loop behind a Ki, and one behind none; levels, by the highest source
    case (1 ∷ 1 ∷ registered 5 6 7 (registered 2 3 0xFFFE (pair 5 6 (0 ∷ [])))) wire_reference (verdict 33 1 0 0) ∷
    case (1 ∷ 1 ∷ registered 0 1 8 (registered 2 3 0xFFFE (completed 7 8 0xFFFF 0xFFFF (pair 5 6 (0 ∷ []))))) wire_reference (verdict 33 1 0 0) ∷
    case (in_row (completed 8 0 0xFFFF 0xFFFF)) wire_reference (verdict 0 0 0 0) ∷
    case (1 ∷ 1 ∷ registered 0 1 7 (registered 2 1 0xFFFE (pair 5 6 (0 ∷ [])))) wire_reference (verdict 33 1 1 0) ∷
    case (1 ∷ 1 ∷ registered 5 9 0xFFFE (registered 0 9 4 (registered 0 1 7 (pair 2 3 (0 ∷ []))))) wire_reference (verdict 33 1 0 0) ∷
    -- unequal levels that meet in outputs alone are allowed; 12 comes before 33, but follows gates only; and the ring comes before unequal levels
    case (1 ∷ 1 ∷ registered 0 1 0xFFFE (pair 0 3 (0 ∷ []))) wire_reference (verdict 0 0 0 0) ∷
    case (1 ∷ 1 ∷ two_pins 1 2 0 (registered 3 4 0xFFFE (pair 3 4 (0 ∷ [])))) wire_reference (verdict 12 1 0 0) ∷
    case (1 ∷ 1 ∷ two_pins 1 3 0 (registered 2 1 0xFFFE (pair 3 4 (0 ∷ [])))) wire_reference (verdict 33 1 0 0) ∷
    case (1 ∷ 1 ∷ registered 0 1 7 (registered 2 1 10 (registered 11 12 13 (registered 8 9 0xFFFE (pair 11 12 (0 ∷ [])))))) wire_reference (verdict 33 1 2 0) ∷
    -- 34: one Ko of two, FFFE too early; it comes before 35 at an earlier register
    case (1 ∷ 1 ∷ registered 0 1 7 (registered 2 3 0xFFFE (registered 2 3 0xFFFE (pair 5 6 (pair 8 9 (0 ∷ [])))))) (two_signals 0) (verdict 34 1 0 0) ∷
    case (1 ∷ 1 ∷ registered 0 1 0xFFFE (registered 2 3 0xFFFE (pair 5 6 (0 ∷ [])))) wire_reference (verdict 34 1 0 0) ∷
    case (1 ∷ 1 ∷ registered 0 1 0 (registered 0 1 0xFFFE (registered 5 6 0xFFFE (pair 8 9 (0 ∷ []))))) wire_reference (verdict 34 1 1 0) ∷
    -- 35: a register that reaches none and has a Ko of the next level, its own, or its own rail; a rail of an input behind a C-element
    case (in_row (registered 0 1 7)) wire_reference (verdict 35 1 2 0) ∷
    case (in_row (registered 0 1 10)) wire_reference (verdict 35 1 2 0) ∷
    case (1 ∷ 1 ∷ registered 0 1 2 (pair 2 3 (0 ∷ []))) wire_reference (verdict 35 1 0 0) ∷
    case (1 ∷ 1 ∷ registered 0 1 8 (registered 2 3 0xFFFE (completed 7 0 0xFFFF 0xFFFF (pair 5 6 (0 ∷ []))))) wire_reference (verdict 35 1 0 0) ∷
    -- a tree of two C-elements over the Ko of three registers
    case three_behind (first_input 1 3) (verdict 0 0 0 0) ∷
    -- both registers of the next level may stand behind a Ki, one of them twice; one of the same level, at pin B or at D, may not
    case (two_rows 12 15 12 0xFFFF) (two_signals 1) (verdict 0 0 0 0) ∷
    case (two_rows 12 9 0xFFFF 0xFFFF) (two_signals 1) (verdict 35 1 0 0) ∷
    case (two_rows 12 15 12 9) (two_signals 1) (verdict 35 1 0 0) ∷
    -- 28 comes after it
    case (1 ∷ 1 ∷ one_pin 0x18 1 (registered 0 2 0 (pair 3 4 (0 ∷ [])))) wire_reference (verdict 35 1 0 0) ∷
    case (1 ∷ 1 ∷ one_pin 0x18 1 (registered 0 2 0xFFFE (pair 3 4 (0 ∷ [])))) wire_reference (verdict 28 1 0 0) ∷
    []

abbrev pub judged_in : WordOrder → List Case → List Verdict
judged_in order cases = map (λ (x : Case). verdict_on order (files x.stage x.reference)) cases

-- in the order that is taken where nothing is said
abbrev pub judged : List Case → List Verdict
judged = judged_in FirstHighest

abbrev pub expected : List Case → List Verdict
expected cases = map (λ (x : Case). x.expected) cases

-- ---- the settled-row call

-- the verdict, and the row after the call
pub record RowAnswer : Type 0 where
  pub verdict : Verdict
  pub row : List ℕ

abbrev pub answer_with : Verdict → List ℕ → RowAnswer
answer_with v row = record { verdict = v; row = row }

abbrev pub settled_row : List ℕ → List ℕ → RowAnswer
settled_row stage row = answer_with (row_verdict stage row) (row_after stage row)

pub record RowCase : Type 0 where
  pub stage : List ℕ
  pub row : List ℕ
  pub expected : RowAnswer

abbrev pub row_case : List ℕ → List ℕ → RowAnswer → RowCase
row_case stage row expected = record { stage = stage; row = row; expected = expected }

unfoldable pub row_examples : List RowCase
row_examples =
    row_case [] (7 ∷ []) (answer_with (verdict 1 1 0 0) (7 ∷ [])) ∷
    -- a loop comes before a row of the wrong length
    row_case (1 ∷ 1 ∷ 2 ∷ 1 ∷ 2 ∷ 0 ∷ 0 ∷ 0 ∷ FFFF ++ FFFF ++ (3 ∷ 0 ∷ 0 ∷ 1 ∷ 0 ∷ 0 ∷ [])) [] (answer_with (verdict 12 1 0 0) []) ∷
    row_case wire (1 ∷ 0 ∷ 0 ∷ []) (answer_with (verdict 16 3 3 0) (1 ∷ 0 ∷ 0 ∷ [])) ∷
    row_case wire (1 ∷ 1 ∷ []) (answer_with (verdict 17 3 0 0) (1 ∷ 1 ∷ [])) ∷
    row_case wire (0 ∷ 2 ∷ []) (answer_with (verdict 17 3 0 0) (0 ∷ 2 ∷ [])) ∷
    -- a care list is read, with its refusals, and not used
    row_case (1 ∷ 1 ∷ cared 0 (cared 0 [])) (0 ∷ 0 ∷ []) (answer_with (verdict 19 1 6 0) (0 ∷ 0 ∷ [])) ∷
    row_case (1 ∷ 2 ∷ cared 3 early_gates) (1 ∷ 0 ∷ 0 ∷ 0 ∷ 9 ∷ 9 ∷ []) (answer_with (verdict 0 0 0 0) (1 ∷ 0 ∷ 0 ∷ 0 ∷ 1 ∷ 0 ∷ [])) ∷
    -- old gate bytes are ignored; then with input 1 NULL
    row_case whole_stage (0 ∷ 1 ∷ 0 ∷ 1 ∷ 9 ∷ 9 ∷ []) (answer_with (verdict 0 0 0 0) (0 ∷ 1 ∷ 0 ∷ 1 ∷ 1 ∷ 0 ∷ [])) ∷
    row_case whole_stage (1 ∷ 0 ∷ 0 ∷ 0 ∷ 9 ∷ 9 ∷ []) (answer_with (verdict 0 0 0 0) (1 ∷ 0 ∷ 0 ∷ 0 ∷ 0 ∷ 0 ∷ [])) ∷
    -- gates of retired kinds settle
    row_case (wire_by 0x18) (0 ∷ 1 ∷ 9 ∷ []) (answer_with (verdict 0 0 0 0) (0 ∷ 1 ∷ 1 ∷ [])) ∷
    row_case (wire_by 0x98) (1 ∷ 0 ∷ 9 ∷ []) (answer_with (verdict 0 0 0 0) (1 ∷ 0 ∷ 0 ∷ [])) ∷
    []
