-- What loading asks of a file that was read, what it leaves, and the flat forms number by number.
use Rattle.std.specs.Prelude.{ℕ, ◌+◌, ◌-◌, ◌*◌, ◌/◌, ◌%◌, ◌≤◌, ◌<◌, ◌≡◌, Bool, true, cond, List, [], ◌∷◌, length, get_or, replicate, eqb, ltb}
use Rattle.gates.specs.Cell.{kind_of, pin_count}
use Rattle.gates.specs.declared.Kind.{Kind}
use Rattle.gates.specs.declared.Kind.TheVariants.{Hold, Relaxed, Unknown}
use Rattle.netlist.specs.declared.File.{File}
use Rattle.netlist.specs.declared.Limits.{Limits}
use Rattle.netlist.specs.declared.Counts.{Counts}
use Rattle.netlist.specs.Bytes.{byte, operand, absent}
use Rattle.netlist.specs.Commands.{stage_file}
use Rattle.netlist.specs.Reading.{Nets, carries_data, Places, counts_of, Reading, refused, readable, stage_limits, Within}
use Rattle.netlist.specs.Content.{stage_of, reference_of}
use Rattle.netlist.specs.Read.{Read}
use Rattle.read_file.specs.Files.{most_care, first_care, standing}
use Rattle.circuit.specs.Stage.{net_count, cell_in, pin_in, output_in, stage_in, StageLoaded}
use Rattle.circuit.specs.Reference.{reference_in, ReferenceLoaded}

-- the places that reading left in a lent slice
abbrev pub places_in : Limits → Counts → List ℕ → Places
places_in most c places = standing most places c

-- a file was read, and its places are there
pub record FileRead (f : File) (most : Limits) (s places : List ℕ) (c : Counts) : Type 0 where
  pub within : Within most c
  pub few_care : c.care ≤ most_care f most
  pub room : first_care most + most_care f most ≤ length places
  pub read : Read f most s (places_in most c places)

-- a stage file was read, with registers or without
pub record StageRead (most : Limits) (s places : List ℕ) (c : Counts) : Type 0 where
  pub registers : Bool
  pub file_read : FileRead (stage_file registers) most s places c
  pub counted : counts_of (places_in most c places) ≡ c

-- what a reading leaves in a flat form: the stage, or the reference, where there is one
unfoldable pub HoldsStage : List ℕ → Reading → List ℕ → Type 0
HoldsStage s (refused number at) code = Unit {0}
HoldsStage s (readable p) code = StageLoaded (counts_of p) code × (stage_in (counts_of p) code ≡ stage_of s p)

-- The stage as the file has it: its gates and outputs name nets that carry data, those of registers among them. A pin that a kind lacks has the ground.
pub record RawStage (N : Nets) (c : Counts) (ground : ℕ) (code : List ℕ) : Type 0 where
  pub within : Within stage_limits c
  pub room : 8 * c.gates + 2 * c.outputs + c.care ≤ length code
  pub low : (k : ℕ) → k < c.gates → 1 ≤ cell_in code k
  pub high : (k : ℕ) → k < c.gates → cell_in code k ≤ 27
  pub pin : (k i : ℕ) → k < c.gates → i < pin_count (cell_in code k) → carries_data N (pin_in code k i) ≡ true
  pub lacks : (k i : ℕ) → k < c.gates → pin_count (cell_in code k) ≤ i → i < 4 → pin_in code k i ≡ ground
  pub rail0 : (j : ℕ) → j < c.outputs → carries_data N (output_in c code j).rail0 ≡ true
  pub rail1 : (j : ℕ) → j < c.outputs → carries_data N (output_in c code j).rail1 ≡ true

-- the ground of a stage without registers is the net after its gates; with registers that is a net, and FFFF is none
unfoldable pub ground_of : Counts → ℕ
ground_of c = cond (eqb c.registers 0) (net_count c) absent

unfoldable pub HoldsReference : List ℕ → Reading → List ℕ → Type 0
HoldsReference s (refused number at) code = Unit {0}
HoldsReference s (readable p) code = ReferenceLoaded (counts_of p) code × (reference_in (counts_of p) code ≡ reference_of s p)

-- ---- a stage, number by number

-- the net at pin i of the gate command at a place, or the ground where its kind lacks the pin
unfoldable pub pin_number : List ℕ → ℕ → ℕ → ℕ → ℕ → ℕ
pin_number s at pins ground i = cond (ltb i pins) (operand s (at + 2 + 2 * i)) ground

-- the numbers of a gate: its cell, its pins, its places in the order, which are not known yet, and 1 for hold or 0
abbrev pub cell_row : List ℕ → ℕ → ℕ → ℕ → ℕ → ℕ → List ℕ
cell_row s at cell pins hold ground =
    cell ∷ pin_number s at pins ground 0 ∷ pin_number s at pins ground 1 ∷ pin_number s at pins ground 2 ∷ pin_number s at pins ground 3 ∷ 0 ∷ 0 ∷ hold ∷ []

abbrev pub kind_row : Kind → List ℕ → ℕ → ℕ → List ℕ
kind_row (Hold cell pins) s at ground = cell_row s at cell pins 1 ground
kind_row (Relaxed cell pins) s at ground = cell_row s at cell pins 0 ground
kind_row Unknown s at ground = replicate 8 0

unfoldable pub gate_row : List ℕ → ℕ → ℕ → List ℕ
gate_row s at ground = kind_row (kind_of (byte s (at + 1))) s at ground

-- number i of the gates whose commands stand at some places
unfoldable pub gates_number : List ℕ → List ℕ → ℕ → ℕ → ℕ
gates_number s places ground i = get_or (gate_row s (get_or places (i / 8) 0) ground) (i % 8) 0

-- number j of those that follow the gates: the rails of the outputs, then the care words
unfoldable pub output_number : Limits → List ℕ → List ℕ → Counts → ℕ → ℕ
output_number most s places c j =
    cond (ltb j (2 * c.outputs))
    (operand s (get_or places (most.gates + j / 2) 0 + 1 + 2 * (j % 2)))
    (get_or places (first_care most + (j - 2 * c.outputs)) 0)

-- number i of the stage, whose places were left within some limits: those of its gates, then the others
unfoldable pub stage_number : Limits → List ℕ → List ℕ → Counts → ℕ → ℕ → ℕ
stage_number most s places c ground i =
    cond (ltb i (8 * c.gates)) (gates_number s places ground i) (output_number most s places c (i - 8 * c.gates))

-- the numbers before place i are those of a rule
abbrev pub WrittenTo : (ℕ → ℕ) → List ℕ → ℕ → Type 0
WrittenTo number code i = (q : ℕ) → q < i → get_or code q 0 ≡ number q

-- ---- a reference, number by number

-- number j of a gate: its operation and its two operands; operation 1, NOT, has its first operand twice
unfoldable pub operator_number : List ℕ → ℕ → ℕ → ℕ
operator_number s at j =
    cond (eqb j 0) (byte s (at + 1))
    (cond (eqb j 1) (operand s (at + 2)) (operand s (at + cond (eqb (byte s (at + 1)) 1) 2 4)))

-- number i of the reference: those of its gates, then the signals of its outputs
unfoldable pub reference_number : Limits → List ℕ → List ℕ → Counts → ℕ → ℕ
reference_number most s places c i =
    let j = i - 3 * c.gates in
    cond (ltb i (3 * c.gates))
    (operator_number s (get_or places (i / 3) 0) (i % 3))
    (operand s (get_or places (most.gates + j) 0 + 1))
