-- What holds of a readable file by the places of its commands, also of a list of numbers that are no bytes; and a reading as the code answers it.
use Rattle.std.specs.Prelude.{ℕ, ◌+◌, ◌*◌, ◌^◌, ◌≤◌, ◌<◌, ◌≡◌, true, List, length, get_or, None, Ok, Err}
use Rattle.netlist.specs.Types.{File, Sort, Limits, Outcome, refusal}
use Rattle.netlist.specs.Types.file
use Rattle.netlist.specs.Types.sort
use Rattle.netlist.specs.Bytes.{byte, operand, absent}
use Rattle.netlist.specs.Commands.{most_parts, needed, pins_used, misfit_from}
use Rattle.netlist.specs.Reading.{Nets, asked, Places, Ascending, counts_of, nets_of, Reading, refused, readable}
use Rattle.netlist.specs.Writing.{width_for, operand_count, Has, All}

-- gate k stands at a place, its code is known, and each operand that it needs is there and names what it has to name
pub record GateRead (f : File) (s : List ℕ) (N : Nets) (k at : ℕ) : Type 0 where
  pub first : 2 ≤ at
  pub room : at + width_for f sort.Gate ≤ length s
  pub known : 1 ≤ needed f (byte s (at + 1))
  pub used : (i : ℕ) → i < needed f (byte s (at + 1)) → operand s (at + 2 + 2 * i) ≡ absent → ⊥
  pub named : (i : ℕ) → i < needed f (byte s (at + 1)) → asked f sort.Gate N k i (operand s (at + 2 + 2 * i)) ≡ true

-- an output stands at a place, and each operand names what it has to name, wherever it stands among the gates
pub record OutputRead (f : File) (s : List ℕ) (N : Nets) (at : ℕ) : Type 0 where
  pub first : 2 ≤ at
  pub room : at + width_for f sort.Output ≤ length s
  pub named : (i : ℕ) → i < operand_count f sort.Output → asked f sort.Output N N.gates i (operand s (at + 1 + 2 * i)) ≡ true

-- a register stands at a place, after some gates, and each operand names what it has to name
pub record RegisterRead (f : File) (s : List ℕ) (N : Nets) (at : ℕ) : Type 0 where
  pub own : Has f sort.Register
  pub room : at + 7 ≤ length s
  pub after : ℕ
  pub named : (i : ℕ) → i < 3 → asked f sort.Register N after i (operand s (at + 1 + 2 * i)) ≡ true

-- a C-element stands at a place, after some gates; each pin that it uses names what it has to name, and the others are FFFF
pub record ElementRead (f : File) (s : List ℕ) (N : Nets) (at : ℕ) : Type 0 where
  pub own : Has f sort.Element
  pub room : at + 9 ≤ length s
  pub after : ℕ
  pub named : (i : ℕ) → i < pins_used s (at + 1) → asked f sort.Element N after i (operand s (at + 1 + 2 * i)) ≡ true
  pub fits : misfit_from (pins_used s (at + 1)) 0 s (at + 1) 4 ≡ None

abbrev pub PartOf : File → List ℕ → Nets → ℕ → Sort → Type 0
PartOf f s N at sort.Register = RegisterRead f s N at
PartOf f s N at sort.Element = ElementRead f s N at
PartOf f s N at sort.Inputs = ⊥
PartOf f s N at sort.Gate = ⊥
PartOf f s N at sort.Output = ⊥
PartOf f s N at sort.Care = ⊥
PartOf f s N at sort.End = ⊥
PartOf f s N at sort.Unknown = ⊥

abbrev pub PartRead : File → List ℕ → Nets → Sort × ℕ → Type 0
PartRead f s N x = PartOf f s N x.1 x.0

pub record Read (f : File) (most : Limits) (s : List ℕ) (p : Places) : Type 0 where
  pub inputs_in : (1 ≤ p.inputs) × (p.inputs ≤ most.inputs)
  pub inputs_at : p.inputs ≡ byte s 1
  pub gates_in_holds : length p.gates ≤ most.gates
  pub outputs_in_holds : (1 ≤ length p.outputs) × (length p.outputs ≤ most.outputs)
  pub care_in_holds : Ascending (2 ^ p.inputs) 0 p.care
  pub registers_in : (counts_of p).registers ≤ most_parts
  pub elements_in : (counts_of p).elements ≤ most_parts
  pub size : length s ≡
      3 + width_for f sort.Gate * length p.gates + width_for f sort.Output * length p.outputs + width_for f sort.Care * length p.care
      + (width_for f sort.Register * (counts_of p).registers + width_for f sort.Element * (counts_of p).elements)
  pub gate_at_holds : (k : ℕ) → k < length p.gates → GateRead f s (nets_of p) k (get_or p.gates k 0)
  pub output_at : (j : ℕ) → j < length p.outputs → OutputRead f s (nets_of p) (get_or p.outputs j 0)
  pub parts_at : All (PartRead f s (nets_of p)) p.parts

-- the refusal, or the counts; the places go to a slice that the caller lends
unfoldable pub outcome_of : Reading → Outcome
outcome_of (refused number at) = Err (refusal number at)
outcome_of (readable p) = Ok (counts_of p)

-- how many registers, and how many C-elements, a file may have: only a pipeline has them
abbrev pub most_of_either : File → ℕ
most_of_either file.Stage = 0
most_of_either file.Pipeline = most_parts
most_of_either file.Reference = 0

-- where a command can end that is read, or refused, after as many gates, outputs, care words, registers and C-elements as there may be
abbrev pub farthest : File → Limits → ℕ
farthest f most =
    2 + width_for f sort.Gate * (most.gates + 1) + width_for f sort.Output * most.outputs + width_for f sort.Care * 2 ^ most.inputs
    + (width_for f sort.Register * most_of_either f + width_for f sort.Element * most_of_either f)

-- the program reads at most so many bytes of each file
abbrev pub most_bytes : ℕ
most_bytes = 8192
