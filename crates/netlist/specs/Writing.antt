-- Writing a file: the commands of a content, in any order; and which contents fit a file.
use Rattle.std.specs.Prelude.{ℕ, suc, ◌+◌, ◌^◌, ◌≤◌, ◌<◌, ◌≡◌, Bool, true, cond, ◌||◌, List, [], ◌∷◌, ◌++◌, map, length}
use Rattle.gates.specs.Cell.{kind_byte}
use Rattle.netlist.specs.Types.{File, Sort, Form, Limits}
use Rattle.netlist.specs.Types.file
use Rattle.netlist.specs.Types.sort
use Rattle.netlist.specs.Bytes.{absent}
pub use Rattle.netlist.specs.Bytes.{write_operands}
use Rattle.netlist.specs.Commands.{is_sort, form_of, most_parts, width, needed}
use Rattle.netlist.specs.Reading.{Nets, asked, Places, Ascending, count_of}
use Rattle.netlist.specs.Content.{Coded, Gate, Pair, Stage, Reference}

-- ---- the row of a sort of command

-- the byte that stands for a sort of command; none stands for no command
abbrev pub command_byte : File → Sort → ℕ
command_byte f sort.End = 0x00
command_byte f sort.Inputs = 0x01
command_byte file.Stage sort.Gate = 0x02
command_byte file.Stage sort.Output = 0x03
command_byte file.Pipeline sort.Gate = 0x02
command_byte file.Pipeline sort.Output = 0x03
command_byte file.Reference sort.Gate = 0x11
command_byte file.Reference sort.Output = 0x12
command_byte f sort.Care = 0x06
command_byte f sort.Register = 0x04
command_byte f sort.Element = 0x05
command_byte f sort.Unknown = 0xFF

abbrev pub form_for : File → Sort → Form
form_for f c = form_of f (command_byte f c)

abbrev pub width_for : File → Sort → ℕ
width_for f c = width (form_for f c)

abbrev pub operand_count : File → Sort → ℕ
operand_count f c = (form_for f c).operands

-- a file has commands of a sort
abbrev pub Has : File → Sort → Type 0
Has f c = (form_for f c).sort ≡ c

-- ---- items

-- a gate, an output, a care command, a register with its operands, or a C-element with the pins that it uses
pub data Item : Type 0 where
  gate : Coded → Item
  output : List ℕ → Item
  care : ℕ → Item
  register : List ℕ → Item
  element : List ℕ → Item

-- the gates, the outputs and the care words among some items, in their order
abbrev pub gates_in : List Item → List Coded
gates_in [] = []
gates_in (gate c ∷ items) = c ∷ gates_in items
gates_in (output vs ∷ items) = gates_in items
gates_in (care w ∷ items) = gates_in items
gates_in (register vs ∷ items) = gates_in items
gates_in (element vs ∷ items) = gates_in items

abbrev pub outputs_in : List Item → List (List ℕ)
outputs_in [] = []
outputs_in (gate c ∷ items) = outputs_in items
outputs_in (output vs ∷ items) = vs ∷ outputs_in items
outputs_in (care w ∷ items) = outputs_in items
outputs_in (register vs ∷ items) = outputs_in items
outputs_in (element vs ∷ items) = outputs_in items

abbrev pub care_in : List Item → List ℕ
care_in [] = []
care_in (gate c ∷ items) = care_in items
care_in (output vs ∷ items) = care_in items
care_in (care w ∷ items) = w ∷ care_in items
care_in (register vs ∷ items) = care_in items
care_in (element vs ∷ items) = care_in items

-- an item as a command: its sort, what stands between its command byte and its operands, and the operands that it uses
abbrev pub sort_of : Item → Sort
sort_of (gate c) = sort.Gate
sort_of (output vs) = sort.Output
sort_of (care w) = sort.Care
sort_of (register vs) = sort.Register
sort_of (element vs) = sort.Element

abbrev pub codes_of : Item → List ℕ
codes_of (gate c) = c.code ∷ []
codes_of (output vs) = []
codes_of (care w) = []
codes_of (register vs) = []
codes_of (element vs) = []

abbrev pub operands_of : Item → List ℕ
operands_of (gate c) = c.operands
operands_of (output vs) = vs
operands_of (care w) = w ∷ []
operands_of (register vs) = vs
operands_of (element vs) = vs

-- the places of the commands of a sort, where the first item stands at a place
abbrev pub item_places : Sort → File → ℕ → List Item → List ℕ
item_places c f at [] = []
item_places c f at (i ∷ items) =
    let later = item_places c f (at + width_for f (sort_of i)) items in
    cond (is_sort c (sort_of i)) (at ∷ later) later

abbrev pub gate_places : File → ℕ → List Item → List ℕ
gate_places = item_places sort.Gate

abbrev pub output_places : File → ℕ → List Item → List ℕ
output_places = item_places sort.Output

-- the sorts and places of the registers and C-elements
abbrev pub is_part : Sort → Bool
is_part c = is_sort sort.Register c || is_sort sort.Element c

abbrev pub part_places : File → ℕ → List Item → List (Sort × ℕ)
part_places f at [] = []
part_places f at (i ∷ items) =
    let later = part_places f (at + width_for f (sort_of i)) items in
    cond (is_part (sort_of i)) ((sort_of i, at) ∷ later) later

-- their sorts
abbrev pub parts_in : List Item → List Sort
parts_in [] = []
parts_in (i ∷ items) = let later = parts_in items in cond (is_part (sort_of i)) (sort_of i ∷ later) later

-- in a file with n inputs, whose items follow the inputs command
abbrev pub places_of : File → ℕ → List Item → Places
places_of f n items = record {
  inputs = n;
  gates = gate_places f 2 items;
  outputs = output_places f 2 items;
  care = care_in items;
  parts = part_places f 2 items;
}

-- ---- bytes

abbrev pub write_item : File → Item → List ℕ
write_item f i = command_byte f (sort_of i) ∷ codes_of i ++ write_operands (operand_count f (sort_of i)) (operands_of i)

abbrev pub write_items : File → List Item → List ℕ
write_items f [] = []
write_items f (i ∷ items) = write_item f i ++ write_items f items

-- inputs, the items, end
unfoldable pub write_file : File → ℕ → List Item → List ℕ
write_file f n items = 0x01 ∷ n ∷ write_items f items ++ (0x00 ∷ [])

-- ---- contents that fit

abbrev pub All : {X : Type 0} → (X → Type 0) → List X → Type 0
All P [] = Unit {0}
All P (x ∷ xs) = P x × All P xs

-- some operands, the first of them operand i, each pass a test
abbrev pub EachFrom : (ℕ → ℕ → Bool) → ℕ → List ℕ → Type 0
EachFrom test i [] = Unit {0}
EachFrom test i (v ∷ vs) = (test i v ≡ true) × EachFrom test (suc i) vs

-- a gate that needs its operands, and no more; as many operands as an output or a register has; two pins of a C-element at least
abbrev pub Whole : File → Item → Type 0
Whole f (gate c) = (c.code < 256) × (1 ≤ needed f c.code) × (length c.operands ≡ needed f c.code) × All (λ v. v < absent) c.operands
Whole f (output vs) = length vs ≡ operand_count f sort.Output
Whole f (care w) = Unit {0}
Whole f (register vs) = length vs ≡ operand_count f sort.Register
Whole f (element vs) = (2 ≤ length vs) × (length vs ≤ operand_count f sort.Element) × All (λ v. v < absent) vs

-- an item that the reader takes, where k gates stand before it
pub record ItemFits (f : File) (N : Nets) (k : ℕ) (i : Item) : Type 0 where
  pub has : Has f (sort_of i)
  pub whole : Whole f i
  pub u16s : All (λ v. v < 65536) (operands_of i)
  pub named : EachFrom (asked f (sort_of i) N k) 0 (operands_of i)

-- the gates before the next item
abbrev pub gates_after : ℕ → Item → ℕ
gates_after k i = cond (is_sort sort.Gate (sort_of i)) (suc k) k

abbrev pub ItemsFit : File → Nets → ℕ → List Item → Type 0
ItemsFit f N k [] = Unit {0}
ItemsFit f N k (i ∷ items) = ItemFits f N k i × ItemsFit f N (gates_after k i) items

abbrev pub nets_in : ℕ → List Item → Nets
nets_in n items = record { inputs = n; gates = length (gates_in items); parts = parts_in items }

pub record FileFits (f : File) (most : Limits) (n : ℕ) (items : List Item) : Type 0 where
  pub inputs_in : (1 ≤ n) × (n ≤ most.inputs)
  pub inputs_byte : n < 256
  pub gates_in_holds : length (gates_in items) ≤ most.gates
  pub outputs_in_holds : (1 ≤ length (outputs_in items)) × (length (outputs_in items) ≤ most.outputs)
  pub care_in_holds : Ascending (2 ^ n) 0 (care_in items)
  pub registers_in : count_of sort.Register (parts_in items) ≤ most_parts
  pub elements_in : count_of sort.Element (parts_in items) ≤ most_parts
  pub items_fit : ItemsFit f (nets_in n items) 0 items

-- ---- stages and references: care words, then gates, then outputs

-- a gate as its command has it
abbrev pub coded_gate : Gate → Coded
coded_gate g = record { code = kind_byte g.cell g.hold; operands = g.pins }

abbrev pub pair_operands : Pair → List ℕ
pair_operands p = p.rail0 ∷ p.rail1 ∷ []

abbrev pub stage_items : Stage → List Item
stage_items c = map care c.care ++ (map (λ g. gate (coded_gate g)) c.gates ++ map (λ p. output (pair_operands p)) c.outputs)

abbrev pub reference_items : Reference → List Item
reference_items c = map gate c.gates ++ map (λ v. output (v ∷ [])) c.outputs

unfoldable pub write_stage : Stage → List ℕ
write_stage c = write_file file.Stage c.inputs (stage_items c)

unfoldable pub write_reference : Reference → List ℕ
write_reference c = write_file file.Reference c.inputs (reference_items c)
