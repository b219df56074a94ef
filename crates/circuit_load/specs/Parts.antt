-- Registers and C-elements as loading writes them into the two tables that wiring_spec/specs/Tables.antt describes, row by row.
use Rattle.std.specs.Prelude.{ℕ, ◌+◌, ◌*◌, ◌≡◌, List, [], ◌∷◌, ◌++◌, map, length, get_or, take}
use Rattle.netlist.specs.declared.File.{File}
use Rattle.netlist.specs.Bytes.{absent}
use Rattle.netlist.specs.Reading.{Nets, Places, counts_of, nets_of, Reading, refused, readable}
use Rattle.netlist.specs.Content.{stage_of}
use Rattle.netlist.specs.Read.{PartRead}
use Rattle.netlist.specs.Writing.{All}
use Rattle.read_file.specs.Files.{part_noted}
use Rattle.circuit.specs.Stage.{net_count, stage_in}
use Rattle.wiring_spec.specs.Parts.{Part, register, element, part_at}
pub use Rattle.wiring_spec.specs.Tables.{wiring_of}
use Rattle.write_command.specs.Put.{Put}
use Rattle.circuit_load.specs.declared.Spot.{Spot}
use Rattle.circuit_load.specs.Load.{RawStage, ground_of}

-- ---- the two tables

-- of a rail, with the net at its data and its register; of a Ko; of a C-element
abbrev pub rail_row : ℕ → ℕ → List ℕ
rail_row net k = 1 ∷ net ∷ 0 ∷ 0 ∷ 0 ∷ 0 ∷ k ∷ 0 ∷ []

abbrev pub ko_row : ℕ → List ℕ
ko_row k = 2 ∷ 0 ∷ 0 ∷ 0 ∷ 0 ∷ 0 ∷ k ∷ 0 ∷ []

abbrev pub element_row : List ℕ → List ℕ
element_row pins = 3 ∷ get_or pins 0 absent ∷ get_or pins 1 absent ∷ get_or pins 2 absent ∷ get_or pins 3 absent ∷ 0 ∷ 0 ∷ 0 ∷ []

-- the nets of some parts, where k registers stand before them
unfoldable pub net_rows : ℕ → List Part → List ℕ
net_rows k [] = []
net_rows k (register r ∷ parts) = rail_row r.data0 k ++ (rail_row r.data1 k ++ (ko_row k ++ net_rows (k + 1) parts))
net_rows k (element pins ∷ parts) = element_row pins ++ net_rows k parts

-- the registers among them, where their first net is x
unfoldable pub register_rows : ℕ → List Part → List ℕ
register_rows x [] = []
register_rows x (register r ∷ parts) = x ∷ r.data0 ∷ r.data1 ∷ r.ki ∷ register_rows (x + 3) parts
register_rows x (element pins ∷ parts) = register_rows (x + 1) parts

-- ---- loading them

-- the registers and C-elements of which there are notes were read
pub record NotesRead (s notes : List ℕ) : Type 0 where
  pub file : File
  pub nets : Nets
  pub each : All (PartRead file s nets) (map part_noted notes)

abbrev pub parts_in : List ℕ → List ℕ → List Part
parts_in s notes = map (λ note. part_at s (part_noted note)) notes

-- how many nets and registers stand before the next part
abbrev pub spot_after : Part → Spot → Spot
spot_after (register r) here = record { net = here.net + 3; register = here.register + 1 }
spot_after (element pins) here = record { net = here.net + 1; register = here.register }

-- a part was put into both tables
pub record PartPut (part : Part) (first : ℕ) (here : Spot) (nets nets' regs regs' : List ℕ) (next : Spot) : Type 0 where
  pub nets_put : Put nets (8 * here.net) (net_rows here.register (part ∷ [])) nets'
  pub registers_put : Put regs (4 * here.register) (register_rows (first + here.net) (part ∷ [])) regs'
  pub after : next ≡ spot_after part here

-- ---- what a reading leaves

-- a list begins with another
abbrev pub Begins : List ℕ → List ℕ → Type 0
Begins xs l = take (length xs) l ≡ xs

-- the stage as the file has it, and both tables
pub record PipelineHeld (s : List ℕ) (p : Places) (code nets regs : List ℕ) : Type 0 where
  pub raw : RawStage (nets_of p) (counts_of p) (ground_of (counts_of p)) code
  pub same : stage_in (counts_of p) code ≡ stage_of s p
  pub nets_begin : Begins (net_rows 0 (wiring_of s p).parts) nets
  pub registers_begin : Begins (register_rows (net_count (counts_of p)) (wiring_of s p).parts) regs

unfoldable pub HoldsPipeline : List ℕ → Reading → List ℕ → List ℕ → List ℕ → Type 0
HoldsPipeline s (refused number at) code nets regs = Unit {0}
HoldsPipeline s (readable p) code nets regs = PipelineHeld s p code nets regs
