-- What the functions that read a whole file ask of one another beside the reading itself, and what a readable file leaves in the lent places.
use Rattle.std.specs.Prelude.{ℕ, zero, suc, ◌+◌, ◌*◌, ◌/◌, ◌%◌, ◌^◌, ◌<◌, ◌≤◌, ◌≡◌, Bool, true, cond, List, [], ◌∷◌, map, length, take, drop, eqb, Some, None}
use Rattle.netlist.specs.declared.File.{File}
use Rattle.netlist.specs.declared.File.TheVariants.{Stage, Pipeline, Reference}
use Rattle.netlist.specs.declared.Sort.{Sort}
use Rattle.netlist.specs.declared.Sort.TheVariants as sort
use Rattle.netlist.specs.declared.Limits.{Limits}
use Rattle.netlist.specs.declared.Counts.{Counts}
use Rattle.netlist.specs.Bytes.{byte, operand, absent}
use Rattle.netlist.specs.Commands.{most_parts, form_of, width, needed}
use Rattle.netlist.specs.Reading.{Nets, part_nets, nameless_at, nameless_from, Places, sorts_of, counts_of, noted, Reading, refused, readable}
use Rattle.netlist.specs.Writing.{form_for, width_for, Has}
use Rattle.netlist.specs.Read.{farthest}
use Rattle.read_file.specs.declared.Carried.{Carried}
use Rattle.read_file.specs.declared.Carried.TheVariants.{Data, Completion, Nothing}

-- ---- registers and C-elements

-- each is noted as one number: twice the place of its command, and 1 more for a C-element
unfoldable pub sort_noted : ℕ → Sort
sort_noted note = cond (eqb (note % 2) 1) sort.Element sort.Register

abbrev pub part_noted : ℕ → Sort × ℕ
part_noted note = (sort_noted note, note / 2)

-- the nets of one, each by whether it carries data
abbrev pub nets_noted : ℕ → List Bool
nets_noted note = part_nets (sort_noted note ∷ [])

-- what there is to name in a file with n inputs, g gates and such notes
abbrev pub nets_with : ℕ → ℕ → List ℕ → Nets
nets_with n g notes = record { inputs = n; gates = g; parts = sorts_of (map part_noted notes) }

-- what a net carries: net i of some nets that carry data or not
unfoldable pub carried_at : List Bool → ℕ → Carried
carried_at [] i = Nothing
carried_at (b ∷ bs) zero = cond b Data Completion
carried_at (b ∷ bs) (suc i) = carried_at bs i

-- ---- the commands of a file

-- k commands stand one after the other, each with all of its bytes, from one position to another
unfoldable pub Follow : File → List ℕ → ℕ → ℕ → ℕ → Type 0
Follow f s from zero to = from ≡ to
Follow f s from (suc k) to = (from + width (form_of f (byte s from)) ≤ length s) × Follow f s (from + width (form_of f (byte s from))) k to

-- whole commands fill the file up to a position
pub record FilledTo (f : File) (s : List ℕ) (to : ℕ) : Type 0 where
  pub count : ℕ
  pub commands : Follow f s 0 count to

-- so many nets can be counted, and the sums that the search for 9 takes fit
abbrev pub Countable : ℕ → ℕ → Type 0
Countable n g = 2 * n + g < 2 ^ 32

-- ---- 9 while the commands are read

-- how far operands may reach that are asked by their numbers alone: in a reference to the last signal, else to the last net of a gate
unfoldable pub reach : File → ℕ → ℕ → ℕ
reach Stage n g = 2 * n + g
reach Pipeline n g = 2 * n + g
reach Reference n g = n + g

-- some nets reach as far as a top, in a file with n inputs
pub record Reaches (f : File) (n top : ℕ) (N : Nets) : Type 0 where
  pub inputs_same : N.inputs ≡ n
  pub countable : Countable N.inputs N.gates
  pub far : top ≤ reach f N.inputs N.gates

-- where they do, every operand of the file names what it has to name
abbrev pub Settled : File → List ℕ → ℕ → ℕ → Type 0
Settled f s n top = (N : Nets) → Reaches f n top N → nameless_from (length s) f N s 0 0 ≡ None

-- an operand that is there; where some may be spare, FFFF is none
abbrev pub Present : Bool → ℕ → Type 0
Present spare v = spare ≡ true → v ≡ absent → ⊥

-- m operands from a place on are below a top
abbrev pub Below : List ℕ → ℕ → ℕ → Bool → ℕ → Type 0
Below s place m spare top = (i : ℕ) → i < m → Present spare (operand s (place + 2 * i)) → operand s (place + 2 * i) < top

-- a command of a sort stands at a position with all of its bytes, and a gate's operands are there
pub record Stands (f : File) (s : List ℕ) (at : ℕ) (c : Sort) : Type 0 where
  pub command : form_of f (byte s at) ≡ form_for f c
  pub own : Has f c
  pub room : at + width_for f c ≤ length s
  pub fits : c ≡ sort.Gate → (i : ℕ) → i < needed f (byte s (at + 1)) → operand s (at + 2 + 2 * i) ≡ absent → ⊥

-- a top before a command and one after it: what reaches the second reaches the first, and the command's operands name what they have to name
abbrev pub Topped : File → List ℕ → ℕ → Counts → ℕ → ℕ → Type 0
Topped f s at before top top' =
    (N : Nets) → Reaches f before.inputs top' N →
    Reaches f before.inputs top N × (nameless_at f N s at before.gates (form_of f (byte s at)) ≡ None)

-- ---- the lent places

-- how many care words a file may have: as many as there are words of its inputs, and a reference none
unfoldable pub most_care : File → Limits → ℕ
most_care Stage most = 2 ^ most.inputs
most_care Pipeline most = 2 ^ most.inputs
most_care Reference most = 0

-- the places of the gates stand from index 0 on, behind room for the most gates those of the outputs, then the notes of the registers and
-- C-elements, then the care words
abbrev pub first_part : Limits → ℕ
first_part most = most.gates + most.outputs

abbrev pub first_care : Limits → ℕ
first_care most = most.gates + most.outputs + 2 * most_parts

-- a lent slice of u16 has room for as many of each as there may be
pub record RoomFor (f : File) (most : Limits) (long : ℕ) : Type 0 where
  pub few_inputs : most.inputs < 2 ^ 16
  pub u16s : 2 * farthest f most < 2 ^ 16
  pub space : first_care most + most_care f most ≤ long

-- the places that stand in a lent list
abbrev pub standing : Limits → List ℕ → Counts → Places
standing most places c = record {
  inputs = c.inputs;
  gates = take c.gates places;
  outputs = take c.outputs (drop most.gates places);
  care = take c.care (drop (first_care most) places);
  parts = map part_noted (take (c.registers + c.elements) (drop (first_part most) places));
}

-- those of a readable file stand there
unfoldable pub Placed : Limits → Reading → List ℕ → Type 0
Placed most (refused number at) places = Unit {0}
Placed most (readable p) places = standing most places (counts_of p) ≡ p

-- ---- one command more

-- a care word stands at a position, whole, no lower than a floor and below some number
pub record WordAt (s : List ℕ) (at floor below : ℕ) : Type 0 where
  pub room : at + 3 ≤ length s
  pub command : byte s at ≡ 0x06
  pub high : floor ≤ operand s (at + 1)
  pub low : operand s (at + 1) < below

-- room for one more of a sort, and the bytes that noting it looks at
unfoldable pub RoomOf : Sort → Limits → List ℕ → ℕ → Counts → ℕ → Type 0
RoomOf sort.Inputs most s at before long = at + 2 ≤ length s
RoomOf sort.Gate most s at before long = before.gates < most.gates
RoomOf sort.Output most s at before long = before.outputs < most.outputs
RoomOf sort.Care most s at before long = (at + 3 ≤ length s) × (first_care most + before.care < long)
RoomOf sort.Register most s at before long = before.registers + before.elements < 2 * most_parts
RoomOf sort.Element most s at before long = before.registers + before.elements < 2 * most_parts
RoomOf sort.End most s at before long = Unit {0}
RoomOf sort.Unknown most s at before long = Unit {0}

-- a command of a sort at a position can be noted in a lent list, where some stand before it
pub record Notable (c : Sort) (most : Limits) (s : List ℕ) (at : ℕ) (before : Counts) (long : ℕ) : Type 0 where
  pub u16 : 2 * at + 1 < 2 ^ 16
  pub space : first_care most ≤ long
  pub gates_in_holds : before.gates ≤ most.gates
  pub outputs_in_holds : before.outputs ≤ most.outputs
  pub parts_in : before.registers + before.elements ≤ 2 * most_parts
  pub more : RoomOf c most s at before long

-- it was: what stands in the list afterwards, with the counts then, is what the reading notes
pub record NotedIn (c : Sort) (most : Limits) (s : List ℕ) (at : ℕ) (places : List ℕ) (before : Counts) (places' : List ℕ) (after : Counts) : Type 0 where
  pub long : length places' ≡ length places
  pub same : standing most places' after ≡ noted c s at (standing most places before)
  pub counted : counts_of (standing most places before) ≡ before → counts_of (noted c s at (standing most places before)) ≡ after
