-- Reading a whole file: its commands one after the other, the refusals 7 to 9 at the end command, and what a readable file gives.
use Rattle.std.specs.Prelude.{ℕ, zero, suc, ◌+◌, ◌-◌, ◌*◌, ◌≤◌, ◌<◌, ◌≡◌, Bool, true, false, cond, ◌||◌, ◌⊎◌, List, [], ◌∷◌, ◌++◌, Option, Some, None}
use Rattle.std.specs.Prelude.{map, length, get_or, eqb, ltb}
use Rattle.netlist.specs.Types.{File, Sort, Role, AnyNet, EarlierSignal, AnySignal, Number, Data, Pin, Request}
use Rattle.netlist.specs.Types.{Form, Limits, Counts, Next, Command, Refused}
use Rattle.netlist.specs.Types.file
use Rattle.netlist.specs.Types.sort
use Rattle.netlist.specs.Bytes.{byte, operand, outside}
use Rattle.netlist.specs.Commands.{when_found, is_sort, form_of, role_of, width, used, next_at}

-- ---- 9: an operand that names nothing

-- What there is to name: a stage has two nets for an input and one for a gate, a reference has one signal for each. The nets of registers and
-- C-elements follow those of all gates, in the order of the file, which is that of these sorts
pub record Nets : Type 0 where
  pub inputs : ℕ
  pub gates : ℕ
  pub parts : List Sort

-- where the nets of the registers and C-elements begin
abbrev pub first_part : Nets → ℕ
first_part N = 2 * N.inputs + N.gates

-- their nets, one after the other, each by whether it carries data: a register has two rails and Ko, a C-element one net
unfoldable pub part_nets : List Sort → List Bool
part_nets [] = []
part_nets (c ∷ cs) = let later = part_nets cs in cond (is_sort sort.Register c) (true ∷ true ∷ false ∷ later) (false ∷ later)

abbrev pub is_net : Nets → ℕ → Bool
is_net N v = ltb v (first_part N + length (part_nets N.parts))

-- the nets that carry data: the rails of the inputs and of the registers, and the gates'
unfoldable pub carries_data : Nets → ℕ → Bool
carries_data N v = ltb v (first_part N) || get_or (part_nets N.parts) (v - first_part N) false

-- an operand names what its role asks for, where k gates stand before its command; a number may be any
unfoldable pub names : Role → Nets → ℕ → ℕ → Bool
names AnyNet N k v = ltb v (first_part N)
names EarlierSignal N k v = ltb v (N.inputs + k)
names AnySignal N k v = ltb v (N.inputs + N.gates)
names Number N k v = true
names Data N k v = carries_data N v
names Pin N k v = is_net N v
names Request N k v = eqb v outside || is_net N v

-- what operand i of a command of a sort is asked
abbrev pub asked : File → Sort → Nets → ℕ → ℕ → ℕ → Bool
asked f c N k i = names (role_of f c i) N k

-- the first of m operands from a place on that fails a test; the first of them is operand i
unfoldable pub nameless : (ℕ → ℕ → Bool) → ℕ → List ℕ → ℕ → ℕ → Option ℕ
nameless test i s at zero = None
nameless test i s at (suc m) = let later = nameless test (suc i) s (at + 2) m in cond (test i (operand s at)) later (Some at)

-- the first operand that the command at a position uses and that names nothing
unfoldable pub nameless_at : File → Nets → List ℕ → ℕ → ℕ → Form → Option ℕ
nameless_at f N s at k form = nameless (asked f form.sort N k) 0 s (at + form.lead) (used f s at form)

-- The search over a file from a position on, after k gates, in file order. Each command takes a byte, so that the file's length is fuel
-- enough; past the last byte nothing is found.
unfoldable pub nameless_from : ℕ → File → Nets → List ℕ → ℕ → ℕ → Option ℕ
nameless_from zero f N s at k = None
nameless_from (suc fuel) f N s at k =
    let form = form_of f (byte s at) in
    let later = nameless_from fuel f N s (at + width form) (cond (is_sort sort.Gate form.sort) (suc k) k) in
    when_found (nameless_at f N s at k form) Some later

-- ---- the whole file

-- what stands before a position: the count of inputs, the places of the gate and output commands, the care words, and the sorts and places of the
-- register and C-element commands, in file order
pub record Places : Type 0 where
  pub inputs : ℕ
  pub gates : List ℕ
  pub outputs : List ℕ
  pub care : List ℕ
  pub parts : List (Sort × ℕ)

-- each gate stands before each output
abbrev pub GatesFirst : Places → Type 0
GatesFirst p = (k j : ℕ) → k < length p.gates → j < length p.outputs → get_or p.gates k 0 < get_or p.outputs j 0

abbrev pub no_places : Places
no_places = record { inputs = 0; gates = []; outputs = []; care = []; parts = [] }

-- the least that may follow some care words, of which those before are all below a floor: one more than the last
unfoldable pub floor_after : ℕ → List ℕ → ℕ
floor_after floor [] = floor
floor_after floor (w ∷ ws) = floor_after (w + 1) ws

-- care words that rise from a floor on, all below some number
abbrev pub Ascending : ℕ → ℕ → List ℕ → Type 0
Ascending below floor [] = Unit {0}
Ascending below floor (w ∷ ws) = (floor ≤ w) × (w < below) × Ascending below (w + 1) ws

-- how many of some commands are of a sort
unfoldable pub count_of : Sort → List Sort → ℕ
count_of c [] = 0
count_of c (d ∷ ds) = let later = count_of c ds in cond (is_sort c d) (suc later) later

abbrev pub sorts_of : List (Sort × ℕ) → List Sort
sorts_of = map (λ (x : Sort × ℕ). x.0)

abbrev pub counts_of : Places → Counts
counts_of p = record {
  inputs = p.inputs;
  gates = length p.gates;
  outputs = length p.outputs;
  care = length p.care;
  floor = floor_after 0 p.care;
  registers = count_of sort.Register (sorts_of p.parts);
  elements = count_of sort.Element (sorts_of p.parts);
}

-- a register or C-element more
abbrev pub noted_part : Sort → ℕ → Places → Places
noted_part c at p = record { inputs = p.inputs; gates = p.gates; outputs = p.outputs; care = p.care; parts = p.parts ++ ((c, at) ∷ []) }

-- what stands before the next command, where a command of a sort stands at a position
unfoldable pub noted : Sort → List ℕ → ℕ → Places → Places
noted sort.Inputs s at p = record { inputs = byte s (at + 1); gates = p.gates; outputs = p.outputs; care = p.care; parts = p.parts }
noted sort.Gate s at p = record { inputs = p.inputs; gates = p.gates ++ (at ∷ []); outputs = p.outputs; care = p.care; parts = p.parts }
noted sort.Output s at p = record { inputs = p.inputs; gates = p.gates; outputs = p.outputs ++ (at ∷ []); care = p.care; parts = p.parts }
noted sort.Care s at p =
    record { inputs = p.inputs; gates = p.gates; outputs = p.outputs; care = p.care ++ (operand s (at + 1) ∷ []); parts = p.parts }
noted sort.Register s at p = noted_part sort.Register at p
noted sort.Element s at p = noted_part sort.Element at p
noted sort.End s at p = p
noted sort.Unknown s at p = p

abbrev pub nets_of : Places → Nets
nets_of p = record { inputs = p.inputs; gates = length p.gates; parts = sorts_of p.parts }

-- a file is refused, with a number and a place; or it is readable
pub data Reading : Type 0 where
  refused : ℕ → ℕ → Reading
  readable : Places → Reading

-- at the end command: 8, 7, then 9
unfoldable pub finish : File → List ℕ → ℕ → Places → Reading
finish f s at p =
    cond (eqb (length p.outputs) 0) (refused 8 at)
    (cond (ltb (at + 1) (length s)) (refused 7 (at + 1))
    (when_found (nameless_from (length s) f (nets_of p) s 0 0) (refused 9) (readable p)))

-- the first command that cannot be read ends the reading, and so does the end command
unfoldable pub on_next : (ℕ → Places → Reading) → File → List ℕ → ℕ → Places → Next → Reading
on_next go f s at p (Refused number place) = refused number place
on_next go f s at p (Command c next) = let more = go next.at (noted c s at p) in cond (is_sort sort.End c) (finish f s at p) more

unfoldable pub read_from : ℕ → File → Limits → List ℕ → ℕ → Places → Reading
read_from zero f most s at p = refused 1 (length s)
read_from (suc fuel) f most s at p = on_next (read_from fuel f most s) f s at p (next_at f most s at (counts_of p))

unfoldable pub read_file : File → Limits → List ℕ → Reading
read_file f most s = read_from (suc (length s)) f most s 0 no_places

-- read as a stage, a file is refused by 2 at the command of a register or of a C-element
pub record RefusedAtPart (most : Limits) (s : List ℕ) : Type 0 where
  pub at : ℕ
  pub refused_is : read_file file.Stage most s ≡ refused 2 at
  pub part : (byte s at ≡ 0x04) ⊎ (byte s at ≡ 0x05)

-- ---- limits

abbrev pub stage_limits : Limits
stage_limits = record { inputs = 10; gates = 256; outputs = 16 }

abbrev pub reference_limits : Limits
reference_limits = record { inputs = 10; gates = 512; outputs = 16 }

-- those of a part that is to be joined with another
abbrev pub part_stage_limits : Limits
part_stage_limits = record { inputs = 10; gates = 128; outputs = 16 }

abbrev pub part_reference_limits : Limits
part_reference_limits = record { inputs = 10; gates = 256; outputs = 16 }

-- limits that allow no more than others
pub record NoMore (few most : Limits) : Type 0 where
  pub inputs_in : few.inputs ≤ most.inputs
  pub gates_in_holds : few.gates ≤ most.gates
  pub outputs_in_holds : few.outputs ≤ most.outputs

-- counts within some limits
pub record Within (most : Limits) (c : Counts) : Type 0 where
  pub inputs_in : c.inputs ≤ most.inputs
  pub gates_in_holds : c.gates ≤ most.gates
  pub outputs_in_holds : c.outputs ≤ most.outputs
