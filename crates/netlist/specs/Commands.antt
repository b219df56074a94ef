-- The commands of the two files: the table that says what a command byte calls for, and the command that stands at a position or
-- the refusal, 1 to 6, 18 or 19, with its place.
use Rattle.std.specs.Prelude.{ℕ, zero, suc, ◌+◌, ◌*◌, ◌^◌, Bool, true, false, cond, not, ◌&&◌, ◌||◌, List, [], ◌∷◌, length, get_or}
use Rattle.std.specs.Prelude.{eqb, leb, ltb, Option, Some, None}
use Rattle.gates.specs.Cell.{kind_of}
use Rattle.gates.specs.declared.Kind.{Kind}
use Rattle.gates.specs.declared.Kind.TheVariants.{Hold, Relaxed, Unknown}
use Rattle.netlist.specs.Types.{File, Sort, Role, AnyNet, EarlierSignal, AnySignal, Number, Data, Pin, Request}
use Rattle.netlist.specs.Types.{Form, Limits, Counts, Next, Command, Refused}
use Rattle.netlist.specs.Types.file.{Stage, Pipeline, Reference}
use Rattle.netlist.specs.Types.sort
use Rattle.netlist.specs.Bytes.{byte, operand, absent}

-- what follows where something was found, and where nothing was
unfoldable pub when_found : {A : Type 0} → Option ℕ → (ℕ → A) → A → A
when_found (Some place) there none = there place
when_found None there none = none

-- ---- the command table

-- a number for each sort, to compare them by
abbrev pub sort_number : Sort → ℕ
sort_number sort.End = 0
sort_number sort.Inputs = 1
sort_number sort.Gate = 2
sort_number sort.Output = 3
sort_number sort.Care = 4
sort_number sort.Unknown = 5
sort_number sort.Register = 6
sort_number sort.Element = 7

abbrev pub is_sort : Sort → Sort → Bool
is_sort c d = eqb (sort_number c) (sort_number d)

-- a row: the command's sort, how many bytes stand before its operands, and how many u16 operands follow
abbrev pub as_form : Sort → ℕ → ℕ → Form
as_form c lead operands = record { sort = c; lead = lead; operands = operands }

-- The table: a row for each command byte of a file. The command byte counts among the bytes before the operands, and so do the count
-- of inputs and a gate's kind or operation. A pipeline is a stage that may have registers and C-elements too.
abbrev pub stage_gate : ℕ × Form
stage_gate = (0x02, as_form sort.Gate 2 4)

abbrev pub stage_output : ℕ × Form
stage_output = (0x03, as_form sort.Output 1 2)

abbrev pub stage_care : ℕ × Form
stage_care = (0x06, as_form sort.Care 1 1)

unfoldable pub own_commands : File → List (ℕ × Form)
own_commands Stage = stage_gate ∷ stage_output ∷ stage_care ∷ []
own_commands Pipeline = stage_gate ∷ stage_output ∷ (0x04, as_form sort.Register 1 3) ∷ (0x05, as_form sort.Element 1 4) ∷ stage_care ∷ []
own_commands Reference = (0x11, as_form sort.Gate 2 2) ∷ (0x12, as_form sort.Output 1 1) ∷ []

-- a stage file, with registers or without
abbrev pub stage_file : Bool → File
stage_file true = Pipeline
stage_file false = Stage

unfoldable pub command_table : File → List (ℕ × Form)
command_table f = (0x00, as_form sort.End 1 0) ∷ (0x01, as_form sort.Inputs 2 0) ∷ own_commands f

-- the row of a byte; one that is in no row stands for no command
unfoldable pub form_in : List (ℕ × Form) → ℕ → Form
form_in [] b = as_form sort.Unknown 1 0
form_in (r ∷ rs) b = let later = form_in rs b in cond (eqb b r.0) r.1 later

abbrev pub form_of : File → ℕ → Form
form_of f b = form_in (command_table f) b

-- what operand i of a command has to name; of a register the third is its Ki
unfoldable pub role_of : File → Sort → ℕ → Role
role_of Stage sort.Gate i = AnyNet
role_of Stage sort.Output i = AnyNet
role_of Pipeline sort.Gate i = Data
role_of Pipeline sort.Output i = Data
role_of Pipeline sort.Register i = cond (ltb i 2) Data Request
role_of Pipeline sort.Element i = Pin
role_of Reference sort.Gate i = EarlierSignal
role_of Reference sort.Output i = AnySignal
-- these files have no such command
role_of Stage sort.Register i = Number
role_of Stage sort.Element i = Number
role_of Reference sort.Register i = Number
role_of Reference sort.Element i = Number
role_of f sort.Care i = Number
role_of f sort.Inputs i = Number
role_of f sort.End i = Number
role_of f sort.Unknown i = Number

-- how many registers, and how many C-elements, a pipeline may have
abbrev pub most_parts : ℕ
most_parts = 64

-- how many bytes a command has
abbrev pub width : Form → ℕ
width form = form.lead + 2 * form.operands

-- the pins of a kind; 0 for no kind
unfoldable pub pins_needed : Kind → ℕ
pins_needed (Hold cell pins) = pins
pins_needed (Relaxed cell pins) = pins
pins_needed Unknown = 0

-- how many of a gate's operands its kind or operation needs, from the first on; 0 where there is no such kind or operation.
-- 1 NOT needs one, 2 AND, 3 OR, 4 XOR, 5 NAND and 6 NOR need two
unfoldable pub needed : File → ℕ → ℕ
needed Stage kind = pins_needed (kind_of kind)
needed Pipeline kind = pins_needed (kind_of kind)
needed Reference operation = get_or (0 ∷ 1 ∷ 2 ∷ 2 ∷ 2 ∷ 2 ∷ 2 ∷ []) operation 0

-- how many of the four pins from a place on a C-element uses: A and B, C where it is not FFFF, and D only if C is used and D is not FFFF
unfoldable pub pins_used : List ℕ → ℕ → ℕ
pins_used s place = cond (eqb (operand s (place + 4)) absent) 2 (cond (eqb (operand s (place + 6)) absent) 3 4)

-- how many of its operands the command at a position uses, from the first on: a gate those that its kind or operation needs, a C-element by its
-- pins, others all
unfoldable pub used : File → List ℕ → ℕ → Form → ℕ
used f s at form =
    cond (is_sort sort.Gate form.sort) (needed f (byte s (at + 1)))
    (cond (is_sort sort.Element form.sort) (pins_used s (at + form.lead)) form.operands)

-- ---- the command at a position

-- 2: no command of this file, first not 01, or 01 again
unfoldable pub stray : ℕ → Sort → Bool
stray at c = is_sort sort.Unknown c || cond (is_sort sort.Inputs c) (not (eqb at 0)) (eqb at 0)

-- 5: operand i, of which the first k are needed, is needed but FFFF, or not needed and not FFFF
unfoldable pub misfit : ℕ → ℕ → ℕ → Bool
misfit k i v = cond (ltb i k) (eqb v absent) (not (eqb v absent))

-- the first such operand among m that follow from operand i on
unfoldable pub misfit_from : ℕ → ℕ → List ℕ → ℕ → ℕ → Option ℕ
misfit_from k i s at zero = None
misfit_from k i s at (suc m) = let later = misfit_from k (i + 1) s (at + 2) m in cond (misfit k i (operand s at)) (Some at) later

-- a gate, where g gates stand before it: 6, then 4, then 5 by operand
unfoldable pub take_gate : File → Limits → List ℕ → ℕ → ℕ → Form → Next → Next
take_gate f most s at g form taken =
    let k = needed f (byte s (at + 1)) in
    cond (leb most.gates g) (Refused 6 at)
    (cond (eqb k 0) (Refused 4 (at + 1))
    (when_found (misfit_from k 0 s (at + form.lead) form.operands) (λ place. Refused 5 place) taken))

-- a care word at a place, where some commands stand before it: 18 where it is no word of the inputs, 19 where it is not above the one before
unfoldable pub take_care : List ℕ → ℕ → Counts → Next → Next
take_care s place before taken =
    cond (ltb (operand s place) (2 ^ before.inputs))
    (cond (ltb (operand s place) before.floor) (Refused 19 place) taken)
    (Refused 18 place)

-- a C-element, where m stand before it: 6, then 5 at the first of its pins that is used but FFFF, or not used and not FFFF. C only decides whether it is
-- used, so 5 falls on A, B or D
unfoldable pub take_element : List ℕ → ℕ → ℕ → Form → Next → Next
take_element s at m form taken =
    cond (leb most_parts m) (Refused 6 at)
    (when_found (misfit_from (pins_used s (at + form.lead)) 0 s (at + form.lead) form.operands) (λ place. Refused 5 place) taken)

-- a command all of whose bytes are there, by its sort. Inputs: 3 where the count is not in 1 to the limit. An output, a register: 6
unfoldable pub take_sort : File → Limits → List ℕ → ℕ → Counts → Form → Next → Sort → Next
take_sort f most s at before form taken sort.Inputs = cond (leb 1 (byte s (at + 1)) && leb (byte s (at + 1)) most.inputs) taken (Refused 3 (at + 1))
take_sort f most s at before form taken sort.Gate = take_gate f most s at before.gates form taken
take_sort f most s at before form taken sort.Output = cond (leb most.outputs before.outputs) (Refused 6 at) taken
take_sort f most s at before form taken sort.Care = take_care s (at + form.lead) before taken
take_sort f most s at before form taken sort.Register = cond (leb most_parts before.registers) (Refused 6 at) taken
take_sort f most s at before form taken sort.Element = take_element s at before.elements form taken
take_sort f most s at before form taken sort.End = taken
take_sort f most s at before form taken sort.Unknown = taken

unfoldable pub take_command : File → Limits → List ℕ → ℕ → Counts → Form → Next
take_command f most s at before form =
    take_sort f most s at before form (Command form.sort (record { at = at + width form })) form.sort

-- the command at a position: 2, then 1, then those of its sort. Past the last byte it is 1
unfoldable pub next_at : File → Limits → List ℕ → ℕ → Counts → Next
next_at f most s at before =
    let form = form_of f (byte s at) in
    cond (leb (length s) at) (Refused 1 (length s))
    (cond (stray at form.sort) (Refused 2 at)
    (cond (ltb (length s) (at + width form)) (Refused 1 (length s))
    (take_command f most s at before form)))
