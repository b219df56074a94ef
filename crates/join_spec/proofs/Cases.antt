-- Joins of small stages, computed from the definitions alone.
use Prim.Native.Nat.{ℕ}
use mathlib.Core.Path.{◌≡◌, refl}
use mathlib.Core.Bool.{false, cond}
use mathlib.Core.List.{List, [], ◌∷◌, ◌++◌, map, flat_map}
use lib.Dec.{eqb}
use Rattle.gates.specs.Cell as c
use Rattle.netlist.specs.declared.Limits.{Limits}
use Rattle.netlist.specs.declared.File.TheVariants as file
use Rattle.netlist.specs.Bytes as b
use Rattle.netlist.specs.Commands as k
use Rattle.netlist.specs.Reading as r
use Rattle.netlist.specs.Coded.{Coded}
use Rattle.verdict.specs.declared.Verdict.{Verdict}
use Rattle.verdict.specs.declared.WordOrder.{WordOrder}
use Rattle.verdict.specs.declared.WordOrder.TheVariants.{FirstHighest, FirstLowest}
use Rattle.wiring_spec.specs.Parts as p
use Rattle.wiring_spec.specs.Wires as x
use Rattle.check_spec.specs.Cases as e
use Rattle.check_spec.specs.Cases.{verdict, accepted}
use Rattle.check_spec.specs.Lists as l
use Rattle.check_spec.specs.Content as t
use Rattle.check_spec.specs.Content.{Content, Files, files_within}
use Rattle.check_spec.specs.Rows as o
use Rattle.check_spec.specs.Words as w
use Rattle.check_spec.specs.Checks as h
use Rattle.check_spec.specs.Verdicts as v
use Rattle.check_spec.specs.Writing as n
use Rattle.join_spec.specs.Joining as j
use Rattle.join_spec.specs.Joining.{joined_by, net_in_whole, signal_in_whole, whole, join_checks}

-- ---- the content: (a AND b) XOR c, where the first part hands c on

abbrev code : ℕ → List ℕ → Coded
code kind operands = record { code = kind; operands = operands }

pub and_wire : Content
and_wire = record {
  inputs = 3;
  gates = code 2 (1 ∷ 3 ∷ []) ∷ code 26 (0 ∷ 2 ∷ 1 ∷ 3 ∷ []) ∷ [];
  outputs = (7 ∷ 6 ∷ []) ∷ (4 ∷ 5 ∷ []) ∷ [];
  care = 1 ∷ 6 ∷ [];
  parts = [];
}

pub xor : Content
xor = record {
  inputs = 2;
  gates = code 25 (0 ∷ 2 ∷ 1 ∷ 3 ∷ []) ∷ code 27 (0 ∷ 2 ∷ 1 ∷ 4 ∷ []) ∷ [];
  outputs = (4 ∷ 5 ∷ []) ∷ (0 ∷ 1 ∷ []) ∷ [];
  care = 2 ∷ [];
  parts = [];
}

pub and_wire_function : Content
and_wire_function = record { inputs = 3; gates = code 2 (0 ∷ 1 ∷ []) ∷ []; outputs = (3 ∷ []) ∷ (2 ∷ []) ∷ []; care = []; parts = [] }

pub xor_function : Content
xor_function = record { inputs = 2; gates = code 4 (0 ∷ 1 ∷ []) ∷ code 1 (2 ∷ []) ∷ []; outputs = (3 ∷ []) ∷ (0 ∷ []) ∷ []; care = []; parts = [] }

-- rails of the second part are the first's outputs; its gates, here one on the other, and its outputs are moved
pub joined_stage_holds : joined_by (net_in_whole and_wire xor) and_wire xor ≡ record {
  inputs = 3;
  gates = code 2 (1 ∷ 3 ∷ []) ∷ code 26 (0 ∷ 2 ∷ 1 ∷ 3 ∷ []) ∷ code 25 (7 ∷ 4 ∷ 6 ∷ 5 ∷ []) ∷ code 27 (7 ∷ 4 ∷ 6 ∷ 8 ∷ []) ∷ [];
  outputs = (8 ∷ 9 ∷ []) ∷ (7 ∷ 6 ∷ []) ∷ [];
  care = 1 ∷ 6 ∷ [];
  parts = [];
}
unfolding and_wire xor net_in_whole joined_by
joined_stage_holds = refl

pub joined_reference_holds : joined_by (signal_in_whole and_wire_function xor_function) and_wire_function xor_function ≡ record {
  inputs = 3;
  gates = code 2 (0 ∷ 1 ∷ []) ∷ code 4 (3 ∷ 2 ∷ []) ∷ code 1 (4 ∷ []) ∷ [];
  outputs = (5 ∷ []) ∷ (3 ∷ []) ∷ [];
  care = [];
  parts = [];
}
unfolding and_wire_function xor_function signal_in_whole joined_by
joined_reference_holds = refl

-- ---- the call

-- limits of parts, and files that are read within them
abbrev few : Limits
few = record { inputs = 4; gates = 4; outputs = 4 }

abbrev files : List ℕ → List ℕ → Files
files = files_within false few few

-- one wire and two, with their references
wire : List ℕ
wire = 1 ∷ 1 ∷ 3 ∷ 0 ∷ 0 ∷ 1 ∷ 0 ∷ 0 ∷ []

wire_reference : List ℕ
wire_reference = 1 ∷ 1 ∷ 0x12 ∷ 0 ∷ 0 ∷ 0 ∷ []

two_wires : List ℕ
two_wires = 1 ∷ 2 ∷ 3 ∷ 0 ∷ 0 ∷ 1 ∷ 0 ∷ 3 ∷ 2 ∷ 0 ∷ 3 ∷ 0 ∷ 0 ∷ []

two_wires_reference : List ℕ
two_wires_reference = 1 ∷ 2 ∷ 0x12 ∷ 0 ∷ 0 ∷ 0x12 ∷ 1 ∷ 0 ∷ 0 ∷ []

-- an AND, its gates with some pins and operands; NOT by swapped rails
and_of : List ℕ → List ℕ
and_of end = 2 ∷ 2 ∷ 1 ∷ 0 ∷ 3 ∷ 0 ∷ 0xFF ∷ 0xFF ∷ 0xFF ∷ 0xFF ∷ 2 ∷ 0x1A ∷ 0 ∷ 0 ∷ 2 ∷ 0 ∷ 1 ∷ 0 ∷ 3 ∷ 0 ∷ end

and : Files
and = files (1 ∷ 2 ∷ and_of (3 ∷ 5 ∷ 0 ∷ 4 ∷ 0 ∷ 0 ∷ [])) (1 ∷ 2 ∷ 0x11 ∷ 2 ∷ 0 ∷ 0 ∷ 1 ∷ 0 ∷ 0x12 ∷ 2 ∷ 0 ∷ 0 ∷ [])

not : Files
not = files (1 ∷ 1 ∷ 3 ∷ 1 ∷ 0 ∷ 0 ∷ 0 ∷ 0 ∷ []) (1 ∷ 1 ∷ 0x11 ∷ 1 ∷ 0 ∷ 0 ∷ 0xFF ∷ 0xFF ∷ 0x12 ∷ 1 ∷ 0 ∷ 0 ∷ [])

-- two wires with a care list
cared : List ℕ → Files
cared words = files (1 ∷ 2 ∷ words ++ (3 ∷ 0 ∷ 0 ∷ 1 ∷ 0 ∷ 3 ∷ 2 ∷ 0 ∷ 3 ∷ 0 ∷ 0 ∷ [])) two_wires_reference

-- commands of the two files, their nets, signals and words below 256
abbrev inputs : ℕ → List ℕ
inputs n = 1 ∷ n ∷ []

abbrev gate : ℕ → ℕ → ℕ → List ℕ
gate kind a b = 2 ∷ kind ∷ a ∷ 0 ∷ b ∷ 0 ∷ 0xFF ∷ 0xFF ∷ 0xFF ∷ 0xFF ∷ []

abbrev output : ℕ → ℕ → List ℕ
output rail0 rail1 = 3 ∷ rail0 ∷ 0 ∷ rail1 ∷ 0 ∷ []

abbrev care : ℕ → List ℕ
care word = 6 ∷ word ∷ 0 ∷ []

abbrev end : List ℕ
end = 0 ∷ []

abbrev operate : ℕ → ℕ → ℕ → List ℕ
operate code a b = 0x11 ∷ code ∷ a ∷ 0 ∷ b ∷ 0 ∷ []

abbrev signal : ℕ → List ℕ
signal number = 0x12 ∷ number ∷ 0 ∷ []

-- OR of two inputs that are not both 1, twice: its gates, the third a relaxed TH12, then its outputs, then its care list
either : Files
either =
    files (inputs 2 ++ gate 2 1 2 ++ gate 2 0 3 ++ gate 0x81 4 5 ++ gate 2 0 2 ++ output 7 6 ++ output 7 6 ++ care 0 ++ care 1 ++ care 2 ++ end)
    (inputs 2 ++ operate 3 0 1 ++ signal 2 ++ signal 2 ++ end)

-- NOT of two inputs that are equal, twice: its outputs, then its care list, then its gates, the last on the first
neither : Files
neither =
    files (inputs 2 ++ output 5 6 ++ output 1 0 ++ care 0 ++ care 3 ++ gate 2 0 2 ++ gate 2 1 3 ++ gate 2 4 0 ++ end)
    (inputs 2 ++ signal 2 ++ signal 2 ++ operate 6 0 1 ++ end)

-- a wire, and a gate on both rails of its input, which never rises
idle : Files
idle = files (inputs 1 ++ gate 2 0 1 ++ output 0 1 ++ end) wire_reference

-- one input, and a gate more than `few` allows
five_gates : List ℕ
five_gates = inputs 1 ++ gate 1 0 1 ++ gate 1 0 1 ++ gate 1 0 1 ++ gate 1 0 1 ++ gate 1 0 1 ++ output 0 1 ++ end

five_operations : List ℕ
five_operations = inputs 1 ++ operate 2 0 0 ++ operate 2 0 0 ++ operate 2 0 0 ++ operate 2 0 0 ++ operate 2 0 0 ++ signal 0 ++ end

-- what a join answers, and the bytes that it writes: "refusals write nothing"
pub record JoinResult : Type 0 where
  pub verdict : Verdict
  pub stage : List ℕ
  pub reference : List ℕ

pub record Case : Type 0 where
  pub first : Files
  pub second : Files
  pub stage_room : ℕ
  pub reference_room : ℕ
  pub order : WordOrder
  pub expected : JoinResult

abbrev case : Files → Files → ℕ → ℕ → JoinResult → Case
case first second stage_room reference_room expected =
    record { first = first; second = second; stage_room = stage_room; reference_room = reference_room; order = FirstHighest; expected = expected }

-- the same with words named in the files' order
abbrev in_files : Case → Case
in_files i =
    record { first = i.first; second = i.second; stage_room = i.stage_room; reference_room = i.reference_room; order = FirstLowest; expected = i.expected }

abbrev written : List ℕ → List ℕ → JoinResult
written stage reference = record { verdict = accepted; stage = stage; reference = reference }

abbrev refusal : ℕ → ℕ → ℕ → ℕ → JoinResult
refusal number file at word = record { verdict = verdict number file at word; stage = []; reference = [] }

pub joins : List Case
joins =
    -- two wires in a row, in buffers that are just long enough; then one buffer or the other is too short
    case (files wire wire_reference) (files wire wire_reference) 8 6 (written wire wire_reference) ∷
    case (files wire wire_reference) (files wire wire_reference) 7 6 (refusal 24 3 0 0) ∷
    case (files wire wire_reference) (files wire wire_reference) 8 5 (refusal 24 3 0 0) ∷
    -- NAND: AND, then NOT
    case and not 100 100
    (written (1 ∷ 2 ∷ and_of (3 ∷ 4 ∷ 0 ∷ 5 ∷ 0 ∷ 0 ∷ []))
    (1 ∷ 2 ∷ 0x11 ∷ 2 ∷ 0 ∷ 0 ∷ 1 ∷ 0 ∷ 0x11 ∷ 1 ∷ 2 ∷ 0 ∷ 0xFF ∷ 0xFF ∷ 0x12 ∷ 3 ∷ 0 ∷ 0 ∷ [])) ∷
    -- the first part's care list is written, the second's is not
    case (cared (6 ∷ 1 ∷ 0 ∷ 6 ∷ 2 ∷ 0 ∷ [])) (cared (6 ∷ 0 ∷ 0 ∷ 6 ∷ 1 ∷ 0 ∷ 6 ∷ 2 ∷ 0 ∷ [])) 100 100 (written (cared (6 ∷ 1 ∷ 0 ∷ 6 ∷ 2 ∷ 0 ∷ [])).stage two_wires_reference) ∷
    -- inputs, the first part's care list, gates with the first part's first, the second's outputs, end; the second's nets and signals moved
    case either neither 92 21
    (written
    (inputs 2 ++ care 0 ++ care 1 ++ care 2 ++ gate 2 1 2 ++ gate 2 0 3 ++ gate 0x81 4 5 ++ gate 2 0 2 ++ gate 2 7 7 ++ gate 2 6 6 ++ gate 2 8 7 ++ output 9 10 ++ output 6 7 ++ end)
    (inputs 2 ++ operate 3 0 1 ++ operate 6 2 2 ++ signal 3 ++ signal 3 ++ end)) ∷
    -- 22, with more outputs or fewer, also where 23 would be found, and where the buffers are too short
    case (files two_wires two_wires_reference) (files wire wire_reference) 100 100 (refusal 22 0 2 1) ∷
    case (files wire wire_reference) and 100 100 (refusal 22 0 1 2) ∷
    case (files wire wire_reference) (cared (6 ∷ 2 ∷ 0 ∷ [])) 0 0 (refusal 22 0 1 2) ∷
    -- 23 at the least word whose answer is not cared for: of the words 2 and 3 it is 2, which is named 1 where input 0 is the highest bit
    case (files two_wires two_wires_reference) (cared (6 ∷ 0 ∷ 0 ∷ 6 ∷ 1 ∷ 0 ∷ [])) 0 0 (refusal 23 0 0 1) ∷
    in_files (case (files two_wires two_wires_reference) (cared (6 ∷ 0 ∷ 0 ∷ 6 ∷ 1 ∷ 0 ∷ [])) 0 0 (refusal 23 0 0 2)) ∷
    -- of the words 1 and 2 it is 1 in the files' order, and 2, which is named 1, in the other
    case (files two_wires two_wires_reference) (cared (6 ∷ 0 ∷ 0 ∷ 6 ∷ 3 ∷ 0 ∷ [])) 0 0 (refusal 23 0 0 1) ∷
    case (cared (6 ∷ 0 ∷ 0 ∷ 6 ∷ 1 ∷ 0 ∷ [])) (cared (6 ∷ 0 ∷ 0 ∷ 6 ∷ 3 ∷ 0 ∷ [])) 0 0 (refusal 23 0 0 2) ∷
    in_files (case (cared (6 ∷ 0 ∷ 0 ∷ 6 ∷ 1 ∷ 0 ∷ [])) (cared (6 ∷ 0 ∷ 0 ∷ 6 ∷ 3 ∷ 0 ∷ [])) 0 0 (refusal 23 0 0 1)) ∷
    case (cared (6 ∷ 1 ∷ 0 ∷ 6 ∷ 3 ∷ 0 ∷ [])) (cared (6 ∷ 0 ∷ 0 ∷ 6 ∷ 1 ∷ 0 ∷ [])) 0 0 (refusal 23 0 0 3) ∷
    case not (files (inputs 1 ++ care 0 ++ output 0 1 ++ end) wire_reference) 0 0 (refusal 23 0 0 0) ∷
    -- a part's own refusal: the first part's before the second's, the second's with 3 added to its file
    case (files wire []) (files [] []) 0 0 (refusal 1 2 0 0) ∷
    case (files wire wire_reference) (files [] []) 0 0 (refusal 1 4 0 0) ∷
    case (files wire wire_reference) (files wire []) 0 0 (refusal 1 5 0 0) ∷
    case (files wire wire_reference) (files wire two_wires_reference) 0 0 (refusal 10 3 1 2) ∷
    case (files wire wire_reference) (files wire (inputs 1 ++ signal 0 ++ signal 0 ++ end)) 0 0 (refusal 11 3 1 2) ∷
    case (files two_wires two_wires_reference) (files not.stage wire_reference) 0 0 (refusal 13 4 0 0) ∷
    -- the same of 32, before 22
    case idle (files [] []) 0 0 (refusal 32 1 0 0) ∷
    case (files two_wires two_wires_reference) idle 0 0 (refusal 32 4 0 0) ∷
    -- a gate more than a part may have
    case (files five_gates wire_reference) (files wire wire_reference) 100 100 (refusal 6 1 42 0) ∷
    case (files wire wire_reference) (files five_gates wire_reference) 100 100 (refusal 6 4 42 0) ∷
    case (files wire wire_reference) (files wire five_operations) 100 100 (refusal 6 5 26 0) ∷
    []

unfoldable result : Case → JoinResult
result i =
    let v = e.judge (join_checks i.order i.first i.second i.stage_room i.reference_room) in
    let wrote = written (whole i.first i.second).stage (whole i.first i.second).reference in
    let refused : JoinResult = record { verdict = v; stage = []; reference = [] } in
    cond (eqb v.number 0) wrote refused

pub answers : List Case → List JoinResult
answers cases = map result cases

pub expected : List Case → List JoinResult
expected cases = map (λ (i : Case). i.expected) cases

pub computed : answers joins ≡ expected joins
unfolding joins answers result expected wire wire_reference two_wires two_wires_reference and_of and not cared either neither idle five_gates five_operations
    c.cells c.cell_at c.pin_count c.set_expression c.retired_cells c.among c.is_retired c.kind_of b.operand b.operands
    k.when_found k.own_commands k.command_table k.form_in k.pins_needed k.needed k.pins_used k.stray k.misfit k.misfit_from k.take_gate k.take_care k.take_element
    k.take_sort k.take_command k.next_at r.part_nets r.carries_data r.count_of t.wired p.registers_of p.register_count x.times x.resolve
    r.names k.role_of k.used r.nameless r.nameless_at r.nameless_from r.floor_after r.noted r.finish r.on_next r.read_from r.read_file t.content_at v.refusal e.first e.judge
    l.numbers l.select l.some l.every l.of_bits l.reaches e.sweep o.rounds o.risen o.fallen o.reaches_itself w.cares_for w.spelled w.names w.words w.operate w.values w.answer
    h.wrong h.incomplete h.high_and h.unobservable h.fall_incomplete h.fall_unobservable h.looped h.retired h.never_rises h.idle h.checks
    n.row_for n.command n.write_file net_in_whole signal_in_whole joined_by j.seam_checks flat_map
computed = refl
