-- Small stage files and their texts, and small texts and their stage files, computed from the definitions alone.
-- Assumes nothing.
use Prim.Native.Nat.{ℕ}
use Prim.Native.String as string
use mathlib.Core.Path.{◌≡◌, refl}
use mathlib.Core.List.{List, [], ◌∷◌, ◌++◌, map}
use Rattle.gates.specs.Cell as c
use Rattle.netlist.specs.Bytes as b
use Rattle.netlist.specs.Commands as k
use Rattle.netlist.specs.Reading as r
use Rattle.netlist.specs.Reading.{stage_limits}
use Rattle.netlist.specs.Content as t
use Rattle.netlist.specs.Writing as n
use Rattle.text_spec.specs.Characters as h
use Rattle.text_spec.specs.Characters.{bytes_of}
use Rattle.text_spec.specs.Lines as l
use Rattle.text_spec.specs.FromText as f
use Rattle.text_spec.specs.FromText.{TextAnswer, refusal, gives, from_text}
use Rattle.text_spec.specs.ToText as w
use Rattle.text_spec.specs.ToText.{ended, to_text}

-- a stage file or a text, a buffer's length, and the answer
pub record Case : Type 0 where
  pub given : List ℕ
  pub room : ℕ
  pub expected : TextAnswer

abbrev case : List ℕ → ℕ → TextAnswer → Case
case given room expected = record { given = given; room = room; expected = expected }

abbrev text : List string.String → TextAnswer
text lines = gives (ended (map bytes_of lines))

-- the whole case of the paper: AND
abbrev whole_stage : List ℕ
whole_stage = 1 ∷ 2 ∷ 2 ∷ 2 ∷ 1 ∷ 0 ∷ 3 ∷ 0 ∷ 0xFF ∷ 0xFF ∷ 0xFF ∷ 0xFF ∷ 2 ∷ 0x1A ∷ 0 ∷ 0 ∷ 2 ∷ 0 ∷ 1 ∷ 0 ∷ 3 ∷ 0 ∷ 3 ∷ 5 ∷ 0 ∷ 4 ∷ 0 ∷ 0 ∷ []

pub cases : List Case
cases =
    -- both gates are rails of the output, in a buffer of just the text's length, and of one byte less
    case whole_stage 61 (text ("x0,x1" ∷ "y0" ∷ "TH22 x0_1,x1_1 y0_1" ∷ "THand0 x0_0,x1_0,x0_1,x1_1 y0_0" ∷ [])) ∷
    case whole_stage 60 (refusal 24 3 0) ∷
    -- a wire: the output bears the input's name; so do two outputs on one input pair
    case (1 ∷ 1 ∷ 3 ∷ 0 ∷ 0 ∷ 1 ∷ 0 ∷ 0 ∷ []) 100 (text ("x0" ∷ "x0" ∷ [])) ∷
    case (1 ∷ 1 ∷ 3 ∷ 0 ∷ 0 ∷ 1 ∷ 0 ∷ 3 ∷ 0 ∷ 0 ∷ 1 ∷ 0 ∷ 0 ∷ []) 100 (text ("x0" ∷ "x0,x0" ∷ [])) ∷
    -- a gate that is no output's is g with its number; a relaxed kind has a leading r
    case (1 ∷ 1 ∷ 2 ∷ 129 ∷ 0 ∷ 0 ∷ 1 ∷ 0 ∷ 0xFF ∷ 0xFF ∷ 0xFF ∷ 0xFF ∷ 3 ∷ 0 ∷ 0 ∷ 1 ∷ 0 ∷ 0 ∷ []) 100 (text ("x0" ∷ "x0" ∷ "rTH12 x0_0,x0_1 g0" ∷ [])) ∷
    -- an output's name has its own number; a gate before it has another; an output may stand before a gate
    case (1 ∷ 1 ∷ 3 ∷ 0 ∷ 0 ∷ 1 ∷ 0 ∷ 2 ∷ 1 ∷ 0 ∷ 0 ∷ 1 ∷ 0 ∷ 0xFF ∷ 0xFF ∷ 0xFF ∷ 0xFF ∷ 2 ∷ 2 ∷ 2 ∷ 0 ∷ 4 ∷ 0 ∷ 0xFF ∷ 0xFF ∷ 0xFF ∷ 0xFF ∷
    2 ∷ 2 ∷ 2 ∷ 0 ∷ 3 ∷ 0 ∷ 0xFF ∷ 0xFF ∷ 0xFF ∷ 0xFF ∷ 3 ∷ 3 ∷ 0 ∷ 4 ∷ 0 ∷ 0 ∷ []) 100
    (text ("x0" ∷ "x0,y1" ∷ "TH12 x0_0,x0_1 g0" ∷ "TH22 g0,y1_1 y1_0" ∷ "TH22 g0,y1_0 y1_1" ∷ [])) ∷
    -- 31: an input pair with rail 1 first; one rail of an input; both rails on one net; two outputs on one pair of gates
    case (1 ∷ 1 ∷ 3 ∷ 1 ∷ 0 ∷ 0 ∷ 0 ∷ 0 ∷ []) 100 (refusal 31 1 0) ∷
    case (1 ∷ 1 ∷ 2 ∷ 1 ∷ 0 ∷ 0 ∷ 1 ∷ 0 ∷ 0xFF ∷ 0xFF ∷ 0xFF ∷ 0xFF ∷ 3 ∷ 2 ∷ 0 ∷ 1 ∷ 0 ∷ 0 ∷ []) 100 (refusal 31 1 0) ∷
    case (1 ∷ 1 ∷ 2 ∷ 1 ∷ 0 ∷ 0 ∷ 1 ∷ 0 ∷ 0xFF ∷ 0xFF ∷ 0xFF ∷ 0xFF ∷ 3 ∷ 2 ∷ 0 ∷ 2 ∷ 0 ∷ 0 ∷ []) 100 (refusal 31 1 0) ∷
    case (1 ∷ 2 ∷ 2 ∷ 2 ∷ 1 ∷ 0 ∷ 3 ∷ 0 ∷ 0xFF ∷ 0xFF ∷ 0xFF ∷ 0xFF ∷ 2 ∷ 0x1A ∷ 0 ∷ 0 ∷ 2 ∷ 0 ∷ 1 ∷ 0 ∷ 3 ∷ 0 ∷ 3 ∷ 5 ∷ 0 ∷ 4 ∷ 0 ∷
    3 ∷ 4 ∷ 0 ∷ 5 ∷ 0 ∷ 0 ∷ []) 100 (refusal 31 1 1) ∷
    -- 29: a care list, before 31 and 24
    case (1 ∷ 1 ∷ 6 ∷ 0 ∷ 0 ∷ 3 ∷ 1 ∷ 0 ∷ 0 ∷ 0 ∷ 0 ∷ []) 0 (refusal 29 1 0) ∷
    -- refused in reading
    case [] 0 (refusal 1 1 0) ∷
    []

pub computed : map (λ (x : Case). to_text stage_limits x.room x.given) cases ≡ map (λ (x : Case). x.expected) cases
unfolding cases b.operand b.operands c.cells c.cell_at c.pin_count c.kind_of
    k.when_found k.own_commands k.command_table k.form_in k.pins_needed k.needed k.stray k.misfit k.misfit_from k.take_gate k.take_care k.take_sort
    k.take_command k.next_at
    r.names k.role_of k.used r.nameless r.nameless_at r.nameless_from r.floor_after r.noted r.finish r.on_next r.read_from r.read_file t.stage_of
    h.cell_name h.kind_name f.unless f.if_room w.numbered w.gate_name w.net_name w.output_name w.second_name w.lines_of w.text_for
    w.care_list w.stage_text w.on_reading w.to_text
computed = refl

-- ---- reading

-- a text of these lines, each with its newline
abbrev lines : List string.String → List ℕ
lines ls = ended (map bytes_of ls)

-- the file of a wire beside one gate, given by its kind and its pins
abbrev beside_wire : List ℕ → TextAnswer
beside_wire gate = gives (1 ∷ 1 ∷ 2 ∷ (gate ++ (3 ∷ 0 ∷ 0 ∷ 1 ∷ 0 ∷ 0 ∷ [])))

pub readings : List Case
readings =
    -- the whole case of the paper, in a buffer of just the file's length, and of one byte less
    case (lines ("a,b" ∷ "z" ∷ "TH22 a_1,b_1 z_1" ∷ "THand0 a_0,b_0,a_1,b_1 z_0" ∷ [])) 28 (gives whole_stage) ∷
    case (lines ("a,b" ∷ "z" ∷ "TH22 a_1,b_1 z_1" ∷ "THand0 a_0,b_0,a_1,b_1 z_0" ∷ [])) 27 (refusal 24 3 0) ∷
    -- an input a drives a_0 and a_1 only: a gate net a does not clash; a leading r makes the kind relaxed
    case (lines ("a" ∷ "a" ∷ "TH12 a_0,a_1 a" ∷ [])) 18 (beside_wire (1 ∷ 0 ∷ 0 ∷ 1 ∷ 0 ∷ 0xFF ∷ 0xFF ∷ 0xFF ∷ 0xFF ∷ [])) ∷
    case (lines ("a" ∷ "a" ∷ "rTH12 a_1,a_0 g" ∷ [])) 18 (beside_wire (129 ∷ 1 ∷ 0 ∷ 0 ∷ 0 ∷ 0xFF ∷ 0xFF ∷ 0xFF ∷ 0xFF ∷ [])) ∷
    -- 29: no line, line 0 alone, an empty last line, a last line without its newline, a carriage return
    case [] 18 (refusal 29 1 0) ∷
    case (lines ("a" ∷ [])) 18 (refusal 29 1 1) ∷
    case (lines ("a" ∷ "a" ∷ "" ∷ [])) 18 (refusal 29 1 2) ∷
    case (lines ("a" ∷ []) ++ bytes_of "a") 18 (refusal 29 1 1) ∷
    case (lines ("a" ∷ []) ++ (97 ∷ 13 ∷ 10 ∷ [])) 18 (refusal 29 1 1) ∷
    -- 29: a comma at the end, a name of 17 characters, five pins, a second space, a kind that there is not
    case (lines ("a," ∷ "a" ∷ [])) 18 (refusal 29 1 0) ∷
    case (lines ("a2345678901234567" ∷ "a" ∷ [])) 18 (refusal 29 1 0) ∷
    case (lines ("a" ∷ "a" ∷ "TH14 a_0,a_0,a_0,a_0,a_0 g" ∷ [])) 18 (refusal 29 1 2) ∷
    case (lines ("a" ∷ "a" ∷ "TH12  a_0,a_1 g" ∷ [])) 18 (refusal 29 1 2) ∷
    case (lines ("a" ∷ "a" ∷ "th12 a_0,a_1 g" ∷ [])) 18 (refusal 29 1 2) ∷
    -- 29: a Register line and a C line
    case (lines ("a" ∷ "q" ∷ "Register a,ki q,ko" ∷ [])) 18 (refusal 29 1 2) ∷
    case (lines ("a" ∷ "a" ∷ "TH12 a_0,a_1 g" ∷ "C g,a_0 k" ∷ [])) 18 (refusal 29 1 3) ∷
    -- a name of 16 characters, with pins and a net of 18; then a net of 19
    case (lines ("a234567890123456" ∷ "a234567890123456" ∷ "TH12 a234567890123456_0,a234567890123456_1 n23456789012345678" ∷ [])) 18
    (beside_wire (1 ∷ 0 ∷ 0 ∷ 1 ∷ 0 ∷ 0xFF ∷ 0xFF ∷ 0xFF ∷ 0xFF ∷ [])) ∷
    case (lines ("a" ∷ "a" ∷ "TH12 a_0,a_1 n234567890123456789" ∷ [])) 18 (refusal 29 1 2) ∷
    -- 30: an output with one rail driven only; a pin, at a later line than a name that is driven again
    case (lines ("a" ∷ "b" ∷ "TH12 a_0,a_1 b_0" ∷ [])) 18 (refusal 30 1 1) ∷
    case (lines ("a,a" ∷ "a" ∷ "TH12 a_0,b_1 g" ∷ [])) 18 (refusal 30 1 2) ∷
    -- 31: a name twice in line 0, and a rail that a gate drives again
    case (lines ("a,a" ∷ "a" ∷ [])) 18 (refusal 31 1 0) ∷
    case (lines ("a" ∷ "a" ∷ "TH12 a_0,a_1 a_1" ∷ [])) 18 (refusal 31 1 2) ∷
    -- 3: eleven inputs; 5: a pin too many, and one too few before a seventeenth output, whose 6 comes later in the file
    case (lines ("a,b,c,d,e,f,g,h,i,j,k" ∷ "a" ∷ [])) 18 (refusal 3 1 1) ∷
    case (lines ("a" ∷ "a" ∷ "TH12 a_0,a_1,a_0 g" ∷ [])) 18 (refusal 5 1 8) ∷
    case (lines ("a" ∷ "a,a,a,a,a,a,a,a,a,a,a,a,a,a,a,a,a" ∷ "TH12 a_0 g" ∷ [])) 18 (refusal 5 1 6) ∷
    case (lines ("a" ∷ "a,a,a,a,a,a,a,a,a,a,a,a,a,a,a,a,a" ∷ [])) 18 (refusal 6 1 82) ∷
    []

pub read_computed : map (λ (x : Case). from_text stage_limits x.room x.given) readings ≡ map (λ (x : Case). x.expected) readings
unfolding readings b.operand b.operands c.cells c.cell_at c.pin_count c.kind_of
    k.when_found k.own_commands k.command_table k.form_in k.pins_needed k.needed k.stray k.misfit k.misfit_from k.take_gate k.take_care k.take_sort
    k.take_command k.next_at
    r.names k.role_of k.used r.nameless r.nameless_at r.nameless_from r.floor_after r.noted r.finish r.on_next r.read_from r.read_file n.write_file
    h.is_name h.same h.cell_name h.cell_named h.kind_named l.split l.is_names_line l.gate_line l.is_gate_line l.formed l.other_form l.text_of
    f.net f.undriven f.driven_again f.file_of f.unless f.unless_refused f.if_room f.unless_more f.from_text
read_computed = refl

-- so many gates, with nets g0, g1 and so on
abbrev gate_texts : ℕ → List ℕ
gate_texts count = ended (bytes_of "a" ∷ bytes_of "a" ∷ map (λ (i : ℕ). bytes_of "TH12 a_0,a_1 " ++ w.g i) (h.range 0 count))

-- 6: a 257th gate
pub gates_computed : from_text stage_limits 2643 (gate_texts 257) ≡ refusal 6 1 2562
unfolding w.numbered b.operand b.operands c.cells c.cell_at c.pin_count c.kind_of
    k.when_found k.own_commands k.command_table k.form_in k.pins_needed k.needed k.stray k.misfit k.misfit_from k.take_gate k.take_care k.take_sort
    k.take_command k.next_at
    r.names k.role_of k.used r.nameless r.nameless_at r.nameless_from r.floor_after r.noted r.finish r.on_next r.read_from r.read_file n.write_file
    h.is_name h.same h.cell_name h.cell_named h.kind_named l.split l.is_names_line l.gate_line l.is_gate_line l.formed l.other_form l.text_of
    f.net f.undriven f.driven_again f.file_of f.unless f.unless_refused f.if_room f.unless_more f.from_text
gates_computed = refl
