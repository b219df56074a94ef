-- Small references, and what the call leaves of a buffer, computed from the definitions alone.
-- Assumes nothing.
use Prim.Native.Nat.{ℕ}
use mathlib.Core.Path.{◌≡◌, refl}
use mathlib.Core.List.{List, [], ◌∷◌, map, flat_map}
use lib.ListN.{replicate}
use Rattle.gates.specs.Cell as c
use Rattle.netlist.specs.Bytes as b
use Rattle.netlist.specs.Commands as k
use Rattle.netlist.specs.Reading as r
use Rattle.verdict.specs.Written.{Written, refuse, write}
use Rattle.check_spec.specs.Cases as q
use Rattle.check_spec.specs.Cases.{verdict, judge}
use Rattle.check_spec.specs.Lists as l
use Rattle.check_spec.specs.Content as t
use Rattle.check_spec.specs.Verdicts as v
use Rattle.check_spec.specs.Writing as w
use Rattle.check_spec.specs.Writing.{leaving}
use Rattle.make_spec.specs.Make as m
use Rattle.make_spec.specs.Make.{reference_read, made_bytes, make_checks_on}

-- the kinds that are used are those of the paper's names
named : map (λ kind. (c.cell_at kind).name) (2 ∷ 25 ∷ 26 ∷ 27 ∷ []) ≡ "TH22" ∷ "THxor0" ∷ "THand0" ∷ "TH24comp" ∷ []
unfolding c.cells c.cell_at
named = refl

-- a reference, how many bytes are lent, and what the call leaves of these
pub record Case : Type 0 where
  pub reference : List ℕ
  pub room : ℕ
  pub leaves : List ℕ → Written

abbrev case : List ℕ → ℕ → (List ℕ → Written) → Case
case reference room leaves = record { reference = reference; room = room; leaves = leaves }

-- a buffer of so many bytes
abbrev lent : ℕ → List ℕ
lent room = replicate room 7

-- the whole case of the paper: AND
abbrev whole_stage : List ℕ
whole_stage = 1 ∷ 2 ∷ 2 ∷ 2 ∷ 1 ∷ 0 ∷ 3 ∷ 0 ∷ 0xFF ∷ 0xFF ∷ 0xFF ∷ 0xFF ∷ 2 ∷ 0x1A ∷ 0 ∷ 0 ∷ 2 ∷ 0 ∷ 1 ∷ 0 ∷ 3 ∷ 0 ∷ 3 ∷ 5 ∷ 0 ∷ 4 ∷ 0 ∷ 0 ∷ []

pub cases : List Case
cases =
    -- AND, in a buffer of just its length, and of one byte less
    case (1 ∷ 2 ∷ 0x11 ∷ 2 ∷ 0 ∷ 0 ∷ 1 ∷ 0 ∷ 0x12 ∷ 2 ∷ 0 ∷ 0 ∷ []) 28 (write whole_stage) ∷
    case (1 ∷ 2 ∷ 0x11 ∷ 2 ∷ 0 ∷ 0 ∷ 1 ∷ 0 ∷ 0x12 ∷ 2 ∷ 0 ∷ 0 ∷ []) 27 (refuse (verdict 27 3 0 0)) ∷
    -- NOT of an input: no gate, swapped rails
    case (1 ∷ 1 ∷ 0x11 ∷ 1 ∷ 0 ∷ 0 ∷ 0xFF ∷ 0xFF ∷ 0x12 ∷ 1 ∷ 0 ∷ 0 ∷ []) 8 (write (1 ∷ 1 ∷ 3 ∷ 1 ∷ 0 ∷ 0 ∷ 0 ∷ 0 ∷ [])) ∷
    -- OR
    case (1 ∷ 2 ∷ 0x11 ∷ 3 ∷ 0 ∷ 0 ∷ 1 ∷ 0 ∷ 0x12 ∷ 2 ∷ 0 ∷ 0 ∷ []) 28 (write
    (1 ∷ 2 ∷ 2 ∷ 2 ∷ 0 ∷ 0 ∷ 2 ∷ 0 ∷ 0xFF ∷ 0xFF ∷ 0xFF ∷ 0xFF ∷ 2 ∷ 0x1A ∷ 1 ∷ 0 ∷ 3 ∷ 0 ∷ 0 ∷ 0 ∷ 2 ∷ 0 ∷ 3 ∷ 4 ∷ 0 ∷ 5 ∷ 0 ∷ 0 ∷ [])) ∷
    -- XOR
    case (1 ∷ 2 ∷ 0x11 ∷ 4 ∷ 0 ∷ 0 ∷ 1 ∷ 0 ∷ 0x12 ∷ 2 ∷ 0 ∷ 0 ∷ []) 28 (write
    (1 ∷ 2 ∷ 2 ∷ 0x19 ∷ 0 ∷ 0 ∷ 2 ∷ 0 ∷ 1 ∷ 0 ∷ 3 ∷ 0 ∷ 2 ∷ 0x1B ∷ 0 ∷ 0 ∷ 2 ∷ 0 ∷ 1 ∷ 0 ∷ 3 ∷ 0 ∷ 3 ∷ 4 ∷ 0 ∷ 5 ∷ 0 ∷ 0 ∷ [])) ∷
    -- XOR of an input with itself
    case (1 ∷ 1 ∷ 0x11 ∷ 4 ∷ 0 ∷ 0 ∷ 0 ∷ 0 ∷ 0x12 ∷ 1 ∷ 0 ∷ 0 ∷ []) 100 (write
    (1 ∷ 1 ∷ 2 ∷ 0x19 ∷ 0 ∷ 0 ∷ 0 ∷ 0 ∷ 1 ∷ 0 ∷ 1 ∷ 0 ∷ 2 ∷ 0x1B ∷ 0 ∷ 0 ∷ 0 ∷ 0 ∷ 1 ∷ 0 ∷ 1 ∷ 0 ∷ 3 ∷ 2 ∷ 0 ∷ 3 ∷ 0 ∷ 0 ∷ [])) ∷
    -- NAND: the gates of AND, the result's rails swapped
    case (1 ∷ 2 ∷ 0x11 ∷ 5 ∷ 0 ∷ 0 ∷ 1 ∷ 0 ∷ 0x12 ∷ 2 ∷ 0 ∷ 0 ∷ []) 28 (write
    (1 ∷ 2 ∷ 2 ∷ 2 ∷ 1 ∷ 0 ∷ 3 ∷ 0 ∷ 0xFF ∷ 0xFF ∷ 0xFF ∷ 0xFF ∷ 2 ∷ 0x1A ∷ 0 ∷ 0 ∷ 2 ∷ 0 ∷ 1 ∷ 0 ∷ 3 ∷ 0 ∷ 3 ∷ 4 ∷ 0 ∷ 5 ∷ 0 ∷ 0 ∷ [])) ∷
    -- NOR of an input and NOT of the other, which is an output too
    case (1 ∷ 2 ∷ 0x11 ∷ 1 ∷ 1 ∷ 0 ∷ 0xFF ∷ 0xFF ∷ 0x11 ∷ 6 ∷ 0 ∷ 0 ∷ 2 ∷ 0 ∷ 0x12 ∷ 2 ∷ 0 ∷ 0x12 ∷ 3 ∷ 0 ∷ 0 ∷ []) 33 (write
    (1 ∷ 2 ∷ 2 ∷ 2 ∷ 0 ∷ 0 ∷ 3 ∷ 0 ∷ 0xFF ∷ 0xFF ∷ 0xFF ∷ 0xFF ∷ 2 ∷ 0x1A ∷ 1 ∷ 0 ∷ 2 ∷ 0 ∷ 0 ∷ 0 ∷ 3 ∷ 0 ∷ 3 ∷ 3 ∷ 0 ∷ 2 ∷ 0 ∷ 3 ∷ 5 ∷ 0 ∷ 4 ∷ 0 ∷ 0 ∷ [])) ∷
    -- 25: an input that nothing reads
    case (1 ∷ 2 ∷ 0x12 ∷ 0 ∷ 0 ∷ 0 ∷ []) 0 (refuse (verdict 25 2 1 0)) ∷
    -- 25: input 1 leads to a gate that leads nowhere; it is the least such signal
    case (1 ∷ 2 ∷ 0x11 ∷ 1 ∷ 1 ∷ 0 ∷ 0xFF ∷ 0xFF ∷ 0x12 ∷ 0 ∷ 0 ∷ 0 ∷ []) 0 (refuse (verdict 25 2 1 0)) ∷
    -- NOT of NOT, and an input at two outputs
    case (1 ∷ 1 ∷ 0x11 ∷ 1 ∷ 0 ∷ 0 ∷ 0xFF ∷ 0xFF ∷ 0x11 ∷ 1 ∷ 1 ∷ 0 ∷ 0xFF ∷ 0xFF ∷ 0x12 ∷ 2 ∷ 0 ∷ 0x12 ∷ 0 ∷ 0 ∷ 0 ∷ []) 13
    (write (1 ∷ 1 ∷ 3 ∷ 0 ∷ 0 ∷ 1 ∷ 0 ∷ 3 ∷ 0 ∷ 0 ∷ 1 ∷ 0 ∷ 0 ∷ [])) ∷
    -- refused in reading
    case [] 0 (refuse (verdict 1 2 0 0)) ∷
    []

pub computed : map (λ (x : Case). leaving (judge (make_checks_on x.reference x.room)) (made_bytes (reference_read x.reference)) (lent x.room)) cases
    ≡ map (λ (x : Case). x.leaves (lent x.room)) cases
unfolding cases b.operand b.operands
    k.when_found k.own_commands k.command_table k.form_in k.pins_needed k.needed k.stray k.misfit k.misfit_from k.take_gate k.take_care k.take_sort k.take_command k.next_at
    r.names k.role_of k.used r.nameless r.nameless_at r.nameless_from r.floor_after r.noted r.finish r.on_next r.read_from r.read_file
    t.content_at v.refusal q.first q.judge q.sweep l.numbers l.select l.some l.reaches w.row_for w.command w.write_file w.leaving flat_map
    m.realize m.build m.built m.made_stage m.readers m.leads_out m.make_checks
computed = refl
