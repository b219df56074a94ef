-- Small calls and their answers, computed from the definitions alone: the marked stages of document 01 that have a run, stages refused by 20 and 21,
-- lists that are judged, and runs by keys.
use Prim.Native.Nat.{ℕ}
use mathlib.Core.Path.{◌≡◌, refl}
use mathlib.Core.List.{List, [], ◌∷◌, ◌++◌, map, flat_map}
use lib.ListN.{length}
use Rattle.gates.specs.Cell as c
use Rattle.netlist.specs.Bytes as b
use Rattle.netlist.specs.Commands as k
use Rattle.netlist.specs.Reading as r
use Rattle.verdict.specs.declared.Verdict.{Verdict}
use Rattle.verdict.specs.declared.WordOrder.{WordOrder}
use Rattle.verdict.specs.declared.WordOrder.TheVariants.{FirstHighest, FirstLowest}
use Rattle.wiring_spec.specs.Parts as i
use Rattle.wiring_spec.specs.Wires as x
use Rattle.check_spec.specs.Cases as e
use Rattle.check_spec.specs.Cases.{verdict, judge}
use Rattle.check_spec.specs.Lists as l
use Rattle.check_spec.specs.Content as t
use Rattle.check_spec.specs.Content.{plain_files}
use Rattle.check_spec.specs.Rows as o
use Rattle.check_spec.specs.Words as w
use Rattle.check_spec.specs.Checks as h
use Rattle.check_spec.specs.Verdicts as v
use Rattle.check_spec.specs.Verdicts.{verdict_on}
use Rattle.run_spec.specs.declared.RunAnswer.{RunAnswer}
use Rattle.run_spec.specs.declared.PlayAnswer.{PlayAnswer}
use Rattle.run_spec.specs.Played as p
use Rattle.run_spec.specs.Played.{switchings, answering, handed_out}
use Rattle.run_spec.specs.Witness as q
use Rattle.run_spec.specs.Witness.{witness_on}
use Rattle.run_spec.specs.Play as y
use Rattle.run_spec.specs.Play.{play_on, play_row}
use Rattle.run_spec.specs.Keys as z
use Rattle.run_spec.specs.Keys.{keys_on, key_checks_on}

-- ---- files

-- a gate with two pins and an output, below net 256
abbrev two_pins : ℕ → ℕ → ℕ → List ℕ → List ℕ
two_pins kind a b rest = 2 ∷ kind ∷ a ∷ 0 ∷ b ∷ 0 ∷ 0xFF ∷ 0xFF ∷ 0xFF ∷ 0xFF ∷ rest

abbrev pair : ℕ → ℕ → List ℕ → List ℕ
pair rail0 rail1 rest = 3 ∷ rail0 ∷ 0 ∷ rail1 ∷ 0 ∷ rest

wire_reference : List ℕ
wire_reference = 1 ∷ 1 ∷ 0x12 ∷ 0 ∷ 0 ∷ 0 ∷ []

and_reference : List ℕ
and_reference = 1 ∷ 2 ∷ 0x11 ∷ 2 ∷ 0 ∷ 0 ∷ 1 ∷ 0 ∷ 0x12 ∷ 2 ∷ 0 ∷ 0 ∷ []

two_wires : List ℕ
two_wires = 1 ∷ 2 ∷ 0x12 ∷ 0 ∷ 0 ∷ 0x12 ∷ 1 ∷ 0 ∷ 0 ∷ []

-- the whole case of document 01: net 4 is TH22 on rails 1, net 5 THand0
abbrev and_of : ℕ → ℕ → List ℕ
and_of one zero' = 1 ∷ 2 ∷ two_pins one 1 3 (2 ∷ zero' ∷ 0 ∷ 0 ∷ 2 ∷ 0 ∷ 1 ∷ 0 ∷ 3 ∷ 0 ∷ pair 5 4 (0 ∷ []))

whole : List ℕ
whole = and_of 2 0x1A

-- ---- the witness

pub record Case : Type 0 where
  pub order : WordOrder
  pub stage : List ℕ
  pub reference : List ℕ
  pub asked : ℕ
  pub room : ℕ
  pub answer : RunAnswer
  pub list : List ℕ

-- a list that is lent, of so many entries
lent : ℕ → List ℕ
lent n = l.numbers 900 n

abbrev case : List ℕ → List ℕ → ℕ → ℕ → Verdict → ℕ → List ℕ → Case
case stage reference asked room v rise list = record {
  order = FirstHighest;
  stage = stage;
  reference = reference;
  asked = asked;
  room = room;
  answer = record { verdict = v; rise = rise; count = length list };
  list = list;
}

cases : List Case
cases =
    -- 1. accepted: word 00 and word 10, by the name 2; another name is taken by its lowest bits
    case whole and_reference 0 6 (verdict 0 0 0 0) 3 (0 ∷ 2 ∷ 5 ∷ 0 ∷ 2 ∷ 5 ∷ []) ∷
    case whole and_reference 2 6 (verdict 0 0 0 0) 3 (1 ∷ 2 ∷ 5 ∷ 1 ∷ 2 ∷ 5 ∷ []) ∷
    case whole and_reference 7 6 (verdict 0 0 0 0) 3 (1 ∷ 3 ∷ 4 ∷ 1 ∷ 3 ∷ 4 ∷ []) ∷
    -- 3 and 5. the wire with its rails swapped, and with both rails on net 0: the word is the verdict's
    case (1 ∷ 1 ∷ pair 1 0 (0 ∷ [])) wire_reference 1 1 (verdict 13 1 0 0) 1 (0 ∷ []) ∷
    case (1 ∷ 1 ∷ pair 0 0 (0 ∷ [])) wire_reference 0 1 (verdict 13 1 0 0) 1 (0 ∷ []) ∷
    -- 6. AND that does not wait for both inputs: the output is DATA without input 0
    case (1 ∷ 2 ∷ two_pins 1 0 2 (two_pins 2 1 3 (pair 4 5 (0 ∷ [])))) and_reference 0 2 (verdict 14 1 0 0) 2 (2 ∷ 4 ∷ []) ∷
    -- 7. two inputs, input 0 wired out
    case (1 ∷ 2 ∷ pair 0 1 (0 ∷ [])) (1 ∷ 2 ∷ 0x12 ∷ 0 ∷ 0 ∷ 0 ∷ []) 0 1 (verdict 14 1 1 0) 1 (0 ∷ []) ∷
    -- 8. wire plus TH12(0, 1) feeding nothing: the gate is held back
    case (1 ∷ 1 ∷ two_pins 1 0 1 (pair 0 1 (0 ∷ []))) wire_reference 0 1 (verdict 15 1 0 0) 1 (0 ∷ []) ∷
    -- 9 and 10. a loop, and empty files: nothing is written
    case (1 ∷ 1 ∷ two_pins 1 2 0 (pair 0 1 (0 ∷ []))) wire_reference 0 0 (verdict 12 1 0 0) 0 [] ∷
    case [] [] 0 0 (verdict 1 1 0 0) 0 [] ∷
    -- 20: the relaxed TH22 falls with input 1 while input 0 is still DATA, in word 11
    case (and_of 0x82 0x1A) and_reference 0 5 (verdict 20 1 0 3) 3 (1 ∷ 3 ∷ 4 ∷ 3 ∷ 4 ∷ []) ∷
    -- 21: two wires, the rail 1 of the first through a buffer with hold, net 4, whose fall the relaxed gate behind it does not wait for
    case (1 ∷ 2 ∷ two_pins 1 1 1 (two_pins 0x82 4 1 (pair 0 5 (pair 2 3 (0 ∷ []))))) two_wires 0 7 (verdict 21 1 0 2) 4
    (1 ∷ 2 ∷ 4 ∷ 5 ∷ 1 ∷ 2 ∷ 5 ∷ []) ∷
    -- a gate that is named before the gates that feed it waits for them
    case (1 ∷ 1 ∷ two_pins 1 3 3 (two_pins 1 0 0 (pair 2 1 (0 ∷ [])))) wire_reference 0 6 (verdict 0 0 0 0) 3 (0 ∷ 3 ∷ 2 ∷ 0 ∷ 3 ∷ 2 ∷ []) ∷
    -- 32: the wire plus TH22(0, 1), which never rises: the word that is asked for, or if that is not cared for the first that is
    case (1 ∷ 1 ∷ two_pins 2 0 1 (pair 0 1 (0 ∷ []))) wire_reference 1 2 (verdict 32 1 0 0) 1 (1 ∷ 1 ∷ []) ∷
    case (1 ∷ 1 ∷ 6 ∷ 0 ∷ 0 ∷ two_pins 2 0 1 (pair 0 1 (0 ∷ []))) wire_reference 1 2 (verdict 32 1 0 0) 1 (0 ∷ 0 ∷ []) ∷
    []

-- ---- play

pub record Judging : Type 0 where
  pub stage : List ℕ
  pub name : ℕ
  pub fall : ℕ
  pub list : List ℕ
  pub bytes : ℕ
  pub answer : PlayAnswer
  pub row : List ℕ

-- of the whole case
abbrev judging : ℕ → ℕ → List ℕ → ℕ → List ℕ → Judging
judging name fall list steps row = record {
  stage = whole;
  name = name;
  fall = fall;
  list = list;
  bytes = 6;
  answer = record { verdict = verdict 0 0 0 0; steps = steps };
  row = row;
}

abbrev refusing : List ℕ → ℕ → Verdict → Judging
refusing stage bytes v = record {
  stage = stage;
  name = 0;
  fall = 1;
  list = 0 ∷ [];
  bytes = bytes;
  answer = record { verdict = v; steps = 0 };
  row = lent bytes;
}

judgings : List Judging
judgings =
    -- a full run of word 10, its rise in another order, and nothing at all
    judging 2 3 (2 ∷ 1 ∷ 5 ∷ 1 ∷ 2 ∷ 5 ∷ []) 6 (0 ∷ 0 ∷ 0 ∷ 0 ∷ 0 ∷ 0 ∷ []) ∷
    judging 2 9 (2 ∷ 1 ∷ 5 ∷ []) 3 (0 ∷ 1 ∷ 1 ∷ 0 ∷ 0 ∷ 1 ∷ []) ∷
    judging 2 0 [] 0 (0 ∷ 0 ∷ 0 ∷ 0 ∷ 0 ∷ 0 ∷ []) ∷
    -- a gate before its pin; a rail that the word does not call for; a rail twice; a net that does not exist
    judging 2 9 (1 ∷ 5 ∷ 2 ∷ []) 1 (0 ∷ 1 ∷ 0 ∷ 0 ∷ 0 ∷ 0 ∷ []) ∷
    judging 2 9 (1 ∷ 3 ∷ []) 1 (0 ∷ 1 ∷ 0 ∷ 0 ∷ 0 ∷ 0 ∷ []) ∷
    judging 2 9 (1 ∷ 1 ∷ []) 1 (0 ∷ 1 ∷ 0 ∷ 0 ∷ 0 ∷ 0 ∷ []) ∷
    judging 2 9 (6 ∷ []) 0 (0 ∷ 0 ∷ 0 ∷ 0 ∷ 0 ∷ 0 ∷ []) ∷
    -- a fall before the rise has ended; a gate with hold that falls while a pin is high
    judging 2 2 (1 ∷ 2 ∷ 1 ∷ []) 2 (0 ∷ 1 ∷ 1 ∷ 0 ∷ 0 ∷ 0 ∷ []) ∷
    judging 2 3 (1 ∷ 2 ∷ 5 ∷ 1 ∷ 5 ∷ []) 4 (0 ∷ 0 ∷ 1 ∷ 0 ∷ 0 ∷ 1 ∷ []) ∷
    -- reading comes before 12, and 12 before 16
    refusing [] 6 (verdict 1 1 0 0) ∷
    refusing (1 ∷ 1 ∷ two_pins 1 2 0 (pair 0 1 (0 ∷ []))) 6 (verdict 12 1 0 0) ∷
    refusing whole 5 (verdict 16 3 5 0) ∷
    []

-- ---- by keys

pub record Keyed : Type 0 where
  pub name : ℕ
  pub keys : List ℕ
  pub room : ℕ
  pub answer : RunAnswer
  pub list : List ℕ

abbrev keyed : ℕ → List ℕ → ℕ → Verdict → ℕ → ℕ → List ℕ → Keyed
keyed name keys room v rise count list = record { name = name; keys = keys; room = room; answer = record { verdict = v; rise = rise; count = count }; list = list }

-- of the whole case
keyed_runs : List Keyed
keyed_runs =
    -- equal keys: the least net; then the rise from the highest net down, and the fall in another order
    keyed 2 (0 ∷ 0 ∷ 0 ∷ 0 ∷ 0 ∷ 0 ∷ 0 ∷ 0 ∷ 0 ∷ 0 ∷ 0 ∷ 0 ∷ []) 7 (verdict 0 0 0 0) 3 6 (1 ∷ 2 ∷ 5 ∷ 1 ∷ 2 ∷ 5 ∷ 906 ∷ []) ∷
    keyed 2 (9 ∷ 8 ∷ 7 ∷ 6 ∷ 5 ∷ 4 ∷ 0 ∷ 1 ∷ 2 ∷ 3 ∷ 4 ∷ 5 ∷ []) 6 (verdict 0 0 0 0) 3 6 (2 ∷ 1 ∷ 5 ∷ 1 ∷ 2 ∷ 5 ∷ []) ∷
    -- a list too short, by one entry or more, is left as it was, and keys that are too few are refused
    keyed 2 (0 ∷ 0 ∷ 0 ∷ 0 ∷ 0 ∷ 0 ∷ 0 ∷ 0 ∷ 0 ∷ 0 ∷ 0 ∷ 0 ∷ []) 5 (verdict 0 0 0 0) 3 6 (900 ∷ 901 ∷ 902 ∷ 903 ∷ 904 ∷ []) ∷
    keyed 2 (0 ∷ 0 ∷ 0 ∷ 0 ∷ 0 ∷ 0 ∷ 0 ∷ 0 ∷ 0 ∷ 0 ∷ 0 ∷ 0 ∷ []) 2 (verdict 0 0 0 0) 3 6 (900 ∷ 901 ∷ []) ∷
    keyed 2 (0 ∷ 0 ∷ 0 ∷ 0 ∷ 0 ∷ 0 ∷ []) 2 (verdict 16 3 6 0) 0 0 (900 ∷ 901 ∷ []) ∷
    []

-- ---- computed

abbrev Computed : Type 0
Computed =
    (map (λ (x : Case). answering (verdict_on x.order (plain_files x.stage x.reference)) (witness_on x.order (plain_files x.stage x.reference) x.asked)) cases
    ≡ map (λ (x : Case). x.answer) cases)
    × (map (λ (x : Case). handed_out (switchings (witness_on x.order (plain_files x.stage x.reference) x.asked)) (lent x.room)) cases ≡ map (λ (x : Case). x.list) cases)
    × (map (λ (x : Judging). play_on FirstHighest x.stage x.name x.fall x.list (lent x.bytes)) judgings ≡ map (λ (x : Judging). x.answer) judgings)
    × (map (λ (x : Judging). play_row FirstHighest x.stage x.name x.fall x.list (lent x.bytes)) judgings ≡ map (λ (x : Judging). x.row) judgings)
    × (map (λ (x : Keyed). answering (judge (key_checks_on whole x.keys)) (keys_on FirstHighest whole x.name x.keys)) keyed_runs
    ≡ map (λ (x : Keyed). x.answer) keyed_runs)
    × (map (λ (x : Keyed). handed_out (switchings (keys_on FirstHighest whole x.name x.keys)) (lent x.room)) keyed_runs ≡ map (λ (x : Keyed). x.list) keyed_runs)

computed : Computed
unfolding wire_reference and_reference two_wires whole lent cases judgings keyed_runs b.operand b.operands
    k.when_found k.own_commands k.command_table k.form_in k.pins_needed k.needed k.pins_used k.stray k.misfit k.misfit_from k.take_gate k.take_care k.take_element
    k.take_sort k.take_command k.next_at r.part_nets r.carries_data r.count_of t.wired i.registers_of i.register_count x.times x.resolve
    r.names k.role_of k.used r.nameless r.nameless_at r.nameless_from r.floor_after r.noted r.finish r.on_next r.read_from r.read_file
    t.content_at v.refusal e.first e.judge
    l.numbers l.select l.some l.every l.of_bits l.reaches e.sweep o.rounds o.risen o.fallen o.reaches_itself
    w.cares_for w.spelled w.names w.words w.operate w.values w.answer
    h.wrong h.incomplete h.high_and h.unobservable h.fall_incomplete h.fall_unobservable h.looped h.retired h.never_rises h.idle h.checks
    c.cells c.cell_at c.pin_count c.set_expression c.retired_cells c.among c.is_retired c.kind_of flat_map
    p.next p.played p.handed_out q.held_back q.witness_run q.asked_or_first q.name_shown y.allowed y.none_left y.steps_of y.play_on y.play_row z.run_by_keys z.keys_on
computed = (refl, refl, refl, refl, refl, refl)
