-- The cases of specs/Cases are computed: each verdict is the one expected. Assumes nothing.
use Rattle.std.specs.Prelude.{◌≡◌, refl}
use mathlib.Core.List.{map, flat_map}
use Rattle.gates.specs.Cell as c
use Rattle.netlist.specs.Bytes as b
use Rattle.netlist.specs.Commands as k
use Rattle.netlist.specs.Reading as r
use Rattle.wiring_spec.specs.Parts as p
use Rattle.wiring_spec.specs.Wiring as q
use Rattle.wiring_spec.specs.Wires as x
use Rattle.check_spec.specs.Cases as e
use Rattle.check_spec.specs.Lists as l
use Rattle.check_spec.specs.Content as t
use Rattle.check_spec.specs.Content.{files}
use Rattle.check_spec.specs.Rows as o
use Rattle.check_spec.specs.Words as w
use Rattle.check_spec.specs.Checks as h
use Rattle.check_spec.specs.Verdicts as v
use Rattle.verdict.specs.declared.WordOrder.TheVariants.{FirstLowest}
use Rattle.cases.specs.Cases.{wire, wire_reference, whole_stage, and_reference, swapped, not_reference, early_and, wires, wire_signals, outputs}
use Rattle.cases.specs.Cases.{twelve, examples, first_input, early_or, or_reference, unobserved, two_wires, ordered, gates, inverters, many_gates}
use Rattle.cases.specs.Cases.{many_operations, refused, early_gates, care, falls_early, and_not_reference, stays_high, in_files_order, relaxed}
use Rattle.cases.specs.Cases.{retired, idle, pipelines, judged_in, judged, expected, settled_row, RowCase, row_examples}

-- ---- computed, the two long files each by itself and all others at once

pub many_gates_holds : judged many_gates ≡ expected many_gates
unfolding many_gates gates c.cells c.cell_at c.pin_count c.kind_of b.operand b.operands
    k.when_found k.own_commands k.command_table k.form_in k.pins_needed k.needed k.pins_used k.stray k.misfit k.misfit_from k.take_gate k.take_care
    k.take_element k.take_sort k.take_command k.next_at r.part_nets r.carries_data
    r.names k.role_of k.used r.nameless r.nameless_at r.nameless_from r.floor_after r.count_of r.noted r.finish r.on_next r.read_from r.read_file
    t.content_at v.refusal e.first e.judge
many_gates_holds = refl

pub many_operations_holds : judged many_operations ≡ expected many_operations
unfolding many_operations wire inverters b.operand b.operands
    k.when_found k.own_commands k.command_table k.form_in k.pins_needed k.needed k.pins_used k.stray k.misfit k.misfit_from k.take_gate k.take_care
    k.take_element k.take_sort k.take_command k.next_at r.part_nets r.carries_data
    r.names k.role_of k.used r.nameless r.nameless_at r.nameless_from r.floor_after r.count_of r.noted r.finish r.on_next r.read_from r.read_file
    t.content_at v.refusal e.first e.judge
many_operations_holds = refl

abbrev Computed : Type 0
Computed =
    (judged twelve ≡ expected twelve)
    × (judged examples ≡ expected examples)
    × (judged ordered ≡ expected ordered)
    × (judged refused ≡ expected refused)
    × (judged care ≡ expected care)
    × (judged_in FirstLowest in_files_order ≡ expected in_files_order)
    × (judged relaxed ≡ expected relaxed)
    × (judged retired ≡ expected retired)
    × (judged idle ≡ expected idle)
    × (judged pipelines ≡ expected pipelines)
    × (map (λ (x : RowCase). settled_row x.stage x.row) row_examples ≡ map (λ (x : RowCase). x.expected) row_examples)

computed : Computed
unfolding twelve examples ordered refused care in_files_order early_gates early_or or_reference unobserved two_wires falls_early and_not_reference stays_high
    relaxed retired idle pipelines row_examples wire wire_reference whole_stage and_reference swapped not_reference early_and wires wire_signals
    outputs first_input inverters b.operand b.operands
    k.when_found k.own_commands k.command_table k.form_in k.pins_needed k.needed k.pins_used k.stray k.misfit k.misfit_from k.take_gate k.take_care
    k.take_element k.take_sort k.take_command k.next_at r.part_nets r.carries_data
    r.names k.role_of k.used r.nameless r.nameless_at r.nameless_from r.floor_after r.count_of r.noted r.finish r.on_next r.read_from r.read_file
    t.content_at v.refusal e.first e.judge
    l.numbers l.select l.some l.every l.of_bits l.reaches e.sweep o.rounds o.risen o.fallen o.reaches_itself
    w.cares_for w.spelled w.names w.words w.operate w.values w.answer
    h.wrong h.incomplete h.high_and h.unobservable h.fall_incomplete h.fall_unobservable h.looped h.retired h.never_rises
    h.idle h.checks h.row_checks v.settled_bytes v.row_after t.wired
    p.registers_of p.register_count p.data_of p.ki_of p.part_drivers p.drivers p.driver_of p.all_nets x.wire_of x.times x.resolve
    q.through_gate q.opened q.is_input q.is_rail_of q.data_from q.reaches q.from_input q.sources q.reaches_itself q.highest q.level_within q.level
    q.is_ko_of q.behind q.is_loop q.circular q.uneven q.missing q.foreign q.bars q.barred
    c.cells c.cell_at c.pin_count c.set_expression c.retired_cells c.among c.is_retired c.kind_of flat_map
computed = (refl, refl, refl, refl, refl, refl, refl, refl, refl, refl, refl)

pub twelve_cases : judged twelve ≡ expected twelve
twelve_cases = computed.0

pub table_examples : judged examples ≡ expected examples
table_examples = computed.1

pub named_first : judged ordered ≡ expected ordered
named_first = computed.2

pub refused_first : judged refused ≡ expected refused
refused_first = computed.3

pub care_cases : judged care ≡ expected care
care_cases = computed.4

pub files_order_cases : judged_in FirstLowest in_files_order ≡ expected in_files_order
files_order_cases = computed.5

pub relaxed_cases : judged relaxed ≡ expected relaxed
relaxed_cases = computed.6

pub retired_cases : judged retired ≡ expected retired
retired_cases = computed.7

pub idle_cases : judged idle ≡ expected idle
idle_cases = computed.8

pub pipeline_cases : judged pipelines ≡ expected pipelines
pipeline_cases = computed.9

pub row_cases : map (λ (x : RowCase). settled_row x.stage x.row) row_examples ≡ map (λ (x : RowCase). x.expected) row_examples
row_cases = computed.10
