-- The definitions tried on files: the first of the family, the first with two inputs, the last of all, and files that are none of it.
-- Assumes nothing.
use Prim.Native.Nat.{ℕ, ◌≤◌}
use native.Mathlib.Omega.{arith}
use mathlib.Core.Path.{◌≡◌, refl, sym, ap, subst, ◌∙◌}
use mathlib.Core.Bool.{true, false}
use mathlib.Core.List.{List, [], ◌∷◌}
use lib.ListN.{length}
use Rattle.gates.specs.Cell.{cells, cell_at, pin_count, kind_of}
use Rattle.netlist.specs.declared.File.TheVariants.{Stage}
use Rattle.netlist.specs.Bytes.{operand, operands}
use Rattle.netlist.specs.Commands as k
use Rattle.netlist.specs.Reading as r
use Rattle.netlist.specs.Reading.{stage_limits}
use Rattle.verdict.specs.FourNumbers.{verdict}
use Rattle.verdict.specs.Written.{refuse, write_or}
use Rattle.check_spec.specs.Lists.{some, reaches}
use Rattle.check_spec.specs.Content.{content_at, content_of}
use Rattle.check_spec.specs.Rows.{reaches_itself}
use Rattle.check_spec.specs.Verdicts.{refusal, reading}
use Rattle.check_spec.specs.Demands.{Pass}
use Rattle.next_spec.specs.Numbered.{lists, stage_numbered}
use Rattle.next_spec.specs.Listing.{InShape, free, loop_free_from, shapes, listing, Listed, onward}
use Rattle.next_spec.specs.Family.{Small, file_of, Member, NextIs, outside, last, next}
use Rattle.next_spec.proofs.Bytes.{list_bytes}
use Rattle.next_spec.proofs.Less.{stage_bytes}
use Rattle.next_spec.proofs.Onward.{zero_free, stages_some, onward_free, onward_start, place_in_listing}
use Rattle.next_spec.proofs.Walks.{next-first, next_listed, none_listed}

-- ---- the files

-- one input, no gate, both rails of the output on net 0
abbrev first_file : List ℕ
first_file = 0x01 ∷ 0x01 ∷ 0x03 ∷ 0x00 ∷ 0x00 ∷ 0x00 ∷ 0x00 ∷ 0x00 ∷ []

-- one input, TH22(3, 3), TH22(1, 1), both rails on net 3
abbrev last_of_one : List ℕ
last_of_one =
    0x01 ∷ 0x01 ∷ 0x02 ∷ 0x02 ∷ 0x03 ∷ 0x00 ∷ 0x03 ∷ 0x00 ∷ 0xFF ∷ 0xFF ∷ 0xFF ∷ 0xFF ∷
    0x02 ∷ 0x02 ∷ 0x01 ∷ 0x00 ∷ 0x01 ∷ 0x00 ∷ 0xFF ∷ 0xFF ∷ 0xFF ∷ 0xFF ∷ 0x03 ∷ 0x03 ∷ 0x00 ∷ 0x03 ∷ 0x00 ∷ 0x00 ∷ []

-- two inputs, no gate, both rails on net 0
abbrev first_of_two : List ℕ
first_of_two = 0x01 ∷ 0x02 ∷ 0x03 ∷ 0x00 ∷ 0x00 ∷ 0x00 ∷ 0x00 ∷ 0x00 ∷ []

-- two inputs, TH22(5, 5), TH22(3, 3), both rails on net 5
abbrev last_file : List ℕ
last_file =
    0x01 ∷ 0x02 ∷ 0x02 ∷ 0x02 ∷ 0x05 ∷ 0x00 ∷ 0x05 ∷ 0x00 ∷ 0xFF ∷ 0xFF ∷ 0xFF ∷ 0xFF ∷
    0x02 ∷ 0x02 ∷ 0x03 ∷ 0x00 ∷ 0x03 ∷ 0x00 ∷ 0xFF ∷ 0xFF ∷ 0xFF ∷ 0xFF ∷ 0x03 ∷ 0x05 ∷ 0x00 ∷ 0x05 ∷ 0x00 ∷ 0x00 ∷ []

-- ---- their numbers

first-bytes : file_of (stage_numbered 1 0 0) ≡ first_file
unfolding list_bytes
first-bytes = stage_bytes 1 0 0

last_of_one_bytes : file_of (stage_numbered 1 2 16223) ≡ last_of_one
unfolding list_bytes lists
last_of_one_bytes = stage_bytes 1 2 16223

first-of_two_bytes : file_of (stage_numbered 2 0 0) ≡ first_of_two
unfolding list_bytes
first-of_two_bytes = stage_bytes 2 0 0

last_bytes : file_of (stage_numbered 2 2 186119) ≡ last_file
unfolding list_bytes lists
last_bytes = stage_bytes 2 2 186119

in_shape : (n g : ℕ) → 1 ≤ n → n ≤ 2 → g ≤ 2 → InShape n g
in_shape n g a b c = record { inputs_in = (a, b); gates_in_holds = c }

last_of_one_listed : Listed 1 2 16223
unfolding free lists
last_of_one_listed = record { shaped = in_shape 1 2 (omega arith) (omega arith) (omega arith); below = omega arith; loop_free = refl }

last_listed : Listed 2 2 186119
unfolding free lists
last_listed = record { shaped = in_shape 2 2 (omega arith) (omega arith) (omega arith); below = omega arith; loop_free = refl }

-- the first of a shape, in the list from that shape on
first_on : (n g : ℕ) → InShape n g → onward n g 0 ≡ stage_numbered n g 0 ∷ onward n g 1
first_on n g i = onward_free n g 0 (stages_some n g i) (zero_free n g i)

-- after the last of one input stand those of two inputs, and after the last of all stands none
after_one : onward 1 2 16224 ≡ stage_numbered 2 0 0 ∷ onward 2 0 1
unfolding onward loop_free_from free lists
after_one =
    let i = in_shape 2 0 (omega arith) (omega arith) (omega arith) in
    onward_start 2 0 i ∙ first_on 2 0 i

after-all : onward 2 2 186120 ≡ []
unfolding onward loop_free_from free lists shapes
after-all = refl

-- ---- what the call gives

module _ (buffer : List ℕ) where
  -- after the empty file comes the first, or 38 where there is no room
  empty_file : NextIs [] buffer (write_or (verdict 38 3 0 0) first_file buffer)
  unfolding listing
  empty_file =
      let i = in_shape 1 0 (omega arith) (omega arith) (omega arith) in
      rw (← first-bytes) (next (stage_numbered 1 0 0) (next-first [] refl (stage_numbered 1 0 0) (onward 1 0 1) (onward_start 1 0 i ∙ first_on 1 0 i)))

  -- after the last with one input comes the first with two
  two_inputs : NextIs last_of_one buffer (write_or (verdict 38 3 0 0) first_of_two buffer)
  two_inputs =
      let a = place_in_listing 1 2 16223 last_of_one_listed in
      rw (← last_of_one_bytes, ← first-of_two_bytes)
      (next (stage_numbered 2 0 0) (next_listed a.0 (stage_numbered 1 2 16223) (onward 1 2 16224) a.1 (stage_numbered 2 0 0) (onward 2 0 1) after_one))

  -- after the last comes none, whatever the buffer
  none_further : NextIs last_file buffer (refuse (verdict 36 1 0 0) buffer)
  none_further =
      let a = place_in_listing 2 2 186119 last_listed in
      rw (← last_bytes) (last (none_listed a.0 (stage_numbered 2 2 186119) (onward 2 2 186120) a.1 after-all))

-- ---- files that are none of the family

-- the whole case of document 01, which has a gate of kind 26
abbrev whole_case : List ℕ
whole_case =
    0x01 ∷ 0x02 ∷ 0x02 ∷ 0x02 ∷ 0x01 ∷ 0x00 ∷ 0x03 ∷ 0x00 ∷ 0xFF ∷ 0xFF ∷ 0xFF ∷ 0xFF ∷
    0x02 ∷ 0x1A ∷ 0x00 ∷ 0x00 ∷ 0x02 ∷ 0x00 ∷ 0x01 ∷ 0x00 ∷ 0x03 ∷ 0x00 ∷ 0x03 ∷ 0x05 ∷ 0x00 ∷ 0x04 ∷ 0x00 ∷ 0x00 ∷ []

-- a wire and TH12(2, 0), whose pin A is on its own net
abbrev own_pin : List ℕ
own_pin =
    0x01 ∷ 0x01 ∷ 0x02 ∷ 0x01 ∷ 0x02 ∷ 0x00 ∷ 0x00 ∷ 0x00 ∷ 0xFF ∷ 0xFF ∷ 0xFF ∷ 0xFF ∷
    0x03 ∷ 0x00 ∷ 0x00 ∷ 0x01 ∷ 0x00 ∷ 0x00 ∷ []

-- a file that ends in a command
abbrev cut : List ℕ
cut = 0x01 ∷ []

-- a file of the family reads, and its stage is small
member_reads : (s : List ℕ) → Member s → Pass (reading Stage stage_limits s) × Small (content_of Stage stage_limits s)
member_reads s (c, i, e) = rw e (i.reads, subst Small (sym i.reads_as) i.small)

whole-not_small : Small (content_of Stage stage_limits whole_case) → ⊥
unfolding content_at cells cell_at pin_count kind_of operand operands k.when_found k.own_commands k.command_table k.form_in k.pins_needed k.needed k.stray k.misfit
    k.misfit_from k.take_gate k.take_care k.take_sort k.take_command k.next_at r.names k.role_of k.used r.nameless r.nameless_at r.nameless_from r.floor_after
    r.noted r.finish r.on_next r.read_from r.read_file
whole-not_small h = let l : 26 ≤ 2 = h.kinds_in.1.0.1 in omega arith

own_pin_not_small : Small (content_of Stage stage_limits own_pin) → ⊥
unfolding content_at cells cell_at pin_count kind_of operand operands k.when_found k.own_commands k.command_table k.form_in k.pins_needed k.needed k.stray k.misfit
    k.misfit_from k.take_gate k.take_care k.take_sort k.take_command k.next_at r.names k.role_of k.used r.nameless r.nameless_at r.nameless_from r.floor_after
    r.noted r.finish r.on_next r.read_from r.read_file reaches_itself reaches some
own_pin_not_small h =
    let e : true ≡ false = h.no_loop 2 (omega arith, omega arith) in
    let z : ◌≡◌ {A = ℕ} 0 1 = cc in
    omega arith

cut_not_read : Pass (reading Stage stage_limits cut) → ⊥
unfolding cells cell_at pin_count kind_of operand operands k.when_found k.own_commands k.command_table k.form_in k.pins_needed k.needed k.stray k.misfit
    k.misfit_from k.take_gate k.take_care k.take_sort k.take_command k.next_at r.names k.role_of k.used r.nameless r.nameless_at r.nameless_from r.floor_after
    r.noted r.finish r.on_next r.read_from r.read_file refusal
cut_not_read p = let e : true ≡ false = p.0 in let z : ◌≡◌ {A = ℕ} 0 1 = cc in omega arith

module _ (buffer : List ℕ) where
  -- another kind, a loop, and a file that does not read: 37, whatever the buffer
  another_kind : NextIs whole_case buffer (refuse (verdict 37 1 0 0) buffer)
  another_kind = outside (λ e. omega (arith, ap (length {A = ℕ}) e)) (λ m. whole-not_small (member_reads whole_case m).1)

  a_loop : NextIs own_pin buffer (refuse (verdict 37 1 0 0) buffer)
  a_loop = outside (λ e. omega (arith, ap (length {A = ℕ}) e)) (λ m. own_pin_not_small (member_reads own_pin m).1)

  not_readable : NextIs cut buffer (refuse (verdict 37 1 0 0) buffer)
  not_readable = outside (λ e. omega (arith, ap (length {A = ℕ}) e)) (λ m. cut_not_read (member_reads cut m).0)
