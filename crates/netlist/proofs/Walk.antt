-- A file is readable exactly where items are laid in it; the walk of the reader over the commands is followed once, both ways.
-- Assumes nothing.
use Rattle.std.specs.Prelude.{Option, Some, None}
use Prim.Native.Nat.{ℕ, zero, suc, ◌+◌, ◌-◌, ◌*◌, ◌^◌, ◌≤◌, ◌<◌}
use native.Mathlib.Omega.{arith}
use native.Mathlib.Nat.{mul-le-mul_left}
use mathlib.Core.Path.{◌≡◌, refl, sym, ap, ap₂, subst, ◌∙◌}
use mathlib.Core.Bool.{Bool, true, false, cond}
use mathlib.Core.List.{List, [], ◌∷◌, ◌++◌, append-nil}
use lib.ListN.{length, length-append, get_or-eq_default}
use lib.Seq.{append_snoc}
use lib.Pow.{pow_mono}
use lib.Dec.{eqb, ltb}
use borrow.Author.Tests.{lt-ltb, le-ltb, ne_eqb, ltb-false, eqb-true, eqb-false, not-false}
use Rattle.netlist.specs.Types.{File, Sort, Form, Limits, Counts, Cursor, Next, Command, Refused}
use Rattle.netlist.specs.Types.file
use Rattle.netlist.specs.Types.sort
use Rattle.netlist.specs.Bytes.{byte, operand, operands}
use Rattle.netlist.specs.Commands.{when_found, is_sort, form_of, most_parts, width, pins_used, used, stray, next_at}
use Rattle.netlist.specs.Reading.{Nets, nameless, nameless_at, nameless_from, Places, no_places, floor_after, Ascending, count_of, sorts_of, counts_of, nets_of, noted}
use Rattle.netlist.specs.Reading.{Reading, refused, readable, finish, on_next, read_from, read_file}
use Rattle.netlist.specs.Content.{coded_at}
use Rattle.netlist.specs.Writing.{form_for, width_for, operand_count, Has, Item, gate, output, care, register, element, gates_in, outputs_in, care_in, sort_of, gate_places, output_places, places_of}
use Rattle.netlist.specs.Writing.{part_places, parts_in, gates_after, nets_in}
use Rattle.netlist.specs.Read.{most_of_either, farthest}
use Rattle.netlist.proofs.Encoding.{clash, has_end, has_inputs, stage_registerless, stage_elementless, reference_registerless, reference_elementless, care_form, gate_form, inputs_form, end_form, item_form, item_width, width_inputs, width_end}
use Rattle.netlist.proofs.OneCommand.{Taken, There, there_next, next_there}
use Rattle.netlist.proofs.Laid.{Shown, ItemLaid, Laid, Named, FileLaid, wired_at, item_named, named_item, length_gate_places, length_output_places, sorts_part_places, laid_length}

-- ---- the end command

-- the tests for 8, 7 and 9 were passed
ended : (x y : Bool) (z : Option ℕ) (a b : ℕ) (p P : Places) → cond x (refused 8 a) (cond y (refused 7 b) (when_found z (refused 9) (readable p))) ≡ readable P →
    (x ≡ false) × (y ≡ false) × (z ≡ None) × (p ≡ P)
unfolding when_found
ended true y z a b p P e = absurd (clash (cc))
ended false true z a b p P e = absurd (clash (cc))
ended false false (Some r) a b p P e = absurd (clash (cc))
ended false false None a b p P e = (refl, refl, refl, cc)

-- with bytes after the end command: 8 at it where there is no output, and else 7 at the first of them
pub finish_more : (f : File) (s : List ℕ) (at : ℕ) (p : Places) → at + 1 < length s → finish f s at p ≡ cond (eqb (length p.outputs) 0) (refused 8 at) (refused 7 (at + 1))
unfolding finish
finish_more f s at p h = rw (lt-ltb (at + 1) (length s) h)

-- ---- the order of commands

pub not_first : (at : ℕ) → 1 ≤ at → eqb at 0 ≡ false
not_first at h = ne_eqb at 0 (omega arith)

pub first_inputs : (at : ℕ) → stray at sort.Inputs ≡ false → at ≡ 0
unfolding stray
first_inputs at e = eqb-true at 0 (not-false (eqb at 0) e)

-- an item stands after the inputs command and before the end command
not_end : (i : Item) → is_sort sort.End (sort_of i) ≡ false
not_end (gate c) = refl
not_end (output vs) = refl
not_end (care w) = refl
not_end (register vs) = refl
not_end (element vs) = refl

in_place : (at : ℕ) (i : Item) → 1 ≤ at → stray at (sort_of i) ≡ false
unfolding stray
in_place at (gate c) h = not_first at h
in_place at (output vs) h = not_first at h
in_place at (care w) h = not_first at h
in_place at (register vs) h = not_first at h
in_place at (element vs) h = not_first at h

-- ---- places with those of some items after them

abbrev places : ℕ → List ℕ → List ℕ → List ℕ → List (Sort × ℕ) → Places
places n gs os ws ps = record { inputs = n; gates = gs; outputs = os; care = ws; parts = ps }

abbrev added : File → ℕ → List Item → Places → Places
added f at items p =
    places p.inputs (p.gates ++ gate_places f at items) (p.outputs ++ output_places f at items) (p.care ++ care_in items) (p.parts ++ part_places f at items)

module _ (f : File) (s : List ℕ) (at : ℕ) (p : Places) where
  added_nil : added f at [] p ≡ p
  added_nil = rw (append-nil p.gates, append-nil p.outputs, append-nil p.care, append-nil p.parts)

  added_item : (i : Item) (items : List Item) → Shown f s at i → added f (at + width_for f (sort_of i)) items (noted (sort_of i) s at p) ≡ added f at (i ∷ items) p
  unfolding noted
  added_item (gate c) items h = rw (append_snoc p.gates at (gate_places f (at + width_for f sort.Gate) items))
  added_item (output vs) items h = rw (append_snoc p.outputs at (output_places f (at + width_for f sort.Output) items))
  added_item (care w) items h = rw (append_snoc p.care (operand s (at + 1)) (care_in items), h)
  added_item (register vs) items h = rw (append_snoc p.parts (sort.Register, at) (part_places f (at + width_for f sort.Register) items))
  added_item (element vs) items h = rw (append_snoc p.parts (sort.Element, at) (part_places f (at + width_for f sort.Element) items))

-- ---- care words

pub floor_snoc : (floor : ℕ) (ws : List ℕ) (w : ℕ) → floor_after floor (ws ++ (w ∷ [])) ≡ w + 1
unfolding floor_after
floor_snoc floor [] w = refl
floor_snoc floor (v ∷ ws) w = floor_snoc (v + 1) ws w

-- what the reader asks of a care command
pub care_taken : (f : File) (most : Limits) (s : List ℕ) (at : ℕ) (before : Counts) → There f most s at before sort.Care →
    (operand s (at + 1) < 2 ^ before.inputs) × (before.floor ≤ operand s (at + 1))
care_taken f most s at before t = subst (λ (form : Form). Taken f most s at before form sort.Care) (care_form f t.own) t.taken

-- ---- registers and C-elements

-- one more of a sort
pub count_snoc : (c : Sort) (ps : List (Sort × ℕ)) (d : Sort) (at : ℕ) → count_of c (sorts_of (ps ++ ((d, at) ∷ []))) ≡ count_of c (sorts_of ps) + cond (is_sort c d) 1 0
unfolding count_of
count_snoc c [] d at = go (is_sort c d)
  where
    go : (b : Bool) → cond b 1 0 ≡ 0 + cond b 1 0
    go true = refl
    go false = refl
count_snoc c (p ∷ ps) d at = go (is_sort c p.0) (count_snoc c ps d at)
  where
    go : (b : Bool) → count_of c (sorts_of (ps ++ ((d, at) ∷ []))) ≡ count_of c (sorts_of ps) + cond (is_sort c d) 1 0 →
        cond b (suc (count_of c (sorts_of (ps ++ ((d, at) ∷ []))))) (count_of c (sorts_of (ps ++ ((d, at) ∷ [])))) ≡ cond b (suc (count_of c (sorts_of ps))) (count_of c (sorts_of ps)) + cond (is_sort c d) 1 0
    go true e = omega arith
    go false e = e

-- ---- where commands stand

-- the place of a command, after the gates, outputs, care words, registers and C-elements before it, of which there are no more than there may be
pub record Near (f : File) (most : Limits) (at : ℕ) (c : Counts) : Type 0 where
  pub place : at ≤ 2 + width_for f sort.Gate * c.gates + width_for f sort.Output * c.outputs + width_for f sort.Care * c.care
      + (width_for f sort.Register * c.registers + width_for f sort.Element * c.elements)
  pub inputs_in : c.inputs ≤ most.inputs
  pub gates_in_holds : c.gates ≤ most.gates
  pub outputs_in_holds : c.outputs ≤ most.outputs
  pub care_in_holds : (c.care ≤ c.floor) × (c.floor ≤ 2 ^ most.inputs)
  pub registers_in : c.registers ≤ most_of_either f
  pub elements_in : c.elements ≤ most_of_either f

-- as many as a pipeline may have, where a file has some
pub most_parts_holds : (f : File) → most_of_either f ≤ most_parts
most_parts_holds file.Stage = omega arith
most_parts_holds file.Pipeline = omega arith
most_parts_holds file.Reference = omega arith

register_most : (f : File) → Has f sort.Register → most_of_either f ≡ most_parts
register_most file.Stage e = absurd (stage_registerless e)
register_most file.Pipeline e = refl
register_most file.Reference e = absurd (reference_registerless e)

element_most : (f : File) → Has f sort.Element → most_of_either f ≡ most_parts
element_most file.Stage e = absurd (stage_elementless e)
element_most file.Pipeline e = refl
element_most file.Reference e = absurd (reference_elementless e)

module _ (f : File) (most : Limits) where
  pub near_start : Near f most 0 (counts_of no_places)
  unfolding floor_after count_of
  near_start = record {
    place = omega arith;
    inputs_in = omega arith;
    gates_in_holds = omega arith;
    outputs_in_holds = omega arith;
    care_in_holds = omega arith;
    registers_in = omega arith;
    elements_in = omega arith;
  }

  pub near_far : {at : ℕ} {c : Counts} → Near f most at c → at + width_for f sort.Gate ≤ farthest f most
  near_far {c} h =
      let few : c.care ≤ 2 ^ most.inputs = omega (arith, h.care_in_holds) in
      omega (
        arith,
        h.place,
        mul-le-mul_left (width_for f sort.Gate) h.gates_in_holds,
        mul-le-mul_left (width_for f sort.Output) h.outputs_in_holds,
        mul-le-mul_left (width_for f sort.Care) few,
        mul-le-mul_left (width_for f sort.Register) h.registers_in,
        mul-le-mul_left (width_for f sort.Element) h.elements_in,
      )

  pub near_noted : (s : List ℕ) (at : ℕ) (p : Places) (c : Sort) → is_sort sort.End c ≡ false → Near f most at (counts_of p) → There f most s at (counts_of p) c →
      Near f most (at + width_for f c) (counts_of (noted c s at p))
  unfolding noted stray
  near_noted s at p sort.Inputs more h t = record {
    place = omega (arith, width_inputs f, first_inputs at t.ordered);
    inputs_in = t.taken.1;
    gates_in_holds = h.gates_in_holds;
    outputs_in_holds = h.outputs_in_holds;
    care_in_holds = h.care_in_holds;
    registers_in = h.registers_in;
    elements_in = h.elements_in;
  }
  near_noted s at p sort.Gate more h t =
      rw (length-append p.gates (at ∷ []))
      (record {
        place = omega (arith, h.place);
        inputs_in = h.inputs_in;
        gates_in_holds = omega (arith, t.taken.0);
        outputs_in_holds = h.outputs_in_holds;
        care_in_holds = h.care_in_holds;
        registers_in = h.registers_in;
        elements_in = h.elements_in;
      })
  near_noted s at p sort.Output more h t =
      rw (length-append p.outputs (at ∷ []))
      (record {
        place = omega (arith, h.place);
        inputs_in = h.inputs_in;
        gates_in_holds = h.gates_in_holds;
        outputs_in_holds = omega (arith, t.taken);
        care_in_holds = h.care_in_holds;
        registers_in = h.registers_in;
        elements_in = h.elements_in;
      })
  near_noted s at p sort.Care more h t =
      let w = operand s (at + 1) in
      let taken = care_taken f most s at (counts_of p) t in
      rw (length-append p.care (w ∷ []), floor_snoc 0 p.care w)
      (record {
        place = omega (arith, h.place);
        inputs_in = h.inputs_in;
        gates_in_holds = h.gates_in_holds;
        outputs_in_holds = h.outputs_in_holds;
        care_in_holds = omega (arith, h.care_in_holds, taken, pow_mono {i = p.inputs} {j = most.inputs} h.inputs_in);
        registers_in = h.registers_in;
        elements_in = h.elements_in;
      })
  near_noted s at p sort.Register more h t =
      let one : count_of sort.Register (sorts_of (p.parts ++ ((sort.Register, at) ∷ []))) ≡ count_of sort.Register (sorts_of p.parts) + 1 = count_snoc sort.Register p.parts sort.Register at in
      let none : count_of sort.Element (sorts_of (p.parts ++ ((sort.Register, at) ∷ []))) ≡ count_of sort.Element (sorts_of p.parts) + 0 = count_snoc sort.Element p.parts sort.Register at in
      rw (one, none)
      (record {
        place = omega (arith, h.place);
        inputs_in = h.inputs_in;
        gates_in_holds = h.gates_in_holds;
        outputs_in_holds = h.outputs_in_holds;
        care_in_holds = h.care_in_holds;
        registers_in = omega (arith, t.taken, register_most f t.own);
        elements_in = omega (arith, h.elements_in);
      })
  near_noted s at p sort.Element more h t =
      let one : count_of sort.Element (sorts_of (p.parts ++ ((sort.Element, at) ∷ []))) ≡ count_of sort.Element (sorts_of p.parts) + 1 = count_snoc sort.Element p.parts sort.Element at in
      let none : count_of sort.Register (sorts_of (p.parts ++ ((sort.Element, at) ∷ []))) ≡ count_of sort.Register (sorts_of p.parts) + 0 = count_snoc sort.Register p.parts sort.Element at in
      rw (one, none)
      (record {
        place = omega (arith, h.place);
        inputs_in = h.inputs_in;
        gates_in_holds = h.gates_in_holds;
        outputs_in_holds = h.outputs_in_holds;
        care_in_holds = h.care_in_holds;
        registers_in = omega (arith, h.registers_in);
        elements_in = omega (arith, t.taken.0, element_most f t.own);
      })
  near_noted s at p sort.End more h t = absurd (clash (cc))
  near_noted s at p sort.Unknown more h t = absurd (clash (let o = t.ordered in cc))

-- ---- from a readable file to its items

-- what the end command shows
pub record Ended (f : File) (most : Limits) (s : List ℕ) (p : Places) : Type 0 where
  pub gates_in_holds : length p.gates ≤ most.gates
  pub outputs_in_holds : (1 ≤ length p.outputs) × (length p.outputs ≤ most.outputs)
  pub registers_in : (counts_of p).registers ≤ most_parts
  pub elements_in : (counts_of p).elements ≤ most_parts
  pub all_named : nameless_from (length s) f (nets_of p) s 0 0 ≡ None

module _ (f : File) (most : Limits) (s : List ℕ) (P : Places) where
  -- what the walk from a position on has found, where some places stand before it
  pub record Walked (at : ℕ) (p : Places) : Type 0 where
    pub items : List Item
    pub laid : Laid f s at items
    pub same : P ≡ added f at items p
    pub care_in_holds : Ascending (2 ^ p.inputs) (floor_after 0 p.care) (care_in items)
    pub at-end : Ended f most s P

  -- a reading that goes on from later places finds what stands there
  abbrev Walks : (ℕ → Places → Reading) → Type 0
  Walks go = (at : ℕ) (p : Places) → 1 ≤ at → Near f most at (counts_of p) → go at p ≡ readable P → Walked at p

  module _ (go : ℕ → Places → Reading) (later : Walks go) (at : ℕ) (p : Places) (further : 1 ≤ at) (near : Near f most at (counts_of p)) where
    -- an item was read, and what follows it
    walked_item : (i : Item) → There f most s at (counts_of p) (sort_of i) → Shown f s at i →
        ((ws : List ℕ) → Ascending (2 ^ (noted (sort_of i) s at p).inputs) (floor_after 0 (noted (sort_of i) s at p).care) ws →
        Ascending (2 ^ p.inputs) (floor_after 0 p.care) (care_in (i ∷ []) ++ ws)) →
        go (at + width_for f (sort_of i)) (noted (sort_of i) s at p) ≡ readable P → Walked at p
    walked_item i t shown rises e =
        let w = later (at + width_for f (sort_of i)) (noted (sort_of i) s at p) (omega arith) (near_noted f most s at p (sort_of i) (not_end i) near t) e in
        record {
          items = i ∷ w.items;
          laid = (record { has = t.own; command = t.command; room = t.room; shown = shown }, w.laid);
          same = w.same ∙ added_item f s at p i w.items shown;
          care_in_holds = more i w.items (rises (care_in w.items) w.care_in_holds);
          at-end = w.at-end;
        }
      where
        more : (i : Item) (items : List Item) → Ascending (2 ^ p.inputs) (floor_after 0 p.care) (care_in (i ∷ []) ++ care_in items) →
            Ascending (2 ^ p.inputs) (floor_after 0 p.care) (care_in (i ∷ items))
        more (gate c) items h = h
        more (output vs) items h = h
        more (care w) items h = h
        more (register vs) items h = h
        more (element vs) items h = h

    walked_command : (c : Sort) (next : Cursor) → next.at ≡ at + width_for f c → There f most s at (counts_of p) c → on_next go f s at p (Command c next) ≡ readable P → Walked at p
    unfolding on_next finish stray noted
    walked_command sort.Inputs next a t e = absurd (omega (arith, first_inputs at t.ordered))
    walked_command sort.Gate next a t e =
        walked_item (gate (coded_at f s at)) t (record { content = refl; known = t.taken.1; fits = rw (gate_form f) at t.taken.2 }) (λ ws h. h) (rw a at e)
    walked_command sort.Output next a t e = walked_item (output (wired_at f s at)) t refl (λ ws h. h) (rw a at e)
    walked_command sort.Care next a t e =
        let taken = care_taken f most s at (counts_of p) t in
        walked_item (care (operand s (at + 1))) t refl (λ ws h. (taken.1, taken.0, rw (floor_snoc 0 p.care (operand s (at + 1))) at h)) (rw a at e)
    walked_command sort.Register next a t e = walked_item (register (operands s (at + 1) (operand_count f sort.Register))) t refl (λ ws h. h) (rw a at e)
    walked_command sort.Element next a t e =
        walked_item (element (operands s (at + 1) (pins_used s (at + 1)))) t (record { content = refl; fits = rw (item_form f (element []) t.own) at t.taken.1 }) (λ ws h. h) (rw a at e)
    walked_command sort.End next a t e =
        let d = ended (eqb (length p.outputs) 0) (ltb (at + 1) (length s)) (nameless_from (length s) f (nets_of p) s 0 0) at (at + 1) p P e in
        let some = eqb-false (length p.outputs) 0 d.0 in
        record {
          items = [];
          laid = record { command = t.command; last = omega (arith, t.room, width_end f, ltb-false (at + 1) (length s) d.1) };
          same = sym (added_nil f s at p ∙ d.3);
          care_in_holds = tt;
          at-end = rw d.3 at (let x : Ended f most s p = record { gates_in_holds = near.gates_in_holds; outputs_in_holds = (omega arith, near.outputs_in_holds); registers_in = omega (arith, near.registers_in, most_parts_holds f); elements_in = omega (arith, near.elements_in, most_parts_holds f); all_named = d.2 } in x);
        }
    walked_command sort.Unknown next a t e = absurd (clash (let o = t.ordered in cc))

  walked : (fuel : ℕ) → Walks (read_from fuel f most s)
  unfolding read_from on_next
  walked zero at p further near e = absurd (clash (cc))
  walked (suc fuel) at p further near e = go (walked fuel) (next_at f most s at (counts_of p)) refl e
    where
      go : Walks (read_from fuel f most s) → (x : Next) → next_at f most s at (counts_of p) ≡ x → on_next (read_from fuel f most s) f s at p x ≡ readable P → Walked at p
      go later (Refused number place) is q = absurd (clash (cc))
      go later (Command c next) is q =
          let t = next_there f most s at (counts_of p) c next is in
          walked_command (read_from fuel f most s) later at p further near c next t.0 t.1 q

  -- the first command is the count of inputs
  abbrev Started : Type 0
  Started = There f most s 0 (counts_of no_places) sort.Inputs × Walked 2 (places (byte s 1) [] [] [] [])

  started : read_file f most s ≡ readable P → Started
  unfolding read_file read_from on_next stray noted
  started e = go (next_at f most s 0 (counts_of no_places)) refl e
    where
      first : (c : Sort) (next : Cursor) → next.at ≡ 0 + width_for f c → There f most s 0 (counts_of no_places) c →
          on_next (read_from (length s) f most s) f s 0 no_places (Command c next) ≡ readable P → Started
      first sort.Inputs next a t q =
          let two : 0 + width_for f sort.Inputs ≡ 2 = omega (arith, width_inputs f) in
          let near = rw two at (near_noted f most s 0 no_places sort.Inputs refl (near_start f most) t) in
          (t, walked (length s) 2 (places (byte s 1) [] [] [] []) (omega arith) near (rw (a, two) at q))
      first sort.Gate next a t q = absurd (clash (let o = t.ordered in cc))
      first sort.Output next a t q = absurd (clash (let o = t.ordered in cc))
      first sort.Care next a t q = absurd (clash (let o = t.ordered in cc))
      first sort.Register next a t q = absurd (clash (let o = t.ordered in cc))
      first sort.Element next a t q = absurd (clash (let o = t.ordered in cc))
      first sort.End next a t q = absurd (clash (let o = t.ordered in cc))
      first sort.Unknown next a t q = absurd (clash (let o = t.ordered in cc))

      go : (x : Next) → next_at f most s 0 (counts_of no_places) ≡ x → on_next (read_from (length s) f most s) f s 0 no_places x ≡ readable P → Started
      go (Refused number place) is q = absurd (clash (cc))
      go (Command c next) is q = let t = next_there f most s 0 (counts_of no_places) c next is in first c next t.0 t.1 q

-- ---- 9, along the items

or_later : (x later : Option ℕ) → when_found x Some later ≡ None → (x ≡ None) × (later ≡ None)
unfolding when_found
or_later (Some p) later e = absurd (clash (cc))
or_later None later e = (refl, e)

module _ (f : File) (N : Nets) (s : List ℕ) (fuel at k : ℕ) where
  -- the search at one command, by its row
  step : Form → Option ℕ
  step form = when_found (nameless_at f N s at k form) Some (nameless_from fuel f N s (at + width form) (cond (is_sort sort.Gate form.sort) (suc k) k))

  step_item : {i : Item} → ItemLaid f s at i → nameless_from (suc fuel) f N s at k
      ≡ when_found (nameless_at f N s at k (form_for f (sort_of i))) Some (nameless_from fuel f N s (at + width_for f (sort_of i)) (gates_after k i))
  unfolding nameless_from step
  step_item {i} h =
      ap step h.command
      ∙ ap (λ (c : Sort). when_found (nameless_at f N s at k (form_for f (sort_of i))) Some (nameless_from fuel f N s (at + width_for f (sort_of i)) (cond (is_sort sort.Gate c) (suc k) k))) h.has

  step_inputs : form_of f (byte s at) ≡ form_for f sort.Inputs → nameless_from (suc fuel) f N s at k ≡ nameless_from fuel f N s (at + 2) k
  unfolding nameless_from nameless_at used step nameless when_found
  step_inputs e = ap step (e ∙ inputs_form f)

  step_end : form_of f (byte s at) ≡ form_for f sort.End → nameless_from (suc fuel) f N s at k ≡ nameless_from fuel f N s (at + 1) k
  unfolding nameless_from nameless_at used step nameless when_found
  step_end e = ap step (e ∙ end_form f)

-- past the last byte nothing is found
pub nameless_past : (f : File) (N : Nets) (s : List ℕ) (fuel at k : ℕ) → length s ≤ at → nameless_from fuel f N s at k ≡ None
unfolding nameless_from
nameless_past f N s zero at k h = refl
nameless_past f N s (suc fuel) at k h =
    step_end f N s fuel at k (ap (form_of f) (get_or-eq_default s 0 h)) ∙ nameless_past f N s fuel (at + 1) k (omega arith)

module _ (f : File) (N : Nets) (s : List ℕ) where
  -- the test for 9 finds nothing exactly where each operand names what it has to name
  named-walk : (fuel at k : ℕ) (items : List Item) → Laid f s at items → length s ≤ at + fuel → nameless_from fuel f N s at k ≡ None → Named f N k items
  named-walk fuel at k [] h l e = tt
  named-walk zero at k (i ∷ items) h l e = absurd (omega (arith, h.0.room, item_width f i h.0.has))
  named-walk (suc fuel) at k (i ∷ items) h l e =
      let d = or_later _ _ (sym (step_item f N s fuel at k h.0) ∙ e) in
      (item_named N k h.0 d.0, named-walk fuel (at + width_for f (sort_of i)) (gates_after k i) items h.1 (omega (arith, item_width f i h.0.has)) d.1)

  walk_named : (fuel at k : ℕ) (items : List Item) → Laid f s at items → Named f N k items → nameless_from fuel f N s at k ≡ None
  unfolding nameless_from when_found
  walk_named zero at k items h m = refl
  walk_named (suc fuel) at k [] h m = step_end f N s fuel at k h.command ∙ nameless_past f N s fuel (at + 1) k (omega (arith, h.last))
  walk_named (suc fuel) at k (i ∷ items) h m =
      step_item f N s fuel at k h.0 ∙ rw (named_item N k h.0 m.0) (walk_named fuel (at + width_for f (sort_of i)) (gates_after k i) items h.1 m.1)

-- ---- from items to a readable file

-- with some items after some places there are no more gates and outputs than there may be, and the care words rise
pub record Few (most : Limits) (p : Places) (items : List Item) : Type 0 where
  pub gates_in_holds : length p.gates + length (gates_in items) ≤ most.gates
  pub outputs_in_holds : length p.outputs + length (outputs_in items) ≤ most.outputs
  pub care_in_holds : Ascending (2 ^ p.inputs) (floor_after 0 p.care) (care_in items)
  pub registers_in : count_of sort.Register (sorts_of p.parts) + count_of sort.Register (parts_in items) ≤ most_parts
  pub elements_in : count_of sort.Element (sorts_of p.parts) + count_of sort.Element (parts_in items) ≤ most_parts

-- so that the reader takes the first of them
few_taken : {f : File} {most : Limits} {s : List ℕ} {at : ℕ} {p : Places} (i : Item) (items : List Item) → ItemLaid f s at i → Few most p (i ∷ items) →
    Taken f most s at (counts_of p) (form_for f (sort_of i)) (sort_of i) × Few most (noted (sort_of i) s at p) items
unfolding noted count_of
few_taken {f} {at = at} {p = p} (gate c) items h few =
    let more = length-append p.gates (at ∷ []) in (
      (omega (arith, few.gates_in_holds), h.shown.known, rw (gate_form f) h.shown.fits),
      record { gates_in_holds = omega (arith, few.gates_in_holds, more); outputs_in_holds = few.outputs_in_holds; care_in_holds = few.care_in_holds; registers_in = few.registers_in; elements_in = few.elements_in },
    )
few_taken {at = at} {p = p} (output vs) items h few =
    let more = length-append p.outputs (at ∷ []) in (
      omega (arith, few.outputs_in_holds),
      record { gates_in_holds = few.gates_in_holds; outputs_in_holds = omega (arith, few.outputs_in_holds, more); care_in_holds = few.care_in_holds; registers_in = few.registers_in; elements_in = few.elements_in },
    )
few_taken {f} {s = s} {at = at} {p = p} (care w) items h few = (
  rw (care_form f h.has, h.shown) (few.care_in_holds.1, few.care_in_holds.0),
  record {
    gates_in_holds = few.gates_in_holds;
    outputs_in_holds = few.outputs_in_holds;
    care_in_holds = rw (← h.shown, ← floor_snoc 0 p.care (operand s (at + 1))) at few.care_in_holds.2;
    registers_in = few.registers_in;
    elements_in = few.elements_in;
  },
)
few_taken {at = at} {p = p} (register vs) items h few =
    let one : count_of sort.Register (sorts_of (p.parts ++ ((sort.Register, at) ∷ []))) ≡ count_of sort.Register (sorts_of p.parts) + 1 = count_snoc sort.Register p.parts sort.Register at in
    let none : count_of sort.Element (sorts_of (p.parts ++ ((sort.Register, at) ∷ []))) ≡ count_of sort.Element (sorts_of p.parts) + 0 = count_snoc sort.Element p.parts sort.Register at in (
      omega (arith, few.registers_in),
      record {
        gates_in_holds = few.gates_in_holds;
        outputs_in_holds = few.outputs_in_holds;
        care_in_holds = few.care_in_holds;
        registers_in = rw one (omega (arith, few.registers_in));
        elements_in = rw none (omega (arith, few.elements_in));
      },
    )
few_taken {f} {at = at} {p = p} (element vs) items h few =
    let one : count_of sort.Element (sorts_of (p.parts ++ ((sort.Element, at) ∷ []))) ≡ count_of sort.Element (sorts_of p.parts) + 1 = count_snoc sort.Element p.parts sort.Element at in
    let none : count_of sort.Register (sorts_of (p.parts ++ ((sort.Element, at) ∷ []))) ≡ count_of sort.Register (sorts_of p.parts) + 0 = count_snoc sort.Register p.parts sort.Element at in (
      (omega (arith, few.elements_in), rw (item_form f (element []) h.has) h.shown.fits),
      record {
        gates_in_holds = few.gates_in_holds;
        outputs_in_holds = few.outputs_in_holds;
        care_in_holds = few.care_in_holds;
        registers_in = rw none (omega (arith, few.registers_in));
        elements_in = rw one (omega (arith, few.elements_in));
      },
    )

module _ (f : File) (most : Limits) (s : List ℕ) (last : ℕ) (ends : length s ≡ last + 1) where
  -- the walk over the items comes to the end command, the last byte
  walk_laid : (fuel at : ℕ) (p : Places) (items : List Item) → Laid f s at items → 1 ≤ at → length s < at + fuel → Few most p items →
      read_from fuel f most s at p ≡ finish f s last (added f at items p)
  unfolding read_from on_next stray
  walk_laid zero at p [] h i l few = absurd (omega (arith, h.last))
  walk_laid zero at p (x ∷ items) h i l few = absurd (omega (arith, h.0.room, item_width f x h.0.has))
  walk_laid (suc fuel) at p [] h i l few =
      let e : at ≡ last = omega (arith, h.last) in
      let t : There f most s at (counts_of p) sort.End = record {
        own = has_end f;
        command = h.command;
        ordered = not_first at i;
        room = omega (arith, h.last, width_end f);
        taken = tt;
      } in
      rw (there_next f most s at (counts_of p) sort.End t) (ap₂ (finish f s) e (sym (added_nil f s at p)))
  walk_laid (suc fuel) at p (x ∷ items) h i l few =
      let t = few_taken x items h.0 few in
      rw (
        there_next f most s at (counts_of p) (sort_of x) (record {
          own = h.0.has;
          command = h.0.command;
          ordered = in_place at x i;
          room = h.0.room;
          taken = t.0;
        }),
        not_end x,
      )
      (walk_laid fuel (at + width_for f (sort_of x)) (noted (sort_of x) s at p) items h.1 (omega arith) (omega (arith, item_width f x h.0.has)) t.1
      ∙ ap (finish f s last) (added_item f s at p x items h.0.shown))

  finish_readable : (p : Places) → 1 ≤ length p.outputs → nameless_from (length s) f (nets_of p) s 0 0 ≡ None → finish f s last p ≡ readable p
  unfolding finish when_found
  finish_readable p some all = rw (ne_eqb (length p.outputs) 0 (omega arith), le-ltb (last + 1) (length s) (omega arith), all)

-- ---- the whole file

-- the nets of the places are those of the items
pub nets_places : (f : File) (n : ℕ) (items : List Item) → nets_of (places_of f n items) ≡ nets_in n items
nets_places f n items =
    ap₂ (λ (g : ℕ) (ps : List Sort). record { inputs = n; gates = g; parts = ps }) (length_gate_places f 2 items) (sorts_part_places f 2 items)

module _ (f : File) (most : Limits) (s : List ℕ) where
  -- the test for 9 starts after the inputs command
  past_inputs : (N : Nets) → 2 ≤ length s → form_of f (byte s 0) ≡ form_for f sort.Inputs → nameless_from (length s) f N s 0 0 ≡ nameless_from (length s - 1) f N s 2 0
  past_inputs N l e =
      let p : length s ≡ suc (length s - 1) = omega arith in
      ap (λ (k : ℕ). nameless_from k f N s 0 0) p ∙ step_inputs f N s (length s - 1) 0 0 e

  -- the items of a readable file
  pub record LaidItems (p : Places) : Type 0 where
    pub items : List Item
    pub file_laid : FileLaid f most s p.inputs items
    pub item_places_holds : p ≡ places_of f p.inputs items

  pub readable_laid : (p : Places) → read_file f most s ≡ readable p → LaidItems p
  unfolding floor_after
  readable_laid p e =
      let r = started f most s p e in
      let t = r.0 in
      let w = r.1 in
      let n : p.inputs ≡ byte s 1 = ap (λ (x : Places). x.inputs) w.same in
      let same : p ≡ places_of f p.inputs w.items = w.same ∙ ap (λ (m : ℕ). places_of f m w.items) (sym n) in
      let g : length p.gates ≡ length (gates_in w.items) = ap (λ (x : Places). length x.gates) w.same ∙ length_gate_places f 2 w.items in
      let o : length p.outputs ≡ length (outputs_in w.items) = ap (λ (x : Places). length x.outputs) w.same ∙ length_output_places f 2 w.items in
      let room : 2 ≤ length s = omega (arith, t.room, width_inputs f) in
      let nets : nets_of p ≡ nets_in p.inputs w.items = ap nets_of same ∙ nets_places f p.inputs w.items in
      let none = rw nets at (sym (past_inputs (nets_of p) room t.command) ∙ w.at-end.all_named) in
      record {
        items = w.items;
        file_laid = record {
          command = t.command;
          count = sym n;
          inputs_in = rw n t.taken;
          gates_in_holds = omega (arith, w.at-end.gates_in_holds);
          care_in_holds = subst (λ (m : ℕ). Ascending (2 ^ m) 0 (care_in w.items)) (sym n) w.care_in_holds;
          registers_in = omega (arith, w.at-end.registers_in, ap (λ (N : Nets). count_of sort.Register N.parts) nets);
          elements_in = omega (arith, w.at-end.elements_in, ap (λ (N : Nets). count_of sort.Element N.parts) nets);
          outputs_in_holds = omega (arith, w.at-end.outputs_in_holds);
          laid = w.laid;
          named = named-walk f (nets_in p.inputs w.items) s (length s - 1) 2 0 w.items w.laid (omega arith) none;
        };
        item_places_holds = same;
      }

  -- and a file with items is readable
  pub laid_readable : (n : ℕ) (items : List Item) → FileLaid f most s n items → read_file f most s ≡ readable (places_of f n items)
  unfolding read_file read_from on_next noted stray floor_after count_of
  laid_readable n items h =
      let size = laid_length f s 2 items h.laid in
      let two : 0 + width_for f sort.Inputs ≡ 2 = omega (arith, width_inputs f) in
      let p = places_of f n items in
      let last : ℕ = length s - 1 in
      let ends : length s ≡ last + 1 = omega arith in
      let few : Few most (places n [] [] [] []) items = record { gates_in_holds = omega (arith, h.gates_in_holds); outputs_in_holds = omega (arith, h.outputs_in_holds); care_in_holds = h.care_in_holds; registers_in = omega (arith, h.registers_in); elements_in = omega (arith, h.elements_in) } in
      let t : There f most s 0 (counts_of no_places) sort.Inputs = record { own = has_inputs f; command = h.command; ordered = refl; room = omega (arith, width_inputs f); taken = rw h.count h.inputs_in } in
      rw (there_next f most s 0 (counts_of no_places) sort.Inputs t)
      (ap₂ (λ (at m : ℕ). read_from (length s) f most s at (places m [] [] [] [])) two h.count
      ∙ walk_laid f most s last ends (length s) 2 (places n [] [] [] []) items h.laid (omega arith) (omega arith) few
      ∙ finish_readable f most s last ends p (omega (arith, length_output_places f 2 items, h.outputs_in_holds))
      (rw (nets_places f n items) (past_inputs (nets_in n items) (omega arith) h.command ∙ walk_named f (nets_in n items) s (length s - 1) 2 0 items h.laid h.named)))
