-- Items that stand in a file from a place on, as the reader finds them: no bound on the elements of the file is asked.
-- Assumes nothing.
use Rattle.std.specs.Prelude.{None}
use Prim.Native.Nat.{ℕ, suc, ◌+◌, ◌*◌, ◌^◌, ◌≤◌, ◌<◌}
use native.Mathlib.Omega.{arith}
use mathlib.Core.Path.{◌≡◌, refl, sym, ap, ap₂, ◌∙◌}
use mathlib.Core.Bool.{false}
use mathlib.Core.List.{List, [], ◌∷◌, map}
use lib.ListN.{length}
use Rattle.netlist.specs.Types.{File, Sort, Form, Limits}
use Rattle.netlist.specs.Types.sort
use Rattle.netlist.specs.Bytes.{byte, operand, operands, absent}
use Rattle.netlist.specs.Commands.{as_form, form_of, most_parts, needed, pins_used, used, misfit, misfit_from}
use Rattle.netlist.specs.Reading.{Nets, asked, nameless, nameless_at, Ascending, count_of, sorts_of}
use Rattle.netlist.specs.Content.{Coded, coded_at}
use Rattle.netlist.specs.Writing.{form_for, width_for, operand_count, Has, Item, gate, output, care, register, element, gates_in, outputs_in, care_in, sort_of, codes_of, operands_of}
use Rattle.netlist.specs.Writing.{gate_places, output_places, part_places, parts_in, EachFrom, gates_after, nets_in}
use Rattle.netlist.proofs.Operands.{length_operands, misfit_none, needed_there, bare_absent, nameless_named, named_nameless}
use Rattle.netlist.proofs.Encoding.{care_form, item_form, needed_in}

-- the operands of an output command at a place
abbrev pub wired_at : File → List ℕ → ℕ → List ℕ
wired_at f s p = operands s (p + 1) (operand_count f sort.Output)

-- a gate of a known code, with FFFF exactly at the operands that it does not need
pub record GateShown (f : File) (s : List ℕ) (at : ℕ) (c : Coded) : Type 0 where
  pub content : coded_at f s at ≡ c
  pub known : 1 ≤ needed f (byte s (at + 1))
  pub fits : misfit_from (needed f (byte s (at + 1))) 0 s (at + 2) (operand_count f sort.Gate) ≡ None

-- a C-element, with FFFF exactly at the pins that it does not use
pub record ElementShown (f : File) (s : List ℕ) (at : ℕ) (vs : List ℕ) : Type 0 where
  pub content : operands s (at + 1) (pins_used s (at + 1)) ≡ vs
  pub fits : misfit_from (pins_used s (at + 1)) 0 s (at + 1) (operand_count f sort.Element) ≡ None

-- what an item's command shows
abbrev pub Shown : File → List ℕ → ℕ → Item → Type 0
Shown f s at (gate c) = GateShown f s at c
Shown f s at (output vs) = wired_at f s at ≡ vs
Shown f s at (care w) = operand s (at + 1) ≡ w
Shown f s at (register vs) = operands s (at + 1) (operand_count f sort.Register) ≡ vs
Shown f s at (element vs) = ElementShown f s at vs

-- a command of the file, with all of its bytes, that shows an item
pub record ItemLaid (f : File) (s : List ℕ) (at : ℕ) (i : Item) : Type 0 where
  pub has : Has f (sort_of i)
  pub command : form_of f (byte s at) ≡ form_for f (sort_of i)
  pub room : at + width_for f (sort_of i) ≤ length s
  pub shown : Shown f s at i

-- ---- gates

module _ {f : File} {s : List ℕ} {at : ℕ} {c : Coded} (h : GateShown f s at c) where
  pub laid_code : byte s (at + 1) ≡ c.code
  laid_code = ap (λ (x : Coded). x.code) h.content

  pub laid_operands : operands s (at + 2) (needed f (byte s (at + 1))) ≡ c.operands
  laid_operands = ap (λ (x : Coded). x.operands) h.content

  fit_at : (j : ℕ) → j < operand_count f sort.Gate → misfit (needed f (byte s (at + 1))) j (operand s (at + 2 + 2 * j)) ≡ false
  fit_at j l = let z : 0 + j ≡ j = omega arith in rw z at (misfit_none (needed f (byte s (at + 1))) 0 s (at + 2) (operand_count f sort.Gate) h.fits j l)

  -- an operand that is needed is there, and one that is not needed is not
  pub laid_used : (j : ℕ) → j < needed f (byte s (at + 1)) → operand s (at + 2 + 2 * j) ≡ absent → ⊥
  laid_used j l = needed_there (needed f (byte s (at + 1))) j (operand s (at + 2 + 2 * j)) (fit_at j (omega (arith, needed_in f (byte s (at + 1))))) l

  pub laid_bare : (j : ℕ) → needed f (byte s (at + 1)) ≤ j → j < operand_count f sort.Gate → operand s (at + 2 + 2 * j) ≡ absent
  laid_bare j l m = bare_absent (needed f (byte s (at + 1))) j (operand s (at + 2 + 2 * j)) (fit_at j m) l

-- ---- the operands of any item

-- where they begin
abbrev pub operands_from : ℕ → Item → ℕ
operands_from at i = at + (1 + length (codes_of i))

pub used_shown : (f : File) (s : List ℕ) (at : ℕ) (i : Item) → Has f (sort_of i) → Shown f s at i
    → used f s at (as_form (sort_of i) (1 + length (codes_of i)) (operand_count f (sort_of i))) ≡ length (operands_of i)
unfolding used
used_shown f s at (gate c) has h = sym (length_operands s (at + 2) (needed f (byte s (at + 1)))) ∙ ap length (laid_operands h)
used_shown f s at (output vs) has h = sym (length_operands s (at + 1) (operand_count f sort.Output)) ∙ ap length h
used_shown f s at (care w) has h = ap (λ (x : Form). x.operands) (care_form f has)
used_shown f s at (register vs) has h = sym (length_operands s (at + 1) (operand_count f sort.Register)) ∙ ap length h
used_shown f s at (element vs) has h = sym (length_operands s (at + 1) (pins_used s (at + 1))) ∙ ap length h.content

pub operands_shown : (f : File) (s : List ℕ) (at : ℕ) (i : Item) → Has f (sort_of i) → Shown f s at i → operands s (operands_from at i) (length (operands_of i)) ≡ operands_of i
unfolding used operands
operands_shown f s at (gate c) has h = ap (operands s (at + 2)) (sym (used_shown f s at (gate c) has h)) ∙ laid_operands h
operands_shown f s at (output vs) has h = ap (operands s (at + 1)) (sym (used_shown f s at (output vs) has h)) ∙ h
operands_shown f s at (care w) has h = ap (λ (x : ℕ). x ∷ []) h
operands_shown f s at (register vs) has h = ap (operands s (at + 1)) (sym (used_shown f s at (register vs) has h)) ∙ h
operands_shown f s at (element vs) has h = ap (operands s (at + 1)) (sym (used_shown f s at (element vs) has h)) ∙ h.content

-- the test for 9 looks at these
pub nameless_item : {f : File} {s : List ℕ} {at : ℕ} {i : Item} (N : Nets) (k : ℕ) → ItemLaid f s at i
    → nameless_at f N s at k (form_for f (sort_of i)) ≡ nameless (asked f (sort_of i) N k) 0 s (operands_from at i) (length (operands_of i))
unfolding nameless_at
nameless_item {f} {s} {at} {i} N k h =
    ap (nameless_at f N s at k) (item_form f i h.has) ∙ ap (nameless (asked f (sort_of i) N k) 0 s (operands_from at i)) (used_shown f s at i h.has h.shown)

module _ {f : File} {s : List ℕ} {at : ℕ} {i : Item} (N : Nets) (k : ℕ) (h : ItemLaid f s at i) where
  pub item_named : nameless_at f N s at k (form_for f (sort_of i)) ≡ None → EachFrom (asked f (sort_of i) N k) 0 (operands_of i)
  item_named e =
      rw (operands_shown f s at i h.has h.shown) at
      (nameless_named (asked f (sort_of i) N k) s 0 (operands_from at i) (length (operands_of i)) (sym (nameless_item N k h) ∙ e))

  pub named_item : EachFrom (asked f (sort_of i) N k) 0 (operands_of i) → nameless_at f N s at k (form_for f (sort_of i)) ≡ None
  named_item e =
      nameless_item N k h
      ∙ named_nameless (asked f (sort_of i) N k) s 0 (operands_from at i) (length (operands_of i)) (rw (operands_shown f s at i h.has h.shown) e)

-- ---- the whole file

-- the end command, as the last byte
pub record EndLaid (f : File) (s : List ℕ) (at : ℕ) : Type 0 where
  pub command : form_of f (byte s at) ≡ form_for f sort.End
  pub last : length s ≡ at + 1

-- the items one after the other, and the end command after them
abbrev pub Laid : File → List ℕ → ℕ → List Item → Type 0
Laid f s at [] = EndLaid f s at
Laid f s at (i ∷ items) = ItemLaid f s at i × Laid f s (at + width_for f (sort_of i)) items

-- after k gates: each operand names what its role asks for
abbrev pub Named : File → Nets → ℕ → List Item → Type 0
Named f N k [] = Unit {0}
Named f N k (i ∷ items) = EachFrom (asked f (sort_of i) N k) 0 (operands_of i) × Named f N (gates_after k i) items

pub record FileLaid (f : File) (most : Limits) (s : List ℕ) (n : ℕ) (items : List Item) : Type 0 where
  pub command : form_of f (byte s 0) ≡ form_for f sort.Inputs
  pub count : byte s 1 ≡ n
  pub inputs_in : (1 ≤ n) × (n ≤ most.inputs)
  pub gates_in_holds : length (gates_in items) ≤ most.gates
  pub outputs_in_holds : (1 ≤ length (outputs_in items)) × (length (outputs_in items) ≤ most.outputs)
  pub care_in_holds : Ascending (2 ^ n) 0 (care_in items)
  pub registers_in : count_of sort.Register (parts_in items) ≤ most_parts
  pub elements_in : count_of sort.Element (parts_in items) ≤ most_parts
  pub laid : Laid f s 2 items
  pub named : Named f (nets_in n items) 0 items

-- ---- places

pub length_gate_places : (f : File) (at : ℕ) (items : List Item) → length (gate_places f at items) ≡ length (gates_in items)
length_gate_places f at [] = refl
length_gate_places f at (gate c ∷ items) = ap suc (length_gate_places f (at + width_for f sort.Gate) items)
length_gate_places f at (output vs ∷ items) = length_gate_places f (at + width_for f sort.Output) items
length_gate_places f at (care w ∷ items) = length_gate_places f (at + width_for f sort.Care) items
length_gate_places f at (register vs ∷ items) = length_gate_places f (at + width_for f sort.Register) items
length_gate_places f at (element vs ∷ items) = length_gate_places f (at + width_for f sort.Element) items

pub length_output_places : (f : File) (at : ℕ) (items : List Item) → length (output_places f at items) ≡ length (outputs_in items)
length_output_places f at [] = refl
length_output_places f at (gate c ∷ items) = length_output_places f (at + width_for f sort.Gate) items
length_output_places f at (output vs ∷ items) = ap suc (length_output_places f (at + width_for f sort.Output) items)
length_output_places f at (care w ∷ items) = length_output_places f (at + width_for f sort.Care) items
length_output_places f at (register vs ∷ items) = length_output_places f (at + width_for f sort.Register) items
length_output_places f at (element vs ∷ items) = length_output_places f (at + width_for f sort.Element) items

pub sorts_part_places : (f : File) (at : ℕ) (items : List Item) → sorts_of (part_places f at items) ≡ parts_in items
sorts_part_places f at [] = refl
sorts_part_places f at (gate c ∷ items) = sorts_part_places f (at + width_for f sort.Gate) items
sorts_part_places f at (output vs ∷ items) = sorts_part_places f (at + width_for f sort.Output) items
sorts_part_places f at (care w ∷ items) = sorts_part_places f (at + width_for f sort.Care) items
sorts_part_places f at (register vs ∷ items) = ap {B = List Sort} (λ l. sort.Register ∷ l) (sorts_part_places f (at + width_for f sort.Register) items)
sorts_part_places f at (element vs ∷ items) = ap {B = List Sort} (λ l. sort.Element ∷ l) (sorts_part_places f (at + width_for f sort.Element) items)

module _ (f : File) (s : List ℕ) where
  -- what the places show is the content
  pub laid_gates : (at : ℕ) (items : List Item) → Laid f s at items → map (coded_at f s) (gate_places f at items) ≡ gates_in items
  laid_gates at [] h = refl
  laid_gates at (gate c ∷ items) h = ap₂ (λ (x : Coded) (xs : List Coded). x ∷ xs) h.0.shown.content (laid_gates (at + width_for f sort.Gate) items h.1)
  laid_gates at (output vs ∷ items) h = laid_gates (at + width_for f sort.Output) items h.1
  laid_gates at (care w ∷ items) h = laid_gates (at + width_for f sort.Care) items h.1
  laid_gates at (register vs ∷ items) h = laid_gates (at + width_for f sort.Register) items h.1
  laid_gates at (element vs ∷ items) h = laid_gates (at + width_for f sort.Element) items h.1

  pub laid_outputs : (at : ℕ) (items : List Item) → Laid f s at items → map (wired_at f s) (output_places f at items) ≡ outputs_in items
  laid_outputs at [] h = refl
  laid_outputs at (gate c ∷ items) h = laid_outputs (at + width_for f sort.Gate) items h.1
  laid_outputs at (output vs ∷ items) h = ap₂ (λ (x : List ℕ) (xs : List (List ℕ)). x ∷ xs) h.0.shown (laid_outputs (at + width_for f sort.Output) items h.1)
  laid_outputs at (care w ∷ items) h = laid_outputs (at + width_for f sort.Care) items h.1
  laid_outputs at (register vs ∷ items) h = laid_outputs (at + width_for f sort.Register) items h.1
  laid_outputs at (element vs ∷ items) h = laid_outputs (at + width_for f sort.Element) items h.1

  -- a file that has neither registers nor C-elements
  pub laid_partless : (Has f sort.Register → ⊥) → (Has f sort.Element → ⊥) → (at : ℕ) (items : List Item) → Laid f s at items → part_places f at items ≡ []
  laid_partless plain bare at [] h = refl
  laid_partless plain bare at (gate c ∷ items) h = laid_partless plain bare (at + width_for f sort.Gate) items h.1
  laid_partless plain bare at (output vs ∷ items) h = laid_partless plain bare (at + width_for f sort.Output) items h.1
  laid_partless plain bare at (care w ∷ items) h = laid_partless plain bare (at + width_for f sort.Care) items h.1
  laid_partless plain bare at (register vs ∷ items) h = absurd (plain h.0.has)
  laid_partless plain bare at (element vs ∷ items) h = absurd (bare h.0.has)

  -- nothing but the items and the end command stands there
  pub laid_length : (at : ℕ) (items : List Item) → Laid f s at items →
      length s ≡ at + 1 + width_for f sort.Gate * length (gates_in items) + width_for f sort.Output * length (outputs_in items) + width_for f sort.Care * length (care_in items)
      + (width_for f sort.Register * count_of sort.Register (parts_in items) + width_for f sort.Element * count_of sort.Element (parts_in items))
  unfolding count_of
  laid_length at [] h = omega (arith, h.last)
  laid_length at (gate c ∷ items) h = omega (arith, laid_length (at + width_for f sort.Gate) items h.1)
  laid_length at (output vs ∷ items) h = omega (arith, laid_length (at + width_for f sort.Output) items h.1)
  laid_length at (care w ∷ items) h = omega (arith, laid_length (at + width_for f sort.Care) items h.1)
  laid_length at (register vs ∷ items) h = omega (arith, laid_length (at + width_for f sort.Register) items h.1)
  laid_length at (element vs ∷ items) h = omega (arith, laid_length (at + width_for f sort.Element) items h.1)
