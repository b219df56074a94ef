-- What the command table says of every byte, and how many operands a kind or an operation needs.
-- Assumes nothing.
use Prim.Native.Nat.{ℕ, zero, suc, ◌+◌, ◌-◌, ◌*◌, ◌≤◌, ◌<◌}
use native.Mathlib.Omega.{arith}
use native.Mathlib.Decide.{ℕ_discrete, dec_lt}
use mathlib.Core.Path.{◌≡◌, refl, sym, ap, ◌∙◌}
use mathlib.Core.Bool.{Bool, true, false}
use mathlib.Core.List.{List, [], ◌∷◌}
use lib.ListN.{length}
use lib.Dec.{T, leb, leb→le}
use borrow.Author.Tests.{eq-eqb, ne_eqb}
use Rattle.gates.specs.Cell.{cells, cell_at, pin_count, kind_of, kind_byte, as_kind}
use Rattle.gates.proofs.Every.{every, every_at}
use Rattle.gates.proofs.Ranges.{kind_known, KindCases, of_cell, no_kind, kind_cases}
use Rattle.netlist.specs.Types.{File, Sort, Form}
use Rattle.netlist.specs.Types.file
use Rattle.netlist.specs.Types.sort
use Rattle.netlist.specs.Commands.{as_form, command_table, own_commands, form_in, form_of, width, is_sort, pins_needed, needed}
use Rattle.netlist.specs.Writing.{command_byte, form_for, width_for, operand_count, Has, Item, gate, output, care, register, element, sort_of, codes_of, All}

-- two constructors are never equal: `cc` makes 0 ≡ 1 of it
pub clash : ◌≡◌ {A = ℕ} 0 1 → ⊥
clash e = omega arith

-- ---- the command table

-- what holds of each row, and of what stands for no command, holds of the row of a byte
pub table_all : (P : ℕ → Form → Type 0) → ((b : ℕ) → P b (as_form sort.Unknown 1 0)) →
    (rs : List (ℕ × Form)) → All (λ r. P r.0 r.1) rs → (b : ℕ) → P b (form_in rs b)
unfolding form_in
table_all P u [] h b = u b
table_all P u (r ∷ rs) h b = go (ℕ_discrete b r.0) (table_all P u rs h.1 b)
  where
    go : Dec (b ≡ r.0) → P b (form_in rs b) → P b (form_in (r ∷ rs) b)
    go (yes e) l = rw (eq-eqb b r.0 e, e) h.0
    go (no d) l = rw (ne_eqb b r.0 d) l

-- what holds of each file holds of every file
pub each_file : (P : File → Type 0) → P file.Stage × P file.Pipeline × P file.Reference → (f : File) → P f
each_file P h file.Stage = h.0
each_file P h file.Pipeline = h.1
each_file P h file.Reference = h.2

-- a row is the only one of its sort in its file
abbrev Alone : File → Form → Type 0
Alone f form = form ≡ form_for f form.sort

pub form_for_holds : (f : File) (b : ℕ) → Alone f (form_of f b)
unfolding command_table own_commands form_in
form_for_holds file.Stage = table_all (λ b. Alone file.Stage) (λ b. refl) (command_table file.Stage) (refl, (refl, (refl, (refl, (refl, tt)))))
form_for_holds file.Pipeline = table_all (λ b. Alone file.Pipeline) (λ b. refl) (command_table file.Pipeline) (refl, (refl, (refl, (refl, (refl, (refl, (refl, tt)))))))
form_for_holds file.Reference = table_all (λ b. Alone file.Reference) (λ b. refl) (command_table file.Reference) (refl, (refl, (refl, (refl, tt))))

-- every file has these sorts of commands; care words a reference has not
pub has_end : (f : File) → Has f sort.End
unfolding command_table own_commands form_in
has_end = each_file (λ f. Has f sort.End) (refl, refl, refl)

pub has_inputs : (f : File) → Has f sort.Inputs
unfolding command_table own_commands form_in
has_inputs = each_file (λ f. Has f sort.Inputs) (refl, refl, refl)

pub has_gate : (f : File) → Has f sort.Gate
unfolding command_table own_commands form_in
has_gate = each_file (λ f. Has f sort.Gate) (refl, refl, refl)

pub has_output : (f : File) → Has f sort.Output
unfolding command_table own_commands form_in
has_output = each_file (λ f. Has f sort.Output) (refl, refl, refl)

pub stage_care_holds : Has file.Stage sort.Care
unfolding command_table own_commands form_in
stage_care_holds = refl

pub pipeline_care : Has file.Pipeline sort.Care
unfolding command_table own_commands form_in
pipeline_care = refl

pub reference_careless : Has file.Reference sort.Care → ⊥
unfolding command_table own_commands form_in
reference_careless e = clash (cc)

-- and only its byte stands for it
abbrev Only : File → ℕ → Form → Type 0
Only f b form = is_sort sort.Unknown form.sort ≡ false → b ≡ command_byte f form.sort

only-byte : (f : File) (b : ℕ) → Only f b (form_of f b)
unfolding command_table own_commands
only-byte file.Stage =
    table_all (Only file.Stage) (λ b e. absurd (clash (cc))) (command_table file.Stage)
    ((λ e. refl), ((λ e. refl), ((λ e. refl), ((λ e. refl), ((λ e. refl), tt)))))
only-byte file.Pipeline =
    table_all (Only file.Pipeline) (λ b e. absurd (clash (cc))) (command_table file.Pipeline)
    ((λ e. refl), ((λ e. refl), ((λ e. refl), ((λ e. refl), ((λ e. refl), ((λ e. refl), ((λ e. refl), tt)))))))
only-byte file.Reference =
    table_all (Only file.Reference) (λ b e. absurd (clash (cc))) (command_table file.Reference) ((λ e. refl), ((λ e. refl), ((λ e. refl), ((λ e. refl), tt))))

pub byte_for : (f : File) (b : ℕ) (c : Sort) → form_of f b ≡ form_for f c → Has f c → is_sort sort.Unknown c ≡ false → b ≡ command_byte f c
byte_for f b c e own known =
    let s : (form_of f b).sort ≡ c = ap (λ (x : Form). x.sort) e ∙ own in
    rw s at (only-byte f b (rw s known))

-- the rows of the sorts that every file has, and of care words where it has them
pub gate_form : (f : File) → form_for f sort.Gate ≡ as_form sort.Gate 2 (operand_count f sort.Gate)
unfolding command_table own_commands form_in
gate_form = each_file (λ f. form_for f sort.Gate ≡ as_form sort.Gate 2 (operand_count f sort.Gate)) (refl, refl, refl)

pub output_form : (f : File) → form_for f sort.Output ≡ as_form sort.Output 1 (operand_count f sort.Output)
unfolding command_table own_commands form_in
output_form = each_file (λ f. form_for f sort.Output ≡ as_form sort.Output 1 (operand_count f sort.Output)) (refl, refl, refl)

pub inputs_form : (f : File) → form_for f sort.Inputs ≡ as_form sort.Inputs 2 0
unfolding command_table own_commands form_in
inputs_form f = refl

pub end_form : (f : File) → form_for f sort.End ≡ as_form sort.End 1 0
unfolding command_table own_commands form_in
end_form f = refl

pub care_form : (f : File) → Has f sort.Care → form_for f sort.Care ≡ as_form sort.Care 1 1
unfolding command_table own_commands form_in
care_form file.Stage e = refl
care_form file.Pipeline e = refl
care_form file.Reference e = absurd (clash (cc))

pub register_form : (f : File) → Has f sort.Register → form_for f sort.Register ≡ as_form sort.Register 1 3
unfolding command_table own_commands form_in
register_form file.Stage e = absurd (clash (cc))
register_form file.Pipeline e = refl
register_form file.Reference e = absurd (clash (cc))

pub element_form : (f : File) → Has f sort.Element → form_for f sort.Element ≡ as_form sort.Element 1 4
unfolding command_table own_commands form_in
element_form file.Stage e = absurd (clash (cc))
element_form file.Pipeline e = refl
element_form file.Reference e = absurd (clash (cc))

-- a pipeline alone has registers and C-elements
pub stage_registerless : Has file.Stage sort.Register → ⊥
unfolding command_table own_commands form_in
stage_registerless e = clash (cc)

pub stage_elementless : Has file.Stage sort.Element → ⊥
unfolding command_table own_commands form_in
stage_elementless e = clash (cc)

pub reference_registerless : Has file.Reference sort.Register → ⊥
unfolding command_table own_commands form_in
reference_registerless e = clash (cc)

pub reference_elementless : Has file.Reference sort.Element → ⊥
unfolding command_table own_commands form_in
reference_elementless e = clash (cc)

pub width_care : (f : File) → width_for f sort.Care ≡ 1 + 2 * operand_count f sort.Care
unfolding command_table own_commands form_in
width_care = each_file (λ f. width_for f sort.Care ≡ 1 + 2 * operand_count f sort.Care) (refl, refl, refl)

module _ (f : File) where
  pub width_gate : width_for f sort.Gate ≡ 2 + 2 * operand_count f sort.Gate
  width_gate = ap width (gate_form f)

  pub width_output : width_for f sort.Output ≡ 1 + 2 * operand_count f sort.Output
  width_output = ap width (output_form f)

  pub width_inputs : width_for f sort.Inputs ≡ 2
  width_inputs = ap width (inputs_form f)

  pub width_end : width_for f sort.End ≡ 1
  width_end = ap width (end_form f)

-- the row of an item
pub item_form : (f : File) (i : Item) → Has f (sort_of i) → form_for f (sort_of i) ≡ as_form (sort_of i) (1 + length (codes_of i)) (operand_count f (sort_of i))
item_form f (gate c) h = gate_form f
item_form f (output vs) h = output_form f
item_form f (care w) h = care_form f h ∙ ap (as_form sort.Care 1) (sym (ap (λ (x : Form). x.operands) (care_form f h)))
item_form f (register vs) h = register_form f h ∙ ap (as_form sort.Register 1) (sym (ap (λ (x : Form). x.operands) (register_form f h)))
item_form f (element vs) h = element_form f h ∙ ap (as_form sort.Element 1) (sym (ap (λ (x : Form). x.operands) (element_form f h)))

pub item_width : (f : File) (i : Item) → Has f (sort_of i) → width_for f (sort_of i) ≡ 1 + length (codes_of i) + 2 * operand_count f (sort_of i)
item_width f i h = ap width (item_form f i h)

-- every command has a byte, none is wider than a gate, and no first operand ends further on
abbrev Sized : File → Form → Type 0
Sized f form = (1 ≤ width form) × (width form ≤ width_for f sort.Gate) × (form.lead + 2 ≤ width_for f sort.Gate)

pub width_in : (f : File) (b : ℕ) → Sized f (form_of f b)
unfolding command_table own_commands form_in
width_in file.Stage =
    table_all (λ b form. Sized file.Stage form) (λ b. omega arith) (command_table file.Stage)
    (omega arith, (omega arith, (omega arith, (omega arith, (omega arith, tt)))))
width_in file.Pipeline =
    table_all (λ b form. Sized file.Pipeline form) (λ b. omega arith) (command_table file.Pipeline)
    (omega arith, (omega arith, (omega arith, (omega arith, (omega arith, (omega arith, (omega arith, tt)))))))
width_in file.Reference = table_all (λ b form. Sized file.Reference form) (λ b. omega arith) (command_table file.Reference) (omega arith, (omega arith, (omega arith, (omega arith, tt))))

pub wide_gate : (f : File) → 3 ≤ width_for f sort.Gate
unfolding command_table own_commands form_in
wide_gate = each_file (λ f. 3 ≤ width_for f sort.Gate) (omega arith)

-- ---- kinds and operations

few_pins : T (every (λ c. leb (pin_count c) 4) 28)
unfolding pin_count cell_at cells
few_pins = tt

some-pins : T (every (λ c. leb 1 (pin_count (c + 1))) 27)
unfolding pin_count cell_at cells
some-pins = tt

-- in a stage: the kind of a cell, with hold or relaxed, needs the cell's pins
module _ (hold : Bool) (c : ℕ) (lo : 1 ≤ c) (hi : c ≤ 27) where
  pub kind_needs : needed file.Stage (kind_byte c hold) ≡ pin_count c
  unfolding needed pins_needed
  kind_needs = rw (kind_known hold c (pin_count c) lo hi refl) (go hold)
    where
      go : (h : Bool) → pins_needed (as_kind h c (pin_count c)) ≡ pin_count c
      go true = refl
      go false = refl

  pub kind_some : 1 ≤ needed file.Stage (kind_byte c hold)
  kind_some =
      let e : c - 1 + 1 ≡ c = omega arith in
      let some : 1 ≤ pin_count (c - 1 + 1) = leb→le 1 (pin_count (c - 1 + 1)) (every_at (λ x. leb 1 (pin_count (x + 1))) 27 some-pins (c - 1) (omega arith)) in
      rw kind_needs (rw e at some)

-- a kind that needs a pin is one of these
pub record KindOfCell (k : ℕ) : Type 0 where
  pub hold : Bool
  pub cell : ℕ
  pub cell_in : (1 ≤ cell) × (cell ≤ 27)
  pub kind_is : k ≡ kind_byte cell hold

pub kind_in_holds : (k : ℕ) → 1 ≤ needed file.Stage k → KindOfCell k
unfolding needed pins_needed
kind_in_holds k h = go (kind_cases k)
  where
    go : KindCases k → KindOfCell k
    go (of_cell hold c lo hi e) = record { hold = hold; cell = c; cell_in = (lo, hi); kind_is = e }
    go (no_kind e) = absurd (let z : pins_needed (kind_of k) ≡ 0 = ap pins_needed e in omega arith)

-- in a reference: operations 1 to 6, and none needs more than two
pub operation_needs : (c : ℕ) → (needed file.Reference c ≤ 2) × (1 ≤ needed file.Reference c → (1 ≤ c) × (c ≤ 6)) × (1 ≤ c → c ≤ 6 → 1 ≤ needed file.Reference c)
unfolding needed
operation_needs zero = omega arith
operation_needs (suc zero) = omega arith
operation_needs (suc (suc zero)) = omega arith
operation_needs (suc (suc (suc zero))) = omega arith
operation_needs (suc (suc (suc (suc zero)))) = omega arith
operation_needs (suc (suc (suc (suc (suc zero))))) = omega arith
operation_needs (suc (suc (suc (suc (suc (suc zero)))))) = omega arith
operation_needs (suc (suc (suc (suc (suc (suc (suc c))))))) = omega arith

-- a kind needs four pins at most
kind_room : (c : ℕ) → needed file.Stage c ≤ 4
kind_room c = go (dec_lt 0 (needed file.Stage c))
  where
    go : Dec (0 < needed file.Stage c) → needed file.Stage c ≤ 4
    go (no h) = omega arith
    go (yes h) =
        let k = kind_in_holds c h in
        let four : pin_count k.cell ≤ 4 = leb→le (pin_count k.cell) 4 (every_at (λ x. leb (pin_count x) 4) 28 few_pins k.cell (omega (arith, k.cell_in.1))) in
        omega (arith, ap (needed file.Stage) k.kind_is, kind_needs k.hold k.cell k.cell_in.0 k.cell_in.1)

pub pipeline_needs : (c : ℕ) → needed file.Pipeline c ≡ needed file.Stage c
unfolding needed
pipeline_needs c = refl

-- what is needed has room
pub needed_in : (f : File) (c : ℕ) → needed f c ≤ operand_count f sort.Gate
unfolding command_table own_commands form_in
needed_in file.Stage c = kind_room c
needed_in file.Pipeline c = omega (arith, kind_room c, pipeline_needs c)
needed_in file.Reference c = (operation_needs c).0
