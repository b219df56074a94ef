-- A byte that is in no row of the table, how many bytes a command has at most, which sorts of command name nothing, and which bytes are an operation.
-- Assumes nothing.
use Prim.Native.Nat.{ℕ, zero, suc, ◌+◌, ◌^◌, ◌≤◌, ◌<◌}
use native.Mathlib.Omega.{arith}
use mathlib.Core.Path.{◌≡◌, refl, sym, ap, ◌∙◌}
use mathlib.Core.Bool.{Bool, true, false, cond}
use mathlib.Core.List.{List, [], ◌∷◌}
use lib.ListN.{get_or-eq_default}
use lib.Dec.{eqb}
use borrow.Author.Tests.{ne_eqb}
use Rattle.netlist.specs.declared.File.{File}
use Rattle.netlist.specs.declared.File.TheVariants as file
use Rattle.netlist.specs.declared.Sort.{Sort}
use Rattle.netlist.specs.declared.Sort.TheVariants as sort
use Rattle.netlist.specs.declared.Role.TheVariants.{Number}
use Rattle.netlist.specs.declared.Form.{Form}
use Rattle.gates.specs.Cell.{kind_of}
use Rattle.netlist.specs.Commands.{as_form, command_table, own_commands, form_in, form_of, role_of, width, pins_needed, needed, stray}
use Rattle.netlist.specs.Writing.{form_for, All}
use Rattle.netlist.proofs.Encoding.{form_for_holds, gate_form, inputs_form, care_form, element_form, width_in}

pub in_no_row : (rs : List (ℕ × Form)) (b : ℕ) → All (λ r. b ≡ r.0 → ⊥) rs → as_form sort.Unknown 1 0 ≡ form_in rs b
unfolding form_in
in_no_row [] b h = refl
in_no_row (r ∷ rs) b h = rw (ne_eqb b r.0 h.0) (in_no_row rs b h.1)

-- a byte that stands for neither end nor inputs stands for a command of its file alone, if for any
pub own_row : (f : File) (b : ℕ) → (b ≡ 0 → ⊥) → (b ≡ 1 → ⊥) → form_in (own_commands f) b ≡ form_of f b
unfolding command_table form_in
own_row f b no_end no-inputs = rw (ne_eqb b 0 no_end, ne_eqb b 1 no-inputs)

-- the row of a byte
module _ (f : File) (b : ℕ) {form : Form} (is : form ≡ form_of f b) where
  pub few_bytes : (1 ≤ width form) × (width form < 2 ^ 16)
  unfolding command_table own_commands form_in
  few_bytes = rw is (go f)
    where
      go : (f : File) → (1 ≤ width (form_of f b)) × (width (form_of f b) < 2 ^ 16)
      go file.Stage = omega (arith, width_in file.Stage b)
      go file.Pipeline = omega (arith, width_in file.Pipeline b)
      go file.Reference = omega (arith, width_in file.Reference b)

  pub form_sort : {c : Sort} → form.sort ≡ c → form ≡ form_for f c
  form_sort e = is ∙ form_for_holds f b ∙ ap (form_for f) (ap (λ (x : Form). x.sort) (sym is) ∙ e)

  pub gate_lead : form.sort ≡ sort.Gate → form.lead ≡ 2
  gate_lead e = ap (λ (x : Form). x.lead) (form_sort e ∙ gate_form f)

  pub care_wide : form.sort ≡ sort.Care → form.lead + 2 ≡ width form
  care_wide e =
      let is-care = form_sort e in
      let row = is-care ∙ care_form f (ap (λ (x : Form). x.sort) (sym is-care) ∙ e) in
      rw row

  pub element_wide : form.sort ≡ sort.Element → form.operands ≡ 4
  element_wide e =
      let is-element = form_sort e in
      ap (λ (x : Form). x.operands) (is-element ∙ element_form f (ap (λ (x : Form). x.sort) (sym is-element) ∙ e))

  pub inputs_wide : form.sort ≡ sort.Inputs → width form ≡ 2
  inputs_wide e = ap width (form_sort e ∙ inputs_form f)

-- the rows of a stage, which a pipeline has too
pub stage_rows : (f : File) → (f ≡ file.Reference → ⊥) → (as_form sort.Gate 2 4 ≡ form_of f 0x02) × (as_form sort.Output 1 2 ≡ form_of f 0x03) × (as_form sort.Care 1 1 ≡ form_of f 0x06)
unfolding command_table own_commands form_in
stage_rows file.Stage staged = (refl, refl, refl)
stage_rows file.Pipeline staged = (refl, refl, refl)
stage_rows file.Reference staged = absurd (staged refl)

-- a byte that is in none of them, and in none of a pipeline's own where that is the file, is in no row of the file
pub no_stage_row : (f : File) (b : ℕ) → (f ≡ file.Reference → ⊥) → (b ≡ 0x02 → ⊥) × (b ≡ 0x03 → ⊥) × (b ≡ 0x06 → ⊥) →
    (f ≡ file.Pipeline → (b ≡ 0x04 → ⊥) × (b ≡ 0x05 → ⊥)) → All (λ r. b ≡ r.0 → ⊥) (own_commands f)
unfolding own_commands
no_stage_row file.Stage b staged n more = (n.0, (n.1, (n.2, tt)))
no_stage_row file.Pipeline b staged n more = (n.0, (n.1, ((more refl).0, ((more refl).1, (n.2, tt)))))
no_stage_row file.Reference b staged n more = absurd (staged refl)

pub kind_needed : (f : File) → (f ≡ file.Reference → ⊥) → (b : ℕ) → pins_needed (kind_of b) ≡ needed f b
unfolding needed
kind_needed file.Stage staged b = refl
kind_needed file.Pipeline staged b = refl
kind_needed file.Reference staged b = absurd (staged refl)

-- ---- where a command may stand

rows_stray : (rs : List (ℕ × Form)) (b : ℕ) → All (λ r. stray 0 r.1.sort ≡ true) rs → stray 0 (form_in rs b).sort ≡ true
unfolding form_in stray
rows_stray [] b h = refl
rows_stray (r ∷ rs) b h = pick (eqb b r.0) (rows_stray rs b h.1)
  where
    pick : (x : Bool) → stray 0 (form_in rs b).sort ≡ true → stray 0 (cond x r.1 (form_in rs b)).sort ≡ true
    pick true e = h.0
    pick false e = e

-- the first command is stray unless it is 01
own_stray : (f : File) → All (λ r. stray 0 r.1.sort ≡ true) ((0, as_form sort.End 1 0) ∷ own_commands f)
unfolding own_commands stray
own_stray file.Stage = (refl, (refl, (refl, (refl, tt))))
own_stray file.Pipeline = (refl, (refl, (refl, (refl, (refl, (refl, tt))))))
own_stray file.Reference = (refl, (refl, (refl, tt)))

pub first_stray : (f : File) (b : ℕ) → (b ≡ 1 → ⊥) → stray 0 (form_of f b).sort ≡ true
unfolding command_table form_in
first_stray f b other = rw (ne_eqb b 1 other) (rows_stray ((0, as_form sort.End 1 0) ∷ own_commands f) b (own_stray f))

-- a later one is stray where it is 01, or not the end and in no row of its file
pub later_stray : (f : File) (b at : ℕ) → (b ≡ 0 → ⊥) → All (λ r. b ≡ r.0 → ⊥) (own_commands f) → 1 ≤ at → stray at (form_of f b).sort ≡ true
unfolding command_table form_in stray
later_stray f b at no_end none h = rw (ne_eqb b 0 no_end, ← in_no_row (own_commands f) b none) (go (eqb b 1))
  where
    go : (x : Bool) → stray at (cond x (as_form sort.Inputs 2 0) (as_form sort.Unknown 1 0)).sort ≡ true
    go true = rw (ne_eqb at 0 (omega arith))
    go false = refl

-- the operands of the other commands name nothing
pub stage_number_holds : (i : ℕ) (c : Sort) → (c ≡ sort.Gate → ⊥) → (c ≡ sort.Output → ⊥) → Number ≡ role_of file.Stage c i
unfolding role_of
stage_number_holds i sort.End g o = refl
stage_number_holds i sort.Inputs g o = refl
stage_number_holds i sort.Gate g o = absurd (g refl)
stage_number_holds i sort.Output g o = absurd (o refl)
stage_number_holds i sort.Care g o = refl
stage_number_holds i sort.Unknown g o = refl
stage_number_holds i sort.Register g o = refl
stage_number_holds i sort.Element g o = refl

pub reference_number_holds : (i : ℕ) (c : Sort) → (c ≡ sort.Gate → ⊥) → (c ≡ sort.Output → ⊥) → Number ≡ role_of file.Reference c i
unfolding role_of
reference_number_holds i sort.End g o = refl
reference_number_holds i sort.Inputs g o = refl
reference_number_holds i sort.Gate g o = absurd (g refl)
reference_number_holds i sort.Output g o = absurd (o refl)
reference_number_holds i sort.Care g o = refl
reference_number_holds i sort.Unknown g o = refl
reference_number_holds i sort.Register g o = refl
reference_number_holds i sort.Element g o = refl

pub pipeline_number : (i : ℕ) (c : Sort) → (c ≡ sort.Gate → ⊥) → (c ≡ sort.Output → ⊥) → (c ≡ sort.Register → ⊥) → (c ≡ sort.Element → ⊥) → Number ≡ role_of file.Pipeline c i
unfolding role_of
pipeline_number i sort.End g o r e = refl
pipeline_number i sort.Inputs g o r e = refl
pipeline_number i sort.Gate g o r e = absurd (g refl)
pipeline_number i sort.Output g o r e = absurd (o refl)
pipeline_number i sort.Care g o r e = refl
pipeline_number i sort.Unknown g o r e = refl
pipeline_number i sort.Register g o r e = absurd (r refl)
pipeline_number i sort.Element g o r e = absurd (e refl)

-- operations 2 to 6 need two operands
pub operation_two : (b : ℕ) → 2 ≤ b → b ≤ 6 → needed file.Reference b ≡ 2
unfolding needed
operation_two zero lo hi = absurd (omega arith)
operation_two (suc zero) lo hi = absurd (omega arith)
operation_two (suc (suc zero)) lo hi = refl
operation_two (suc (suc (suc zero))) lo hi = refl
operation_two (suc (suc (suc (suc zero)))) lo hi = refl
operation_two (suc (suc (suc (suc (suc zero))))) lo hi = refl
operation_two (suc (suc (suc (suc (suc (suc zero)))))) lo hi = refl
operation_two (suc (suc (suc (suc (suc (suc (suc b))))))) lo hi = absurd (omega arith)

-- 0 and what lies above 6 is no operation
pub operation_zero : (b : ℕ) → b ≡ 0 → needed file.Reference b ≡ 0
unfolding needed
operation_zero b e = rw e

pub operation_past : (b : ℕ) → 7 ≤ b → needed file.Reference b ≡ 0
unfolding needed
operation_past b h = get_or-eq_default (0 ∷ 1 ∷ 2 ∷ 2 ∷ 2 ∷ 2 ∷ 2 ∷ []) 0 h
