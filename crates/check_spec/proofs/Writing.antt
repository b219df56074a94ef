-- Files as contents are written: their bytes are those of the code's items, and what was written reads as the content; and what a call leaves.
-- Assumes nothing.
use Prim.Native.Nat.{ℕ, ◌+◌}
use native.Mathlib.Omega.{arith}
use mathlib.Core.Path.{◌≡◌, refl, sym, ap, ap₂, ◌∙◌}
use mathlib.Core.Logic.{⊎_elim}
use mathlib.Core.List.{List, [], ◌∷◌, ◌++◌, append_assoc, map, map-id, flat_map}
use lib.ListN.{length}
use Rattle.runs.proofs.Test.{same?, eqb_other}
use Rattle.netlist.specs.declared.File.{File}
use Rattle.netlist.specs.declared.File.TheVariants as file
use Rattle.netlist.specs.declared.Sort.{Sort}
use Rattle.netlist.specs.declared.Sort.TheVariants as sort
use Rattle.netlist.specs.declared.Limits.{Limits}
use Rattle.netlist.specs.Commands as k
use Rattle.netlist.specs.Bytes.{operands}
use Rattle.netlist.specs.Content.{Coded}
use Rattle.netlist.specs.Writing as items
use Rattle.netlist.specs.Writing.{Item, gate, output, care, gates_in, outputs_in, care_in, parts_in, output_places, part_places, write_item, write_items, FileFits}
use Rattle.netlist.proofs.Laid.{wired_at, sorts_part_places}
use Rattle.netlist.proofs.GatesFirst.{gates_in_items, outputs_in_items, care_in_items, parts_in_items}
use Rattle.netlist.proofs.ReadBack.{read-write, gates_write, outputs_write}
use Rattle.verdict.specs.declared.Verdict.{Verdict}
use Rattle.verdict.specs.Written.{Written, refuse, write}
use Rattle.check_spec.specs.Cases.{accepted}
use Rattle.wiring_spec.specs.Parts.{part_at}
use Rattle.check_spec.specs.Content.{Content, content_at, content_of, rails_of_output}
use Rattle.check_spec.specs.Writing.{row_for, command, write_file, leaving}

abbrev pub items_of : Content → List Item
items_of c = map care c.care ++ (map gate c.gates ++ map output c.outputs)

-- commands one after the other are items one after the other
part : {X : Type 0} (f : File) (item : X → Item) (bytes : X → List ℕ) → ((x : X) → bytes x ≡ write_item f (item x)) → (l : List X) (later : List Item) (end : List ℕ)
    → flat_map bytes l ++ (write_items f later ++ end) ≡ write_items f (map item l ++ later) ++ end
unfolding flat_map
part f item bytes e [] later end = refl
part f item bytes e (x ∷ l) later end =
    append_assoc (bytes x) (flat_map bytes l) (write_items f later ++ end)
    ∙ ap₂ (λ (a b : List ℕ). a ++ b) (e x) (part f item bytes e l later end)
    ∙ sym (append_assoc (write_item f (item x)) (write_items f (map item l ++ later)) end)

last : (f : File) (l : List (List ℕ)) (end : List ℕ) → ((vs : List ℕ) → command f sort.Output 0 vs ≡ write_item f (output vs))
    → flat_map (command f sort.Output 0) l ++ end ≡ write_items f (map output l) ++ end
unfolding flat_map
last f [] end e = refl
last f (x ∷ l) end e =
    append_assoc (command f sort.Output 0 x) (flat_map (command f sort.Output 0) l) end
    ∙ ap₂ (λ (a b : List ℕ). a ++ b) (e x) (last f l end e)
    ∙ sym (append_assoc (write_item f (output x)) (write_items f (map output l)) end)

-- a file that has care words
with_care : (f : File) → ((vs : List ℕ) → command f sort.Output 0 vs ≡ write_item f (output vs))
    → ((g : Coded) → command f sort.Gate g.code g.operands ≡ write_item f (gate g)) → ((w : ℕ) → command f sort.Care 0 (w ∷ []) ≡ write_item f (care w))
    → ((n : ℕ) → command f sort.Inputs n [] ≡ 0x01 ∷ n ∷ []) → command f sort.End 0 [] ≡ 0x00 ∷ []
    → (c : Content) → write_file f c ≡ items.write_file f c.inputs (items_of c)
unfolding write_file items.write_file
with_care f outs gates cares start end c = rw (start c.inputs, end) (
    ap (λ (l : List ℕ). 0x01 ∷ c.inputs ∷ l) (
    ap (λ (l : List ℕ). flat_map (λ w. command f sort.Care 0 (w ∷ [])) c.care ++ l) (
    ap (λ (l : List ℕ). flat_map (λ (g : Coded). command f sort.Gate g.code g.operands) c.gates ++ l)
    (last f c.outputs (0x00 ∷ []) outs)
    ∙ part f gate (λ (g : Coded). command f sort.Gate g.code g.operands) gates c.gates (map output c.outputs) (0x00 ∷ []))
    ∙ part f care (λ w. command f sort.Care 0 (w ∷ [])) cares c.care (map gate c.gates ++ map output c.outputs) (0x00 ∷ [])))

pub stage_bytes : (c : Content) → write_file file.Stage c ≡ items.write_file file.Stage c.inputs (items_of c)
unfolding command row_for k.command_table k.own_commands k.form_in
stage_bytes = with_care file.Stage (λ vs. refl) (λ g. refl) (λ w. refl) (λ n. refl) refl

pub pipeline_bytes : (c : Content) → write_file file.Pipeline c ≡ items.write_file file.Pipeline c.inputs (items_of c)
unfolding command row_for k.command_table k.own_commands k.form_in
pipeline_bytes = with_care file.Pipeline (λ vs. refl) (λ g. refl) (λ w. refl) (λ n. refl) refl

pub reference_bytes : (c : Content) → c.care ≡ [] → write_file file.Reference c ≡ items.write_file file.Reference c.inputs (items_of c)
unfolding write_file items.write_file command row_for k.command_table k.own_commands k.form_in flat_map
reference_bytes c none = rw none (
    ap (λ (l : List ℕ). 0x01 ∷ c.inputs ∷ l) (
    ap (λ (l : List ℕ). flat_map (λ (g : Coded). command file.Reference sort.Gate g.code g.operands) c.gates ++ l)
    (last file.Reference c.outputs (0x00 ∷ []) (λ vs. refl))
    ∙ part file.Reference gate (λ (g : Coded). command file.Reference sort.Gate g.code g.operands) (λ g. refl) c.gates (map output c.outputs) (0x00 ∷ [])))

-- ---- what was written reads as the content

-- what stands among the items of a content
module _ (c : Content) where
  pub gates_of : gates_in (items_of c) ≡ c.gates
  gates_of = gates_in_items (λ g. g) (λ g. g) (λ vs. vs) (λ vs. vs) c.care c.gates c.outputs ∙ map-id c.gates

  pub outputs_of : outputs_in (items_of c) ≡ c.outputs
  outputs_of = outputs_in_items (λ g. g) (λ g. g) (λ vs. vs) (λ vs. vs) c.care c.gates c.outputs ∙ map-id c.outputs

  pub cares_of : care_in (items_of c) ≡ c.care
  cares_of = care_in_items (λ g. g) (λ g. g) (λ vs. vs) (λ vs. vs) c.care c.gates c.outputs

  pub parts_of : parts_in (items_of c) ≡ []
  parts_of = parts_in_items (λ g. g) (λ g. g) (λ vs. vs) (λ vs. vs) c.care c.gates c.outputs

pub wired : (f : File) (s : List ℕ) (at : ℕ) → operands s (at + 1) (rails_of_output f) ≡ wired_at f s at
unfolding k.command_table k.own_commands k.form_in
wired file.Stage s at = refl
wired file.Pipeline s at = refl
wired file.Reference s at = refl

pub map-none : {A B : Type 0} (f : A → B) (xs : List A) → map f xs ≡ [] → xs ≡ []
map-none f [] e = refl
map-none f (x ∷ xs) e = absurd (omega (arith, ap length e))

-- the items of a file that fits, none of them a register or a C-element, as a content
pub items_content : (f : File) (most : Limits) (n : ℕ) (is : List Item) → parts_in is ≡ [] → FileFits f most n is
    → content_of f most (items.write_file f n is) ≡ record { inputs = n; gates = gates_in is; outputs = outputs_in is; care = care_in is; parts = [] }
unfolding content_at
items_content f most n is none fits = rw (read-write f most n is fits) (λ i. record {
  inputs = n;
  gates = gates_write f most n is fits i;
  outputs = (outs (output_places f 2 is) ∙ outputs_write f most n is fits) i;
  care = care_in is;
  parts = ap (map (part_at (items.write_file f n is))) (map-none (λ (x : Sort × ℕ). x.0) (part_places f 2 is) (sorts_part_places f 2 is ∙ none)) i;
})
  where
    outs : (l : List ℕ) → map (λ at. operands (items.write_file f n is) (at + 1) (rails_of_output f)) l ≡ map (wired_at f (items.write_file f n is)) l
    outs [] = refl
    outs (at ∷ l) = ap₂ (λ (x : List ℕ) (m : List (List ℕ)). x ∷ m) (wired f (items.write_file f n is) at) (outs l)

pub content_write : (f : File) (most : Limits) (c : Content) → c.parts ≡ [] → FileFits f most c.inputs (items_of c)
    → content_of f most (items.write_file f c.inputs (items_of c)) ≡ c
content_write f most c none fits =
    items_content f most c.inputs (items_of c) (parts_of c) fits
    ∙ (λ i. record { inputs = c.inputs; gates = gates_of c i; outputs = outputs_of c i; care = cares_of c i; parts = sym none i })

-- ---- what a call leaves

pub leaves_none : (v : Verdict) → ¬ (v.number ≡ 0) → (bytes buffer : List ℕ) → leaving v bytes buffer ≡ refuse v buffer
unfolding leaving
leaves_none v n bytes buffer = rw (eqb_other v.number 0 n)

pub leaves_bytes : (v : Verdict) → v.number ≡ 0 → (bytes buffer : List ℕ) → leaving v bytes buffer ≡ write bytes buffer
unfolding leaving
leaves_bytes v z bytes buffer = rw z

-- the verdict, where 0 is the number of acceptance alone
pub leaves_verdict : (v : Verdict) → (v.number ≡ 0 → v ≡ accepted) → (bytes buffer : List ℕ) → (leaving v bytes buffer).verdict ≡ v
leaves_verdict v a bytes buffer =
    ⊎_elim (λ z. ap (λ (x : Written). x.verdict) (leaves_bytes v z bytes buffer) ∙ sym (a z)) (λ n. ap (λ (x : Written). x.verdict) (leaves_none v n bytes buffer)) (same? v.number 0)
