-- The settled-row call reads the care words of a stage and does not use them: without its care commands the file gets the same answer.
-- Assumes nothing.
use Prim.Native.Nat.{ℕ, suc}
use mathlib.Core.Path.{◌≡◌, refl, sym, ap, ◌∙◌}
use mathlib.Core.Bool.{cond}
use mathlib.Core.List.{List, [], ◌∷◌}
use lib.Dec.{eqb}
use Rattle.netlist.specs.declared.File.{File}
use Rattle.netlist.specs.declared.File.TheVariants as file
use Rattle.netlist.specs.declared.Sort.{Sort}
use Rattle.netlist.specs.declared.Sort.TheVariants as sort
use Rattle.netlist.specs.declared.Limits.{Limits}
use Rattle.netlist.specs.Reading.{Nets, Places, stage_limits}
use Rattle.netlist.specs.Content.{Coded}
use Rattle.netlist.specs.Writing.{Item, gate, output, care, register, element, gates_in, outputs_in, care_in, parts_in, write_file, nets_in, ItemsFit, FileFits}
use Rattle.netlist.proofs.Encoding.{stage_registerless, stage_elementless}
use Rattle.netlist.proofs.Lists.{Bytes}
use Rattle.netlist.proofs.ReadBack.{read-write, Holds}
use Rattle.verdict.specs.declared.Verdict.{Verdict}
use Rattle.check_spec.specs.Cases.{first, judge}
use Rattle.check_spec.specs.Content.{Content}
use Rattle.check_spec.specs.Checks.{looped, row_checks}
use Rattle.check_spec.specs.Verdicts.{refusal, row_verdict, settled_bytes, row_after}
use Rattle.check_spec.proofs.Writing.{items_content}

-- ---- items without care commands

abbrev pub without_care : List Item → List Item
without_care [] = []
without_care (gate c ∷ items) = gate c ∷ without_care items
without_care (output vs ∷ items) = output vs ∷ without_care items
without_care (care w ∷ items) = without_care items
without_care (register vs ∷ items) = register vs ∷ without_care items
without_care (element vs ∷ items) = element vs ∷ without_care items

same-gates : (items : List Item) → gates_in (without_care items) ≡ gates_in items
same-gates [] = refl
same-gates (gate c ∷ items) = ap {B = List Coded} (λ l. c ∷ l) (same-gates items)
same-gates (output vs ∷ items) = same-gates items
same-gates (care w ∷ items) = same-gates items
same-gates (register vs ∷ items) = same-gates items
same-gates (element vs ∷ items) = same-gates items

same-outputs : (items : List Item) → outputs_in (without_care items) ≡ outputs_in items
same-outputs [] = refl
same-outputs (gate c ∷ items) = same-outputs items
same-outputs (output vs ∷ items) = ap {B = List (List ℕ)} (λ l. vs ∷ l) (same-outputs items)
same-outputs (care w ∷ items) = same-outputs items
same-outputs (register vs ∷ items) = same-outputs items
same-outputs (element vs ∷ items) = same-outputs items

same_parts : (items : List Item) → parts_in (without_care items) ≡ parts_in items
same_parts [] = refl
same_parts (gate c ∷ items) = same_parts items
same_parts (output vs ∷ items) = same_parts items
same_parts (care w ∷ items) = same_parts items
same_parts (register vs ∷ items) = ap {B = List Sort} (λ l. sort.Register ∷ l) (same_parts items)
same_parts (element vs ∷ items) = ap {B = List Sort} (λ l. sort.Element ∷ l) (same_parts items)

no_words : (items : List Item) → care_in (without_care items) ≡ []
no_words [] = refl
no_words (gate c ∷ items) = no_words items
no_words (output vs ∷ items) = no_words items
no_words (care w ∷ items) = no_words items
no_words (register vs ∷ items) = no_words items
no_words (element vs ∷ items) = no_words items

fit_without : (f : File) (N : Nets) (k : ℕ) (items : List Item) → ItemsFit f N k items → ItemsFit f N k (without_care items)
fit_without f N k [] h = tt
fit_without f N k (gate c ∷ items) h = (h.0, fit_without f N (suc k) items h.1)
fit_without f N k (output vs ∷ items) h = (h.0, fit_without f N k items h.1)
fit_without f N k (care w ∷ items) h = fit_without f N k items h.1
fit_without f N k (register vs ∷ items) h = (h.0, fit_without f N k items h.1)
fit_without f N k (element vs ∷ items) h = (h.0, fit_without f N k items h.1)

-- a stage has no registers and no C-elements
partless : (N : Nets) (k : ℕ) (items : List Item) → ItemsFit file.Stage N k items → parts_in items ≡ []
partless N k [] h = refl
partless N k (gate c ∷ items) h = partless N (suc k) items h.1
partless N k (output vs ∷ items) h = partless N k items h.1
partless N k (care w ∷ items) h = partless N k items h.1
partless N k (register vs ∷ items) h = absurd (stage_registerless h.0.has)
partless N k (element vs ∷ items) h = absurd (stage_elementless h.0.has)

fits-without : (f : File) (most : Limits) (n : ℕ) (items : List Item) → FileFits f most n items → FileFits f most n (without_care items)
fits-without f most n items h = record {
  inputs_in = h.inputs_in;
  inputs_byte = h.inputs_byte;
  gates_in_holds = rw (same-gates items) h.gates_in_holds;
  outputs_in_holds = rw (same-outputs items) h.outputs_in_holds;
  care_in_holds = rw (no_words items) tt;
  registers_in = rw (same_parts items) h.registers_in;
  elements_in = rw (same_parts items) h.elements_in;
  items_fit = rw (same-gates items, same_parts items) (fit_without f (nets_in n items) 0 items h.items_fit);
}

-- ---- the answer

-- the verdict and the row after the call
abbrev pub row_answer : List ℕ → List ℕ → Verdict × List ℕ
row_answer stage row = (row_verdict stage row, row_after stage row)

-- by a content
abbrev answer_for : Content → List ℕ → Verdict × List ℕ
answer_for c row = let v = judge (row_checks c row) in (v, cond (eqb v.number 0) (settled_bytes c row) row)

module _ (n : ℕ) (items : List Item) (fits : FileFits file.Stage stage_limits n items) (row : List ℕ) where
  written-answer : row_answer (write_file file.Stage n items) row ≡ answer_for (record { inputs = n; gates = gates_in items; outputs = outputs_in items; care = care_in items; parts = [] }) row
  unfolding judge first refusal row_after
  written-answer = rw (read-write file.Stage stage_limits n items fits) (ap (λ (c : Content). answer_for c row) (sym (rw (read-write file.Stage stage_limits n items fits) at (sym (items_content file.Stage stage_limits n items (partless (nets_in n items) 0 items fits.items_fit) fits)))))

-- a file that is written, with its care commands and without them
pub row_without_care : (n : ℕ) (items : List Item) → FileFits file.Stage stage_limits n items → (row : List ℕ) → row_answer (write_file file.Stage n items) row ≡ row_answer (write_file file.Stage n (without_care items)) row
unfolding row_checks looped settled_bytes
row_without_care n items fits row =
    written-answer n items fits row
    ∙ (λ i. answer_for (record { inputs = n; gates = sym (same-gates items) i; outputs = sym (same-outputs items) i; care = sym (no_words items) i; parts = [] }) row)
    ∙ sym (written-answer n (without_care items) (fits-without file.Stage stage_limits n items fits) row)

-- any readable stage file, by the items that it holds
pub readable_without_care : (s : List ℕ) → Bytes s → (p : Places) (h : Holds file.Stage stage_limits s p) (row : List ℕ) →
    row_answer s row ≡ row_answer (write_file file.Stage p.inputs (without_care h.items)) row
readable_without_care s small p h row = ap (λ (b : List ℕ). row_answer b row) (h.bytes small) ∙ row_without_care p.inputs h.items (h.fits small) row
