-- What a readable file holds is what the code has loaded of it, and is written as the code writes it.
-- Assumes nothing.
use Prim.Native.Nat.{ℕ, ◌+◌}
use native.Mathlib.Omega.{arith}
use mathlib.Core.Path.{◌≡◌, refl, sym, ap, ap₂, ◌∙◌}
use mathlib.Core.List.{List, [], ◌∷◌, ◌++◌, map, map-map}
use Rattle.netlist.specs.declared.File.TheVariants as file
use Rattle.netlist.specs.declared.Limits.{Limits}
use Rattle.netlist.specs.Bytes.{operand, operands}
use Rattle.netlist.specs.Reading.{Places, nets_of, readable, read_file}
use Rattle.netlist.specs.Content.{Stage, Reference, coded_at, gate_of, pair_at, stage_of, reference_of}
use Rattle.netlist.specs.Writing as items
use Rattle.netlist.specs.Writing.{Item, gate, output, care, coded_gate, pair_operands, stage_items, reference_items, write_stage, write_reference}
use Rattle.netlist.proofs.Lists.{map_back}
use Rattle.netlist.proofs.Formed.{readable_formed}
use Rattle.netlist.proofs.Stages as stages
use Rattle.netlist.proofs.Stages.{known_again}
use Rattle.netlist.proofs.References as references
use Rattle.netlist.proofs.References.{no_care}
use Rattle.wiring_spec.specs.Parts.{part_at}
use Rattle.check_spec.specs.Content.{content_at, content_of}
use Rattle.check_spec.specs.Loaded.{from_stage, from_reference}
use Rattle.check_spec.specs.Writing.{write_file}
use Rattle.check_spec.proofs.Writing.{stage_bytes, reference_bytes}

module _ (most : Limits) (bytes : List ℕ) (p : Places) where
  pub stage_content : read_file file.Stage most bytes ≡ readable p → content_of file.Stage most bytes ≡ from_stage (stage_of bytes p)
  unfolding content_at stage_of operands
  stage_content e = ap (content_at file.Stage bytes) e ∙ (λ i. record { inputs = p.inputs; gates = sym gates i; outputs = outputs p.outputs i; care = p.care; parts = ap (map (part_at bytes)) (stages.no_parts most bytes p e) i })
    where
      gates : map coded_gate (map (λ at. gate_of (coded_at file.Stage bytes at)) p.gates) ≡ map (coded_at file.Stage bytes) p.gates
      gates = ap (map coded_gate) (sym (map-map gate_of (coded_at file.Stage bytes) p.gates))
          ∙ map_back coded_gate gate_of (map (coded_at file.Stage bytes) p.gates) (known_again (nets_of p) 0 (map (coded_at file.Stage bytes) p.gates) (readable_formed file.Stage most bytes p e).0)

      outputs : (places : List ℕ) → map (λ at. operands bytes (at + 1) 2) places ≡ map pair_operands (map (pair_at bytes) places)
      outputs [] = refl
      outputs (at ∷ places) = let e : at + 1 + 2 ≡ at + 3 = omega arith in rw e (ap (λ (l : List (List ℕ)). pair_operands (pair_at bytes at) ∷ l) (outputs places))

  pub reference_content : read_file file.Reference most bytes ≡ readable p → content_of file.Reference most bytes ≡ from_reference (reference_of bytes p)
  unfolding content_at reference_of operands
  reference_content e =
      ap (content_at file.Reference bytes) e
      ∙ (λ i. record {
        inputs = p.inputs;
        gates = map (coded_at file.Reference bytes) p.gates;
        outputs = sym (map-map (λ (v : ℕ). v ∷ []) (λ at. operand bytes (at + 1)) p.outputs) i;
        care = no_care most bytes p e i;
        parts = ap (map (part_at bytes)) (references.no_parts most bytes p e) i;
      })

-- ---- bytes

pub stage_write : (s : Stage) → write_file file.Stage (from_stage s) ≡ write_stage s
unfolding write_stage
stage_write s = stage_bytes (from_stage s) ∙ ap (items.write_file file.Stage s.inputs)
    (ap₂ (λ (a b : List Item). map care s.care ++ (a ++ b)) (map-map gate coded_gate s.gates) (map-map output pair_operands s.outputs))

pub reference_write : (r : Reference) → write_file file.Reference (from_reference r) ≡ write_reference r
unfolding write_reference
reference_write r = reference_bytes (from_reference r) refl ∙ ap (items.write_file file.Reference r.inputs) (ap (λ (b : List Item). map gate r.gates ++ b) (map-map output (λ (v : ℕ). v ∷ []) r.outputs))
