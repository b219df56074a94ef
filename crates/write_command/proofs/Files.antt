-- The files of a stage and of a reference as they are put command by command: their parts, their lengths, and operands that are absent.
-- Assumes nothing.
use Prim.Native.Nat.{ℕ, zero, suc, ◌+◌, ◌*◌, ◌/◌, ◌%◌}
use native.Mathlib.Omega.{arith}
use mathlib.Core.Path.{◌≡◌, refl, sym, ap, ◌∙◌}
use mathlib.Core.List.{List, [], ◌∷◌, ◌++◌, map, append_assoc}
use lib.ListN.{length, replicate, length-append}
use Rattle.netlist.specs.declared.File.{File}
use Rattle.netlist.specs.declared.File.TheVariants as file
use Rattle.netlist.specs.declared.Sort.TheVariants as sort
use Rattle.netlist.specs.Bytes.{absent}
use Rattle.netlist.specs.Commands.{command_table, own_commands, form_in}
use Rattle.netlist.specs.Content.{Coded, Stage, Reference}
use Rattle.netlist.specs.Writing.{Item, gate, output, care, command_byte, coded_gate, pair_operands, operand_count, write_operands, write_item, write_items, write_file, write_stage, write_reference}
use Rattle.netlist.proofs.Operands.{length_written}
use Rattle.write_command.specs.Put.{coded}
use Rattle.write_command.specs.Parts.{gate_item, pair_item, signal_item, bytes_of}

-- ---- operands that are absent

-- one that is absent is written as FFFF, and so is one that is not there
pub operands_absent : (k : ℕ) (vs : List ℕ) (m : ℕ) → write_operands k (vs ++ replicate m absent) ≡ write_operands k vs
operands_absent zero vs m = refl
operands_absent (suc k) (v ∷ vs) m = ap (λ (l : List ℕ). v % 256 ∷ v / 256 ∷ l) (operands_absent k vs m)
operands_absent (suc k) [] zero = refl
operands_absent (suc k) [] (suc m) = ap (λ (l : List ℕ). 0xFF ∷ 0xFF ∷ l) (operands_absent k [] m)

-- so a gate is put with FFFF behind the operands that it has
pub gate_absent : (f : File) (code : ℕ) (vs : List ℕ) (m : ℕ) → write_item f (gate (coded code (vs ++ replicate m absent))) ≡ write_item f (gate (coded code vs))
gate_absent f code vs m = ap (λ (l : List ℕ). command_byte f sort.Gate ∷ code ∷ l) (operands_absent (operand_count f sort.Gate) vs m)

-- ---- some items of one sort

items-++ : (f : File) (xs ys : List Item) → write_items f (xs ++ ys) ≡ write_items f xs ++ write_items f ys
items-++ f [] ys = refl
items-++ f (x ∷ xs) ys = ap (λ (l : List ℕ). write_item f x ++ l) (items-++ f xs ys) ∙ sym (append_assoc (write_item f x) (write_items f xs) (write_items f ys))

module _ {X : Type 0} (f : File) (item : X → Item) where
  pub bytes-++ : (xs ys : List X) → bytes_of f item (xs ++ ys) ≡ bytes_of f item xs ++ bytes_of f item ys
  unfolding bytes_of
  bytes-++ [] ys = refl
  bytes-++ (x ∷ xs) ys =
      ap (λ (l : List ℕ). write_item f (item x) ++ l) (bytes-++ xs ys) ∙ sym (append_assoc (write_item f (item x)) (bytes_of f item xs) (bytes_of f item ys))

  -- each as wide as the other
  pub bytes_length : (w : ℕ) → ((x : X) → length (write_item f (item x)) ≡ w) → (xs : List X) → length (bytes_of f item xs) ≡ w * length xs
  unfolding bytes_of
  bytes_length w each [] = omega arith
  bytes_length w each (x ∷ xs) =
      let a = length-append (write_item f (item x)) (bytes_of f item xs) in
      let b = bytes_length w each xs in
      let e = each x in
      omega arith

-- ---- widths

pub care_width : (w : ℕ) → length (write_item file.Stage (care w)) ≡ 3
unfolding command_table own_commands form_in
care_width w = refl

pub stage_gate_width : (c : Coded) → length (write_item file.Stage (gate c)) ≡ 10
unfolding command_table own_commands form_in
stage_gate_width c = ap (λ (n : ℕ). suc (suc n)) (length_written 4 c.operands)

pub stage_output_width : (vs : List ℕ) → length (write_item file.Stage (output vs)) ≡ 5
unfolding command_table own_commands form_in
stage_output_width vs = ap (λ (n : ℕ). suc n) (length_written 2 vs)

pub reference_gate_width : (c : Coded) → length (write_item file.Reference (gate c)) ≡ 6
unfolding command_table own_commands form_in
reference_gate_width c = ap (λ (n : ℕ). suc (suc n)) (length_written 2 c.operands)

pub reference_output_width : (vs : List ℕ) → length (write_item file.Reference (output vs)) ≡ 3
unfolding command_table own_commands form_in
reference_output_width vs = ap (λ (n : ℕ). suc n) (length_written 1 vs)

-- ---- whole files

-- inputs, care words, gates, outputs, end
module _ {G O : Type 0} (f : File) (gate_of : G → Item) (output_of : O → Item) (n : ℕ) (ws : List ℕ) (gs : List G) (os : List O) where
  pub file_parts : write_file f n (map care ws ++ (map gate_of gs ++ map output_of os)) ≡
      (0x01 ∷ n ∷ []) ++ (bytes_of f care ws ++ (bytes_of f gate_of gs ++ (bytes_of f output_of os ++ (0x00 ∷ []))))
  unfolding write_file bytes_of
  file_parts =
      let w = write_items f in
      let cares = map care ws in
      let gates = map gate_of gs in
      let outputs = map output_of os in
      ap (λ (l : List ℕ). 0x01 ∷ n ∷ l)
      (ap (λ (l : List ℕ). l ++ (0x00 ∷ [])) (items-++ f cares (gates ++ outputs) ∙ ap (λ (l : List ℕ). w cares ++ l) (items-++ f gates outputs))
      ∙ append_assoc (w cares) (w gates ++ w outputs) (0x00 ∷ [])
      ∙ ap (λ (l : List ℕ). w cares ++ l) (append_assoc (w gates) (w outputs) (0x00 ∷ [])))

  pub file_length : (gate_width output_width : ℕ) → length (bytes_of f care ws) ≡ 3 * length ws → ((g : G) → length (write_item f (gate_of g)) ≡ gate_width)
      → ((o : O) → length (write_item f (output_of o)) ≡ output_width)
      → length (write_file f n (map care ws ++ (map gate_of gs ++ map output_of os))) ≡ 3 + 3 * length ws + gate_width * length gs + output_width * length os
  file_length gate_width output_width c g o =
      let cares = bytes_of f care ws in
      let gates = bytes_of f gate_of gs in
      let outputs = bytes_of f output_of os in
      omega (
        arith,
        ap length file_parts,
        length-append cares (gates ++ (outputs ++ (0x00 ∷ []))),
        length-append gates (outputs ++ (0x00 ∷ [])),
        length-append outputs (0x00 ∷ []),
        c,
        bytes_length f gate_of gate_width g gs,
        bytes_length f output_of output_width o os,
      )

module _ (c : Stage) where
  pub stage_parts : write_stage c ≡
      (0x01 ∷ c.inputs ∷ []) ++ (bytes_of file.Stage care c.care ++ (bytes_of file.Stage gate_item c.gates ++ (bytes_of file.Stage pair_item c.outputs ++ (0x00 ∷ []))))
  unfolding write_stage
  stage_parts = file_parts file.Stage gate_item pair_item c.inputs c.care c.gates c.outputs

  pub stage_length : length (write_stage c) ≡ 3 + 3 * length c.care + 10 * length c.gates + 5 * length c.outputs
  unfolding write_stage
  stage_length =
      file_length file.Stage gate_item pair_item c.inputs c.care c.gates c.outputs 10 5 (bytes_length file.Stage care 3 care_width c.care) (λ g. stage_gate_width (coded_gate g)) (λ p. stage_output_width (pair_operands p))

module _ (r : Reference) where
  pub reference_parts : write_reference r ≡
      (0x01 ∷ r.inputs ∷ []) ++ (bytes_of file.Reference gate r.gates ++ (bytes_of file.Reference signal_item r.outputs ++ (0x00 ∷ [])))
  unfolding write_reference bytes_of
  reference_parts = file_parts file.Reference gate signal_item r.inputs [] r.gates r.outputs

  pub reference_length : length (write_reference r) ≡ 3 + 6 * length r.gates + 3 * length r.outputs
  unfolding write_reference bytes_of
  reference_length = file_length file.Reference gate signal_item r.inputs [] r.gates r.outputs 6 3 refl reference_gate_width (λ v. reference_output_width (v ∷ []))
