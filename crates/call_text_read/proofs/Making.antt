-- The stage file of a text as it is put part by part, and that outputs beyond those that are put do not change what the call leaves.
-- Assumes nothing.
use Prim.Native.Nat.{ℕ, ◌+◌, ◌*◌, ◌-◌, ◌≤◌, ◌<◌}
use native.Mathlib.Omega.{arith}
use native.Mathlib.Decide.{dec_lt}
use mathlib.Core.Path.{◌≡◌, refl, sym, ap, ap₂, ◌∙◌}
use mathlib.Core.List.{List, [], ◌∷◌, ◌++◌, map, append_assoc}
use lib.ListN.{length, take, drop, length-append}
use lib.Seq.{take_all, length-take-le}
use Rattle.netlist.specs.declared.File.TheVariants as file
use Rattle.netlist.specs.Commands.{command_table, own_commands, form_in}
use Rattle.netlist.specs.Reading.{Reading, refused, readable, read_file, stage_limits}
use Rattle.netlist.specs.Writing.{write_item, write_file}
use Rattle.netlist.proofs.Readable.{readable_length}
use Rattle.write_command.specs.Put.{Put}
use Rattle.write_command.specs.Parts.{bytes_of}
use Rattle.verdict.specs.Written.{Written}
use Rattle.write_command.proofs.Files.{bytes_length, stage_gate_width, stage_output_width}
use Rattle.write_command.proofs.Joining.{put-++, put_holding}
use Rattle.verdict.proofs.Written.{holding_take}
use Rattle.write_command.proofs.Putting.{put_same}
use Rattle.text_spec.specs.Characters.{newline, comma}
use Rattle.text_spec.specs.Lines.{split, GateLine, Text}
use Rattle.text_spec.specs.FromText.{drivers, coded_line, pair_named, file_of, unless_refused, if_room}
use Rattle.text_spec.specs.Call.{leaves}
use Rattle.text_scan.specs.Pieces.{before}
use Rattle.text_names.specs.Tailed.{drivers_of}
use Rattle.text_names.proofs.Ends.{text_parts, lines_inside}
use Rattle.text_read.specs.Parts.{gate_lines_in, line_item, name_item, outputs_put, cut_file, made_leaves}
use Rattle.text_read.proofs.Cut.{items_join, cut_reads}
use Rattle.call_text_read.specs.Counted.{saying, TextCounted, Few, work_length, file_leaves}

-- how many outputs are put
outputs-few : (os : List (List ℕ)) → length (outputs_put os) ≤ 1145
outputs-few os = go (dec_lt 1145 (length os))
  where
    go : Dec (1145 < length os) → length (outputs_put os) ≤ 1145
    go (yes h) = omega (arith, length-take-le 1145 os (omega arith))
    go (no h) = omega (arith, h, ap length (take_all 1145 os (omega (arith, h))))

module _ (t : Text) where
  abbrev ds : List (List ℕ)
  ds = drivers t

  abbrev gate_bytes : List ℕ
  gate_bytes = bytes_of file.Stage (line_item ds) t.gates

  abbrev output_bytes : List ℕ
  output_bytes = bytes_of file.Stage (name_item ds) (outputs_put t.outputs)

  line_wide : (g : GateLine) → length (write_item file.Stage (line_item ds g)) ≡ 10
  line_wide g = stage_gate_width (coded_line ds g)

  name_wide : (n : List ℕ) → length (write_item file.Stage (name_item ds n)) ≡ 5
  name_wide n = stage_output_width (pair_named ds n)

  gates_long : length gate_bytes ≡ 10 * length t.gates
  gates_long = bytes_length file.Stage (line_item ds) 10 line_wide t.gates

  outputs_long : length output_bytes ≡ 5 * length (outputs_put t.outputs)
  outputs_long = bytes_length file.Stage (name_item ds) 5 name_wide (outputs_put t.outputs)

  -- inputs, gates, outputs, end
  cut_parts : cut_file t ≡ (0x01 ∷ length t.inputs ∷ []) ++ (gate_bytes ++ (output_bytes ++ (0x00 ∷ [])))
  unfolding cut_file write_file bytes_of
  cut_parts =
      ap (λ (l : List ℕ). 0x01 ∷ length t.inputs ∷ l)
      (ap (λ (l : List ℕ). l ++ (0x00 ∷ [])) (items_join (map (line_item ds) t.gates) (map (name_item ds) (outputs_put t.outputs)))
      ∙ append_assoc gate_bytes output_bytes (0x00 ∷ []))

  pub cut-length : length (cut_file t) ≡ 3 + 10 * length t.gates + 5 * length (outputs_put t.outputs)
  cut-length =
      omega (arith, ap length cut_parts, length-append gate_bytes (output_bytes ++ (0x00 ∷ [])), length-append output_bytes (0x00 ∷ []), gates_long, outputs_long)

  pub file_put : {w₀ w₁ w₂ w₃ w₄ : List ℕ} {at end : ℕ} (n : ℕ) → n ≡ length t.inputs → Put w₀ 0 (0x01 ∷ n ∷ []) w₁ → Put w₁ 2 gate_bytes w₂ →
      at ≡ 2 + 10 * length t.gates → Put w₂ at output_bytes w₃ → end ≡ at + 5 * length (outputs_put t.outputs) → Put w₃ end (0x00 ∷ []) w₄ →
      (end + 1 ≡ length (cut_file t)) × Put w₀ 0 (cut_file t) w₄
  file_put n i p g e o f z = (
    omega (arith, cut-length),
    put_same (ap (λ (k : ℕ). (0x01 ∷ k ∷ []) ++ (gate_bytes ++ (output_bytes ++ (0x00 ∷ [])))) i ∙ sym cut_parts)
        (put-++ p (put-++ g (put-++ o z (omega (arith, f, outputs_long))) (omega (arith, e, gates_long))) refl),
  )

  -- ---- what is left in the buffer

  -- the file with all outputs and the file with those that are put are read alike
  reads_alike : read_file file.Stage stage_limits (file_of t) ≡ read_file file.Stage stage_limits (cut_file t)
  unfolding file_of cut_file
  reads_alike = cut_reads (name_item ds) name_wide (length t.inputs) (map (line_item ds) t.gates) t.outputs

  pub made_alike : (buffer : List ℕ) → made_leaves (cut_file t) buffer ≡ file_leaves t buffer
  unfolding unless_refused cut_file file_of command_table own_commands form_in
  made_alike buffer = go (dec_lt 1145 (length t.outputs))
    where
      answer : Reading → List ℕ → Written
      answer r made = leaves (unless_refused r (if_room (length buffer) made)) buffer

      -- more outputs than are put: such a file is never readable, since it is too long
      long : 1145 < length t.outputs → (r : Reading) → read_file file.Stage stage_limits (cut_file t) ≡ r → answer r (cut_file t) ≡ answer r (file_of t)
      long h (refused number at) e = refl
      long h (readable p) e =
          absurd (omega (arith, readable_length file.Stage stage_limits (cut_file t) p e, cut-length, length-take-le 1145 t.outputs (omega arith)))

      go : Dec (1145 < length t.outputs) → made_leaves (cut_file t) buffer ≡ file_leaves t buffer
      go (yes h) =
          long h (read_file file.Stage stage_limits (cut_file t)) refl ∙ ap (λ (r : Reading). answer r (file_of t)) (sym reads_alike)
      go (no h) =
          ap (λ (os : List (List ℕ)). made_leaves (write_file file.Stage (length t.inputs) (map (line_item ds) t.gates ++ map (name_item ds) os)) buffer)
          (take_all 1145 t.outputs (omega (arith, h)))

  -- the bytes that are read back are those that were put
  pub put_taken : {w₀ w : List ℕ} (count : ℕ) → count ≡ length (cut_file t) → Put w₀ 0 (cut_file t) w → length (cut_file t) ≤ length w₀ → take count w ≡ cut_file t
  put_taken {w₀} count e p room = ap₂ {C = List ℕ} (λ (k : ℕ) (l : List ℕ). take k l) e (put_holding p room) ∙ holding_take (cut_file t) w₀

-- ---- of a text whose inputs and gates are counted

module _ {s : List ℕ} {inputs gates : ℕ} (h : TextCounted s inputs gates) where
  pub cut_fits : Few inputs gates → length (cut_file (saying s)) ≤ work_length
  cut_fits few = omega (arith, cut-length (saying s), outputs-few (saying s).outputs, h.gates_are, few.gates_in_holds)

  -- n is the length of line 0, m that of line 1
  module _ (n m : ℕ) (e : n ≡ before newline s) (d : m ≡ before newline (take (length s - (n + 1)) (drop (n + 1) s))) where
    abbrev line₁ : List ℕ
    line₁ = take (n + 1 + m - (n + 1)) (drop (n + 1) s)

    abbrev gate_text : List ℕ
    gate_text = drop (n + 1 + m + 1) s

    gates_are : gate_lines_in gate_text ≡ (saying s).gates
    gates_are = sym (ap (λ (t : Text). t.gates) (text_parts s h.formed n m e d))

    outputs_are : split comma line₁ ≡ (saying s).outputs
    outputs_are = sym (ap (λ (t : Text). t.outputs) (text_parts s h.formed n m e d))

    pub lines_fit : (n + 1 ≤ length s) × (n + 1 + m + 1 ≤ length s)
    lines_fit = lines_inside s h.formed n m e d

    pub gates_counted : length (gate_lines_in gate_text) ≡ gates
    gates_counted = ap length gates_are ∙ sym h.gates_are

    pub outputs_counted : length (outputs_put (split comma line₁)) ≤ 1145
    outputs_counted = outputs-few (split comma line₁)

    pub lines_put : {w₀ w₁ w₂ w₃ w₄ : List ℕ} {at end : ℕ} → Put w₀ 0 (0x01 ∷ inputs ∷ []) w₁ →
        (at ≡ 2 + 10 * length (gate_lines_in gate_text)) × Put w₁ 2 (bytes_of file.Stage (line_item (drivers_of s)) (gate_lines_in gate_text)) w₂ →
        (end ≡ at + 5 * length (outputs_put (split comma line₁))) × Put w₂ at (bytes_of file.Stage (name_item (drivers_of s)) (outputs_put (split comma line₁))) w₃ →
        Put w₃ end (0x00 ∷ []) w₄ → (end + 1 ≡ length (cut_file (saying s))) × Put w₀ 0 (cut_file (saying s)) w₄
    lines_put {at = at} p (e₁, g) (e₂, o) z =
        file_put (saying s) inputs h.inputs_are p
        (put_same (ap (bytes_of file.Stage (line_item (drivers_of s))) gates_are) g)
        (e₁ ∙ ap (λ (l : List GateLine). 2 + 10 * length l) gates_are)
        (put_same (ap (λ (l : List (List ℕ)). bytes_of file.Stage (name_item (drivers_of s)) (outputs_put l)) outputs_are) o)
        (e₂ ∙ ap (λ (l : List (List ℕ)). at + 5 * length (outputs_put l)) outputs_are)
        z
