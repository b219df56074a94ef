-- The two files of the whole: how long they are, and that their parts, put one after the other, are they.
-- Assumes nothing.
use Prim.Native.Nat.{ℕ, ◌+◌, ◌*◌}
use native.Mathlib.Omega.{arith}
use mathlib.Core.Path.{◌≡◌, refl, sym, ap, ap₂, ◌∙◌, fun_ext}
use mathlib.Core.List.{List, [], ◌∷◌, ◌++◌, map, append_assoc}
use lib.ListN.{length, length-append, length-map}
use borrow.Author.Tests.{le-ltb}
use Rattle.netlist.specs.declared.File.TheVariants as file
use Rattle.netlist.specs.declared.Counts.{Counts}
use Rattle.netlist.specs.Content.{Coded, Gate, Pair, Stage, Reference}
use Rattle.netlist.specs.Formed.{nets}
use Rattle.netlist.specs.Writing.{gate, care, coded_gate, pair_operands, write_stage, write_reference}
use Rattle.write_joined.specs.Whole.{net_in_whole, gate_in_whole, pair_in_whole, joined_stage, signal_in_whole, operation_in_whole, joined_reference}
use Rattle.write_command.specs.Put.{Put}
use Rattle.write_command.specs.Parts.{gate_item, pair_item, signal_item, bytes_of}
use Rattle.write_command.proofs.Joining.{put-++}
use Rattle.write_command.proofs.Files.{bytes-++, bytes_length, care_width, stage_gate_width, stage_output_width}
use Rattle.write_command.proofs.Files.{reference_gate_width, reference_output_width, stage_parts, stage_length, reference_parts, reference_length}
use Rattle.circuit.specs.Stage.{stage_gates, stage_outputs, stage_care, stage_in}
use Rattle.circuit.specs.Reference.{operators_in, signals_in, reference_in}
use Rattle.circuit.proofs.Tabulate.{length_tabulate}
use Rattle.write_joined.specs.declared.Move.{Move}
use Rattle.write_joined.specs.Moved.{net_moved, gate_moved, pair_moved, signal_moved, operation_moved}
use Rattle.write_command.proofs.Putting.{put_same}

-- ---- lists

same-list : {X : Type 0} (f : X → X) → ((x : X) → f x ≡ x) → (xs : List X) → map f xs ≡ xs
same-list f e [] = refl
same-list f e (x ∷ xs) = ap₂ (λ (y : _) (ys : List _). y ∷ ys) (e x) (same-list f e xs)

-- ---- counts of the flat forms

module _ (c : Counts) (code : List ℕ) where
  pub gates_count : length (stage_gates c code) ≡ c.gates
  unfolding stage_gates
  gates_count = length_tabulate _ c.gates

  pub outputs_count : length (stage_outputs c code) ≡ c.outputs
  unfolding stage_outputs
  outputs_count = length_tabulate _ c.outputs

  pub care_count : length (stage_care c code) ≡ c.care
  unfolding stage_care
  care_count = length_tabulate _ c.care

  pub operators_count : length (operators_in c code) ≡ c.gates
  unfolding operators_in
  operators_count = length_tabulate _ c.gates

  pub signals_count : length (signals_in c code) ≡ c.outputs
  unfolding signals_in
  signals_count = length_tabulate _ c.outputs

-- ---- lengths

pub stage_long : (first second : Stage) → length (write_stage (joined_stage first second))
    ≡ 3 + 3 * length first.care + 10 * (length first.gates + length second.gates) + 5 * length second.outputs
unfolding joined_stage
stage_long first second = omega (
  arith,
  stage_length (joined_stage first second),
  length-append first.gates (map (gate_in_whole first second) second.gates),
  length-map second.gates (gate_in_whole first second),
  length-map second.outputs (pair_in_whole first second),
)

pub reference_long : (first second : Reference) → length (write_reference (joined_reference first second))
    ≡ 3 + 6 * (length first.gates + length second.gates) + 3 * length second.outputs
unfolding joined_reference
reference_long first second = omega (
  arith,
  reference_length (joined_reference first second),
  length-append first.gates (map (operation_in_whole first second) second.gates),
  length-map second.gates (operation_in_whole first second),
  length-map second.outputs (signal_in_whole first second),
)

module _ (sizes : Counts) (first : List ℕ) (counts : Counts) (second : List ℕ) where
  pub stage_long_in : length (write_stage (joined_stage (stage_in sizes first) (stage_in counts second)))
      ≡ 3 + 3 * sizes.care + 10 * (sizes.gates + counts.gates) + 5 * counts.outputs
  stage_long_in = omega (
    arith,
    stage_long (stage_in sizes first) (stage_in counts second),
    care_count sizes first,
    gates_count sizes first,
    gates_count counts second,
    outputs_count counts second,
  )

  pub reference_long_in : length (write_reference (joined_reference (reference_in sizes first) (reference_in counts second)))
      ≡ 3 + 6 * (sizes.gates + counts.gates) + 3 * counts.outputs
  reference_long_in = omega (
    arith,
    reference_long (reference_in sizes first) (reference_in counts second),
    operators_count sizes first,
    operators_count counts second,
    signals_count counts second,
  )

-- ---- moves

module _ (first : Stage) (m : Move) where
  -- the first part stays
  pub gates_stay : m.inputs ≡ 0 → m.start ≡ 0 → (gates : List Gate) → map (gate_moved first m) gates ≡ gates
  unfolding net_moved
  gates_stay e s gates = same-list (gate_moved first m) (λ g. ap (λ (pins : List ℕ). record { cell = g.cell; hold = g.hold; pins = pins }) (same-list (net_moved first m) stay g.pins)) gates
    where
      stay : (net : ℕ) → net_moved first m net ≡ net
      stay net = rw (e, s, le-ltb net 0 (omega arith)) (omega arith)

  -- the second follows it
  module _ (second : Stage) where
    nets-move : m.inputs ≡ second.inputs → m.start ≡ nets first → net_moved first m ≡ net_in_whole first second
    unfolding net_moved net_in_whole
    nets-move e s = fun_ext (λ net. rw (e, s))

    pub gates_move : m.inputs ≡ second.inputs → m.start ≡ nets first → (gates : List Gate) → map (gate_moved first m) gates ≡ map (gate_in_whole first second) gates
    gates_move e s gates = ap (λ (move : ℕ → ℕ). map (λ (g : Gate). record { cell = g.cell; hold = g.hold; pins = map move g.pins }) gates) (nets-move e s)

    pub pairs_move : m.inputs ≡ second.inputs → m.start ≡ nets first → (pairs : List Pair) → map (pair_moved first m) pairs ≡ map (pair_in_whole first second) pairs
    pairs_move e s pairs = ap (λ (move : ℕ → ℕ). map (λ (p : Pair). record { rail0 = move p.rail0; rail1 = move p.rail1 }) pairs) (nets-move e s)

module _ (first : Reference) (m : Move) where
  pub operations_stay : m.inputs ≡ 0 → m.start ≡ 0 → (gates : List Coded) → map (operation_moved first m) gates ≡ gates
  unfolding signal_moved
  operations_stay e s gates = same-list (operation_moved first m) (λ g. ap (λ (vs : List ℕ). record { code = g.code; operands = vs }) (same-list (signal_moved first m) stay g.operands)) gates
    where
      stay : (signal : ℕ) → signal_moved first m signal ≡ signal
      stay signal = rw (e, s, le-ltb signal 0 (omega arith)) (omega arith)

  module _ (second : Reference) where
    signals_move_all : m.inputs ≡ second.inputs → m.start ≡ first.inputs + length first.gates → signal_moved first m ≡ signal_in_whole first second
    unfolding signal_moved signal_in_whole
    signals_move_all e s = fun_ext (λ signal. rw (e, s))

    pub operations_move : m.inputs ≡ second.inputs → m.start ≡ first.inputs + length first.gates → (gates : List Coded) →
        map (operation_moved first m) gates ≡ map (operation_in_whole first second) gates
    operations_move e s gates = ap (λ (move : ℕ → ℕ). map (λ (g : Coded). record { code = g.code; operands = map move g.operands }) gates) (signals_move_all e s)

    pub signals_move : m.inputs ≡ second.inputs → m.start ≡ first.inputs + length first.gates → (signals : List ℕ) →
        map (signal_moved first m) signals ≡ map (signal_in_whole first second) signals
    signals_move e s signals = ap (λ (move : ℕ → ℕ). map move signals) (signals_move_all e s)

-- ---- the parts, one after the other

-- where the parts of the joined stage begin
pub record StagePlaces (first second : Stage) (p1 p2 p3 p4 p5 : ℕ) : Type 0 where
  pub cares : p1 ≡ 2
  pub gates : p2 ≡ p1 + 3 * length first.care
  pub gates2 : p3 ≡ p2 + 10 * length first.gates
  pub outputs : p4 ≡ p3 + 10 * length second.gates
  pub end : p5 ≡ p4 + 5 * length second.outputs

module _ (first second : Stage) {b0 b1 b2 b3 b4 b5 b6 : List ℕ} {p1 p2 p3 p4 p5 : ℕ} where
  pub stage_put : Put b0 0 (0x01 ∷ first.inputs ∷ []) b1 → Put b1 p1 (bytes_of file.Stage care first.care) b2 →
      Put b2 p2 (bytes_of file.Stage gate_item first.gates) b3 → Put b3 p3 (bytes_of file.Stage gate_item (map (gate_in_whole first second) second.gates)) b4 →
      Put b4 p4 (bytes_of file.Stage pair_item (map (pair_in_whole first second) second.outputs)) b5 → Put b5 p5 (0x00 ∷ []) b6 →
      StagePlaces first second p1 p2 p3 p4 p5 → Put b0 0 (write_stage (joined_stage first second)) b6
  unfolding joined_stage
  stage_put a b c d e f at =
      let cares = bytes_of file.Stage care first.care in
      let gates = bytes_of file.Stage gate_item first.gates in
      let gates2 = bytes_of file.Stage gate_item (map (gate_in_whole first second) second.gates) in
      let outputs = bytes_of file.Stage pair_item (map (pair_in_whole first second) second.outputs) in
      let whole : write_stage (joined_stage first second) ≡ (0x01 ∷ first.inputs ∷ []) ++ (cares ++ (gates ++ (gates2 ++ (outputs ++ (0x00 ∷ []))))) =
      stage_parts (joined_stage first second)
      ∙ ap (λ (l : List ℕ). (0x01 ∷ first.inputs ∷ []) ++ (cares ++ l))
      (ap (λ (l : List ℕ). l ++ (outputs ++ (0x00 ∷ []))) (bytes-++ file.Stage gate_item first.gates (map (gate_in_whole first second) second.gates))
      ∙ append_assoc gates gates2 (outputs ++ (0x00 ∷ []))) in
      put_same (sym whole)
      (put-++ a (put-++ b (put-++ c (put-++ d (put-++ e f
      (at.end ∙ ap (λ (n : ℕ). p4 + n) (sym (bytes_length file.Stage pair_item 5 (λ p. stage_output_width (pair_operands p)) _ ∙ ap (λ (n : ℕ). 5 * n) (length-map second.outputs
      (pair_in_whole first second))))))
      (at.outputs ∙ ap (λ (n : ℕ). p3 + n) (sym (bytes_length file.Stage gate_item 10 (λ g. stage_gate_width (coded_gate g)) _ ∙ ap (λ (n : ℕ). 10 * n) (length-map second.gates
      (gate_in_whole first second))))))
      (at.gates2 ∙ ap (λ (n : ℕ). p2 + n) (sym (bytes_length file.Stage gate_item 10 (λ g. stage_gate_width (coded_gate g)) first.gates))))
      (at.gates ∙ ap (λ (n : ℕ). p1 + n) (sym (bytes_length file.Stage care 3 care_width first.care))))
      at.cares)

-- where the parts of the joined reference begin
pub record ReferencePlaces (first second : Reference) (p1 p2 p3 p4 : ℕ) : Type 0 where
  pub gates : p1 ≡ 2
  pub gates2 : p2 ≡ p1 + 6 * length first.gates
  pub outputs : p3 ≡ p2 + 6 * length second.gates
  pub end : p4 ≡ p3 + 3 * length second.outputs

module _ (first second : Reference) {b0 b1 b2 b3 b4 b5 : List ℕ} {p1 p2 p3 p4 : ℕ} where
  pub reference_put : Put b0 0 (0x01 ∷ first.inputs ∷ []) b1 → Put b1 p1 (bytes_of file.Reference gate first.gates) b2 →
      Put b2 p2 (bytes_of file.Reference gate (map (operation_in_whole first second) second.gates)) b3 →
      Put b3 p3 (bytes_of file.Reference signal_item (map (signal_in_whole first second) second.outputs)) b4 → Put b4 p4 (0x00 ∷ []) b5 →
      ReferencePlaces first second p1 p2 p3 p4 → Put b0 0 (write_reference (joined_reference first second)) b5
  unfolding joined_reference
  reference_put a c d e f at =
      let gates = bytes_of file.Reference gate first.gates in
      let gates2 = bytes_of file.Reference gate (map (operation_in_whole first second) second.gates) in
      let outputs = bytes_of file.Reference signal_item (map (signal_in_whole first second) second.outputs) in
      let whole : write_reference (joined_reference first second) ≡ (0x01 ∷ first.inputs ∷ []) ++ (gates ++ (gates2 ++ (outputs ++ (0x00 ∷ [])))) =
      reference_parts (joined_reference first second)
      ∙ ap (λ (l : List ℕ). (0x01 ∷ first.inputs ∷ []) ++ l)
      (ap (λ (l : List ℕ). l ++ (outputs ++ (0x00 ∷ []))) (bytes-++ file.Reference gate first.gates (map (operation_in_whole first second) second.gates))
      ∙ append_assoc gates gates2 (outputs ++ (0x00 ∷ []))) in
      put_same (sym whole)
      (put-++ a (put-++ c (put-++ d (put-++ e f
      (at.end ∙ ap (λ (n : ℕ). p3 + n) (sym (bytes_length file.Reference signal_item 3 (λ v. reference_output_width (v ∷ [])) _ ∙ ap (λ (n : ℕ). 3 * n) (length-map second.outputs
      (signal_in_whole first second))))))
      (at.outputs ∙ ap (λ (n : ℕ). p2 + n) (sym (bytes_length file.Reference gate 6 reference_gate_width _ ∙ ap (λ (n : ℕ). 6 * n) (length-map second.gates (operation_in_whole first second))))))
      (at.gates2 ∙ ap (λ (n : ℕ). p1 + n) (sym (bytes_length file.Reference gate 6 reference_gate_width first.gates))))
      at.gates)
