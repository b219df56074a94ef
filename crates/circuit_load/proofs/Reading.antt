-- What a file that was read says of the command at each of its places, and what reading and loading leave.
-- Assumes nothing.
use Rattle.std.specs.Prelude.{Ok, Err}
use Prim.Native.Nat.{ℕ, ◌+◌, ◌*◌, ◌^◌, ◌≤◌, ◌<◌}
use native.Mathlib.Omega.{arith}
use lib.Pow.{pow_mono}
use mathlib.Core.Path.{◌≡◌, refl, sym, ap, ◌∙◌, subst}
use mathlib.Core.Bool.{Bool, true, false}
use mathlib.Core.List.{List}
use lib.ListN.{length, get_or, take, drop, length-drop}
use lib.Seq.{length-take-le, get_or-take, get_or-drop}
use Rattle.netlist.specs.declared.File.{File}
use Rattle.netlist.specs.declared.File.TheVariants as file
use Rattle.netlist.specs.declared.Limits.{Limits}
use Rattle.netlist.specs.declared.Counts.{Counts}
use Rattle.netlist.specs.Bytes.{byte, operand}
use Rattle.netlist.specs.Commands.{stage_file, command_table, own_commands, form_in, role_of, needed}
use Rattle.netlist.specs.declared.Refusal.{Refusal}
use Rattle.netlist.specs.Types.{refusal}
use Rattle.netlist.specs.Reading.{Nets, carries_data, names, Places, counts_of, nets_of, Reading, refused, readable, read_file}
use Rattle.netlist.specs.Read.{GateRead, OutputRead, Read, outcome_of}
use Rattle.netlist.specs.Content.{stage_of, reference_of}
use Rattle.netlist.proofs.Readable.{readable_read, rising_length}
use Rattle.netlist.proofs.References.{no_care}
use Rattle.read_file.specs.Files.{most_care, first_care, Placed}
use Rattle.circuit.specs.Stage.{stage_in, StageLoaded}
use Rattle.circuit.specs.Reference.{reference_in, ReferenceLoaded}
use Rattle.circuit_load.specs.Load.{places_in, FileRead, StageRead, HoldsStage, HoldsReference}

module _ (f : File) (most : Limits) (s places : List ℕ) (c : Counts) (r : FileRead f most s places c) where
  -- what there is to name
  abbrev pub nets : Nets
  nets = nets_of (places_in most c places)

  pub length_gates : length (take c.gates places) ≡ c.gates
  length_gates = length-take-le c.gates places (omega (arith, r.room, r.within.gates_in_holds))

  pub length_outputs : length (take c.outputs (drop most.gates places)) ≡ c.outputs
  length_outputs =
      length-take-le c.outputs (drop most.gates places) (omega (arith, length-drop most.gates places, r.room, r.within.outputs_in_holds))

  pub care_word : (k : ℕ) → k < c.care → get_or (take c.care (drop (first_care most) places)) k 0 ≡ get_or places (first_care most + k) 0
  care_word k h = get_or-take c.care (drop (first_care most) places) k 0 h ∙ get_or-drop (first_care most) places k 0

  pub length_care : length (take c.care (drop (first_care most) places)) ≡ c.care
  length_care = length-take-le c.care (drop (first_care most) places) (omega (arith, length-drop (first_care most) places, r.room, r.few_care))

  pub gate_at_holds : (k : ℕ) → k < c.gates → GateRead f s nets k (get_or places k 0)
  gate_at_holds k h = subst (GateRead f s nets k) (get_or-take c.gates places k 0 h) (r.read.gate_at_holds k (omega (arith, length_gates)))

  pub output_place : (j : ℕ) → j < c.outputs → get_or (take c.outputs (drop most.gates places)) j 0 ≡ get_or places (most.gates + j) 0
  output_place j h = get_or-take c.outputs (drop most.gates places) j 0 h ∙ get_or-drop most.gates places j 0

  pub output_at : (j : ℕ) → j < c.outputs → OutputRead f s nets (get_or places (most.gates + j) 0)
  output_at j h = subst (OutputRead f s nets) (output_place j h) (r.read.output_at j (omega (arith, length_outputs)))

-- ---- the command at each place

-- of a stage file, with registers or without: its bytes are in the file, its kind is known, and what it names carries data
module _ (most : Limits) (s places : List ℕ) (c : Counts) where
  abbrev Known : ℕ → Type 0
  Known k = 1 ≤ needed file.Stage (byte s (get_or places k 0 + 1))

  abbrev Pin : ℕ → ℕ → Type 0
  Pin k i = carries_data (nets_of (places_in most c places)) (operand s (get_or places k 0 + 2 + 2 * i)) ≡ true

  abbrev Rail : ℕ → ℕ → Type 0
  Rail j b = carries_data (nets_of (places_in most c places)) (operand s (get_or places (most.gates + j) 0 + 1 + 2 * b)) ≡ true

  gate-facts : (registers : Bool) → FileRead (stage_file registers) most s places c → (k : ℕ) → k < c.gates →
      (get_or places k 0 + 10 ≤ length s) × Known k × ((i : ℕ) → i < needed file.Stage (byte s (get_or places k 0 + 1)) → Pin k i)
  unfolding command_table own_commands form_in needed names role_of carries_data
  gate-facts false r k h = let g = gate_at_holds file.Stage most s places c r k h in (g.room, g.known, λ i l. rw (g.named i l))
  gate-facts true r k h = let g = gate_at_holds file.Pipeline most s places c r k h in (g.room, g.known, g.named)

  output_facts : (registers : Bool) → FileRead (stage_file registers) most s places c → (j : ℕ) → j < c.outputs →
      (get_or places (most.gates + j) 0 + 5 ≤ length s) × ((b : ℕ) → b < 2 → Rail j b)
  unfolding command_table own_commands form_in names role_of carries_data
  output_facts false r j h = let o = output_at file.Stage most s places c r j h in (o.room, λ b l. rw (o.named b l))
  output_facts true r j h = let o = output_at file.Pipeline most s places c r j h in (o.room, o.named)

  module _ (r : StageRead most s places c) where
    pub gate_room : (k : ℕ) → k < c.gates → get_or places k 0 + 10 ≤ length s
    gate_room k h = (gate-facts r.registers r.file_read k h).0

    pub kind_known : (k : ℕ) → k < c.gates → Known k
    kind_known k h = (gate-facts r.registers r.file_read k h).1

    pub pin_data : (k : ℕ) → k < c.gates → (i : ℕ) → i < needed file.Stage (byte s (get_or places k 0 + 1)) → Pin k i
    pin_data k h = (gate-facts r.registers r.file_read k h).2

    pub rails_room : (j : ℕ) → j < c.outputs → get_or places (most.gates + j) 0 + 5 ≤ length s
    rails_room j h = (output_facts r.registers r.file_read j h).0

    pub rail_data : (j : ℕ) → j < c.outputs → (b : ℕ) → b < 2 → Rail j b
    rail_data j h = (output_facts r.registers r.file_read j h).1

    pub care_room : (k : ℕ) → k < c.care → first_care most + k < length places
    unfolding most_care
    care_room k h = go r.registers r.file_read
      where
        go : (registers : Bool) → FileRead (stage_file registers) most s places c → first_care most + k < length places
        go true f = omega (arith, f.room, f.few_care)
        go false f = omega (arith, f.room, f.few_care)

-- of a reference
module _ (most : Limits) (s places : List ℕ) (c : Counts) (r : FileRead file.Reference most s places c) where
  pub operator_room : (k : ℕ) → k < c.gates → get_or places k 0 + 6 ≤ length s
  unfolding command_table own_commands form_in
  operator_room k h = (gate_at_holds file.Reference most s places c r k h).room

  pub signal_room : (j : ℕ) → j < c.outputs → get_or places (most.gates + j) 0 + 3 ≤ length s
  unfolding command_table own_commands form_in
  signal_room j h = (output_at file.Reference most s places c r j h).room

-- ---- what reading answers

-- the places that were left are those of the reading, and so are the counts
pub record WasRead (f : File) (most : Limits) (s places : List ℕ) (c : Counts) : Type 0 where
  pub file_read : FileRead f most s places c
  pub reading : read_file f most s ≡ readable (places_in most c places)
  pub counts : counts_of (places_in most c places) ≡ c

-- there are no more care words than words of the inputs, and none in a reference
few_care : (f : File) (most : Limits) (s : List ℕ) (p : Places) → read_file f most s ≡ readable p → length p.care ≤ most_care f most
unfolding most_care
few_care file.Stage most s p e =
    let r = readable_read file.Stage most s p e in
    omega (arith, rising_length (2 ^ p.inputs) 0 p.care r.care_in_holds, pow_mono {i = p.inputs} {j = most.inputs} r.inputs_in.1)
few_care file.Pipeline most s p e =
    let r = readable_read file.Pipeline most s p e in
    omega (arith, rising_length (2 ^ p.inputs) 0 p.care r.care_in_holds, pow_mono {i = p.inputs} {j = most.inputs} r.inputs_in.1)
few_care file.Reference most s p e = omega (arith, ap length (no_care most s p e))

pub was_read : (f : File) (most : Limits) (s places : List ℕ) (c : Counts) → first_care most + most_care f most ≤ length places → Ok c ≡ outcome_of (read_file f most s) →
    Placed most (read_file f most s) places → WasRead f most s places c
unfolding outcome_of Placed
was_read f most s places c room e placed = go (read_file f most s) refl e placed
  where
    go : (x : Reading) → read_file f most s ≡ x → Ok c ≡ outcome_of x → Placed most x places → WasRead f most s places c
    go (refused number at) is e t = absurd (let z : ◌≡◌ {A = ℕ} 0 1 = cc in omega arith)
    go (readable p) is e t =
        let q : counts_of p ≡ c = cc in
        let same : places_in most (counts_of p) places ≡ p = t in
        let r = readable_read f most s p is in
        subst (WasRead f most s places) q (record {
          file_read = record {
            within = record { inputs_in = r.inputs_in.1; gates_in_holds = r.gates_in_holds; outputs_in_holds = r.outputs_in_holds.1 };
            few_care = few_care f most s p is;
            room = room;
            read = subst (Read f most s) (sym same) r;
          };
          reading = is ∙ ap readable (sym same);
          counts = ap counts_of same;
        })

module _ (most : Limits) (s : List ℕ) where
  pub holds_reference : (places : List ℕ) (c : Counts) (code : List ℕ) → WasRead file.Reference most s places c →
      reference_in c code ≡ reference_of s (places_in most c places) → ReferenceLoaded c code →
      HoldsReference s (read_file file.Reference most s) code
  unfolding HoldsReference
  holds_reference places c code w e l =
      subst (λ (x : Reading). HoldsReference s x code) (sym w.reading)
      (subst (λ (d : Counts). ReferenceLoaded d code × (reference_in d code ≡ reference_of s (places_in most c places))) (sym w.counts)
      (l, e))

module _ (s : List ℕ) where
  pub holds_no_stage : (x : Reading) (number at : ℕ) (code : List ℕ) → Err (refusal number at) ≡ outcome_of x → HoldsStage s x code
  unfolding HoldsStage outcome_of
  holds_no_stage (refused k p) number at code e = tt
  holds_no_stage (readable p) number at code e = absurd (let z : ◌≡◌ {A = ℕ} 0 1 = cc in omega arith)

  pub holds_no_reference : (x : Reading) (number at : ℕ) (code : List ℕ) → Err (refusal number at) ≡ outcome_of x → HoldsReference s x code
  unfolding HoldsReference outcome_of
  holds_no_reference (refused k p) number at code e = tt
  holds_no_reference (readable p) number at code e = absurd (let z : ◌≡◌ {A = ℕ} 0 1 = cc in omega arith)

-- ---- what a reading and what it left say together

pub was_refused : (x : Reading) (number at : ℕ) → Err (refusal number at) ≡ outcome_of x → x ≡ refused number at
unfolding outcome_of
was_refused (refused k p) number at e =
    let r : refusal k p ≡ refusal number at = cc in
    rw (ap (λ (x : Refusal). x.number) r, ap (λ (x : Refusal). x.at) r)
was_refused (readable p) number at e = absurd (let z : ◌≡◌ {A = ℕ} 0 1 = cc in omega arith)

pub stage_held : (s : List ℕ) (x : Reading) (c : Counts) (code : List ℕ) → Ok c ≡ outcome_of x → HoldsStage s x code →
    (p : Places) × (x ≡ readable p) × (stage_in c code ≡ stage_of s p) × StageLoaded c code
unfolding outcome_of HoldsStage
stage_held s (refused k p) c code e h = absurd (let z : ◌≡◌ {A = ℕ} 0 1 = cc in omega arith)
stage_held s (readable p) c code e h = let q : c ≡ counts_of p = cc in rw q (p, refl, h.1, h.0)

pub reference_held : (s : List ℕ) (x : Reading) (c : Counts) (code : List ℕ) → Ok c ≡ outcome_of x → HoldsReference s x code →
    (p : Places) × (x ≡ readable p) × (reference_in c code ≡ reference_of s p) × ReferenceLoaded c code
unfolding outcome_of HoldsReference
reference_held s (refused k p) c code e h = absurd (let z : ◌≡◌ {A = ℕ} 0 1 = cc in omega arith)
reference_held s (readable p) c code e h = let q : c ≡ counts_of p = cc in rw q (p, refl, h.1, h.0)
