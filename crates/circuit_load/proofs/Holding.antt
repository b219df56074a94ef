-- What reading a stage file and loading it leave together: the stage as the file has it, its registers and C-elements, and without registers a stage.
-- Assumes nothing.
use Rattle.std.specs.Prelude.{Ok, Err}
use Prim.Native.Nat.{ℕ, zero, suc, ◌+◌, ◌-◌, ◌*◌, ◌/◌, ◌%◌, ◌^◌, ◌≤◌, ◌<◌}
use native.Mathlib.Omega.{arith}
use native.Mathlib.Decide.{dec_lt}
use lib.Pow.{pow_mono}
use mathlib.Core.Path.{◌≡◌, refl, sym, ap, ◌∙◌, subst}
use mathlib.Core.Bool.{Bool, true, false, cond}
use mathlib.Core.List.{List, [], ◌∷◌, map, map-map}
use lib.ListN.{length, get_or, take, drop, length-drop}
use lib.Seq.{length-take-le, take_at}
use lib.Dec.{eqb}
use borrow.Author.Tests.{eq-eqb, le-ltb}
use Rattle.gates.specs.Cell.{pin_count}
use Rattle.netlist.specs.declared.File.{File}
use Rattle.netlist.specs.declared.File.TheVariants as file
use Rattle.netlist.specs.declared.Sort.{Sort}
use Rattle.netlist.specs.declared.Sort.TheVariants as sort
use Rattle.netlist.specs.declared.Limits.{Limits}
use Rattle.netlist.specs.declared.Counts.{Counts}
use Rattle.netlist.specs.Commands.{stage_file, is_sort, most_parts}
use Rattle.netlist.specs.Types.{Outcome}
use Rattle.netlist.specs.Types.{refusal}
use Rattle.netlist.specs.Reading.{Nets, first_part, part_nets, carries_data, Places, count_of, sorts_of, counts_of, nets_of, Reading, refused, readable, read_file, stage_limits, NoMore, Within}
use Rattle.netlist.specs.Read.{outcome_of}
use Rattle.netlist.specs.Content.{stage_of}
use Rattle.netlist.proofs.Bounds.{within_more}
use Rattle.netlist.proofs.Stages.{no_parts}
use Rattle.read_file.specs.Files as files
use Rattle.read_file.specs.Files.{sort_noted, part_noted, most_care, Placed}
use Rattle.circuit.specs.Stage.{net_count, cell_in, pin_in, stage_in, StageLoaded}
use Rattle.wiring_spec.specs.Parts.{part_at}
use Rattle.write_command.specs.Put.{Put}
use Rattle.write_command.proofs.Joining.{put_holding}
use Rattle.circuit_load.specs.Load.{places_in, StageRead, RawStage, ground_of, HoldsStage}
use Rattle.circuit_load.specs.Parts.{wiring_of, net_rows, register_rows, NotesRead, parts_in, Begins, PipelineHeld, HoldsPipeline}
use Rattle.circuit_load.proofs.Reading.{WasRead, was_read, length_gates}

-- ---- without registers

-- where there is none, only rails of inputs and gates carry data
none_carries : (cs : List Sort) → count_of sort.Register cs ≡ 0 → (i : ℕ) → get_or (part_nets cs) i false ≡ false
unfolding part_nets count_of
none_carries [] e i = refl
none_carries (c ∷ cs) e i = go (is_sort sort.Register c) e (λ q. none_carries cs q) i
  where
    go : (b : Bool) → cond b (suc (count_of sort.Register cs)) (count_of sort.Register cs) ≡ 0 → (count_of sort.Register cs ≡ 0 → (i : ℕ) → get_or (part_nets cs) i false ≡ false) → (i : ℕ) →
        get_or (cond b (true ∷ true ∷ false ∷ part_nets cs) (false ∷ part_nets cs)) i false ≡ false
    go true e later i = absurd (omega arith)
    go false e later zero = refl
    go false e later (suc i) = later e i

data_first : (N : Nets) → count_of sort.Register N.parts ≡ 0 → (v : ℕ) → carries_data N v ≡ true → v < first_part N
unfolding carries_data
data_first N none v e = go (dec_lt v (first_part N))
  where
    go : Dec (v < first_part N) → v < first_part N
    go (yes h) = h
    go (no h) = absurd (let z : ◌≡◌ {A = ℕ} 0 1 = cc (le-ltb v (first_part N) (omega arith), none_carries N.parts none (v - first_part N)) in omega arith)

-- the stage as the file has it is one that can be settled
pub plain_loaded : (N : Nets) (c : Counts) (code : List ℕ) → RawStage N c (net_count c) code → first_part N ≡ net_count c → count_of sort.Register N.parts ≡ 0 → StageLoaded c code
plain_loaded N c code r first none = record {
  within = r.within;
  room = r.room;
  gate = λ k h. record { low = r.low k h; high = r.high k h; pin = pin k h; absent = λ i. r.lacks k i h };
  rail0_net = λ j h. omega (arith, data_first N none _ (r.rail0 j h));
  rail1_net = λ j h. omega (arith, data_first N none _ (r.rail1 j h));
}
  where
    pin : (k : ℕ) → k < c.gates → (i : ℕ) → i < 4 → pin_in code k i ≤ net_count c
    pin k h i l = go (dec_lt i (pin_count (cell_in code k)))
      where
        go : Dec (i < pin_count (cell_in code k)) → pin_in code k i ≤ net_count c
        go (yes d) = omega (arith, data_first N none _ (r.pin k i h d))
        go (no d) = omega (arith, r.lacks k i h (omega arith) l)

-- ---- the tables

-- how long they are
module _ (s : List ℕ) where
  abbrev sorts : List ℕ → List Sort
  sorts notes = sorts_of (map part_noted notes)

  pub rows_long : (notes : List ℕ) (k x : ℕ) →
      (length (net_rows k (parts_in s notes)) ≡ 24 * count_of sort.Register (sorts notes) + 8 * count_of sort.Element (sorts notes))
      × (length (register_rows x (parts_in s notes)) ≡ 4 * count_of sort.Register (sorts notes))
  unfolding net_rows register_rows count_of sort_noted
  rows_long [] k x = (refl, refl)
  rows_long (note ∷ notes) k x = go (eqb (note % 2) 1) (rows_long notes)
    where
      go : (b : Bool) → ((k x : ℕ) →
          (length (net_rows k (parts_in s notes)) ≡ 24 * count_of sort.Register (sorts notes) + 8 * count_of sort.Element (sorts notes))
          × (length (register_rows x (parts_in s notes)) ≡ 4 * count_of sort.Register (sorts notes))) →
          (length (net_rows k (part_at s (cond b sort.Element sort.Register, note / 2) ∷ parts_in s notes))
          ≡ 24 * count_of sort.Register (cond b sort.Element sort.Register ∷ sorts notes) + 8 * count_of sort.Element (cond b sort.Element sort.Register ∷ sorts notes))
          × (length (register_rows x (part_at s (cond b sort.Element sort.Register, note / 2) ∷ parts_in s notes)) ≡ 4 * count_of sort.Register (cond b sort.Element sort.Register ∷ sorts notes))
      go true later = let l = later k (x + 1) in (omega (arith, l.0), omega (arith, l.1))
      go false later = let l = later (k + 1) (x + 3) in (omega (arith, l.0), omega (arith, l.1))

put_begins : (before after rows : List ℕ) → length rows ≤ length before → Put before 0 rows after → Begins rows after
put_begins before after rows room p = rw (put_holding p room) (take_at rows (drop (length rows) before) (length rows) refl)

-- ---- a stage file that was read

module _ {most : Limits} (less : NoMore most stage_limits) {s places : List ℕ} {c : Counts} (r : StageRead most s places c) where
  pub within : Within stage_limits c
  within = within_more less r.file_read.within

  pub code_room : {long : ℕ} → 8 * stage_limits.gates + 2 * stage_limits.outputs + 2 ^ stage_limits.inputs ≤ long → 8 * c.gates + 2 * c.outputs + c.care ≤ long
  unfolding most_care
  code_room {long} h = go r.registers r.file_read.few_care
    where
      few : 2 ^ most.inputs ≤ 2 ^ stage_limits.inputs
      few = pow_mono {i = most.inputs} {j = stage_limits.inputs} less.inputs_in

      go : (registers : Bool) → c.care ≤ most_care (stage_file registers) most → 8 * c.gates + 2 * c.outputs + c.care ≤ long
      go true l = omega (arith, few, within.gates_in_holds, within.outputs_in_holds)
      go false l = omega (arith, few, within.gates_in_holds, within.outputs_in_holds)

  -- ---- its registers and C-elements

  abbrev notes : List ℕ
  notes = take (c.registers + c.elements) (drop (files.first_part most) places)

  few_parts : (count_of sort.Register (sorts s notes) ≡ c.registers) × (count_of sort.Element (sorts s notes) ≡ c.elements) × (c.registers ≤ most_parts) × (c.elements ≤ most_parts)
  few_parts =
      let m = ap (λ (x : Counts). x.registers) r.counted in
      let e = ap (λ (x : Counts). x.elements) r.counted in
      (m, e, omega (arith, m, r.file_read.read.registers_in), omega (arith, e, r.file_read.read.elements_in))

  pub notes_end : files.first_part most + (c.registers + c.elements) ≤ length places
  notes_end = omega (arith, few_parts, r.file_read.room)

  -- as the code lends them: the places between two ends
  abbrev pub lent : List ℕ
  lent = take (files.first_part most + (c.registers + c.elements) - files.first_part most) (drop (files.first_part most) places)

  lent_same : lent ≡ notes
  lent_same = let z : files.first_part most + (c.registers + c.elements) - files.first_part most ≡ c.registers + c.elements = omega arith in rw z

  notes_long : length notes ≡ c.registers + c.elements
  notes_long = length-take-le (c.registers + c.elements) (drop (files.first_part most) places) (simp length-drop (omega (arith, notes_end)))

  notes_room : (x : ℕ) → (length (net_rows 0 (parts_in s notes)) ≤ 32 * most_parts) × (length (register_rows x (parts_in s notes)) ≤ 4 * most_parts)
  notes_room x = let long = rows_long s notes 0 x in (omega (arith, long.0, few_parts), omega (arith, long.1, few_parts))

  -- what loading them asks
  pub lent_fits : {nets regs : ℕ} → 32 * most_parts ≤ nets → 4 * most_parts ≤ regs →
      NotesRead s lent × (net_count c + 3 * length lent < 2 ^ 16) × (length (net_rows 0 (parts_in s lent)) ≤ nets) × (length (register_rows (net_count c) (parts_in s lent)) ≤ regs)
  lent_fits a b =
      let room = notes_room (net_count c) in
      rw lent_same (
        record { file = stage_file r.registers; nets = nets_of (places_in most c places); each = r.file_read.read.parts_at },
        omega (arith, notes_long, few_parts, within.inputs_in, within.gates_in_holds),
        omega (arith, room.0),
        omega (arith, room.1),
      )

  -- ---- what is left

  module _ {code : List ℕ} (same : stage_in c code ≡ stage_of s (places_in most c places)) {ground : ℕ} (is : ground ≡ ground_of c)
      (raw : RawStage (nets_of (places_in most c places)) c ground code) where
    raw_ground : RawStage (nets_of (places_in most c places)) c (ground_of c) code
    raw_ground = rw is at raw

    pub pipeline_held : {nets₀ nets regs₀ regs : List ℕ} → 32 * most_parts ≤ length nets₀ → 4 * most_parts ≤ length regs₀ →
        Put nets₀ 0 (net_rows 0 (parts_in s lent)) nets → Put regs₀ 0 (register_rows (net_count c) (parts_in s lent)) regs →
        PipelineHeld s (places_in most c places) code nets regs
    pipeline_held {nets₀} {nets} {regs₀} {regs} a b p q =
        let room = notes_room (net_count c) in
        let parts = map-map (part_at s) part_noted notes in
        record {
          raw = subst (λ (d : Counts). RawStage (nets_of (places_in most c places)) d (ground_of d) code) (sym r.counted) raw_ground;
          same = subst (λ (d : Counts). stage_in d code ≡ stage_of s (places_in most c places)) (sym r.counted) same;
          nets_begin = rw parts (put_begins nets₀ nets (net_rows 0 (parts_in s notes)) (omega (arith, room.0)) (rw lent_same at p));
          registers_begin = subst (λ (d : Counts). Begins (register_rows (net_count d) (wiring_of s (places_in most c places)).parts) regs) (sym r.counted)
              (rw parts (put_begins regs₀ regs (register_rows (net_count c) (parts_in s notes)) (omega (arith, room.1)) (rw lent_same at q)));
        }

    -- without registers
    pub plain_stage : c.registers ≡ 0 → StageLoaded c code
    unfolding ground_of
    plain_stage none =
        plain_loaded (nets_of (places_in most c places)) c code (subst (λ (g : ℕ). RawStage (nets_of (places_in most c places)) c g code) (rw (eq-eqb c.registers 0 none)) raw_ground)
        (ap (λ (g : ℕ). 2 * c.inputs + g) (length_gates (stage_file r.registers) most s places c r.file_read)) (few_parts.0 ∙ none)

-- ---- what reading answers

-- with registers or without, by the file that was asked for
pub read_as : (registers : Bool) {f : File} {most : Limits} {s places : List ℕ} {c : Counts} → f ≡ stage_file registers → files.RoomFor f most (length places) →
    Ok c ≡ outcome_of (read_file f most s) → Placed most (read_file f most s) places → WasRead (stage_file registers) most s places c
read_as registers {f} {most} {s} {places} {c} is room e placed =
    subst (λ (f : File). WasRead f most s places c) is (was_read f most s places c room.space e placed)

pub stage_read : (registers : Bool) {most : Limits} {s places : List ℕ} {c : Counts} → WasRead (stage_file registers) most s places c → StageRead most s places c
stage_read registers w = record { registers = registers; file_read = w.file_read; counted = w.counts }

pub holds_pipeline : (registers : Bool) {most : Limits} {s places : List ℕ} {c : Counts} → WasRead (stage_file registers) most s places c → {code nets regs : List ℕ} →
    PipelineHeld s (places_in most c places) code nets regs → HoldsPipeline s (read_file (stage_file registers) most s) code nets regs
unfolding HoldsPipeline
holds_pipeline registers w held = rw w.reading held

-- a plain stage file has no registers
pub holds_stage : {most : Limits} (less : NoMore most stage_limits) {s places : List ℕ} {c : Counts} (w : WasRead file.Stage most s places c) {code : List ℕ} {ground : ℕ} →
    stage_in c code ≡ stage_of s (places_in most c places) → ground ≡ ground_of c → RawStage (nets_of (places_in most c places)) c ground code →
    HoldsStage s (read_file file.Stage most s) code
unfolding HoldsStage count_of
holds_stage {most} less {s} {places} {c} w {code} same is raw =
    let none = no_parts most s (places_in most c places) w.reading in
    let zero : c.registers ≡ 0 = sym (ap (λ (x : Counts). x.registers) w.counts) ∙ ap (λ (ps : List (Sort × ℕ)). count_of sort.Register (sorts_of ps)) none in
    rw w.reading
    (subst (λ (d : Counts). StageLoaded d code × (stage_in d code ≡ stage_of s (places_in most c places))) (sym w.counts) (plain_stage less (stage_read false w) same is raw zero, same))

pub holds_no_pipeline : (s : List ℕ) (x : Reading) (number at : ℕ) (code nets regs : List ℕ) → Err (refusal number at) ≡ outcome_of x → HoldsPipeline s x code nets regs
unfolding HoldsPipeline outcome_of
holds_no_pipeline s (refused k p) number at code nets regs e = tt
holds_no_pipeline s (readable p) number at code nets regs e = absurd (let z : ◌≡◌ {A = ℕ} 0 1 = cc in omega arith)

-- what a reading and what it left say together
pub pipeline_told : (s : List ℕ) (x : Reading) (c : Counts) (code nets regs : List ℕ) → Ok c ≡ outcome_of x → HoldsPipeline s x code nets regs →
    (p : Places) × (x ≡ readable p) × (c ≡ counts_of p) × PipelineHeld s p code nets regs
unfolding outcome_of HoldsPipeline
pipeline_told s (refused k p) c code nets regs e h = absurd (let z : ◌≡◌ {A = ℕ} 0 1 = cc in omega arith)
pipeline_told s (readable p) c code nets regs e h = (p, refl, cc, h)

-- without registers the stage is one that can be settled
pub held_plain : (s : List ℕ) (p : Places) (code nets regs : List ℕ) → PipelineHeld s p code nets regs → (counts_of p).registers ≡ 0 → StageLoaded (counts_of p) code
unfolding ground_of
held_plain s p code nets regs h none =
    let ground : ground_of (counts_of p) ≡ net_count (counts_of p) = rw (eq-eqb (counts_of p).registers 0 none) in
    plain_loaded (nets_of p) (counts_of p) code (rw ground at h.raw) refl none

-- the same where the limits are those that were handed on
pub stage_read_by : {given most : Limits} (s : List ℕ) {r : Outcome} (code : List ℕ) → given ≡ most →
    (r ≡ outcome_of (read_file file.Stage given s)) × HoldsStage s (read_file file.Stage given s) code →
    (r ≡ outcome_of (read_file file.Stage most s)) × HoldsStage s (read_file file.Stage most s) code
stage_read_by s {r} code e h =
    subst (λ (m : Limits). (r ≡ outcome_of (read_file file.Stage m s)) × HoldsStage s (read_file file.Stage m s) code) e h
