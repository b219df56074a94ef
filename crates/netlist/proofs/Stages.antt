-- Stages: one that is written is read back, readable bytes with the care words and the gates first are what writing their stage gives, and
-- the stage of a readable file is well-formed.
-- Assumes nothing.
use Prim.Native.Nat.{ℕ, suc, ◌+◌, ◌*◌, ◌≤◌, ◌<◌}
use native.Mathlib.Omega.{arith}
use mathlib.Core.Path.{◌≡◌, refl, sym, ap, ap₂, subst, ◌∙◌, fun_ext}
use mathlib.Core.Bool.{Bool, true, false}
use mathlib.Core.List.{List, [], ◌∷◌, map, map-map}
use lib.ListN.{length, get_or, length-map}
use Rattle.gates.specs.Cell.{pin_count, kind_byte}
use Rattle.gates.proofs.Ranges.{kind_known}
use Rattle.netlist.specs.Types.{Limits}
use Rattle.netlist.specs.Types.file
use Rattle.netlist.specs.Types.sort
use Rattle.netlist.specs.Bytes.{operands}
use Rattle.netlist.specs.Commands.{command_table, own_commands, form_in, needed}
use Rattle.netlist.specs.Reading.{Nets, asked, Places, nets_of, read_file, readable}
use Rattle.netlist.specs.Content.{Coded, coded_at, Gate, Pair, Stage, gate_of, pair_at, stage_of}
use Rattle.netlist.specs.Writing.{care_in, places_of, All, EachFrom, FileFits, coded_gate, pair_operands, stage_items, write_stage}
use Rattle.netlist.specs.Formed.{CellFormed, RailsFormed, StageFormed}
use Rattle.netlist.proofs.Lists.{Bytes, All-every, All-map}
use Rattle.netlist.proofs.Operands.{same_asked}
use Rattle.netlist.proofs.Encoding.{stage_registerless, stage_elementless, KindOfCell, kind_in_holds, kind_needs}
use Rattle.netlist.proofs.Laid.{wired_at, laid_partless}
use Rattle.netlist.proofs.Walk.{readable_laid}
use Rattle.netlist.proofs.ReadBack.{read-write}
use Rattle.netlist.proofs.Readable.{readable_read, named_pin, named_rail}
use Rattle.netlist.proofs.Formed.{GatesFormed, OutputFormed, readable_formed}
use Rattle.netlist.proofs.GatesFirst.{AllBefore, CareFirst, none_first, care_in_items, gates_back, outputs_back, write_back}

-- ---- gates and outputs, coded and as a stage has them

-- a pair of a list of two
abbrev pair_of : List ℕ → Pair
pair_of vs = record { rail0 = get_or vs 0 0; rail1 = get_or vs 1 0 }

-- a gate of a known kind is that cell
pub cell_of_holds : (hold : Bool) (c : ℕ) (pins : List ℕ) → 1 ≤ c → c ≤ 27 → gate_of (record { code = kind_byte c hold; operands = pins }) ≡ record { cell = c; hold = hold; pins = pins }
cell_of_holds true c pins lo hi = rw (kind_known true c (pin_count c) lo hi refl)
cell_of_holds false c pins lo hi = rw (kind_known false c (pin_count c) lo hi refl)

module _ (c : Coded) (known : 1 ≤ needed file.Stage c.code) where
  abbrev kind : KindOfCell c.code
  kind = kind_in_holds c.code known

  gate-cell : gate_of c ≡ record { cell = kind.cell; hold = kind.hold; pins = c.operands }
  gate-cell =
      ap (λ (k : ℕ). gate_of (record { code = k; operands = c.operands })) kind.kind_is
      ∙ cell_of_holds kind.hold kind.cell c.operands kind.cell_in.0 kind.cell_in.1

  coded_gate-gate_of : coded_gate (gate_of c) ≡ c
  coded_gate-gate_of = ap coded_gate gate-cell ∙ ap (λ (k : ℕ). record { code = k; operands = c.operands }) (sym kind.kind_is)

pair_at_wired_at : (s : List ℕ) (p : ℕ) → pair_of (wired_at file.Stage s p) ≡ pair_at s p
unfolding operands command_table own_commands form_in
pair_at_wired_at s p = let e : p + 1 + 2 ≡ p + 3 = omega arith in rw e

pair_operands-pair_of : (vs : List ℕ) → length vs ≡ 2 → pair_operands (pair_of vs) ≡ vs
pair_operands-pair_of [] e = absurd (omega arith)
pair_operands-pair_of (a ∷ []) e = absurd (omega arith)
pair_operands-pair_of (a ∷ b ∷ []) e = refl
pair_operands-pair_of (a ∷ b ∷ c ∷ vs) e = absurd (omega arith)

-- the gates and outputs of a stage file, coded and as a stage has them
module _ (N : Nets) where
  pub known_again : (k : ℕ) (cs : List Coded) → GatesFormed file.Stage N k cs → All (λ c. coded_gate (gate_of c) ≡ c) cs
  known_again k [] h = tt
  known_again k (c ∷ cs) h = (coded_gate-gate_of c h.0.known, known_again (suc k) cs h.1)

  wired-again : (vss : List (List ℕ)) → All (OutputFormed file.Stage N) vss → All (λ vs. pair_operands (pair_of vs) ≡ vs) vss
  unfolding command_table own_commands form_in
  wired-again = All-map (OutputFormed file.Stage N) (λ vs. pair_operands (pair_of vs) ≡ vs) (λ vs w. pair_operands-pair_of vs w.whole)

  codes_gates : (k : ℕ) (cs : List Coded) → GatesFormed file.Stage N k cs → All (CellFormed (2 * N.inputs + N.gates)) (map gate_of cs)
  codes_gates i [] h = tt
  codes_gates i (c ∷ cs) h =
      let k = kind_in_holds c.code h.0.known in
      let formed : CellFormed (2 * N.inputs + N.gates) (record { cell = k.cell; hold = k.hold; pins = c.operands }) = record {
        cell_in = k.cell_in;
        whole = h.0.whole ∙ ap (needed file.Stage) k.kind_is ∙ kind_needs k.hold k.cell k.cell_in.0 k.cell_in.1;
        pins_in_holds = same_asked (asked file.Stage sort.Gate N i) (λ v. v < 2 * N.inputs + N.gates) (named_pin N i) 0 c.operands h.0.named;
      } in
      (subst (CellFormed (2 * N.inputs + N.gates)) (sym (gate-cell c h.0.known)) formed, codes_gates (suc i) cs h.1)

  wires-pairs : (vss : List (List ℕ)) → All (OutputFormed file.Stage N) vss → All (RailsFormed (2 * N.inputs + N.gates)) (map pair_of vss)
  unfolding command_table own_commands form_in
  wires-pairs [] h = tt
  wires-pairs (vs ∷ vss) h = (go vs h.0.whole h.0.named, wires-pairs vss h.1)
    where
      go : (vs : List ℕ) → length vs ≡ 2 → EachFrom (asked file.Stage sort.Output N N.gates) 0 vs → RailsFormed (2 * N.inputs + N.gates) (pair_of vs)
      go [] e a = absurd (omega arith)
      go (x ∷ []) e a = absurd (omega arith)
      go (x ∷ y ∷ vs) e a = record { rail0_in = named_rail N N.gates 0 x a.0; rail1_in = named_rail N N.gates 1 y a.1.0 }

-- ---- written and read

pairs_view : (s os : List ℕ) → map (pair_at s) os ≡ map (λ p. pair_of (wired_at file.Stage s p)) os
pairs_view s os = ap (λ (h : ℕ → Pair). map h os) (fun_ext (λ p. sym (pair_at_wired_at s p)))

abbrev stage : ℕ → List Gate → List Pair → List ℕ → Stage
stage n gs os ws = record { inputs = n; gates = gs; outputs = os; care = ws }

-- the cells of a stage are among the 27
abbrev pub CellsIn : List Gate → Type 0
CellsIn = All (λ g. (1 ≤ g.cell) × (g.cell ≤ 27))

cells_back : (gs : List Gate) → CellsIn gs → All (λ g. gate_of (coded_gate g) ≡ g) gs
cells_back = All-map (λ g. (1 ≤ g.cell) × (g.cell ≤ 27)) (λ g. gate_of (coded_gate g) ≡ g) (λ g h. cell_of_holds g.hold g.cell g.pins h.0 h.1)

-- a stage that is written is read back
module _ (most : Limits) (c : Stage) (fits : FileFits file.Stage most c.inputs (stage_items c)) where
  pub read_write_stage : read_file file.Stage most (write_stage c) ≡ readable (places_of file.Stage c.inputs (stage_items c))
  unfolding write_stage
  read_write_stage = read-write file.Stage most c.inputs (stage_items c) fits

  pub stage_of_write_stage : CellsIn c.gates → stage_of (write_stage c) (places_of file.Stage c.inputs (stage_items c)) ≡ c
  unfolding write_stage stage_of
  stage_of_write_stage cells =
      ap₂ (λ (gs : List Gate) (os : List Pair). stage c.inputs gs os (care_in (stage_items c)))
      (gates_back gate_of coded_gate pair_of pair_operands file.Stage most c.inputs c.care c.gates c.outputs fits (cells_back c.gates cells))
      (pairs_view (write_stage c) (places_of file.Stage c.inputs (stage_items c)).outputs
      ∙ outputs_back gate_of coded_gate pair_of pair_operands file.Stage most c.inputs c.care c.gates c.outputs fits (All-every (λ p. pair_of (pair_operands p) ≡ p) (λ p. refl) c.outputs))
      ∙ ap (stage c.inputs c.gates c.outputs) (care_in_items gate_of coded_gate pair_of pair_operands c.care c.gates c.outputs)

module _ (most : Limits) (s : List ℕ) (p : Places) (e : read_file file.Stage most s ≡ readable p) where
  -- a stage has no registers
  pub no_parts : p.parts ≡ []
  no_parts =
      let r = readable_laid file.Stage most s p e in
      ap (λ (x : Places). x.parts) r.item_places_holds ∙ laid_partless file.Stage s stage_registerless stage_elementless 2 r.items r.file_laid.laid

  -- readable bytes with the care words and then the gates first are what writing their stage gives
  pub write_stage_stage_of : Bytes s → CareFirst file.Stage 2 (length p.care) p.gates p.outputs → AllBefore p.gates p.outputs →
      s ≡ write_stage (stage_of s p)
  unfolding write_stage stage_of
  write_stage_stage_of small before first =
      rw (pairs_view s p.outputs)
      (write_back gate_of coded_gate pair_of pair_operands file.Stage most s small p e no_parts before first (known_again (nets_of p) 0) (wired-again (nets_of p)))

  -- so are those of a stage without care words, with the gates first
  pub write_stage_no_care : Bytes s → p.care ≡ [] → AllBefore p.gates p.outputs → s ≡ write_stage (stage_of s p)
  write_stage_no_care small none first = write_stage_stage_of small (none_first file.Stage most s p e none) first

  pub stage_formed : StageFormed most (stage_of s p)
  unfolding stage_of
  stage_formed =
      let r = readable_read file.Stage most s p e in
      let formed = readable_formed file.Stage most s p e in
      let gs = p.gates in
      let os = p.outputs in
      let g : length (map (λ at. gate_of (coded_at file.Stage s at)) gs) ≡ length gs = length-map gs (λ at. gate_of (coded_at file.Stage s at)) in
      let o : length (map (pair_at s) os) ≡ length os = length-map os (pair_at s) in
      record {
        inputs_in = r.inputs_in;
        gates_in_holds = rw g r.gates_in_holds;
        outputs_in_holds = rw o r.outputs_in_holds;
        gates_formed = rw g (rw (map-map gate_of (coded_at file.Stage s) gs) at (codes_gates (nets_of p) 0 (map (coded_at file.Stage s) gs) formed.0));
        care_in_holds = r.care_in_holds;
        outputs_formed = rw (g, pairs_view s os) (rw (map-map pair_of (wired_at file.Stage s) os) at (wires-pairs (nets_of p) (map (wired_at file.Stage s) os) formed.1));
      }
