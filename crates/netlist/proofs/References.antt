-- References: one that is written is read back, readable bytes with the gates first are what writing their reference gives, and the reference of a
-- readable file is well-formed.
-- Assumes nothing.
use Prim.Native.Nat.{ℕ, zero, suc, ◌+◌, ◌≤◌, ◌<◌}
use native.Mathlib.Omega.{arith}
use mathlib.Core.Path.{◌≡◌, refl, ap, ap₂, subst, ◌∙◌}
use mathlib.Core.List.{List, [], ◌∷◌, ◌++◌, map, map-map}
use lib.ListN.{length, get_or, length-map}
use borrow.Author.Tests.{lt-ltb}
use Rattle.netlist.specs.Types.{Limits}
use Rattle.netlist.specs.Types.file
use Rattle.netlist.specs.Types.sort
use Rattle.netlist.specs.Bytes.{operand, operands, absent}
use Rattle.netlist.specs.Commands.{command_table, own_commands, form_in, role_of}
use Rattle.netlist.specs.Reading.{Nets, names, asked, Places, nets_of, count_of, read_file, readable}
use Rattle.netlist.specs.Content.{Coded, coded_at, Reference, reference_of}
use Rattle.netlist.specs.Writing.{width_for, Item, gate, output, care, register, element, gates_in, outputs_in, care_in, parts_in, ItemsFit, places_of, write_file, All, EachFrom, FileFits}
use Rattle.netlist.specs.Writing.{reference_items, write_reference}
use Rattle.netlist.specs.Formed.{OperationFormed, FormedFrom, ReferenceFormed}
use Rattle.netlist.proofs.Lists.{Bytes, All-every, All-map}
use Rattle.netlist.proofs.Operands.{same_asked, asked_same}
use Rattle.netlist.proofs.Encoding.{has_gate, has_output, reference_careless, reference_registerless, reference_elementless, operation_needs}
use Rattle.netlist.proofs.Laid.{Laid, wired_at, laid_partless}
use Rattle.netlist.proofs.Walk.{readable_laid}
use Rattle.netlist.proofs.ReadBack.{read-write}
use Rattle.netlist.proofs.Readable.{readable_read, named_earlier, named_signal}
use Rattle.netlist.proofs.Formed.{GatesFormed, OutputFormed, readable_formed}
use Rattle.netlist.proofs.GatesFirst.{AllBefore, none_first, gates_in_items, outputs_in_items, care_in_items, parts_in_items, gates_back, outputs_back, write_back}

-- ---- gates and outputs, coded and as a reference has them

-- gate k by its number
pub in_order_at : (below : ℕ) (cs : List Coded) → FormedFrom below cs → (k : ℕ) (d : Coded) → k < length cs → OperationFormed (below + k) (get_or cs k d)
in_order_at below [] h k d l = absurd (omega arith)
in_order_at below (c ∷ cs) h zero d l = let z : below + 0 ≡ below = omega arith in rw z h.0
in_order_at below (c ∷ cs) h (suc k) d l = let z : below + suc k ≡ suc below + k = omega arith in rw z (in_order_at (suc below) cs h.1 k d (omega arith))

-- the signal of a list of one
abbrev signal_of : List ℕ → ℕ
signal_of vs = get_or vs 0 0

signal_again : (vs : List ℕ) → length vs ≡ 1 → signal_of vs ∷ [] ≡ vs
signal_again [] e = absurd (omega arith)
signal_again (v ∷ []) e = refl
signal_again (v ∷ w ∷ vs) e = absurd (omega arith)

-- the gates and outputs of a reference file, coded and as a reference has them
module _ (N : Nets) where
  codes_order : (k : ℕ) (cs : List Coded) → GatesFormed file.Reference N k cs → FormedFrom (N.inputs + k) cs
  codes_order k [] h = tt
  codes_order k (c ∷ cs) h =
      let z : N.inputs + suc k ≡ suc (N.inputs + k) = omega arith in (
        record {
          operation_in_holds = (operation_needs c.code).1 h.0.known;
          whole = h.0.whole;
          operands_in_holds = same_asked (asked file.Reference sort.Gate N k) (λ v. v < N.inputs + k) (named_earlier N k) 0 c.operands h.0.named;
        },
        rw z at (codes_order (suc k) cs h.1),
      )

  wires-signals : (vss : List (List ℕ)) → All (OutputFormed file.Reference N) vss → All (λ v. v < N.inputs + N.gates) (map signal_of vss)
  unfolding command_table own_commands form_in
  wires-signals [] h = tt
  wires-signals (vs ∷ vss) h = (go vs h.0.whole h.0.named, wires-signals vss h.1)
    where
      go : (vs : List ℕ) → length vs ≡ 1 → EachFrom (asked file.Reference sort.Output N N.gates) 0 vs → signal_of vs < N.inputs + N.gates
      go [] e a = absurd (omega arith)
      go (v ∷ vs) e a = named_signal N N.gates 0 v a.0

  signals_again : (vss : List (List ℕ)) → All (OutputFormed file.Reference N) vss → All (λ vs. signal_of vs ∷ [] ≡ vs) vss
  unfolding command_table own_commands form_in
  signals_again = All-map (OutputFormed file.Reference N) (λ vs. signal_of vs ∷ [] ≡ vs) (λ vs w. signal_again vs w.whole)

-- ---- written and read

signals_view : (s os : List ℕ) → map (λ p. operand s (p + 1)) os ≡ map (λ p. signal_of (wired_at file.Reference s p)) os
unfolding operands command_table own_commands form_in
signals_view s os = refl

abbrev same : Coded → Coded
same c = c

abbrev lone : ℕ → List ℕ
lone v = v ∷ []

-- a reference that is written is read back
module _ (most : Limits) (r : Reference) (fits : FileFits file.Reference most r.inputs (reference_items r)) where
  pub read_write_reference : read_file file.Reference most (write_reference r) ≡ readable (places_of file.Reference r.inputs (reference_items r))
  unfolding write_reference
  read_write_reference = read-write file.Reference most r.inputs (reference_items r) fits

  pub reference_of_write_reference : reference_of (write_reference r) (places_of file.Reference r.inputs (reference_items r)) ≡ r
  unfolding write_reference reference_of
  reference_of_write_reference =
      ap₂ (λ (gs : List Coded) (os : List ℕ). record { inputs = r.inputs; gates = gs; outputs = os })
      (gates_back same same signal_of lone file.Reference most r.inputs [] r.gates r.outputs fits (All-every (λ c. c ≡ c) (λ c. refl) r.gates))
      (signals_view (write_reference r) (places_of file.Reference r.inputs (reference_items r)).outputs
      ∙ outputs_back same same signal_of lone file.Reference most r.inputs [] r.gates r.outputs fits (All-every (λ v. v ≡ v) (λ v. refl) r.outputs))

module _ (most : Limits) (s : List ℕ) (p : Places) (e : read_file file.Reference most s ≡ readable p) where
  -- a reference has no care words
  pub no_care : p.care ≡ []
  no_care = let r = readable_laid file.Reference most s p e in ap (λ (x : Places). x.care) r.item_places_holds ∙ go 2 r.items r.file_laid.laid
    where
      go : (at : ℕ) (items : List Item) → Laid file.Reference s at items → care_in items ≡ []
      go at [] h = refl
      go at (gate c ∷ items) h = go (at + width_for file.Reference sort.Gate) items h.1
      go at (output vs ∷ items) h = go (at + width_for file.Reference sort.Output) items h.1
      go at (care w ∷ items) h = absurd (reference_careless h.0.has)
      go at (register vs ∷ items) h = absurd (reference_registerless h.0.has)
      go at (element vs ∷ items) h = absurd (reference_elementless h.0.has)

  -- and no registers
  pub no_parts : p.parts ≡ []
  no_parts =
      let r = readable_laid file.Reference most s p e in
      ap (λ (x : Places). x.parts) r.item_places_holds ∙ laid_partless file.Reference s reference_registerless reference_elementless 2 r.items r.file_laid.laid

  -- readable bytes with the gates first are what writing their reference gives
  pub write_reference_reference_of : Bytes s → AllBefore p.gates p.outputs → s ≡ write_reference (reference_of s p)
  unfolding write_reference reference_of operands command_table own_commands form_in
  write_reference_reference_of small first =
      subst (λ (ws : List ℕ). s ≡ write_file file.Reference p.inputs (map care ws ++ reference_items (reference_of s p)))
      no_care
      (write_back same same signal_of lone file.Reference most s small p e no_parts (none_first file.Reference most s p e no_care) first (λ cs h. All-every (λ c. c ≡ c) (λ c. refl) cs) (signals_again (nets_of p)))

  pub reference_formed : ReferenceFormed most (reference_of s p)
  unfolding reference_of
  reference_formed =
      let r = readable_read file.Reference most s p e in
      let formed = readable_formed file.Reference most s p e in
      let gs = p.gates in
      let os = p.outputs in
      let g : length (map (coded_at file.Reference s) gs) ≡ length gs = length-map gs (coded_at file.Reference s) in
      let o : length (map (λ at. operand s (at + 1)) os) ≡ length os = length-map os (λ at. operand s (at + 1)) in
      let z : p.inputs + 0 ≡ p.inputs = omega arith in
      record {
        inputs_in = r.inputs_in;
        gates_in_holds = rw g r.gates_in_holds;
        outputs_in_holds = rw o r.outputs_in_holds;
        gates_formed = rw z at (codes_order (nets_of p) 0 (map (coded_at file.Reference s) gs) formed.0);
        outputs_formed = rw (g, signals_view s os) (rw (map-map signal_of (wired_at file.Reference s) os) at (wires-signals (nets_of p) (map (wired_at file.Reference s) os) formed.1));
      }

-- ---- a well-formed reference fits a file

module _ (N : Nets) (small : N.inputs + N.gates ≤ absent) where
  operations-fit : (k : ℕ) (cs : List Coded) (rest : List Item) → k + length cs ≤ N.gates → FormedFrom (N.inputs + k) cs →
      ((k : ℕ) → ItemsFit file.Reference N k rest) → ItemsFit file.Reference N k (map gate cs ++ rest)
  unfolding names role_of
  operations-fit k [] rest l h r = r k
  operations-fit k (c ∷ cs) rest l h r =
      let inside = h.0.operation_in_holds in
      let z : suc (N.inputs + k) ≡ N.inputs + suc k = omega arith in (
        record {
          has = has_gate file.Reference;
          whole = (
            omega arith,
            (operation_needs c.code).2 inside.0 inside.1,
            h.0.whole,
            All-map (λ v. v < N.inputs + k) (λ v. v < absent) (λ v b. omega arith) c.operands h.0.operands_in_holds,
          );
          u16s = All-map (λ v. v < N.inputs + k) (λ v. v < 65536) (λ v b. omega arith) c.operands h.0.operands_in_holds;
          named = asked_same (asked file.Reference sort.Gate N k) (λ v. v < N.inputs + k) (λ i v. lt-ltb v (N.inputs + k)) 0 c.operands h.0.operands_in_holds;
        },
        operations-fit (suc k) cs rest (omega arith) (rw z at h.1) r,
      )

  signals_fit : (vs : List ℕ) → All (λ v. v < N.inputs + N.gates) vs → (k : ℕ) → ItemsFit file.Reference N k (map (λ v. output (v ∷ [])) vs)
  unfolding names role_of command_table own_commands form_in
  signals_fit [] h k = tt
  signals_fit (v ∷ vs) h k =
      let a = h.0 in
      (record { has = has_output file.Reference; whole = refl; u16s = (omega arith, tt); named = (lt-ltb v (N.inputs + N.gates) a, tt) }, signals_fit vs h.1 k)

module _ (most : Limits) (r : Reference) where
  pub reference_fits : most.inputs < 256 → most.inputs + most.gates ≤ absent → ReferenceFormed most r → FileFits file.Reference most r.inputs (reference_items r)
  unfolding count_of
  reference_fits low small h =
      let g : length (gates_in (reference_items r)) ≡ length r.gates = ap length (gates_in_items same same signal_of lone [] r.gates r.outputs) ∙ length-map r.gates same in
      let o : length (outputs_in (reference_items r)) ≡ length r.outputs = ap length (outputs_in_items same same signal_of lone [] r.gates r.outputs) ∙ length-map r.outputs lone in
      let N : Nets = record { inputs = r.inputs; gates = length r.gates; parts = [] } in
      let none : parts_in (reference_items r) ≡ [] = parts_in_items same same signal_of lone [] r.gates r.outputs in
      let in_reach : r.inputs + length r.gates ≤ absent = omega (arith, h.inputs_in, h.gates_in_holds) in
      let z : r.inputs ≡ r.inputs + 0 = omega arith in
      let ordered : FormedFrom (r.inputs + 0) r.gates = subst (λ (b : ℕ). FormedFrom b r.gates) z h.gates_formed in
      record {
        inputs_in = h.inputs_in;
        inputs_byte = omega (arith, h.inputs_in);
        gates_in_holds = rw g h.gates_in_holds;
        outputs_in_holds = rw o h.outputs_in_holds;
        care_in_holds = rw (care_in_items same same signal_of lone [] r.gates r.outputs) tt;
        registers_in = rw none (omega arith);
        elements_in = rw none (omega arith);
        items_fit = rw (g, none) (operations-fit N in_reach 0 r.gates (map (λ v. output (v ∷ [])) r.outputs) (omega arith) ordered
            (signals_fit N in_reach r.outputs h.outputs_formed));
      }
