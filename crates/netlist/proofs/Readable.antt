-- What may be relied on in a readable file, whatever its elements: by the places of its commands, and in the stage or reference that it holds.
-- Assumes nothing.
use Prim.Native.Nat.{ℕ, zero, suc, ◌+◌, ◌-◌, ◌*◌, ◌^◌, ◌≤◌, ◌<◌}
use native.Mathlib.Omega.{arith}
use native.Mathlib.Nat.{mul-le-mul_left}
use lib.Pow.{pow_mono}
use mathlib.Core.Path.{◌≡◌, refl, sym, ap, subst, subst₂, ◌∙◌}
use mathlib.Core.Bool.{Bool, true}
use mathlib.Core.List.{List, [], ◌∷◌}
use lib.ListN.{length, get_or}
use borrow.Author.Tests.{ltb-true, lt-ltb}
use Rattle.netlist.specs.Types.{File, Sort, Form, Limits}
use Rattle.netlist.specs.Types.file
use Rattle.netlist.specs.Types.sort
use Rattle.netlist.specs.Bytes.{byte, operand}
use Rattle.netlist.specs.Commands.{role_of, width, needed, pins_used}
use Rattle.netlist.specs.Reading.{Nets, names, asked, Places, Ascending, count_of, sorts_of, counts_of, nets_of, read_file, readable}
use Rattle.netlist.specs.Writing.{width_for, operand_count, Has, Item, gate, output, care, register, element, gates_in, outputs_in, care_in, gate_places, output_places, All, EachFrom, part_places, parts_in, nets_in}
use Rattle.netlist.specs.Read.{GateRead, OutputRead, PartOf, PartRead, Read, most_of_either}
use Rattle.netlist.proofs.Operands.{each_named, same_asked, asked_same}
use Rattle.netlist.proofs.Encoding.{each_file, register_form, element_form, stage_registerless, stage_elementless, reference_registerless, reference_elementless, KindOfCell, kind_in_holds, operation_needs}
use Rattle.netlist.proofs.Laid.{Laid, Named, laid_operands, laid_used, laid_length, length_gate_places, length_output_places}
use Rattle.netlist.proofs.Walk.{LaidItems, readable_laid, nets_places}

-- ---- by place

-- what is named is there: a net of the stage; an input or an earlier gate of the reference; any of its signals
module _ (N : Nets) (k i v : ℕ) where
  pub named_pin : asked file.Stage sort.Gate N k i v ≡ true → v < 2 * N.inputs + N.gates
  unfolding names role_of
  named_pin = ltb-true v (2 * N.inputs + N.gates)

  pub named_rail : asked file.Stage sort.Output N k i v ≡ true → v < 2 * N.inputs + N.gates
  unfolding names role_of
  named_rail = ltb-true v (2 * N.inputs + N.gates)

  pub named_earlier : asked file.Reference sort.Gate N k i v ≡ true → v < N.inputs + k
  unfolding names role_of
  named_earlier = ltb-true v (N.inputs + k)

  pub named_signal : asked file.Reference sort.Output N k i v ≡ true → v < N.inputs + N.gates
  unfolding names role_of
  named_signal = ltb-true v (N.inputs + N.gates)

-- of all operands of a command, as bounds
module _ (N : Nets) (k i : ℕ) (vs : List ℕ) where
  pub pins_in_holds : EachFrom (asked file.Stage sort.Gate N k) i vs → All (λ v. v < 2 * N.inputs + N.gates) vs
  pins_in_holds = same_asked (asked file.Stage sort.Gate N k) (λ v. v < 2 * N.inputs + N.gates) (named_pin N k) i vs

  pub in_pins : All (λ v. v < 2 * N.inputs + N.gates) vs → EachFrom (asked file.Stage sort.Gate N k) i vs
  unfolding names role_of
  in_pins = asked_same (asked file.Stage sort.Gate N k) (λ v. v < 2 * N.inputs + N.gates) (λ j v. lt-ltb v (2 * N.inputs + N.gates)) i vs

  pub rails_in_holds : EachFrom (asked file.Stage sort.Output N k) i vs → All (λ v. v < 2 * N.inputs + N.gates) vs
  rails_in_holds = same_asked (asked file.Stage sort.Output N k) (λ v. v < 2 * N.inputs + N.gates) (named_rail N k) i vs

  pub in_rails : All (λ v. v < 2 * N.inputs + N.gates) vs → EachFrom (asked file.Stage sort.Output N k) i vs
  unfolding names role_of
  in_rails = asked_same (asked file.Stage sort.Output N k) (λ v. v < 2 * N.inputs + N.gates) (λ j v. lt-ltb v (2 * N.inputs + N.gates)) i vs

  pub earlier_in : EachFrom (asked file.Reference sort.Gate N k) i vs → All (λ v. v < N.inputs + k) vs
  earlier_in = same_asked (asked file.Reference sort.Gate N k) (λ v. v < N.inputs + k) (named_earlier N k) i vs

  pub in_earlier : All (λ v. v < N.inputs + k) vs → EachFrom (asked file.Reference sort.Gate N k) i vs
  unfolding names role_of
  in_earlier = asked_same (asked file.Reference sort.Gate N k) (λ v. v < N.inputs + k) (λ j v. lt-ltb v (N.inputs + k)) i vs

  pub signals_in_holds : EachFrom (asked file.Reference sort.Output N k) i vs → All (λ v. v < N.inputs + N.gates) vs
  signals_in_holds = same_asked (asked file.Reference sort.Output N k) (λ v. v < N.inputs + N.gates) (named_signal N k) i vs

  pub in_signals : All (λ v. v < N.inputs + N.gates) vs → EachFrom (asked file.Reference sort.Output N k) i vs
  unfolding names role_of
  in_signals = asked_same (asked file.Reference sort.Output N k) (λ v. v < N.inputs + N.gates) (λ j v. lt-ltb v (N.inputs + N.gates)) i vs

-- a gate's kind is one of 27, its operation one of 6
pub kind_read : {s : List ℕ} {N : Nets} {k at : ℕ} → GateRead file.Stage s N k at → KindOfCell (byte s (at + 1))
kind_read {s} {at = at} r = kind_in_holds (byte s (at + 1)) r.known

pub operation_read : {s : List ℕ} {N : Nets} {k at : ℕ} → GateRead file.Reference s N k at → (1 ≤ byte s (at + 1)) × (byte s (at + 1) ≤ 6)
operation_read {s} {at = at} r = (operation_needs (byte s (at + 1))).1 r.known

-- an output may name the same wherever it stands
pub output_names_holds : (f : File) (N : Nets) (k : ℕ) → asked f sort.Output N N.gates ≡ asked f sort.Output N k
unfolding names role_of
output_names_holds f N k = each_file (λ f. asked f sort.Output N N.gates ≡ asked f sort.Output N k) (refl, refl, refl) f

-- there are no more rising words than numbers
pub rising_length : (below floor : ℕ) (ws : List ℕ) → Ascending below floor ws → length ws ≤ below - floor
rising_length below floor [] h = omega arith
rising_length below floor (w ∷ ws) h = omega (arith, h.0, h.1, rising_length below (w + 1) ws h.2)

module _ (f : File) (s : List ℕ) (N : Nets) where
  gate-read : (at k : ℕ) (items : List Item) → 2 ≤ at → Laid f s at items → Named f N k items → (i : ℕ) → i < length (gates_in items) → GateRead f s N (k + i) (get_or (gate_places f at items) i 0)
  gate-read at k [] two h m i l = absurd (omega arith)
  gate-read at k (gate c ∷ items) two h m zero l =
      let z : k + 0 ≡ k = omega arith in
      let p = needed f (byte s (at + 1)) in
      let x = h.0.shown in
      record {
        first = two;
        room = h.0.room;
        known = x.known;
        used = laid_used x;
        named = rw z (each_named (asked f sort.Gate N k) s (at + 2) p (rw (laid_operands x) m.0));
      }
  gate-read at k (gate c ∷ items) two h m (suc i) l =
      let z : k + suc i ≡ suc k + i = omega arith in
      rw z (gate-read (at + width_for f sort.Gate) (suc k) items (omega arith) h.1 m.1 i (omega arith))
  gate-read at k (output vs ∷ items) two h m i l = gate-read (at + width_for f sort.Output) k items (omega arith) h.1 m.1 i l
  gate-read at k (care w ∷ items) two h m i l = gate-read (at + width_for f sort.Care) k items (omega arith) h.1 m.1 i l
  gate-read at k (register vs ∷ items) two h m i l = gate-read (at + width_for f sort.Register) k items (omega arith) h.1 m.1 i l
  gate-read at k (element vs ∷ items) two h m i l = gate-read (at + width_for f sort.Element) k items (omega arith) h.1 m.1 i l

  output_read : (at k : ℕ) (items : List Item) → 2 ≤ at → Laid f s at items → Named f N k items → (i : ℕ) → i < length (outputs_in items) → OutputRead f s N (get_or (output_places f at items) i 0)
  output_read at k [] two h m i l = absurd (omega arith)
  output_read at k (gate c ∷ items) two h m i l = output_read (at + width_for f sort.Gate) (suc k) items (omega arith) h.1 m.1 i l
  output_read at k (care w ∷ items) two h m i l = output_read (at + width_for f sort.Care) k items (omega arith) h.1 m.1 i l
  output_read at k (register vs ∷ items) two h m i l = output_read (at + width_for f sort.Register) k items (omega arith) h.1 m.1 i l
  output_read at k (element vs ∷ items) two h m i l = output_read (at + width_for f sort.Element) k items (omega arith) h.1 m.1 i l
  output_read at k (output vs ∷ items) two h m zero l =
      record {
        first = two;
        room = h.0.room;
        named = λ j b.
            ap (λ (test : ℕ → ℕ → Bool). test j (operand s (at + 1 + 2 * j))) (output_names_holds f N k)
            ∙ each_named (asked f sort.Output N k) s (at + 1) (operand_count f sort.Output) (rw h.0.shown m.0) j b;
      }
  output_read at k (output vs ∷ items) two h m (suc i) l = output_read (at + width_for f sort.Output) k items (omega arith) h.1 m.1 i (omega arith)

  parts_read : (at k : ℕ) (items : List Item) → Laid f s at items → Named f N k items → All (PartRead f s N) (part_places f at items)
  parts_read at k [] h m = tt
  parts_read at k (gate c ∷ items) h m = parts_read (at + width_for f sort.Gate) (suc k) items h.1 m.1
  parts_read at k (output vs ∷ items) h m = parts_read (at + width_for f sort.Output) k items h.1 m.1
  parts_read at k (care w ∷ items) h m = parts_read (at + width_for f sort.Care) k items h.1 m.1
  parts_read at k (register vs ∷ items) h m =
      let form = register_form f h.0.has in
      let three = ap (λ (x : Form). x.operands) form in (
        record {
          own = h.0.has;
          room = omega (arith, h.0.room, ap width form);
          after = k;
          named = λ i l. each_named (asked f sort.Register N k) s (at + 1) (operand_count f sort.Register) (rw h.0.shown m.0) i (omega arith);
        },
        parts_read (at + width_for f sort.Register) k items h.1 m.1,
      )
  parts_read at k (element vs ∷ items) h m =
      let form = element_form f h.0.has in (
        record {
          own = h.0.has;
          room = omega (arith, h.0.room, ap width form);
          after = k;
          named = each_named (asked f sort.Element N k) s (at + 1) (pins_used s (at + 1)) (rw h.0.shown.content m.0);
          fits = rw (ap (λ (x : Form). x.operands) form) at h.0.shown.fits;
        },
        parts_read (at + width_for f sort.Element) k items h.1 m.1,
      )

-- only a pipeline has registers and C-elements
no_part : (f : File) (s : List ℕ) (N : Nets) → (Has f sort.Register → ⊥) → (Has f sort.Element → ⊥) → (c : Sort) (at : ℕ) → PartOf f s N at c → ⊥
no_part f s N registerless elementless sort.Register at h = registerless h.own
no_part f s N registerless elementless sort.Element at h = elementless h.own
no_part f s N registerless elementless sort.Inputs at h = h
no_part f s N registerless elementless sort.Gate at h = h
no_part f s N registerless elementless sort.Output at h = h
no_part f s N registerless elementless sort.Care at h = h
no_part f s N registerless elementless sort.End at h = h
no_part f s N registerless elementless sort.Unknown at h = h

none_of : (f : File) (s : List ℕ) (N : Nets) → (Has f sort.Register → ⊥) → (Has f sort.Element → ⊥) → (ps : List (Sort × ℕ)) → All (PartRead f s N) ps → (c : Sort) → count_of c (sorts_of ps) ≡ 0
unfolding count_of
none_of f s N registerless elementless [] h c = refl
none_of f s N registerless elementless (x ∷ ps) h c = absurd (no_part f s N registerless elementless x.0 x.1 h.0)

few_parts : {most : Limits} {s : List ℕ} {p : Places} (f : File) → Read f most s p → ((counts_of p).registers ≤ most_of_either f) × ((counts_of p).elements ≤ most_of_either f)
few_parts file.Pipeline r = (r.registers_in, r.elements_in)
few_parts {s = s} {p = p} file.Stage r =
    let none = none_of file.Stage s (nets_of p) stage_registerless stage_elementless p.parts r.parts_at in (omega (arith, none sort.Register), omega (arith, none sort.Element))
few_parts {s = s} {p = p} file.Reference r =
    let none = none_of file.Reference s (nets_of p) reference_registerless reference_elementless p.parts r.parts_at in (omega (arith, none sort.Register), omega (arith, none sort.Element))

module _ (f : File) (most : Limits) (s : List ℕ) (p : Places) (e : read_file f most s ≡ readable p) where
  found : LaidItems f most s p
  found = readable_laid f most s p e

  count-gates : length p.gates ≡ length (gates_in found.items)
  count-gates = ap (λ (x : Places). length x.gates) found.item_places_holds ∙ length_gate_places f 2 found.items

  count-outputs : length p.outputs ≡ length (outputs_in found.items)
  count-outputs = ap (λ (x : Places). length x.outputs) found.item_places_holds ∙ length_output_places f 2 found.items

  count-care : length p.care ≡ length (care_in found.items)
  count-care = ap (λ (x : Places). length x.care) found.item_places_holds

  nets-found : nets_of p ≡ nets_in p.inputs found.items
  nets-found = ap nets_of found.item_places_holds ∙ nets_places f p.inputs found.items

  count-parts : (c : Sort) → count_of c (sorts_of p.parts) ≡ count_of c (parts_in found.items)
  count-parts c = ap (λ (N : Nets). count_of c N.parts) nets-found

  named-found : Named f (nets_of p) 0 found.items
  named-found = rw nets-found found.file_laid.named

  pub readable_read : Read f most s p
  readable_read =
      let h = found.file_laid in
      record {
        inputs_in = h.inputs_in;
        inputs_at = sym h.count;
        gates_in_holds = omega (arith, count-gates, h.gates_in_holds);
        outputs_in_holds = omega (arith, count-outputs, h.outputs_in_holds);
        care_in_holds = subst (λ (ws : List ℕ). Ascending (2 ^ p.inputs) 0 ws) (sym (ap (λ (x : Places). x.care) found.item_places_holds)) h.care_in_holds;
        registers_in = rw (count-parts sort.Register) h.registers_in;
        elements_in = rw (count-parts sort.Element) h.elements_in;
        size = rw (count-gates, count-outputs, count-care, count-parts sort.Register, count-parts sort.Element) (laid_length f s 2 found.items h.laid);
        gate_at_holds = λ k l.
            let z : 0 + k ≡ k = omega arith in
            let r = gate-read f s (nets_of p) 2 0 found.items (omega arith) h.laid named-found k (omega (arith, count-gates)) in
            subst₂ (λ (j : ℕ) (gs : List ℕ). GateRead f s (nets_of p) j (get_or gs k 0)) z (sym (ap (λ (x : Places). x.gates) found.item_places_holds)) r;
        output_at = λ j l.
            let r = output_read f s (nets_of p) 2 0 found.items (omega arith) h.laid named-found j (omega (arith, count-outputs)) in
            subst (λ (os : List ℕ). OutputRead f s (nets_of p) (get_or os j 0)) (sym (ap (λ (x : Places). x.outputs) found.item_places_holds)) r;
        parts_at = subst (λ (ps : List (Sort × ℕ)). All (PartRead f s (nets_of p)) ps) (sym (ap (λ (x : Places). x.parts) found.item_places_holds))
            (parts_read f s (nets_of p) 2 0 found.items h.laid named-found);
      }

  -- no readable file is longer than its most gates, outputs, care words, registers and C-elements make it
  pub readable_length : length s ≤ 3 + width_for f sort.Gate * most.gates + width_for f sort.Output * most.outputs + width_for f sort.Care * 2 ^ most.inputs
      + (width_for f sort.Register * most_of_either f + width_for f sort.Element * most_of_either f)
  readable_length =
      let r = readable_read in
      let parts = few_parts f r in
      let words : length p.care ≤ 2 ^ p.inputs = omega (arith, rising_length (2 ^ p.inputs) 0 p.care r.care_in_holds) in
      let few : length p.care ≤ 2 ^ most.inputs = omega (arith, pow_mono {i = p.inputs} {j = most.inputs} r.inputs_in.1) in
      omega (
        arith,
        r.size,
        mul-le-mul_left (width_for f sort.Gate) r.gates_in_holds,
        mul-le-mul_left (width_for f sort.Output) r.outputs_in_holds.1,
        mul-le-mul_left (width_for f sort.Care) few,
        mul-le-mul_left (width_for f sort.Register) parts.0,
        mul-le-mul_left (width_for f sort.Element) parts.1,
      )
