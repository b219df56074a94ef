-- Files with the care words first and the gates before the outputs: a content of care words, gates G and outputs O that is written is what
-- its places show, and readable bytes are what writing their content gives.
-- Assumes nothing.
use Prim.Native.Nat.{ℕ, zero, suc, ◌+◌, ◌*◌, ◌≤◌, ◌<◌}
use native.Mathlib.Omega.{arith}
use mathlib.Core.Path.{◌≡◌, refl, sym, ap, ap₂, subst, ◌∙◌}
use mathlib.Core.List.{List, [], ◌∷◌, ◌++◌, map, map-map}
use lib.ListN.{length, get_or}
use Rattle.netlist.specs.Types.{File, Limits}
use Rattle.netlist.specs.Types.sort
use Rattle.netlist.specs.Reading.{Places, sorts_of, nets_of, read_file, readable}
use Rattle.netlist.specs.Content.{Coded, coded_at}
use Rattle.netlist.specs.Writing.{width_for, Item, gate, output, care, register, element, gates_in, outputs_in, care_in, gate_places, output_places, parts_in, write_file, All, FileFits}
use Rattle.netlist.proofs.Lists.{Bytes, map_back, map_again}
use Rattle.netlist.proofs.Encoding.{width_output, width_care}
use Rattle.netlist.proofs.Laid.{wired_at, length_gate_places, sorts_part_places}
use Rattle.netlist.proofs.ReadBack.{gates_write, outputs_write, write_read}
use Rattle.netlist.proofs.Readable.{readable_read}
use Rattle.netlist.proofs.Formed.{GatesFormed, OutputFormed, readable_formed}

-- ---- items with the gates first

-- each of some places comes before each of others
abbrev pub AllBefore : List ℕ → List ℕ → Type 0
AllBefore gs os = (k j : ℕ) → k < length gs → j < length os → get_or gs k 0 < get_or os j 0

places_from : (f : File) (at : ℕ) (items : List Item) (k : ℕ) → k < length (gate_places f at items) → at ≤ get_or (gate_places f at items) k 0
places_from f at [] k l = absurd (omega arith)
places_from f at (gate c ∷ items) zero l = omega arith
places_from f at (gate c ∷ items) (suc k) l = omega (arith, places_from f (at + width_for f sort.Gate) items k (omega arith))
places_from f at (output vs ∷ items) k l = omega (arith, places_from f (at + width_for f sort.Output) items k l)
places_from f at (care w ∷ items) k l = omega (arith, places_from f (at + width_for f sort.Care) items k l)
places_from f at (register vs ∷ items) k l = omega (arith, places_from f (at + width_for f sort.Register) items k l)
places_from f at (element vs ∷ items) k l = omega (arith, places_from f (at + width_for f sort.Element) items k l)

only-outputs : (items : List Item) → parts_in items ≡ [] → care_in items ≡ [] → gates_in items ≡ [] → items ≡ map output (outputs_in items)
only-outputs [] q n e = refl
only-outputs (gate c ∷ items) q n e = absurd (omega (arith, ap length e))
only-outputs (output vs ∷ items) q n e = ap {B = List Item} (λ l. output vs ∷ l) (only-outputs items q n e)
only-outputs (care w ∷ items) q n e = absurd (omega (arith, ap length n))
only-outputs (register vs ∷ items) q n e = absurd (omega (arith, ap length q))
only-outputs (element vs ∷ items) q n e = absurd (omega (arith, ap length q))

gates-first : (f : File) (at : ℕ) (items : List Item) → parts_in items ≡ [] → care_in items ≡ [] → AllBefore (gate_places f at items) (output_places f at items) →
    items ≡ map gate (gates_in items) ++ map output (outputs_in items)
gates-first f at [] q n h = refl
gates-first f at (gate c ∷ items) q n h =
    ap {B = List Item} (λ l. gate c ∷ l) (gates-first f (at + width_for f sort.Gate) items q n (λ k j a b. h (suc k) j (omega arith) b))
gates-first f at (care w ∷ items) q n h = absurd (omega (arith, ap length n))
gates-first f at (register vs ∷ items) q n h = absurd (omega (arith, ap length q))
gates-first f at (element vs ∷ items) q n h = absurd (omega (arith, ap length q))
gates-first f at (output vs ∷ items) q n h = go (gates_in items) refl
  where
    later : ℕ
    later = at + width_for f sort.Output

    go : (cs : List Coded) → gates_in items ≡ cs → output vs ∷ items ≡ map gate (gates_in items) ++ map output (vs ∷ outputs_in items)
    go [] e = rw e (ap {B = List Item} (λ l. output vs ∷ l) (only-outputs items q n e))
    go (c ∷ cs) e =
        let some : 0 < length (gate_places f later items) = omega (arith, length_gate_places f later items, ap length e) in
        absurd (omega (arith, places_from f later items 0 some, width_output f, h 0 0 some (omega arith)))

-- the care commands, m of them from a place on, stand before every gate and output
abbrev pub AllFrom : ℕ → List ℕ → Type 0
AllFrom from places = (k : ℕ) → k < length places → from ≤ get_or places k 0

abbrev pub CareFirst : File → ℕ → ℕ → List ℕ → List ℕ → Type 0
CareFirst f at m gs os = AllFrom (at + width_for f sort.Care * m) gs × AllFrom (at + width_for f sort.Care * m) os

-- where a readable file has none, that is so
pub none_first : (f : File) (most : Limits) (s : List ℕ) (p : Places) → read_file f most s ≡ readable p → p.care ≡ [] →
    CareFirst f 2 (length p.care) p.gates p.outputs
none_first f most s p e none =
    let r = readable_read f most s p e in
    let z : 2 + width_for f sort.Care * length p.care ≡ 2 = rw none (omega arith) in
    rw z ((λ k l. (r.gate_at_holds k l).first), (λ j l. (r.output_at j l).first))

-- none is left where one stands at the place itself
none_left_lem : (f : File) (at : ℕ) (ws : List ℕ) → at + width_for f sort.Care * length ws ≤ at → ws ≡ []
none_left_lem f at [] h = refl
none_left_lem f at (w ∷ ws) h = absurd (omega (arith, width_care f))

pub in_order : (f : File) (at : ℕ) (items : List Item) → parts_in items ≡ [] → CareFirst f at (length (care_in items)) (gate_places f at items) (output_places f at items) →
    AllBefore (gate_places f at items) (output_places f at items) → items ≡ map care (care_in items) ++ (map gate (gates_in items) ++ map output (outputs_in items))
in_order f at [] q c h = refl
in_order f at (care w ∷ items) q c h =
    ap {B = List Item} (λ l. care w ∷ l)
    (in_order f (at + width_for f sort.Care) items q ((λ k l. omega (arith, c.0 k l)), (λ k l. omega (arith, c.1 k l))) h)
in_order f at (register vs ∷ items) q c h = absurd (omega (arith, ap length q))
in_order f at (element vs ∷ items) q c h = absurd (omega (arith, ap length q))
in_order f at (gate x ∷ items) q c h =
    let n = none_left_lem f at (care_in items) (c.0 0 (omega arith)) in
    gates-first f at (gate x ∷ items) q n h ∙ rw n
in_order f at (output vs ∷ items) q c h =
    let n = none_left_lem f at (care_in items) (c.1 0 (omega arith)) in
    gates-first f at (output vs ∷ items) q n h ∙ rw n

-- ---- contents with gates G and outputs O: to them from coded gates and lists of operands, and back

module _ {G O : Type 0} (to_g : Coded → G) (from_g : G → Coded) (to_o : List ℕ → O) (from_o : O → List ℕ) where
  abbrev pub items_of : List ℕ → List G → List O → List Item
  items_of ws gs os = map care ws ++ (map (λ g. gate (from_g g)) gs ++ map (λ o. output (from_o o)) os)

  pub gates_in_items : (ws : List ℕ) (gs : List G) (os : List O) → gates_in (items_of ws gs os) ≡ map from_g gs
  gates_in_items (w ∷ ws) gs os = gates_in_items ws gs os
  gates_in_items [] [] [] = refl
  gates_in_items [] [] (o ∷ os) = gates_in_items [] [] os
  gates_in_items [] (g ∷ gs) os = ap {B = List Coded} (λ l. from_g g ∷ l) (gates_in_items [] gs os)

  pub outputs_in_items : (ws : List ℕ) (gs : List G) (os : List O) → outputs_in (items_of ws gs os) ≡ map from_o os
  outputs_in_items (w ∷ ws) gs os = outputs_in_items ws gs os
  outputs_in_items [] [] [] = refl
  outputs_in_items [] [] (o ∷ os) = ap {B = List (List ℕ)} (λ l. from_o o ∷ l) (outputs_in_items [] [] os)
  outputs_in_items [] (g ∷ gs) os = outputs_in_items [] gs os

  pub care_in_items : (ws : List ℕ) (gs : List G) (os : List O) → care_in (items_of ws gs os) ≡ ws
  care_in_items (w ∷ ws) gs os = ap {B = List ℕ} (λ l. w ∷ l) (care_in_items ws gs os)
  care_in_items [] [] [] = refl
  care_in_items [] [] (o ∷ os) = care_in_items [] [] os
  care_in_items [] (g ∷ gs) os = care_in_items [] gs os

  pub parts_in_items : (ws : List ℕ) (gs : List G) (os : List O) → parts_in (items_of ws gs os) ≡ []
  parts_in_items (w ∷ ws) gs os = parts_in_items ws gs os
  parts_in_items [] [] [] = refl
  parts_in_items [] [] (o ∷ os) = parts_in_items [] [] os
  parts_in_items [] (g ∷ gs) os = parts_in_items [] gs os

  module _ (f : File) (most : Limits) where
    -- a content that is written is what its places show
    module _ (n : ℕ) (ws : List ℕ) (gs : List G) (os : List O) (fits : FileFits f most n (items_of ws gs os)) where
      pub gates_back : All (λ g. to_g (from_g g) ≡ g) gs → map (λ p. to_g (coded_at f (write_file f n (items_of ws gs os)) p)) (gate_places f 2 (items_of ws gs os)) ≡ gs
      gates_back h =
          sym (map-map to_g (coded_at f (write_file f n (items_of ws gs os))) (gate_places f 2 (items_of ws gs os)))
          ∙ ap (map to_g) (gates_write f most n (items_of ws gs os) fits ∙ gates_in_items ws gs os)
          ∙ map_back to_g from_g gs h

      pub outputs_back : All (λ o. to_o (from_o o) ≡ o) os → map (λ p. to_o (wired_at f (write_file f n (items_of ws gs os)) p)) (output_places f 2 (items_of ws gs os)) ≡ os
      outputs_back h =
          sym (map-map to_o (wired_at f (write_file f n (items_of ws gs os))) (output_places f 2 (items_of ws gs os)))
          ∙ ap (map to_o) (outputs_write f most n (items_of ws gs os) fits ∙ outputs_in_items ws gs os)
          ∙ map_back to_o from_o os h

    -- bytes that are readable, with the care words and then the gates first, are what writing their content gives
    module _ (s : List ℕ) (small : Bytes s) (p : Places) (e : read_file f most s ≡ readable p) where
      pub write_back : p.parts ≡ [] → CareFirst f 2 (length p.care) p.gates p.outputs → AllBefore p.gates p.outputs →
          ((cs : List Coded) → GatesFormed f (nets_of p) 0 cs → All (λ c. from_g (to_g c) ≡ c) cs) →
          ((vss : List (List ℕ)) → All (OutputFormed f (nets_of p)) vss → All (λ vs. from_o (to_o vs) ≡ vs) vss) →
          s ≡ write_file f p.inputs (items_of p.care (map (λ at. to_g (coded_at f s at)) p.gates) (map (λ at. to_o (wired_at f s at)) p.outputs))
      write_back partless before first codes wires =
          let h = write_read f most s p e in
          let formed = readable_formed f most s p e in
          let none : parts_in h.items ≡ [] =
          sym (sorts_part_places f 2 h.items) ∙ ap sorts_of (sym (ap (λ (x : Places). x.parts) h.item_places_holds) ∙ partless) in
          let ordered = subst (λ (x : Places). AllBefore x.gates x.outputs) h.item_places_holds first in
          let leading = subst (λ (x : Places). CareFirst f 2 (length x.care) x.gates x.outputs) h.item_places_holds before in
          h.bytes small
          ∙ ap (write_file f p.inputs)
          (in_order f 2 h.items none leading ordered
          ∙ sym (ap₂ (λ (x y : List Item). map care p.care ++ (x ++ y))
          (map_again gate from_g to_g (coded_at f s) p.gates (codes (map (coded_at f s) p.gates) formed.0) ∙ ap (map gate) h.gates)
          (map_again output from_o to_o (wired_at f s) p.outputs (wires (map (wired_at f s) p.outputs) formed.1) ∙ ap (map output) h.outputs)
          ∙ ap (λ (ws : List ℕ). map care ws ++ (map gate (gates_in h.items) ++ map output (outputs_in h.items))) h.cares))
