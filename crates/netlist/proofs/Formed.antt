-- The gates and outputs that a readable file holds are well-formed: their codes are known, their operands are complete and name what they have to name.
-- Assumes nothing.
use Prim.Native.Nat.{ℕ, suc, ◌+◌, ◌≤◌}
use mathlib.Core.Path.{◌≡◌, sym, ap, subst₃, ◌∙◌}
use mathlib.Core.List.{List, [], ◌∷◌, map}
use lib.ListN.{length}
use Rattle.netlist.specs.Types.{File, Limits}
use Rattle.netlist.specs.Types.sort
use Rattle.netlist.specs.Bytes.{byte}
use Rattle.netlist.specs.Commands.{needed}
use Rattle.netlist.specs.Reading.{Nets, asked, Places, nets_of, read_file, readable}
use Rattle.netlist.specs.Content.{Coded, coded_at}
use Rattle.netlist.specs.Writing.{width_for, operand_count, Item, gate, output, care, register, element, gates_in, outputs_in, All, EachFrom, nets_in, ItemsFit}
use Rattle.netlist.proofs.Operands.{length_operands}
use Rattle.netlist.proofs.Laid.{Laid, Named, wired_at, laid_code, laid_operands, laid_gates, laid_outputs}
use Rattle.netlist.proofs.Walk.{readable_laid, nets_places}
use Rattle.netlist.proofs.Readable.{output_names_holds}

-- gate k
pub record GateFormed (f : File) (N : Nets) (k : ℕ) (c : Coded) : Type 0 where
  pub known : 1 ≤ needed f c.code
  pub whole : length c.operands ≡ needed f c.code
  pub named : EachFrom (asked f sort.Gate N k) 0 c.operands

-- the gates in order, from gate k on
abbrev pub GatesFormed : File → Nets → ℕ → List Coded → Type 0
GatesFormed f N k [] = Unit {0}
GatesFormed f N k (c ∷ cs) = GateFormed f N k c × GatesFormed f N (suc k) cs

-- an output
pub record OutputFormed (f : File) (N : Nets) (vs : List ℕ) : Type 0 where
  pub whole : length vs ≡ operand_count f sort.Output
  pub named : EachFrom (asked f sort.Output N N.gates) 0 vs

abbrev pub ItemsFormed : File → Nets → ℕ → List Item → Type 0
ItemsFormed f N k items = GatesFormed f N k (gates_in items) × All (OutputFormed f N) (outputs_in items)

module _ (f : File) (N : Nets) where
  pub fits_formed : (k : ℕ) (items : List Item) → ItemsFit f N k items → ItemsFormed f N k items
  fits_formed k [] h = (tt, tt)
  fits_formed k (gate c ∷ items) h =
      let r = fits_formed (suc k) items h.1 in
      ((record { known = h.0.whole.1; whole = h.0.whole.2; named = h.0.named }, r.0), r.1)
  fits_formed k (output vs ∷ items) h =
      let r = fits_formed k items h.1 in
      (r.0, (record { whole = h.0.whole; named = rw (output_names_holds f N k) h.0.named }, r.1))
  fits_formed k (care w ∷ items) h = fits_formed k items h.1
  fits_formed k (register vs ∷ items) h = fits_formed k items h.1
  fits_formed k (element vs ∷ items) h = fits_formed k items h.1

  laid_formed : (s : List ℕ) (at k : ℕ) (items : List Item) → Laid f s at items → Named f N k items → ItemsFormed f N k items
  laid_formed s at k [] h m = (tt, tt)
  laid_formed s at k (gate c ∷ items) h m =
      let r = laid_formed s (at + width_for f sort.Gate) (suc k) items h.1 m.1 in
      let x = h.0.shown in
      let whole : length c.operands ≡ needed f c.code = ap length (sym (laid_operands x)) ∙ length_operands s (at + 2) (needed f (byte s (at + 1))) ∙ ap (needed f) (laid_code x) in
      ((record { known = rw (laid_code x) at x.known; whole = whole; named = m.0 }, r.0), r.1)
  laid_formed s at k (output vs ∷ items) h m =
      let r = laid_formed s (at + width_for f sort.Output) k items h.1 m.1 in
      (r.0, (record { whole = ap length (sym h.0.shown) ∙ length_operands s (at + 1) (operand_count f sort.Output); named = rw (output_names_holds f N k) m.0 }, r.1))
  laid_formed s at k (care w ∷ items) h m = laid_formed s (at + width_for f sort.Care) k items h.1 m.1
  laid_formed s at k (register vs ∷ items) h m = laid_formed s (at + width_for f sort.Register) k items h.1 m.1
  laid_formed s at k (element vs ∷ items) h m = laid_formed s (at + width_for f sort.Element) k items h.1 m.1

pub readable_formed : (f : File) (most : Limits) (s : List ℕ) (p : Places) → read_file f most s ≡ readable p →
    GatesFormed f (nets_of p) 0 (map (coded_at f s) p.gates) × All (OutputFormed f (nets_of p)) (map (wired_at f s) p.outputs)
readable_formed f most s p e =
    let r = readable_laid f most s p e in
    let h = r.file_laid in
    let at_places = r.item_places_holds in
    let nets : nets_of p ≡ nets_in p.inputs r.items = ap nets_of at_places ∙ nets_places f p.inputs r.items in
    let views = laid_formed f (nets_in p.inputs r.items) s 2 0 r.items h.laid h.named in
    subst₃ (λ (N : Nets) (cs : List Coded) (vss : List (List ℕ)). GatesFormed f N 0 cs × All (OutputFormed f N) vss)
    (sym nets)
    (sym (ap (λ (x : Places). map (coded_at f s) x.gates) at_places ∙ laid_gates f s 2 r.items h.laid))
    (sym (ap (λ (x : Places). map (wired_at f s) x.outputs) at_places ∙ laid_outputs f s 2 r.items h.laid))
    views
