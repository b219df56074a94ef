-- The stage that loading leaves of a file with registers is the one that becomes the wired stage.
-- Assumes nothing.
use Prim.Native.Nat.{ℕ}
use mathlib.Core.Path.{◌≡◌, refl, sym, ap, ◌∙◌}
use mathlib.Core.Bool.{Bool}
use mathlib.Core.List.{List, map, map-map}
use borrow.Author.Tests.{ne_eqb}
use Rattle.netlist.specs.declared.File.TheVariants as file
use Rattle.netlist.specs.declared.Limits.{Limits}
use Rattle.netlist.specs.Bytes.{absent}
use Rattle.netlist.specs.Commands.{stage_file}
use Rattle.netlist.specs.Reading.{Places, counts_of, stage_limits, NoMore}
use Rattle.netlist.specs.Content.{Gate, Stage, gate_of, coded_at, stage_of}
use Rattle.netlist.specs.Read.{Read}
use Rattle.circuit_wire.specs.Wire.{RawLoaded}
use Rattle.circuit_load.specs.Load.{ground_of}
use Rattle.circuit_load.specs.Parts.{wiring_of, PipelineHeld}
use Rattle.wiring_spec.proofs.Named.{data_is, named}

pub raw_held : (registers : Bool) {most : Limits} (less : NoMore most stage_limits) {s : List ℕ} {p : Places} (r : Read (stage_file registers) most s p) {code nets regs : List ℕ} →
    PipelineHeld s p code nets regs → ((counts_of p).registers ≡ 0 → ⊥) → RawLoaded (wiring_of s p) (counts_of p) code
unfolding ground_of stage_of
raw_held registers {most} less {s} {p} r h some =
    let raw = h.raw in
    let ground : ground_of (counts_of p) ≡ absent = rw (ne_eqb (counts_of p).registers 0 some) in
    record {
      within = raw.within;
      room = raw.room;
      low = raw.low;
      high = raw.high;
      inputs_are = refl;
      pins_are = sym (ap (λ (c : Stage). map (λ (g : Gate). g.pins) c.gates) h.same
          ∙ map-map (λ (g : Gate). g.pins) (λ at. gate_of (coded_at file.Stage s at)) p.gates);
      lacks = λ k i l a b. raw.lacks k i l a b ∙ ground;
      rail0 = λ j l. data_is registers most less s p r _ (raw.rail0 j l);
      rail1 = λ j l. data_is registers most less s p r _ (raw.rail1 j l);
      named = named registers most less s p r;
    }
