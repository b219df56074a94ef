-- What holds within some limits holds within limits that allow more; the limits of a part allow no more than those of a file.
-- Assumes nothing.
use Prim.Native.Nat.{ℕ}
use native.Mathlib.Omega.{arith}
use mathlib.Core.Path.{◌≡◌, sym, ap, ◌∙◌}
use mathlib.Core.List.{List}
use Rattle.netlist.specs.Types.{File, Limits, Counts}
use Rattle.netlist.specs.Reading.{stage_limits, reference_limits, part_stage_limits, part_reference_limits, NoMore, Within, Places, readable, read_file}
use Rattle.netlist.proofs.Walk.{readable_laid, laid_readable}

pub no_more : (few most : Limits) → few ≡ most → NoMore few most
no_more few most e = rw e (record { inputs_in = omega arith; gates_in_holds = omega arith; outputs_in_holds = omega arith })

pub part_stage_less : NoMore part_stage_limits stage_limits
part_stage_less = record { inputs_in = omega arith; gates_in_holds = omega arith; outputs_in_holds = omega arith }

pub part_reference_less : NoMore part_reference_limits reference_limits
part_reference_less = record { inputs_in = omega arith; gates_in_holds = omega arith; outputs_in_holds = omega arith }

module _ {few most : Limits} (less : NoMore few most) where
  pub within_more : {c : Counts} → Within few c → Within most c
  within_more w = record {
    inputs_in = omega (arith, w.inputs_in, less.inputs_in);
    gates_in_holds = omega (arith, w.gates_in_holds, less.gates_in_holds);
    outputs_in_holds = omega (arith, w.outputs_in_holds, less.outputs_in_holds);
  }

  -- a file that is readable stays so, with the same places
  pub readable_more : (f : File) (s : List ℕ) (p : Places) → read_file f few s ≡ readable p → read_file f most s ≡ readable p
  readable_more f s p e =
      let l = readable_laid f few s p e in
      let h = l.file_laid in
      laid_readable f most s p.inputs l.items (record {
        command = h.command;
        count = h.count;
        inputs_in = (h.inputs_in.0, omega (arith, h.inputs_in.1, less.inputs_in));
        gates_in_holds = omega (arith, h.gates_in_holds, less.gates_in_holds);
        outputs_in_holds = (h.outputs_in_holds.0, omega (arith, h.outputs_in_holds.1, less.outputs_in_holds));
        care_in_holds = h.care_in_holds;
        registers_in = h.registers_in;
        elements_in = h.elements_in;
        laid = h.laid;
        named = h.named;
      })
      ∙ ap readable (sym l.item_places_holds)
