-- `check_wiring::open_kis` meets its contract. Assumes nothing.
use native.Mathlib.Omega.{arith}
use Prim.Native.Nat.{◌+◌, ◌*◌}
use mathlib.Core.Path.{sym, ◌∙◌, subst}
use lib.Seq.{length-take-le}
use Rattle.check_wiring.specs.Opened.{OpenedTo}
use Rattle.check_wiring.proofs.Tables.{met_taken}
use Rattle.check_wiring.proofs.Circular.{few_nets, table_new, behind_opened}
use Rattle.check_wiring.proofs.open_kis.Goals as goal

pub open_all-requires : goal.open_all-requires
open_all-requires c =
    let o = c.requires.0.1 in
    let count = 3 * c.args.counts.registers + c.args.counts.elements in
    let few = few_nets _ _ _ _ o in
    (table_new _ _ _ _ o _ (length-take-le count _ few) (met_taken count 256), omega (arith, c.requires.1, o.regs_room))

pub returns : goal.returns
returns c =
    let w = c.open_all.ensures in record {
      long = w.long ∙ c.requires.1;
      are = λ p o none.
          let to = subst (OpenedTo _ _ _ _ _) (c.requires.1 ∙ sym o.registers_are) w in
          behind_opened p _ _ _ o none _ _ to;
    }
