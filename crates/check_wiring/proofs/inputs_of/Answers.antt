-- `check_wiring::inputs_of` meets its contract. Assumes nothing.
use native.Mathlib.Omega.{arith}
use borrow.Author.Rules.{rules}
use Prim.Native.Nat.{ℕ}
use mathlib.Core.Path.{sym, subst}
use mathlib.Core.List.{List}
use lib.ListN.{get_or-replicate}
use lib.Seq.{length-take-le}
use Rattle.check_rules.specs.Known.{InputsOf}
use Rattle.check_wiring.proofs.Lent.{whole_long, part_back}
use Rattle.check_wiring.proofs.Tables.{times, no_rails, few_registers, gatherable, inputs_gathered}
use Rattle.check_wiring.proofs.inputs_of.Goals as goal

-- the table as it is made
abbrev new : List ℕ
new = times 64 0

pub gather_sources-requires : goal.gather_sources-requires
gather_sources-requires c = let l = c.requires.1 in (
  gatherable _ _ _ _ _ l _ _ no_rails (search rules),
  omega (arith, l.regs_room, length-take-le c.args.counts.registers new (few_registers _ _ _ _ _ l)),
)

pub returns : goal.returns
returns c =
    let m = c.args.counts.registers in
    let few = few_registers _ _ _ _ _ c.requires.1 in
    let part = c.gather_sources.new.sources in
    let same = c.gather_sources.auto.sources in record {
      long = whole_long m new part few same;
      are = λ nets l. subst (InputsOf l.pipeline) (sym (part_back m new part few same))
          (inputs_gathered _ _ _ _ _ l (times 277 1) _ part (λ x h. get_or-replicate 277 x 1 0 (omega (arith, l.raw_loaded.within.inputs_in))) (length-take-le m new few) c.gather_sources.ensures.gathered);
    }
