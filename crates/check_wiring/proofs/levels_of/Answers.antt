-- `check_wiring::levels_of` meets its contract. Assumes nothing.
use native.Mathlib.Omega.{arith}
use Prim.Native.Nat.{ℕ}
use mathlib.Core.Path.{sym, ◌∙◌, subst}
use mathlib.Core.List.{List}
use lib.ListN.{length, get_or-replicate}
use lib.Seq.{get_or-take}
use Rattle.check_rules.specs.Known.{LevelsOf}
use Rattle.check_wiring.proofs.Lent.{whole_long, part_back}
use Rattle.check_wiring.proofs.Tables.{times}
use Rattle.check_wiring.proofs.levels_of.Goals as goal

-- the table as it is made
abbrev new : List ℕ
new = times 64 1

pub returns : goal.returns
returns c =
    let m = length c.args.sources.now in
    let few = c.requires in
    let part = c.level_registers.new.levels in
    let same = c.level_registers.auto.levels in record {
      long = whole_long m new part few same;
      are = λ p of forward. subst (LevelsOf p) (sym (part_back m new part few same))
          (λ t h. c.level_registers.ensures.levelled p of forward (λ u k. get_or-take m new u 0 (omega (arith, of.long)) ∙ get_or-replicate 64 u 1 0 (omega (arith, of.long, few))) t h);
    }
