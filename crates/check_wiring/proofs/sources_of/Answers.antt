-- `check_wiring::sources_of` meets its contract. Assumes nothing.
use native.Mathlib.Omega.{arith}
use borrow.Author.Rules.{rules}
use Prim.Native.Nat.{ℕ}
use mathlib.Core.Path.{sym, subst}
use mathlib.Core.List.{List}
use lib.Seq.{length-take-le}
use Rattle.check_levels.specs.Graph.{SourcesOf}
use Rattle.check_wiring.proofs.Lent.{part_long, whole_long, part_back}
use Rattle.check_wiring.proofs.Tables.{times, none_at, few_registers, gatherable, rails, sources_gathered}
use Rattle.check_wiring.proofs.sources_of.Goals as goal

-- the table as it is made
abbrev new : List ℕ
new = times 64 0

pub gather_sources-requires : goal.gather_sources-requires
gather_sources-requires c = let l = c.requires in (
  gatherable _ _ _ _ _ l _ _ (rails _ _ _ _ _ l) (search rules),
  omega (arith, l.regs_room, length-take-le c.args.counts.registers new (few_registers _ _ _ _ _ l)),
)

pub returns : goal.returns
returns c =
    let l = c.requires in
    let m = c.args.counts.registers in
    let few = few_registers _ _ _ _ _ l in
    let part = c.gather_sources.new.sources in
    let same = c.gather_sources.auto.sources in record {
      long = whole_long m new part few same;
      are = λ l. subst (SourcesOf l.pipeline) (sym (part_back m new part few same))
          (sources_gathered _ _ _ _ _ l (times 277 0) _ part (none_at 277) (length-take-le m new few) (part_long m new part few same) c.gather_sources.ensures.gathered);
    }
