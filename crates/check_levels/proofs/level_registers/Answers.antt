-- `check_levels::level_registers` meets its contract. The loop's invariant: the levels are those after so many rounds. Assumes nothing.
use native.Mathlib.Omega.{arith}
use mathlib.Core.Path.{◌≡◌, refl, ◌∙◌}
use lib.ListN.{length}
use Rattle.wiring_spec.specs.Parts.{register_count}
use Rattle.check_levels.proofs.Raising.{round_none, round_more, round_all}
use Rattle.check_levels.proofs.level_registers.Goals as goal

pub loop-round-init : goal.loop-round-init
loop-round-init c = (refl, λ p of forward ones. round_none p forward _ ones)

pub loop-round-preserved : goal.loop-round-preserved
loop-round-preserved c =
    let l = c.loop-round in
    let r = c.raise-known.ensures in (
      r.long ∙ l.invariant.0,
      λ p of forward ones.
          let e : length l.levels ≡ register_count p = l.invariant.0 ∙ c.requires.0 ∙ of.long in
          round_more p forward _ (omega (arith, of.long, c.requires.0, c.requires.1)) of (λ t. (c.type_inv.sources t).fits) _ _ _ _ _ (rw e at r) (l.invariant.1 p of forward ones),
    )

pub returns : goal.returns
returns c = let l = c.loop-round in record { long = l.invariant.0; levelled = λ p of forward ones t h. round_all p forward _ _ _ (omega (arith, of.long, c.requires.0, c.loop-round-test.false)) (l.invariant.1 p of forward ones) t h }
