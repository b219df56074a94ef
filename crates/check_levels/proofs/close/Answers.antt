-- `check_levels::close` meets its contract. The loop's invariant: the registers before j were gone through. Assumes nothing.
use native.Mathlib.Omega.{arith}
use mathlib.Core.Path.{refl, ◌∙◌}
use Rattle.check_levels.proofs.Closing.{closing_none, closing_more, closing_all}
use Rattle.check_levels.proofs.close.Goals as goal

pub loop-j-init : goal.loop-j-init
loop-j-init c = (refl, λ p of. closing_none p _ c.requires of)

pub loop-j-preserved : goal.loop-j-preserved
loop-j-preserved c =
    let l = c.loop-j in (
      c.close_through.ensures.long ∙ l.invariant.0,
      λ p of. closing_more p _ c.requires of _ _ _ (omega (arith, of.long, l.invariant.0, c.loop-j-test.true)) c.close_through.ensures (l.invariant.1 p of),
    )

pub returns : goal.returns
returns c = let l = c.loop-j in λ p of. closing_all p _ c.requires of _ _ (omega (arith, of.long, l.invariant.0, c.loop-j-test.false)) (l.invariant.1 p of)
