-- `call_keys::earlier` meets its contract. Assumes nothing.
use native.Mathlib.Omega.{arith}
use mathlib.Core.Path.{refl}
use mathlib.Core.Logic.{inl, inr}
use Rattle.call_keys.proofs.earlier.Goals as goal

pub returns-then-keys-best : goal.returns-then-keys-best
returns-then-keys-best c = inl (refl, omega (arith, c.if-best-none.true), omega (arith, c.if-keys-best.true))

pub returns-else-keys-best : goal.returns-else-keys-best
returns-else-keys-best c = inr (refl, λ l. omega (arith, c.if-keys-best.false))

pub returns-else-best-none : goal.returns-else-best-none
returns-else-best-none c = inr (refl, λ l. absurd (omega (arith, c.if-best-none.false)))
