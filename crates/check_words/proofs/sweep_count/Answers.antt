-- `check_words::sweep_count` meets its contract. Assumes nothing.
use native.Mathlib.Omega.{arith}
use mathlib.Core.Path.{refl}
use mathlib.Core.Logic.{inl, inr}
use Rattle.check_words.proofs.sweep_count.Goals as goal

pub returns-then-all_hold : goal.returns-then-all_hold
returns-then-all_hold c = record { few = omega arith; decides = inr (refl, c.all_hold.ensures.0 c.if-all_hold.true) }

pub returns : goal.returns
returns c = record { few = omega arith; decides = inl refl }
