-- `call_make::input_rails` meets its contract. The loop's invariant: the rails before rail i are stored. Assumes nothing.
use Prim.Native.Nat.{ℕ, ◌<◌}
use mathlib.Core.Path.{◌≡◌}
use lib.ListN.{length, get_or}
use Rattle.call_make.proofs.input_rails.Given as goal

abbrev pub invariant-loop-i : goal.invariant-loop-i
invariant-loop-i l = (length l.rails ≡ length l.initial.rails) × ((j : ℕ) → j < l.i → get_or l.rails j 0 ≡ j)
