-- A care word of value w at a place, and the answer b of the test for 18.
-- Assumes nothing.
use Prim.Native.Nat.{ℕ, ◌^◌, ◌≤◌, ◌<◌}
use mathlib.Core.Path.{◌≡◌}
use mathlib.Core.Bool.{Bool, true, false}
use mathlib.Core.List.{List}
use lib.Dec.{ltb}
use borrow.Author.Tests.{lt-ltb, le-ltb}
use Rattle.netlist.specs.declared.Counts.{Counts}
use Rattle.netlist.specs.declared.Next.{Next}
use Rattle.netlist.specs.declared.Next.TheVariants.{Refused}
use Rattle.netlist.specs.Bytes.{operand}
use Rattle.netlist.specs.Commands.{take_care}

module _ (s : List ℕ) (place : ℕ) (before : Counts) (taken : Next) (w : ℕ) (read : w ≡ operand s place) (b : Bool) (test : b ≡ ltb w (2 ^ before.inputs)) where
  pub care_high : b ≡ false → Refused 18 place ≡ take_care s place before taken
  unfolding take_care
  care_high e = rw (← read, ← test, e)

  pub care_low : b ≡ true → w < before.floor → Refused 19 place ≡ take_care s place before taken
  unfolding take_care
  care_low e h = rw (← read, ← test, e, lt-ltb w before.floor h)

  pub care_passed : b ≡ true → before.floor ≤ w → taken ≡ take_care s place before taken
  unfolding take_care
  care_passed e h = rw (← read, ← test, e, le-ltb w before.floor h)
