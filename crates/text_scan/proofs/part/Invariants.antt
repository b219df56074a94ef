-- `text_scan::part` meets its contract. The loop's invariant: the part that is left to find in the rest is the one to find. Assumes nothing.
use Prim.Native.Nat.{◌-◌}
use mathlib.Core.Path.{◌≡◌}
use mathlib.Core.List.{[]}
use lib.ListN.{get_or}
use Rattle.text_spec.specs.Characters.{space}
use Rattle.text_spec.specs.Lines.{split, part}
use Rattle.text_scan.proofs.part.Given as goal

abbrev pub invariant-loop-before : goal.invariant-loop-before
invariant-loop-before l = get_or (split space l.rest) (l.i - l._before) [] ≡ part l.line l.i
