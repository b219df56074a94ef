-- `read_file::nameless_at` meets its contract. The loop's invariant: the operands before `j` name what they are asked for, so the search goes
-- on from `j`; those that a command uses are among those that it has. Assumes nothing.
use Prim.Native.Nat.{◌+◌, ◌*◌, ◌-◌, ◌≤◌}
use mathlib.Core.Path.{◌≡◌}
use lib.ListN.{length}
use Rattle.netlist.specs.Reading.{asked, nameless}
use Rattle.read_file.specs.Files.{nets_with}
use Rattle.read_file.proofs.nameless_at.Given as goal

abbrev pub invariant-loop-j : goal.invariant-loop-j
invariant-loop-j l =
    (l.first + 2 * l.m ≤ length l.s)
    × (nameless (asked l.file l.sort (nets_with l.n l.g l.notes) l.k) 0 l.s l.first l.m ≡ nameless (asked l.file l.sort (nets_with l.n l.g l.notes) l.k) l.j l.s (l.first + 2 * l.j) (l.m - l.j))
