-- `read_file::find_nameless` meets its contract. The loop's invariant, `Searched`: every operand before the position names something, so
-- the search goes on from there, over whole commands. Assumes nothing.
use Prim.Native.Nat.{◌-◌}
use lib.ListN.{length}
use Rattle.read_file.specs.Files.{nets_with}
use Rattle.read_file.proofs.Search.{Searched}
use Rattle.read_file.proofs.find_nameless.Given as goal

abbrev pub invariant-loop-at : goal.invariant-loop-at
invariant-loop-at l = Searched l.file (nets_with l.n l.g l.notes) l.s l.at l.k

abbrev pub decreases-loop-at : goal.decreases-loop-at
decreases-loop-at l = length l.s - l.at
