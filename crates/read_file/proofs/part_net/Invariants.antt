-- `read_file::part_net` meets its contract. The loop's invariant: the net that is asked for is net `left` of the parts from note `p` on.
-- Assumes nothing.
use mathlib.Core.Path.{◌≡◌}
use lib.ListN.{drop}
use Rattle.read_file.specs.Files.{carried_at}
use Rattle.read_file.proofs.Carrying.{noted}
use Rattle.read_file.proofs.part_net.Given as goal

abbrev pub invariant-loop-note : goal.invariant-loop-note
invariant-loop-note l = carried_at (noted l.notes) l.i ≡ carried_at (noted (drop l.note-index l.notes)) l.left
