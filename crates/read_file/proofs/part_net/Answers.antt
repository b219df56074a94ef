-- `read_file::part_net` meets its contract. The loop's invariant: the net that is asked for is net `left` of the parts from `p` on.
-- Assumes nothing.
use native.Mathlib.Omega.{arith}
use mathlib.Core.Path.{sym, ◌∙◌}
use Rattle.read_file.proofs.Carrying.{net_here, net_later, net_past}
use Rattle.read_file.proofs.part_net.Goals as goal

pub returns-then-left-own : goal.returns-then-left-own
returns-then-left-own c =
    c.own_net.ensures ∙ sym (c.loop-note.invariant ∙ net_here _ _ _ c.loop-note-test.true (omega (arith, c.nets_of-own.ensures, c.if-left-own.true)))

pub loop-note-preserved : goal.loop-note-preserved
loop-note-preserved c =
    c.loop-note.invariant ∙ net_later _ _ _ c.loop-note-test.true c.nets_of-own.ensures c.if-left-own.false

pub returns : goal.returns
returns c = sym (c.loop-note.invariant ∙ net_past _ _ _ c.loop-note-test.false)
