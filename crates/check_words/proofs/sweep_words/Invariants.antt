-- `check_words::sweep_words` meets its contract. The loop's invariant: nothing is found under the names before place `from`, nor in a word that what is left
-- of the mask does not name. Assumes nothing.
use Prim.Native.Nat.{◌-◌, ◌≤◌}
use mathlib.Core.Path.{◌≡◌}
use lib.ListN.{length}
use Rattle.verdict.specs.Words.{names}
use Rattle.circuit.specs.Stage.{stage_in}
use Rattle.circuit.specs.Reference.{reference_in}
use Rattle.lane_screen.specs.Suspects.{Clean}
use Rattle.check_words.proofs.Sweeping.{SweptTo, finds_under}
use Rattle.check_words.proofs.sweep_words.Given as goal

abbrev pub invariant-loop-k : goal.invariant-loop-k
invariant-loop-k l =
    SweptTo l.number 1 (finds_under l.which l.order (stage_in l.counts l.code) (reference_in l.sizes l.reference)) (names l.order (stage_in l.counts l.code)) l.from
    × Clean l.which (stage_in l.counts l.code) (reference_in l.sizes l.reference) l.left × (length l.left ≡ 16) × (length l.asked ≡ 16) × (l.from ≤ length l.list)

abbrev pub decreases-loop-k : goal.decreases-loop-k
decreases-loop-k l = length l.list - l.from
