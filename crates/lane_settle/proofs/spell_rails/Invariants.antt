-- `lane_settle::spell_rails` meets its contract. The loop's invariant: the rails of the inputs below i are written. Assumes nothing.
use Rattle.lane_settle.proofs.Rails.{RailsTo}
use Rattle.lane_settle.proofs.spell_rails.Given as goal

abbrev pub invariant-loop-i : goal.invariant-loop-i
invariant-loop-i l = RailsTo l.b l.initial.row l.row l.i
