-- `lane_settle::spell_rails` meets its contract. The loop's invariant: the rails of the inputs below i are written. Assumes nothing.
use native.Mathlib.Omega.{arith}
use mathlib.Core.Path.{◌≡◌, subst}
use Rattle.lane_settle.proofs.Rails.{RailsTo, rails_turn, rails_done}
use Rattle.lane_settle.proofs.spell_rails.Goals as goal

pub loop-i-preserved : goal.loop-i-preserved
loop-i-preserved c =
    let l = c.loop-i in rails_turn _ _ l.row l.i l.invariant (omega (arith, c.requires.1, l.invariant.same_long)) _ c.input_lanes-level.ensures

pub returns-clause-spelled : goal.returns-clause-spelled
returns-clause-spelled c =
    let l = c.loop-i in
    let e : l.i ≡ c.args.counts.inputs = omega arith in
    λ code o. rails_done c.args.counts code o c.args.b c.args.row.now l.row (subst (RailsTo c.args.b c.args.row.now l.row) e l.invariant) c.requires.2
