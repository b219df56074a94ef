-- `check_rules::level_set` meets its contract. The loop's invariant: the number is the set of those registers before t that have the level. Assumes nothing.
use native.Mathlib.Omega.{arith}
use mathlib.Core.Path.{◌≡◌, refl}
use lib.ListN.{length}
use Rattle.check_rules.proofs.Sets.{set_none, set_more}
use Rattle.check_rules.proofs.level_set.Goals as goal

pub loop-t-init : goal.loop-t-init
loop-t-init c = set_none _

pub loop-t-preserved : goal.loop-t-preserved
loop-t-preserved c =
    let l = c.loop-t in
    set_more _ _ _ _ _ (omega arith) l.invariant refl c.joined-all.ensures

pub returns : goal.returns
returns c =
    let l = c.loop-t in
    let e : l.t ≡ length c.args.levels.now = omega arith in
    rw e at l.invariant
