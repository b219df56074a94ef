-- `lane_count::add_eight` meets its contract. Assumes nothing.
use native.Mathlib.Omega.{arith}
use mathlib.Core.Path.{◌∙◌}
use lib.ListN.{length-set}
use Rattle.lane_count.proofs.Levels.{eight_few, eight_sum}
use Rattle.lane_count.proofs.add_eight.Goals as goal

pub bounds-digits-0-2 : goal.bounds-digits-0-2
bounds-digits-0-2 c = omega (arith, c.requires.0)

pub bounds-digits-1-2 : goal.bounds-digits-1-2
bounds-digits-1-2 c =
    simp length-set (omega (arith, c.requires.0))

pub bounds-digits-2-2 : goal.bounds-digits-2-2
bounds-digits-2-2 c =
    simp length-set (omega (arith, c.requires.0))

pub add-requires : goal.add-requires
add-requires c j =
    let e = eight_sum c.args.digits.now c.args.row.now c.args.at _ _ _ _ _ _ _ c.sum_pair-ab.ensures
    c.sum_pair-cd.ensures c.sum_pair-ef.ensures c.sum_pair-gh.ensures c.sum_of-abcd.ensures
    c.sum_of-efgh.ensures c.sum_of-all.ensures c.requires.0 c.requires.1 j in
    simp length-set (omega (arith, e, c.requires.2 j, eight_few j c.args.row.now c.args.at c.requires.1))

pub shape_of-digits : goal.shape_of-digits
shape_of-digits c = c.add.ensures.0 ∙ simp length-set

pub returns : goal.returns
returns c =
    let e = eight_sum c.args.digits.now c.args.row.now c.args.at _ _ _ _ _ _ _ c.sum_pair-ab.ensures
    c.sum_pair-cd.ensures c.sum_pair-ef.ensures c.sum_pair-gh.ensures c.sum_of-abcd.ensures
    c.sum_of-efgh.ensures c.sum_of-all.ensures c.requires.0 c.requires.1 in
    let a = c.add.ensures in
    (a.0 ∙ simp length-set, λ j. a.1 j ∙ e j)
