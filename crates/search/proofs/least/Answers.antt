-- `search::least` meets its contract. Assumes nothing.
use mathlib.Core.Path.{sym, ◌∙◌}
use Rattle.verdict.proofs.Least.{sought_on, sought_here, sought_none}
use Rattle.search.proofs.least.Goals as goal

pub loop-j-preserved : goal.loop-j-preserved
loop-j-preserved g c p e =
    let answer = e c.loop-j.j _ c.loop-j-test.true c.test.ensures in
    sought_on p _ _ c.loop-j-test.true (c.loop-j.invariant p e) (sym answer ∙ c.if-test.false)

pub returns-then-test : goal.returns-then-test
returns-then-test g c p e =
    let answer = e c.loop-j.j _ c.loop-j-test.true c.test.ensures in
    sought_here p _ _ c.loop-j-test.true (c.loop-j.invariant p e) (sym answer ∙ c.if-test.true)

pub returns : goal.returns
returns g c p e = sought_none p _ _ c.loop-j-test.false (c.loop-j.invariant p e)
