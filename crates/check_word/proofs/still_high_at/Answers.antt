-- `check_word::still_high_at` meets its contract. Assumes nothing.
use Rattle.check_word.proofs.Falling.{still_low, still_high}
use Rattle.check_word.proofs.still_high_at.Goals as goal

pub returns-then-rest-net-eq0 : goal.returns-then-rest-net-eq0
returns-then-rest-net-eq0 c =
    λ w is. still_low c.args.counts c.args.code.now c.args.rest.now c.requires.2 w is c.args.g c.requires.3 c.if-rest-net-eq0.true

pub returns : goal.returns
returns c =
    λ w is. still_high c.args.counts c.args.code.now c.args.rest.now c.requires.2 w is c.args.g c.requires.3 c.if-rest-net-eq0.false _ c.all_fallen.ensures
