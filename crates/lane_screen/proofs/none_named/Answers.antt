-- `lane_screen::none_named` meets its contract: the words of a stage are its care words, or all that its inputs have. Assumes nothing.
use mathlib.Core.Path.{subst}
use Rattle.lane_screen.specs.Suspects.{Unnamed}
use Rattle.lane_rise.proofs.Care.{all_words, care_words}
use Rattle.lane_screen.proofs.none_named.Goals as goal

pub returns-then-counts-eq0 : goal.returns-then-counts-eq0
returns-then-counts-eq0 c e w i =
    c.none_of_all.ensures e w (all_words c.args.counts c.args.code.now c.if-counts-eq0.true w i)

pub returns : goal.returns
returns c e w i =
    let p = care_words c.args.counts c.args.code.now c.if-counts-eq0.false w i in
    subst (Unnamed c.args.mask.now) p.2 (c.none_listed.ensures e p.0 p.1)
