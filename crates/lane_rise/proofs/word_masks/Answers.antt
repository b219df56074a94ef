-- `lane_rise::word_masks` meets its contract: the words of a stage are its care words, or all that its inputs have. Assumes nothing.
use native.Mathlib.Omega.{arith}
use mathlib.Core.Path.{◌≡◌}
use Rattle.lane_rise.proofs.Listing.{all_masks, care_masks}
use Rattle.lane_rise.proofs.word_masks.Goals as goal

pub returns-then-counts-eq0 : goal.returns-then-counts-eq0
returns-then-counts-eq0 c =
    let none : c.args.counts.care ≡ 0 = omega arith in
    all_masks c.args.counts c.args.code.now none c.requires.within.inputs_in

pub returns : goal.returns
returns c =
    care_masks c.args.counts c.args.code.now (λ none. omega arith) c.listed_words.result c.listed_words.ensures
