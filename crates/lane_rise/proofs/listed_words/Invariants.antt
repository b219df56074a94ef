-- `lane_rise::listed_words` meets its contract. The loop's invariant: the masks name the words before word k, and no others. Assumes nothing.
use mathlib.Core.Path.{◌≡◌}
use lib.ListN.{length}
use Rattle.lane_rise.specs.Rising.{ListedIn}
use Rattle.lane_rise.proofs.listed_words.Given as goal

abbrev pub invariant-loop-k : goal.invariant-loop-k
invariant-loop-k l = (length l.masks ≡ 16) × ListedIn l.fn.counts l.code l.k l.masks
