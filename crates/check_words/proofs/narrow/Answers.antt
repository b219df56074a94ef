-- `check_words::narrow` meets its contract. Assumes nothing.
use lib.ListN.{length-set}
use Rattle.circuit.specs.Stage.{stage_in}
use Rattle.lane_complete.proofs.Narrowing.{clean_narrowed}
use Rattle.check_words.proofs.narrow.Goals as goal

pub returns-else-has_few : goal.returns-else-has_few
returns-else-has_few c = record {
  long = (simp length-set, simp length-set);
  clean = λ reference. clean_narrowed c.args.which (stage_in c.args.counts c.args.code.now) reference c.args.mask.now c.args.b _
      c.if-b-mask.true
      (c.input_words-words.ensures reference);
}
