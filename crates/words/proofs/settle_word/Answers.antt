-- `words::settle_word` meets its contract. Assumes nothing.
use mathlib.Core.Path.{ap, ◌∙◌}
use Rattle.verdict.specs.Rows.{settled}
use Rattle.circuit.specs.Stage.{stage_gates}
use Rattle.words.proofs.settle_word.Goals as goal

pub returns : goal.returns
returns c =
    let s = c.settle.ensures in record {
      settled = s.settled ∙ ap (settled (stage_gates c.args.counts c.args.code.now))
          c.spell_word.ensures.rails;
      row = s.row;
    }
