-- `lane_screen::rise_block` meets its contract. Assumes nothing.
use mathlib.Core.Path.{◌∙◌}
use Rattle.lane_screen.proofs.Blocks.{rise_clean}
use Rattle.lane_screen.proofs.rise_block.Goals as goal

pub returns : goal.returns
returns c =
    let space = c.requires.1 in
    let rise = c.rise_words-unacknowledged in
    let signals = c.signal_lanes in
    let rest = rise.ensures.rest in record {
      space = record {
        row_long = rise.ensures.long.0 ∙ space.row_long;
        ack_long = rise.ensures.long.1 ∙ space.ack_long;
        values_long = signals.ensures.long ∙ space.values_long;
        ground = rest.ground;
      };
      rest = rest;
      clean = rise_clean c.args.counts c.args.code.now c.args.sizes c.args.reference.now c.requires.0 c.args.b rise.new.row rest.nets
          signals.new.values c.wrong_words-wrong.result rise.result signals.ensures.values c.wrong_words-wrong.ensures rise.ensures.words;
    }
