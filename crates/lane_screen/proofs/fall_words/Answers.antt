-- `lane_screen::fall_words` meets its contract: the marks are the rails of the outputs and what the gates add. Assumes nothing.
use mathlib.Core.Path.{◌∙◌, ap}
use mathlib.Core.Bool.{true}
use Rattle.lane_cells.specs.Lane.{lane}
use Rattle.lane_screen.proofs.Outputs.{outputs_marked}
use Rattle.lane_screen.proofs.Resting.{acknowledged_but}
use Rattle.lane_screen.proofs.fall_words.Goals as goal

pub returns-then-words-eq0-clause-words : goal.returns-then-words-eq0-clause-words
returns-then-words-eq0-clause-words c =
    let counts = c.args.counts in
    let code = c.args.code.now in
    let cleared = c.clear in
    let marks = c.mark_outputs in
    let first = c.mark_gates in
    λ b rest.
    let start = outputs_marked true counts code b cleared.new.ack marks.new.ack cleared.ensures.1 marks.ensures.marked in
    acknowledged_but counts code c.requires.1 b true c.args.row.now first.new.ack 0 rest.nets (first.ensures.marked b rest start)
    (λ j d e. c.unmarked-words.ensures j d (ap (lane j) c.if-words-eq0.true ∙ e))

pub returns-clause-words : goal.returns-clause-words
returns-clause-words c =
    let counts = c.args.counts in
    let code = c.args.code.now in
    let cleared = c.clear in
    let marks = c.mark_outputs in
    let first = c.mark_gates in
    let more = c.mark_gates-2 in
    λ b rest.
    let start = outputs_marked true counts code b cleared.new.ack marks.new.ack cleared.ensures.1 marks.ensures.marked in
    acknowledged_but counts code c.requires.1 b true c.args.row.now more.new.ack c.unmarked.result rest.nets
    (more.ensures.marked b rest (first.ensures.marked b rest start)) c.unmarked.ensures
