-- `lane_screen::rise_words` meets its contract: the marks are the rails of the outputs and what the gates add. Assumes nothing.
use mathlib.Core.Path.{◌∙◌, ap}
use mathlib.Core.Bool.{false}
use Rattle.lane_cells.specs.Lane.{lane}
use Rattle.lane_screen.proofs.Outputs.{outputs_marked}
use Rattle.lane_screen.proofs.Resting.{acknowledged_but}
use Rattle.lane_screen.proofs.rise_words.Goals as goal

pub returns-then-words-eq0-clause-words : goal.returns-then-words-eq0-clause-words
returns-then-words-eq0-clause-words c =
    let counts = c.args.counts in
    let code = c.args.code.now in
    let b = c.args.b in
    let cleared = c.clear in
    let marks = c.mark_outputs in
    let settle = c.settle in
    let start = outputs_marked false counts code b cleared.new.ack marks.new.ack cleared.ensures.1 marks.ensures.marked in
    let rest = settle.ensures.rest in
    acknowledged_but counts code c.requires.1 b false settle.new.row settle.new.ack 0 rest.nets (settle.ensures.marked start)
    (λ j d e. c.unmarked-words.ensures j d (ap (lane j) c.if-words-eq0.true ∙ e))

pub returns-clause-words : goal.returns-clause-words
returns-clause-words c =
    let counts = c.args.counts in
    let code = c.args.code.now in
    let b = c.args.b in
    let cleared = c.clear in
    let marks = c.mark_outputs in
    let settle = c.settle in
    let more = c.mark_gates in
    let start = outputs_marked false counts code b cleared.new.ack marks.new.ack cleared.ensures.1 marks.ensures.marked in
    let rest = settle.ensures.rest in
    acknowledged_but counts code c.requires.1 b false settle.new.row more.new.ack c.unmarked.result rest.nets
    (more.ensures.marked b rest (settle.ensures.marked start)) c.unmarked.ensures
