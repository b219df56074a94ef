-- `drivers::scan_driven` meets its contract. Assumes nothing.
use mathlib.Core.Path.{sym, ◌∙◌}
use lib.Seq.{length-take-le}
use Rattle.text_names.specs.Tailed.{tailed}
use Rattle.text_names.proofs.Driven.{text_input, text_gate}
use Rattle.text_names.proofs.scan_driven.Goals as goal

pub slice_bounds-rail_among-end : goal.slice_bounds-rail_among-end
slice_bounds-rail_among-end c = sym (length-take-le _ _ c.piece_len-n.ensures.1)

pub returns-then-rail_among : goal.returns-then-rail_among
returns-then-rail_among c =
    let piece-len = c.piece_len-n in
    text_input c.args.s.now piece-len.result (tailed c.args.a.now c.args.t) piece-len.ensures.0 (sym c.rail_among.ensures
    ∙ c.if-rail_among.true)

pub returns : goal.returns
returns c =
    let piece-len = c.piece_len-n in
    let rail-among = c.rail_among in
    let if1 = c.if-rail_among in
    let after-piece = c.after_piece-rest in
    c.net_among.ensures
    ∙ text_gate c.args.s.now after-piece.result.now c.after_piece.result.now piece-len.result
    (tailed c.args.a.now c.args.t) piece-len.ensures.0 after-piece.ensures c.after_piece.ensures (sym rail-among.ensures
    ∙ if1.false)
