-- `text_drive::undriven` meets its contract. Assumes nothing.
use native.Mathlib.Omega.{arith}
use mathlib.Core.Path.{sym, ◌∙◌}
use borrow.Author.Tests.{not-true, not-false}
use Rattle.text_names.specs.Tailed.{drivers_of}
use Rattle.text_names.proofs.Ends.{two_lines, lines_inside}
use Rattle.text_drive.proofs.Needed.{undriven_outputs, undriven_gates}
use Rattle.text_drive.proofs.undriven.Goals as goal

pub slice_bounds-piece_len-count : goal.slice_bounds-piece_len-count
slice_bounds-piece_len-count c = omega (arith, (two_lines c.args.s.now c.requires.0).first, c.piece_len-from.ensures.0)

pub slice_bounds-piece_len-start : goal.slice_bounds-piece_len-start
slice_bounds-piece_len-start c = omega (arith, (two_lines c.args.s.now c.requires.0).first, c.piece_len-from.ensures.0)

pub slice_bounds-rails_driven-end : goal.slice_bounds-rails_driven-end
slice_bounds-rails_driven-end c =
    let piece-len = c.piece_len-from in
    omega (arith, (lines_inside c.args.s.now c.requires.0 piece-len.result c.piece_len.result piece-len.ensures.0 c.piece_len.ensures.0).1)

pub returns-then-not-rails_driven : goal.returns-then-not-rails_driven
returns-then-not-rails_driven c =
    let piece-len = c.piece_len-from in
    let piece-len2 = c.piece_len in
    undriven_outputs c.args.s.now c.requires.0 piece-len.result piece-len2.result piece-len.ensures.0 piece-len2.ensures.0
    (drivers_of c.args.s.now) (sym c.rails_driven.ensures ∙ not-true _ c.if-not-rails_driven.true-raw)

pub first_undriven-requires : goal.first_undriven-requires
first_undriven-requires c =
    let piece-len = c.piece_len-from in
    let piece-len2 = c.piece_len in (
      omega arith,
      (lines_inside c.args.s.now c.requires.0 piece-len.result piece-len2.result piece-len.ensures.0 piece-len2.ensures.0).1,
      c.requires.1,
    )

pub returns : goal.returns
returns c =
    let piece-len = c.piece_len-from in
    let piece-len2 = c.piece_len in
    let rails-driven = c.rails_driven in
    c.first_undriven.ensures
    ∙ undriven_gates c.args.s.now c.requires.0 piece-len.result piece-len2.result piece-len.ensures.0 piece-len2.ensures.0
    (drivers_of c.args.s.now) (sym rails-driven.ensures ∙ not-false _ c.if-not-rails_driven.false-raw)
