-- `lane_complete::without_input` meets its contract: the rails of the block with those of input i low spell the rows that 14 looks at. Assumes nothing.
use native.Mathlib.Omega.{arith}
use mathlib.Core.Path.{◌∙◌}
use lib.ListN.{length-set}
use Rattle.lane_complete.proofs.Inputs.{set_long, missing_rows, missing_spelled}
use Rattle.lane_complete.proofs.without_input.Goals as goal

pub bounds-row-i-2 : goal.bounds-row-i-2
bounds-row-i-2 c = simp length-set (omega (arith, c.requires.2, c.requires.3, c.spell_rails.ensures.long))

pub settle_gates-requires : goal.settle_gates-requires
settle_gates-requires c =
    let spell = c.spell_rails in
    (c.requires.0, c.requires.1, omega (arith, c.requires.3, spell.ensures.long, set_long spell.new.row c.args.i (λ p. 0)))

pub data_words-requires : goal.data_words-requires
data_words-requires c =
    let spell = c.spell_rails in
    (c.requires.0, omega (arith, c.requires.3, spell.ensures.long, set_long spell.new.row c.args.i (λ p. 0), c.settle_gates.ensures.long))

pub shape_of-row : goal.shape_of-row
shape_of-row c =
    let spell = c.spell_rails in
    c.settle_gates.ensures.long ∙ set_long spell.new.row c.args.i (λ p. 0) ∙ spell.ensures.long

pub returns : goal.returns
returns c =
    let counts = c.args.counts in
    let code = c.args.code.now in
    let spell = c.spell_rails in
    let settle = c.settle_gates in
    let spelled = missing_spelled counts code c.args.b c.args.i c.requires.2 spell.new.row (omega (arith, c.requires.2, c.requires.3, spell.ensures.long)) (spell.ensures.spelled code c.requires.1) in
    let held = settle.ensures.settled _ (missing_rows counts code c.args.b c.args.i c.requires.2) spelled in
    record {
      long = settle.ensures.long ∙ set_long spell.new.row c.args.i (λ p. 0) ∙ spell.ensures.long;
      ground = held.ground;
      words = c.data_words.ensures _ held.nets;
    }
