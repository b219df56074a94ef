-- `lane_complete::keeping_input` meets its contract: low rails with those of input i as at the rest spell the rows that 20 looks at. Assumes nothing.
use Prim.Native.Nat.{ℕ}
use native.Mathlib.Omega.{arith}
use mathlib.Core.Path.{◌∙◌}
use lib.ListN.{get_or, length-set}
use Rattle.lane_settle.specs.Block.{Holding, AtRest}
use Rattle.lane_complete.specs.Rows.{remaining_in}
use Rattle.lane_complete.proofs.Inputs.{set_long, fallen_rows, fallen_spelled, fallen_low_again}
use Rattle.lane_complete.proofs.keeping_input.Goals as goal

pub bounds-row-i-2 : goal.bounds-row-i-2
bounds-row-i-2 c = simp length-set (omega (arith, c.requires.2, c.requires.4))

pub fall_gates-requires : goal.fall_gates-requires
fall_gates-requires c =
    (c.requires.0, c.requires.1, c.requires.3, omega (arith, c.requires.4, set_long c.args.row.now c.args.i (λ p. get_or c.args.rest.now p 0)))

pub null_words-words-requires : goal.null_words-words-requires
null_words-words-requires c =
    (c.requires.0, omega (arith, c.requires.4, set_long c.args.row.now c.args.i (λ p. get_or c.args.rest.now p 0), c.fall_gates.ensures.long))

pub bounds-row-i-3 : goal.bounds-row-i-3
bounds-row-i-3 c = omega (arith, c.requires.2, c.requires.4, c.fall_gates.ensures.long ∙ set_long c.args.row.now c.args.i (λ p. get_or c.args.rest.now p 0))

pub bounds-row-i-4 : goal.bounds-row-i-4
bounds-row-i-4 c = simp length-set (omega (arith, c.requires.2, c.requires.4, c.fall_gates.ensures.long ∙ set_long c.args.row.now c.args.i (λ p. get_or c.args.rest.now p 0)))

pub shape_of-row : goal.shape_of-row
shape_of-row c =
    let fall = c.fall_gates in
    set_long fall.new.row c.args.i (λ p. 0) ∙ fall.ensures.long ∙ set_long c.args.row.now c.args.i (λ p. get_or c.args.rest.now p 0)

pub returns : goal.returns
returns c =
    let counts = c.args.counts in
    let code = c.args.code.now in
    let rest = c.args.rest.now in
    let row = c.args.row.now in
    let i = c.args.i in
    let fall = c.fall_gates in
    let long = fall.ensures.long ∙ set_long row i (λ p. get_or rest p 0) in
    let held : (b : ℕ) → AtRest counts code b rest → Holding counts (remaining_in counts code b i) fall.new.row =
    λ b r. fall.ensures.settled b i _ r (fallen_rows counts code b i c.requires.2) (fallen_spelled counts code b i c.requires.2 rest row (omega (arith, c.requires.2, c.requires.4)) r c.requires.5) in record {
      long = set_long fall.new.row i (λ p. 0) ∙ long;
      low = λ b r. fallen_low_again counts code b i c.requires.2 fall.new.row (omega (arith, c.requires.2, c.requires.4, long)) (held b r);
      words = λ b r. c.null_words-words.ensures _ (held b r).nets;
    }
