-- `check_word::wrong_output` meets its contract. Assumes nothing.
use Prim.Native.Nat.{ℕ, ◌≤◌}
use native.Mathlib.Omega.{arith}
use mathlib.Core.Path.{sym, subst}
use mathlib.Core.List.{List}
use lib.ListN.{get_or}
use Rattle.verdict.proofs.Words.{bits_of_bit}
use Rattle.circuit.proofs.Settling.{low_row}
use Rattle.check_word.proofs.Wrong.{wrong_word}
use mathlib.Core.Path.{sym}
use Rattle.check_word.proofs.wrong_output.Goals as goal

pub settle_word-requires : goal.settle_word-requires
settle_word-requires c = (c.requires.stage, c.requires.ordered, low_row c.args.counts c.requires.stage.within)

pub signal_values-requires : goal.signal_values-requires
signal_values-requires c =
    let w = c.requires.answers.within in (
      c.requires.answers,
      omega (arith, w.inputs_in, w.gates_in_holds),
      λ i. subst (λ (l : List ℕ). get_or l i 0 ≤ 1) (sym c.word_bits.ensures) (bits_of_bit _ c.args.w i),
    )

pub returns : goal.returns
returns c =
    let w = c.requires.answers.within in
    wrong_word c.args.counts c.args.code.now c.args.sizes c.args.reference.now c.args.w c.requires.answers
    (omega (arith, c.requires.outputs)) _ _ _ _
    c.settle_word.ensures.settled _
    c.word_bits.ensures (omega (arith, w.inputs_in))
    c.signal_values.ensures.0 c.first_misread.ensures
