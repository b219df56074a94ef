-- `lane_complete::input_words` meets its contract. Assumes nothing.
use Prim.Native.Nat.{ℕ}
use mathlib.Core.Path.{sym, ap, subst}
use lib.Dec.{eqb}
use Rattle.runs.proofs.Test.{clash}
use Rattle.circuit.specs.Stage.{stage_in}
use Rattle.check_word.specs.declared.Sweep.{Sweep}
use Rattle.lane_cells.proofs.Blocks.{all-at}
use Rattle.lane_screen.specs.Suspects.{CleanIn}
use Rattle.lane_complete.proofs.input_words.Goals as goal

pub returns-in-Missing : goal.returns-in-Missing
returns-in-Missing c reference =
    subst (λ (which : Sweep). CleanIn which (stage_in c.args.counts c.args.code.now) reference c.args.b c.missing_words.result) (sym c.in-Missing.is)
    (c.missing_words.ensures reference)

pub returns-in-Remaining : goal.returns-in-Remaining
returns-in-Remaining c reference =
    subst (λ (which : Sweep). CleanIn which (stage_in c.args.counts c.args.code.now) reference c.args.b c.remaining_words.result) (sym c.in-Remaining.is)
    (c.remaining_words.ensures reference)

-- all words are named
pub returns-in_default : goal.returns-in_default
returns-in_default c reference j d e = absurd (clash (ap (λ (x : ℕ). eqb x 1) (all-at j d)) e)
