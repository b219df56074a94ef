-- `check_word::all_fallen` meets its contract. Assumes nothing.
use Prim.Native.Nat.{ℕ}
use native.Mathlib.Omega.{arith}
use mathlib.Core.Path.{ap, ◌∙◌}
use mathlib.Core.List.{List}
use Rattle.verdict.specs.Rows.{all_null}
use Rattle.circuit.specs.Stage.{stage_outputs}
use Rattle.check_word.proofs.Falling.{back_row, one_back, none_back}
use Rattle.check_word.proofs.all_fallen.Goals as goal

pub fall-requires : goal.fall-requires
fall-requires c =
    let l = c.with_rails_low-row.ensures in
    (c.requires.0, c.requires.1, back_row c.args.counts c.args.code.now c.args.rest.now _ c.requires.2 l.0 l.1 l.2 c.args.input c.args.gate (omega arith))

pub returns-then-input-counts : goal.returns-then-input-counts
returns-then-input-counts c =
    let l = c.with_rails_low-row.ensures in
    c.all_null.ensures
    ∙ ap (λ (x : List ℕ). all_null x (stage_outputs c.args.counts c.args.code.now))
    (c.fall.ensures.settled ∙ one_back c.args.counts c.args.code.now c.args.rest.now _ c.requires.2
    l.0 l.1 l.2 c.args.input c.args.gate (omega arith))

pub returns : goal.returns
returns c =
    let l = c.with_rails_low-row.ensures in
    c.all_null-2.ensures
    ∙ ap (λ (x : List ℕ). all_null x (stage_outputs c.args.counts c.args.code.now))
    (c.fall-2.ensures.settled ∙ none_back c.args.counts c.args.code.now c.args.rest.now _ c.requires.2
    l.0 l.1 l.2 c.args.input c.args.gate (omega arith))
