-- `check_rules::is_uneven` meets its contract. Assumes nothing.
use mathlib.Core.Path.{refl, sym, ◌∙◌}
use mathlib.Core.Bool.{true, false}
use Rattle.check_levels.specs.Graph.{source_in}
use Rattle.check_rules.proofs.Rules.{uneven_told}
use Rattle.check_rules.proofs.is_uneven.Goals as goal

pub returns-then-lacks : goal.returns-then-lacks
returns-then-lacks c = λ p of input_is level-is.
    let w = c.level_set in
    uneven_told p c.args.sources.now of c.requires.0 c.args.k c.requires.2 c.args.levels.now c.args.inputs.now level-is input_is c.requires.1 c.requires.4
    w.result w.ensures true (source_in c.args.inputs.now 0 c.args.k) (sym c.if-lacks.true ∙ c.lacks.ensures) refl

pub returns-then-is_source : goal.returns-then-is_source
returns-then-is_source c = λ p of input_is level-is.
    let w = c.level_set in
    uneven_told p c.args.sources.now of c.requires.0 c.args.k c.requires.2 c.args.levels.now c.args.inputs.now level-is input_is c.requires.1 c.requires.4
    w.result w.ensures false true (sym c.if-lacks.false ∙ c.lacks.ensures) (sym c.if-is_source.true ∙ c.is_source.ensures)

pub returns : goal.returns
returns c = λ p of input_is level-is.
    let w = c.level_set in
    uneven_told p c.args.sources.now of c.requires.0 c.args.k c.requires.2 c.args.levels.now c.args.inputs.now level-is input_is c.requires.1 c.requires.4
    w.result w.ensures false false (sym c.if-lacks.false ∙ c.lacks.ensures) (sym c.if-is_source.false ∙ c.is_source.ensures)
