-- `words::word_of` meets its contract. Assumes nothing.
use mathlib.Core.Path.{sym, ap, ◌∙◌}
use Rattle.verdict.specs.declared.WordOrder.{WordOrder}
use Rattle.verdict.specs.Words.{spelled}
use Rattle.words.proofs.word_of.Goals as goal

pub returns-in-FirstHighest : goal.returns-in-FirstHighest
returns-in-FirstHighest c =
    let a = c.args in
    c.turned.ensures ∙ ap (λ (o : WordOrder). spelled o a.inputs a.name) (sym c.in-FirstHighest.is)

pub returns-in-FirstLowest : goal.returns-in-FirstLowest
unfolding spelled
returns-in-FirstLowest c =
    let a = c.args in
    ap (λ (o : WordOrder). spelled o a.inputs a.name) (sym c.in-FirstLowest.is)
