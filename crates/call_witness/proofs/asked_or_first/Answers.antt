-- `call_witness::asked_or_first` meets its contract. Assumes nothing.
use Rattle.std.proofs.Common.{◌∙◌, arith, eqb, rules, tests}
use Rattle.std.proofs.lemmas.Iterator.{YieldsList-from_slice}
use Rattle.std.proofs.lemmas.Iterator.Search.{any_from_yields_List}
use Rattle.call_witness.proofs.Names.{sought_found, sought_none, first-none}
use Rattle.call_witness.proofs.asked_or_first.Goals as goal

pub returns-then-any : goal.returns-then-any
returns-then-any c =
    sought_found c.args.list.now c.args.asked _
    (any_from_yields_List (eqb c.args.asked) _ _ _ c.any.ensures.ran (YieldsList-from_slice c.args.list.now (cc)) (λ x b q k. search (rules, tests))) c.if-any.true

pub returns-then-list-gt0 : goal.returns-then-list-gt0
returns-then-list-gt0 c =
    sought_none c.args.list.now c.args.asked _
    (any_from_yields_List (eqb c.args.asked) _ _ _ c.any.ensures.ran (YieldsList-from_slice c.args.list.now (cc)) (λ x b q k. search (rules, tests))) c.if-any.false

pub returns-else-list-gt0 : goal.returns-else-list-gt0
returns-else-list-gt0 c =
    first-none c.args.list.now (λ h. omega (arith, c.if-list-gt0.false))
    ∙ sought_none c.args.list.now c.args.asked _
    (any_from_yields_List (eqb c.args.asked) _ _ _ c.any.ensures.ran (YieldsList-from_slice c.args.list.now (cc)) (λ x b q k. search (rules, tests))) c.if-any.false
