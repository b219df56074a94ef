-- `text_names::find_gate` meets its contract. Assumes nothing.
use native.Mathlib.Omega.{arith}
use mathlib.Core.Path.{◌≡◌, ◌∙◌}
use mathlib.Core.Bool.{not}
use Rattle.std.proofs.Common.{rules, tests, inl}
use Rattle.std.proofs.lemmas.Iterator.Consumers.{YieldsList-at, count_from_yields_List}
use Rattle.std.proofs.lemmas.Iterator.Search.{YieldsList-from_take_while}
use Rattle.text_spec.specs.FromText.{net}
use Rattle.text_scan.proofs.Pieces.{lines_few}
use Rattle.text_scan.proofs.Turns.{lines_road}
use Rattle.text_names.specs.Tailed.{tailed, nets_in}
use Rattle.text_names.proofs.Driven.{has_net}
use Rattle.text_names.proofs.Places.{gates_before, gates_few}
use Rattle.text_names.proofs.find_gate.Goals as goal

pub returns : goal.returns
returns c =
    let x = tailed c.args.a.now c.args.t in let s = c.args.s.now in
    let e : c.count.result ≡ net x (nets_in s) =
    count_from_yields_List c.take_while.result _ c.count.ensures.ran
    (YieldsList-from_take_while _ (λ l. not (has_net x l)) (YieldsList-at c.take_while.ensures.source (lines_road _)) c.take_while.ensures.closure
    c.take_while.ensures.done (λ x b q k. search (rules, tests)))
    ∙ gates_before x s in
    (e, omega (arith, e, gates_few x s))

pub count-requires-clause-fits : goal.count-requires-clause-fits
count-requires-clause-fits c = inl (rw c.take_while.ensures.source (omega (arith, lines_few c.args.s.now)))
