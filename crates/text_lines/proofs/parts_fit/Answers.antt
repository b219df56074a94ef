-- `text_lines::parts_fit` meets its contract. Assumes nothing.
use native.Mathlib.Omega.{arith}
use mathlib.Core.Path.{sym, ◌∙◌}
use borrow.Author.Tests.{not-true, not-false}
use Rattle.text_lines.proofs.LineForms.{no_kind, many_pins, no_pins, net_decides}
use Rattle.text_lines.proofs.parts_fit.Goals as goal

pub returns-then-kind_named-eq0 : goal.returns-then-kind_named-eq0
returns-then-kind_named-eq0 c =
    no_kind c.args.kind.now c.args.pins.now c.args.net.now (sym c.kind_named.ensures ∙ c.if-kind_named-eq0.true)

pub returns-then-count-gt3 : goal.returns-then-count-gt3
returns-then-count-gt3 c =
    let kind-named = c.kind_named in
    let if1 = c.if-kind_named-eq0 in
    many_pins c.args.kind.now c.args.pins.now c.args.net.now (λ z. if1.false (kind-named.ensures ∙ z))
    (omega (arith, c.count.ensures))

pub returns-then-not-are_names : goal.returns-then-not-are_names
returns-then-not-are_names c =
    let kind-named = c.kind_named in
    let if1 = c.if-kind_named-eq0 in
    let count = c.count in
    no_pins c.args.kind.now c.args.pins.now c.args.net.now (λ z. if1.false (kind-named.ensures ∙ z)) (omega (arith, count.ensures))
    (sym c.are_names.ensures ∙ not-true _ c.if-not-are_names.true-raw)

pub returns : goal.returns
returns c =
    let kind-named = c.kind_named in
    let if1 = c.if-kind_named-eq0 in
    let count = c.count in
    let are-names = c.are_names in
    c.is_name.ensures
    ∙ net_decides c.args.kind.now c.args.pins.now c.args.net.now (λ z. if1.false (kind-named.ensures ∙ z)) (omega (arith, count.ensures))
    (sym are-names.ensures ∙ not-false _ c.if-not-are_names.false-raw)
