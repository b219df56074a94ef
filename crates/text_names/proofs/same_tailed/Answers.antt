-- `drivers::same_tailed` meets its contract. Assumes nothing.
use native.Mathlib.Omega.{arith}
use mathlib.Core.Path.{◌∙◌}
use Rattle.text_names.proofs.Driven.{bare_bare, bare_tail, tail_bare, tails_differ, tails_equal}
use Rattle.text_names.proofs.same_tailed.Goals as goal

pub returns-then-u-eq0 : goal.returns-then-u-eq0
returns-then-u-eq0 c =
    c.same.ensures ∙ bare_bare c.args.a.now c.args.b.now c.args.t c.args.u (omega arith) (omega arith)

pub returns-then-t-eq0 : goal.returns-then-t-eq0
returns-then-t-eq0 c =
    c.is_rail.ensures ∙ bare_tail c.args.a.now c.args.b.now c.args.t c.args.u (omega arith) c.if-u-eq0.false

pub returns-then-u-eq0-2 : goal.returns-then-u-eq0-2
returns-then-u-eq0-2 c =
    let if1 = c.if-t-eq0 in
    c.is_rail-then-u-eq0-2.ensures ∙ tail_bare c.args.a.now c.args.b.now c.args.t c.args.u if1.false (omega arith)

pub returns-then-t-u : goal.returns-then-t-u
returns-then-t-u c =
    let if1 = c.if-t-eq0 in
    tails_differ c.args.a.now c.args.b.now c.args.t c.args.u if1.false c.if-u-eq0-2.false c.if-t-u.true

pub returns : goal.returns
returns c =
    let if1 = c.if-t-eq0 in
    let if3 = c.if-u-eq0-2 in
    c.same-2.ensures ∙ tails_equal c.args.a.now c.args.b.now c.args.t c.args.u if1.false if3.false (omega arith)
