-- `call_witness::input_under` meets its contract. Assumes nothing.
use mathlib.Core.Path.{sym, ap}
use mathlib.Core.Bool.{Bool, cond}
use borrow.Author.Tests.{eq-eqb, ne_eqb}
use Rattle.call_witness.proofs.input_under.Goals as goal

pub returns-then-verdict-number : goal.returns-then-verdict-number
returns-then-verdict-number c = sym (ap (λ (b : Bool). cond b c.args.verdict.at c.args.counts.inputs) (eq-eqb c.args.verdict.number c.args.number c.if-verdict-number.true))

pub returns : goal.returns
returns c = sym (ap (λ (b : Bool). cond b c.args.verdict.at c.args.counts.inputs) (ne_eqb c.args.verdict.number c.args.number c.if-verdict-number.false))
