-- `write_joined::net_in_whole` meets its contract. Assumes nothing.
use native.Mathlib.Omega.{arith}
use mathlib.Core.Path.{ap, ◌∙◌}
use mathlib.Core.Bool.{true, false}
use borrow.Author.Tests.{eq-eqb, ne_eqb}
use Rattle.circuit.specs.declared.form.Rails.{Rails}
use Rattle.write_joined.proofs.Moving.{net_tied, net_follows}
use Rattle.write_joined.proofs.net_in_whole.Goals as goal

pub returns-then-n-eq1 : goal.returns-then-n-eq1
returns-then-n-eq1 c =
    ap (λ (r : Rails). r.rail1) c.rails_of-output.ensures.is
    ∙ net_tied c.args.place.counts c.args.place.first.now c.args.place.moved c.args.net (omega arith) c.requires.1 true (eq-eqb _ _ c.if-n-eq1.true)

pub returns-then-n-rails : goal.returns-then-n-rails
returns-then-n-rails c =
    ap (λ (r : Rails). r.rail0) c.rails_of-output.ensures.is
    ∙ net_tied c.args.place.counts c.args.place.first.now c.args.place.moved c.args.net (omega arith) c.requires.1 false (ne_eqb _ _ c.if-n-eq1.false)

pub returns : goal.returns
returns c = net_follows c.args.place.counts c.args.place.first.now c.args.place.moved c.args.net (omega arith)
