-- `text_lines::is_gate_line` meets its contract. Assumes nothing.
use mathlib.Core.Path.{sym, ◌∙◌}
use Rattle.text_lines.proofs.LineForms.{other_parts, three_parts}
use Rattle.text_lines.proofs.is_gate_line.Goals as goal

pub returns-then-count-ne2 : goal.returns-then-count-ne2
returns-then-count-ne2 c = other_parts c.args.line.now (λ z. c.if-count-ne2.true (c.count.ensures ∙ z))

pub returns : goal.returns
returns c = c.parts_fit.ensures ∙ three_parts c.args.line.now (sym c.count.ensures ∙ c.if-count-ne2.false) c.part.ensures c.part-2.ensures c.part-3.ensures
