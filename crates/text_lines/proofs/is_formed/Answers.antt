-- `text_lines::is_formed` meets its contract. Assumes nothing.
use native.Mathlib.Omega.{arith}
use mathlib.Core.Path.{◌∙◌}
use Rattle.text_lines.proofs.LineForms.{formed_gate, formed_names}
use Rattle.text_lines.proofs.is_formed.Goals as goal

pub returns-then-i-ge2 : goal.returns-then-i-ge2
returns-then-i-ge2 c =
    c.is_gate_line.ensures ∙ formed_gate c.args.i c.args.line.now (omega arith)

pub returns : goal.returns
returns c =
    c.are_names.ensures ∙ formed_names c.args.i c.args.line.now (omega arith)
