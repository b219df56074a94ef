-- `check_files::find_loop` meets its contract. Assumes nothing.
use Rattle.std.specs.Prelude.{Err}
use mathlib.Core.Path.{sym, ap, ◌∙◌}
use Rattle.circuit_order.proofs.Findings.{loop-at, no_loop}
use Rattle.check_files.proofs.Findings.{not_passed}
use Rattle.check_files.proofs.find_loop.Goals as goal

pub returns-in-Some : goal.returns-in-Some
returns-in-Some c = record { found = ap Err c.fault.ensures ∙ sym (loop-at _ _ _ _ c.order_gates.ensures _ c.in-Some.is); passed = not_passed }

pub returns : goal.returns
returns c =
    let o = c.order_gates.ensures in
    let none = c.in_default.is in
    record { found = sym (no_loop _ _ _ _ o none); passed = λ e. record { loaded = o.loaded; ordered = o.in_order none; same = o.same } }
