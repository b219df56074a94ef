-- `check_words::find_idle` meets its contract. Assumes nothing.
use Rattle.std.specs.Prelude.{ℕ, Option, Ok, Err}
use mathlib.Core.Path.{sym, ap, ◌∙◌}
use Rattle.std.proofs.Common.{rules}
use Rattle.verdict.specs.Checks.{at_fault}
use Rattle.check_words.proofs.find_idle.Goals as goal

pub returns-in-Some : goal.returns-in-Some
unfolding at_fault
returns-in-Some c = ap Err (search rules) ∙ sym (ap (λ (x : Option ℕ). at_fault 32 1 0 x (Ok tt)) c.in-Some.is)

pub returns-in-None : goal.returns-in-None
unfolding at_fault
returns-in-None c = sym (ap (λ (x : Option ℕ). at_fault 32 1 0 x (Ok tt)) c.in-None.is)
