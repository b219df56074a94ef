-- `check_words::sweep_at` meets its contract. Assumes nothing.
use native.Mathlib.Omega.{arith}
use Rattle.check_words.proofs.Sweeping.{last_at}
use Rattle.check_words.proofs.sweep_at.Goals as goal

pub returns-in_default : goal.returns-in_default
returns-in_default c = last_at _ (λ e. omega arith) (λ e. omega arith) (λ e. omega arith) (λ e. omega arith)
