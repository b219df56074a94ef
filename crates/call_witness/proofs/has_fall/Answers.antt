-- `call_witness::has_fall` meets its contract. Assumes nothing.
use native.Mathlib.Omega.{arith}
use mathlib.Core.Path.{sym}
use Rattle.call_witness.proofs.Numbers.{speaks_0, speaks_20, speaks_32, silent_falls}
use Rattle.call_witness.proofs.has_fall.Goals as goal

pub returns-then-number-eq32 : goal.returns-then-number-eq32
returns-then-number-eq32 c = sym (speaks_32 _ (omega arith)).1

pub returns-in_default : goal.returns-in_default
returns-in_default c = sym (silent_falls _ (λ e. omega arith) (λ a b. omega arith) (λ e. omega arith))

pub returns-in_default-2 : goal.returns-in_default-2
returns-in_default-2 c = sym (silent_falls _ (λ e. omega arith) (λ a b. omega arith) (λ e. omega arith))

pub returns-in-0 : goal.returns-in-0
returns-in-0 c = sym (speaks_0 _ (omega arith)).1

pub returns-in-0-2 : goal.returns-in-0-2
returns-in-0-2 c = sym (speaks_20 _ (omega arith) (omega arith)).1
