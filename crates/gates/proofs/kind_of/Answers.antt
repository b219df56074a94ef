-- `gates::kind_of` meets its contract: each arm's range has cells of one pin count. Assumes nothing.
use native.Mathlib.Omega.{arith}
use mathlib.Core.Path.{sym, refl}
use mathlib.Core.Bool.{true, false}
use Rattle.gates.proofs.Ranges.{pins_in_range, two_pins_holds, three_pins, four_pins_holds, kind_at, kind_none}
use Rattle.gates.proofs.kind_of.Goals as goal

pub returns-in-1-to-2 : goal.returns-in-1-to-2
returns-in-1-to-2 c = sym (kind_at true _ _ 2 refl (omega arith) (omega arith) (pins_in_range 1 2 2 two_pins_holds _ (omega arith) (omega arith)))

pub returns-in-3-to-7 : goal.returns-in-3-to-7
returns-in-3-to-7 c = sym (kind_at true _ _ 3 refl (omega arith) (omega arith) (pins_in_range 3 5 3 three_pins _ (omega arith) (omega arith)))

pub returns-in-8-to-27 : goal.returns-in-8-to-27
returns-in-8-to-27 c = sym (kind_at true _ _ 4 refl (omega arith) (omega arith) (pins_in_range 8 20 4 four_pins_holds _ (omega arith) (omega arith)))

pub returns-in-129-to-130 : goal.returns-in-129-to-130
returns-in-129-to-130 c = sym (kind_at false _ _ 2 (omega arith) (omega arith) (omega arith) (pins_in_range 1 2 2 two_pins_holds _ (omega arith) (omega arith)))

pub returns-in-131-to-135 : goal.returns-in-131-to-135
returns-in-131-to-135 c = sym (kind_at false _ _ 3 (omega arith) (omega arith) (omega arith) (pins_in_range 3 5 3 three_pins _ (omega arith) (omega arith)))

pub returns-in-136-to-155 : goal.returns-in-136-to-155
returns-in-136-to-155 c = sym (kind_at false _ _ 4 (omega arith) (omega arith) (omega arith) (pins_in_range 8 20 4 four_pins_holds _ (omega arith) (omega arith)))

pub returns-in_default : goal.returns-in_default
returns-in_default c = sym (kind_none _ (λ k lo hi e. omega arith) (λ k lo hi e. omega arith))

pub returns-in_default-2 : goal.returns-in_default-2
returns-in_default-2 c = sym (kind_none _ (λ k lo hi e. omega arith) (λ k lo hi e. omega arith))

pub returns-in_default-3 : goal.returns-in_default-3
returns-in_default-3 c = sym (kind_none _ (λ k lo hi e. omega arith) (λ k lo hi e. omega arith))
