-- `family::stages` meets its contract. Assumes nothing.
use native.Mathlib.Omega.{arith}
use Rattle.call_next.proofs.Pins.{count_as, count_10, count_11, count_12, count_20, count_21, count_22}
use Rattle.call_next.proofs.stages.Goals as goal

pub returns-in-1-eq0 : goal.returns-in-1-eq0
returns-in-1-eq0 c = let r = c.requires in (count_as _ _ 1 0 _ count_10 (omega (arith, r.inputs_in)) (omega (arith, r.gates_in_holds)), omega arith)

pub returns-in-1-eq1 : goal.returns-in-1-eq1
returns-in-1-eq1 c = let r = c.requires in (count_as _ _ 1 1 _ count_11 (omega (arith, r.inputs_in)) (omega (arith, r.gates_in_holds)), omega arith)

pub returns-in-1-default : goal.returns-in-1-default
returns-in-1-default c = let r = c.requires in (count_as _ _ 1 2 _ count_12 (omega (arith, r.inputs_in)) (omega (arith, r.gates_in_holds)), omega arith)

pub returns-in_default-eq0 : goal.returns-in_default-eq0
returns-in_default-eq0 c = let r = c.requires in (count_as _ _ 2 0 _ count_20 (omega (arith, r.inputs_in)) (omega (arith, r.gates_in_holds)), omega arith)

pub returns-in_default-eq1 : goal.returns-in_default-eq1
returns-in_default-eq1 c = let r = c.requires in (count_as _ _ 2 1 _ count_21 (omega (arith, r.inputs_in)) (omega (arith, r.gates_in_holds)), omega arith)

pub returns-in_default : goal.returns-in_default
returns-in_default c = let r = c.requires in (count_as _ _ 2 2 _ count_22 (omega (arith, r.inputs_in)) (omega (arith, r.gates_in_holds)), omega arith)
