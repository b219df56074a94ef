-- `check_wiring::find_others` meets its contract. Assumes nothing.
use native.Mathlib.Omega.{arith}
use Prim.Native.Nat.{ℕ, ◌≤◌}
use mathlib.Core.Path.{◌≡◌, refl, sym, subst}
use mathlib.Core.List.{List, ◌++◌}
use lib.ListN.{length, take, drop, replicate}
use Rattle.netlist.specs.declared.Counts.{Counts}
use Rattle.check_open.specs.declared.Behind.{Behind}
use Rattle.check_open.specs.Opening.{nothing_behind}
use Rattle.check_rules.specs.Known.{LevelsOf, BehindOf}
use Rattle.check_wiring.specs.Loaded.{Forward}
use Rattle.check_wiring.proofs.Lent.{whole_long, part_back}
use Rattle.check_wiring.proofs.Tables.{few_registers}
use Rattle.check_wiring.proofs.Known.{taken_long, none_reaches, sized, known}
use Rattle.check_wiring.proofs.find_others.Goals as goal

-- a table as it is made, and once its first part came back
abbrev new : List Behind
new = replicate 64 nothing_behind

abbrev filled : Counts → List Behind → List Behind
filled counts part = part ++ drop counts.registers new

module _ {c : Counts} {raw order nets regs sources : List ℕ} (w : Forward c raw order nets regs sources) where
  made_long : c.registers ≡ length (take c.registers new)
  made_long = sym (taken_long c raw order nets regs sources w new refl)

  module _ (part : List Behind) (same : length part ≡ length (take c.registers new)) where
    filled_long : length (filled c part) ≡ 64
    filled_long = whole_long c.registers new part (few_registers c raw order nets regs w.loaded) same

    filled_back : take c.registers (filled c part) ≡ part
    filled_back = part_back c.registers new part (few_registers c raw order nets regs w.loaded) same

    filled_room : c.registers ≤ length (filled c part)
    filled_room = omega (arith, filled_long, few_registers c raw order nets regs w.loaded)

  array_long : {A : Type 0} (xs : List A) → length xs ≡ 64 → c.registers ≡ length (take c.registers xs)
  array_long xs e = sym (taken_long c raw order nets regs sources w xs e)

  levels_taken : (levels : List ℕ) → length sources ≡ 64 → LevelsOf w.loaded.pipeline (take (length (take c.registers sources)) levels)
      → LevelsOf w.loaded.pipeline (take c.registers levels)
  levels_taken levels e = subst (λ (n : ℕ). LevelsOf w.loaded.pipeline (take n levels)) (taken_long c raw order nets regs sources w sources e)

pub slice_bounds-find_failing-end-4 : goal.slice_bounds-find_failing-end-4
slice_bounds-find_failing-end-4 c =
    let w = c.requires.0 in
    let part = c.open_kis.new.behind in
    array_long w (filled c.args.counts part) (filled_long w part c.open_kis.auto.behind)

pub find_failing-requires : goal.find_failing-requires
find_failing-requires c =
    let w = c.requires.0 in
    let found = c.open_kis.new.behind in
    let levels = c.levels_of-levels in
    sized _ _ _ _ _ _ w c.inputs_of-inputs.result levels.result (filled c.args.counts found)
    (levels_taken w levels.result c.requires.1 (levels.ensures.are w.loaded.pipeline w.sources_are (none_reaches _ _ _ _ _ _ w)))
    c.requires.1
    c.inputs_of-inputs.ensures.long
    levels.ensures.long
    (filled_long w found c.open_kis.auto.behind)

pub returns : goal.returns
returns c = λ w.
    let found = c.open_kis.new.behind in
    let levels = c.levels_of-levels in
    let behind = c.open_kis.ensures.are w.loaded.pipeline w.ordered w.none in
    c.find_failing.ensures w.loaded.pipeline
    (known _ _ _ _ _ _ w c.inputs_of-inputs.result levels.result (filled c.args.counts found)
    (levels_taken w levels.result c.requires.1 (levels.ensures.are w.loaded.pipeline w.sources_are (none_reaches _ _ _ _ _ _ w)))
    (c.inputs_of-inputs.ensures.are _ w.loaded)
    (subst (BehindOf w.loaded.pipeline) (sym (filled_back w found c.open_kis.auto.behind)) behind))
