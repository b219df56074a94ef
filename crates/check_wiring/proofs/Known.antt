-- The tables that were filled are what the rules are told from.
-- Assumes nothing.
use Prim.Native.Nat.{ℕ, ◌<◌}
use native.Mathlib.Omega.{arith}
use mathlib.Core.Path.{◌≡◌, sym, ◌∙◌}
use mathlib.Core.List.{List}
use lib.ListN.{length, take}
use lib.Seq.{length-take-le}
use Rattle.netlist.specs.declared.Counts.{Counts}
use Rattle.wiring_spec.specs.Parts.{Pipeline, register_count}
use Rattle.wiring_spec.specs.Passing.{ReachesOn}
use Rattle.wiring_spec.proofs.Levels.{level_bound}
use Rattle.wiring_spec.proofs.Means.{forward}
use Rattle.check_levels.proofs.Raising.{positive}
use Rattle.check_rules.specs.Known.{InputsOf, LevelsOf, BehindOf, Known, Sized}
use Rattle.check_open.specs.declared.Behind.{Behind}
use Rattle.check_wiring.specs.Loaded.{Forward}
use Rattle.check_wiring.proofs.Tables.{few_registers}

module _ (c : Counts) (raw order nets regs sources : List ℕ) (w : Forward c raw order nets regs sources) where
  abbrev p : Pipeline
  p = w.loaded.pipeline

  abbrev m : ℕ
  m = c.registers

  -- an array has room for the registers
  pub taken_long : {A : Type 0} (xs : List A) → length xs ≡ 64 → length (take m xs) ≡ m
  taken_long xs e = length-take-le m xs (omega (arith, few_registers c raw order nets regs w.loaded))

  pub none_reaches : (k : ℕ) → ¬ (ReachesOn p k k)
  none_reaches = forward p w.none

  module _ (inputs levels : List ℕ) (found : List Behind) (levels_are : LevelsOf p (take m levels)) where
    pub sized : length sources ≡ 64 → length inputs ≡ 64 → length levels ≡ 64 → length found ≡ 64
        → Sized regs (take m sources) (take m inputs) (take m levels) (take m found)
    sized s i l b =
        let long = taken_long sources s in
        let few = few_registers c raw order nets regs w.loaded in
        record {
          few = omega arith;
          regs_room = omega (arith, w.loaded.regs_room);
          inputs_long = taken_long inputs i ∙ sym long;
          levels_long = taken_long levels l ∙ sym long;
          behind_long = taken_long found b ∙ sym long;
          low = λ t h. let q : t < register_count p = omega (arith, w.loaded.registers_are) in omega (arith, levels_are t q, positive p none_reaches t q);
          high = λ t h. let q : t < register_count p = omega (arith, w.loaded.registers_are) in omega (arith, levels_are t q, level_bound p t, w.loaded.registers_are);
        }

    pub known : InputsOf p (take m inputs) → BehindOf p (take m found)
        → Known p regs (take m sources) (take m inputs) (take m levels) (take m found)
    known i b = record {
      kis_of = λ k h. (w.loaded.parts.register_row k h).ki_net;
      sources_of = w.sources_are;
      inputs_of = i;
      levels_of_holds = levels_are;
      behind_of = b;
    }
