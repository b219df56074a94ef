-- Settled rows: the computed levels are settled, grow with the rails, and in a stage without loops are the only settled ones,
-- with or without a gate held low.
-- Assumes nothing.
use Prim.Native.Nat.{ℕ, ◌*◌, ◌<◌}
use native.Mathlib.Omega.{arith}
use native.Mathlib.Decide.{ℕ_discrete}
use mathlib.Core.Path.{◌≡◌, sym, ap, ◌∙◌}
use mathlib.Core.List.{List, ◌++◌, map}
use lib.ListN.{length, get_or, set, length-map, length-set}
use lib.Seq.{get_or-set_same, get_or-set_other, set_out}
use Rattle.netlist.specs.Content.{Gate}
use Rattle.verdict.specs.Rows.{is_set, settled_levels, levels_holding, settled, settled_holding}
use Rattle.verdict.specs.Loops.{LoopFree, NoLoop}
use Rattle.verdict.specs.Levels.{Bits, Below, level_holding, LevelsSettled, LevelsHeld}
use Rattle.verdict.proofs.Levels.{below_refl, below-++, below_set, bits_set}
use Rattle.verdict.proofs.Rounds.{rounds_bits, rounds_fixed, rounds_mono}
use Rattle.verdict.proofs.Gates.{set_rises, set_bits, set_local}
use Rattle.verdict.proofs.Reaching.{no_loop_loop_free}
use Rattle.verdict.proofs.Fixed.{Local, Fixed, fixed_one}

-- ---- gate h held low; where h is no gate, none is held

module _ (h : ℕ) (gates : List Gate) where
  abbrev low_step : List ℕ → List ℕ → List ℕ
  low_step rails v = set (map (is_set (rails ++ v)) gates) h 0

  step_bits : (rails v : List ℕ) → Bits (length gates) v → Bits (length gates) (low_step rails v)
  step_bits rails v b = bits_set (length gates) (map (is_set (rails ++ v)) gates) (set_bits (rails ++ v) gates) h 0 (omega arith)

  step_rises : (rails rails' : List ℕ) → Below rails rails' → (u v : List ℕ) → Below u v → Below (low_step rails u) (low_step rails' v)
  step_rises rails rails' p u v q =
      below_set (map (is_set (rails ++ u)) gates) (map (is_set (rails' ++ v)) gates) (set_rises (rails ++ u) (rails' ++ v) (below-++ rails rails' u v p q) gates) h 0

  pub holding_bits : (rails : List ℕ) → Bits (length gates) (levels_holding h gates rails)
  unfolding levels_holding
  holding_bits rails = rounds_bits (low_step rails) (length gates) (step_bits rails) (step_rises rails rails (below_refl rails)) (length gates)

  pub holding_settled : (rails : List ℕ) → LevelsHeld h gates rails (levels_holding h gates rails)
  unfolding levels_holding
  holding_settled rails = rounds_fixed (low_step rails) (length gates) (step_bits rails) (step_rises rails rails (below_refl rails))

  pub holding_grows : (rails rails' : List ℕ) → Below rails rails' → Below (settled_holding h gates rails) (settled_holding h gates rails')
  unfolding levels_holding
  holding_grows rails rails' p =
      below-++ rails rails' (levels_holding h gates rails) (levels_holding h gates rails') p
      (rounds_mono (low_step rails) (low_step rails') (step_rises rails rails' p) (length gates) (length gates))

  -- ---- one settled row

  pub level_held : (row : List ℕ) (k : ℕ) → k < length gates → k ≡ h → level_holding h gates row k ≡ 0
  level_held row k l e =
      ap (λ (x : ℕ). get_or (set (map (is_set row) gates) x 0) k 0) (sym e)
      ∙ get_or-set_same (map (is_set row) gates) k 0 0 (omega (arith, length-map gates (is_set row)))

  pub level_free : (row : List ℕ) (k : ℕ) → (k ≡ h → ⊥) → level_holding h gates row k ≡ get_or (map (is_set row) gates) k 0
  level_free row k d = get_or-set_other (map (is_set row) gates) h k 0 0 d

  pub holding_local : Local gates (level_holding h gates)
  holding_local u v k l same = go (ℕ_discrete k h)
    where
      go : Dec (k ≡ h) → level_holding h gates u k ≡ level_holding h gates v k
      go (yes e) = level_held u k l e ∙ sym (level_held v k l e)
      go (no d) = level_free u k d ∙ set_local u v gates k same ∙ sym (level_free v k d)

  pub held_fixed : (rails v : List ℕ) → LevelsHeld h gates rails v → Fixed gates (level_holding h gates) rails v
  held_fixed rails v s = record {
    long = ap length (sym s) ∙ length-set (map (is_set (rails ++ v)) gates) h 0 ∙ length-map gates (is_set (rails ++ v));
    at = λ k b. ap (λ (w : List ℕ). get_or w k 0) (sym s);
  }

  -- a stage without loops has exactly one row that is settled with gate h held low: the computed one
  pub holding_one : (n : ℕ) → LoopFree n gates → (rails : List ℕ) → length rails ≡ 2 * n → (v : List ℕ) → Fixed gates (level_holding h gates) rails v → v ≡ levels_holding h gates rails
  holding_one n free rails both v f = fixed_one n free holding_local both f (held_fixed rails (levels_holding h gates rails) (holding_settled rails))

-- ---- no gate held: the same with h past the gates

module _ (gates : List Gate) where
  unheld : (rails v : List ℕ) → set (map (is_set (rails ++ v)) gates) (length gates) 0 ≡ map (is_set (rails ++ v)) gates
  unheld rails v = set_out (map (is_set (rails ++ v)) gates) (length gates) 0 (omega (arith, length-map gates (is_set (rails ++ v))))

  plain_bits : (rails v : List ℕ) → Bits (length gates) v → Bits (length gates) (map (is_set (rails ++ v)) gates)
  plain_bits rails v b = set_bits (rails ++ v) gates

  plain_rises : (rails rails' : List ℕ) → Below rails rails' → (u v : List ℕ) → Below u v → Below (map (is_set (rails ++ u)) gates) (map (is_set (rails' ++ v)) gates)
  plain_rises rails rails' p u v q = set_rises (rails ++ u) (rails' ++ v) (below-++ rails rails' u v p q) gates

  pub settled_bits : (rails : List ℕ) → Bits (length gates) (settled_levels gates rails)
  unfolding settled_levels
  settled_bits rails = rounds_bits (λ v. map (is_set (rails ++ v)) gates) (length gates) (plain_bits rails) (plain_rises rails rails (below_refl rails)) (length gates)

  -- the computed levels are settled, loops or not
  pub settled_is : (rails : List ℕ) → LevelsSettled gates rails (settled_levels gates rails)
  unfolding settled_levels
  settled_is rails = rounds_fixed (λ v. map (is_set (rails ++ v)) gates) (length gates) (plain_bits rails) (plain_rises rails rails (below_refl rails))

  -- settled rows grow with their rails
  pub settled_grows : (rails rails' : List ℕ) → Below rails rails' → Below (settled gates rails) (settled gates rails')
  unfolding settled_levels
  settled_grows rails rails' p =
      below-++ rails rails' (settled_levels gates rails) (settled_levels gates rails') p
      (rounds_mono (λ v. map (is_set (rails ++ v)) gates) (λ v. map (is_set (rails' ++ v)) gates) (plain_rises rails rails' p) (length gates) (length gates))

  -- a stage without loops has exactly one settled row for given rails: the computed one
  pub settled_one : (n : ℕ) → NoLoop n gates → (rails : List ℕ) → length rails ≡ 2 * n → (v : List ℕ) → LevelsSettled gates rails v → v ≡ settled_levels gates rails
  settled_one n none rails both v s =
      let h = length gates in
      fixed_one n (no_loop_loop_free n gates none) (holding_local h gates) both (held_fixed h gates rails v (unheld rails v ∙ s))
      (held_fixed h gates rails (settled_levels gates rails) (unheld rails (settled_levels gates rails) ∙ settled_is rails))

  pub held_one : (h n : ℕ) → NoLoop n gates → (rails : List ℕ) → length rails ≡ 2 * n → (v : List ℕ) → LevelsHeld h gates rails v → v ≡ levels_holding h gates rails
  held_one h n none rails both v s = holding_one h gates n (no_loop_loop_free n gates none) rails both v (held_fixed h gates rails v s)
