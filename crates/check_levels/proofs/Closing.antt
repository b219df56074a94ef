-- Going through each register once leaves what every register comes from. The idea: the sources stay within what a register comes from, and once
-- register j was gone through, whoever has it among its sources has its sources too.
-- Assumes nothing.
use Prim.Native.Nat.{ℕ, ◌+◌, ◌≤◌, ◌<◌}
use native.Mathlib.Omega.{arith}
use native.Mathlib.Decide.{ℕ_discrete}
use mathlib.Core.Path.{◌≡◌, refl, sym, ap, ◌∙◌, subst}
use mathlib.Core.Bool.{Bool, true, false, cond}
use mathlib.Core.Logic.{◌⊎◌, inl, inr, ⊎_elim}
use mathlib.Core.List.{List}
use lib.ListN.{length, get_or, set, length-set}
use lib.Seq.{get_or-set_same, get_or-set_other}
use lib.Bits.{bit_or}
use Rattle.runs.proofs.Test.{clash, or_left, or_right, or_cases}
use Rattle.lane_cells.specs.Lane.{lane}
use Rattle.lane_cells.proofs.Lane.{lane_or}
use Rattle.wiring_spec.specs.Parts.{Pipeline, register_count}
use Rattle.wiring_spec.specs.Passing.{Reaches, ReachesOn, straight, through}
use Rattle.wiring_spec.proofs.Passing.{reaches_sound, reaches_complete, source_inside}
use Rattle.check_levels.specs.Graph.{source_in, SourcesOf, ComesFrom, through_one, Through}

-- ---- one register

pub through_none : (before : List ℕ) (j : ℕ) → Through before j 0 before
through_none before j = record { long = refl; done = λ i l. absurd (omega arith); rest = λ i l. refl }

-- what is read at a register that was not gone to yet is what stood there
pub through_more : (before now : List ℕ) (j t v : ℕ) (add : Bool) → t < length before → Through before j t now → add ≡ source_in now j t
    → v ≡ cond add (bit_or (get_or now t 0) (get_or before j 0)) (get_or now t 0) → Through before j (t + 1) (set now t v)
through_more before now j t v add h s a e =
    record {
      long = simp length-set s.long;
      done = λ i l. go i l (ℕ_discrete i t);
      rest = λ i l. get_or-set_other now t i v 0 (λ q. omega arith) ∙ s.rest i (omega arith);
    }
  where
    here : v ≡ through_one before j t
    here = e ∙ rw (a, s.rest t (omega arith))

    go : (i : ℕ) → i < t + 1 → Dec (i ≡ t) → get_or (set now t v) i 0 ≡ through_one before j i
    go i l (yes q) = rw q (get_or-set_same now t v 0 (omega (arith, s.long)) ∙ here)
    go i l (no d) = get_or-set_other now t i v 0 d ∙ s.done i (omega arith)

-- ---- a register more

-- register k was among the sources of t, or comes in through j
abbrev pub Had : List ℕ → ℕ → ℕ → ℕ → Type 0
Had before j k t = (source_in before k t ≡ true) ⊎ ((source_in before j t ≡ true) × (source_in before k j ≡ true))

module _ (before after : List ℕ) (j n : ℕ) (s : Through before j n after) where
  -- what it had stays
  keeps : (k t : ℕ) → t < n → source_in before k t ≡ true → source_in after k t ≡ true
  keeps k t h e = ap (lane k) (s.done t h) ∙ go (source_in before j t)
    where
      go : (b : Bool) → lane k (cond b (bit_or (get_or before t 0) (get_or before j 0)) (get_or before t 0)) ≡ true
      go true = lane_or k (get_or before t 0) (get_or before j 0) ∙ or_left (source_in before k t) (source_in before k j) e
      go false = e

  -- who has j among its sources has those of j
  gains : (k t : ℕ) → t < n → source_in before j t ≡ true → source_in before k j ≡ true → source_in after k t ≡ true
  gains k t h e f = ap (lane k) (s.done t h) ∙ go (source_in before j t) e
    where
      go : (b : Bool) → b ≡ true → lane k (cond b (bit_or (get_or before t 0) (get_or before j 0)) (get_or before t 0)) ≡ true
      go true q = lane_or k (get_or before t 0) (get_or before j 0) ∙ or_right (source_in before k t) (source_in before k j) f
      go false q = absurd (clash q refl)

  -- and nothing else comes in
  loses : (k t : ℕ) → t < n → source_in after k t ≡ true → Had before j k t
  loses k t h e = go (source_in before j t) refl (sym (ap (lane k) (s.done t h)) ∙ e)
    where
      go : (b : Bool) → source_in before j t ≡ b → lane k (cond b (bit_or (get_or before t 0) (get_or before j 0)) (get_or before t 0)) ≡ true → Had before j k t
      go true q f = ⊎_elim (λ a. inl a) (λ a. inr (q, a)) (or_cases (source_in before k t) (source_in before k j) (sym (lane_or k (get_or before t 0) (get_or before j 0)) ∙ f))
      go false q f = inl f

-- ---- all registers

join : (p : Pipeline) (k : ℕ) {j t : ℕ} → ReachesOn p k j → ReachesOn p j t → ReachesOn p k t
join p k a (straight r) = through a r
join p k a (through b r) = through (join p k a b) r

-- the registers before j were gone through
pub record Closing (p : Pipeline) (before now : List ℕ) (j : ℕ) : Type 0 where
  pub long : length now ≡ length before
  pub kept : (k t : ℕ) → k < register_count p → t < register_count p → source_in before k t ≡ true → source_in now k t ≡ true
  pub sound : (k t : ℕ) → k < register_count p → t < register_count p → source_in now k t ≡ true → ReachesOn p k t
  pub closed : (i k t : ℕ) → i < j → i < register_count p → k < register_count p → t < register_count p → source_in now i t ≡ true → source_in now k i ≡ true → source_in now k t ≡ true

module _ (p : Pipeline) (before : List ℕ) (few : length before ≤ 64) (of : SourcesOf p before) where
  abbrev m : ℕ
  m = register_count p

  pub closing_none : Closing p before before 0
  closing_none =
      record {
        long = refl;
        kept = λ k t hk ht e. e;
        sound = λ k t hk ht e. straight (reaches_sound p k t (sym (of.each k t (omega (arith, of.long)) ht) ∙ e));
        closed = λ i k t h. absurd (omega arith);
      }

  pub closing_more : (now after : List ℕ) (j : ℕ) → j < m → Through now j (length now) after → Closing p before now j → Closing p before after (j + 1)
  closing_more now after j hj s' c =
      record {
        long = s'.long ∙ c.long;
        kept = λ k t hk ht e. keeps now after j m s k t ht (c.kept k t hk ht e);
        sound = λ k t hk ht e. ⊎_elim (λ a. c.sound k t hk ht a) (λ a. join p k (c.sound k j hk hj a.1) (c.sound j t hj ht a.0)) (loses now after j m s k t ht e);
        closed = λ i k t h hi hk ht e f. closed i k t h hi hk ht (ℕ_discrete i j) (loses now after j m s i t ht e) (loses now after j m s k i hi f);
      }
    where
      s : Through now j m after
      s = subst (λ (n : ℕ). Through now j n after) (c.long ∙ of.long) s'

      closed : (i k t : ℕ) → i < j + 1 → i < m → k < m → t < m → Dec (i ≡ j) → Had now j i t → Had now j k i → source_in after k t ≡ true
      closed i k t h hi hk ht (yes q) a b = gains now after j m s k t ht (⊎_elim (λ e. subst (λ (x : ℕ). source_in now x t ≡ true) q e) (λ e. e.0) a) (⊎_elim (λ e. subst (λ (x : ℕ). source_in now k x ≡ true) q e) (λ e. e.1) b)
      closed i k t h hi hk ht (no d) (inl a) (inl b) = keeps now after j m s k t ht (c.closed i k t (omega arith) hi hk ht a b)
      closed i k t h hi hk ht (no d) (inl a) (inr b) = gains now after j m s k t ht (c.closed i j t (omega arith) hi hj ht a b.0) b.1
      closed i k t h hi hk ht (no d) (inr a) (inl b) = gains now after j m s k t ht a.0 (c.closed i k j (omega arith) hi hk hj a.1 b)
      closed i k t h hi hk ht (no d) (inr a) (inr b) = gains now after j m s k t ht a.0 b.1

  pub closing_all : (now : List ℕ) (j : ℕ) → m ≤ j → Closing p before now j → ComesFrom p now
  closing_all now j l c = record { long = c.long ∙ of.long; sound = c.sound; complete = λ k t hk ht r. complete k t hk ht r }
    where
      base : (k t : ℕ) → k < m → t < m → Reaches p k t → source_in now k t ≡ true
      base k t hk ht r = c.kept k t hk ht (of.each k t (omega (arith, of.long)) ht ∙ reaches_complete p k t r)

      complete : (k t : ℕ) → k < m → t < m → ReachesOn p k t → source_in now k t ≡ true
      complete k t hk ht (straight r) = base k t hk ht r
      complete k t hk ht (through {j = i} a r) =
          let hi = source_inside p i t r in
          c.closed i k t (omega arith) hi hk ht (base i t hi ht r) (complete k i hk hi a)
