-- The computed rows are settled, and a stage without loops has no others.
-- Assumes nothing.
use Prim.Native.Nat.{ℕ, zero, suc, ◌+◌, ◌-◌, ◌≤◌, ◌<◌}
use native.Mathlib.Omega.{arith}
use mathlib.Core.Path.{◌≡◌, refl, sym, ap, ◌∙◌, fun_ext}
use mathlib.Core.Logic.{◌⊎◌, inl, inr, ⊎_elim}
use mathlib.Core.Bool.{Bool, true, false, not, ◌&&◌, ◌||◌}
use Rattle.runs.specs.Row.{Row, ◌∖◌, tally, count}
use Rattle.runs.specs.Net.{Net, rails, nets, may_fall, rise_up, fall_down}
use Rattle.runs.specs.Theory.{◌⊑◌}
use Rattle.runs.specs.Settled.{SettledHeld, SettledKept}
use Rattle.runs.specs.Acyclic.{Acyclic}
use Rattle.runs.proofs.Test.{clash, true?, and_in, and_left, and_right, or_mono}
use Rattle.runs.proofs.Row.{count-≤}
use Rattle.runs.proofs.Net.{Place, rail, gate, none, place, by_net_rail, by_net_none, by_net_mono, may_fall_anti}
use Rattle.runs.proofs.Rise.{held_one}
use Rattle.runs.proofs.Fall.{kept_one}
use Rattle.check_spec.specs.Rows.{rounds, risen, fallen}

-- ---- counts

tally-less : (a b : Bool) (x y : ℕ) → (a ≡ true → b ≡ true) → x < y → tally a x < tally b y
tally-less true true x y o h = omega arith
tally-less true false x y o h = absurd (clash (o refl) refl)
tally-less false true x y o h = omega arith
tally-less false false x y o h = h

-- two rows, the one below the other: alike up to n, or fewer are high in the lesser
pub record Alike (n : ℕ) (r s : Row) : Type 0 where
  pub at : (k : ℕ) → k < n → r k ≡ s k
  pub counts : count n r ≡ count n s

split : (n : ℕ) (r s : Row) → r ⊑ s → Alike n r s ⊎ (count n r < count n s)
split zero r s o = inl (record { at = λ k h. absurd (omega arith); counts = refl })
split (suc n) r s o = go (split n r s o) (true? (r n)) (true? (s n))
  where
    same : Alike n r s → r n ≡ s n → Alike (suc n) r s
    same a e = record { at = λ k h. at k h (split-lt k h); counts = ap (λ (b : Bool). tally b (count n r)) e ∙ ap (tally (s n)) a.counts }
      where
        split-lt : (k : ℕ) → k < suc n → (k < n) ⊎ (k ≡ n)
        split-lt k h = ⊎_elim (λ x. inl x) (λ x. inr (omega arith)) (lt? k n)
          where
            lt? : (i m : ℕ) → (i < m) ⊎ (m ≤ i)
            lt? i zero = inr (omega arith)
            lt? zero (suc m) = inl (omega arith)
            lt? (suc i) (suc m) = ⊎_elim (λ x. inl (omega arith)) (λ x. inr (omega arith)) (lt? i m)

        at : (k : ℕ) → k < suc n → (k < n) ⊎ (k ≡ n) → r k ≡ s k
        at k h (inl x) = a.at k x
        at k h (inr x) = rw x e

    go : Alike n r s ⊎ (count n r < count n s) → (r n ≡ true) ⊎ (r n ≡ false) → (s n ≡ true) ⊎ (s n ≡ false) → Alike (suc n) r s ⊎ (count (suc n) r < count (suc n) s)
    go (inr l) p q = inr (tally-less (r n) (s n) (count n r) (count n s) (o n) l)
    go (inl a) (inl p) q = inl (same a (p ∙ sym (o n p)))
    go (inl a) (inr p) (inr q) = inl (same a (p ∙ sym q))
    go (inl a) (inr p) (inl q) = inr (rw (p, q) (omega (arith, a.counts)))

-- ---- rounds of a step under which no net falls as others rise, and the rails do not depend on the row

module _
    (N : Net)
    (step : Row → Row)
    (mono : (r s : Row) → r ⊑ s → step r ⊑ step s)
    (rails_same : (r s : Row) (k : ℕ) → k < rails N → step r k ≡ step s k)
    (outside : (r : Row) (k : ℕ) → nets N ≤ k → step r k ≡ false)
  where
    rise : (k : ℕ) → rounds step k ⊑ rounds step (suc k)
    unfolding rounds
    rise zero net e = absurd (clash e refl)
    rise (suc k) net e = mono (rounds step k) (rounds step (suc k)) (rise k) net e

    -- the gates alone
    abbrev gates_in : Row → Row
    gates_in r j = r (rails N + j)

    same : (k : ℕ) → Alike N.gates (gates_in (rounds step (suc k))) (gates_in (rounds step (suc (suc k)))) → rounds step (suc k) ≡ rounds step (suc (suc k))
    unfolding rounds
    same k a = fun_ext (λ net. at net (place N net))
      where
        at : (net : ℕ) → Place N net → step (rounds step k) net ≡ step (step (rounds step k)) net
        at net (rail x) = rails_same (rounds step k) (step (rounds step k)) net x
        at net (none x) = outside (rounds step k) net x ∙ sym (outside (step (rounds step k)) net x)
        at net (gate x) =
            let e : rails N + (net - rails N) ≡ net = omega arith in
            rw e at (a.at (net - rails N) (omega arith))

    -- k rounds after that of the rails are enough, or one more leaves more than k gates high
    progress : (k : ℕ) → (rounds step (suc k) ≡ rounds step (suc (suc k))) ⊎ (k < count N.gates (gates_in (rounds step (suc (suc k)))))
    unfolding rounds
    progress zero = ⊎_elim (λ a. inl (same 0 a)) (λ l. inr (omega arith)) (split N.gates (gates_in (rounds step 1)) (gates_in (rounds step 2)) (λ j. rise 1 (rails N + j)))
    progress (suc k) =
        ⊎_elim (λ e. inl (ap step e))
        (λ h. ⊎_elim (λ a. inl (same (suc k) a)) (λ l. inr (omega arith))
        (split N.gates (gates_in (rounds step (suc (suc k)))) (gates_in (rounds step (suc (suc (suc k))))) (λ j. rise (suc (suc k)) (rails N + j))))
        (progress k)

    -- after one round for the rails and one for each gate, the step leaves the row as it is
    pub rounds_fixed : rounds step (suc N.gates) ≡ step (rounds step (suc N.gates))
    unfolding rounds
    rounds_fixed = ⊎_elim (λ e. e) (λ h. absurd (omega (arith, count-≤ N.gates (gates_in (rounds step (suc (suc N.gates))))))) (progress N.gates)

-- ---- the rows of the checks

module _ (S : Acyclic) where
  -- settled with the nets of X held low, and the only row that is
  pub risen_settled : (c X : Row) → SettledHeld S.net c X (risen S.net c X)
  unfolding risen
  risen_settled c X k =
      let N = S.net in
      ap (λ (r : Row). r k)
      (rounds_fixed N (λ r. rise_up N c r ∖ X)
      (λ r s o i e. and_in (rise_up N c s i) (not (X i)) (by_net_mono N i (c i) (N.fires r i) (c i) (N.fires s i) (λ x. x) (S.fires_mono r s o i) (and_left (rise_up N c r i) (not (X i)) e)) (and_right (rise_up N c r i) (not (X i)) e))
      (λ r s i h. ap (λ (b : Bool). b && not (X i)) (by_net_rail N i (c i) (N.fires r i) h ∙ sym (by_net_rail N i (c i) (N.fires s i) h)))
      (λ r i h. ap (λ (b : Bool). b && not (X i)) (by_net_none N i (c i) (N.fires r i) h)))

  pub risen_only : (c X r : Row) → SettledHeld S.net c X r → r ≡ risen S.net c X
  risen_only c X r h = held_one S c X r (risen S.net c X) h (risen_settled c X)

  -- settled by the fall rule from R, in which no net is high that does not exist, with the nets of X kept; and the only row that is
  pub fallen_settled : (R X : Row) → ((k : ℕ) → nets S.net ≤ k → R k ≡ false) → SettledKept S.net X R (fallen S.net R X)
  unfolding fallen
  fallen_settled R X inside k =
      ap (λ (r : Row). r k)
      (rounds_fixed S.net (λ r k. R k && (X k || not (fall_down S.net r k)))
      (λ r s o i e. and_in (R i) (X i || not (fall_down S.net s i)) (and_left (R i) (X i || not (fall_down S.net r i)) e)
      (or_mono (X i) (not (fall_down S.net r i)) (not (fall_down S.net s i)) (stays r s o i) (and_right (R i) (X i || not (fall_down S.net r i)) e)))
      (λ r s i h. ap (λ (b : Bool). R i && (X i || not b)) (by_net_rail S.net i true (may_fall S.net r i) h ∙ sym (by_net_rail S.net i true (may_fall S.net s i) h)))
      (λ r i h. ap (λ (b : Bool). b && (X i || not (fall_down S.net r i))) (inside i h)))
    where
      stays : (r s : Row) → r ⊑ s → (g : ℕ) → not (fall_down S.net r g) ≡ true → not (fall_down S.net s g) ≡ true
      stays r s o g q = go (true? (fall_down S.net s g))
        where
          go : (fall_down S.net s g ≡ true) ⊎ (fall_down S.net s g ≡ false) → not (fall_down S.net s g) ≡ true
          go (inr e) = ap not e
          go (inl e) = absurd (clash q (ap not (by_net_mono S.net g true (may_fall S.net s g) true (may_fall S.net r g) (λ x. x) (may_fall_anti S r s o g) e)))

  pub fallen_only : (R X r : Row) → ((k : ℕ) → nets S.net ≤ k → R k ≡ false) → SettledKept S.net X R r → r ≡ fallen S.net R X
  fallen_only R X r inside h = kept_one S X R r (fallen S.net R X) h (fallen_settled R X inside)
