-- Settled and supported rows of a system: every end is settled, and without loops there is one settled row, above every supported one.
-- Assumes nothing.
use mathlib.Core.Path.{◌≡◌, sym, ap, ◌∙◌}
use mathlib.Core.Logic.{◌⊎◌, inl, inr, ◌≢◌}
use mathlib.Core.Bool.{true, false, not, ◌&&◌, ◌||◌}
use mathlib.Core.List.{List, [], ◌∷◌}
use Prim.Native.Nat.{ℕ, zero, suc, ◌<◌}
use native.Mathlib.Omega.{arith}
use Rattle.runs.specs.Row.{Row, ◌∖◌, toggle, after, Legal, Ended}
use Rattle.runs.specs.Theory.{◌⊑◌, Reached}
use Rattle.runs.specs.Promise.{GoesOn}
use Rattle.runs.proofs.Test.{clash, true?, not-true, of_not, and_in, and_left, and_right, or_left, or_right, or_cases, or_mono, and_same, same?}
use Rattle.runs.proofs.Row.{⊑-antisym, toggle_other, toggle-⊑}
use Rattle.runs.proofs.System.{System, can, Quiet, Full, SupportedFrom, SettledFrom, Ranked, mask, mask_ranked}
use Rattle.runs.proofs.Persistent.{can_rise, rise_can, quiet_toggle, quiet_after, ⊑-after, ended_full, to_end}

module _ (S : System) where
  -- ---- supported rows

  supported_toggle : (s r : Row) (k : ℕ) → Quiet S r → can S r k ≡ true → SupportedFrom S s r → SupportedFrom S s (toggle r k)
  supported_toggle s r k q c h i e = or_mono (s i) (S.up r i) (S.up (toggle r k) i) (S.up_mono r (toggle r k) (toggle-⊑ r k (can_rise S r k q c).0) i) (go (same? i k))
    where
      go : (i ≡ k) ⊎ (i ≢ k) → (s i || S.up r i) ≡ true
      go (inl p) = or_right (s i) (S.up r i) (rw p (can_rise S r k q c).1)
      go (inr n) = h i (sym (toggle_other r k i n) ∙ e)

  supported_on : (s r : Row) (l : List ℕ) → Quiet S r → Legal (can S) r l → SupportedFrom S s r → SupportedFrom S s (after r l)
  supported_on s r [] q p h = h
  supported_on s r (k ∷ l) q p h = supported_on s (toggle r k) l (quiet_toggle S r k q p.0) p.1 (supported_toggle s r k q p.0 h)

  -- every list leaves a supported row
  pub supported_after : (s : Row) (l : List ℕ) → Quiet S s → Legal (can S) s l → SupportedFrom S s (after s l)
  supported_after s l q p = supported_on s s l q p (λ k e. or_left (s k) (S.up s k) e)

  -- ---- settled rows

  pub settled_supported : (s a : Row) → SettledFrom S s a → SupportedFrom S s a
  settled_supported s a h k e = sym (h k) ∙ e

  pub settled_full : (s a : Row) → SettledFrom S s a → Full S a
  settled_full s a h k u = h k ∙ or_right (s k) (S.up a k) u

  pub settled_above : (s a : Row) → SettledFrom S s a → s ⊑ a
  settled_above s a h k e = h k ∙ or_left (s k) (S.up a k) e

  pub settled_from : (s a : Row) → SupportedFrom S s a → s ⊑ a → Full S a → SettledFrom S s a
  settled_from s a h o f k = go (true? (a k))
    where
      go : (a k ≡ true) ⊎ (a k ≡ false) → a k ≡ (s k || S.up a k)
      go (inl e) = e ∙ sym (h k e)
      go (inr e) = e ∙ sym (not-true (s k || S.up a k) (λ u. none (or_cases (s k) (S.up a k) u)))
        where
          none : (s k ≡ true) ⊎ (S.up a k ≡ true) → ⊥
          none (inl u) = clash (o k u) e
          none (inr u) = clash (f k u) e

  -- every end is settled
  pub end_settled : (s : Row) (l : List ℕ) → Quiet S s → Legal (can S) s l → Ended (can S) (after s l) → SettledFrom S s (after s l)
  end_settled s l q p e = settled_from s (after s l) (supported_after s l q p) (⊑-after S s l q p) (ended_full S (after s l) e)

  -- so there is a settled row
  pub settling : (s : Row) → Quiet S s → (a : Row) × SettledFrom S s a
  settling s q = let t : GoesOn (can S) s [] = to_end S s q in (after s t.more, end_settled s t.more q t.legal t.ended)

-- ---- without loops

module _ (S : System) (R : Ranked S) where
  -- the part of r below b: what ranks below net k is the same there, as far as r lies below b already
  below_upto : (s r b : Row) → SupportedFrom S s r → s ⊑ b → Full S b → (n k : ℕ) → R.rank k < n → r k ≡ true → b k ≡ true
  below_upto s r b h o f zero k d e = absurd (omega arith)
  below_upto s r b h o f (suc n) k d e = go (λ i x. below_upto s r b h o f n i (omega arith)) (or_cases (s k) (S.up r k) (h k e))
    where
      part : Row
      part i = r i && b i

      go : ((i : ℕ) → R.rank i < R.rank k → r i ≡ true → b i ≡ true) → (s k ≡ true) ⊎ (S.up r k ≡ true) → b k ≡ true
      go ih (inl x) = o k x
      go ih (inr u) = f k (S.up_mono part b (λ i x. and_right (r i) (b i) x) k (sym (R.local r part k (λ i x. and_same (r i) (b i) (ih i x))) ∙ u))

  -- a supported row lies below the settled row
  pub supported-⊑-settled : (s r a : Row) → SupportedFrom S s r → SettledFrom S s a → r ⊑ a
  supported-⊑-settled s r a h g k e = below_upto s r a h (settled_above S s a g) (settled_full S s a g) (suc (R.rank k)) k (omega arith) e

  -- so there is one settled row
  pub settled_one : (s a b : Row) → SettledFrom S s a → SettledFrom S s b → a ≡ b
  settled_one s a b p q = ⊑-antisym a b (supported-⊑-settled s a b (settled_supported S s a p) q) (supported-⊑-settled s b a (settled_supported S s b q) p)

  -- which every end is
  pub end_is : (s a : Row) (l : List ℕ) → Quiet S s → SettledFrom S s a → Legal (can S) s l → Ended (can S) (after s l) → after s l ≡ a
  end_is s a l q h p e = settled_one s (after s l) a (end_settled S s l q p e) h

  -- and to which a list leads
  pub reached : (s a : Row) → Quiet S s → SettledFrom S s a → Reached (can S) s a
  reached s a q h =
      let t : GoesOn (can S) s [] = to_end S s q in
      record { list = t.more; legal = t.legal; arrives = end_is s a t.more q h t.legal t.ended }

  pub settled_quiet : (s a : Row) → Quiet S s → SettledFrom S s a → Quiet S a
  settled_quiet s a q h =
      let t : Reached (can S) s a = reached s a q h in
      rw t.arrives at (quiet_after S s t.list q t.legal)

-- ---- with the nets of X held

module _ (S : System) (X : Row) where
  mask_rise : (r : Row) (k : ℕ) → Quiet S r → can (mask S X) r k ≡ true → (X k ≡ false) × (can S r k ≡ true)
  mask_rise r k q c =
      let h : (r k ≡ false) × ((S.up r ∖ X) k ≡ true) = can_rise (mask S X) r k q c in
      (of_not (X k) (and_right (S.up r k) (not (X k)) h.1), rise_can S r k h.0 (and_left (S.up r k) (not (X k)) h.1))

  -- a list with X held is a list
  pub mask_legal : (r : Row) (l : List ℕ) → Quiet S r → Legal (can (mask S X)) r l → Legal (can S) r l
  mask_legal r [] q p = tt
  mask_legal r (k ∷ l) q p = let c : can S r k ≡ true = (mask_rise r k q p.0).1 in (c, mask_legal (toggle r k) l (quiet_toggle S r k q c) p.1)

  -- a row settled with X held is supported, and is as at the start in X
  pub held_supported : (s a : Row) → SettledFrom (mask S X) s a → SupportedFrom S s a
  held_supported s a h k e = go (or_cases (s k) ((S.up a ∖ X) k) (sym (h k) ∙ e))
    where
      go : (s k ≡ true) ⊎ ((S.up a ∖ X) k ≡ true) → (s k || S.up a k) ≡ true
      go (inl x) = or_left (s k) (S.up a k) x
      go (inr x) = or_right (s k) (S.up a k) (and_left (S.up a k) (not (X k)) x)

  pub held_still : (s a : Row) → SettledFrom (mask S X) s a → (k : ℕ) → X k ≡ true → s k ≡ false → a k ≡ false
  held_still s a h k x e = not-true (a k) (λ u. go (or_cases (s k) ((S.up a ∖ X) k) (sym (h k) ∙ u)))
    where
      go : (s k ≡ true) ⊎ ((S.up a ∖ X) k ≡ true) → ⊥
      go (inl y) = clash y e
      go (inr y) = clash (and_right (S.up a k) (not (X k)) y) (ap not x)

  -- a supported row that is as at the start in X is supported with X held
  pub supported_mask : (s r : Row) → SupportedFrom S s r → ((k : ℕ) → X k ≡ true → s k ≡ false → r k ≡ false) → SupportedFrom (mask S X) s r
  supported_mask s r h x k e = go (true? (s k)) (true? (X k))
    where
      go : (s k ≡ true) ⊎ (s k ≡ false) → (X k ≡ true) ⊎ (X k ≡ false) → (s k || (S.up r ∖ X) k) ≡ true
      go (inl a) b = or_left (s k) ((S.up r ∖ X) k) a
      go (inr a) (inl b) = absurd (clash e (x k b a))
      go (inr a) (inr b) = or_right (s k) ((S.up r ∖ X) k) (and_in (S.up r k) (not (X k)) (up (or_cases (s k) (S.up r k) (h k e))) (ap not b))
        where
          up : (s k ≡ true) ⊎ (S.up r k ≡ true) → S.up r k ≡ true
          up (inl y) = absurd (clash y a)
          up (inr y) = y

  -- so it lies below the row settled with X held
  pub supported-⊑-held : Ranked S → (s r a : Row) → SupportedFrom S s r → ((k : ℕ) → X k ≡ true → s k ≡ false → r k ≡ false)
      → SettledFrom (mask S X) s a → r ⊑ a
  supported-⊑-held R s r a h x g = supported-⊑-settled (mask S X) (mask_ranked S X R) s r a (supported_mask s r h x) g

  -- a list leads to that row
  pub held_reached : Ranked S → (s a : Row) → Quiet S s → SettledFrom (mask S X) s a → Reached (can S) s a
  held_reached R s a q h =
      let t : Reached (can (mask S X)) s a = reached (mask S X) (mask_ranked S X R) s a q h in
      record { list = t.list; legal = mask_legal s t.list q t.legal; arrives = t.arrives }
