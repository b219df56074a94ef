-- Lists of switchings from a row in which no high net may fall: every switching is a rise, none can be withdrawn, and all lists go on to one
-- end.
-- Assumes nothing.
use mathlib.Core.Path.{◌≡◌, refl, sym, ◌∙◌}
use mathlib.Core.Logic.{◌⊎◌, inl, inr, ◌≢◌}
use mathlib.Core.Bool.{Bool, true, false, cond}
use mathlib.Core.List.{List, [], ◌∷◌}
use Prim.Native.Nat.{ℕ, zero, suc, ◌+◌, ◌≤◌, ◌<◌}
use native.Mathlib.Omega.{arith}
use lib.Dec.{eqb}
use lib.ListN.{length}
use Rattle.runs.specs.Row.{Row, low, toggle, after, Legal, Ended, tally, count, times}
use Rattle.runs.specs.Theory.{◌⊑◌}
use Rattle.runs.specs.Promise.{GoesOn}
use Rattle.runs.proofs.Test.{clash, not-true, same?, eqb_same, eqb_other, find}
use Rattle.runs.proofs.Row.{⊑_refl, ⊑_trans, ⊑-antisym, toggle_high, toggle_other, toggle-⊑, after-++, Legal-++, count-≤, count_toggle}
use Rattle.runs.proofs.System.{System, can, Quiet, Full}

can_cases : (b u d : Bool) → cond b d u ≡ true → (b ≡ true → d ≡ false) → (b ≡ false) × (u ≡ true)
can_cases true u d e q = absurd (clash e (q refl))
can_cases false u d e q = (refl, e)

full_cases : (b u d : Bool) → cond b d u ≡ false → u ≡ true → b ≡ true
full_cases true u d e h = refl
full_cases false u d e h = absurd (clash h e)

ended-cases : (b u d : Bool) → (b ≡ true → d ≡ false) → (u ≡ true → b ≡ true) → cond b d u ≡ false
ended-cases true u d q f = q refl
ended-cases false u d q f = not-true u (λ e. clash (f e) refl)

module _ (S : System) where
  -- ---- one switching

  -- it is a rise
  pub can_rise : (r : Row) (k : ℕ) → Quiet S r → can S r k ≡ true → (r k ≡ false) × (S.up r k ≡ true)
  can_rise r k q e = can_cases (r k) (S.up r k) (S.down r k) e (q k)

  pub rise_can : (r : Row) (k : ℕ) → r k ≡ false → S.up r k ≡ true → can S r k ≡ true
  rise_can r k e u = rw e u

  pub quiet_toggle : (r : Row) (k : ℕ) → Quiet S r → can S r k ≡ true → Quiet S (toggle r k)
  quiet_toggle r k q e i h = not-true (S.down (toggle r k) i) (λ d. clash (S.down_anti r (toggle r k) (toggle-⊑ r k (can_rise r k q e).0) i d) (go (same? i k)))
    where
      go : (i ≡ k) ⊎ (i ≢ k) → S.down r i ≡ false
      go (inl p) = rw p (S.apart r k (can_rise r k q e).1)
      go (inr n) = q i (sym (toggle_other r k i n) ∙ h)

  -- an enabled switching stays enabled when another net switches
  pub persistent : (r : Row) (i k : ℕ) → Quiet S r → can S r i ≡ true → can S r k ≡ true → i ≢ k → can S (toggle r i) k ≡ true
  persistent r i k q a b n =
      let u : (r k ≡ false) × (S.up r k ≡ true) = can_rise r k q b in
      rise_can (toggle r i) k (toggle_other r i k (λ e. n (sym e)) ∙ u.0) (S.up_mono r (toggle r i) (toggle-⊑ r i (can_rise r i q a).0) k u.1)

  below_toggle : (r b : Row) (k : ℕ) → Quiet S r → can S r k ≡ true → r ⊑ b → Full S b → toggle r k ⊑ b
  below_toggle r b k q e h f i x = go (same? i k)
    where
      go : (i ≡ k) ⊎ (i ≢ k) → b i ≡ true
      go (inl p) = f i (rw p (S.up_mono r b h k (can_rise r k q e).1))
      go (inr n) = h i (sym (toggle_other r k i n) ∙ x)

  one_more : (r : Row) (k : ℕ) → Quiet S r → can S r k ≡ true → count S.size (toggle r k) ≡ suc (count S.size r)
  one_more r k q e = count_toggle S.size r k (S.up_inside r k (can_rise r k q e).1) (can_rise r k q e).0

  -- ---- after every list

  pub quiet_low : Quiet S low
  quiet_low k e = absurd (clash e refl)

  pub quiet_after : (r : Row) (l : List ℕ) → Quiet S r → Legal (can S) r l → Quiet S (after r l)
  quiet_after r [] q p = q
  quiet_after r (k ∷ l) q p = quiet_after (toggle r k) l (quiet_toggle r k q p.0) p.1

  -- no net falls
  pub ⊑-after : (r : Row) (l : List ℕ) → Quiet S r → Legal (can S) r l → r ⊑ after r l
  ⊑-after r [] q p = ⊑_refl r
  ⊑-after r (k ∷ l) q p = ⊑_trans r (toggle r k) (after (toggle r k) l) (toggle-⊑ r k (can_rise r k q p.0).0) (⊑-after (toggle r k) l (quiet_toggle r k q p.0) p.1)

  -- no list leads above a full row
  pub after-⊑ : (r b : Row) (l : List ℕ) → Quiet S r → Legal (can S) r l → r ⊑ b → Full S b → after r l ⊑ b
  after-⊑ r b [] q p h f = h
  after-⊑ r b (k ∷ l) q p h f = after-⊑ (toggle r k) b l (quiet_toggle r k q p.0) p.1 (below_toggle r b k q p.0 h f) f

  -- one switching for each net that rises
  pub length_after : (r : Row) (l : List ℕ) → Quiet S r → Legal (can S) r l → length l + count S.size r ≡ count S.size (after r l)
  length_after r [] q p = omega arith
  length_after r (k ∷ l) q p = omega (arith, one_more r k q p.0, length_after (toggle r k) l (quiet_toggle r k q p.0) p.1)

  -- each net that rises stands once in the list, and no other net stands in it
  pub times_after : (r : Row) (l : List ℕ) → Quiet S r → Legal (can S) r l → (k : ℕ) → times k l + tally (r k) 0 ≡ tally (after r l k) 0
  times_after r [] q p k = omega arith
  times_after r (i ∷ l) q p k = go (times_after (toggle r i) l (quiet_toggle r i q p.0) p.1 k) (same? k i)
    where
      go : times k l + tally (toggle r i k) 0 ≡ tally (after (toggle r i) l k) 0 → (k ≡ i) ⊎ (k ≢ i)
          → tally (eqb k i) (times k l) + tally (r k) 0 ≡ tally (after (toggle r i) l k) 0
      go h (inl e) =
          let z : r k ≡ false = rw e (can_rise r i q p.0).0 in
          let o : toggle r i k ≡ true = rw e (toggle_high r i (can_rise r i q p.0).0) in
          let b : eqb k i ≡ true = rw e (eqb_same i) in
          rw (b, z) (omega (arith, rw o at h))
      go h (inr n) = rw (eqb_other k i n) (rw (toggle_other r i k n) at h)

  -- ---- ends

  pub ended_full : (r : Row) → Ended (can S) r → Full S r
  ended_full r e k h = full_cases (r k) (S.up r k) (S.down r k) (e k) h

  pub full_ended : (r : Row) → Quiet S r → Full S r → Ended (can S) r
  full_ended r q f k = ended-cases (r k) (S.up r k) (S.down r k) (q k) (f k)

  -- all ends are one row
  pub one_end : (r : Row) (l m : List ℕ) → Quiet S r → Legal (can S) r l → Legal (can S) r m → Ended (can S) (after r l)
      → Ended (can S) (after r m) → after r l ≡ after r m
  one_end r l m q p p' e e' = ⊑-antisym (after r l) (after r m) (under l m p p' e') (under m l p' p e)
    where
      under : (a b : List ℕ) → Legal (can S) r a → Legal (can S) r b → Ended (can S) (after r b) → after r a ⊑ after r b
      under a b x y z = after-⊑ r (after r b) a q x (⊑-after r b q y) (ended_full (after r b) z)

  to_end_go : (r : Row) → Quiet S r → ((k : ℕ) → can S r k ≡ true → GoesOn (can S) (toggle r k) [])
      → ((k : ℕ) × (k < S.size) × (can S r k ≡ true)) ⊎ ((k : ℕ) → k < S.size → can S r k ≡ false) → GoesOn (can S) r []
  to_end_go r q f (inl x) = let t : GoesOn (can S) (toggle r x.0) [] = f x.0 x.2 in record { more = x.0 ∷ t.more; legal = (x.2, t.legal); ended = t.ended }
  to_end_go r q f (inr g) = record { more = []; legal = tt; ended = λ k. not-true (can S r k) (λ e. clash e (g k (S.up_inside r k (can_rise r k q e).1))) }

  -- n nets or fewer are still low
  to_end_within : (n : ℕ) (r : Row) → Quiet S r → S.size ≤ count S.size r + n → GoesOn (can S) r []
  to_end_within zero r q h = to_end_go r q (λ k e. absurd (omega (arith, one_more r k q e, count-≤ S.size (toggle r k)))) (find (can S r) S.size)
  to_end_within (suc n) r q h = to_end_go r q (λ k e. to_end_within n (toggle r k) (quiet_toggle r k q e) (omega (arith, one_more r k q e))) (find (can S r) S.size)

  pub to_end : (r : Row) → Quiet S r → GoesOn (can S) r []
  to_end r q = to_end_within S.size r q (omega arith)

  -- every list goes on to an end
  pub goes_on : (r : Row) (l : List ℕ) → Quiet S r → Legal (can S) r l → GoesOn (can S) r l
  goes_on r l q p =
      let t : GoesOn (can S) (after r l) [] = to_end (after r l) (quiet_after r l q p) in
      record {
        more = t.more;
        legal = Legal-++ (can S) r l t.more p t.legal;
        ended = rw after-++ t.ended;
      }
