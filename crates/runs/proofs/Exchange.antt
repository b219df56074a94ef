-- Neighbours in a list may be exchanged: any two lists to an end are one another's rearrangement, by legal lists alone.
-- Assumes nothing.
use mathlib.Core.Path.{◌≡◌, refl, sym, ap, ◌∙◌, subst}
use mathlib.Core.Logic.{◌⊎◌, inl, inr, ◌≢◌}
use mathlib.Core.Bool.{Bool, true, false}
use mathlib.Core.List.{List, [], ◌∷◌, ◌++◌}
use Prim.Native.Nat.{ℕ, ◌≤◌}
use native.Mathlib.Omega.{arith}
use lib.Dec.{eqb}
use Rattle.runs.specs.Row.{Row, Rule, toggle, after, Legal, Ended, tally, times}
use Rattle.runs.specs.Exchange as runs
use Rattle.runs.specs.Exchange.{FullRun, SameSwitchings, Exchanged, OneFromAnother}
use Rattle.runs.proofs.Test.{clash, same?}
use Rattle.runs.proofs.Row.{toggle_comm}
use Rattle.runs.proofs.System.{System, can, Quiet}
use Rattle.runs.proofs.Persistent.{can_rise, quiet_toggle, persistent, ⊑-after, ended_full}

-- a list is another's rearrangement by exchanging neighbours, each time to a list that is legal
pub data Swapped (can : Rule) (r : Row) : List ℕ → List ℕ → Type 0 where
  done : {l : List ℕ} → Swapped can r l l
  swap : {m : List ℕ} (a : List ℕ) (i k : ℕ) (b : List ℕ) → Legal can r (a ++ k ∷ i ∷ b) → Swapped can r (a ++ k ∷ i ∷ b) m
      → Swapped can r (a ++ i ∷ k ∷ b) m

pub exchanged_trans : (can : Rule) (r : Row) {l m n : List ℕ} → Swapped can r l m → Swapped can r m n → Swapped can r l n
exchanged_trans can r done y = y
exchanged_trans can r (swap a i k b p x) y = swap a i k b p (exchanged_trans can r x y)

pub exchanged-∷ : (can : Rule) (r : Row) (n : ℕ) {l m : List ℕ} → can r n ≡ true → Swapped can (toggle r n) l m → Swapped can r (n ∷ l) (n ∷ m)
exchanged-∷ can r n h done = done
exchanged-∷ can r n h (swap a i k b p x) = swap (n ∷ a) i k b (h, p) (exchanged-∷ can r n h x)

after-swap : (r : Row) (a : List ℕ) (i k : ℕ) (b : List ℕ) → after r (a ++ i ∷ k ∷ b) ≡ after r (a ++ k ∷ i ∷ b)
after-swap r [] i k b = ap (λ (s : Row). after s b) (toggle_comm r i k)
after-swap r (n ∷ a) i k b = after-swap (toggle r n) a i k b

-- every list on the way leaves the same row
pub exchanged_after : (can : Rule) (r : Row) {l m : List ℕ} → Swapped can r l m → after r l ≡ after r m
exchanged_after can r done = refl
exchanged_after can r (swap a i k b p x) = after-swap r a i k b ∙ exchanged_after can r x

-- of a full run: every list on the way is one, with the same end
pub exchanged_runs : (can : Rule) (r e : Row) {l m : List ℕ} → FullRun can r e l → Swapped can r l m → Exchanged (FullRun can r e) l m
exchanged_runs can r e f done = runs.done f
exchanged_runs can r e f (swap a i k b p x) =
    let same = sym (after-swap r a i k b) in
    runs.swap a i k b f (exchanged_runs can r e (record { legal = p; ended = subst (Ended can) (sym same) f.ended; arrives = same ∙ f.arrives }) x)

-- ---- what the two notions give

-- both lists are runs, as is every list on the way, since the rest of the way is itself such an exchange
pub exchanged_both : {Run : List ℕ → Type 0} {l m : List ℕ} → Exchanged Run l m → Run l × Run m
exchanged_both (runs.done f) = (f, f)
exchanged_both (runs.swap a i k b f x) = (f, (exchanged_both x).1)

-- no net stands twice in either list
pub each_once : {l m : List ℕ} → SameSwitchings l m → (k : ℕ) → (times k l ≤ 1) × (times k m ≤ 1)
each_once h k = (h.once k, subst (λ (n : ℕ). n ≤ 1) (h.same k) (h.once k))

tally-comm : (a b : Bool) (n : ℕ) → tally a (tally b n) ≡ tally b (tally a n)
tally-comm true true n = refl
tally-comm true false n = refl
tally-comm false true n = refl
tally-comm false false n = refl

times-swap : (n : ℕ) (a : List ℕ) (i k : ℕ) (b : List ℕ) → times n (a ++ i ∷ k ∷ b) ≡ times n (a ++ k ∷ i ∷ b)
times-swap n [] i k b = tally-comm (eqb n i) (eqb n k) (times n b)
times-swap n (x ∷ a) i k b = ap (tally (eqb n x)) (times-swap n a i k b)

times-exchanged : (can : Rule) (r : Row) {l m : List ℕ} → Swapped can r l m → (n : ℕ) → times n l ≡ times n m
times-exchanged can r done n = refl
times-exchanged can r (swap a i k b p x) n = times-swap n a i k b ∙ times-exchanged can r x n

-- no net stands twice in a list that has one switching for each net of a set
pub at_most_once : (b : Bool) (n : ℕ) → n ≡ tally b 0 → n ≤ 1
at_most_once true n e = omega arith
at_most_once false n e = omega arith

-- where any two full runs are rearrangements of one another, and no net stands twice in a list
pub one_from_another : (can : Rule) (s : Row) → ((l m : List ℕ) → Legal can s l → Legal can s m → Ended can (after s l) → Ended can (after s m) → Swapped can s m l)
    → ((l : List ℕ) → Legal can s l → (k : ℕ) → times k l ≤ 1) → OneFromAnother can s
one_from_another can s path once = record {
  same = λ e f l m p q. record { same = times-exchanged can s (path m l q.legal p.legal q.ended p.ended); once = once l p.legal };
  exchanged = λ e f l m p q. exchanged_runs can s e p (path m l q.legal p.legal q.ended p.ended);
}

module _ (S : System) where
  -- the list with k brought to its front
  record Fronted (r : Row) (k : ℕ) (l : List ℕ) : Type 0 where
    rest : List ℕ
    legal : Legal (can S) r (k ∷ rest)
    path : Swapped (can S) r l (k ∷ rest)

  front : (r : Row) (k : ℕ) (l : List ℕ) → Quiet S r → Legal (can S) r l → can S r k ≡ true → after r l k ≡ true → Fronted r k l
  front r k [] q p c h = absurd (clash h (can_rise S r k q c).0)
  front r k (i ∷ l) q p c h = go (λ n. front (toggle r i) k l (quiet_toggle S r i q p.0) p.1 (persistent S r i k q p.0 c n) h) (same? i k)
    where
      go : (i ≢ k → Fronted (toggle r i) k l) → (i ≡ k) ⊎ (i ≢ k) → Fronted r k (i ∷ l)
      go f (inl e) = subst (λ (x : ℕ). Fronted r x (i ∷ l)) e (record { rest = l; legal = p; path = done })
      go f (inr n) =
          let t : Fronted (toggle r i) k l = f n in
          let swapped : Legal (can S) r (k ∷ i ∷ t.rest) = (c, (persistent S r k i q c p.0 (λ e. n (sym e)), rw (toggle_comm r i k) at t.legal.1)) in
          record {
            rest = i ∷ t.rest;
            legal = swapped;
            path = exchanged_trans (can S) r (exchanged-∷ (can S) r i p.0 t.path) (swap [] i k t.rest swapped done);
          }

  -- from the full list m to the full list l: bring the head of l to the front of m, and go on with the tails
  pub exchange : (r : Row) (l m : List ℕ) → Quiet S r → Legal (can S) r l → Legal (can S) r m → Ended (can S) (after r l)
      → Ended (can S) (after r m) → Swapped (can S) r m l
  exchange r [] [] q p p' e e' = done
  exchange r [] (k ∷ m) q p p' e e' = absurd (clash p'.0 (e k))
  exchange r (k ∷ l) m q p p' e e' =
      let h : after r m k ≡ true = ended_full S (after r m) e' k (S.up_mono r (after r m) (⊑-after S r m q p') k (can_rise S r k q p.0).1) in
      let t : Fronted r k m = front r k m q p' p.0 h in
      let e'' : Ended (can S) (after r (k ∷ t.rest)) = rw (exchanged_after (can S) r t.path) at e' in
      exchanged_trans (can S) r t.path (exchanged-∷ (can S) r k p.0 (exchange (toggle r k) l t.rest (quiet_toggle S r k q p.0) p.1 t.legal.1 e e''))
