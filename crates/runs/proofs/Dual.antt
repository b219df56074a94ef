-- Laws of the complemented row: what falls in a system rises in its dual.
-- Assumes nothing.
use mathlib.Core.Path.{◌≡◌, refl, sym, ap, ◌∙◌, fun_ext}
use mathlib.Core.Bool.{Bool, true, false, not, cond, not-not}
use mathlib.Core.List.{List, [], ◌∷◌, ◌++◌}
use Prim.Native.Nat.{ℕ, zero, suc, ◌+◌}
use native.Mathlib.Omega.{arith}
use lib.Dec.{eqb}
use Rattle.runs.specs.Row.{Row, toggle, after, Legal, Ended, tally, count}
use Rattle.runs.specs.Theory.{◌⊑◌, Reached}
use Rattle.runs.specs.Promise.{GoesOn}
use Rattle.runs.proofs.Test.{clash, not-false}
use Rattle.runs.proofs.System.{System, can, complement, dual}
use Rattle.runs.proofs.Exchange.{Swapped, done, swap}

pub complement_complement : (r : Row) → complement (complement r) ≡ r
complement_complement r = fun_ext (λ k. not-not (r k))

pub ⊑-complement : (r s : Row) → complement r ⊑ complement s → s ⊑ r
⊑-complement r s h k e = not-false (r k) (λ x. clash (h k (ap not x)) (ap not e))

cond-not : (b d u : Bool) → cond (not b) u d ≡ cond b d u
cond-not true d u = refl
cond-not false d u = refl

not_cond : (b x y : Bool) → cond b (not x) (not y) ≡ not (cond b x y)
not_cond true x y = refl
not_cond false x y = refl

pub toggle_complement : (r : Row) (k : ℕ) → toggle (complement r) k ≡ complement (toggle r k)
toggle_complement r k = fun_ext (λ i. not_cond (eqb i k) (not (r i)) (r i))

pub after_complement : (r : Row) (l : List ℕ) → after (complement r) l ≡ complement (after r l)
after_complement r [] = refl
after_complement r (k ∷ l) = rw (toggle_complement r k) (after_complement (toggle r k) l)

pub count_complement : (n : ℕ) (r : Row) → count n (complement r) + count n r ≡ n
count_complement zero r = omega arith
count_complement (suc n) r = go (r n) (count_complement n r)
  where
    go : (b : Bool) → count n (complement r) + count n r ≡ n → tally (not b) (count n (complement r)) + tally b (count n r) ≡ suc n
    go true h = omega arith
    go false h = omega arith

module _ (S : System) where
  pub can_dual : (r : Row) (k : ℕ) → can (dual S) (complement r) k ≡ can S r k
  can_dual r k = go (complement (complement r)) (complement_complement r)
    where
      go : (s : Row) → s ≡ r → cond (not (r k)) (S.up s k) (S.down s k) ≡ cond (r k) (S.down r k) (S.up r k)
      go s e = rw e (cond-not (r k) (S.down r k) (S.up r k))

  pub legal_dual : (r : Row) (l : List ℕ) → Legal (can S) r l → Legal (can (dual S)) (complement r) l
  legal_dual r [] p = tt
  legal_dual r (k ∷ l) p = (can_dual r k ∙ p.0, rw (toggle_complement r k) (legal_dual (toggle r k) l p.1))

  pub dual_legal : (r : Row) (l : List ℕ) → Legal (can (dual S)) (complement r) l → Legal (can S) r l
  dual_legal r [] p = tt
  dual_legal r (k ∷ l) p = (sym (can_dual r k) ∙ p.0, dual_legal (toggle r k) l (rw (toggle_complement r k) at p.1))

  pub ended_dual : (r : Row) (l : List ℕ) → Ended (can S) (after r l) → Ended (can (dual S)) (after (complement r) l)
  ended_dual r l e = rw after_complement (λ k. can_dual (after r l) k ∙ e k)

  pub dual_ended : (r : Row) (l : List ℕ) → Ended (can (dual S)) (after (complement r) l) → Ended (can S) (after r l)
  dual_ended r l e k = sym (can_dual (after r l) k) ∙ (rw after_complement at e) k

  pub dual_exchanged : (r : Row) {l m : List ℕ} → Swapped (can (dual S)) (complement r) l m → Swapped (can S) r l m
  dual_exchanged r done = done
  dual_exchanged r (swap a i k b p x) = swap a i k b (dual_legal r (a ++ k ∷ i ∷ b) p) (dual_exchanged r x)

  pub dual_goes_on : (r : Row) (l : List ℕ) → GoesOn (can (dual S)) (complement r) l → GoesOn (can S) r l
  dual_goes_on r l t = record { more = t.more; legal = dual_legal r (l ++ t.more) t.legal; ended = dual_ended r (l ++ t.more) t.ended }

  pub dual_reached : (s r : Row) → Reached (can (dual S)) (complement s) (complement r) → Reached (can S) s r
  dual_reached s r t = record {
    list = t.list;
    legal = dual_legal s t.list t.legal;
    arrives = sym (complement_complement (after s t.list)) ∙ ap complement (sym (after_complement s t.list) ∙ t.arrives) ∙ complement_complement r;
  }
