-- What is played: the net with the least key switches, every list is legal and goes on to an end, and rules that allow the same give the same list.
-- Assumes nothing.
use Rattle.std.specs.Prelude.{Option, Some, None}
use Prim.Native.Nat.{ℕ, zero, suc, ◌+◌, ◌≤◌, ◌<◌}
use native.Mathlib.Omega.{arith}
use native.Mathlib.Decide.{dec_lt}
use mathlib.Core.Path.{◌≡◌, refl, sym, ap, ◌∙◌, subst}
use mathlib.Core.Logic.{◌⊎◌, inl, inr, ◌≢◌}
use mathlib.Core.Bool.{Bool, true, false, cond}
use mathlib.Core.List.{List, [], ◌∷◌}
use lib.ListN.{length, length-append}
use lib.Dec.{ltb}
use Rattle.runs.specs.Row.{Row, Rule, low, toggle, after, Legal, Ended, ◌∖◌}
use Rattle.runs.specs.Net.{Net, nets, rise_step, fall_step}
use Rattle.runs.proofs.Test.{clash, true?, not-true, lt-ltb, le-ltb}
use Rattle.verdict.specs.declared.Verdict.{Verdict}
use Rattle.verdict.specs.Written.{holding}
use Rattle.check_spec.specs.Lists.{numbers}
use Rattle.run_spec.specs.Played.{lesser, next, onward, played, rise_by, fall_by, Run, switchings, answering, handed_out, Handed}
use Rattle.run_spec.specs.Keys.{LeastFirst}

-- ---- the net that switches next

-- net k comes before net i: its key is less, or equal and net k is not above net i
abbrev pub Before : (ℕ → ℕ) → ℕ → ℕ → Type 0
Before key k i = (key k < key i) ⊎ ((key k ≡ key i) × (k ≤ i))

-- what is found among m nets from j on: one that may switch, before all others that may; or none may
abbrev pub NextOf : (ℕ → ℕ) → (ℕ → Bool) → ℕ → ℕ → Option ℕ → Type 0
NextOf key may j m (Some k) = (j ≤ k) × (k < j + m) × (may k ≡ true) × ((i : ℕ) → j ≤ i → i < j + m → may i ≡ true → Before key k i)
NextOf key may j m None = (i : ℕ) → j ≤ i → i < j + m → may i ≡ false

module _ (key : ℕ → ℕ) (may : ℕ → Bool) where
  more : (P : ℕ → Type 0) (j m : ℕ) → P j → ((i : ℕ) → suc j ≤ i → i < suc j + m → P i) → (i : ℕ) → j ≤ i → i < j + suc m → P i
  more P j m p f i h l = go (dec_lt j i)
    where
      go : Dec (j < i) → P i
      go (yes d) = f i d (omega arith)
      go (no d) = let e : j ≡ i = omega arith in subst P e p

  passed : (j m : ℕ) → may j ≡ false → (f : Option ℕ) → NextOf key may (suc j) m f → NextOf key may j (suc m) f
  passed j m e None p = more (λ i. may i ≡ false) j m e p
  passed j m e (Some k) p = (omega (arith, p.0), omega (arith, p.1), p.2, more (λ i. may i ≡ true → Before key k i) j m (λ t. absurd (clash t e)) p.3)

  compared : (j m : ℕ) → may j ≡ true → (f : Option ℕ) → NextOf key may (suc j) m f → NextOf key may j (suc m) (lesser key j f)
  compared j m e None p = (omega arith, omega arith, e, more (λ i. may i ≡ true → Before key j i) j m (λ t. inr (refl, omega arith)) (λ i h l t. absurd (clash t (p i h l))))
  compared j m e (Some k) p = go (dec_lt (key k) (key j))
    where
      before : key j ≤ key k → (i : ℕ) → suc j ≤ i → i < suc j + m → may i ≡ true → Before key j i
      before le i h l t = at (p.3 i h l t)
        where
          equal : (a b : ℕ) → a ≤ b → j < i → (a < b) ⊎ ((a ≡ b) × (j ≤ i))
          equal a b x y = at (dec_lt a b)
            where
              at : Dec (a < b) → (a < b) ⊎ ((a ≡ b) × (j ≤ i))
              at (yes d) = inl d
              at (no d) = inr (omega arith, omega arith)

          at : Before key k i → Before key j i
          at (inl x) = inl (omega arith)
          at (inr x) = equal (key j) (key i) (omega (arith, x.0)) h

      go : Dec (key k < key j) → NextOf key may j (suc m) (cond (ltb (key k) (key j)) (Some k) (Some j))
      go (yes d) =
          rw (lt-ltb (key k) (key j) d) (omega (arith, p.0), omega (arith, p.1), p.2, more (λ i. may i ≡ true → Before key k i) j m (λ t. inl d) p.3)
      go (no d) =
          rw (le-ltb (key k) (key j) (omega arith)) (omega arith, omega arith, e, more (λ i. may i ≡ true → Before key j i) j m (λ t. inr (refl, omega arith)) (before (omega arith)))

  next-from : (j m : ℕ) → NextOf key may j m (next key may (numbers j m))
  unfolding next numbers
  next-from j zero = λ i h l. absurd (omega arith)
  next-from j (suc m) = go (next-from (suc j) m) (true? (may j))
    where
      go : NextOf key may (suc j) m (next key may (numbers (suc j) m)) → (may j ≡ true) ⊎ (may j ≡ false)
          → NextOf key may j (suc m) (cond (may j) (lesser key j (next key may (numbers (suc j) m))) (next key may (numbers (suc j) m)))
      go p (inl e) = rw e (compared j m e (next key may (numbers (suc j) m)) p)
      go p (inr e) = rw e (passed j m e (next key may (numbers (suc j) m)) p)

-- the same of all nets below n
abbrev pub NextIs : (ℕ → ℕ) → (ℕ → Bool) → ℕ → Option ℕ → Type 0
NextIs key may n (Some k) = (k < n) × (may k ≡ true) × ((i : ℕ) → i < n → may i ≡ true → Before key k i)
NextIs key may n None = (i : ℕ) → i < n → may i ≡ false

module _ (key : ℕ → ℕ) (may : ℕ → Bool) (n : ℕ) where
  pub next-is : NextIs key may n (next key may (numbers 0 n))
  next-is = go (next key may (numbers 0 n)) (next-from key may 0 n)
    where
      go : (f : Option ℕ) → NextOf key may 0 n f → NextIs key may n f
      go None p = λ i l. p i (omega arith) (omega arith)
      go (Some k) p = (omega (arith, p.1), p.2, λ i l t. p.3 i (omega arith) (omega arith) t)

  -- there is one such net
  next_one : (f g : Option ℕ) → NextIs key may n f → NextIs key may n g → f ≡ g
  next_one None None p q = refl
  next_one None (Some k) p q = absurd (clash q.1 (p k q.0))
  next_one (Some k) None p q = absurd (clash p.1 (q k p.0))
  next_one (Some k) (Some i) p q = ap Some (same (p.2 i q.0 q.1) (q.2 k p.0 p.1))
    where
      same : Before key k i → Before key i k → k ≡ i
      same (inl x) (inl y) = absurd (omega arith)
      same (inl x) (inr y) = absurd (omega (arith, y.0))
      same (inr x) (inl y) = absurd (omega (arith, x.0))
      same (inr x) (inr y) = omega (arith, x.1, y.1)

  pub next_only : (f : Option ℕ) → NextIs key may n f → f ≡ next key may (numbers 0 n)
  next_only f p = next_one f (next key may (numbers 0 n)) p next-is

-- ---- one step

module _ (can : Rule) (key : ℕ → ℕ) (n : ℕ) where
  pub played_none : (steps : ℕ) (r : Row) → NextIs key (can r) n None → played can key n steps r ≡ []
  unfolding played
  played_none zero r p = refl
  played_none (suc steps) r p = ap (onward (λ k. played can key n steps (toggle r k))) (sym (next_only key (can r) n None p))

  pub played_next : (steps : ℕ) (r : Row) (k : ℕ) → NextIs key (can r) n (Some k) → played can key n (suc steps) r ≡ k ∷ played can key n steps (toggle r k)
  unfolding played
  played_next steps r k p = ap (onward (λ k. played can key n steps (toggle r k))) (sym (next_only key (can r) n (Some k) p))

  -- a list that is played, by its first step
  by_step : (P : List ℕ → Type 0) (steps : ℕ) (r : Row)
      → (NextIs key (can r) n None → P [])
      → ((k : ℕ) → NextIs key (can r) n (Some k) → P (k ∷ played can key n steps (toggle r k)))
      → P (played can key n (suc steps) r)
  unfolding played
  by_step P steps r none some = go (next key (can r) (numbers 0 n)) (next-is key (can r) n)
    where
      go : (f : Option ℕ) → NextIs key (can r) n f → P (onward (λ k. played can key n steps (toggle r k)) f)
      go None p = none p
      go (Some k) p = some k p

  -- ---- every list

  pub played_legal : (steps : ℕ) (r : Row) → Legal can r (played can key n steps r)
  unfolding played
  played_legal zero r = tt
  played_legal (suc steps) r = by_step (Legal can r) steps r (λ p. tt) (λ k p. (p.1, played_legal steps (toggle r k)))

  pub played_few : (steps : ℕ) (r : Row) → length (played can key n steps r) ≤ steps
  unfolding played
  played_few zero r = omega arith
  played_few (suc steps) r = by_step (λ l. length l ≤ suc steps) steps r (λ p. omega arith) (λ k p. omega (arith, played_few steps (toggle r k)))

  -- What has to be known of a rule so that a list goes on to an end: something that holds of the row, and stays so, and a number that falls with each step.
  pub record Falls (I : Row → Type 0) (left : Row → ℕ) : Type 0 where
    pub inside : (r : Row) (k : ℕ) → I r → can r k ≡ true → k < n
    pub stays : (r : Row) (k : ℕ) → I r → can r k ≡ true → I (toggle r k)
    pub fewer : (r : Row) (k : ℕ) → I r → can r k ≡ true → left (toggle r k) < left r

  module _ (I : Row → Type 0) (left : Row → ℕ) (falls : Falls I left) where
    none_ended : (r : Row) → I r → NextIs key (can r) n None → Ended can r
    none_ended r i p k = not-true (can r k) (λ e. clash e (p k (falls.inside r k i e)))

    pub played_least : (steps : ℕ) (r : Row) → I r → left r ≤ steps → LeastFirst can key r (played can key n steps r)
    unfolding played
    played_least zero r i h = λ k. not-true (can r k) (λ e. absurd (omega (arith, falls.fewer r k i e)))
    played_least (suc steps) r i h =
        by_step (LeastFirst can key r) steps r (none_ended r i)
        (λ k p. (
          p.1,
          λ j e. least (p.2 j (falls.inside r j i e) e),
          played_least steps (toggle r k) (falls.stays r k i p.1) (omega (arith, falls.fewer r k i p.1)),
        ))
      where
        least : {k j : ℕ} → Before key k j → key k ≤ key j
        least (inl x) = omega arith
        least (inr x) = omega (arith, x.0)

-- ---- lists that are played so

module _ (can : Rule) (key : ℕ → ℕ) where
  pub least_legal : (r : Row) (l : List ℕ) → LeastFirst can key r l → Legal can r l
  least_legal r [] p = tt
  least_legal r (k ∷ l) p = (p.0, least_legal (toggle r k) l p.2)

  pub least_ended : (r : Row) (l : List ℕ) → LeastFirst can key r l → Ended can (after r l)
  least_ended r [] p = p
  least_ended r (k ∷ l) p = least_ended (toggle r k) l p.2

  -- where the keys differ there is one
  pub least-one : ((r : Row) (i k : ℕ) → can r i ≡ true → can r k ≡ true → key i ≡ key k → i ≡ k) → (r : Row) (l m : List ℕ)
      → LeastFirst can key r l → LeastFirst can key r m → l ≡ m
  least-one d r [] [] p q = refl
  least-one d r [] (k ∷ m) p q = absurd (clash q.0 (p k))
  least-one d r (k ∷ l) [] p q = absurd (clash p.0 (q k))
  least-one d r (k ∷ l) (i ∷ m) p q =
      let e : k ≡ i = d r k i p.0 q.0 (omega (arith, p.1 i q.0, q.1 k p.0)) in
      let t : l ≡ m = least-one d (toggle r k) l m p.2 (rw (sym e) at q.2) in
      rw (e, t)

-- ---- two rules that allow the same

module _ (a b : Rule) (key : ℕ → ℕ) (n : ℕ) (Alike : Row → Row → Type 0)
    (same : (r s : Row) → Alike r s → (k : ℕ) → k < n → a r k ≡ b s k)
    (stays : (r s : Row) (k : ℕ) → Alike r s → a r k ≡ true → Alike (toggle r k) (toggle s k)) where
  carried : (r s : Row) → Alike r s → (f : Option ℕ) → NextIs key (a r) n f → NextIs key (b s) n f
  carried r s x None p = λ i h. sym (same r s x i h) ∙ p i h
  carried r s x (Some k) p = (p.0, sym (same r s x k p.0) ∙ p.1, λ i h t. p.2 i h (same r s x i h ∙ t))

  pub played_alike : (steps : ℕ) (r s : Row) → Alike r s → played a key n steps r ≡ played b key n steps s
  unfolding played
  played_alike zero r s x = refl
  played_alike (suc steps) r s x =
      go (next key (a r) (numbers 0 n)) (next-is key (a r) n) (next_only key (b s) n (next key (a r) (numbers 0 n)) (carried r s x (next key (a r) (numbers 0 n)) (next-is key (a r) n)))
      (λ k e. played_alike steps (toggle r k) (toggle s k) (stays r s k x e))
    where
      go : (f : Option ℕ) → NextIs key (a r) n f → f ≡ next key (b s) (numbers 0 n)
          → ((k : ℕ) → a r k ≡ true → played a key n steps (toggle r k) ≡ played b key n steps (toggle s k))
          → onward (λ k. played a key n steps (toggle r k)) f ≡ onward (λ k. played b key n steps (toggle s k)) (next key (b s) (numbers 0 n))
      go None p e later = ap (onward (λ k. played b key n steps (toggle s k))) e
      go (Some k) p e later = ap (λ (l : List ℕ). k ∷ l) (later k p.1) ∙ ap (onward (λ k. played b key n steps (toggle s k))) e

-- ---- runs of a net

pub rise_few : (key : ℕ → ℕ) (N : Net) (c X : Row) → length (rise_by key N c X) ≤ nets N
rise_few key N c X = played_few (λ r. rise_step N c r ∖ X) key (nets N) (nets N) low

pub fall_few : (key : ℕ → ℕ) (N : Net) (R X : Row) → length (fall_by key N R X) ≤ nets N
fall_few key N R X = played_few (λ r. fall_step N r ∖ X) key (nets N) (nets N) R

-- ---- what is handed out

pub handed : (v : Verdict) (run : Run) (before : List ℕ) → Handed run before (answering v run) (handed_out (switchings run) before)
unfolding handed_out
handed v run before =
    let held = holding (switchings run) before in
    record {
      rise = refl;
      count = length-append run.rise run.fall;
      room = λ h. ap (λ (b : Bool). cond b before held) (le-ltb (length before) (length (switchings run)) h);
      short = λ h. ap (λ (b : Bool). cond b before held) (lt-ltb (length before) (length (switchings run)) h);
    }
