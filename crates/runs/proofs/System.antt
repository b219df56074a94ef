-- Systems of nets, under which the rise and the fall are one notion: a fall is a rise of the complemented row. These are notions of the proofs:
-- no statement of specs/ names them.
-- Assumes nothing.
use mathlib.Core.Path.{◌≡◌, ap}
use mathlib.Core.Bool.{true, false, not, ◌&&◌, ◌||◌}
use Prim.Native.Nat.{ℕ, ◌<◌}
use Rattle.runs.specs.Row.{Row, Rule, ◌∖◌, switch}
use Rattle.runs.specs.Theory.{◌⊑◌}
use Rattle.runs.proofs.Test.{clash, not-true, of_not, and_in, and_left, and_right}

-- A low net may rise where `up` says so, a high net may fall where `down` says so. More high nets allow more rises and fewer falls, and no
-- net may do both.
pub record System : Type 0 where
  pub size : ℕ
  pub up : Rule
  pub down : Rule
  pub up_inside : (r : Row) (k : ℕ) → up r k ≡ true → k < size
  pub down_inside : (r : Row) (k : ℕ) → down r k ≡ true → k < size
  pub up_mono : (r s : Row) → r ⊑ s → (k : ℕ) → up r k ≡ true → up s k ≡ true
  pub down_anti : (r s : Row) → r ⊑ s → (k : ℕ) → down s k ≡ true → down r k ≡ true
  pub apart : (r : Row) (k : ℕ) → up r k ≡ true → down r k ≡ false

abbrev pub can : System → Rule
can S = switch S.up S.down

-- No high net may fall.
abbrev pub Quiet : System → Row → Type 0
Quiet S r = (k : ℕ) → r k ≡ true → S.down r k ≡ false

-- Every net that may rise has risen.
abbrev pub Full : System → Row → Type 0
Full S r = (k : ℕ) → S.up r k ≡ true → r k ≡ true

-- Nothing is high without cause: it was so in s, or may rise.
abbrev pub SupportedFrom : System → Row → Row → Type 0
SupportedFrom S s r = (k : ℕ) → r k ≡ true → (s k || S.up r k) ≡ true

-- Each net is high exactly if it was so in s or may rise.
abbrev pub SettledFrom : System → Row → Row → Type 0
SettledFrom S s r = (k : ℕ) → r k ≡ (s k || S.up r k)

-- What lets a net rise stands at nets of lower rank.
pub record Ranked (S : System) : Type 0 where
  pub rank : ℕ → ℕ
  pub local : (r s : Row) (k : ℕ) → ((i : ℕ) → rank i < rank k → r i ≡ s i) → S.up r k ≡ S.up s k

-- ---- the nets of X never rise

abbrev pub mask : System → Row → System
mask S X = record {
  size = S.size;
  up = λ r. S.up r ∖ X;
  down = S.down;
  up_inside = λ r k u. S.up_inside r k (and_left (S.up r k) (not (X k)) u);
  down_inside = S.down_inside;
  up_mono = λ r s h k u. and_in (S.up s k) (not (X k)) (S.up_mono r s h k (and_left (S.up r k) (not (X k)) u)) (and_right (S.up r k) (not (X k)) u);
  down_anti = S.down_anti;
  apart = λ r k u. S.apart r k (and_left (S.up r k) (not (X k)) u);
}

abbrev pub mask_ranked : (S : System) (X : Row) → Ranked S → Ranked (mask S X)
mask_ranked S X R = record { rank = R.rank; local = λ r s k h. ap (λ u. u && not (X k)) (R.local r s k h) }

-- ---- high for low and low for high

abbrev pub complement : Row → Row
complement r k = not (r k)

pub complement-⊑ : (r s : Row) → r ⊑ s → complement s ⊑ complement r
complement-⊑ r s h k e = ap not (not-true (r k) (λ p. clash (h k p) (of_not (s k) e)))

abbrev pub dual : System → System
dual S = record {
  size = S.size;
  up = λ r k. S.down (complement r) k;
  down = λ r k. S.up (complement r) k;
  up_inside = λ r k. S.down_inside (complement r) k;
  down_inside = λ r k. S.up_inside (complement r) k;
  up_mono = λ r s h k u. S.down_anti (complement s) (complement r) (complement-⊑ r s h) k u;
  down_anti = λ r s h k u. S.up_mono (complement s) (complement r) (complement-⊑ r s h) k u;
  apart = λ r k u. not-true (S.up (complement r) k) (λ p. clash u (S.apart (complement r) k p));
}
