-- Numbers in decimal, digit by digit.
-- Assumes nothing.
use Prim.Native.Nat.{ℕ, zero, suc, ◌+◌, ◌/◌, ◌%◌, ◌^◌, ◌≤◌, ◌<◌}
use native.Mathlib.Omega.{arith}
use mathlib.Core.Path.{◌≡◌, sym, ap, ◌∙◌, subst}
use mathlib.Core.Bool.{Bool, true, false, cond}
use mathlib.Core.List.{List, [], ◌∷◌, ◌++◌}
use lib.ListN.{length, length-append}
use lib.Dec.{ltb}
use borrow.Author.Tests.{lt-ltb, le-ltb}
use Rattle.text_spec.specs.ToText.{digits}
use Rattle.write_command.proofs.Joining.{put-++}
use Rattle.print_spec.specs.Decimal.{decimal}
use Rattle.write_decimal.specs.Put.{PutNext}

-- a number that has at most k digits
abbrev Short : ℕ → ℕ → Type 0
Short zero n = n ≡ 0
Short (suc k) n = Short k (n / 10)

short_below : (k n : ℕ) → n < 10 ^ k → Short k n
short_below zero n l = omega arith
short_below (suc k) n l = short_below k (n / 10) (omega arith)

-- how many digits are allowed changes nothing
digits_same : (j k n : ℕ) → Short (suc j) n → Short (suc k) n → digits (suc j) n ≡ digits (suc k) n
digits_same zero k n h h' = let l : n < 10 = omega arith in rw (lt-ltb n 10 l)
digits_same (suc j) zero n h h' = let l : n < 10 = omega arith in rw (lt-ltb n 10 l)
digits_same (suc j) (suc k) n h h' = ap (λ (l : List ℕ). cond (ltb n 10) ((48 + n) ∷ []) (l ++ ((48 + n % 10) ∷ []))) (digits_same j k (n / 10) h h')

-- ---- a number below 2 ^ 64

pub decimal_one : (n : ℕ) → n < 10 → decimal n ≡ (48 + n) ∷ []
unfolding decimal
decimal_one n l = rw (lt-ltb n 10 l)

pub decimal_more : (n : ℕ) → 10 ≤ n → n < 2 ^ 64 → decimal n ≡ decimal (n / 10) ++ ((48 + n % 10) ∷ [])
unfolding decimal
decimal_more n l h =
    rw (le-ltb n 10 l)
    (ap (λ (d : List ℕ). d ++ ((48 + n % 10) ∷ []))
    (digits_same 18 19 (n / 10) (short_below 19 (n / 10) (omega arith)) (short_below 20 (n / 10) (omega arith))))

-- a number that is small has few digits
pub decimal_small : (k n : ℕ) → n < 10 ^ suc k → n < 2 ^ 64 → decimal n ≡ digits (suc k) n
unfolding decimal
decimal_small k n l h = digits_same 19 k n (short_below 20 n (omega arith)) (short_below (suc k) n l)

digits_long : (k n : ℕ) → length (digits k n) ≤ k
digits_long zero n = omega arith
digits_long (suc k) n = go (ltb n 10) (digits_long k (n / 10))
  where
    go : (one : Bool) → length (digits k (n / 10)) ≤ k → length (cond one ((48 + n) ∷ []) (digits k (n / 10) ++ ((48 + n % 10) ∷ []))) ≤ suc k
    go true l = omega arith
    go false l = omega (arith, length-append (digits k (n / 10)) ((48 + n % 10) ∷ []))

-- how long it is: any number, and a small one
pub decimal_long : (n : ℕ) → length (decimal n) ≤ 20
unfolding decimal
decimal_long n = digits_long 20 n

pub decimal_short : (k n : ℕ) → n < 10 ^ suc k → n < 2 ^ 64 → length (decimal n) ≤ suc k
decimal_short k n l h = rw (decimal_small k n l h) (digits_long (suc k) n)

-- ---- two parts

pub next-++ : {before between after : List ℕ} {at next end : ℕ} {xs ys : List ℕ} → PutNext before at xs between next → PutNext between next ys after end →
    PutNext before at (xs ++ ys) after end
next-++ {xs = xs} {ys} p q = record { put = put-++ p.put q.put p.end; end = omega (arith, p.end, q.end, length-append xs ys) }

pub next_same : {before after bytes bytes' : List ℕ} {at next : ℕ} → bytes ≡ bytes' → PutNext before at bytes after next → PutNext before at bytes' after next
next_same {before} {after} {at = at} {next} e p = subst (λ (l : List ℕ). PutNext before at l after next) e p

-- ---- a number, put digit by digit

module _ (n at : ℕ) (buffer : List ℕ) (room : at + length (decimal n) ≤ length buffer) where
  module _ (l : n < 10) where
    pub one_room : at + 1 ≤ length buffer
    one_room = omega (arith, ap length (decimal_one n l))

    pub one_put : {after : List ℕ} {next : ℕ} → PutNext buffer at ((48 + n) ∷ []) after next → PutNext buffer at (decimal n) after next
    one_put p = next_same (sym (decimal_one n l)) p

  module _ (l : 10 ≤ n) (h : n < 2 ^ 64) where
    more_long : length (decimal n) ≡ length (decimal (n / 10)) + 1
    more_long = ap length (decimal_more n l h) ∙ length-append (decimal (n / 10)) ((48 + n % 10) ∷ [])

    pub front_room : at + length (decimal (n / 10)) ≤ length buffer
    front_room = omega (arith, more_long)

    pub last_room : {between : List ℕ} {next : ℕ} → PutNext buffer at (decimal (n / 10)) between next → next + 1 ≤ length between
    last_room p = omega (arith, more_long, p.put.long, p.end)

    pub more_put : {between after : List ℕ} {next end : ℕ} → PutNext buffer at (decimal (n / 10)) between next
        → PutNext between next ((48 + n % 10) ∷ []) after end
        → PutNext buffer at (decimal n) after end
    more_put p q = next_same (sym (decimal_more n l h)) (next-++ p q)
