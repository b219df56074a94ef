-- Sums of the first members of a list, one more at a time or some more.
-- Assumes nothing.
use Prim.Native.Nat.{ℕ, ◌+◌, ◌<◌}
use native.Mathlib.Omega.{arith}
use native.Mathlib.Numerals.{add-one}
use mathlib.Core.Path.{◌≡◌, ap, ◌∙◌}
use mathlib.Core.List.{List, [], ◌∷◌, ◌++◌}
use lib.ListN.{length, get_or, take, drop, length-drop}
use lib.Seq.{take-suc, take-add, drop-drop, get_or-drop}
use Rattle.verdict.specs.Levels.{sum}

sum_both : (l m : List ℕ) → sum (l ++ m) ≡ sum l + sum m
sum_both [] m = omega arith
sum_both (x ∷ l) m = omega (arith, sum_both l m)

pub sum_more : (l : List ℕ) (k : ℕ) → k < length l → sum (take (k + 1) l) ≡ sum (take k l) + get_or l k 0
sum_more l k h = ap (λ (n : ℕ). sum (take n l)) (add-one k) ∙ ap sum (take-suc l k 0 h) ∙ sum_both (take k l) (get_or l k 0 ∷ []) ∙ omega arith

-- of a part that starts at a place
module _ (l : List ℕ) (from k : ℕ) where
  pub sum_part : from + k < length l → sum (take (k + 1) (drop from l)) ≡ sum (take k (drop from l)) + get_or l (from + k) 0
  sum_part h = sum_more (drop from l) k (omega (arith, length-drop from l)) ∙ ap (λ (x : ℕ). sum (take k (drop from l)) + x) (get_or-drop from l k 0)

  pub sum_parts : (n : ℕ) → sum (take (k + n) (drop from l)) ≡ sum (take k (drop from l)) + sum (take n (drop (from + k) l))
  sum_parts n = ap sum (take-add k n (drop from l)) ∙ sum_both (take k (drop from l)) (take n (drop k (drop from l)))
      ∙ ap (λ (m : List ℕ). sum (take k (drop from l)) + sum (take n m)) (drop-drop k from l)
