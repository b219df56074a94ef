-- Levels that are fixed by a rule that looks at a gate's pins alone: in a stage without loops no others are.
-- Assumes nothing.
use Prim.Native.Nat.{ℕ, zero, suc, ◌+◌, ◌-◌, ◌*◌, ◌<◌}
use native.Mathlib.Omega.{arith}
use native.Mathlib.Decide.{dec_lt}
use mathlib.Core.Path.{◌≡◌, sym, ap, ◌∙◌, subst}
use mathlib.Core.List.{List, ◌++◌}
use lib.ListN.{length, get_or, length-append, get_or-eq_default, get_or-append}
use lib.Seq.{get_or-append-add, ext_get_or}
use lib.Dec.{ltb}
use Rattle.netlist.specs.Content.{Gate}
use Rattle.verdict.specs.Rows.{high}
use Rattle.verdict.specs.Loops.{In, pins_at, LoopFree}
use Rattle.verdict.proofs.Reaching.{rank_of, rank_pin}

-- the level that gate k is to have in a row depends on its pins alone
abbrev pub Local : List Gate → (List ℕ → ℕ → ℕ) → Type 0
Local gates want = (u v : List ℕ) (k : ℕ) → k < length gates → ((p : ℕ) → In p (pins_at gates k) → high u p ≡ high v p) → want u k ≡ want v k

-- each gate has the level that it is to have
pub record Fixed (gates : List Gate) (want : List ℕ → ℕ → ℕ) (rails levels : List ℕ) : Type 0 where
  pub long : length levels ≡ length gates
  pub at : (k : ℕ) → k < length gates → get_or levels k 0 ≡ want (rails ++ levels) k

module _ (n : ℕ) {gates : List Gate} {want : List ℕ → ℕ → ℕ} (free : LoopFree n gates) (local : Local gates want)
    {rails u v : List ℕ} (both : length rails ≡ 2 * n) (fu : Fixed gates want rails u) (fv : Fixed gates want rails v) where
  -- a net is alike in both rows if it is a rail, or the level of a gate that is
  net-alike : (p : ℕ) → ((j : ℕ) → j < length gates → p ≡ 2 * n + j → get_or u j 0 ≡ get_or v j 0) → high (rails ++ u) p ≡ high (rails ++ v) p
  net-alike p same = ap (λ (x : ℕ). ltb 0 x) (go (dec_lt p (length rails)) (dec_lt (p - length rails) (length gates)))
    where
      go : Dec (p < length rails) → Dec (p - length rails < length gates) → get_or (rails ++ u) p 0 ≡ get_or (rails ++ v) p 0
      go (yes a) b = get_or-append rails u 0 p a ∙ sym (get_or-append rails v 0 p a)
      go (no a) (yes b) =
          let e : p ≡ length rails + (p - length rails) = omega arith in
          ap (λ (x : ℕ). get_or (rails ++ u) x 0) e ∙ get_or-append-add rails u (p - length rails) 0
          ∙ same (p - length rails) b (omega arith)
          ∙ sym (ap (λ (x : ℕ). get_or (rails ++ v) x 0) e ∙ get_or-append-add rails v (p - length rails) 0)
      go (no a) (no b) = past u fu.long ∙ sym (past v fv.long)
        where
          past : (w : List ℕ) → length w ≡ length gates → get_or (rails ++ w) p 0 ≡ 0
          past w l = get_or-eq_default (rails ++ w) 0 (omega (arith, length-append rails w))

  alike_upto : (r k : ℕ) → k < length gates → rank_of n gates (2 * n + k) < r → get_or u k 0 ≡ get_or v k 0
  alike_upto zero k hk b = absurd (omega arith)
  alike_upto (suc r) k hk b =
      fu.at k hk
      ∙ local (rails ++ u) (rails ++ v) k hk (λ p i. net-alike p (λ j hj e.
      alike_upto r j hj (omega (arith, rank_pin n gates free (2 * n + j) k (subst (λ (x : ℕ). In x (pins_at gates k)) e i)))))
      ∙ sym (fv.at k hk)

  pub fixed_one : u ≡ v
  fixed_one =
      ext_get_or 0 u v (fu.long ∙ sym fv.long)
      (λ k b. alike_upto (suc (rank_of n gates (2 * n + k))) k (omega (arith, fu.long)) (omega arith))
