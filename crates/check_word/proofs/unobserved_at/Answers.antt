-- `check_word::unobserved_at` meets its contract: no gate before g in the order is g, so those have the levels that they are to have with g
-- held low. Assumes nothing.
use native.Mathlib.Omega.{arith}
use Prim.Native.Nat.{ℕ, ◌+◌, ◌<◌}
use mathlib.Core.Path.{◌≡◌, ap, sym, ◌∙◌}
use mathlib.Core.List.{List, ◌++◌}
use lib.ListN.{length, take, length-append}
use lib.Seq.{take-length, length-take-le}
use Rattle.circuit.proofs.Settling.{copied_row, copied_nets}
use Rattle.check_word.proofs.Holding.{unobserved_low, unobserved_high, hold_before, rails_same, settled_same}
use Rattle.check_word.proofs.unobserved_at.Goals as goal

-- the row as a list that was copied whole, before what stood behind it
copied : {a t : List ℕ} (rest : List ℕ) → a ≡ t → a ++ rest ≡ take (length t) t ++ rest
copied {t = t} rest e = ap (λ (l : List ℕ). l ++ rest) (e ∙ sym (take-length t))

-- it is as long as what was copied, and more
longer : {a : List ℕ} (rest row : List ℕ) (n : ℕ) → a ≡ take (n + 1) row → n < length row → n < length (a ++ rest)
longer {a = a} rest row n e h = omega (arith, length-append a rest, ap length e, length-take-le (n + 1) row (omega arith))

pub returns-then-row-first-eq0 : goal.returns-then-row-first-eq0
returns-then-row-first-eq0 c =
    unobserved_low c.args.counts c.args.code.now c.args.row.now c.requires.1 c.requires.2 c.requires.3 c.args.g c.requires.4
    c.if-row-first-eq0.true _

pub settle_from-requires : goal.settle_from-requires
settle_from-requires c =
    let w = c.requires.0.within in
    let e = copied _ c.copy_from_slice.ensures.after in
    let r = copied_row c.args.counts c.args.row.now _ _ c.requires.2 (longer _ _ _ c.copy_from_slice.ensures.after (omega (arith, c.requires.2.long))) e in
    let n = copied_nets c.args.counts c.args.row.now _ _ c.requires.2 (longer _ _ _ c.copy_from_slice.ensures.after (omega (arith, c.requires.2.long))) e in (
      c.requires.0,
      c.requires.1,
      r,
      rw c.place_of-start.ensures
          (hold_before c.args.counts c.args.code.now _ c.requires.1 r
          (settled_same c.args.counts c.args.code.now c.args.row.now c.requires.3 _ n) c.args.g c.requires.4),
    )

pub returns : goal.returns
returns c =
    let w = c.requires.0.within in
    let n = copied_nets c.args.counts c.args.row.now _ _ c.requires.2 (longer _ _ _ c.copy_from_slice.ensures.after (omega (arith, c.requires.2.long)))
    (copied _ c.copy_from_slice.ensures.after) in
    unobserved_high c.args.counts c.args.code.now c.args.row.now c.requires.1 c.requires.2 c.requires.3 c.args.g c.requires.4
    c.if-row-first-eq0.false _ _ _
    (rails_same c.args.counts c.args.code.now c.args.row.now c.requires.3 _ n) _ c.settle_from.ensures.settled
    c.all_data.ensures
