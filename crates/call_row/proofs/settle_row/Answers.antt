-- `call_row::settle_row` meets its contract. Assumes nothing.
use Prim.Native.Nat.{ℕ, ◌≤◌}
use mathlib.Core.Path.{sym, ap, subst, ◌∙◌}
use mathlib.Core.List.{List}
use lib.ListN.{length, get_or}
use Rattle.call_row.proofs.Settling.{part_long, first_long, first_copied, first_bits, row_settled}
use Rattle.call_row.proofs.settle_row.Goals as goal

pub slice_bounds-settle_part-end : goal.slice_bounds-settle_part-end
slice_bounds-settle_part-end c =
    let e = first_copied c.args.counts c.args.row.now c.requires.2 _ _ c.copy_from_slice.ensures.after in
    sym (ap length e ∙ first_long c.args.counts c.args.row.now c.requires.2)

pub settle_part-requires : goal.settle_part-requires
settle_part-requires c =
    let n = c.args.counts in
    let e = first_copied n c.args.row.now c.requires.2 _ _ c.copy_from_slice.ensures.after in (
      c.requires.0,
      c.requires.1,
      ap length e ∙ first_long n c.args.row.now c.requires.2,
      (λ p. subst (λ (l : List ℕ). get_or l p 0 ≤ 1) (sym e) (first_bits n c.args.row.now c.requires.2 c.requires.3 p)),
      part_long n c.args.row.now c.requires.2,
    )

pub returns : goal.returns
returns c =
    let e = first_copied c.args.counts c.args.row.now c.requires.2 _ _ c.copy_from_slice.ensures.after in
    row_settled c.args.counts c.args.row.now c.requires.2 c.args.code.now _ _ e c.settle_part.ensures
