-- `text_lines::is_cell` meets its contract. Assumes nothing.
use Prim.Native.Nat.{ℕ, ◌+◌, ◌*◌, ◌-◌}
use native.Mathlib.Omega.{arith}
use mathlib.Core.Path.{◌≡◌, ap, ◌∙◌}
use lib.ListN.{get_or, take, drop}
use Rattle.text_spec.specs.Characters as characters
use Rattle.text_lines.proofs.is_cell.Goals as goal

pub overflow_cast-to : goal.overflow_cast-to
overflow_cast-to c = omega (arith, (c.requires.0.row c.args.k c.requires.1).short)

pub overflow_add-to : goal.overflow_add-to
overflow_add-to c = omega (arith, (c.requires.0.row c.args.k c.requires.1).short)

pub slice_bounds-same-end : goal.slice_bounds-same-end
slice_bounds-same-end c =
    omega (arith, (c.requires.0.row c.args.k c.requires.1).short, c.requires.0.long)

pub returns : goal.returns
returns c =
    let k = c.args.k in let t = c.args.table.now in
    let e : 9 * k + 1 + get_or t (9 * k) 0 - (9 * k + 1) ≡ get_or t (9 * k) 0 = omega arith in c.same.ensures
    ∙ ap (characters.same c.args.s.now) (ap (λ (m : ℕ). take m (drop (9 * k + 1) t)) e
    ∙ (c.requires.0.row k c.requires.1).name)
