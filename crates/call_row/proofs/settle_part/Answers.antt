-- `call_row::settle_part` meets its contract. Assumes nothing.
use mathlib.Core.Path.{◌≡◌, refl, ap}
use mathlib.Core.List.{List, ◌++◌}
use Prim.Native.Nat.{ℕ}
use lib.ListN.{length, drop, replicate}
use Rattle.circuit.specs.Rows.{row_size}
use Rattle.call_row.proofs.Settling.{rails_row, rails_part, part_settled}
use Rattle.call_row.proofs.settle_part.Goals as goal

-- the rails were copied before low levels
copied : (rails copy : List ℕ) → copy ≡ rails → copy ++ drop (length rails) (replicate row_size 0) ≡ rails ++ drop (length rails) (replicate row_size 0)
copied rails copy e = ap (λ (l : List ℕ). l ++ drop (length rails) (replicate row_size 0)) e

pub settle-requires : goal.settle-requires
settle-requires c = (
  c.requires.0,
  c.requires.1,
  rails_row c.args.counts c.requires.0.within c.args.rails.now _ c.requires.2 c.requires.3 (copied _ _ c.copy_from_slice.ensures.after),
)

pub returns : goal.returns
returns c =
    let s = c.settle.ensures in
    let rails = rails_part c.args.counts c.requires.0.within c.args.rails.now _ c.requires.2 c.requires.3 (copied _ _ c.copy_from_slice.ensures.after) in
    part_settled c.args.counts c.args.code.now c.args.rails.now _ _ s.row c.requires.2 rails s.settled _ _ refl refl _ c.copy_from_slice-2.ensures.after
