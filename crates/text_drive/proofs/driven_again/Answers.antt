-- `text_drive::driven_again` meets its contract. Assumes nothing.
use Prim.Native.Nat.{ℕ, ◌+◌, ◌-◌}
use native.Mathlib.Omega.{arith}
use mathlib.Core.Path.{refl, sym, ap, ◌∙◌}
use lib.ListN.{length, take, drop}
use Rattle.text_spec.specs.Characters.{newline}
use Rattle.text_scan.specs.Pieces.{before}
use Rattle.text_names.proofs.Ends.{first_ends}
use Rattle.text_drive.proofs.Again.{again_inputs, again_asks, again_gates}
use Rattle.text_drive.proofs.driven_again.Goals as goal

pub rails_again-requires : goal.rails_again-requires
rails_again-requires c = (
  c.requires.0,
  c.requires.1,
  ap (λ (k : ℕ). take k c.args.s.now) c.piece_len-n.ensures.0,
)

pub returns-then-rails_again : goal.returns-then-rails_again
returns-then-rails_again c =
    let piece-len = c.piece_len-n in
    let s = c.args.s.now in let n = piece-len.result in
    again_inputs s c.requires.0 n (before newline (take (length s - (n + 1)) (drop (n + 1) s))) piece-len.ensures.0 refl
    (sym c.rails_again.ensures ∙ c.if-rails_again.true)

pub slice_bounds-piece_len-count : goal.slice_bounds-piece_len-count
slice_bounds-piece_len-count c =
    let piece-len = c.piece_len-n in
    omega (arith, first_ends c.args.s.now c.requires.0, piece-len.ensures.0)

pub slice_bounds-piece_len-start : goal.slice_bounds-piece_len-start
slice_bounds-piece_len-start c =
    let piece-len = c.piece_len-n in
    omega (arith, first_ends c.args.s.now c.requires.0, piece-len.ensures.0)

pub gates_again-requires : goal.gates_again-requires
gates_again-requires c =
    let piece-len = c.piece_len-n in
    let a = again_asks c.args.s.now c.requires.0 piece-len.result c.piece_len.result piece-len.ensures.0 c.piece_len.ensures.0
    c.args.rails c.requires.2 in (c.requires.0, c.requires.1, a.0, a.1, a.2, a.3, a.4)

pub returns : goal.returns
returns c =
    let piece-len = c.piece_len-n in
    let rails-again = c.rails_again in
    let if1 = c.if-rails_again in
    c.gates_again.ensures
    ∙ again_gates c.args.s.now c.requires.0 piece-len.result c.piece_len.result piece-len.ensures.0
    c.piece_len.ensures.0 c.args.rails c.requires.2 (sym rails-again.ensures ∙ if1.false)
