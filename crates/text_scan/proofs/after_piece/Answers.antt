-- `text_scan::after_piece` meets its contract. Assumes nothing.
use Prim.Native.Nat.{ℕ, suc, ◌+◌}
use native.Mathlib.Omega.{arith}
use mathlib.Core.Path.{◌≡◌, sym, ap, ◌∙◌}
use lib.ListN.{drop}
use lib.ListN.{drop_of_length-le}
use Rattle.text_scan.specs.Pieces.{before}
use Rattle.text_scan.proofs.Pieces.{to_end}
use Rattle.text_scan.proofs.after_piece.Goals as goal

pub returns-then-s-n : goal.returns-then-s-n
returns-then-s-n c =
    let piece-len = c.piece_len-n in
    to_end c.args.s.now piece-len.result ∙ drop_of_length-le c.args.s.now {i = piece-len.result} (omega arith)
    ∙ sym (drop_of_length-le c.args.s.now {i = suc (before c.args.c c.args.s.now)} (omega (arith, piece-len.ensures.0)))

pub returns : goal.returns
returns c =
    let e : c.piece_len-n.result + 1 ≡ suc
    (before c.args.c c.args.s.now) =
    omega (arith, c.piece_len-n.ensures.0) in
    to_end c.args.s.now (c.piece_len-n.result + 1)
    ∙ ap (λ (i : ℕ). drop i c.args.s.now) e
