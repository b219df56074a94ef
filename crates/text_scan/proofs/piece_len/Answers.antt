-- `text_scan::piece_len` meets its contract: the place that `position` finds is how many bytes stand before c. Assumes nothing.
use native.Mathlib.Omega.{arith}
use mathlib.Core.Logic.{◌≢◌}
use mathlib.Core.Path.{◌≡◌, ◌∙◌}
use Rattle.std.proofs.Common.{rules, tests}
use Rattle.std.proofs.lemmas.Iterator.{YieldsList-from_slice, IsFirst-from_position}
use Rattle.text_scan.specs.Pieces.{before}
use Rattle.text_scan.proofs.Pieces.{before_first, before_length}
use Rattle.text_scan.proofs.piece_len.Goals as goal

pub returns : goal.returns
returns c =
    let s = c.args.s.now in let d = c.args.c in
    let e : c.unwrap_or.result ≡ before d s =
    c.unwrap_or.ensures
    ∙ before_first d s c.position.result
    (IsFirst-from_position _ _ c.position.result (λ b. b ≡ d) (λ b. b ≢ d) c.position.ensures.ran (YieldsList-from_slice s (cc)) (λ x q k. search (rules, tests))
    (λ x q k. search (rules, tests))) in
    (e, omega (arith, e, before_length d s))
