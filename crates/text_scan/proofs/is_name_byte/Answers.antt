-- `text_scan::is_name_byte` meets its contract: the ranges of the match are those of the definition. Assumes nothing.
use native.Mathlib.Omega.{arith}
use mathlib.Core.Path.{◌≡◌}
use mathlib.Core.Logic.{inl, inr}
use Rattle.text_scan.proofs.Pieces.{digit_name, capital_name, small_name, underscore_name, no_name}
use Rattle.text_scan.proofs.is_name_byte.Goals as goal

pub returns-in-95 : goal.returns-in-95
returns-in-95 c = underscore_name c.args.b (omega arith)

pub returns-in-48-to-57 : goal.returns-in-48-to-57
returns-in-48-to-57 c = digit_name c.args.b (omega arith) (omega arith)

pub returns-in-65-to-90 : goal.returns-in-65-to-90
returns-in-65-to-90 c = capital_name c.args.b (omega arith) (omega arith)

pub returns-in-97-to-122 : goal.returns-in-97-to-122
returns-in-97-to-122 c = small_name c.args.b (omega arith) (omega arith)

pub returns-in_default : goal.returns-in_default
returns-in_default c =
    no_name c.args.b (inl (omega arith)) (inl (omega arith)) (inl (omega arith)) (λ (e : c.args.b ≡ 95). omega arith)

pub returns-in_default-2 : goal.returns-in_default-2
returns-in_default-2 c =
    no_name c.args.b (inr (omega arith)) (inl (omega arith)) (inl (omega arith))
    (λ (e : c.args.b ≡ 95). omega arith)

pub returns-in_default-3 : goal.returns-in_default-3
returns-in_default-3 c =
    no_name c.args.b (inr (omega arith)) (inr (omega arith)) (inl (omega arith))
    (λ (e : c.args.b ≡ 95). omega arith)

pub returns-in_default-4 : goal.returns-in_default-4
returns-in_default-4 c =
    no_name c.args.b (inr (omega arith)) (inr (omega arith)) (inr (omega arith))
    (λ (e : c.args.b ≡ 95). omega arith)
