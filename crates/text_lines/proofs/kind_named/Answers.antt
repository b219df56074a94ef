-- `text_lines::kind_named` meets its contract. Assumes nothing.
use Prim.Native.Nat.{ℕ, ◌+◌}
use native.Mathlib.Omega.{arith}
use mathlib.Core.Path.{◌≡◌, sym, ap, ◌∙◌}
use lib.ListN.{drop}
use Rattle.text_spec.specs.Characters.{cell_named}
use Rattle.text_scan.proofs.Pieces.{to_end}
use Rattle.text_lines.proofs.LineForms.{kind_none, kind_hold, kind_relaxed, kind_unknown}
use Rattle.text_lines.proofs.kind_named.Goals as goal

pub returns-then-s-lt1 : goal.returns-then-s-lt1
returns-then-s-lt1 c = kind_none c.args.s.now (omega arith)

pub returns-then-relaxed-eq0 : goal.returns-then-relaxed-eq0
returns-then-relaxed-eq0 c =
    let e : c.cell_named-relaxed.result ≡ cell_named (drop 1 c.args.s.now) =
    c.cell_named-relaxed.ensures.0 ∙ ap cell_named (to_end c.args.s.now 1) in
    kind_unknown c.args.s.now (omega arith) (omega arith) (sym e ∙ c.if-relaxed-eq0.true)

pub returns-then-s-eq114 : goal.returns-then-s-eq114
returns-then-s-eq114 c =
    let e : c.cell_named-relaxed.result ≡ cell_named (drop 1 c.args.s.now) =
    c.cell_named-relaxed.ensures.0 ∙ ap cell_named (to_end c.args.s.now 1) in
    ap (λ (k : ℕ). 128 + k) e
    ∙ kind_relaxed c.args.s.now (omega arith) (omega arith) (λ z. c.if-relaxed-eq0.false (e ∙ z))

pub returns : goal.returns
returns c = c.cell_named.ensures.0 ∙ kind_hold c.args.s.now (omega arith) c.if-s-eq114.false
