-- `call_report::write_lines` meets its contract. The loop's invariant: the lines of the names before name k are written, and their sum is known.
-- Assumes nothing.
use Prim.Native.Nat.{ℕ}
use native.Mathlib.Omega.{arith}
use mathlib.Core.Path.{sym, ap, subst, ◌∙◌}
use lib.ListN.{get_or}
use Rattle.call_report.specs.Lines.{lines_by, LinesTo}
use Rattle.call_report.proofs.Lines.{lines_start, lines_more, lines_done, named_below, named_long, named_at}
use Rattle.call_report.proofs.write_lines.Goals as goal

pub loop-k-init : goal.loop-k-init
loop-k-init c =
    subst (λ l. LinesTo (lines_by c.args.order c.args.inputs c.args.high.now c.args.list.now) 0 l 0) (sym c.requires.4) (lines_start _)

pub offset_bounds-high-w : goal.offset_bounds-high-w
offset_bounds-high-w c =
    let l = c.loop-k in
    omega (arith, c.word_of-w.ensures, named_below c.args.order c.args.inputs c.args.list.now c.requires.1 l.k (omega arith), c.requires.2)

pub bounds-high-w : goal.bounds-high-w
bounds-high-w c =
    let l = c.loop-k in
    omega (arith, c.word_of-w.ensures, named_below c.args.order c.args.inputs c.args.list.now c.requires.1 l.k (omega arith), c.requires.2)

pub loop-k-preserved : goal.loop-k-preserved
loop-k-preserved c =
    let l = c.loop-k in
    let order = c.args.order in
    let n = c.args.inputs in
    let long = named_long order n c.args.high.now c.args.list.now in
    let is = ap (λ (w : ℕ). get_or c.args.high.now w 0) c.word_of-w.ensures ∙ sym (named_at order n c.args.high.now c.args.list.now l.k (omega arith)) in
    lines_more _ (omega (arith, c.requires.3, long)) l.k _ _ l.invariant (omega (arith, long)) _ is (omega (arith, (c.type_inv.high c.word_of-w.result).fits))

pub returns : goal.returns
returns c =
    let l = c.loop-k in
    let long = named_long c.args.order c.args.inputs c.args.high.now c.args.list.now in
    lines_done _ (omega (arith, c.requires.3, long)) l.k _ _ l.invariant (omega (arith, long))
