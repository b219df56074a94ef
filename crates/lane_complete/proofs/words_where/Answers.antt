-- `lane_complete::words_where` meets its contract. The loop's invariant: the words in which the first j outputs pass are gathered. Assumes nothing.
use Prim.Native.Nat.{ℕ}
use native.Mathlib.Omega.{arith}
use mathlib.Core.Path.{◌≡◌, sym, ap, ap₂, ◌∙◌}
use lib.ListN.{get_or}
use lib.Bits.{bit_and}
use Rattle.circuit.specs.declared.form.Rails.{Rails}
use Rattle.lane_complete.specs.Rows.{passing}
use Rattle.lane_complete.proofs.Outputs.{passing-suc, passing-zero}
use Rattle.lane_complete.proofs.words_where.Goals as goal

pub loop-j-init : goal.loop-j-init
loop-j-init g c f h = sym (passing-zero f _ _ _)

pub loop-j-preserved : goal.loop-j-preserved
loop-j-preserved g c f h =
    let row = c.args.row.now in
    let is = c.rails_of-rails.ensures.is in
    let zero_lanes = c.lanes_at-rail0.ensures ∙ ap (λ (r : Rails). get_or row r.rail0 0) is in
    let one_lanes = c.lanes_at-rail1.ensures ∙ ap (λ (r : Rails). get_or row r.rail1 0) is in
    ap₂ (λ (a b : ℕ). bit_and a b) (c.loop-j.invariant f h) (h _ _ _ c.test-words.ensures ∙ ap₂ f zero_lanes one_lanes)
    ∙ sym (passing-suc f c.args.counts c.args.code.now row c.loop-j.j)

pub returns : goal.returns
returns g c f h =
    let l = c.loop-j in
    let e : l.j ≡ c.args.counts.outputs = omega arith in
    l.invariant f h ∙ ap (passing f c.args.counts c.args.code.now c.args.row.now) e
