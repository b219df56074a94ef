-- `lane_screen::mark_outputs` meets its contract. The loop's invariant: what is marked beyond the start are rails of outputs. Assumes nothing.
use Prim.Native.Nat.{◌<◌}
use native.Mathlib.Omega.{arith}
use mathlib.Core.Path.{sym, ap, ◌∙◌}
use mathlib.Core.Bool.{true, false}
use Rattle.netlist.specs.Content.{Pair}
use Rattle.circuit.specs.declared.form.Rails.{Rails}
use Rattle.lane_settle.specs.Block.{net_in}
use Rattle.lane_screen.proofs.Outputs.{output_at, length_outputs, outputs_more}
use Rattle.lane_screen.proofs.mark_outputs.Goals as goal

pub loop-j-preserved : goal.loop-j-preserved
loop-j-preserved c =
    let l = c.loop-j in
    let first = c.mark in
    let second = c.mark-in-loop-j in
    let rails = c.rails_of-rails.ensures.is in
    let N = net_in c.args.counts c.args.code.now in
    let there : l.j < N.outputs = omega (arith, length_outputs c.args.counts c.args.code.now) in
    let pair = output_at c.args.counts c.args.code.now l.j (omega arith) in
    outputs_more N c.args.ack.now first.new.ack
    (outputs_more N c.args.ack.now l.ack l.invariant l.j false _ _ first.new.ack there
    (ap (λ (p : Pair). p.rail0) pair ∙ sym (ap (λ (r : Rails). r.rail0) rails)) first.ensures.0 first.ensures.1)
    l.j true _ _ second.new.ack there (ap (λ (p : Pair). p.rail1) pair ∙ sym (ap (λ (r : Rails). r.rail1) rails)) second.ensures.0 second.ensures.1
