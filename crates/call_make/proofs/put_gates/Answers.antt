-- `call_make::put_gates` meets its contract. The loop's invariant: the gates before gate k are made. Assumes nothing.
use native.Mathlib.Omega.{arith}
use Rattle.call_make.proofs.Building.{made_start, made_room, made_turn, done_count, done_put, done_rails}
use Rattle.call_make.proofs.put_gates.Goals as goal

pub loop-k-init : goal.loop-k-init
loop-k-init c = made_start _ _ c.requires.1 _ _ c.requires.3

pub put_gate-made-requires : goal.put_gate-made-requires
put_gate-made-requires c =
    let t = c.loop-k.invariant in
    let room = made_room _ _ t (omega arith) in
    (c.requires.0, omega arith, omega (arith, c.requires.2, t.long), omega (arith, room, c.requires.4), omega (arith, room, c.requires.5, t.put.long))

pub loop-k-preserved : goal.loop-k-preserved
loop-k-preserved c =
    let e = c.put_gate-made.ensures in
    made_turn _ _ c.loop-k.invariant c.requires.0 (omega arith) c.requires.2 e.count e.put e.rails

pub shape_of-buffer : goal.shape_of-buffer
shape_of-buffer c = c.loop-k.invariant.put.long

pub shape_of-rails : goal.shape_of-rails
shape_of-rails c = c.loop-k.invariant.long

pub returns : goal.returns
returns c =
    let t = c.loop-k.invariant in
    record { count = done_count _ _ t (omega arith); put = done_put _ _ t (omega arith); rails = (done_rails _ _ t (omega arith), t.long) }
