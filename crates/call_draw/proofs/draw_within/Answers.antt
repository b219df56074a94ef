-- `call_draw::draw_within` meets its contract. Assumes nothing.
use Rattle.std.proofs.Common.{ℕ, length, sym, arith, length-take-le}
use lib.ListN.{length-replicate}
use Rattle.write_command.proofs.Answers.{part_room}
use Rattle.call_draw.proofs.Call.{too_many, too_short, file_copied}
use Rattle.call_draw.proofs.draw_within.Goals as goal

pub returns-then-gates-count : goal.returns-then-gates-count
returns-then-gates-count c =
    let a = c.args in
    too_many a.seed a.inputs a.gates a.buffer.now c.requires.0 c.requires.1 c.requires.2 c.put_file-count.ensures.count.1
    c.if-gates-count.true c.refused_by.ensures

pub returns-then-buffer-count : goal.returns-then-buffer-count
returns-then-buffer-count c =
    let a = c.args in
    let e = c.put_file-count.ensures.count in
    too_short a.seed a.inputs a.gates a.buffer.now c.requires.0 c.requires.1 c.requires.2 e.1 e.0
    (λ l. omega (arith, c.if-gates-count.false)) c.if-buffer-count.true c.refused_by-then-buffer-count.ensures

pub slice_bounds-put_bytes-end : goal.slice_bounds-put_bytes-end
slice_bounds-put_bytes-end c =
    let e = c.put_file-count.ensures in
    sym (length-take-le _ _ (omega (arith, e.count.2, e.put.long, length-replicate {A = ℕ} 393 0)))

pub put_bytes-requires : goal.put_bytes-requires
put_bytes-requires c =
    let y = c.put_file-count in
    part_room y.new.buffer y.result (length c.args.buffer.now)
    (omega (arith, y.ensures.count.2, y.ensures.put.long, length-replicate {A = ℕ} 393 0)) (omega (arith, c.if-buffer-count.false))

pub returns : goal.returns
returns c =
    let a = c.args in
    let e = c.put_file-count.ensures in
    file_copied a.seed a.inputs a.gates a.buffer.now c.requires.0 c.requires.1 c.requires.2 e.count.1 e.count.0
    (λ l. omega (arith, c.if-gates-count.false))
    (λ l. omega (arith, c.if-buffer-count.false)) e.put
    (omega (arith, e.count.0, e.count.2, length-replicate {A = ℕ} 393 0)) c.put_bytes.ensures c.wrote.ensures
