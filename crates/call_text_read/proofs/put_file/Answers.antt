-- `call_text_read::put_file` meets its contract. Assumes nothing.
use native.Mathlib.Omega.{arith}
use Rattle.text_names.proofs.Ends.{first_ends}
use Rattle.call_text_read.proofs.Counting.{counted_drivers}
use Rattle.call_text_read.proofs.Making.{lines_fit, gates_counted, outputs_counted, lines_put}
use Rattle.call_text_read.proofs.put_file.Goals as goal

pub slice_bounds-piece_len-count : goal.slice_bounds-piece_len-count
slice_bounds-piece_len-count c =
    omega (arith, first_ends c.args.s.now c.requires.0.formed, c.piece_len-from.ensures.0)

pub slice_bounds-piece_len-start : goal.slice_bounds-piece_len-start
slice_bounds-piece_len-start c =
    omega (arith, first_ends c.args.s.now c.requires.0.formed, c.piece_len-from.ensures.0)

pub put_lines-outputs-requires : goal.put_lines-outputs-requires
put_lines-outputs-requires c =
    let n = c.piece_len-from in
    let m = c.piece_len in
    let put-inputs = c.put_inputs in (
      c.requires.2,
      omega (arith, counted_drivers c.requires.0, c.requires.1),
      (lines_fit c.requires.0 n.result m.result n.ensures.0 m.ensures.0).1,
      omega (arith, gates_counted c.requires.0 n.result m.result n.ensures.0 m.ensures.0, c.requires.1, c.requires.3, put-inputs.ensures.long),
    )

pub slice_bounds-put_outputs-end : goal.slice_bounds-put_outputs-end
slice_bounds-put_outputs-end c =
    let n = c.piece_len-from in
    let m = c.piece_len in
    omega (arith, lines_fit c.requires.0 n.result m.result n.ensures.0 m.ensures.0)

pub put_outputs-end-requires : goal.put_outputs-end-requires
put_outputs-end-requires c =
    let n = c.piece_len-from in
    let m = c.piece_len in
    let put-inputs = c.put_inputs in
    let put-lines = c.put_lines-outputs in (
      c.requires.2,
      omega (arith, counted_drivers c.requires.0, c.requires.1),
      omega (
        arith,
        gates_counted c.requires.0 n.result m.result n.ensures.0 m.ensures.0,
        c.requires.1,
        c.requires.3,
        put-inputs.ensures.long,
        put-lines.ensures,
      ),
    )

pub put_end-requires : goal.put_end-requires
put_end-requires c =
    let n = c.piece_len-from in
    let m = c.piece_len in
    let put-inputs = c.put_inputs in
    let put-lines = c.put_lines-outputs in
    let put-outputs = c.put_outputs-end in
    omega (
      arith,
      gates_counted c.requires.0 n.result m.result n.ensures.0 m.ensures.0,
      outputs_counted c.requires.0 n.result m.result n.ensures.0 m.ensures.0,
      c.requires.1,
      c.requires.3,
      put-inputs.ensures.long,
      put-lines.ensures,
      put-outputs.ensures,
    )

pub returns : goal.returns
returns c =
    let n = c.piece_len-from in
    let m = c.piece_len in
    let put-inputs = c.put_inputs in
    let put-lines = c.put_lines-outputs in
    let put-outputs = c.put_outputs-end in
    let put-end = c.put_end in
    lines_put c.requires.0 n.result m.result n.ensures.0 m.ensures.0 put-inputs.ensures put-lines.ensures put-outputs.ensures
    put-end.ensures
