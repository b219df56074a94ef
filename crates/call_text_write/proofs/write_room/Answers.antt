-- `call_text_write::write_room` meets its contract. Assumes nothing.
use native.Mathlib.Omega.{arith}
use Prim.Native.Nat.{ℕ}
use mathlib.Core.Path.{sym, ap, ◌∙◌}
use mathlib.Core.List.{List}
use lib.ListN.{length, length-replicate}
use lib.Seq.{length-take-le}
use Rattle.circuit.specs.Stage.{stage_in}
use Rattle.text_spec.specs.FromText.{if_room}
use Rattle.text_spec.specs.ToText.{text_for}
use Rattle.text_spec.specs.Call.{leaves}
use Rattle.text_write.proofs.Lengths.{text_short}
use Rattle.call_text_write.proofs.Answering.{text_taken}
use Rattle.call_text_write.proofs.write_room.Goals as goal

pub put_text-count-requires : goal.put_text-count-requires
put_text-count-requires c =
    (c.requires.0, c.requires.1, c.requires.2, omega (arith, text_short c.args.counts c.args.code.now c.requires.0, length-replicate {A = ℕ} 11908 0))

pub slice_bounds-work-end : goal.slice_bounds-work-end
slice_bounds-work-end c =
    let put-text = c.put_text-count in
    omega (
      arith,
      text_short c.args.counts c.args.code.now c.requires.0,
      length-replicate {A = ℕ} 11908 0,
      put-text.ensures.put.long,
      put-text.ensures.end,
    )

pub slice_bounds-put_whole-end : goal.slice_bounds-put_whole-end
slice_bounds-put_whole-end c =
    let put-text = c.put_text-count in
    sym (length-take-le _ _ (omega (
      arith,
      text_short c.args.counts c.args.code.now c.requires.0,
      length-replicate {A = ℕ} 11908 0,
      put-text.ensures.put.long,
      put-text.ensures.end,
    )))

pub returns : goal.returns
returns c =
    let put_whole = c.put_whole in
    let put-text = c.put_text-count in
    let text = text_for (stage_in c.args.counts c.args.code.now) in
    let buffer = c.args.buffer.now in
    put_whole.ensures
    ∙ ap (λ (l : List ℕ). leaves (if_room (length buffer) l) buffer)
    (text_taken text _ put-text.ensures (omega (
      arith,
      text_short c.args.counts c.args.code.now c.requires.0,
      length-replicate {A = ℕ} 11908 0,
    )))
