-- `text_names::scan_place` meets its contract. Assumes nothing.
use lib.ListN.{length, length-drop}
use Prim.Native.Nat.{ℕ, suc, ◌+◌}
use native.Mathlib.Omega.{arith}
use mathlib.Core.Path.{refl, sym, ap, ap₂, ◌∙◌}
use lib.ListN.{take, drop}
use lib.Seq.{length-take-le}
use Rattle.text_spec.specs.Characters.{newline}
use Rattle.text_spec.specs.FromText.{net}
use Rattle.text_scan.specs.Pieces.{before}
use Rattle.text_names.specs.Tailed.{tailed, rails_in, nets_in}
use Rattle.text_names.proofs.Ends.{first_ends}
use Rattle.text_names.proofs.Driven.{drivers_text, net_in_holds, net_out}
use Rattle.text_names.proofs.scan_place.Goals as goal

pub slice_bounds-find_rail-end : goal.slice_bounds-find_rail-end
slice_bounds-find_rail-end c = sym (length-take-le _ _ c.piece_len-n.ensures.1)

pub find_rail-rail-requires : goal.find_rail-rail-requires
find_rail-rail-requires c =
    let l = length-take-le c.piece_len-n.result c.args.s.now c.piece_len-n.ensures.1 in
    omega (arith, l, first_ends c.args.s.now c.requires, c.piece_len-n.ensures.0)

pub slice_bounds-rail_among-end : goal.slice_bounds-rail_among-end
slice_bounds-rail_among-end c = sym (length-take-le _ _ c.piece_len-n.ensures.1)

pub returns-then-rail_among : goal.returns-then-rail_among
returns-then-rail_among c =
    let piece-len = c.piece_len-n in
    let find-rail = c.find_rail-rail in
    let s = c.args.s.now in let x = tailed c.args.a.now c.args.t in let r = drop (suc (before newline s)) s in let n = piece-len.result in
    find-rail.ensures.0
    ∙ sym (net_in_holds x (rails_in (take n s)) (nets_in (drop (suc (before newline r)) r)) (sym c.rail_among.ensures ∙ c.if-rail_among.true))
    ∙ ap (net x) (drivers_text s r (drop (suc (before newline r)) r) n piece-len.ensures.0 refl refl)

pub overflow_add-result : goal.overflow_add-result
overflow_add-result c =
    let piece-len = c.piece_len-n in
    let find-rail = c.find_rail-rail in
    let after-piece = c.after_piece-rest in
    let s = c.args.s.now in let r = after-piece.result.now in let u = c.after_piece.result.now in let n = piece-len.result in
    let cut = length-take-le n s piece-len.ensures.1 in let size-r = length-drop (suc (before newline s)) s in
    let size-u = length-drop (suc (before newline r)) r in let first = first_ends s c.requires in
    omega (
      arith,
      cut,
      size-r,
      size-u,
      first,
      ap length after-piece.ensures,
      ap length c.after_piece.ensures,
      find-rail.ensures.1,
      c.find_gate.ensures.1,
      piece-len.ensures.0,
    )

pub returns : goal.returns
returns c =
    let piece-len = c.piece_len-n in
    let find-rail = c.find_rail-rail in
    let rail-among = c.rail_among in
    let if1 = c.if-rail_among in
    let after-piece = c.after_piece-rest in
    let s = c.args.s.now in let x = tailed c.args.a.now c.args.t in let r = after-piece.result.now in
    let u = c.after_piece.result.now in let n = piece-len.result in
    ap₂ {C = ℕ} (λ i j. i + j) find-rail.ensures.0 c.find_gate.ensures.0
    ∙ sym (net_out x (rails_in (take n s)) (nets_in u) (sym rail-among.ensures ∙ if1.false))
    ∙ ap (net x) (drivers_text s r u n piece-len.ensures.0 after-piece.ensures c.after_piece.ensures)
