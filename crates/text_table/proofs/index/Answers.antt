-- `text_table::index` meets its contract. Assumes nothing.
use Prim.Native.Nat.{◌+◌, ◌-◌}
use native.Mathlib.Omega.{arith}
use mathlib.Core.Path.{refl, sym}
use lib.ListN.{length, take, drop}
use lib.Seq.{length-take-le}
use Rattle.text_spec.specs.Characters.{newline}
use Rattle.text_scan.specs.Pieces.{before}
use Rattle.text_names.proofs.Ends.{first_ends, lines_inside}
use Rattle.text_table.proofs.Whole.{driver_count, rail_count, full_made}
use Rattle.text_table.proofs.index.Goals as goal

pub slice_bounds-index_rails-end : goal.slice_bounds-index_rails-end
slice_bounds-index_rails-end c = sym (length-take-le _ _ c.piece_len-n.ensures.1)

pub index_rails-requires : goal.index_rails-requires
index_rails-requires c =
    let piece-len = c.piece_len-n in
    let s = c.args.s.now in
    let n = piece-len.result in
    omega (
      arith,
      c.requires.2,
      driver_count s c.requires.0 n (before newline (take (length s - (n + 1)) (drop (n + 1) s))) piece-len.ensures.0 refl,
    )

pub slice_bounds-piece_len-count : goal.slice_bounds-piece_len-count
slice_bounds-piece_len-count c =
    let piece-len = c.piece_len-n in
    omega (arith, first_ends c.args.s.now c.requires.0, piece-len.ensures.0)

pub slice_bounds-piece_len-start : goal.slice_bounds-piece_len-start
slice_bounds-piece_len-start c =
    let piece-len = c.piece_len-n in
    omega (arith, first_ends c.args.s.now c.requires.0, piece-len.ensures.0)

pub index_gates-requires : goal.index_gates-requires
index_gates-requires c =
    let piece-len = c.piece_len-n in
    let index-rails = c.index_rails in (
      (lines_inside c.args.s.now c.requires.0 piece-len.result c.piece_len.result piece-len.ensures.0
          c.piece_len.ensures.0).1,
      omega (
        arith,
        c.requires.1,
        c.requires.2,
        index-rails.ensures.1,
        driver_count c.args.s.now c.requires.0 piece-len.result c.piece_len.result piece-len.ensures.0
            c.piece_len.ensures.0,
        rail_count c.args.s.now c.requires.0 piece-len.result c.piece_len.result piece-len.ensures.0
            c.piece_len.ensures.0,
      ),
    )

pub returns : goal.returns
returns c =
    let piece-len = c.piece_len-n in
    let index-rails = c.index_rails in
    let piece-len2 = c.piece_len in
    let index-gates = c.index_gates in
    let link = c.link in
    full_made c.args.s.now c.requires.0 piece-len.result piece-len2.result piece-len.ensures.0 piece-len2.ensures.0
    c.args.table.now _ _ _ c.args.rails _ c.requires.1 c.requires.2 index-rails.ensures.0 index-rails.ensures.1 index-gates.ensures.0
    index-gates.ensures.1 refl link.ensures
