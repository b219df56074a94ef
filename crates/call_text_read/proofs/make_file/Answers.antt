-- `call_text_read::make_file` meets its contract. Assumes nothing.
use native.Mathlib.Omega.{arith}
use mathlib.Core.Path.{sym, ap, ◌∙◌}
use Prim.Native.Nat.{ℕ}
use mathlib.Core.List.{List}
use lib.Seq.{length-take-le}
use Rattle.text_read.specs.Parts.{made_leaves}
use Rattle.call_text_read.specs.Counted.{saying}
use Rattle.call_text_read.proofs.Making.{cut_fits, made_alike, put_taken}
use Rattle.call_text_read.proofs.make_file.Goals as goal

pub slice_bounds-work-end : goal.slice_bounds-work-end
slice_bounds-work-end c =
    omega (arith, c.put_file-count.ensures.0, cut_fits c.requires.0 c.requires.1)

pub slice_bounds-put_read-end : goal.slice_bounds-put_read-end
slice_bounds-put_read-end c =
    sym (length-take-le _ _ (omega (arith, c.put_file-count.ensures.0, cut_fits c.requires.0 c.requires.1)))

pub returns : goal.returns
returns c =
    let t = saying c.args.s.now in
    let put = c.put_file-count.ensures in
    c.put_read.ensures
    ∙ ap (λ (l : List ℕ). made_leaves l c.args.buffer.now) (put_taken t _ put.0 put.1 (omega (arith, cut_fits c.requires.0 c.requires.1)))
    ∙ made_alike t c.args.buffer.now
