-- `drivers::is_rail` meets its contract. Assumes nothing.
use Prim.Native.Nat.{◌-◌}
use native.Mathlib.Omega.{arith}
use mathlib.Core.Path.{sym, ◌∙◌}
use lib.ListN.{length}
use lib.Seq.{length-take-le}
use Rattle.text_names.proofs.Driven.{rail_short, rail_mark, rail_digit, rail_rest}
use Rattle.text_names.proofs.is_rail.Goals as goal

pub returns-then-len-lt2 : goal.returns-then-len-lt2
returns-then-len-lt2 c =
    rail_short c.args.x.now c.args.name.now c.args.digit (omega arith)

pub returns-then-x-n-ne95 : goal.returns-then-x-n-ne95
returns-then-x-n-ne95 c =
    rail_mark c.args.x.now c.args.name.now c.args.digit (omega arith) c.if-x-n-ne95.true

pub returns-then-x-n : goal.returns-then-x-n
returns-then-x-n c =
    rail_digit c.args.x.now c.args.name.now c.args.digit (omega arith) c.if-x-n.true

pub slice_bounds-same-end : goal.slice_bounds-same-end
slice_bounds-same-end c =
    sym (length-take-le (length c.args.x.now - 2) c.args.x.now (omega arith))

pub returns : goal.returns
returns c =
    let if2 = c.if-x-n-ne95 in
    let if3 = c.if-x-n in
    c.same.ensures ∙ rail_rest c.args.x.now c.args.name.now c.args.digit (omega arith) if2.false if3.false
