-- `text_write::put_numbered` meets its contract. Assumes nothing.
use mathlib.Core.List.{[], ◌∷◌}
use Rattle.print_spec.specs.Decimal.{decimal}
use Rattle.text_spec.specs.ToText.{numbered}
use Rattle.text_write.proofs.Loops.{text_all, text_room, text_put, text_last}
use Rattle.text_write.proofs.Names.{numbered_parts}
use Rattle.text_write.proofs.put_numbered.Goals as goal

pub put_char-next-requires : goal.put_char-next-requires
put_char-next-requires c =
    text_room (text_all c.args.work.now c.args.at (numbered c.args.letter c.args.i) c.requires.1) (c.args.letter ∷ [])
    (decimal c.args.i) (numbered_parts c.args.letter c.args.i c.requires.0)

pub put_decimal-requires : goal.put_decimal-requires
put_decimal-requires c =
    let put-char = c.put_char-next in
    let t = text_put (text_all c.args.work.now c.args.at (numbered c.args.letter c.args.i) c.requires.1) (c.args.letter ∷ [])
    (decimal c.args.i) (numbered_parts c.args.letter c.args.i c.requires.0) put-char.ensures in
    t.left.room

pub returns : goal.returns
returns c =
    let put-char = c.put_char-next in
    let put-decimal = c.put_decimal in
    let t = text_put (text_all c.args.work.now c.args.at (numbered c.args.letter c.args.i) c.requires.1) (c.args.letter ∷ [])
    (decimal c.args.i) (numbered_parts c.args.letter c.args.i c.requires.0) put-char.ensures in
    text_last t put-decimal.ensures
