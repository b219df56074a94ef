-- `text_write::put_rail` meets its contract. Assumes nothing.
use Prim.Native.Nat.{◌+◌}
use mathlib.Core.Path.{refl}
use mathlib.Core.List.{[], ◌∷◌, ◌++◌}
use Rattle.text_spec.specs.ToText.{numbered}
use Rattle.text_write.proofs.Loops.{text_all, text_room, text_put, text_last}
use Rattle.text_write.proofs.put_rail.Goals as goal

pub put_numbered-next-requires : goal.put_numbered-next-requires
put_numbered-next-requires c =
    let i = c.args.i in
    let b = c.args.rail in
    let s = numbered c.args.letter i in
    let t0 = text_all c.args.work.now c.args.at (s ++ (95 ∷ (48 + b) ∷ [])) c.requires.2 in
    (c.requires.0, text_room t0 s (95 ∷ (48 + b) ∷ []) refl)

pub put_char-last-requires : goal.put_char-last-requires
put_char-last-requires c =
    let put-numbered = c.put_numbered-next in
    let i = c.args.i in
    let b = c.args.rail in
    let s = numbered c.args.letter i in
    let t0 = text_all c.args.work.now c.args.at (s ++ (95 ∷ (48 + b) ∷ [])) c.requires.2 in
    let t1 = text_put t0 s (95 ∷ (48 + b) ∷ []) refl put-numbered.ensures in
    text_room t1 (95 ∷ []) ((48 + b) ∷ []) refl

pub put_char-requires : goal.put_char-requires
put_char-requires c =
    let put-numbered = c.put_numbered-next in
    let put-char = c.put_char-last in
    let i = c.args.i in
    let b = c.args.rail in
    let s = numbered c.args.letter i in
    let t0 = text_all c.args.work.now c.args.at (s ++ (95 ∷ (48 + b) ∷ [])) c.requires.2 in
    let t1 = text_put t0 s (95 ∷ (48 + b) ∷ []) refl put-numbered.ensures in
    let t2 = text_put t1 (95 ∷ []) ((48 + b) ∷ []) refl put-char.ensures in
    t2.left.room

pub returns : goal.returns
returns c =
    let put-numbered = c.put_numbered-next in
    let put-char = c.put_char-last in
    let put-char2 = c.put_char in
    let i = c.args.i in
    let b = c.args.rail in
    let s = numbered c.args.letter i in
    let t0 = text_all c.args.work.now c.args.at (s ++ (95 ∷ (48 + b) ∷ [])) c.requires.2 in
    let t1 = text_put t0 s (95 ∷ (48 + b) ∷ []) refl put-numbered.ensures in
    let t2 = text_put t1 (95 ∷ []) ((48 + b) ∷ []) refl put-char.ensures in
    text_last t2 put-char2.ensures
