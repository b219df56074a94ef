-- `text_table::third_from` meets its contract. Assumes nothing.
use native.Mathlib.Omega.{arith}
use Rattle.text_table.proofs.Tables.{third_none, third_second, third_there}
use Rattle.text_table.proofs.third_from.Goals as goal

pub returns-then-line-kind : goal.returns-then-line-kind
returns-then-line-kind c = third_none _ _ c.piece_len-kind.ensures.0 (omega arith)

pub returns-then-line-last : goal.returns-then-line-last
returns-then-line-last c =
    let piece-len = c.piece_len-kind in
    third_second _ _ _ piece-len.ensures.0 c.piece_len.ensures.0 (omega arith) c.piece_len.ensures.1 (omega arith)

pub returns : goal.returns
returns c = third_there _ _ _ c.piece_len-kind.ensures.0 c.piece_len.ensures.0 (omega arith)
