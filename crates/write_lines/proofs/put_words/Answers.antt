-- `write_lines::put_words` meets its contract. The loop's invariant: the words before this one are put. Assumes nothing.
use Prim.Native.Nat.{◌<◌}
use native.Mathlib.Omega.{arith}
use lib.ListN.{length, get_or}
use Rattle.write_lines.proofs.Words.{first_pairs, pairs_at, pairs_long, word_put, words_done}
use Rattle.write_lines.proofs.put_words.Goals as goal

pub loop-k-preserved : goal.loop-k-preserved
loop-k-preserved c =
    let words = c.args.words in let ws = c.args.names.now in let hs = c.args.highs.now in let k = c.loop-k.k in
    let long : k < length (first_pairs words ws hs) = omega (arith, pairs_long words ws hs, c.loop-k-test.true, c.min.ensures, c.min-k-end.ensures) in
    word_put c.args.between c.args.after (first_pairs words ws hs) k (get_or ws k 0, get_or hs k 0) (
      long,
      pairs_at words ws hs k (omega (arith, c.loop-k-test.true, c.min.ensures, c.min-k-end.ensures))
          (omega (arith, c.loop-k-test.true, c.min.ensures, c.min-k-end.ensures)) (omega (arith, c.loop-k-test.true, c.min-k-end.ensures)),
    )
    c.loop-k.invariant c.put_word-at.ensures

pub returns : goal.returns
returns c =
    let words = c.args.words in let ws = c.args.names.now in let hs = c.args.highs.now in
    words_done c.args.between c.args.after words ws hs c.loop-k.k
    (omega (arith, pairs_long words ws hs, c.loop-k-test.false, c.min.ensures, c.min-k-end.ensures)) c.loop-k.invariant
