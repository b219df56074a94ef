-- `write_lines::put_words` meets its contract. The loop's invariant: the words before this one are put. Assumes nothing.
use Prim.Native.Nat.{◌*◌}
use lib.ListN.{take}
use Rattle.write_lines.specs.Within.{PutWithin}
use Rattle.write_lines.proofs.Words.{first_pairs, pair_texts}
use Rattle.write_lines.proofs.put_words.Given as goal

abbrev pub invariant-loop-k : goal.invariant-loop-k
invariant-loop-k l = PutWithin (12 * l.k) l.initial.buffer l.start (pair_texts l.between l.after (take l.k (first_pairs l.words l.names l.highs))) l.buffer l.at
