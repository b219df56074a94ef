-- `text_table::index_line` meets its contract. Assumes nothing.
use mathlib.Core.List.{[], ◌∷◌}
use lib.Seq.{sets}
use Rattle.text_table.specs.Table.{hash_of}
use Rattle.text_table.proofs.Tables.{in_line, net_name_holds}
use Prim.Native.Nat.{ℕ, ◌+◌, ◌*◌}
use native.Mathlib.Omega.{arith}
use mathlib.Core.Path.{ap, ◌∙◌}
use Rattle.text_table.proofs.index_line.Goals as goal

pub returns : goal.returns
returns c =
    let third-from = c.third_from-from in
    let piece-len = c.piece_len in
    let hash-on = c.hash_on in
    let put-entry = c.put_entry in
    let line = c.args.line.now in let r = third-from.result in let n = piece-len.result in
    let name = net_name_holds line r n third-from.ensures.1 piece-len.ensures.0 in
    record {
      «from» = r;
      to = r + n;
      inside = (omega arith, in_line line r n third-from.ensures.0 piece-len.ensures.1);
      name = name;
      stored = put-entry.ensures
          ∙ ap (λ (h : ℕ). sets c.args.table.now (5 * c.args.k) (h ∷ (c.args.at + r) ∷ (c.args.at + (r + n)) ∷ 0 ∷ [])) (hash-on.ensures.0
          ∙ ap hash_of name);
    }
