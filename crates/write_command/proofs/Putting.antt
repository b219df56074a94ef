-- A loop that puts items of one sort, one after the other: the k-th where the k before it end.
-- Assumes nothing.
use Prim.Native.Nat.{ℕ, ◌+◌, ◌*◌, ◌≤◌, ◌<◌}
use native.Mathlib.Omega.{arith}
use native.Mathlib.Nat.{mul-add, mul-one}
use native.Mathlib.Numerals.{add-one}
use mathlib.Core.Path.{◌≡◌, refl, sym, ap, ◌∙◌, subst}
use mathlib.Core.List.{List, ◌∷◌}
use lib.ListN.{length, drop, drop_of_length-le}
use lib.Seq.{drop-cons}
use Rattle.netlist.specs.declared.File.{File}
use Rattle.netlist.specs.Writing.{Item, write_item}
use Rattle.verdict.specs.Graph.{tabulate}
use Rattle.verdict.proofs.Graph.{length_tabulate, get_d_tabulate}
use Rattle.write_command.specs.Put.{Put}
use Rattle.write_command.specs.Parts.{bytes_of}
use Rattle.write_command.proofs.Files.{bytes_length}
use Rattle.write_command.proofs.Items.{ItemsLeft, items_all, items_room, items_put, items_done}

-- equal bytes
pub put_same : {before after bytes bytes' : List ℕ} {at : ℕ} → bytes ≡ bytes' → Put before at bytes after → Put before at bytes' after
put_same {before} {after} {bytes} {bytes'} {at} e p = subst (λ (l : List ℕ). Put before at l after) e p

next_place : (w k at : ℕ) → at + w * (k + 1) ≡ at + w * k + w
next_place w k at = let e : w * (k + 1) ≡ w * k + w * 1 = mul-add w k 1 in let o : w * 1 ≡ w = mul-one w in omega arith

-- k of some items are put, each of width w
pub record PutTo {X : Type 0} (f : File) (item : X → Item) (w : ℕ) (xs : List X) (buffer₀ : List ℕ) (at : ℕ) (buffer : List ℕ) (k : ℕ) : Type 0 where
  pub most : k ≤ length xs
  pub items : ItemsLeft f item buffer₀ at xs buffer (at + w * k) (drop k xs)

module _ {X : Type 0} (f : File) (item : X → Item) (w : ℕ) (width : (x : X) → length (write_item f (item x)) ≡ w) (g : ℕ → X) (m : ℕ) where
  next : (k : ℕ) → k < m → drop k (tabulate g m) ≡ g k ∷ drop (k + 1) (tabulate g m)
  next k l = rw (add-one k, drop-cons (tabulate g m) k (g 0) (omega (arith, length_tabulate g m)), get_d_tabulate g m k (g 0) l)

  pub put-start : (buffer₀ : List ℕ) (at : ℕ) → at + w * m ≤ length buffer₀ → PutTo f item w (tabulate g m) buffer₀ at buffer₀ 0
  put-start buffer₀ at room = record {
    most = omega (arith, length_tabulate g m);
    items = items_all (omega arith) refl (omega (arith, bytes_length f item w width (tabulate g m) ∙ ap (λ (n : ℕ). w * n) (length_tabulate g m)));
  }

  pub put_room : {buffer₀ buffer : List ℕ} {at k : ℕ} → PutTo f item w (tabulate g m) buffer₀ at buffer k → k < m → at + w * k + w ≤ length buffer
  put_room {k = k} p l = omega (arith, items_room p.items (next k l), width (g k))

  pub put_more : {buffer₀ buffer after : List ℕ} {at k : ℕ} → PutTo f item w (tabulate g m) buffer₀ at buffer k → k < m → Put buffer (at + w * k) (write_item f (item (g k))) after →
      PutTo f item w (tabulate g m) buffer₀ at after (k + 1)
  put_more {at = at} {k} p l q = record {
    most = omega (arith, length_tabulate g m);
    items = items_put p.items (next k l) q (next_place w k at ∙ ap (λ (n : ℕ). at + w * k + n) (sym (width (g k))));
  }

  pub put-done : {buffer₀ buffer : List ℕ} {at k : ℕ} → PutTo f item w (tabulate g m) buffer₀ at buffer k → m ≤ k → Put buffer₀ at (bytes_of f item (tabulate g m)) buffer
  put-done {k = k} p l = items_done p.items (drop_of_length-le (tabulate g m) {i = k} (omega (arith, length_tabulate g m)))
