-- Numbers with a space before each, put one after the other, and what follows them.
-- Assumes nothing.
use Prim.Native.Nat.{ℕ, zero, suc, ◌+◌, ◌*◌, ◌≤◌, ◌<◌}
use native.Mathlib.Omega.{arith}
use native.Mathlib.Numerals.{add-one}
use mathlib.Core.Path.{◌≡◌, refl, sym, ap, ◌∙◌}
use mathlib.Core.List.{List, [], ◌∷◌, ◌++◌, append_assoc, append-nil}
use lib.ListN.{length, get_or, take}
use lib.Seq.{take_all}
use Rattle.text_spec.specs.Characters.{space}
use Rattle.print_spec.specs.Decimal.{decimal}
use Rattle.print_spec.specs.Cases.{colon, numbers_then}
use Rattle.write_lines.specs.Within.{PutWithin}
use Rattle.write_lines.proofs.Within.{within-++, within_same}

numbers-then : (ns end : List ℕ) → numbers_then ns [] ++ end ≡ numbers_then ns end
numbers-then [] end = refl
numbers-then (n ∷ ns) end =
    ap (λ (t : List ℕ). space ∷ t)
    (append_assoc (decimal n) (numbers_then ns []) end ∙ ap (λ (t : List ℕ). decimal n ++ t) (numbers-then ns end))

numbers-next : (ns : List ℕ) (k : ℕ) → k < length ns → numbers_then (take (suc k) ns) [] ≡ numbers_then (take k ns) [] ++ (space ∷ decimal (get_or ns k 0))
numbers-next [] k l = absurd (omega arith)
numbers-next (n ∷ ns) zero l = ap (λ (t : List ℕ). space ∷ t) (append-nil (decimal n))
numbers-next (n ∷ ns) (suc k) l =
    ap (λ (t : List ℕ). space ∷ t)
    (ap (λ (t : List ℕ). decimal n ++ t) (numbers-next ns k (omega arith))
    ∙ sym (append_assoc (decimal n) (numbers_then (take k ns) []) (space ∷ decimal (get_or ns k 0))))

-- one byte more
pub byte_put : {line₀ line line' : List ℕ} {start at next : ℕ} (bytes : List ℕ) (k : ℕ) → k < length bytes
    → PutWithin (4 * k) line₀ start (numbers_then (take k bytes) []) line at
    → PutWithin 4 line at (space ∷ decimal (get_or bytes k 0)) line' next
    → PutWithin (4 * (k + 1)) line₀ start (numbers_then (take (k + 1) bytes) []) line' next
byte_put bytes k l p q = rw (add-one k) (within_same (sym (numbers-next bytes k l)) (omega arith) (within-++ p q))

-- the last one is put
pub bytes_done : {line₀ line : List ℕ} {start at : ℕ} (bytes : List ℕ) (k : ℕ) → k ≤ length bytes → length bytes ≤ k
    → PutWithin (4 * k) line₀ start (numbers_then (take k bytes) []) line at
    → PutWithin (4 * length bytes) line₀ start (numbers_then bytes []) line at
bytes_done bytes k most end p = within_same (ap (λ (l : List ℕ). numbers_then l []) (take_all k bytes end)) (omega arith) p

-- a buffer, and what follows it
pub buffer_then : {before between after end : List ℕ} {at next last m n : ℕ} (bytes : List ℕ)
    → PutWithin m before at (colon ∷ numbers_then bytes []) between next → PutWithin n between next end after last
    → PutWithin (m + n) before at (colon ∷ numbers_then bytes end) after last
buffer_then {end = end} bytes p q = within_same (ap (λ (t : List ℕ). colon ∷ t) (numbers-then bytes end)) (omega arith) (within-++ p q)
