-- Bytes that are put one part after the other, of which it is known how many they are at most.
-- Assumes nothing.
use Prim.Native.Nat.{ℕ, ◌+◌, ◌≤◌}
use native.Mathlib.Omega.{arith}
use mathlib.Core.Path.{◌≡◌, ap, ◌∙◌, subst}
use mathlib.Core.List.{List, [], ◌∷◌, ◌++◌}
use lib.ListN.{length, take}
use Rattle.verdict.proofs.Written.{holding_take}
use Rattle.write_command.proofs.Joining.{put_holding, put_none}
use Rattle.write_decimal.specs.Put.{PutNext}
use Rattle.write_decimal.proofs.Decimal.{next-++}
use Rattle.write_lines.specs.Within.{PutWithin}

pub within : {before after bytes : List ℕ} {at next : ℕ} (most : ℕ) → PutNext before at bytes after next → length bytes ≤ most
    → PutWithin most before at bytes after next
within most p l = record { put = p; within = omega (arith, p.end) }

-- a character
pub within_one : {before after : List ℕ} {at next b : ℕ} → PutNext before at (b ∷ []) after next → PutWithin 1 before at (b ∷ []) after next
within_one p = within 1 p (omega arith)

-- two parts
pub within-++ : {before between after xs ys : List ℕ} {at next end m n : ℕ} → PutWithin m before at xs between next → PutWithin n between next ys after end
    → PutWithin (m + n) before at (xs ++ ys) after end
within-++ p q = record { put = next-++ p.put q.put; within = omega (arith, p.within, q.within) }

-- equal bytes, and fewer than was said
pub within_same : {before after bytes bytes' : List ℕ} {at next m n : ℕ} → bytes ≡ bytes' → m ≤ n → PutWithin m before at bytes after next
    → PutWithin n before at bytes' after next
within_same {before} {after} {at = at} {next} {m} {n} e l p =
    subst (λ (s : List ℕ). PutWithin n before at s after next) e (record { put = p.put; within = omega (arith, p.within) })

-- from the start of a buffer: it begins with the text
module _ {buffer after text : List ℕ} {next : ℕ} (p : PutNext buffer 0 text after next) (room : next ≤ length buffer) where
  pub starts_with : take next after ≡ text
  starts_with =
      let e : next ≡ length text = omega (arith, p.end) in
      ap (λ (k : ℕ). take k after) e ∙ ap (take (length text)) (put_holding p.put (omega arith)) ∙ holding_take text buffer

  pub text_fits : next ≤ length after
  text_fits = omega (arith, p.put.long)

-- nothing yet
pub within_none : (buffer : List ℕ) (at : ℕ) → PutWithin 0 buffer at [] buffer at
within_none buffer at = record { put = record { put = put_none buffer at; end = omega arith }; within = omega arith }
