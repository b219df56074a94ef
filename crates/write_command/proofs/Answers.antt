-- What a call answers that writes its bytes, or refuses where the buffer is too short for them.
-- Assumes nothing.
use Prim.Native.Nat.{ℕ, ◌+◌, ◌≤◌, ◌<◌}
use native.Mathlib.Omega.{arith}
use mathlib.Core.Path.{◌≡◌, ap, ◌∙◌}
use mathlib.Core.List.{List}
use lib.ListN.{length, take}
use lib.Seq.{length-take-le}
use borrow.Author.Tests.{lt-ltb, le-ltb}
use Rattle.verdict.specs.declared.Verdict.{Verdict}
use Rattle.verdict.specs.Verdicts.{accepted}
use Rattle.verdict.specs.declared.Answer.{Answer}
use Rattle.write_command.specs.Put.{Put}
use Rattle.verdict.specs.Written.{answer_of, written, refuse, write_or}
use Rattle.write_command.proofs.Joining.{put_holding}
use Rattle.verdict.proofs.Written.{holding_take}

-- a refusal
pub refuses : {v : Verdict} {a : Answer} (buffer : List ℕ) → a ≡ answer_of v 0 → written a buffer ≡ refuse v buffer
refuses buffer e = ap (λ (a : Answer). written a buffer) e

module _ (short : Verdict) (bytes buffer : List ℕ) where
  pub answers_short : {a : Answer} → length buffer < length bytes → a ≡ answer_of short 0 → written a buffer ≡ write_or short bytes buffer
  unfolding write_or
  answers_short l e = rw (lt-ltb (length buffer) (length bytes) l, e)

  pub answers_written : {a : Answer} {after : List ℕ} {count : ℕ} → length bytes ≤ length buffer → Put buffer 0 bytes after
      → count ≡ length bytes → a ≡ answer_of accepted count → written a after ≡ write_or short bytes buffer
  unfolding write_or
  answers_written l p n e = rw (le-ltb (length buffer) (length bytes) l, put_holding p l, e, n)

  -- the bytes were made aside, and are copied
  pub answers_copied : {a : Answer} {aside₀ aside after : List ℕ} {count : ℕ} → length bytes ≤ length buffer → length bytes ≤ length aside₀
      → Put aside₀ 0 bytes aside → Put buffer 0 (take count aside) after → count ≡ length bytes → a ≡ answer_of accepted count
      → written a after ≡ write_or short bytes buffer
  answers_copied {aside₀ = aside₀} {aside} l room p q n e =
      let t = ap (λ (k : ℕ). take k aside) n ∙ ap (take (length bytes)) (put_holding p room) ∙ holding_take bytes aside₀ in
      answers_written l (rw t at q) n e

-- there is room to copy the first bytes of a list to
pub part_room : (l : List ℕ) (count room : ℕ) → count ≤ length l → count ≤ room → 0 + length (take count l) ≤ room
part_room l count room h k = omega (arith, length-take-le count l h)
