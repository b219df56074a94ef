-- What a buffer holds after a call that writes: its bytes first, and past them what stood there.
-- Assumes nothing.
use Prim.Native.Nat.{ℕ, ◌≤◌, ◌<◌}
use native.Mathlib.Omega.{arith}
use mathlib.Core.Path.{◌≡◌}
use mathlib.Core.List.{List}
use lib.ListN.{length, take, drop, length-append, length-drop}
use lib.Seq.{take-append_seam}
use borrow.Author.Tests.{lt-ltb, le-ltb}
use Rattle.verdict.specs.declared.Verdict.{Verdict}
use Rattle.verdict.specs.Written.{holding, refuse, write, write_or}

-- what is held stands first
pub holding_take : (bytes buffer : List ℕ) → take (length bytes) (holding bytes buffer) ≡ bytes
holding_take bytes buffer = take-append_seam bytes (drop (length bytes) buffer)

-- and the buffer keeps its length
pub holding_length : (bytes buffer : List ℕ) → length bytes ≤ length buffer → length (holding bytes buffer) ≡ length buffer
holding_length bytes buffer room = omega (arith, length-append bytes (drop (length bytes) buffer), length-drop (length bytes) buffer)

-- the bytes that are counted are those that were to be written
pub write_take : (bytes buffer : List ℕ) → take (write bytes buffer).count (write bytes buffer).buffer ≡ bytes
write_take bytes buffer = holding_take bytes buffer

-- they are written where there is room for them, and only there
module _ (short : Verdict) (bytes buffer : List ℕ) where
  pub write_or_fits : length bytes ≤ length buffer → write_or short bytes buffer ≡ write bytes buffer
  unfolding write_or
  write_or_fits h = rw (le-ltb (length buffer) (length bytes) h)

  pub write_or_short : length buffer < length bytes → write_or short bytes buffer ≡ refuse short buffer
  unfolding write_or
  write_or_short h = rw (lt-ltb (length buffer) (length bytes) h)
