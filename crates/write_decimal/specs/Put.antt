-- Bytes that are put with the place after them answered.
use Rattle.std.specs.Prelude.{ℕ, ◌+◌, ◌≡◌, List, length}
use Rattle.write_command.specs.Put.{Put}

-- some bytes were put from a place of a buffer on, and the place after them is answered
pub record PutNext (before : List ℕ) (at : ℕ) (bytes after : List ℕ) (next : ℕ) : Type 0 where
  pub put : Put before at bytes after
  pub end : next ≡ at + length bytes
