-- Bytes that are put, of which it is known how many they are at most.
use Rattle.std.specs.Prelude.{ℕ, ◌+◌, ◌≤◌, List}
use Rattle.write_decimal.specs.Put.{PutNext}

pub record PutWithin (most : ℕ) (before : List ℕ) (at : ℕ) (bytes after : List ℕ) (next : ℕ) : Type 0 where
  pub put : PutNext before at bytes after next
  pub within : next ≤ at + most
