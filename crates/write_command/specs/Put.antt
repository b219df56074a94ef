-- Bytes that are put into a buffer.
use Rattle.std.specs.Prelude.{ℕ, ◌≡◌, List, length}
use Rattle.std.proofs.lemmas.List.Edits.{sets}
use Rattle.netlist.specs.Content.{Coded}

-- after some bytes were stored one after the other, from a place of a buffer on: it has them there, and all else as before
pub record Put (before : List ℕ) (at : ℕ) (bytes after : List ℕ) : Type 0 where
  pub stored : after ≡ sets before at bytes
  pub long : length after ≡ length before

-- a gate command's kind or operation, with its operands
abbrev pub coded : ℕ → List ℕ → Coded
coded code operands = record { code = code; operands = operands }
