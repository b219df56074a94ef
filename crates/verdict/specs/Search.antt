-- The least of some numbers that passes a test: what a loop over indices looks for.
use Rattle.std.specs.Prelude.{ℕ, Bool, Option}
use Rattle.verdict.specs.Words.{numbers}
use Rattle.verdict.specs.Checks.{first}

-- of m numbers from j on
abbrev pub least : (ℕ → Bool) → ℕ → ℕ → Option ℕ
least test j m = first test (numbers j m)
