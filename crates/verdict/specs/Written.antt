-- What a call that writes leaves: its verdict, how many bytes it wrote, and the buffer that its caller lent.
use Rattle.std.specs.Prelude.{ℕ, cond, List, ◌++◌, length, drop, ltb}
use Rattle.verdict.specs.declared.Verdict.{Verdict}
use Rattle.verdict.specs.FourNumbers.{accepted}
use Rattle.verdict.specs.declared.Answer.{Answer}

-- a buffer with some bytes at its start; what stands past their end keeps its value
abbrev pub holding : List ℕ → List ℕ → List ℕ
holding bytes buffer = bytes ++ drop (length bytes) buffer

pub record Written : Type 0 where
  pub verdict : Verdict
  pub count : ℕ
  pub buffer : List ℕ

-- what a call answers, with the buffer after it
abbrev pub answer_of : Verdict → ℕ → Answer
answer_of v count = record { verdict = v; count = count }

abbrev pub written : Answer → List ℕ → Written
written r buffer = record { verdict = r.verdict; count = r.count; buffer = buffer }

-- a refusal writes nothing
abbrev pub refuse : Verdict → List ℕ → Written
refuse v buffer = record { verdict = v; count = 0; buffer = buffer }

-- some bytes at the start of the buffer
abbrev pub write : List ℕ → List ℕ → Written
write bytes buffer = record { verdict = accepted; count = length bytes; buffer = holding bytes buffer }

-- the same, or a refusal where the buffer is too short for them
unfoldable pub write_or : Verdict → List ℕ → List ℕ → Written
write_or short bytes buffer = cond (ltb (length buffer) (length bytes)) (refuse short buffer) (write bytes buffer)
