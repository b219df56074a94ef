-- The line that the suite prints of a stored case: its number, and what the call answered.
use Rattle.std.specs.Prelude.{ℕ, ◌+◌, ◌/◌, ◌%◌, List, [], ◌∷◌, ◌++◌}
use Rattle.verdict.specs.declared.Verdict.{Verdict}
use Rattle.report_spec.specs.declared.Report.{Report}
use Rattle.text_spec.specs.Characters.{newline, space}
use Rattle.print_spec.specs.Decimal.{decimal}
use Rattle.print_spec.specs.Lines.{verdict_text, report_text}

abbrev pub colon : ℕ
colon = 58

-- three digits and a space
abbrev pub case_number : ℕ → List ℕ
case_number i = (48 + i / 100 % 10) ∷ (48 + i / 10 % 10) ∷ (48 + i % 10) ∷ space ∷ []

abbrev pub case_start : ℕ → Verdict → List ℕ
case_start i v = case_number i ++ verdict_text v

-- numbers with a space before each, and what follows them
abbrev pub numbers_then : List ℕ → List ℕ → List ℕ
numbers_then [] end = end
numbers_then (n ∷ ns) end = space ∷ (decimal n ++ numbers_then ns end)

-- the bytes of some buffers as numbers, each buffer behind a colon, and what follows them
abbrev pub buffers_then : List (List ℕ) → List ℕ → List ℕ
buffers_then [] end = end
buffers_then (b ∷ bs) end = colon ∷ numbers_then b (buffers_then bs end)

-- the verdict, how many bytes were written to each buffer, and the buffers
abbrev pub answer_line : ℕ → Verdict → List ℕ → List (List ℕ) → List ℕ
answer_line i v counts buffers = case_start i v ++ numbers_then counts (buffers_then buffers (newline ∷ []))

-- a report in one line: each word w with n gates high at its rest is w:n
abbrev pub report_line : ℕ → Report → List ℕ
report_line i r = case_number i ++ (report_text colon space r ++ (newline ∷ []))
