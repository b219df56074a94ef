-- The text of a verdict, and that of a switching report.
use Rattle.std.specs.Prelude.{ℕ, cond, List, [], ◌∷◌, ◌++◌, map, take, eqb}
use Rattle.verdict.specs.declared.Verdict.{Verdict}
use Rattle.report_spec.specs.declared.Report.{Report}
use Rattle.text_spec.specs.Characters.{bytes_of, newline, space}
use Rattle.text_spec.specs.ToText.{join}
use Rattle.print_spec.specs.Decimal.{decimal}

-- numbers with single spaces between them
abbrev pub spaced : List ℕ → List ℕ
spaced ns = join space (map decimal ns)

abbrev pub four_numbers : Verdict → List ℕ
four_numbers v = v.number ∷ v.file ∷ v.at ∷ v.word ∷ []

abbrev pub verdict_text : Verdict → List ℕ
verdict_text v = spaced (four_numbers v)

-- "the four numbers with single spaces and a newline"
abbrev pub verdict_line : Verdict → List ℕ
verdict_line v = verdict_text v ++ (newline ∷ [])

-- ---- the report

-- "the word and the number of gates high at rest", with a character between them and one after them
abbrev pub word_text : ℕ → ℕ → ℕ → ℕ → List ℕ
word_text between after word high = decimal word ++ (between ∷ (decimal high ++ (after ∷ [])))

abbrev pub word_texts : ℕ → ℕ → List ℕ → List ℕ → List ℕ
word_texts between after [] highs = []
word_texts between after (w ∷ ws) [] = []
word_texts between after (w ∷ ws) (h ∷ hs) = word_text between after w h ++ word_texts between after ws hs

-- "`total` and a number"
abbrev pub total_text : ℕ → List ℕ
total_text total = bytes_of "total" ++ (space ∷ decimal total)

-- the words of a report in its order, "then `total` and a number"; "a refused pair prints its verdict line only"
unfoldable pub report_text : ℕ → ℕ → Report → List ℕ
report_text between after r =
    cond (eqb r.verdict.number 0)
    (word_texts between after (take r.words r.names) (take r.words r.lines) ++ total_text r.total)
    (verdict_text r.verdict)

-- "one line per word"
abbrev pub report_lines : Report → List ℕ
report_lines r = report_text space newline r ++ (newline ∷ [])
