-- The switching report: how many gates are high at the rest of each word, and in all words together; and what its total counts.
use Rattle.std.specs.Prelude.{ℕ, ◌+◌, ◌-◌, ◌*◌, ◌^◌, ◌≡◌, cond, not, List, [], ◌∷◌, ◌++◌, map, length, replicate, eqb, ltb}
use Rattle.gates.specs.Cell.{bit}
use Rattle.runs.specs.Row.{low, after, tally, times}
use Rattle.runs.specs.Net.{Net, rails, RiseList, RiseEnd, FallList, FallEnd}
use Rattle.verdict.specs.declared.Verdict.{Verdict}
use Rattle.verdict.specs.declared.WordOrder.{WordOrder}
use Rattle.verdict.specs.Lists.{sum}
use Rattle.check_spec.specs.Cases.{accepted}
use Rattle.check_spec.specs.Lists.{numbers}
use Rattle.check_spec.specs.Content.{Content, Files, stage_in}
use Rattle.check_spec.specs.Rows.{net_of}
use Rattle.check_spec.specs.Words.{rails_for, spelled, names, IsWord}
use Rattle.check_spec.specs.Checks.{rest}
use Rattle.check_spec.specs.Verdicts.{verdict_on}
use Rattle.report_spec.specs.declared.Report.{Report}

-- how many gates are high at the rest of word w
abbrev pub gates_high : Content → ℕ → ℕ
gates_high s w = sum (map (λ k. bit (rest s w k)) (numbers (2 * s.inputs) (length s.gates)))

-- with 0 behind the last, up to a line for each word of the most inputs
abbrev pub padded : List ℕ → List ℕ
padded l = l ++ replicate (2 ^ 10 - length l) 0

-- some words by their names, with a line for each: "the total equals the sum of the printed lines"
abbrev pub report_of : Verdict → List ℕ → List ℕ → Report
report_of v names l = record { verdict = v; words = length l; total = sum l; lines = padded l; names = padded names }

abbrev pub lines : WordOrder → Content → List ℕ
lines order s = map (λ name. gates_high s (spelled order s.inputs name)) (names order s)

-- an accepted stage has its lines, a refused pair none
unfoldable pub report_on : WordOrder → Files → Report
report_on order f =
    let v = verdict_on order f in
    let full = report_of v (names order (stage_in f)) (lines order (stage_in f)) in
    cond (eqb v.number 0) full (report_of v [] [])

-- ---- what the total counts

-- how many switchings of a list are of gates: all but those of the inputs' rails
abbrev pub gate_switchings : Net → List ℕ → ℕ
gate_switchings N l = sum (map (λ k. tally (not (ltb k (rails N))) 0) l)

-- a cycle of a word: it rises to an end, and falls from there to an end
pub record Cycle (N : Net) : Type 0 where
  pub word : ℕ
  pub rise : List ℕ
  pub rise_legal : RiseList N (rails_for word) rise
  pub rise_ended : RiseEnd N (rails_for word) rise
  pub fall : List ℕ
  pub fall_legal : FallList N (after low rise) fall
  pub fall_ended : FallEnd N (after low rise) fall

abbrev pub switchings : (N : Net) → Cycle N → ℕ
switchings N p = gate_switchings N p.rise + gate_switchings N p.fall

-- each word of the stage stands exactly once in a list, and nothing else stands in it
pub record EachWordOnce (s : Content) (list : List ℕ) : Type 0 where
  pub once : (w : ℕ) → IsWord s w → times w list ≡ 1
  pub none : (w : ℕ) → ¬ (IsWord s w) → times w list ≡ 0

-- Of a word: it has a cycle; the rise and the fall of each of its cycles switch as many gates as its line says; and it ends in the row in which
-- every cycle starts, so that another can follow.
pub record Cycled (s : Content) (w : ℕ) : Type 0 where
  pub some : (p : Cycle (net_of s)) × (p.word ≡ w)
  pub rises : (p : Cycle (net_of s)) → p.word ≡ w → gate_switchings (net_of s) p.rise ≡ gates_high s w
  pub falls : (p : Cycle (net_of s)) → p.word ≡ w → gate_switchings (net_of s) p.fall ≡ gates_high s w
  pub back : (p : Cycle (net_of s)) → p.word ≡ w → after (after low p.rise) p.fall ≡ low

-- What the report of two files means, beside that it is as defined; of an accepted pair: "it is also half of all gate switchings when each word
-- rises and falls once, in any order", of the words and of the switchings in each.
pub record ReportMeans (f : Files) (r : Report) : Type 0 where
  pub cycled : r.verdict ≡ accepted → (w : ℕ) → IsWord (stage_in f) w → Cycled (stage_in f) w
  pub half : r.verdict ≡ accepted → (cycles : List (Cycle (net_of (stage_in f))))
      → EachWordOnce (stage_in f) (map (λ (p : Cycle (net_of (stage_in f))). p.word) cycles) → sum (map (switchings (net_of (stage_in f))) cycles) ≡ 2 * r.total
