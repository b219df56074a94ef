-- The cases of the call.
-- Assumes nothing.
use Rattle.std.proofs.Common.{◌≡◌, ℕ, ◌+◌, ◌*◌, ◌<◌, ◌≤◌, Bool, true, false, List, length, take, sym, ◌∙◌, arith, le-ltb, lt-ltb, le-leb}
use Rattle.verdict.specs.FourNumbers.{verdict, accepted}
use Rattle.verdict.specs.declared.Answer.{Answer}
use Rattle.write_command.specs.Put.{Put}
use Rattle.verdict.specs.Written.{answer_of, written, write_or}
use Rattle.write_command.proofs.Answers.{refuses, answers_short, answers_copied}
use Rattle.draw_spec.specs.Drawn.{drawn_reference, drawn_bytes, in_range, drawn}
use Rattle.draw_spec.specs.Demand.{DrawnDemand}
use Rattle.draw_spec.proofs.Answers.{drawn_demand}

-- ---- 39

pub out_of_range : (seed n g : ℕ) (buffer : List ℕ) {b : Bool} {r : Answer} → b ≡ in_range n g → b ≡ false → r ≡ answer_of (verdict 39 0 0 0) 0
    → DrawnDemand seed n g buffer r buffer
unfolding drawn
out_of_range seed n g buffer e f h = drawn_demand seed n g buffer (refuses buffer h ∙ sym (rw (← e, f)))

-- ---- 40, 41 and the file

module _ (seed n g : ℕ) (buffer : List ℕ) (some : 1 ≤ n) (low : n ≤ 10) (few : g ≤ 40) where
  in_range_holds : in_range n g ≡ true
  in_range_holds = rw (le-leb 1 n some, le-leb n 10 low, le-leb g 40 few)

  -- with as many outputs as there are, a file is so long
  module _ {count : ℕ} (long : count ≡ 3 + 6 * g + 3 * length (drawn_reference seed n g).outputs) where
    pub too_many : {a : Answer} → 3 + 6 * g + 48 < count → a ≡ answer_of (verdict 40 0 0 0) 0 → written a buffer ≡ drawn seed n g buffer
    unfolding drawn
    too_many l e = refuses buffer e ∙ sym (rw (in_range_holds, lt-ltb 16 (length (drawn_reference seed n g).outputs) (omega arith)))

    not_many : ¬ (3 + 6 * g + 48 < count) → write_or (verdict 41 3 0 0) (drawn_bytes seed n g) buffer ≡ drawn seed n g buffer
    unfolding drawn
    not_many l = sym (rw (in_range_holds, le-ltb 16 (length (drawn_reference seed n g).outputs) (omega arith)))

    module _ (is : count ≡ length (drawn_bytes seed n g)) {a : Answer} (l : ¬ (3 + 6 * g + 48 < count)) where
      pub too_short : length buffer < count → a ≡ answer_of (verdict 41 3 0 0) 0 → written a buffer ≡ drawn seed n g buffer
      too_short s e = answers_short (verdict 41 3 0 0) (drawn_bytes seed n g) buffer (omega arith) e ∙ not_many l

      -- the file was made aside, and its bytes are put
      pub file_copied : {aside₀ aside after : List ℕ} → ¬ (length buffer < count) → Put aside₀ 0 (drawn_bytes seed n g) aside
          → length (drawn_bytes seed n g) ≤ length aside₀ → Put buffer 0 (take count aside) after → a ≡ answer_of accepted count
          → written a after ≡ drawn seed n g buffer
      file_copied s p room q e = answers_copied (verdict 41 3 0 0) (drawn_bytes seed n g) buffer (omega arith) room p q is e ∙ not_many l
