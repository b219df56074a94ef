-- What is said of a drawn reference, and of the call that writes it.
use Rattle.std.specs.Prelude.{ℕ, ◌≡◌, ◌⊎◌, List, take}
use Rattle.netlist.specs.declared.File.TheVariants.{Reference}
use Rattle.netlist.specs.Reading.{reference_limits}
use Rattle.verdict.specs.declared.Answer.{Answer}
use Rattle.verdict.specs.Written.{written}
use Rattle.check_spec.specs.Cases.{verdict, accepted, judge}
use Rattle.check_spec.specs.Verdicts.{reading}
use Rattle.check_spec.specs.Demands.{Pass}
use Rattle.make_spec.specs.Make.{reference_read, make_checks_on}
use Rattle.draw_spec.specs.Drawn.{drawn_reference, drawn}

-- "Every such file is readable, and M-107 never meets refusal 25 on it." The bytes read as the reference that was drawn. Where a stage is made of them,
-- for a buffer of any length, the answer is never 25: the stage is made, or 27 says that the buffer is too short for it.
pub record Makeable (seed n g : ℕ) (bytes : List ℕ) : Type 0 where
  pub readable : Pass (reading Reference reference_limits bytes) × (reference_read bytes ≡ drawn_reference seed n g)
  pub never_25 : (room : ℕ) → ¬ ((judge (make_checks_on bytes room)).number ≡ 25)
  pub made : (room : ℕ) → (judge (make_checks_on bytes room) ≡ accepted) ⊎ (judge (make_checks_on bytes room) ≡ verdict 27 3 0 0)

-- What is said of the call, by the buffer, its answer and the buffer after it: the answer and every byte are those defined, and where it accepts, the
-- bytes at the start of the buffer, as many as it says, are such a file.
pub record DrawnDemand (seed n g : ℕ) (buffer : List ℕ) (r : Answer) (after : List ℕ) : Type 0 where
  pub answer : written r after ≡ drawn seed n g buffer
  pub makeable : r.verdict.number ≡ 0 → Makeable seed n g (take r.count after)
