-- A verdict by its four numbers, acceptance, and what checks find.
use Rattle.std.specs.Prelude.{ℕ, Result}
use Rattle.verdict.specs.declared.Verdict.{Verdict}

abbrev pub verdict : ℕ → ℕ → ℕ → ℕ → Verdict
verdict number file at word = record { number = number; file = file; at = at; word = word }

abbrev pub accepted : Verdict
accepted = verdict 0 0 0 0

-- what a check finds, or the first of several checks that finds something: its least fault, or none
abbrev pub Finding : Type 0
Finding = Result (Unit {0}) Verdict
