-- Small pipelines and what 33 to 35 find in them, by computation: the number and the register, or 0 0. The first three show decisions: a level goes by the
-- highest source, even of a register that is fed unequally itself; 34 at a later register comes before 35 at an earlier one; and a register that reaches
-- none may have no Ko behind its Ki, not even one of the next level. The others are from an independent program. And what registers come to as wires.
use Rattle.std.specs.Prelude.{ℕ, ◌≡◌, refl, List, [], ◌∷◌, map}
use Rattle.verdict.specs.Lists as l
use Rattle.verdict.specs.Checks as c
use Rattle.verdict.specs.Verdicts as g
use Rattle.wiring_spec.specs.Parts as p
use Rattle.wiring_spec.specs.Parts.{Part, register, element, Pipeline}
use Rattle.wiring_spec.specs.Wiring as w
use Rattle.wiring_spec.specs.Wires as x
use Rattle.wiring_spec.specs.Table as t

abbrev pub Finding : Type 0
Finding = ℕ × ℕ

pub record Example : Type 0 where
  pub pipeline : Pipeline
  pub expected : Finding

-- a register with its data and its Ki, and a C-element
abbrev r : ℕ → ℕ → ℕ → Part
r a b k = register (record { data0 = a; data1 = b; ki = k })

abbrev e : List ℕ → Part
e = element

abbrev example : ℕ → List (List ℕ) → List Part → ℕ → ℕ → Example
example n gates parts number at = record { pipeline = record { inputs = n; gates = gates; parts = parts }; expected = (number, at) }

unfoldable pub found : Pipeline → Finding
found q = let v = g.verdict_of (c.first_fault (t.wiring_checks q)) in (v.number, v.at)

unfoldable pub examples : List Example
examples =
    example 1 ([]) (r 5 9 0xFFFE ∷ r 0 9 4 ∷ r 0 1 7 ∷ []) 33 0 ∷
    example 1 ([]) (r 0 1 0 ∷ r 0 1 0xFFFE ∷ r 5 6 0xFFFE ∷ []) 34 1 ∷
    example 1 ([]) (r 0 1 7 ∷ r 2 3 0xFFFE ∷ r 0 1 7 ∷ []) 35 2 ∷
    example 1 ((6 ∷ 1 ∷ []) ∷ (9 ∷ 9 ∷ []) ∷ (15 ∷ 9 ∷ []) ∷ []) (r 0 1 7 ∷ r 5 6 16 ∷ r 0 1 16 ∷ r 0 1 0xFFFE ∷ []) 34 0 ∷
    example 1 ([]) (e (7 ∷ 10 ∷ 7 ∷ 10 ∷ []) ∷ e (2 ∷ 7 ∷ 3 ∷ 4 ∷ []) ∷ e (3 ∷ 2 ∷ []) ∷ r 0 1 10 ∷ r 5 6 4 ∷ []) 33 1 ∷
    example 1 ([]) (r 0 1 7 ∷ r 2 3 10 ∷ e (7 ∷ 4 ∷ 7 ∷ []) ∷ e (4 ∷ 7 ∷ []) ∷ e (7 ∷ 4 ∷ []) ∷ []) 35 1 ∷
    example 1 ((0 ∷ 0 ∷ []) ∷ (0 ∷ 2 ∷ []) ∷ []) (r 0 1 0xFFFE ∷ r 2 2 0xFFFE ∷ []) 0 0 ∷
    example 1 ((6 ∷ 0 ∷ []) ∷ (1 ∷ 1 ∷ []) ∷ (2 ∷ 0 ∷ []) ∷ []) (r 0 1 8 ∷ e (7 ∷ 7 ∷ []) ∷ []) 35 0 ∷
    example 1 ((1 ∷ 1 ∷ []) ∷ (0 ∷ 0 ∷ []) ∷ (0 ∷ 0 ∷ []) ∷ [])
    (r 0 1 14 ∷ e (11 ∷ 7 ∷ []) ∷ r 5 6 14 ∷ r 0 1 15 ∷ e (11 ∷ 14 ∷ []) ∷ []) 34 0 ∷
    example 2 ((2 ∷ 3 ∷ []) ∷ (12 ∷ 2 ∷ []) ∷ [])
    (e (10 ∷ 10 ∷ 10 ∷ 13 ∷ []) ∷ e (10 ∷ 13 ∷ []) ∷ r 5 8 13 ∷ r 8 11 0xFFFE ∷ e (0 ∷ 0 ∷ 0 ∷ []) ∷ []) 33 0 ∷
    example 1 ((5 ∷ 9 ∷ []) ∷ (0 ∷ 2 ∷ []) ∷ (2 ∷ 2 ∷ []) ∷ []) (r 0 1 13 ∷ r 5 6 7 ∷ r 3 2 7 ∷ []) 33 2 ∷
    example 1 ([]) (e (6 ∷ 6 ∷ 6 ∷ []) ∷ e (6 ∷ 2 ∷ []) ∷ r 0 1 3 ∷ []) 35 0 ∷
    example 1 ([]) (r 0 1 7 ∷ r 0 1 0xFFFE ∷ []) 35 0 ∷
    example 1 ([]) (r 0 1 4 ∷ r 0 1 11 ∷ e (4 ∷ 4 ∷ []) ∷ r 5 6 0xFFFE ∷ e (11 ∷ 11 ∷ 11 ∷ []) ∷ e (4 ∷ 4 ∷ 11 ∷ []) ∷ []) 35 0 ∷
    example 2 ((2 ∷ 0 ∷ []) ∷ (11 ∷ 4 ∷ []) ∷ (17 ∷ 10 ∷ []) ∷ []) (r 5 4 12 ∷ r 0 1 0xFFFE ∷ r 7 8 18 ∷ r 13 14 0xFFFE ∷ []) 33 0 ∷
    example 1 ((8 ∷ 7 ∷ []) ∷ (10 ∷ 1 ∷ []) ∷ (2 ∷ 1 ∷ []) ∷ [])
    (e (3 ∷ 4 ∷ []) ∷ e (12 ∷ 12 ∷ 9 ∷ 9 ∷ []) ∷ r 0 1 12 ∷ r 4 4 13 ∷ e (5 ∷ 6 ∷ 13 ∷ 12 ∷ []) ∷ []) 33 1 ∷
    example 1 ([]) (r 0 1 4 ∷ r 2 3 4 ∷ r 0 1 0xFFFE ∷ []) 34 0 ∷
    example 1 ([]) (r 0 1 7 ∷ r 2 3 0xFFFE ∷ []) 0 0 ∷
    example 1 ([]) (r 0 1 4 ∷ r 2 3 0xFFFE ∷ []) 34 0 ∷
    example 1 ([]) (r 0 1 0xFFFE ∷ []) 0 0 ∷
    example 1 ((1 ∷ 5 ∷ []) ∷ (5 ∷ 6 ∷ []) ∷ []) (e (10 ∷ 10 ∷ []) ∷ r 0 1 7 ∷ r 5 6 4 ∷ e (10 ∷ 10 ∷ []) ∷ e (7 ∷ 10 ∷ []) ∷ []) 34 0 ∷
    example 2 ((11 ∷ 3 ∷ []) ∷ (13 ∷ 10 ∷ []) ∷ (2 ∷ 2 ∷ []) ∷ []) (r 2 3 12 ∷ r 7 8 15 ∷ r 10 11 0xFFFE ∷ []) 0 0 ∷
    []

-- two registers in a row: their rails come from those of the input, and any other net is its own
pub row_resolved : map (x.resolve (record { inputs = 1; gates = []; parts = r 0 1 7 ∷ r 2 3 0xFFFE ∷ [] })) (l.numbers 0 8) ≡ 0 ∷ 1 ∷ 0 ∷ 1 ∷ 4 ∷ 0 ∷ 1 ∷ 7 ∷ []
unfolding l.numbers p.registers_of p.register_count p.data_of p.part_drivers p.drivers p.driver_of x.wire_of x.times x.resolve
row_resolved = refl

pub examples_found : map (λ (i : Example). found i.pipeline) examples ≡ map (λ (i : Example). i.expected) examples
unfolding examples found c.first c.at_fault c.sweep c.finding c.or_later c.first_fault g.verdict_of t.wiring_checks l.numbers l.select l.some l.reaches
    p.registers_of p.register_count p.data_of p.ki_of p.part_drivers p.drivers p.driver_of p.all_nets w.through_gate w.opened w.is_input w.is_rail_of
    w.data_from w.reaches w.from_input w.sources w.reaches_itself w.highest w.level_within w.level w.is_ko_of w.behind w.is_loop w.circular w.uneven w.missing
    w.foreign w.bars w.barred
examples_found = refl
