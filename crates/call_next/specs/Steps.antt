-- What the functions of this crate ask of one another: numbers read from a file, where a file stands in the list, and the stage after it.
use Rattle.std.specs.Prelude.{ℕ, zero, suc, ◌+◌, ◌*◌, ◌-◌, ◌≡◌, List, [], ◌∷◌, get_or, Option, Some, None}
use Rattle.check_spec.specs.Content.{Content}
use Rattle.verdict.specs.FourNumbers.{verdict}
use Rattle.verdict.specs.Written.{Written, refuse, write_or}
use Rattle.next_spec.specs.Family.{file_of, Member}
use Rattle.next_spec.specs.Numbered.{stages, stage_numbered}
use Rattle.next_spec.specs.Listing.{loop_free_from, Listed, onward}
use Rattle.call_next.specs.declared.Place.{Place}
use Rattle.call_next.specs.declared.Place.TheVariants as place

-- ---- the number that the bytes of a file show, if it is a file of the family

-- of the gate at a place, over m nets
abbrev pub gate_at : List ℕ → ℕ → ℕ → ℕ
gate_at s m at = (get_or s (at + 1) 0 - 1) * (m * m) + (get_or s (at + 2) 0 * m + get_or s (at + 4) 0)

unfoldable pub gates_at : List ℕ → ℕ → ℕ → ℕ
gates_at s m zero = 0
gates_at s m (suc zero) = gate_at s m 2
gates_at s m (suc (suc g)) = gate_at s m 2 * (2 * (m * m)) + gate_at s m 12

unfoldable pub number_in : List ℕ → ℕ → ℕ → ℕ
number_in s m g = gates_at s m g * (m * m) + (get_or s (3 + 10 * g) 0 * m + get_or s (5 + 10 * g) 0)

-- ---- places in the list

-- a file is the empty one, or that of a listed stage, or none of the family
unfoldable pub Located : List ℕ → Place → Type 0
Located s place.Start = s ≡ []
Located s (place.Stage n g z) = Listed n g z × (s ≡ file_of (stage_numbered n g z))
Located s place.Outside = (s ≡ [] → ⊥) × (Member s → ⊥)

-- the search for the next number of a shape
unfoldable pub FoundFree : ℕ → ℕ → ℕ → Option ℕ → Type 0
FoundFree n g from (Some z) = Listed n g z
    × (loop_free_from n g from (stages n g - from) ≡ stage_numbered n g z ∷ loop_free_from n g (z + 1) (stages n g - (z + 1)))
FoundFree n g from None = loop_free_from n g from (stages n g - from) ≡ []

-- the first of some stages is at a place; there is none outside
unfoldable pub First : List Content → Place → Type 0
First cs place.Start = ⊥
First cs (place.Stage n g z) = Listed n g z × (cs ≡ stage_numbered n g z ∷ onward n g (z + 1))
First cs place.Outside = cs ≡ []

unfoldable pub ListedAt : Place → Type 0
ListedAt place.Start = Unit {0}
ListedAt (place.Stage n g z) = Listed n g z
ListedAt place.Outside = Unit {0}

-- the file of the stage at a place, or 38, or 36 where there is none
unfoldable pub written_at : Place → List ℕ → Written
written_at place.Start buffer = refuse (verdict 36 1 0 0) buffer
written_at (place.Stage n g z) buffer = write_or (verdict 38 3 0 0) (file_of (stage_numbered n g z)) buffer
written_at place.Outside buffer = refuse (verdict 36 1 0 0) buffer
