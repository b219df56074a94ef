-- The checks that follow reading, as the rows of document 01's table, and the first fault of a list of checks.
use Rattle.std.specs.Prelude.{ℕ, ◌+◌, ◌*◌, Bool, true, false, cond, not, ◌&&◌, ◌||◌, List, [], ◌∷◌, ◌++◌, length, get_or, eqb, ltb, Option, Some, None, Ok, Err}
use Rattle.runs.specs.Row.{only}
use Rattle.netlist.specs.Content.{Stage, Reference}
pub use Rattle.verdict.specs.FourNumbers.{verdict}
use Rattle.verdict.specs.declared.WordOrder.{WordOrder}
use Rattle.verdict.specs.FourNumbers.{Finding}
use Rattle.verdict.specs.Rows.{high, with_null, settled, settled_holding, pair_in, spells, all_data, all_null}
use Rattle.verdict.specs.Loops.{reaches_itself}
use Rattle.verdict.specs.Words.{numbers, words, bits_of, rails_in, spelled, names}
use Rattle.verdict.specs.Answers.{answer}
use Rattle.verdict.specs.Nets.{output_pair, rest_row}
use Rattle.verdict.specs.Falls.{fallen_but, fallen_keeping}
use Rattle.verdict.specs.Retired.{retired_at}

-- One check: its number and its file; the words in which it looks, by name, and the places that it tries in each, in their order; whether it fails in
-- the word of a name at a place. The counts that 10, 11 and 22 give in place of a word are their one name.
pub record Check : Type 0 where
  pub number : ℕ
  pub file : ℕ
  pub words : List ℕ
  pub places : List ℕ
  pub fails : ℕ → ℕ → Bool

abbrev pub check : ℕ → ℕ → List ℕ → List ℕ → (ℕ → ℕ → Bool) → Check
check number file words places fails = record { number = number; file = file; words = words; places = places; fails = fails }

-- ---- what a check finds: "least word, then least index"

-- the first of some numbers that passes a test
unfoldable pub first : (ℕ → Bool) → List ℕ → Option ℕ
first test [] = None
first test (i ∷ is) = let later = first test is in cond (test i) (Some i) later

-- a fault in word w, at what was found there; if nothing was, what comes later
unfoldable pub at_fault : ℕ → ℕ → ℕ → Option ℕ → Finding → Finding
at_fault number file w (Some i) later = Err (verdict number file i w)
at_fault number file w None later = later

-- the first of some words in which something is found, with that
unfoldable pub sweep : ℕ → ℕ → (ℕ → Option ℕ) → List ℕ → Finding
sweep number file find [] = Ok tt
sweep number file find (w ∷ ws) = let later = sweep number file find ws in at_fault number file w (find w) later

unfoldable pub finding : Check → Finding
finding c = sweep c.number c.file (λ w. first (c.fails w) c.places) c.words

unfoldable pub or_later : Finding → Finding → Finding
or_later (Err v) later = Err v
or_later (Ok _) later = later

-- the first fault that some checks find
unfoldable pub first_fault : List Check → Finding
first_fault [] = Ok tt
first_fault (c ∷ later) = let rest = first_fault later in or_later (finding c) rest

-- ---- 13, 14 and 15 in word w, computed

-- the settled pair of output j is not the reference's DATA
unfoldable pub wrong : Stage → Reference → ℕ → ℕ → Bool
wrong s r w =
    let row = settled s.gates (rails_in s w) in
    let values = answer r (bits_of r.inputs w) in
    λ j. not (spells (pair_in row (output_pair s j)) (get_or values j 0))

-- with input i NULL, and the others as in w, all settled outputs are DATA
unfoldable pub incomplete : Stage → ℕ → ℕ → Bool
incomplete s w = let rails = rails_in s w in λ i. all_data (settled s.gates (with_null (only i) rails)) s.outputs

-- gate g is high in w, and with it held low all settled outputs are still DATA
unfoldable pub unobservable : Stage → ℕ → ℕ → Bool
unobservable s w =
    let rails = rails_in s w in
    let row = settled s.gates rails in
    λ g. elim (high row (2 * s.inputs + g)) [ true ↦ all_data (settled_holding g s.gates rails) s.outputs | false ↦ false ]

-- ---- 20 and 21 in word w, computed

-- with all inputs fallen but i and the gates settled by the fall rule, all outputs are NULL
unfoldable pub fall_incomplete : Stage → ℕ → ℕ → Bool
fall_incomplete s w i = all_null (fallen_but s w i) s.outputs

-- gate g is high in w, and with it held high, all inputs fallen and the other gates settled so, all outputs are NULL
unfoldable pub fall_unobservable : Stage → ℕ → ℕ → Bool
fall_unobservable s w =
    let row = settled s.gates (rails_in s w) in
    λ g. elim (high row (2 * s.inputs + g)) [ true ↦ all_null (fallen_keeping s w g) s.outputs | false ↦ false ]

-- ---- 32, computed

-- gate g is high at the rest of word w; it is low at the rest of each of some words
abbrev pub high_at : Stage → ℕ → ℕ → Bool
high_at s w g = rest_row s w (2 * s.inputs + g)

unfoldable pub low_in : Stage → ℕ → List ℕ → Bool
low_in s g [] = true
low_in s g (w ∷ ws) = let later = low_in s g ws in cond (high_at s w g) false later

-- gate g rises in no care word
abbrev pub never_rises : Stage → ℕ → Bool
never_rises s g = low_in s g (words s)

-- ---- the tables

abbrev pub unequal : ℕ → ℕ → ℕ → Check
unequal number mine theirs = check number 0 (theirs ∷ []) (mine ∷ []) (λ w i. not (eqb mine theirs))

abbrev pub looped : Stage → Check
looped s = check 12 1 (0 ∷ []) (numbers 0 (length s.gates)) (λ w. reaches_itself s.inputs s.gates)

abbrev pub retired : Stage → Check
retired s = check 28 1 (0 ∷ []) (numbers 0 (length s.gates)) (λ w. retired_at s.gates)

abbrev pub idle : Stage → Check
idle s = check 32 1 (0 ∷ []) (numbers 0 (length s.gates)) (λ w. never_rises s)

-- a check that sweeps the words of a stage by name: under a name it looks at the word which that spells
abbrev pub sweeping : WordOrder → Stage → ℕ → ℕ → List ℕ → (ℕ → ℕ → Bool) → Check
sweeping order s number file places fails = check number file (names order s) places (λ name. fails (spelled order s.inputs name))

-- the checks of a stage against a reference that sweep the words: those of its rise and those of its fall
unfoldable pub rise_sweeps : WordOrder → Stage → Reference → List Check
rise_sweeps order s r =
    sweeping order s 13 1 (numbers 0 (length s.outputs)) (wrong s r) ∷
    sweeping order s 14 1 (numbers 0 s.inputs) (incomplete s) ∷
    sweeping order s 15 1 (numbers 0 (length s.gates)) (unobservable s) ∷
    []

unfoldable pub fall_sweeps : WordOrder → Stage → Reference → List Check
fall_sweeps order s r =
    sweeping order s 20 1 (numbers 0 s.inputs) (fall_incomplete s) ∷
    sweeping order s 21 1 (numbers 0 (length s.gates)) (fall_unobservable s) ∷
    []

abbrev pub sweeps : WordOrder → Stage → Reference → List Check
sweeps order s r = rise_sweeps order s r ++ fall_sweeps order s r

-- the checks that settle a stage in its words: those, and 32 after all others
abbrev pub word_checks : WordOrder → Stage → Reference → List Check
word_checks order s r = sweeps order s r ++ (idle s ∷ [])

-- all checks, in their order: those of the counts and of loops, in a stage as reading gives it; those of how it is wired; and in the stage whose
-- registers are wires those of retired kinds, and those that settle it in its words
unfoldable pub checks : WordOrder → Stage → List Check → Stage → Reference → List Check
checks order raw wiring s r =
    unequal 10 raw.inputs r.inputs ∷
    unequal 11 (length raw.outputs) (length r.outputs) ∷
    looped raw ∷
    wiring ++ (retired s ∷ word_checks order s r)

-- 17: a rail of input i is above 1, or both are 1
unfoldable pub illegal : List ℕ → ℕ → Bool
illegal row i =
    let rail0 = get_or row (2 * i) 0 in
    let rail1 = get_or row (2 * i + 1) 0 in
    ltb 1 rail0 || ltb 1 rail1 || eqb rail0 1 && eqb rail1 1

-- the checks of a stage and a row that is lent, in their order
unfoldable pub row_checks : Stage → List ℕ → List Check
row_checks s row =
    looped s ∷
    check 16 3 (0 ∷ []) (length row ∷ []) (λ w i. not (eqb (length row) (2 * s.inputs + length s.gates))) ∷
    check 17 3 (0 ∷ []) (numbers 0 s.inputs) (λ w. illegal row) ∷
    []
