-- The cases that a call tries, one after the other, and its verdict: the first that fails.
use Rattle.std.specs.Prelude.{ℕ, Bool, cond, not, eqb}
use mathlib.Core.List.{List, [], ◌∷◌, map, flat_map}
use Rattle.verdict.specs.declared.Verdict.{Verdict}
pub use Rattle.verdict.specs.FourNumbers.{verdict, accepted}

-- a refusal that may be named, and whether it is due
pub record Case : Type 0 where
  pub names : Verdict
  pub fails : Bool

abbrev pub case : ℕ → ℕ → ℕ → ℕ → Bool → Case
case number file at word fails = record { names = verdict number file at word; fails = fails }

-- a check is the cases that it tries, in their order
abbrev pub Check : Type 0
Check = List Case

-- the first case of a check that fails; where none does, what comes later
unfoldable pub first : Check → Verdict → Verdict
first [] later = later
first (c ∷ cs) later = let rest = first cs later in cond c.fails c.names rest

-- the verdict of some checks: the first of their cases that fails
unfoldable pub judge : List Check → Verdict
judge [] = accepted
judge (check ∷ checks) = let later = judge checks in first check later

-- a check of some words at some places: least word, then least place
unfoldable pub sweep : ℕ → ℕ → List ℕ → List ℕ → (ℕ → ℕ → Bool) → Check
sweep number file words places fails = flat_map (λ w. let test = fails w in map (λ i. let t = test i in case number file i w t) places) words

-- at some places, whatever the word; its word field is 0
abbrev pub sweep_places : ℕ → ℕ → List ℕ → (ℕ → Bool) → Check
sweep_places number file places fails = sweep number file (0 ∷ []) places (λ w. fails)

-- two counts that have to be equal: the first, of 10 and 11 the stage's, is `at`, and the other stands in place of a word
abbrev pub unequal : ℕ → ℕ → ℕ → Check
unequal number mine theirs = case number 0 mine theirs (not (eqb mine theirs)) ∷ []
