-- Marks on the care words of a stage, one after the other.
-- Assumes nothing.
use Prim.Native.Nat.{ℕ, zero, suc, ◌+◌, ◌≤◌, ◌<◌}
use native.Mathlib.Omega.{arith}
use native.Mathlib.Decide.{ℕ_discrete}
use native.Mathlib.Numerals.{add-one}
use mathlib.Core.Path.{◌≡◌, refl, sym, ap, ◌∙◌}
use mathlib.Core.Bool.{Bool, true, false, ◌||◌}
use mathlib.Core.List.{List, [], ◌∷◌}
use lib.ListN.{length, get_or, take, set, length-set, replicate}
use lib.Seq.{get_or-set_same, get_or-set_other, take-length}
use lib.Dec.{eqb, ltb}
use borrow.Author.Tests.{eq-eqb, ne_eqb}
use Rattle.netlist.specs.declared.Counts.{Counts}
use Rattle.verdict.specs.Words.{is_in}
use Rattle.circuit.specs.Stage.{stage_care}
use Rattle.words.specs.Listed.{NoneMarked, Marked}
use Rattle.words.proofs.Membership.{care_long}

last_or : (a : Bool) → (a || false) ≡ (false || a)
last_or true = refl
last_or false = refl

or_assoc : (a b c : Bool) → (a || (b || c)) ≡ ((a || b) || c)
or_assoc true b c = refl
or_assoc false b c = refl

or-true : (a : Bool) → (a || true) ≡ true
or-true true = refl
or-true false = refl

or-false : (a : Bool) → (a || false) ≡ a
or-false true = refl
or-false false = refl

-- one more of a list
is_in-take : (w : ℕ) (ws : List ℕ) (k : ℕ) → k < length ws → is_in w (take (suc k) ws) ≡ (is_in w (take k ws) || eqb w (get_or ws k 0))
unfolding is_in
is_in-take w [] k h = absurd (omega arith)
is_in-take w (x ∷ ws) zero h = last_or (eqb w x)
is_in-take w (x ∷ ws) (suc k) h = ap (λ (b : Bool). eqb w x || b) (is_in-take w ws k (omega arith)) ∙ or_assoc (eqb w x) (is_in w (take k ws)) (eqb w (get_or ws k 0))

-- the first k of a list are marked
abbrev pub MarkedTo : List ℕ → List ℕ → ℕ → Type 0
MarkedTo ws marks k = (w : ℕ) → w < length marks → ltb 0 (get_or marks w 0) ≡ is_in w (take k ws)

pub marked_start : (ws marks : List ℕ) → NoneMarked marks → MarkedTo ws marks 0
unfolding is_in
marked_start ws marks n w h = ap (ltb 0) (n w)

module _ (ws marks : List ℕ) (k : ℕ) (m : MarkedTo ws marks k) (x : ℕ) (is : x ≡ get_or ws k 0) (h : k < length ws) where
  more : (w : ℕ) → is_in w (take (k + 1) ws) ≡ (is_in w (take k ws) || eqb w x)
  more w = ap (λ (i : ℕ). is_in w (take i ws)) (add-one k) ∙ is_in-take w ws k h ∙ ap (λ (y : ℕ). is_in w (take k ws) || eqb w y) (sym is)

  pub marked_more : x < length marks → MarkedTo ws (set marks x 1) (k + 1)
  marked_more l w b = go (ℕ_discrete w x)
    where
      go : Dec (w ≡ x) → ltb 0 (get_or (set marks x 1) w 0) ≡ is_in w (take (k + 1) ws)
      go (yes e) = ap (λ (y : ℕ). ltb 0 (get_or (set marks x 1) y 0)) e ∙ ap (ltb 0) (get_or-set_same marks x 1 0 l)
          ∙ sym (more w ∙ ap (λ (b : Bool). is_in w (take k ws) || b) (eq-eqb w x e) ∙ or-true (is_in w (take k ws)))
      go (no d) = ap (ltb 0) (get_or-set_other marks x w 1 0 d) ∙ m w (omega (arith, b, length-set marks x 1))
          ∙ sym (more w ∙ ap (λ (b : Bool). is_in w (take k ws) || b) (ne_eqb w x d) ∙ or-false (is_in w (take k ws)))

  pub marked_past : length marks ≤ x → MarkedTo ws marks (k + 1)
  marked_past l w b = m w b ∙ sym (more w ∙ ap (λ (b : Bool). is_in w (take k ws) || b) (ne_eqb w x (λ e. omega arith)) ∙ or-false (is_in w (take k ws)))

pub marked_done : (c : Counts) (code marks : List ℕ) (k : ℕ) → k ≡ c.care → MarkedTo (stage_care c code) marks k → Marked (stage_care c code) marks
marked_done c code marks k h m w b =
    m w b ∙ ap (λ (i : ℕ). is_in w (take i (stage_care c code))) (h ∙ sym (care_long c code)) ∙ ap (is_in w) (take-length (stage_care c code))

-- an array of zeros
pub none_marked : (m : ℕ) → NoneMarked (replicate m 0)
none_marked m w = zeros m w
  where
    zeros : (m w : ℕ) → ◌≡◌ {A = ℕ} (get_or (replicate m 0) w 0) 0
    zeros zero w = refl
    zeros (suc m) zero = refl
    zeros (suc m) (suc w) = zeros m w
