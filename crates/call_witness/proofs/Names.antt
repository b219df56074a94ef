-- A number that is looked for in a list, and the name of the word that is shown. Assumes nothing.
use Prim.Native.Nat.{ℕ, ◌<◌}
use native.Mathlib.Omega.{arith}
use mathlib.Core.Path.{◌≡◌, refl, sym, ap, ◌∙◌}
use mathlib.Core.Bool.{Bool, true, false, cond, ◌||◌}
use mathlib.Core.List.{List, [], ◌∷◌}
use lib.ListN.{length, get_or}
use lib.Dec.{eqb}
use borrow.Author.Tests.{eq-eqb, ne_eqb}
use Rattle.std.specs.List.{list_any}
use Rattle.netlist.specs.Content.{Stage}
use Rattle.verdict.specs.declared.Verdict.{Verdict}
use Rattle.verdict.specs.declared.WordOrder.{WordOrder}
use Rattle.verdict.specs.Words as flat
use Rattle.check_spec.specs.Lists.{some}
use Rattle.run_spec.specs.Witness.{asked_or_first}
use Rattle.call_witness.specs.Lists.{name_in}

-- the library's test of a list is that of the definition
or-is : (a b : Bool) → (a || b) ≡ cond a true b
or-is true b = refl
or-is false b = refl

any-is : (test : ℕ → Bool) (list : List ℕ) → list_any test list ≡ some test list
unfolding some
any-is test [] = refl
any-is test (x ∷ l) = or-is (test x) (list_any test l) ∙ ap (λ (b : Bool). cond (test x) true b) (any-is test l)

module _ (list : List ℕ) (asked : ℕ) (b : Bool) (is : b ≡ list_any (eqb asked) list) where
  pub sought_found : b ≡ true → asked ≡ asked_or_first list asked
  unfolding asked_or_first
  sought_found e = sym (ap (λ (b : Bool). cond b asked (get_or list 0 0)) (sym (is ∙ any-is (eqb asked) list) ∙ e))

  pub sought_none : b ≡ false → get_or list 0 0 ≡ asked_or_first list asked
  unfolding asked_or_first
  sought_none e = sym (ap (λ (b : Bool). cond b asked (get_or list 0 0)) (sym (is ∙ any-is (eqb asked) list) ∙ e))

-- an empty list has no first
pub first-none : (list : List ℕ) → ¬ (0 < length list) → 0 ≡ get_or list 0 0
first-none [] h = refl
first-none (x ∷ l) h = absurd (h (omega arith))

-- ---- the name that is shown, by the number

module _ (order : WordOrder) (s : Stage) (v : Verdict) (asked : ℕ) where
  abbrev cared : ℕ
  cared = asked_or_first (flat.names order s) asked

  pub name_accepted : v.number ≡ 0 → asked ≡ name_in order s v asked
  unfolding name_in
  name_accepted e = sym (ap (λ (b : Bool). cond b asked (cond (eqb v.number 32) cared v.word)) (eq-eqb v.number 0 e))

  module _ (d : ¬ (v.number ≡ 0)) where
    pub name_idle : v.number ≡ 32 → (x : ℕ) → x ≡ cared → x ≡ name_in order s v asked
    unfolding name_in
    name_idle e x q =
        q ∙ sym (ap (λ (b : Bool). cond b asked (cond (eqb v.number 32) cared v.word)) (ne_eqb v.number 0 d) ∙ ap (λ (b : Bool). cond b cared v.word) (eq-eqb v.number 32 e))

    pub name_refused : ¬ (v.number ≡ 32) → v.word ≡ name_in order s v asked
    unfolding name_in
    name_refused e =
        sym (ap (λ (b : Bool). cond b asked (cond (eqb v.number 32) cared v.word)) (ne_eqb v.number 0 d) ∙ ap (λ (b : Bool). cond b cared v.word) (ne_eqb v.number 32 e))
