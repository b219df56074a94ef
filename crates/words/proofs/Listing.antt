-- The names of a stage's words, listed one after the other.
-- Assumes nothing.
use Prim.Native.Nat.{ℕ, suc, ◌+◌, ◌-◌, ◌^◌, ◌≤◌, ◌<◌}
use native.Mathlib.Omega.{arith}
use native.Mathlib.Numerals.{add-one}
use mathlib.Core.Path.{◌≡◌, refl, sym, ap, ◌∙◌}
use mathlib.Core.Bool.{Bool, true, false, cond}
use mathlib.Core.List.{List, [], ◌∷◌, ◌++◌, append_assoc, append-nil}
use lib.ListN.{length, get_or, take, drop, set, length-append, length-drop}
use lib.Seq.{drop-cons, set-append_seam, take-append_seam}
use Rattle.netlist.specs.Content.{Stage}
use Rattle.verdict.specs.declared.WordOrder.{WordOrder}
use Rattle.verdict.specs.Words.{numbers, words, spelled, is_in, select, names}
use Rattle.words.specs.Listed.{Listed}

-- Numbers that pass a test, of those below `most`, are listed up to number k: so many were found, they stand at the start of the
-- slice, and with those that are found from k on they are all.
pub record ListedTo (all : List ℕ) (test : ℕ → Bool) (most : ℕ) (before : List ℕ) (count k : ℕ) (list : List ℕ) : Type 0 where
  pub found : List ℕ
  pub found_count : length found ≡ count
  pub list_is : list ≡ found ++ drop count before
  pub all_are : all ≡ found ++ select test (numbers k (most - k))
  pub few : count ≤ k
  pub within : k ≤ most

module _ (all : List ℕ) (test : ℕ → Bool) (most : ℕ) (before : List ℕ) where
  pub list_start : all ≡ select test (numbers 0 most) → ListedTo all test most before 0 0 before
  list_start e = record {
    found = [];
    found_count = refl;
    list_is = refl;
    all_are = let z : most - 0 ≡ most = omega arith in rw z e;
    few = omega arith;
    within = omega arith;
  }

  module _ (count k : ℕ) (list : List ℕ) (to : ListedTo all test most before count k list) where
    -- the slice keeps its length
    pub list_long : count ≤ length before → length list ≡ length before
    list_long h = ap length to.list_is ∙ omega (arith, length-append to.found (drop count before), length-drop count before, to.found_count)

    -- what is found at k, and from the next on
    later : List ℕ
    later = select test (numbers (k + 1) (most - (k + 1)))

    at_k : k < most → (b : Bool) → test k ≡ b → select test (numbers k (most - k)) ≡ cond b (k ∷ later) later
    unfolding select numbers later
    at_k h b e =
        let m : most - k ≡ suc (most - (k + 1)) = omega arith in
        rw (m, e, add-one) refl

    pub list_hit : k < most → most ≤ length before → test k ≡ true → ListedTo all test most before (count + 1) (k + 1) (set list count k)
    unfolding later
    list_hit h room e = record {
      found = to.found ++ (k ∷ []);
      found_count = length-append to.found (k ∷ []) ∙ omega (arith, to.found_count);
      list_is =
          ap (λ (l : List ℕ). set l count k) (to.list_is ∙ ap (λ (l : List ℕ). to.found ++ l) (drop-cons before count 0 (omega (arith, to.few))))
          ∙ ap (λ (i : ℕ). set (to.found ++ (get_or before count 0 ∷ drop (suc count) before)) i k) (sym to.found_count)
          ∙ set-append_seam to.found (get_or before count 0) (drop (suc count) before) k
          ∙ sym (append_assoc to.found (k ∷ []) (drop (suc count) before))
          ∙ ap (λ (i : ℕ). (to.found ++ (k ∷ [])) ++ drop i before) (sym (add-one count));
      all_are = to.all_are ∙ ap (λ (l : List ℕ). to.found ++ l) (at_k h true e) ∙ sym (append_assoc to.found (k ∷ []) later);
      few = omega (arith, to.few);
      within = omega arith;
    }

    pub list_miss : k < most → test k ≡ false → ListedTo all test most before count (k + 1) list
    unfolding later
    list_miss h e = record {
      found = to.found;
      found_count = to.found_count;
      list_is = to.list_is;
      all_are = to.all_are ∙ ap (λ (l : List ℕ). to.found ++ l) (at_k h false e);
      few = omega (arith, to.few);
      within = omega arith;
    }

    pub list_done : most ≤ k → Listed all before count list
    unfolding select numbers
    list_done h =
        let z : most - k ≡ 0 = omega arith in
        let a : all ≡ to.found = (rw z at to.all_are) ∙ append-nil to.found in
        record { count-is = sym (ap length a ∙ to.found_count); list_is = to.list_is ∙ ap (λ (l : List ℕ). l ++ drop count before) (sym a) }

-- whether a name spells a word of a stage
abbrev pub spells_word : WordOrder → Stage → ℕ → Bool
spells_word order s name = is_in (spelled order s.inputs name) (words s)

pub names_are : (order : WordOrder) (s : Stage) → names order s ≡ select (spells_word order s) (numbers 0 (2 ^ s.inputs))
unfolding names
names_are order s = refl

-- the start of a slice in which they are listed
pub listed_start : {numbers before : List ℕ} {count : ℕ} {after : List ℕ} → Listed numbers before count after → take count after ≡ numbers
listed_start {numbers} {before} {count} {after} l =
    ap (take count) l.list_is ∙ ap (λ (k : ℕ). take k (numbers ++ drop count before)) l.count-is ∙ take-append_seam numbers (drop count before)

-- they have their place in it
pub listed_in : {numbers before : List ℕ} {count : ℕ} {after : List ℕ} → Listed numbers before count after → count ≤ length after
listed_in {numbers} {before} {count} {after} l = omega (arith, l.count-is, ap length l.list_is ∙ length-append numbers (drop count before))

pub listed_count : {numbers before : List ℕ} {count : ℕ} {after : List ℕ} → Listed numbers before count after → count ≡ length (take count after)
listed_count l = l.count-is ∙ sym (ap length (listed_start l))
