-- A gate that never rises switches in no run; and a stage that reads has a word.
-- Assumes nothing.
use Prim.Native.Nat.{ℕ, zero, suc, ◌*◌, ◌^◌, ◌≤◌, ◌<◌}
use native.Mathlib.Omega.{arith}
use mathlib.Core.Path.{◌≡◌, refl, sym, ap, ◌∙◌, subst}
use mathlib.Core.Logic.{◌⊎◌, inl, inr, ◌≢◌}
use mathlib.Core.Bool.{Bool, true, false, cond, not, ◌&&◌, ◌||◌}
use mathlib.Core.List.{List, [], ◌∷◌}
use lib.ListN.{length, get_or}
use lib.Dec.{eqb, ltb}
use lib.Pow.{pow_pos}
use Rattle.runs.specs.Row.{Row, Rule, toggle, after, times, Legal}
use Rattle.runs.proofs.Test.{clash, true?, same?, eqb_same, eqb_other, lt-ltb, and_in}
use Rattle.runs.proofs.Row.{toggle_same}
use Rattle.netlist.specs.declared.File.{File}
use Rattle.netlist.specs.declared.Limits.{Limits}
use Rattle.netlist.specs.Reading.{Places, Ascending, Reading, refused, readable, read_file}
use Rattle.netlist.proofs.Readable.{readable_read}
use Rattle.verdict.specs.declared.WordOrder.{WordOrder}
use Rattle.verdict.specs.Graph.{In}
use Rattle.check_spec.specs.Lists.{some}
use Rattle.check_spec.specs.Content.{Content, content_at, content_of}
use Rattle.check_spec.specs.Words.{spelled, names, cares_for, IsWord}
use Rattle.check_spec.specs.Verdicts.{refusal, reading}
use Rattle.check_spec.specs.Demands.{Pass}
use Rattle.check_spec.proofs.Names.{named_word, word_named}
use Rattle.run_spec.specs.Witness.{asked_or_first}

-- ---- a gate that is low after every list

pub never_listed : (can : Rule) (g : ℕ) (r : Row) (l : List ℕ) → Legal can r l → ((m : List ℕ) → Legal can r m → after r m g ≡ false) → times g l ≡ 0
never_listed can g r [] p low = refl
never_listed can g r (k ∷ l) p low = go (same? g k) (never_listed can g (toggle r k) l p.1 (λ m q. low (k ∷ m) (p.0, q)))
  where
    go : (g ≡ k) ⊎ (g ≢ k) → times g l ≡ 0 → times g (k ∷ l) ≡ 0
    go (inl e) h =
        let up : toggle r k g ≡ true = rw e (toggle_same r k ∙ ap not (subst (λ (x : ℕ). r x ≡ false) e (low [] tt))) in
        absurd (clash up (low (k ∷ []) (p.0, tt)))
    go (inr d) h = rw (eqb_other g k d) h

-- ---- a word of the stage

module _ (f : File) (most : Limits) (bytes : List ℕ) where
  abbrev HasWord : Content → Type 0
  HasWord s = (w : ℕ) × IsWord s w

  first_in : (n : ℕ) (care : List ℕ) → Ascending (2 ^ n) 0 care → (w : ℕ) × ((ltb w (2 ^ n) && (some (eqb w) care || eqb (length care) 0)) ≡ true)
  unfolding some
  first_in n [] h = (0, rw (lt-ltb 0 (2 ^ n) (pow_pos n)))
  first_in n (w ∷ care) h = (w, rw (lt-ltb w (2 ^ n) h.1, eqb_same w))

  pub has_word : Pass (reading f most bytes) → HasWord (content_of f most bytes)
  unfolding refusal content_at cares_for
  has_word = go (read_file f most bytes) refl
    where
      go : (x : Reading) → read_file f most bytes ≡ x → Pass (refusal f x) → HasWord (content_at f bytes x)
      go (refused number at) e p = absurd (clash refl p.0)
      go (readable p) e t = first_in p.inputs p.care (readable_read f most bytes p e).care_in_holds

-- the name of a word, or the first name, is one
module _ (order : WordOrder) (s : Content) (has : (w : ℕ) × IsWord s w) (asked : ℕ) where
  some_in : (l : List ℕ) → some (eqb asked) l ≡ true → In asked l
  unfolding some
  some_in [] e = absurd (clash e refl)
  some_in (x ∷ l) e = go (same? asked x) (some_in l)
    where
      go : (asked ≡ x) ⊎ (asked ≢ x) → (some (eqb asked) l ≡ true → In asked l) → In asked (x ∷ l)
      go (inl q) later = inl q
      go (inr d) later = inr (later (rw (eqb_other asked x d) at e))

  first_of : (l : List ℕ) (x : ℕ) → In x l → In (get_or l 0 0) l
  first_of [] x h = elim h [ ]
  first_of (y ∷ l) x h = inl refl

  cared-in : In (asked_or_first (names order s) asked) (names order s)
  unfolding asked_or_first
  cared-in = go (some (eqb asked) (names order s)) refl
    where
      go : (b : Bool) → some (eqb asked) (names order s) ≡ b → In (cond b asked (get_or (names order s) 0 0)) (names order s)
      go true e = some_in (names order s) e
      go false e = let n = word_named order s has.0 has.1 in first_of (names order s) n.0 n.1

  pub cared_word : IsWord s (spelled order s.inputs (asked_or_first (names order s) asked))
  cared_word = named_word order s (asked_or_first (names order s) asked) cared-in
