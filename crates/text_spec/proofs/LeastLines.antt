-- 29, 30 and 31 name the least line: what their searches find, and so what a verdict says.
-- Assumes nothing.
use Rattle.std.specs.Prelude.{Option, Some, None}
use Prim.Native.Nat.{ℕ, zero, suc, ◌+◌, ◌*◌, ◌≤◌, ◌<◌}
use native.Mathlib.Omega.{arith}
use mathlib.Core.Path.{◌≡◌, refl, sym, ap, subst, ◌∙◌}
use mathlib.Core.Bool.{Bool, true, false, cond, not, ◌&&◌}
use mathlib.Core.List.{List, [], ◌∷◌, ◌++◌, append_assoc, append-nil}
use lib.ListN.{length, get_or}
use lib.Dec.{eqb, leb, ltb}
use Rattle.netlist.specs.declared.File.TheVariants as file
use Rattle.netlist.specs.declared.Limits.{Limits}
use Rattle.netlist.specs.Reading.{Reading, refused, readable, read_file, stage_limits}
use Rattle.verdict.specs.Checks.{verdict}
use Rattle.verdict.proofs.Refusals.{refused_number}
use Rattle.verdict.specs.declared.Answer.{Answer}
use Rattle.verdict.specs.Written.{Written, written}
use Rattle.text_spec.specs.Characters.{newline}
use Rattle.text_spec.specs.Lines.{onto, split, formed, other_form, lines_from, Text, text_of}
use Rattle.text_spec.specs.FromText.{drivers, driving, needing, all_driven, undriven, drives_again, driven_again, file_of, from_parsed, from_text}
use Rattle.text_spec.specs.FromText.{TextAnswer, refusal, gives, unless, unless_refused, if_room, unless_more}
use Rattle.text_spec.specs.Call.{leaves, stage_from}
use Rattle.text_spec.specs.Promises.{LeastLine, formless, driven_before, LeastLines}

-- ---- searches

least_zero : (f : ℕ → Bool) (n : ℕ) → f 0 ≡ true → LeastLine f (suc n) 0
least_zero f n e = record { within = omega arith; here = e; lesser = λ j l. absurd (omega arith) }

least-suc : (f g : ℕ → Bool) (n m : ℕ) → f 0 ≡ false → ((j : ℕ) → g j ≡ f (suc j)) → LeastLine g n m → LeastLine f (suc n) (suc m)
least-suc f g n m z alike h = record { within = omega (arith, h.within); here = sym (alike m) ∙ h.here; lesser = before }
  where
    before : (j : ℕ) → j < suc m → f j ≡ false
    before zero l = z
    before (suc j) l = sym (alike j) ∙ h.lesser j (omega arith)

least-alike : (f g : ℕ → Bool) (n m : ℕ) → ((j : ℕ) → f j ≡ g j) → LeastLine f n m → LeastLine g n m
least-alike f g n m alike h = record { within = h.within; here = sym (alike m) ∙ h.here; lesser = λ j l. sym (alike j) ∙ h.lesser j l }

-- a search that begins at line i finds line k
pub record Finds (f : ℕ → Bool) (n i k : ℕ) : Type 0 where
  pub place : ℕ
  pub is : k ≡ i + place
  pub found : LeastLine f n place

pub finds_zero : (f : ℕ → Bool) (n i k : ℕ) → Some i ≡ Some k → f 0 ≡ true → Finds f (suc n) i k
finds_zero f n i k e z = let q : i ≡ k = cc in record { place = 0; is = omega (arith, q); found = least_zero f n z }

pub finds_suc : (f g : ℕ → Bool) (n i k : ℕ) → f 0 ≡ false → ((j : ℕ) → g j ≡ f (suc j)) → Finds g n (suc i) k → Finds f (suc n) i k
finds_suc f g n i k z alike h =
    record { place = suc h.place; is = omega (arith, h.is); found = least-suc f g n h.place z alike h.found }

pub from_first : (f : ℕ → Bool) (n k : ℕ) → Finds f n 0 k → LeastLine f n k
from_first f n k h = let q : h.place ≡ k = omega (arith, h.is) in subst (LeastLine f n) q h.found

abbrev formless_at : ℕ → List (List ℕ) → ℕ → Bool
formless_at i ls j = formless (i + j) (lines_from j ls)

form_finds : (i k : ℕ) (l : List ℕ) (ls : List (List ℕ)) → other_form i (l ∷ ls) ≡ Some k → Finds (formless_at i (l ∷ ls)) (suc (length ls)) i k
unfolding other_form
form_finds i k l [] e = go (eqb (length l) 0 && leb 2 i) refl e
  where
    go : (b : Bool) → (eqb (length l) 0 && leb 2 i) ≡ b → cond b None (Some i) ≡ Some k → Finds (formless_at i (l ∷ [])) 1 i k
    go true is e = let z : ◌≡◌ {A = ℕ} 0 1 = cc in absurd (omega arith)
    go false is e =
        let q : i + 0 ≡ i = omega arith in
        finds_zero (formless_at i (l ∷ [])) 0 i k e (ap (λ (x : ℕ). formless x (l ∷ [])) q ∙ ap not is)
form_finds i k l (m ∷ ls) e = go (formed i l) refl (form_finds (suc i) k m ls) e
  where
    start : formless_at i (l ∷ m ∷ ls) 0 ≡ not (formed i l)
    start = let q : i + 0 ≡ i = omega arith in ap (λ (x : ℕ). formless x (l ∷ m ∷ ls)) q

    alike : (j : ℕ) → formless_at (suc i) (m ∷ ls) j ≡ formless_at i (l ∷ m ∷ ls) (suc j)
    alike j = let q : suc i + j ≡ i + suc j = omega arith in ap (λ (x : ℕ). formless x (lines_from j (m ∷ ls))) q

    go : (b : Bool) → formed i l ≡ b → (other_form (suc i) (m ∷ ls) ≡ Some k → Finds (formless_at (suc i) (m ∷ ls)) (suc (length ls)) (suc i) k) →
        cond b (other_form (suc i) (m ∷ ls)) (Some i) ≡ Some k → Finds (formless_at i (l ∷ m ∷ ls)) (suc (suc (length ls))) i k
    go true is later e =
        finds_suc (formless_at i (l ∷ m ∷ ls)) (formless_at (suc i) (m ∷ ls)) (suc (length ls)) i k (start ∙ ap not is) alike (later e)
    go false is later e = finds_zero (formless_at i (l ∷ m ∷ ls)) (suc (length ls)) i k e (start ∙ ap not is)

abbrev lacking_in : List (List ℕ) → List (List (List ℕ)) → ℕ → Bool
lacking_in ds ls j = not (all_driven ds (get_or ls j []))

undriven-finds : (ds : List (List ℕ)) (i k : ℕ) (ls : List (List (List ℕ))) → undriven ds i ls ≡ Some k → Finds (lacking_in ds ls) (length ls) i k
unfolding undriven
undriven-finds ds i k [] e = let z : ◌≡◌ {A = ℕ} 0 1 = cc in absurd (omega arith)
undriven-finds ds i k (l ∷ ls) e = go (all_driven ds l) refl (undriven-finds ds (suc i) k ls) e
  where
    go : (b : Bool) → all_driven ds l ≡ b → (undriven ds (suc i) ls ≡ Some k → Finds (lacking_in ds ls) (length ls) (suc i) k) →
        cond b (undriven ds (suc i) ls) (Some i) ≡ Some k → Finds (lacking_in ds (l ∷ ls)) (suc (length ls)) i k
    go true is later e = finds_suc (lacking_in ds (l ∷ ls)) (lacking_in ds ls) (length ls) i k (ap not is) (λ j. refl) (later e)
    go false is later e = finds_zero (lacking_in ds (l ∷ ls)) (length ls) i k e (ap not is)

abbrev repeating_in : List (List ℕ) → List (List (List ℕ)) → ℕ → Bool
repeating_in before ls j = drives_again (before ++ driven_before j ls) (get_or ls j [])

again_finds : (before : List (List ℕ)) (i k : ℕ) (ls : List (List (List ℕ))) → driven_again before i ls ≡ Some k →
    Finds (repeating_in before ls) (length ls) i k
unfolding driven_again
again_finds before i k [] e = let z : ◌≡◌ {A = ℕ} 0 1 = cc in absurd (omega arith)
again_finds before i k (l ∷ ls) e = go (drives_again before l) refl (again_finds (before ++ l) (suc i) k ls) e
  where
    start : repeating_in before (l ∷ ls) 0 ≡ drives_again before l
    start = ap (λ (b : List (List ℕ)). drives_again b l) (append-nil before)

    alike : (j : ℕ) → repeating_in (before ++ l) ls j ≡ repeating_in before (l ∷ ls) (suc j)
    alike j = ap (λ (b : List (List ℕ)). drives_again b (get_or ls j [])) (append_assoc before l (driven_before j ls))

    go : (b : Bool) → drives_again before l ≡ b →
        (driven_again (before ++ l) (suc i) ls ≡ Some k → Finds (repeating_in (before ++ l) ls) (length ls) (suc i) k) →
        cond b (Some i) (driven_again (before ++ l) (suc i) ls) ≡ Some k → Finds (repeating_in before (l ∷ ls)) (suc (length ls)) i k
    go true is later e = finds_zero (repeating_in before (l ∷ ls)) (length ls) i k e (start ∙ is)
    go false is later e = finds_suc (repeating_in before (l ∷ ls)) (repeating_in (before ++ l) ls) (length ls) i k (start ∙ is) alike (later e)

-- ---- the answer

Says : List ℕ → TextAnswer → Type 0
Says u (refusal number file at) = LeastLines u (verdict number file at 0)
Says u (gives s) = Unit {0}

pieces_some : (c : ℕ) (s : List ℕ) → 1 ≤ length (split c s)
unfolding split
pieces_some c [] = omega arith
pieces_some c (b ∷ bs) = go (eqb b c) (split c bs)
  where
    go : (x : Bool) (ps : List (List ℕ)) → 1 ≤ length (cond x ([] ∷ ps) (onto b ps))
    go true ps = omega arith
    go false [] = omega arith
    go false (p ∷ ps) = omega arith

module _ (u : List ℕ) where
  abbrev t : Text
  t = text_of (split newline u)

  -- a number below 29 says nothing of lines
  below_29 : (number file at : ℕ) → number < 29 → LeastLines u (verdict number file at 0)
  below_29 number file at l =
      record { least_29 = λ e. absurd (omega (arith, e)); least_30 = λ e. absurd (omega (arith, e)); least_31 = λ e. absurd (omega (arith, e)) }

  pieces_say : (i : ℕ) (ls : List (List ℕ)) → other_form 0 ls ≡ Some i → 1 ≤ length ls → LeastLine (λ j. formless j (lines_from j ls)) (length ls) i
  pieces_say i [] e some = absurd (omega arith)
  pieces_say i (l ∷ ls) e some =
      let z : (j : ℕ) → 0 + j ≡ j = λ j. omega arith in
      let same : (j : ℕ) → formless_at 0 (l ∷ ls) j ≡ formless j (lines_from j (l ∷ ls)) = λ j. ap (λ (x : ℕ). formless x (lines_from j (l ∷ ls))) (z j) in
      least-alike (formless_at 0 (l ∷ ls)) (λ j. formless j (lines_from j (l ∷ ls))) (suc (length ls)) i same
      (from_first (formless_at 0 (l ∷ ls)) (suc (length ls)) i (form_finds 0 i l ls e))

  room_says : (room : ℕ) (s : List ℕ) → Says u (if_room room s)
  unfolding if_room Says
  room_says room s = go (ltb room (length s))
    where
      go : (b : Bool) → Says u (cond b (refusal 24 3 0) (gives s))
      go true = below_29 24 3 0 (omega arith)
      go false = tt

  file_says : (most : Limits) (s : List ℕ) (later : TextAnswer) → Says u later → Says u (unless_refused (read_file file.Stage most s) later)
  unfolding unless_refused Says
  file_says most s later h = go (read_file file.Stage most s) refl
    where
      go : (r : Reading) → read_file file.Stage most s ≡ r → Says u (unless_refused r later)
      go (refused number at) e = below_29 number 1 at (omega (arith, (refused_number file.Stage most s number at e).1))
      go (readable p) e = h

  more_says : (most : Limits) (later : TextAnswer) → Says u later → Says u (unless_more most t later)
  unfolding unless_more Says
  more_says most later h =
      go (ltb most.inputs (length t.inputs)) (ltb most.gates (length t.gates))
    where
      go : (a b : Bool) → Says u (cond a (refusal 3 1 1) (cond b (refusal 6 1 (2 + 10 * most.gates)) later))
      go true b = below_29 3 1 1 (omega arith)
      go false true = below_29 6 1 (2 + 10 * most.gates) (omega arith)
      go false false = h

  again_says : (f : Option ℕ) → driven_again [] 0 (driving t) ≡ f → (later : TextAnswer) → Says u later → Says u (unless 31 f later)
  unfolding unless Says
  again_says (Some i) e later h = record {
    least_29 = λ z. absurd (omega (arith, z));
    least_30 = λ z. absurd (omega (arith, z));
    least_31 = λ z. from_first (repeating_in [] (driving t)) (length (driving t)) i (again_finds [] 0 i (driving t) e);
  }
  again_says None e later h = h

  undriven-says : (f : Option ℕ) → undriven (drivers t) 0 (needing t) ≡ f → (later : TextAnswer) → Says u later → Says u (unless 30 f later)
  unfolding unless Says
  undriven-says (Some i) e later h = record {
    least_29 = λ z. absurd (omega (arith, z));
    least_30 = λ z. from_first (lacking_in (drivers t) (needing t)) (length (needing t)) i (undriven-finds (drivers t) 0 i (needing t) e);
    least_31 = λ z. absurd (omega (arith, z));
  }
  undriven-says None e later h = h

  form_says : (f : Option ℕ) → other_form 0 (split newline u) ≡ f → (later : TextAnswer) → Says u later → Says u (unless 29 f later)
  unfolding unless Says
  form_says (Some i) e later h = record {
    least_29 = λ z. pieces_say i (split newline u) e (pieces_some newline u);
    least_30 = λ z. absurd (omega (arith, z));
    least_31 = λ z. absurd (omega (arith, z));
  }
  form_says None e later h = h

  says : (most : Limits) (room : ℕ) → Says u (from_text most room u)
  unfolding from_text
  says most room =
      form_says (other_form 0 (split newline u)) refl (from_parsed most room t)
      (undriven-says (undriven (drivers t) 0 (needing t)) refl _
      (again_says (driven_again [] 0 (driving t)) refl _
      (more_says most _ (file_says most (file_of t) _ (room_says room (file_of t))))))

-- whatever the text holds: of an accepted text nothing is said
pub least_lines : (text buffer : List ℕ) (r : Answer) (after : List ℕ) → written r after ≡ stage_from text buffer → LeastLines text r.verdict
unfolding leaves Says
least_lines text buffer r after e = go (from_text stage_limits (length buffer) text) refl e
  where
    go : (a : TextAnswer) → from_text stage_limits (length buffer) text ≡ a → written r after ≡ leaves a buffer → LeastLines text r.verdict
    go (refusal number file at) is w =
        subst (LeastLines text) (sym (ap (λ (x : Written). x.verdict) w)) (subst (Says text) is (says text stage_limits (length buffer)))
    go (gives s) is w = subst (LeastLines text) (sym (ap (λ (x : Written). x.verdict) w)) (below_29 text 0 0 0 (omega arith))
