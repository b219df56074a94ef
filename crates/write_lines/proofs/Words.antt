-- The words of a report, put one after the other: the k-th behind the k before it.
-- Assumes nothing.
use Prim.Native.Nat.{ℕ, zero, suc, min, ◌+◌, ◌*◌, ◌≤◌, ◌<◌}
use native.Mathlib.Omega.{arith}
use native.Mathlib.Numerals.{add-one}
use mathlib.Core.Path.{◌≡◌, refl, sym, ap, ◌∙◌}
use mathlib.Core.List.{List, [], ◌∷◌, ◌++◌, append_assoc, append-nil}
use lib.ListN.{length, get_or, take, length-take}
use lib.Seq.{take_all}
use borrow.Author.Tests.{eq-eqb, ne_eqb}
use Rattle.std.specs.List.{zip}
use Rattle.std.proofs.lemmas.Slice.Zip.{length-zip}
use Rattle.report_spec.specs.declared.Report.{Report}
use Rattle.print_spec.specs.Lines.{verdict_text, word_text, word_texts, total_text, report_text}
use Rattle.write_lines.specs.Within.{PutWithin}
use Rattle.write_lines.proofs.Within.{within-++, within_same}

zip_take : {A B : Type 0} (n : ℕ) (xs : List A) (ys : List B) → zip (take n xs) (take n ys) ≡ take n (zip xs ys)
zip_take zero xs ys = refl
zip_take (suc n) [] ys = refl
zip_take (suc n) (x ∷ xs) [] = refl
zip_take (suc n) (x ∷ xs) (y ∷ ys) = ap (λ (l : List _). (x, y) ∷ l) (zip_take n xs ys)

-- the first so many words, each with its number
abbrev pub first_pairs : ℕ → List ℕ → List ℕ → List (ℕ × ℕ)
first_pairs words ws hs = take words (zip ws hs)

first_few : (words : ℕ) (ws hs : List ℕ) → length (first_pairs words ws hs) ≤ length hs
first_few words ws hs = omega (arith, length-take words (zip ws hs), length-zip ws hs)

pub pairs_long : (words : ℕ) (ws hs : List ℕ) → length (first_pairs words ws hs) ≡ min (min words (length ws)) (length hs)
pairs_long words ws hs = omega (arith, length-take words (zip ws hs), length-zip ws hs)

-- the k-th of them
pub pairs_at : (words : ℕ) (ws hs : List ℕ) (k : ℕ) → k < words → k < length ws → k < length hs
    → (get_or ws k 0, get_or hs k 0) ≡ get_or (first_pairs words ws hs) k (get_or ws k 0, get_or hs k 0)
pairs_at zero ws hs k l m n = absurd (omega arith)
pairs_at (suc words) [] hs k l m n = absurd (omega arith)
pairs_at (suc words) (w ∷ ws) [] k l m n = absurd (omega arith)
pairs_at (suc words) (w ∷ ws) (h ∷ hs) zero l m n = refl
pairs_at (suc words) (w ∷ ws) (h ∷ hs) (suc k) l m n = pairs_at words ws hs k (omega arith) (omega arith) (omega arith)

module _ (between after : ℕ) where
  -- the text of words with their numbers
  abbrev pub pair_texts : List (ℕ × ℕ) → List ℕ
  pair_texts [] = []
  pair_texts (p ∷ ps) = word_text between after p.0 p.1 ++ pair_texts ps

  texts-zip : (ws hs : List ℕ) → pair_texts (zip ws hs) ≡ word_texts between after ws hs
  texts-zip [] hs = refl
  texts-zip (w ∷ ws) [] = refl
  texts-zip (w ∷ ws) (h ∷ hs) = ap (λ (t : List ℕ). word_text between after w h ++ t) (texts-zip ws hs)

  texts_next : (ps : List (ℕ × ℕ)) (k : ℕ) (d : ℕ × ℕ) → k < length ps
      → pair_texts (take (suc k) ps) ≡ pair_texts (take k ps) ++ word_text between after (get_or ps k d).0 (get_or ps k d).1
  texts_next [] k d l = absurd (omega arith)
  texts_next (p ∷ ps) zero d l = simp append-nil
  texts_next (p ∷ ps) (suc k) d l =
      ap (λ (t : List ℕ). word_text between after p.0 p.1 ++ t) (texts_next ps k d (omega arith))
      ∙ sym (append_assoc (word_text between after p.0 p.1) (pair_texts (take k ps)) (word_text between after (get_or ps k d).0 (get_or ps k d).1))

  -- one word more
  pub word_put : {buffer₀ buffer buffer' : List ℕ} {start at next : ℕ} (ps : List (ℕ × ℕ)) (k : ℕ) (p : ℕ × ℕ) → (k < length ps) × (p ≡ get_or ps k p)
      → PutWithin (12 * k) buffer₀ start (pair_texts (take k ps)) buffer at
      → PutWithin 12 buffer at (word_text between after p.0 p.1) buffer' next
      → PutWithin (12 * (k + 1)) buffer₀ start (pair_texts (take (k + 1) ps)) buffer' next
  word_put ps k p (l, e) q r =
      let same : word_text between after p.0 p.1 ≡ word_text between after (get_or ps k p).0 (get_or ps k p).1 = ap (λ (w : ℕ × ℕ). word_text between after w.0 w.1) e in
      rw (add-one k) (within_same (ap (λ (t : List ℕ). pair_texts (take k ps) ++ t) same ∙ sym (texts_next ps k p l)) (omega arith) (within-++ q r))

  -- there is room for one more
  pub word_room : {buffer₀ buffer : List ℕ} {start at : ℕ} (words : ℕ) (ws hs : List ℕ) (k : ℕ) → k < length (first_pairs words ws hs)
      → PutWithin (12 * k) buffer₀ start (pair_texts (take k (first_pairs words ws hs))) buffer at
      → start + 12 * length hs ≤ length buffer₀ → at + 12 ≤ length buffer
  word_room words ws hs k l p room = omega (arith, first_few words ws hs, p.within, p.put.put.long)

  -- the last one is put
  pub words_done : {buffer₀ buffer : List ℕ} {start at : ℕ} (words : ℕ) (ws hs : List ℕ) (k : ℕ) → k ≡ length (first_pairs words ws hs)
      → PutWithin (12 * k) buffer₀ start (pair_texts (take k (first_pairs words ws hs))) buffer at
      → PutWithin (12 * length hs) buffer₀ start (word_texts between after (take words ws) (take words hs)) buffer at
  words_done words ws hs k e p =
      let ps = first_pairs words ws hs in
      let all : pair_texts (take k ps) ≡ word_texts between after (take words ws) (take words hs) =
      ap pair_texts (take_all k ps (omega arith) ∙ sym (zip_take words ws hs)) ∙ texts-zip (take words ws) (take words hs) in
      within_same all (omega (arith, first_few words ws hs)) p

  -- a report is these and the total, or the verdict
  module _ (r : Report) where
    pub accepted_text : r.verdict.number ≡ 0
        → word_texts between after (take r.words r.names) (take r.words r.lines) ++ total_text r.total ≡ report_text between after r
    unfolding report_text
    accepted_text e = rw (eq-eqb r.verdict.number 0 e)

    pub refused_text : (r.verdict.number ≡ 0 → ⊥) → verdict_text r.verdict ≡ report_text between after r
    unfolding report_text
    refused_text ne = rw (ne_eqb r.verdict.number 0 ne)
