-- Masks of the words whose answer the second part does not care for: word by word in a block, block by block, and what they say of a name.
-- Assumes nothing.
use Rattle.std.specs.Prelude.{Ok}
use Prim.Native.Nat.{ℕ, zero, suc, ◌+◌, ◌*◌, ◌/◌, ◌%◌, ◌^◌, ◌≤◌, ◌<◌}
use native.Mathlib.Omega.{arith}
use native.Mathlib.Decide.{ℕ_discrete}
use native.Mathlib.Nat.{mod-lt}
use mathlib.Core.Path.{◌≡◌, refl, sym, ap, subst, ◌∙◌}
use mathlib.Core.Bool.{Bool, true, false, ◌||◌}
use mathlib.Core.List.{List, [], ◌∷◌}
use lib.ListN.{length, get_or, set}
use lib.Seq.{get_or-set_same, get_or-set_other}
use lib.Dec.{eqb, lit<}
use lib.Bits.{bit_or}
use borrow.Author.Tests.{eq-eqb, ne_eqb}
use Rattle.runs.proofs.Test.{clash, not-false, or_right}
use Rattle.netlist.specs.Content.{Stage, Reference}
use Rattle.netlist.specs.Reading.{Ascending}
use Rattle.verdict.specs.declared.WordOrder.{WordOrder}
use Rattle.verdict.specs.Words.{IsWord, spelled, names}
use Rattle.verdict.specs.Checks.{sweep}
use Rattle.verdict.proofs.Words.{rising_in}
use Rattle.verdict.proofs.Names.{spelled_below, name_spells, names_rise}
use Rattle.lane_cells.specs.Lane.{lane}
use Rattle.lane_cells.proofs.Lane.{lane_zero, lane_or}
use Rattle.lane_rise.proofs.Lanes.{one_at, one_lane}
use Rattle.lane_screen.specs.Suspects.{Unnamed}
use Rattle.check_words.proofs.Sweeping.{swept_nothing}
use Rattle.call_join.specs.Steps.{answer_word, uncared_for, uncared_under, NamesUncared}
use Rattle.call_join.proofs.Answers.{cared_under}

-- ---- the words of a block that pass a test

-- those before word j are named, and none from it on
pub record WordsTo (test : ℕ → Bool) (words j : ℕ) : Type 0 where
  pub within : j ≤ 64
  pub before : (i : ℕ) → i < j → lane i words ≡ test i
  pub after : (i : ℕ) → j ≤ i → i < 64 → lane i words ≡ false

module _ (test : ℕ → Bool) where
  pub words_start : WordsTo test 0 0
  words_start = record { within = omega arith; before = λ i h. absurd (omega arith); after = λ i h d. lane_zero i }

  module _ (words j : ℕ) (to : WordsTo test words j) (room : j < 64) where
    pub words_left : test j ≡ false → WordsTo test words (j + 1)
    words_left e = record { within = omega arith; before = λ i h. go i h (ℕ_discrete i j); after = λ i h d. to.after i (omega arith) d }
      where
        go : (i : ℕ) → i < j + 1 → Dec (i ≡ j) → lane i words ≡ test i
        go i h (yes q) = to.after i (omega arith) (omega arith) ∙ sym (ap test q ∙ e)
        go i h (no q) = to.before i (omega arith)

    with_word_lem : (i : ℕ) → i < 64 → lane i (bit_or words (one_at j)) ≡ (lane i words || eqb i j)
    with_word_lem i d = lane_or i words (one_at j) ∙ ap (λ (b : Bool). lane i words || b) (one_lane j i room d)

    other_word : (i : ℕ) → i < 64 → (i ≡ j → ⊥) → lane i (bit_or words (one_at j)) ≡ lane i words
    other_word i d q = with_word_lem i d ∙ ap (λ (b : Bool). lane i words || b) (ne_eqb i j q) ∙ or-false (lane i words)
      where
        or-false : (a : Bool) → (a || false) ≡ a
        or-false true = refl
        or-false false = refl

    pub words_put : test j ≡ true → WordsTo test (bit_or words (one_at j)) (j + 1)
    words_put e = record {
      within = omega arith;
      before = λ i h. go i h (ℕ_discrete i j);
      after = λ i h d. other_word i d (λ q. omega arith) ∙ to.after i (omega arith) d;
    }
      where
        go : (i : ℕ) → i < j + 1 → Dec (i ≡ j) → lane i (bit_or words (one_at j)) ≡ test i
        go i h (yes q) = with_word_lem i (omega arith) ∙ or_right (lane i words) (eqb i j) (eq-eqb i j q) ∙ sym (ap test q ∙ e)
        go i h (no q) = other_word i (omega arith) q ∙ to.before i (omega arith)

-- ---- block by block

module _ (r : Reference) (t : Stage) where
  -- the masks of the blocks before block b name the words whose answer is not cared for
  abbrev pub BlocksTo : List ℕ → ℕ → Type 0
  BlocksTo masks b = (a j : ℕ) → a < b → j < 64 → lane j (get_or masks a 0) ≡ uncared_for t (answer_word r (64 * a + j))

  pub blocks_more : (masks : List ℕ) (b x : ℕ) → b < length masks → BlocksTo masks b
      → ((j : ℕ) → j < 64 → lane j x ≡ uncared_for t (answer_word r (64 * b + j))) → BlocksTo (set masks b x) (b + 1)
  blocks_more masks b x room to new a j h d = go (ℕ_discrete a b)
    where
      go : Dec (a ≡ b) → lane j (get_or (set masks b x) a 0) ≡ uncared_for t (answer_word r (64 * a + j))
      go (yes q) = rw q (ap (lane j) (get_or-set_same masks b x 0 room) ∙ new j d)
      go (no q) = ap (lane j) (get_or-set_other masks b a x 0 q) ∙ to a j (omega arith) d

  pub blocks_done : (inputs : ℕ) (masks : List ℕ) (b : ℕ) → 2 ^ inputs ≤ 64 * b → b ≤ length masks → BlocksTo masks b → NamesUncared inputs r t masks
  blocks_done inputs masks b all room to = record {
    inside = λ w h. omega arith;
    named = λ w h.
        let is : 64 * (w / 64) + w % 64 ≡ w = omega arith in
        to (w / 64) (w % 64) (omega arith) (mod-lt w (lit< tt)) ∙ ap (λ (v : ℕ). uncared_for t (answer_word r v)) is;
  }

-- ---- what they say of a word and of a name

module _ (inputs : ℕ) (r : Reference) (t : Stage) (masks : List ℕ) (names-uncared : NamesUncared inputs r t masks) where
  pub unnamed_cared : (w : ℕ) → w < 2 ^ inputs → Unnamed masks w → uncared_for t (answer_word r w) ≡ false
  unnamed_cared w h u = sym (names-uncared.named w h) ∙ u.clear

  pub named_uncared : (w : ℕ) → w < 2 ^ inputs → (b : Bool) → b ≡ true → (Unnamed masks w → b ≡ false) → uncared_for t (answer_word r w) ≡ true
  named_uncared w h b is u =
      not-false (uncared_for t (answer_word r w)) (λ e. clash is (u (record { inside = names-uncared.inside w h; clear = names-uncared.named w h ∙ e })))

  -- nothing is found where they name no word of the first part
  pub none_uncared : (order : WordOrder) (s : Stage) → s.inputs ≡ inputs → ((w : ℕ) → IsWord s w → Unnamed masks w) →
      (Ok tt) ≡ sweep 23 0 (uncared_under order inputs r t) (names order s)
  none_uncared order s same none = sym (swept_nothing 23 0 (uncared_under order inputs r t) (names order s) (λ name i.
      let below : name < 2 ^ inputs = subst (λ (n : ℕ). name < 2 ^ n) same (rising_in (2 ^ s.inputs) 0 (names order s) (names_rise order s) name i).1 in
      cared_under order inputs r t name (unnamed_cared (spelled order inputs name) (spelled_below order inputs name below)
      (subst (λ (n : ℕ). Unnamed masks (spelled order n name)) same (none _ (name_spells order s name i))))))

-- names are below the number of words
rising_below : (below floor : ℕ) (l : List ℕ) → Ascending below floor l → (k : ℕ) → k < length l → get_or l k 0 < below
rising_below below floor [] r k h = absurd (omega arith)
rising_below below floor (x ∷ l) r zero h = r.1
rising_below below floor (x ∷ l) r (suc k) h = rising_below below (x + 1) l r.2 k (omega arith)

pub names_below : (order : WordOrder) (s : Stage) (k : ℕ) → k < length (names order s) → get_or (names order s) k 0 < 2 ^ s.inputs
names_below order s = rising_below (2 ^ s.inputs) 0 (names order s) (names_rise order s)
