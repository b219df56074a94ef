-- Text that is put part by part: what is left of it, and where it will end.
-- Assumes nothing.
use Prim.Native.Nat.{ℕ, ◌+◌, ◌≤◌, ◌<◌}
use native.Mathlib.Omega.{arith}
use native.Mathlib.Numerals.{add-one}
use mathlib.Core.Path.{◌≡◌, refl, sym, ap, ◌∙◌}
use mathlib.Core.List.{List, [], ◌∷◌, ◌++◌, append_assoc, append-nil}
use lib.ListN.{length, drop, length-append}
use Rattle.write_command.proofs.Joining.{Left, left_all, left_put, left_room, left_none}
use Rattle.write_decimal.specs.Put.{PutNext}
use Rattle.circuit.specs.Stage.{tabulate}
use Rattle.text_spec.specs.Characters.{comma}
use Rattle.circuit.proofs.Tabulate.{from_at, none_from}

-- ---- what is left

-- a whole is put from a place on, and a rest of it is left, for which there is room
pub record TextLeft (work₀ : List ℕ) (from : ℕ) (whole work : List ℕ) (at : ℕ) (rest : List ℕ) : Type 0 where
  pub left : Left work₀ from whole work at rest
  pub end : at + length rest ≡ from + length whole

pub text_all : (work : List ℕ) (at : ℕ) (whole : List ℕ) → at + length whole ≤ length work → TextLeft work at whole work at whole
text_all work at whole room = record { left = left_all refl room; end = refl }

module _ {work₀ : List ℕ} {from : ℕ} {whole : List ℕ} {work : List ℕ} {at : ℕ} {rest : List ℕ} (t : TextLeft work₀ from whole work at rest) where
  -- there is room for the next part
  pub text_room : (bytes rest' : List ℕ) → rest ≡ bytes ++ rest' → at + length bytes ≤ length work
  text_room bytes rest' e = left_room bytes rest' t.left e

  -- the next part is put
  pub text_put : {after : List ℕ} {next : ℕ} (bytes rest' : List ℕ) → rest ≡ bytes ++ rest' → PutNext work at bytes after next
      → TextLeft work₀ from whole after next rest'
  text_put bytes rest' e p = record {
    left = left_put bytes rest' t.left e p.put p.end;
    end = omega (arith, t.end, p.end, ap length e, length-append bytes rest');
  }

  -- the last part is put
  pub text_last : {after : List ℕ} {next : ℕ} → PutNext work at rest after next → PutNext work₀ from whole after next
  text_last {after} {next} p =
      let all : TextLeft work₀ from whole after next [] = text_put rest [] (sym (append-nil rest)) p in
      record { put = left_none all.left refl; end = omega (arith, all.end) }

  pub text_none : rest ≡ [] → PutNext work₀ from whole work at
  text_none e = record { put = left_none t.left e; end = omega (arith, t.end, ap length e) }

-- ---- a text of five parts

-- a whole is five parts, one after the other
pub record FiveParts (whole one two three four five : List ℕ) : Type 0 where
  pub is : whole ≡ one ++ (two ++ (three ++ (four ++ five)))

-- there is room for each behind the one before it
module _ {whole one two three four five : List ℕ} (f : FiveParts whole one two three four five) (work : List ℕ) (at : ℕ)
    (room : at + length whole ≤ length work) where
  pub first_of_five : at + length one ≤ length work
  first_of_five = text_room (text_all work at whole room) one (two ++ (three ++ (four ++ five))) f.is

  module _ {work1 : List ℕ} {at1 : ℕ} (p1 : PutNext work at one work1 at1) where
    after_one : TextLeft work at whole work1 at1 (two ++ (three ++ (four ++ five)))
    after_one = text_put (text_all work at whole room) one (two ++ (three ++ (four ++ five))) f.is p1

    pub second_of_five : at1 + length two ≤ length work1
    second_of_five = text_room after_one two (three ++ (four ++ five)) refl

    module _ {work2 : List ℕ} {at2 : ℕ} (p2 : PutNext work1 at1 two work2 at2) where
      after_two : TextLeft work at whole work2 at2 (three ++ (four ++ five))
      after_two = text_put after_one two (three ++ (four ++ five)) refl p2

      pub third_of_five : at2 + length three ≤ length work2
      third_of_five = text_room after_two three (four ++ five) refl

      module _ {work3 : List ℕ} {at3 : ℕ} (p3 : PutNext work2 at2 three work3 at3) where
        after_three : TextLeft work at whole work3 at3 (four ++ five)
        after_three = text_put after_two three (four ++ five) refl p3

        pub fourth_of_five : at3 + length four ≤ length work3
        fourth_of_five = text_room after_three four five refl

        module _ {work4 : List ℕ} {at4 : ℕ} (p4 : PutNext work3 at3 four work4 at4) where
          after_four : TextLeft work at whole work4 at4 five
          after_four = text_put after_three four five refl p4

          pub fifth_of_five : at4 + length five ≤ length work4
          fifth_of_five = after_four.left.room

          pub five_put : {work5 : List ℕ} {at5 : ℕ} → PutNext work4 at4 five work5 at5 → PutNext work at whole work5 at5
          five_put p5 = text_last after_four p5

-- ---- parts that a loop puts

abbrev pub flat : List (List ℕ) → List ℕ
flat [] = []
flat (p ∷ ps) = p ++ flat ps

-- the parts from the k-th on
abbrev pub parts_from : (ℕ → List ℕ) → ℕ → ℕ → List ℕ
parts_from part m k = flat (drop k (tabulate part m))

module _ (part : ℕ → List ℕ) (m : ℕ) where
  pub parts_none : (k : ℕ) → m ≤ k → parts_from part m k ≡ []
  parts_none k l = ap flat (none_from part m k l)

  parts_next : (k : ℕ) → k < m → parts_from part m k ≡ part k ++ parts_from part m (k + 1)
  parts_next k l = ap flat (from_at part m k l) ∙ ap (λ (i : ℕ). part k ++ flat (drop i (tabulate part m))) (sym (add-one k))

  -- part k is put by two calls
  module _ {work₀ : List ℕ} {from : ℕ} {whole work : List ℕ} {at : ℕ} (k : ℕ) (t : TextLeft work₀ from whole work at (parts_from part m k)) (l : k < m)
      (a b : List ℕ) (e : part k ≡ a ++ b) where
    two : parts_from part m k ≡ a ++ (b ++ parts_from part m (k + 1))
    two = parts_next k l ∙ ap (λ (p : List ℕ). p ++ parts_from part m (k + 1)) e ∙ append_assoc a b (parts_from part m (k + 1))

    pub first_room : at + length a ≤ length work
    first_room = text_room t a (b ++ parts_from part m (k + 1)) two

    module _ {between : List ℕ} {next : ℕ} (p : PutNext work at a between next) where
      half : TextLeft work₀ from whole between next (b ++ parts_from part m (k + 1))
      half = text_put t a (b ++ parts_from part m (k + 1)) two p

      pub second_room : next + length b ≤ length between
      second_room = text_room half b (parts_from part m (k + 1)) refl

      pub both_put : {after : List ℕ} {end : ℕ} → PutNext between next b after end → TextLeft work₀ from whole after end (parts_from part m (k + 1))
      both_put q = text_put half b (parts_from part m (k + 1)) refl q

-- ---- a list with commas

-- the first item is put, then a comma and an item for each of the others
module _ (item : ℕ → List ℕ) (m : ℕ) where
  abbrev pub others_from : ℕ → List ℕ
  others_from = parts_from (λ i. comma ∷ item i) m

  module _ (work : List ℕ) (start : ℕ) {whole : List ℕ} (e : whole ≡ item 0 ++ others_from 1) (room : start + length whole ≤ length work) where
    pub list_room : start + length (item 0) ≤ length work
    list_room = text_room (text_all work start whole room) (item 0) (others_from 1) e

    module _ {begun : List ℕ} {at : ℕ} (p : PutNext work start (item 0) begun at) where
      others : TextLeft work start whole begun at (others_from 1)
      others = text_put (text_all work start whole room) (item 0) (others_from 1) e p

      pub list_begun : TextLeft begun at (others_from 1) begun at (others_from 1)
      list_begun = text_all begun at (others_from 1) others.left.room

      pub list_done : {after : List ℕ} {next : ℕ} (k : ℕ) → TextLeft begun at (others_from 1) after next (others_from k) → m ≤ k
          → PutNext work start whole after next
      list_done k t l = text_last others (text_none t (parts_none (λ i. comma ∷ item i) m k l))

  -- a comma and item k
  module _ {work₀ : List ℕ} {from : ℕ} {whole work : List ℕ} {at : ℕ} (k : ℕ) (t : TextLeft work₀ from whole work at (others_from k)) (l : k < m) where
    pub comma_room : at + 1 ≤ length work
    comma_room = first_room (λ i. comma ∷ item i) m k t l (comma ∷ []) (item k) refl

    module _ {between : List ℕ} {next : ℕ} (p : PutNext work at (comma ∷ []) between next) where
      pub item_room : next + length (item k) ≤ length between
      item_room = second_room (λ i. comma ∷ item i) m k t l (comma ∷ []) (item k) refl p

      pub item_put : {after : List ℕ} {end : ℕ} → PutNext between next (item k) after end → TextLeft work₀ from whole after end (others_from (k + 1))
      item_put q = both_put (λ i. comma ∷ item i) m k t l (comma ∷ []) (item k) refl p q
