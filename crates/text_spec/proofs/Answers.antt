-- The answer to a text: each number by its condition, after those before it found nothing; and what an answer that gives bytes says.
-- Assumes nothing.
use Rattle.std.specs.Prelude.{Option, Some, None}
use Prim.Native.Nat.{ℕ, ◌+◌, ◌*◌, ◌≤◌, ◌<◌}
use native.Mathlib.Omega.{arith}
use mathlib.Core.Path.{◌≡◌, refl}
use mathlib.Core.Bool.{Bool, true, false, cond}
use mathlib.Core.List.{List, []}
use lib.ListN.{length}
use lib.Dec.{ltb}
use borrow.Author.Tests.{lt-ltb, le-ltb}
use Rattle.netlist.specs.declared.File.TheVariants as file
use Rattle.netlist.specs.declared.Limits.{Limits}
use Rattle.netlist.specs.Reading.{read_file}
use Rattle.text_spec.specs.Characters.{newline}
use Rattle.text_spec.specs.Lines.{split, other_form, Text, text_of}
use Rattle.text_spec.specs.FromText.{drivers, needing, driving, undriven, driven_again, file_of, from_parsed, from_text}
use Rattle.text_spec.specs.FromText.{TextAnswer, refusal, gives, unless, unless_refused, unless_more, if_room}

-- ---- the numbers in their order

module _ (most : Limits) (room : ℕ) (s : List ℕ) where
  pub text_29 : (i : ℕ) → other_form 0 (split newline s) ≡ Some i → from_text most room s ≡ refusal 29 1 i
  unfolding from_text unless
  text_29 i e = rw e

  pub text_formed : other_form 0 (split newline s) ≡ None → from_text most room s ≡ from_parsed most room (text_of (split newline s))
  unfolding from_text unless
  text_formed e = rw e

-- of what a text of the line form says
module _ (most : Limits) (room : ℕ) (t : Text) where
  abbrev Answers : TextAnswer → Type 0
  Answers a = from_parsed most room t ≡ a

  pub text_30 : (i : ℕ) → undriven (drivers t) 0 (needing t) ≡ Some i → Answers (refusal 30 1 i)
  unfolding unless
  text_30 i e = rw e

  module _ (all_driven_holds : undriven (drivers t) 0 (needing t) ≡ None) where
    pub text_31 : (i : ℕ) → driven_again [] 0 (driving t) ≡ Some i → Answers (refusal 31 1 i)
    unfolding unless
    text_31 i e = rw (all_driven_holds, e)

    module _ (driven-once : driven_again [] 0 (driving t) ≡ None) where
      pub text_3 : most.inputs < length t.inputs → Answers (refusal 3 1 1)
      unfolding unless unless_more
      text_3 l = rw (all_driven_holds, driven-once, lt-ltb most.inputs (length t.inputs) l)

      module _ (few_inputs : length t.inputs ≤ most.inputs) where
        pub text_6 : most.gates < length t.gates → Answers (refusal 6 1 (2 + 10 * most.gates))
        unfolding unless unless_more
        text_6 l = rw (all_driven_holds, driven-once, le-ltb most.inputs (length t.inputs) few_inputs, lt-ltb most.gates (length t.gates) l)

        -- then the reader's numbers for the file made, and 24
        pub text_file : length t.gates ≤ most.gates → Answers (unless_refused (read_file file.Stage most (file_of t)) (if_room room (file_of t)))
        unfolding unless unless_more
        text_file l = rw (all_driven_holds, driven-once, le-ltb most.inputs (length t.inputs) few_inputs, le-ltb most.gates (length t.gates) l)

-- ---- an answer that gives bytes: the check before them found nothing

pub found_none : (number : ℕ) (f : Option ℕ) (later : TextAnswer) (s : List ℕ) → unless number f later ≡ gives s → (f ≡ None) × (later ≡ gives s)
unfolding unless
found_none number (Some i) later s e = let z : ◌≡◌ {A = ℕ} 0 1 = cc in absurd (omega arith)
found_none number None later s e = (refl, e)

pub room_given : (room : ℕ) (u s : List ℕ) → if_room room u ≡ gives s → u ≡ s
unfolding if_room
room_given room u s e = go (ltb room (length u)) e
  where
    go : (b : Bool) → cond b (refusal 24 3 0) (gives u) ≡ gives s → u ≡ s
    go true e = let z : ◌≡◌ {A = ℕ} 0 1 = cc in absurd (omega arith)
    go false e = cc
