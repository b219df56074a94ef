-- Bytes that stand further on than any command that can be read do not change the reading: a file may be cut there.
-- Assumes nothing.
use Prim.Native.Nat.{ℕ, zero, suc, ◌+◌, ◌*◌, ◌≤◌, ◌<◌}
use native.Mathlib.Omega.{arith}
use native.Mathlib.Decide.{dec_lt}
use mathlib.Core.Path.{◌≡◌, refl, sym, ap, ◌∙◌}
use mathlib.Core.Bool.{false, cond}
use mathlib.Core.List.{List}
use lib.ListN.{length, take}
use lib.Seq.{length-take-le, take_all, get_or-take}
use borrow.Author.Tests.{lt-leb, le-ltb}
use Rattle.netlist.specs.Types.{File, Sort, Form, Limits, Counts, Cursor, Next, Command, Refused}
use Rattle.netlist.specs.Types.sort
use Rattle.netlist.specs.Bytes.{byte, operand}
use Rattle.netlist.specs.Commands.{is_sort, form_of, width, needed, pins_used, stray, misfit_from, take_gate, take_care, take_element, take_sort, take_command, next_at}
use Rattle.netlist.specs.Reading.{Reading, Places, no_places, counts_of, noted, finish, on_next, read_from, read_file}
use Rattle.netlist.specs.Writing.{form_for, width_for, Has}
use Rattle.netlist.specs.Read.{farthest}
use Rattle.netlist.proofs.Encoding.{form_for_holds, element_form, width_in, wide_gate, width_gate}
use Rattle.netlist.proofs.OneCommand.{There, next_there}
use Rattle.netlist.proofs.Walk.{finish_more, Near, near_start, near_far, near_noted}

-- where all bytes of a command are there, whichever it is
in_room : (f : File) (most : Limits) (s : List ℕ) (at m : ℕ) (before : Counts) → at + width_for f sort.Gate ≤ m → at < m → m ≤ length s →
    next_at f most s at before ≡ cond (stray at (form_of f (byte s at)).sort) (Refused 2 at) (take_command f most s at before (form_of f (byte s at)))
unfolding next_at
in_room f most s at m before room inside long =
    rw (lt-leb (length s) at (omega arith), le-ltb (length s) (at + width (form_of f (byte s at))) (omega (arith, width_in f (byte s at))))

module _ (f : File) (most : Limits) (s : List ℕ) (m : ℕ) (far : farthest f most ≤ m) (long : m ≤ length s) where
  abbrev cut : List ℕ
  cut = take m s

  length_cut : length cut ≡ m
  length_cut = length-take-le m s long

  byte_cut : (i : ℕ) → i < m → byte cut i ≡ byte s i
  byte_cut i l = get_or-take m s i 0 l

  operand-cut : (at : ℕ) → at + 2 ≤ m → operand cut at ≡ operand s at
  unfolding operand
  operand-cut at l = rw (byte_cut at (omega arith), byte_cut (at + 1) (omega arith))

  misfit-cut : (k i at j : ℕ) → at + 2 * j ≤ m → misfit_from k i cut at j ≡ misfit_from k i s at j
  unfolding misfit_from
  misfit-cut k i at zero l = refl
  misfit-cut k i at (suc j) l = rw (operand-cut at (omega arith), misfit-cut k (i + 1) (at + 2) j (omega arith))

  pins-cut : (place : ℕ) → place + 8 ≤ m → pins_used cut place ≡ pins_used s place
  unfolding pins_used
  pins-cut place l = rw (operand-cut (place + 4) (omega arith), operand-cut (place + 6) (omega arith))

  module _ (at : ℕ) (room : at + width_for f sort.Gate ≤ m) where
    sort_cut : (before : Counts) (form : Form) → at + width form ≤ m → at + form.lead + 2 ≤ m → (taken : Next) (c : Sort) → (c ≡ sort.Element → at + form.lead + 8 ≤ m) → take_sort f most cut at before form taken c ≡ take_sort f most s at before form taken c
    unfolding take_sort take_gate take_care take_element
    sort_cut before form l o taken sort.Inputs p = rw (byte_cut (at + 1) (omega (arith, width_gate f)))
    sort_cut before form l o taken sort.Gate p =
        rw (byte_cut (at + 1) (omega (arith, width_gate f)), misfit-cut (needed f (byte s (at + 1))) 0 (at + form.lead) form.operands (omega arith))
    sort_cut before form l o taken sort.Output p = refl
    sort_cut before form l o taken sort.Care p = rw (operand-cut (at + form.lead) o)
    sort_cut before form l o taken sort.Register p = refl
    sort_cut before form l o taken sort.Element p =
        rw (pins-cut (at + form.lead) (p refl), misfit-cut (pins_used s (at + form.lead)) 0 (at + form.lead) form.operands (omega arith))
    sort_cut before form l o taken sort.End p = refl
    sort_cut before form l o taken sort.Unknown p = refl

    -- a C-element has four pins
    four_pins_holds : (form : Form) → form ≡ form_for f form.sort → at + width form ≤ m → form.sort ≡ sort.Element → at + form.lead + 8 ≤ m
    four_pins_holds form is l e =
        let row = is ∙ ap (form_for f) e in
        let own : Has f sort.Element = sym (ap (λ (x : Form). x.sort) row) ∙ e in
        let same = row ∙ element_form f own in
        rw same (omega (arith, rw same at l))

    next_cut : (before : Counts) → next_at f most cut at before ≡ next_at f most s at before
    unfolding take_command
    next_cut before =
        let inside : at < m = omega (arith, width_gate f) in
        let form = form_of f (byte s at) in
        let taken = Command form.sort (record { at = at + width form }) in
        in_room f most cut at m before room inside (omega (arith, length_cut))
        ∙ ap (λ (b : ℕ). cond (stray at (form_of f b).sort) (Refused 2 at) (take_command f most cut at before (form_of f b))) (byte_cut at inside)
        ∙ ap (λ (x : Next). cond (stray at form.sort) (Refused 2 at) x) (sort_cut before form (omega (arith, width_in f (byte s at))) (omega (arith, width_in f (byte s at))) taken form.sort (four_pins_holds form (form_for_holds f (byte s at)) (omega (arith, width_in f (byte s at)))))
        ∙ sym (in_room f most s at m before room inside long)

    finish-cut : (p : Places) → finish f cut at p ≡ finish f s at p
    finish-cut p = finish_more f cut at p (omega (arith, length_cut, width_gate f)) ∙ sym (finish_more f s at p (omega (arith, width_gate f)))

  near_room : (at : ℕ) (p : Places) → Near f most at (counts_of p) → at + width_for f sort.Gate ≤ m
  near_room at p h = omega (arith, near_far f most h)

  noted-cut : (at : ℕ) (p : Places) (c : Sort) → at + width_for f sort.Gate ≤ m → noted c cut at p ≡ noted c s at p
  unfolding noted
  noted-cut at p sort.Inputs room = rw (byte_cut (at + 1) (omega (arith, width_gate f)))
  noted-cut at p sort.Gate room = refl
  noted-cut at p sort.Output room = refl
  noted-cut at p sort.Care room = rw (operand-cut (at + 1) (omega (arith, wide_gate f)))
  noted-cut at p sort.Register room = refl
  noted-cut at p sort.Element room = refl
  noted-cut at p sort.End room = refl
  noted-cut at p sort.Unknown room = refl

  abbrev Same : (ℕ → Places → Reading) → (ℕ → Places → Reading) → ℕ → Type 0
  Same go go' from = (at : ℕ) (p : Places) → from ≤ at → Near f most at (counts_of p) → go at p ≡ go' at p

  -- after a command that was read both readings go on alike
  module _ (go go' : ℕ → Places → Reading) (at : ℕ) (p : Places) (later : Same go go' (suc at)) (near : Near f most at (counts_of p)) where
    goes_on : (c : Sort) (next : Cursor) → next.at ≡ at + width_for f c → There f most s at (counts_of p) c → is_sort sort.End c ≡ false →
        go next.at (noted c cut at p) ≡ go' next.at (noted c s at p)
    goes_on c next a t more =
        rw (a, noted-cut at p c (near_room at p near))
        (later (at + width_for f c) (noted c s at p) (omega (arith, rw t.command at (width_in f (byte s at)))) (near_noted f most s at p c more near t))

    command-cut : (c : Sort) (next : Cursor) → next.at ≡ at + width_for f c → There f most s at (counts_of p) c → on_next go f cut at p (Command c next) ≡ on_next go' f s at p (Command c next)
    unfolding on_next
    command-cut sort.Inputs next a t = goes_on sort.Inputs next a t refl
    command-cut sort.Gate next a t = goes_on sort.Gate next a t refl
    command-cut sort.Output next a t = goes_on sort.Output next a t refl
    command-cut sort.Care next a t = goes_on sort.Care next a t refl
    command-cut sort.Register next a t = goes_on sort.Register next a t refl
    command-cut sort.Element next a t = goes_on sort.Element next a t refl
    command-cut sort.End next a t = finish-cut at (near_room at p near) p
    command-cut sort.Unknown next a t = goes_on sort.Unknown next a t refl

  read_cut : (fuel fuel' at : ℕ) (p : Places) → m < at + fuel → length s < at + fuel' → Near f most at (counts_of p) → read_from fuel f most cut at p ≡ read_from fuel' f most s at p
  unfolding read_from on_next
  read_cut zero fuel' at p l l' near = absurd (omega (arith, near_room at p near))
  read_cut (suc fuel) zero at p l l' near = absurd (omega (arith, near_room at p near))
  read_cut (suc fuel) (suc fuel') at p l l' near =
      rw (next_cut at (near_room at p near) (counts_of p))
      (go (λ at' p' up near'. read_cut fuel fuel' at' p' (omega arith) (omega arith) near') (next_at f most s at (counts_of p)) refl)
    where
      go : Same (read_from fuel f most cut) (read_from fuel' f most s) (suc at) → (x : Next) → next_at f most s at (counts_of p) ≡ x →
          on_next (read_from fuel f most cut) f cut at p x ≡ on_next (read_from fuel' f most s) f s at p x
      go later (Refused number place) is = refl
      go later (Command c next) is =
          let t = next_there f most s at (counts_of p) c next is in
          command-cut (read_from fuel f most cut) (read_from fuel' f most s) at p later near c next t.0 t.1

-- the reading of a file is that of its first m bytes
pub read_file_take : (f : File) (most : Limits) (s : List ℕ) (m : ℕ) → farthest f most ≤ m → read_file f most (take m s) ≡ read_file f most s
unfolding read_file
read_file_take f most s m far = go (dec_lt m (length s))
  where
    go : Dec (m < length s) → read_from (suc (length (take m s))) f most (take m s) 0 no_places ≡ read_from (suc (length s)) f most s 0 no_places
    go (no h) = ap (λ (l : List ℕ). read_from (suc (length l)) f most l 0 no_places) (take_all m s (omega arith))
    go (yes h) =
        read_cut f most s m far (omega arith) (suc (length (take m s))) (suc (length s)) 0 no_places (omega (arith, length-take-le m s (omega arith))) (omega arith)
        (near_start f most)
