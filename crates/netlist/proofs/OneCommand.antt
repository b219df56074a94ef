-- The command at a position: the reader takes it exactly where it is there, in order, whole, and as its sort asks.
-- Assumes nothing.
use Rattle.std.specs.Prelude.{Option, Some, None}
use Prim.Native.Nat.{ℕ, ◌+◌, ◌^◌, ◌≤◌, ◌<◌}
use native.Mathlib.Omega.{arith}
use mathlib.Core.Path.{◌≡◌, refl, sym, ap, subst, subst₂, ◌∙◌}
use mathlib.Core.Bool.{Bool, true, false, cond, ◌&&◌}
use mathlib.Core.List.{List}
use lib.ListN.{length}
use lib.Dec.{eqb, leb, ltb}
use borrow.Author.Tests.{le-leb, lt-leb, lt-ltb, le-ltb, ne_eqb, leb-true, leb-false, ltb-true, ltb-false, eqb-false}
use Rattle.netlist.specs.Types.{File, Sort, Form, Limits, Counts, Cursor, Next, Command, Refused}
use Rattle.netlist.specs.Types.sort
use Rattle.netlist.specs.Bytes.{byte, operand}
use Rattle.netlist.specs.Commands.{when_found, form_of, most_parts, width, needed, pins_used, stray, misfit_from, take_gate, take_care, take_element, take_sort, take_command, next_at}
use Rattle.netlist.specs.Writing.{form_for, width_for}
use Rattle.netlist.proofs.Encoding.{clash, form_for_holds, width_in}

-- ---- tests that were passed

module _ {k : Sort} {next : Cursor} where
  passed : (x : Bool) (number place : ℕ) {later : Next} → cond x (Refused number place) later ≡ Command k next → (x ≡ false) × (later ≡ Command k next)
  passed true number place e = absurd (clash (cc))
  passed false number place e = (refl, e)

  met : (x : Bool) (number place : ℕ) {later : Next} → cond x later (Refused number place) ≡ Command k next → (x ≡ true) × (later ≡ Command k next)
  met true number place e = (refl, e)
  met false number place e = absurd (clash (cc))

  fitted : (x : Option ℕ) {later : Next} → when_found x (Refused 5) later ≡ Command k next → (x ≡ None) × (later ≡ Command k next)
  unfolding when_found
  fitted (Some p) e = absurd (clash (cc))
  fitted None e = (refl, e)

&&-both : (x y : Bool) → (x && y) ≡ true → (x ≡ true) × (y ≡ true)
&&-both true y e = (refl, e)
&&-both false y e = absurd (clash (cc))

-- ---- one command

-- what the reader asks of a command of a sort, all of whose bytes are there, beside what its row says
abbrev pub Taken : File → Limits → List ℕ → ℕ → Counts → Form → Sort → Type 0
Taken f most s at before form sort.Inputs = (1 ≤ byte s (at + 1)) × (byte s (at + 1) ≤ most.inputs)
Taken f most s at before form sort.Gate =
    (before.gates < most.gates)
    × (1 ≤ needed f (byte s (at + 1)))
    × (misfit_from (needed f (byte s (at + 1))) 0 s (at + form.lead) form.operands ≡ None)
Taken f most s at before form sort.Output = before.outputs < most.outputs
Taken f most s at before form sort.Care = (operand s (at + form.lead) < 2 ^ before.inputs) × (before.floor ≤ operand s (at + form.lead))
Taken f most s at before form sort.Register = before.registers < most_parts
Taken f most s at before form sort.Element =
    (before.elements < most_parts) × (misfit_from (pins_used s (at + form.lead)) 0 s (at + form.lead) form.operands ≡ None)
Taken f most s at before form sort.End = Unit {0}
Taken f most s at before form sort.Unknown = Unit {0}

-- it is a command of the file and stands there, where it may stand, with all of its bytes
pub record There (f : File) (most : Limits) (s : List ℕ) (at : ℕ) (before : Counts) (c : Sort) : Type 0 where
  pub own : (form_for f c).sort ≡ c
  pub command : form_of f (byte s at) ≡ form_for f c
  pub ordered : stray at c ≡ false
  pub room : at + width_for f c ≤ length s
  pub taken : Taken f most s at before (form_for f c) c

module _ (f : File) (most : Limits) (s : List ℕ) (at : ℕ) (before : Counts) where
  module _ (form : Form) {later : Next} where
    sort_taken : {k : Sort} {next : Cursor} (c : Sort) → take_sort f most s at before form later c ≡ Command k next → (later ≡ Command k next) × Taken f most s at before form c
    unfolding take_sort take_gate take_care take_element
    sort_taken sort.Inputs e =
        let t = met (leb 1 (byte s (at + 1)) && leb (byte s (at + 1)) most.inputs) 3 (at + 1) e in
        let b = &&-both (leb 1 (byte s (at + 1))) (leb (byte s (at + 1)) most.inputs) t.0 in
        (t.1, (leb-true 1 (byte s (at + 1)) b.0, leb-true (byte s (at + 1)) most.inputs b.1))
    sort_taken sort.Gate e =
        let room = passed (leb most.gates before.gates) 6 at e in
        let known = passed (eqb (needed f (byte s (at + 1))) 0) 4 (at + 1) room.1 in
        let fit = fitted (misfit_from (needed f (byte s (at + 1))) 0 s (at + form.lead) form.operands) known.1 in
        let some = eqb-false (needed f (byte s (at + 1))) 0 known.0 in
        (fit.1, (leb-false most.gates before.gates room.0, omega arith, fit.0))
    sort_taken sort.Output e = let t = passed (leb most.outputs before.outputs) 6 at e in (t.1, leb-false most.outputs before.outputs t.0)
    sort_taken sort.Care e =
        let w = operand s (at + form.lead) in
        let t = met (ltb w (2 ^ before.inputs)) 18 (at + form.lead) e in
        let u = passed (ltb w before.floor) 19 (at + form.lead) t.1 in
        (u.1, (ltb-true w (2 ^ before.inputs) t.0, ltb-false w before.floor u.0))
    sort_taken sort.Register e = let t = passed (leb most_parts before.registers) 6 at e in (t.1, leb-false most_parts before.registers t.0)
    sort_taken sort.Element e =
        let room = passed (leb most_parts before.elements) 6 at e in
        let fit = fitted (misfit_from (pins_used s (at + form.lead)) 0 s (at + form.lead) form.operands) room.1 in
        (fit.1, (leb-false most_parts before.elements room.0, fit.0))
    sort_taken sort.End e = (e, tt)
    sort_taken sort.Unknown e = (e, tt)

    taken_sort : (c : Sort) → Taken f most s at before form c → take_sort f most s at before form later c ≡ later
    unfolding take_sort take_gate take_care take_element when_found
    taken_sort sort.Inputs t = rw (le-leb 1 (byte s (at + 1)) t.0, le-leb (byte s (at + 1)) most.inputs t.1)
    taken_sort sort.Gate t = rw (lt-leb most.gates before.gates t.0, ne_eqb (needed f (byte s (at + 1))) 0 (λ z. omega (arith, t.1)), t.2)
    taken_sort sort.Output t = rw (lt-leb most.outputs before.outputs t)
    taken_sort sort.Care t = rw (lt-ltb (operand s (at + form.lead)) (2 ^ before.inputs) t.0, le-ltb (operand s (at + form.lead)) before.floor t.1)
    taken_sort sort.Register t = rw (lt-leb most_parts before.registers t)
    taken_sort sort.Element t = rw (lt-leb most_parts before.elements t.0, t.1)
    taken_sort sort.End t = refl
    taken_sort sort.Unknown t = refl

  -- a command that was read is there
  pub next_there : (k : Sort) (next : Cursor) → next_at f most s at before ≡ Command k next → (next.at ≡ at + width_for f k) × There f most s at before k
  unfolding next_at take_command
  next_there k next e =
      let form = form_of f (byte s at) in
      let inside = passed (leb (length s) at) 1 (length s) e in
      let ordered = passed (stray at form.sort) 2 at inside.1 in
      let room = passed (ltb (length s) (at + width form)) 1 (length s) ordered.1 in
      let taken = sort_taken form form.sort room.1 in
      let read = taken.0 in
      let k-same : form.sort ≡ k = cc in
      let after : record { at = at + width form } ≡ next = cc in
      let is : form ≡ form_for f k = form_for_holds f (byte s at) ∙ ap (form_for f) k-same in (
        sym (ap (λ (x : Cursor). x.at) after) ∙ ap (λ (x : Form). at + width x) is,
        record {
          own = sym (ap (λ (x : Form). x.sort) is) ∙ k-same;
          command = is;
          ordered = rw k-same at ordered.0;
          room = rw is at (ltb-false (length s) (at + width form) room.0);
          taken = subst₂ (Taken f most s at before) is k-same taken.1;
        },
      )

  -- and one that is there is read
  command-taken : (form : Form) (c : Sort) → form.sort ≡ c → Taken f most s at before form c →
      take_command f most s at before form ≡ Command c (record { at = at + width form })
  unfolding take_command
  command-taken form c e t =
      taken_sort form form.sort (subst (Taken f most s at before form) (sym e) t) ∙ ap (λ (x : Sort). Command x (record { at = at + width form })) e

  pub there_next : (c : Sort) → There f most s at before c → next_at f most s at before ≡ Command c (record { at = at + width_for f c })
  unfolding next_at
  there_next c t =
      let one = rw t.command at (width_in f (byte s at)) in
      rw (t.command, lt-leb (length s) at (omega (arith, t.room, one)), ap (stray at) t.own ∙ t.ordered, le-ltb (length s) (at + width_for f c) t.room)
      (command-taken (form_for f c) c t.own t.taken)
