-- A file that is refused is refused by one of the numbers 1 to 9, 18 and 19.
-- Assumes nothing.
use Rattle.std.specs.Prelude.{Option, Some, None}
use Prim.Native.Nat.{ℕ, zero, suc, ◌+◌, ◌^◌, ◌≤◌, ◌<◌}
use native.Mathlib.Omega.{arith}
use mathlib.Core.Path.{◌≡◌, subst}
use mathlib.Core.Bool.{Bool, true, false, cond, ◌&&◌}
use mathlib.Core.List.{List}
use lib.ListN.{length}
use lib.Dec.{eqb, leb, ltb}
use Rattle.netlist.specs.declared.File.{File}
use Rattle.netlist.specs.declared.Sort.{Sort}
use Rattle.netlist.specs.declared.Sort.TheVariants as sort
use Rattle.netlist.specs.declared.Form.{Form}
use Rattle.netlist.specs.declared.Limits.{Limits}
use Rattle.netlist.specs.declared.Counts.{Counts}
use Rattle.netlist.specs.declared.Next.{Next}
use Rattle.netlist.specs.declared.Next.TheVariants.{Command, Refused}
use Rattle.netlist.specs.Bytes.{byte, operand}
use Rattle.netlist.specs.Commands.{when_found, is_sort, form_of, most_parts, width, needed, pins_used, stray, misfit_from, take_gate, take_care, take_element, take_sort, take_command, next_at}
use Rattle.netlist.specs.Reading.{Places, no_places, Reading, refused, readable, nameless_from, finish, on_next, noted, counts_of, nets_of, read_from, read_file}

abbrev pub InTable : ℕ → Type 0
InTable number = (1 ≤ number) × (number ≤ 19) × (9 < number → 18 ≤ number)

abbrev NextNumbered : Next → Type 0
NextNumbered (Refused number at) = InTable number
NextNumbered (Command c next) = Unit {0}

abbrev Numbered : Reading → Type 0
Numbered (refused number at) = InTable number
Numbered (readable p) = Unit {0}

either : {X : Type 0} (P : X → Type 0) (b : Bool) (x y : X) → P x → P y → P (cond b x y)
either P true x y p q = p
either P false x y p q = q

unless-found : {X : Type 0} (P : X → Type 0) (x : Option ℕ) (there : ℕ → X) (none : X) → ((place : ℕ) → P (there place)) → P none → P (when_found x there none)
unfolding when_found
unless-found P (Some place) there none p q = p place
unless-found P None there none p q = q

module _ (f : File) (most : Limits) (s : List ℕ) (at : ℕ) (before : Counts) where
  sort_numbered : (form : Form) (taken : Next) → NextNumbered taken → (c : Sort) → NextNumbered (take_sort f most s at before form taken c)
  unfolding take_sort take_gate take_care take_element
  sort_numbered form taken h sort.Inputs = either NextNumbered (leb 1 (byte s (at + 1)) && leb (byte s (at + 1)) most.inputs) taken _ h (omega arith)
  sort_numbered form taken h sort.Gate =
      let k = needed f (byte s (at + 1)) in
      either NextNumbered (leb most.gates before.gates) (Refused 6 at) _ (omega arith)
      (either NextNumbered (eqb k 0) (Refused 4 (at + 1)) _ (omega arith)
      (unless-found NextNumbered (misfit_from k 0 s (at + form.lead) form.operands) (λ place. Refused 5 place) taken (λ place. omega arith) h))
  sort_numbered form taken h sort.Output = either NextNumbered (leb most.outputs before.outputs) (Refused 6 at) taken (omega arith) h
  sort_numbered form taken h sort.Care =
      let w = operand s (at + form.lead) in
      either NextNumbered (ltb w (2 ^ before.inputs)) _ (Refused 18 (at + form.lead))
      (either NextNumbered (ltb w before.floor) (Refused 19 (at + form.lead)) taken (omega arith) h) (omega arith)
  sort_numbered form taken h sort.Register = either NextNumbered (leb most_parts before.registers) (Refused 6 at) taken (omega arith) h
  sort_numbered form taken h sort.Element =
      either NextNumbered (leb most_parts before.elements) (Refused 6 at) _ (omega arith)
      (unless-found NextNumbered (misfit_from (pins_used s (at + form.lead)) 0 s (at + form.lead) form.operands) (λ place. Refused 5 place) taken (λ place. omega arith) h)
  sort_numbered form taken h sort.End = h
  sort_numbered form taken h sort.Unknown = h

  next-numbered : NextNumbered (next_at f most s at before)
  unfolding next_at take_command
  next-numbered =
      let form = form_of f (byte s at) in
      either NextNumbered (leb (length s) at) (Refused 1 (length s)) _ (omega arith)
      (either NextNumbered (stray at form.sort) (Refused 2 at) _ (omega arith)
      (either NextNumbered (ltb (length s) (at + width form)) (Refused 1 (length s)) _ (omega arith)
      (sort_numbered form (Command form.sort (record { at = at + width form })) tt form.sort)))

finish-numbered : (f : File) (s : List ℕ) (at : ℕ) (p : Places) → Numbered (finish f s at p)
unfolding finish
finish-numbered f s at p =
    either Numbered (eqb (length p.outputs) 0) (refused 8 at) _ (omega arith)
    (either Numbered (ltb (at + 1) (length s)) (refused 7 (at + 1)) _ (omega arith)
    (unless-found Numbered (nameless_from (length s) f (nets_of p) s 0 0) (refused 9) (readable p) (λ place. omega arith) tt))

read_numbered : (fuel : ℕ) (f : File) (most : Limits) (s : List ℕ) (at : ℕ) (p : Places) → Numbered (read_from fuel f most s at p)
unfolding read_from on_next
read_numbered zero f most s at p = omega arith
read_numbered (suc fuel) f most s at p = go (next_at f most s at (counts_of p)) (next-numbered f most s at (counts_of p)) (read_numbered fuel f most s)
  where
    go : (x : Next) → NextNumbered x → ((at : ℕ) (p : Places) → Numbered (read_from fuel f most s at p)) → Numbered (on_next (read_from fuel f most s) f s at p x)
    go (Refused number place) h later = h
    go (Command c next) h later = either Numbered (is_sort sort.End c) (finish f s at p) (read_from fuel f most s next.at (noted c s at p)) (finish-numbered f s at p) (later next.at (noted c s at p))

pub refused_number : (f : File) (most : Limits) (s : List ℕ) (number at : ℕ) → read_file f most s ≡ refused number at → InTable number
unfolding read_file
refused_number f most s number at e = subst Numbered e (read_numbered (suc (length s)) f most s 0 no_places)
