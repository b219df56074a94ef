-- The search for 9 goes on by one operand or one command at a time.
-- Assumes nothing.
use Rattle.std.specs.Prelude.{Option, Some, None}
use Prim.Native.Nat.{ℕ, zero, suc, ◌+◌, ◌*◌, ◌-◌, ◌<◌, ◌≤◌}
use native.Mathlib.Omega.{arith}
use mathlib.Core.Path.{◌≡◌, refl, sym, ap, ◌∙◌}
use mathlib.Core.Bool.{Bool, true, false, cond}
use mathlib.Core.List.{List}
use lib.ListN.{length}
use Rattle.netlist.specs.declared.File.{File}
use Rattle.netlist.specs.declared.Sort.{Sort}
use Rattle.netlist.specs.declared.Sort.TheVariants as sort
use Rattle.netlist.specs.declared.Form.{Form}
use Rattle.netlist.specs.Bytes.{byte, operand}
use Rattle.netlist.specs.Commands.{when_found, is_sort, form_of, width, needed, pins_used, used}
use Rattle.netlist.specs.Reading.{Nets, nameless, nameless_at, nameless_from}
use Rattle.read_file.specs.Files.{Follow, FilledTo}
use Rattle.netlist.proofs.Encoding.{needed_in}
use Rattle.netlist.proofs.Operands.{pins_used_in}
use Rattle.netlist.proofs.Walk.{nameless_past}
use Rattle.read_command.proofs.Forms.{few_bytes, form_sort, element_wide}
use Rattle.read_command.proofs.Misfits.{one_less, next_place}

-- ---- operand j of m operands from a place on, with the value v

module _ (test : ℕ → ℕ → Bool) (s : List ℕ) (at m j : ℕ) (more : j < m) (v : ℕ) (read : v ≡ operand s (at + 2 * j)) where
  nameless-step : nameless test j s (at + 2 * j) (suc (m - (j + 1))) ≡ nameless test j s (at + 2 * j) (m - j)
  nameless-step = ap (nameless test j s (at + 2 * j)) (sym (one_less m j more))

  pub nameless_found : test j v ≡ false → nameless test j s (at + 2 * j) (m - j) ≡ Some (at + 2 * j)
  unfolding nameless
  nameless_found h = sym nameless-step ∙ rw (← read, h)

  pub nameless_passed : test j v ≡ true → nameless test j s (at + 2 * j) (m - j) ≡ nameless test (j + 1) s (at + 2 * (j + 1)) (m - (j + 1))
  unfolding nameless
  nameless_passed h =
      let z : suc j ≡ j + 1 = omega arith in
      sym nameless-step ∙ rw (← read, h, next_place at j) (ap (λ (i : ℕ). nameless test i s (at + 2 * (j + 1)) (m - (j + 1))) z)

-- none are left
pub nameless_none : (test : ℕ → ℕ → Bool) (j : ℕ) (s : List ℕ) (at m : ℕ) → m ≡ 0 → nameless test j s at m ≡ None
unfolding nameless
nameless_none test j s at m e = rw e

-- ---- the operands of one command

-- those that a command uses are among those that it has
pub used_in : (f : File) (s : List ℕ) (at b : ℕ) {form : Form} → form ≡ form_of f b → used f s at form ≤ form.operands
unfolding used
used_in f s at b {form} is = go form.sort refl
  where
    go : (c : Sort) → form.sort ≡ c → used f s at form ≤ form.operands
    go sort.Gate e = rw e (rw (ap (λ (x : Form). x.operands) (form_sort f b is e)) (needed_in f (byte s (at + 1))))
    go sort.Output e = rw e (omega arith)
    go sort.Care e = rw e (omega arith)
    go sort.End e = rw e (omega arith)
    go sort.Inputs e = rw e (omega arith)
    go sort.Unknown e = rw e (omega arith)
    go sort.Register e = rw e (omega arith)
    go sort.Element e = rw e (omega (arith, element_wide f b is e, pins_used_in s (at + form.lead)))

-- a command that is no gate and no C-element uses all of its operands
pub used_all : (f : File) (s : List ℕ) (at : ℕ) (form : Form) → (form.sort ≡ sort.Gate → ⊥) → (form.sort ≡ sort.Element → ⊥) → form.operands ≡ used f s at form
unfolding used
used_all f s at form g e = go form.sort g e
  where
    go : (c : Sort) → (c ≡ sort.Gate → ⊥) → (c ≡ sort.Element → ⊥) →
        form.operands ≡ cond (is_sort sort.Gate c) (needed f (byte s (at + 1))) (cond (is_sort sort.Element c) (pins_used s (at + form.lead)) form.operands)
    go sort.End g e = refl
    go sort.Inputs g e = refl
    go sort.Gate g e = absurd (g refl)
    go sort.Output g e = refl
    go sort.Care g e = refl
    go sort.Unknown g e = refl
    go sort.Register g e = refl
    go sort.Element g e = absurd (e refl)

-- ---- the commands of a file, one after the other

-- how many gates stand before the next command
abbrev pub gates_after : ℕ → Sort → ℕ
gates_after k c = cond (is_sort sort.Gate c) (suc k) k

pub after_gate_holds : (k : ℕ) {c : Sort} → c ≡ sort.Gate → gates_after k c ≡ k + 1
after_gate_holds k e = let z : suc k ≡ k + 1 = omega arith in rw e z

pub after_other : (k : ℕ) (c : Sort) → (c ≡ sort.Gate → ⊥) → gates_after k c ≡ k
after_other k sort.End g = refl
after_other k sort.Inputs g = refl
after_other k sort.Gate g = absurd (g refl)
after_other k sort.Output g = refl
after_other k sort.Care g = refl
after_other k sort.Unknown g = refl
after_other k sort.Register g = refl
after_other k sort.Element g = refl

pub after_few : (k : ℕ) (c : Sort) → gates_after k c ≤ k + 1
after_few k c = go (is_sort sort.Gate c)
  where
    go : (b : Bool) → cond b (suc k) k ≤ k + 1
    go true = omega arith
    go false = omega arith

-- the search comes to a position after k gates, and the fuel lasts to the end of the file
pub record Searching (f : File) (N : Nets) (s : List ℕ) (at k : ℕ) : Type 0 where
  pub fuel : ℕ
  pub enough : length s ≤ at + fuel
  pub same : nameless_from (length s) f N s 0 0 ≡ nameless_from fuel f N s at k

pub searching_starts : (f : File) (N : Nets) (s : List ℕ) → Searching f N s 0 0
searching_starts f N s = record { fuel = length s; enough = omega arith; same = refl }

module _ {f : File} {N : Nets} {s : List ℕ} {at k : ℕ} (w : Searching f N s at k) where
  pub searching_past : length s ≤ at → nameless_from (length s) f N s 0 0 ≡ None
  searching_past h = w.same ∙ nameless_past f N s w.fuel at k h

  -- at a command, whose row is form and whose operands were searched
  module _ (here : at < length s) {form : Form} (is : form ≡ form_of f (byte s at)) {found : Option ℕ} (searched : found ≡ nameless_at f N s at k form) where
    searching_step : nameless_from (length s) f N s 0 0
        ≡ when_found found Some (nameless_from (w.fuel - 1) f N s (at + width form) (gates_after k form.sort))
    unfolding nameless_from
    searching_step =
        let p : w.fuel ≡ suc (w.fuel - 1) = omega (arith, w.enough) in
        w.same ∙ ap (λ (x : ℕ). nameless_from x f N s at k) p ∙ rw (← is, ← searched)

    pub searching_goes : found ≡ None → (wide : ℕ) → wide ≡ width form → (k' : ℕ) → gates_after k form.sort ≡ k' → Searching f N s (at + wide) k'
    unfolding when_found
    searching_goes none wide e k' a = record {
      fuel = w.fuel - 1;
      enough = omega (arith, w.enough, few_bytes f (byte s at) is);
      same = searching_step ∙ rw (none, a, ← e);
    }

-- and whole commands follow
pub record Searched (f : File) (N : Nets) (s : List ℕ) (at k : ℕ) : Type 0 where
  pub within : at ≤ length s
  pub counted : k ≤ at
  pub left : ℕ
  pub commands : Follow f s at left (length s)
  pub on : Searching f N s at k

pub search_starts : (f : File) (N : Nets) (s : List ℕ) → FilledTo f s (length s) → Searched f N s 0 0
search_starts f N s w = record { within = omega arith; counted = omega arith; left = w.count; commands = w.commands; on = searching_starts f N s }

-- the search has come to a position
module _ {f : File} {N : Nets} {s : List ℕ} {at k : ℕ} (w : Searched f N s at k) where
  pub search_past : length s ≤ at → nameless_from (length s) f N s 0 0 ≡ None
  search_past h = searching_past w.on h

  -- at a command, whose row is form and whose operands were searched
  module _ (here : at < length s) {form : Form} (is : form ≡ form_of f (byte s at)) where
    pub command_room : at + width form ≤ length s
    unfolding Follow
    command_room = go w.left w.commands
      where
        go : (left : ℕ) → Follow f s at left (length s) → at + width form ≤ length s
        go zero h = absurd (omega arith)
        go (suc left) h = rw is h.0

    module _ {found : Option ℕ} (searched : found ≡ nameless_at f N s at k form) where
      pub search_found : {place : ℕ} → found ≡ Some place → nameless_from (length s) f N s 0 0 ≡ Some place
      unfolding when_found
      search_found e = searching_step w.on here is searched ∙ rw e

      pub search_goes : found ≡ None → (wide : ℕ) → wide ≡ width form → (k' : ℕ) → gates_after k form.sort ≡ k' → k' ≤ k + 1 → Searched f N s (at + wide) k'
      unfolding Follow
      search_goes none wide e k' a few = go w.left w.commands
        where
          go : (left : ℕ) → Follow f s at left (length s) → Searched f N s (at + wide) k'
          go zero h = absurd (omega arith)
          go (suc left) h =
              let one = few_bytes f (byte s at) is in
              let y : width (form_of f (byte s at)) ≡ wide = ap width (sym is) ∙ sym e in
              record {
                within = omega (arith, h.0);
                counted = omega (arith, w.counted);
                left = left;
                commands = rw y at h.1;
                on = searching_goes w.on here is searched none wide e k' a;
              }
