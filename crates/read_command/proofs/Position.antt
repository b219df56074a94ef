-- The command at a position, as the code comes to it: by what is left of the file, and then by its sort.
-- Assumes nothing.
use Prim.Native.Nat.{ℕ, ◌+◌, ◌-◌, ◌≤◌, ◌<◌}
use native.Mathlib.Omega.{arith}
use mathlib.Core.Path.{◌≡◌, sym, ap}
use mathlib.Core.Bool.{Bool, true, false}
use mathlib.Core.Logic.{◌⊎◌, inl, inr}
use mathlib.Core.List.{List}
use lib.ListN.{length}
use borrow.Author.Tests.{le-leb, lt-leb, lt-ltb, le-ltb}
use Rattle.netlist.specs.declared.File.{File}
use Rattle.netlist.specs.declared.Sort.{Sort}
use Rattle.netlist.specs.declared.Sort.TheVariants as sort
use Rattle.netlist.specs.declared.Form.{Form}
use Rattle.netlist.specs.declared.Limits.{Limits}
use Rattle.netlist.specs.declared.Counts.{Counts}
use Rattle.netlist.specs.declared.Next.{Next}
use Rattle.netlist.specs.declared.Next.TheVariants.{Command, Refused}
use Rattle.netlist.specs.Bytes.{byte}
use Rattle.netlist.specs.Commands.{form_of, width, stray, take_sort, take_command, next_at}

module _ (f : File) (most : Limits) (s : List ℕ) (at : ℕ) (before : Counts) where
  pub next_past : length s ≤ at → next_at f most s at before ≡ Refused 1 (length s)
  unfolding next_at
  next_past h = rw (le-leb (length s) at h)

  -- a byte stands there, whose row is form; whether it is stray is b, and its command has w bytes
  module _ (here : at < length s) (form : Form) (is : form ≡ form_of f (byte s at)) (b : Bool) (strays : b ≡ stray at form.sort) where
    pub next_stray : b ≡ true → next_at f most s at before ≡ Refused 2 at
    unfolding next_at
    next_stray e = rw (lt-leb (length s) at here, ← is, ← strays, e)

    module _ (ordered : b ≡ false) (w : ℕ) (wide : w ≡ width form) where
      pub next_cut : length s - at < w → next_at f most s at before ≡ Refused 1 (length s)
      unfolding next_at
      next_cut h = rw (lt-leb (length s) at here, ← is, ← strays, ordered, lt-ltb (length s) (at + width form) (omega arith))

      -- all of its bytes are there
      pub next_whole : w ≤ length s - at → next_at f most s at before ≡ take_command f most s at before form
      unfolding next_at
      next_whole h = rw (lt-leb (length s) at here, ← is, ← strays, ordered, le-ltb (length s) (at + width form) (omega arith))

  -- and then by its sort
  module _ (form : Form) (w : ℕ) (wide : w ≡ width form) where
    abbrev pub taken : Next
    taken = Command form.sort (record { at = at + w })

    pub by_sort : (c : Sort) → form.sort ≡ c → take_command f most s at before form ≡ take_sort f most s at before form taken c
    unfolding take_command
    by_sort c told = rw (← wide) (ap (take_sort f most s at before form taken) told)

    -- the end command, and what stands for no command: nothing is refused here
    pub by_rest : (form.sort ≡ sort.End) ⊎ (form.sort ≡ sort.Unknown) → taken ≡ take_command f most s at before form
    unfolding take_sort
    by_rest (inl e) = sym (by_sort sort.End e)
    by_rest (inr e) = sym (by_sort sort.Unknown e)
