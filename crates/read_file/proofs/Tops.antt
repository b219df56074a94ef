-- 9 while the commands are read: operands below a top that is within reach name what they have to name.
-- Assumes nothing.
use Rattle.std.specs.Prelude.{None}
use Prim.Native.Nat.{ℕ, zero, suc, ◌+◌, ◌*◌, ◌^◌, ◌≤◌, ◌<◌}
use native.Mathlib.Omega.{arith}
use mathlib.Core.Path.{◌≡◌, refl, ap, ◌∙◌}
use mathlib.Core.Bool.{Bool, true, false}
use mathlib.Core.List.{List}
use lib.ListN.{length}
use borrow.Author.Tests.{lt-ltb}
use Rattle.netlist.specs.declared.File.{File}
use Rattle.netlist.specs.declared.File.TheVariants as file
use Rattle.netlist.specs.declared.Sort.{Sort}
use Rattle.netlist.specs.declared.Sort.TheVariants as sort
use Rattle.netlist.specs.declared.Form.{Form}
use Rattle.netlist.specs.declared.Counts.{Counts}
use Rattle.netlist.specs.Bytes.{byte, operand}
use Rattle.netlist.specs.Commands.{command_table, own_commands, form_in, form_of, role_of, needed, used}
use Rattle.netlist.specs.Reading.{Nets, carries_data, names, asked, nameless, nameless_at}
use Rattle.netlist.specs.Writing.{form_for, operand_count}
use Rattle.netlist.proofs.Encoding.{clash, gate_form, output_form, width_gate, width_output, needed_in}
use Rattle.read_file.specs.Files.{Countable, reach, Reaches, Below, Stands, Topped}

-- ---- a top

pub reach_nets : (f : File) → (f ≡ file.Reference → ⊥) → (n g : ℕ) → 2 * n + g ≡ reach f n g
unfolding reach
reach_nets file.Stage staged n g = refl
reach_nets file.Pipeline staged n g = refl
reach_nets file.Reference staged n g = absurd (staged refl)

-- nothing that can be counted reaches so far
reach-in : (f : File) (n g : ℕ) → Countable n g → reach f n g < 2 ^ 32
unfolding reach
reach-in file.Stage n g h = h
reach-in file.Pipeline n g h = h
reach-in file.Reference n g h = omega arith

-- ---- what the operands of a command name

each_named : (test : ℕ → ℕ → Bool) (s : List ℕ) (i at m : ℕ) → ((j : ℕ) → j < m → test (i + j) (operand s (at + 2 * j)) ≡ true) → nameless test i s at m ≡ None
unfolding nameless
each_named test s i at zero h = refl
each_named test s i at (suc m) h =
    let z : i + 0 ≡ i = omega arith in
    let y : at + 2 * 0 ≡ at = omega arith in
    let first : test i (operand s at) ≡ true = rw (z, y) at (h 0 (omega arith)) in
    rw first (each_named test s (suc i) (at + 2) m (later h))
  where
    later : ((j : ℕ) → j < suc m → test (i + j) (operand s (at + 2 * j)) ≡ true) → (j : ℕ) → j < m → test (suc i + j) (operand s (at + 2 + 2 * j)) ≡ true
    later h j l =
        let z : i + suc j ≡ suc i + j = omega arith in
        let y : at + 2 * suc j ≡ at + 2 + 2 * j = omega arith in
        rw (z, y) at (h (suc j) (omega arith))

-- each operand that a command uses is asked what its role says
command-named : (f : File) (N : Nets) (s : List ℕ) (at k : ℕ) (form : Form) →
    ((j : ℕ) → j < used f s at form → asked f form.sort N k j (operand s (at + form.lead + 2 * j)) ≡ true) → nameless_at f N s at k form ≡ None
unfolding nameless_at
command-named f N s at k form h =
    each_named (asked f form.sort N k) s 0 (at + form.lead) (used f s at form) (λ j l. let z : 0 + j ≡ j = omega arith in rw z (h j l))

module _ (f : File) (N : Nets) (s : List ℕ) (at k : ℕ) where
  gate-named : form_of f (byte s at) ≡ form_for f sort.Gate →
      ((j : ℕ) → j < needed f (byte s (at + 1)) → asked f sort.Gate N k j (operand s (at + 2 + 2 * j)) ≡ true) → nameless_at f N s at k (form_of f (byte s at)) ≡ None
  unfolding used
  gate-named is h = rw (is, gate_form f) (command-named f N s at k _ h)

  output_named : form_of f (byte s at) ≡ form_for f sort.Output →
      ((j : ℕ) → j < operand_count f sort.Output → asked f sort.Output N k j (operand s (at + 1 + 2 * j)) ≡ true) → nameless_at f N s at k (form_of f (byte s at)) ≡ None
  unfolding used
  output_named is h = rw (is, output_form f) (command-named f N s at k _ h)

  -- the operands of some commands are numbers, and name nothing
  plain_named : {c : Sort} → (form_of f (byte s at)).sort ≡ c → ((j v : ℕ) → asked f c N k j v ≡ true) → nameless_at f N s at k (form_of f (byte s at)) ≡ None
  plain_named told h = command-named f N s at k (form_of f (byte s at)) (λ j l. rw told (h j (operand s (at + (form_of f (byte s at)).lead + 2 * j))))

  number_asked : (c : Sort) → (c ≡ sort.Gate → ⊥) → (c ≡ sort.Output → ⊥) → (c ≡ sort.Register → ⊥) → (c ≡ sort.Element → ⊥) → (j v : ℕ) → asked f c N k j v ≡ true
  unfolding role_of names
  number_asked sort.End g o r e j v = refl
  number_asked sort.Inputs g o r e j v = refl
  number_asked sort.Gate g o r e j v = absurd (g refl)
  number_asked sort.Output g o r e j v = absurd (o refl)
  number_asked sort.Care g o r e j v = refl
  number_asked sort.Unknown g o r e j v = refl
  number_asked sort.Register g o r e j v = absurd (r refl)
  number_asked sort.Element g o r e j v = absurd (e refl)

  number_named : {c : Sort} → (form_of f (byte s at)).sort ≡ c → (c ≡ sort.Gate → ⊥) → (c ≡ sort.Output → ⊥) → (c ≡ sort.Register → ⊥) → (c ≡ sort.Element → ⊥) → nameless_at f N s at k (form_of f (byte s at)) ≡ None
  number_named {c} told g o r e = plain_named told (number_asked c g o r e)

  pub inputs_named : (form_of f (byte s at)).sort ≡ sort.Inputs → nameless_at f N s at k (form_of f (byte s at)) ≡ None
  unfolding role_of names
  inputs_named told = plain_named told (λ j v. refl)

  pub end_named : (form_of f (byte s at)).sort ≡ sort.End → nameless_at f N s at k (form_of f (byte s at)) ≡ None
  unfolding role_of names
  end_named told = plain_named told (λ j v. refl)

  pub care_named : (form_of f (byte s at)).sort ≡ sort.Care → nameless_at f N s at k (form_of f (byte s at)) ≡ None
  unfolding role_of names
  care_named told = plain_named told (λ j v. refl)

-- ---- a top after a command

-- a number within reach, by what operands of a gate or an output are asked
net-named : (f : File) (N : Nets) (k i v : ℕ) → (f ≡ file.Reference → ⊥) → v < reach f N.inputs N.gates → (asked f sort.Gate N k i v ≡ true) × (asked f sort.Output N k i v ≡ true)
unfolding reach role_of names carries_data
net-named file.Stage N k i v staged l = (lt-ltb _ _ l, lt-ltb _ _ l)
net-named file.Pipeline N k i v staged l = let e = lt-ltb v (2 * N.inputs + N.gates) l in (rw e, rw e)
net-named file.Reference N k i v staged l = absurd (staged refl)

signal_named : (N : Nets) (k i v : ℕ) → v < reach file.Reference N.inputs N.gates → asked file.Reference sort.Output N k i v ≡ true
unfolding reach role_of names
signal_named N k i v l = lt-ltb _ _ l

earlier_named : (N : Nets) (k i v : ℕ) → v < N.inputs + k → asked file.Reference sort.Gate N k i v ≡ true
unfolding role_of names
earlier_named N k i v l = lt-ltb _ _ l

-- how many operands they have
stage_counts : (f : File) → (f ≡ file.Reference → ⊥) → (operand_count f sort.Gate ≡ 4) × (operand_count f sort.Output ≡ 2)
unfolding command_table own_commands form_in
stage_counts file.Stage staged = (refl, refl)
stage_counts file.Pipeline staged = (refl, refl)
stage_counts file.Reference staged = absurd (staged refl)

reference_counts : (operand_count file.Reference sort.Gate ≡ 2) × (operand_count file.Reference sort.Output ≡ 1)
unfolding command_table own_commands form_in
reference_counts = (refl, refl)

-- what reaches a top reaches a lower one
reaches-less : {f : File} {n top top' : ℕ} {N : Nets} → top ≤ top' → Reaches f n top' N → Reaches f n top N
reaches-less up r = record { inputs_same = r.inputs_same; countable = r.countable; far = omega (arith, r.far) }

-- the code's matches tell the sort and the file
pub stands_as : {f : File} {s : List ℕ} {at : ℕ} {c c' : Sort} → c ≡ c' → Stands f s at c → Stands f s at c'
stands_as told h = rw told at h

pub stands_in : {f f' : File} {s : List ℕ} {at : ℕ} {c : Sort} → f ≡ f' → Stands f s at c → Stands f' s at c
stands_in told h = rw told at h

-- the operands of a gate or an output are there
module _ {f : File} {s : List ℕ} {at : ℕ} where
  pub stage_gate_room : (f ≡ file.Reference → ⊥) → Stands f s at sort.Gate → at + 2 + 2 * 4 ≤ length s
  stage_gate_room staged h = omega (arith, h.room, width_gate f, stage_counts f staged)

  pub stage_output_room : (f ≡ file.Reference → ⊥) → Stands f s at sort.Output → at + 1 + 2 * 2 ≤ length s
  stage_output_room staged h = omega (arith, h.room, width_output f, stage_counts f staged)

module _ {s : List ℕ} {at : ℕ} where
  pub operation_room : Stands file.Reference s at sort.Gate → at + 2 + 2 * 2 ≤ length s
  operation_room h = omega (arith, h.room, width_gate file.Reference, reference_counts)

  pub signal_room : Stands file.Reference s at sort.Output → at + 1 + 2 * 1 ≤ length s
  signal_room h = omega (arith, h.room, width_output file.Reference, reference_counts)

pub top_asked : (f : File) (s : List ℕ) (at : ℕ) (before : Counts) (top : ℕ) → Topped f s at before top (2 ^ 32)
top_asked f s at before top = λ N r. absurd (omega (arith, r.far, reach-in f N.inputs N.gates r.countable))

module _ {f : File} {s : List ℕ} {at : ℕ} (before : Counts) (top : ℕ) where
  pub top_number : {c : Sort} → Stands f s at c → (c ≡ sort.Gate → ⊥) → (c ≡ sort.Output → ⊥) → (c ≡ sort.Register → ⊥) → (c ≡ sort.Element → ⊥) → Topped f s at before top top
  top_number h g o r e = λ N w. (w, number_named f N s at before.gates (ap (λ (x : Form). x.sort) h.command ∙ h.own) g o r e)

  module _ (staged : f ≡ file.Reference → ⊥) {top' : ℕ} (up : top ≤ top') where
    pub top_gate : Stands f s at sort.Gate → Below s (at + 2) 4 true top' → Topped f s at before top top'
    top_gate h low =
        λ N r. (
          reaches-less up r,
          gate-named f N s at before.gates h.command (λ j l.
              let below = low j (omega (arith, needed_in f (byte s (at + 1)), stage_counts f staged)) (λ spare. h.fits refl j l) in
              (net-named f N before.gates j (operand s (at + 2 + 2 * j)) staged (omega (arith, r.far))).0),
        )

    pub top_output : Stands f s at sort.Output → Below s (at + 1) 2 false top' → Topped f s at before top top'
    top_output h low =
        λ N r. (
          reaches-less up r,
          output_named f N s at before.gates h.command (λ j l.
              let below = low j (omega (arith, stage_counts f staged)) (λ e. absurd (clash (cc))) in
              (net-named f N before.gates j (operand s (at + 1 + 2 * j)) staged (omega (arith, r.far))).1),
        )

module _ {s : List ℕ} {at : ℕ} (before : Counts) (top : ℕ) where
  -- an operation whose operands are inputs or earlier ones
  pub top_operation : Stands file.Reference s at sort.Gate → {high : ℕ} → Below s (at + 2) 2 true high → high ≤ before.inputs + before.gates → Topped file.Reference s at before top top
  top_operation h low early =
      λ N r. (
        r,
        gate-named file.Reference N s at before.gates h.command (λ j l.
            let below = low j (omega (arith, needed_in file.Reference (byte s (at + 1)), reference_counts)) (λ spare. h.fits refl j l) in
            earlier_named N before.gates j (operand s (at + 2 + 2 * j)) (omega (arith, r.inputs_same))),
      )

  pub top_signal : {top' : ℕ} → top ≤ top' → Stands file.Reference s at sort.Output → Below s (at + 1) 1 false top' → Topped file.Reference s at before top top'
  top_signal up h low =
      λ N r. (
        reaches-less up r,
        output_named file.Reference N s at before.gates h.command (λ j l.
            let below = low j (omega (arith, reference_counts)) (λ e. absurd (clash (cc))) in
            signal_named N before.gates j (operand s (at + 1 + 2 * j)) (omega (arith, r.far))),
      )
