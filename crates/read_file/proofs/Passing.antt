-- The search for 9 while the commands are read: as far as a top tells, every operand before the position names what it has to name.
-- Assumes nothing.
use Rattle.std.specs.Prelude.{None}
use Prim.Native.Nat.{ℕ, ◌+◌, ◌*◌, ◌^◌, ◌≤◌, ◌<◌}
use native.Mathlib.Omega.{arith}
use mathlib.Core.Path.{◌≡◌, refl, sym, ap, subst, ◌∙◌}
use mathlib.Core.Bool.{false}
use mathlib.Core.List.{List, [], ◌∷◌}
use lib.ListN.{length, length-append}
use Rattle.netlist.specs.declared.File.{File}
use Rattle.netlist.specs.declared.Sort.{Sort}
use Rattle.netlist.specs.declared.Sort.TheVariants as sort
use Rattle.netlist.specs.declared.Form.{Form}
use Rattle.netlist.specs.declared.Limits.{Limits}
use Rattle.netlist.specs.declared.Counts.{Counts}
use Rattle.netlist.specs.Bytes.{byte, operand, absent}
use Rattle.netlist.specs.Commands.{is_sort, form_of, width, needed, stray}
use Rattle.netlist.specs.Reading.{Nets, nameless_at, Places, counts_of, noted}
use Rattle.netlist.specs.Writing.{Has, width_for, operand_count}
use Rattle.netlist.proofs.Encoding.{gate_form, care_form, needed_in, width_end}
use Rattle.netlist.proofs.OneCommand.{Taken, There}
use Rattle.netlist.proofs.Operands.{misfit_none, needed_there}
use Rattle.netlist.proofs.Walk.{not_first, first_inputs}
use Rattle.read_command.proofs.Forms.{few_bytes}
use Rattle.read_file.specs.Files.{Reaches, Settled, Stands, Topped, WordAt}
use Rattle.read_file.proofs.Noting.{counts}
use Rattle.read_file.proofs.Search.{gates_after, after_few, Searching, searching_starts, searching_past, searching_goes}
use Rattle.read_file.proofs.Tops.{inputs_named, end_named, care_named}

-- ---- one command more, by the counts

-- gates are counted as the search counts them, and only the inputs command changes the count of inputs
pub gates_noted : (k : Sort) (s : List ℕ) (at : ℕ) (p : Places) → (counts_of (noted k s at p)).gates ≡ gates_after (counts_of p).gates k
unfolding noted
gates_noted sort.Gate s at p = omega (arith, length-append p.gates (at ∷ []))
gates_noted sort.Inputs s at p = refl
gates_noted sort.Output s at p = refl
gates_noted sort.Care s at p = refl
gates_noted sort.Register s at p = refl
gates_noted sort.Element s at p = refl
gates_noted sort.End s at p = refl
gates_noted sort.Unknown s at p = refl

pub inputs_noted : (k : Sort) (s : List ℕ) (at : ℕ) (p : Places) → is_sort sort.Inputs k ≡ false → (counts_of (noted k s at p)).inputs ≡ (counts_of p).inputs
unfolding noted
inputs_noted sort.Inputs s at p e = absurd (let z : ◌≡◌ {A = ℕ} 0 1 = cc in omega arith)
inputs_noted sort.Gate s at p e = refl
inputs_noted sort.Output s at p e = refl
inputs_noted sort.Care s at p e = refl
inputs_noted sort.Register s at p e = refl
inputs_noted sort.Element s at p e = refl
inputs_noted sort.End s at p e = refl
inputs_noted sort.Unknown s at p e = refl

-- ---- the walk

pub record Passing (f : File) (s : List ℕ) (at : ℕ) (c : Counts) (top : ℕ) : Type 0 where
  pub few : c.gates ≤ at
  pub named : (N : Nets) → Reaches f c.inputs top N → Searching f N s at c.gates

pub passing_starts : (f : File) (s : List ℕ) → Passing f s 0 (counts 0 0 0 0 0 0 0) 0
passing_starts f s = record { few = omega arith; named = λ N r. searching_starts f N s }

module _ {f : File} {most : Limits} {s : List ℕ} {at : ℕ} {c : Counts} where
  sort_told : {k : Sort} → There f most s at c k → (form_of f (byte s at)).sort ≡ k
  sort_told t = ap (λ (x : Form). x.sort) t.command ∙ t.own

  -- a command that was read stands there
  pub there_stands : {k : Sort} → There f most s at c k → Stands f s at k
  there_stands {k} t = record { command = t.command; own = t.own; room = t.room; fits = go k t }
    where
      go : (k : Sort) → There f most s at c k → k ≡ sort.Gate → (i : ℕ) → i < needed f (byte s (at + 1)) → operand s (at + 2 + 2 * i) ≡ absent → ⊥
      go k t e i l =
          let gate = subst (There f most s at c) e t in
          let fits = (subst (λ (form : Form). Taken f most s at c form sort.Gate) (gate_form f) gate.taken).2 in
          let fit = misfit_none (needed f (byte s (at + 1))) 0 s (at + 2) (operand_count f sort.Gate) fits i (omega (arith, needed_in f (byte s (at + 1)))) in
          let z : 0 + i ≡ i = omega arith in
          needed_there (needed f (byte s (at + 1))) i (operand s (at + 2 + 2 * i)) (rw z at fit) l

  -- a care word that follows others is read as one
  pub word_there : Has f sort.Care → 1 ≤ at → {below : ℕ} → below ≤ 2 ^ c.inputs → WordAt s at c.floor below → There f most s at c sort.Care
  unfolding stray
  word_there own later few h = record {
    own = own;
    command = ap (form_of f) h.command;
    ordered = not_first at later;
    room = omega (arith, ap width (care_form f own), h.room);
    taken = subst (λ (form : Form). Taken f most s at c form sort.Care) (sym (care_form f own)) (omega (arith, h.low), h.high);
  }

  pub care_topped : There f most s at c sort.Care → (top : ℕ) → Topped f s at c top top
  care_topped t top = λ N r. (r, care_named f N s at c.gates (sort_told t))

  -- after a command
  module _ {top : ℕ} (p : Passing f s at c top) where
    searched : {k : Sort} → There f most s at c k → (N : Nets) → Searching f N s at c.gates → nameless_at f N s at c.gates (form_of f (byte s at)) ≡ None → Searching f N s (at + width_for f k) (gates_after c.gates k)
    searched {k} t N w none =
        let one = few_bytes f (byte s at) {form = form_of f (byte s at)} refl in
        searching_goes w (omega (arith, t.room, ap width t.command)) {form = form_of f (byte s at)} refl refl none (width_for f k) (sym (ap width t.command)) (gates_after c.gates k)
        (ap (gates_after c.gates) (sort_told t))

    searched_on : {k : Sort} → There f most s at c k → {top' : ℕ} → Topped f s at c top top' → {n : ℕ} → n ≡ c.inputs → (N : Nets) → Reaches f n top' N →
        Searching f N s (at + width_for f k) (gates_after c.gates k)
    searched_on t more e N r =
        let m = more N (record { inputs_same = r.inputs_same ∙ e; countable = r.countable; far = r.far }) in
        searched t N (p.named N m.0) m.1

    -- the inputs command stands first, where the search has not begun
    searched_first : There f most s at c sort.Inputs → (N : Nets) → Searching f N s (at + width_for f sort.Inputs) (gates_after c.gates sort.Inputs)
    searched_first t N =
        let z : at ≡ 0 = first_inputs at t.ordered in
        let y : c.gates ≡ 0 = omega (arith, p.few) in
        let begun : Searching f N s at c.gates = rw (z, y) (searching_starts f N s) in
        searched t N begun (inputs_named f N s at c.gates (sort_told t))

    pub passes : (k : Sort) → There f most s at c k → {top' : ℕ} → Topped f s at c top top' → {c' : Counts} → c'.gates ≡ gates_after c.gates k →
        (is_sort sort.Inputs k ≡ false → c'.inputs ≡ c.inputs) → Passing f s (at + width_for f k) c' top'
    passes k t {top'} more {c'} gates inputs =
        let one = few_bytes f (byte s at) {form = form_of f (byte s at)} refl in
        record { few = omega (arith, one, ap width t.command, p.few, after_few c.gates k); named = λ N r. rw gates (go k t inputs N r) }
      where
        go : (k : Sort) → There f most s at c k → (is_sort sort.Inputs k ≡ false → c'.inputs ≡ c.inputs) → (N : Nets) → Reaches f c'.inputs top' N →
            Searching f N s (at + width_for f k) (gates_after c.gates k)
        go sort.Inputs t inputs N r = searched_first t N
        go sort.Gate t inputs N r = searched_on t more (inputs refl) N r
        go sort.Output t inputs N r = searched_on t more (inputs refl) N r
        go sort.Care t inputs N r = searched_on t more (inputs refl) N r
        go sort.Register t inputs N r = searched_on t more (inputs refl) N r
        go sort.Element t inputs N r = searched_on t more (inputs refl) N r
        go sort.End t inputs N r = searched_on t more (inputs refl) N r
        go sort.Unknown t inputs N r = searched_on t more (inputs refl) N r

    -- at the end command
    pub settled : There f most s at c sort.End → length s ≤ at + 1 → Settled f s c.inputs top
    settled t last = λ N r. searching_past (searched t N (p.named N r) (end_named f N s at c.gates (sort_told t))) (omega (arith, width_end f))
