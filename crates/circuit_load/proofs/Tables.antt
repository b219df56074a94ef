-- A register or C-element in both tables, by its note; and one after the other.
-- Assumes nothing.
use Rattle.std.specs.Prelude.{None}
use Prim.Native.Nat.{ℕ, zero, suc, ◌+◌, ◌*◌, ◌/◌, ◌%◌, ◌≤◌, ◌<◌}
use native.Mathlib.Omega.{arith}
use native.Mathlib.Decide.{ℕ_discrete, dec_lt}
use mathlib.Core.Path.{◌≡◌, refl, sym, ap, ◌∙◌}
use mathlib.Core.List.{List, [], ◌∷◌, ◌++◌, map}
use lib.ListN.{length, get_or, drop, drop_of_length-le, get_or-eq_default}
use lib.Seq.{drop-cons}
use borrow.Author.Tests.{eq-eqb, ne_eqb}
use Rattle.netlist.specs.Bytes.{operand, operands, absent}
use Rattle.netlist.specs.Commands.{pins_used, misfit_from}
use Rattle.netlist.specs.Read.{RegisterRead, ElementRead, PartRead}
use Rattle.netlist.specs.Writing.{All}
use Rattle.netlist.proofs.Operands.{length_operands, misfit_none, bare_absent}
use Rattle.read_file.specs.Files.{sort_noted, part_noted}
use Rattle.wiring_spec.specs.Parts.{Register, Part, register, element, part_at}
use Rattle.write_command.specs.Put.{Put}
use Rattle.write_command.proofs.Joining.{put-++, put_none, Left, left_put, left_room, left_none}
use Rattle.circuit_load.specs.declared.Spot.{Spot}
use Rattle.circuit_load.specs.Parts.{rail_row, ko_row, net_rows, register_rows, NotesRead, parts_in, spot_after, PartPut}

-- ---- the command of a note

module _ (s : List ℕ) (note : ℕ) where
  abbrev at : ℕ
  at = note / 2

  abbrev pins : List ℕ
  pins = operands s (at + 1) (pins_used s (at + 1))

  abbrev wires : Register
  wires = record { data0 = operand s (at + 1); data1 = operand s (at + 3); ki = operand s (at + 5) }

  module _ (odd : note % 2 ≡ 1) (r : NotesRead s (note ∷ [])) where
    element_read : ElementRead r.file s r.nets at
    unfolding sort_noted
    element_read = rw (eq-eqb (note % 2) 1 odd) at r.each.0

    part-element : part_at s (part_noted note) ≡ element pins
    unfolding sort_noted
    part-element = rw (eq-eqb (note % 2) 1 odd)

    pub element_room : at + 9 ≤ length s
    element_room = element_read.room

  module _ (even : note % 2 ≡ 1 → ⊥) (r : NotesRead s (note ∷ [])) where
    register_read : RegisterRead r.file s r.nets at
    unfolding sort_noted
    register_read = rw (ne_eqb (note % 2) 1 even) at r.each.0

    part-register : part_at s (part_noted note) ≡ register wires
    unfolding sort_noted
    part-register = rw (ne_eqb (note % 2) 1 even)

  -- either has three operands at least
  pub note_room : NotesRead s (note ∷ []) → at + 7 ≤ length s
  note_room r = go (ℕ_discrete (note % 2) 1)
    where
      go : Dec (note % 2 ≡ 1) → at + 7 ≤ length s
      go (yes odd) = omega (arith, element_room odd r)
      go (no even) = (register_read even r).room

-- the four numbers at a C-element's pins: those that it uses, and FFFF at the others
operand-there : (s : List ℕ) (place m i : ℕ) → i < m → get_or (operands s place m) i absent ≡ operand s (place + 2 * i)
unfolding operands
operand-there s place zero i l = absurd (omega arith)
operand-there s place (suc m) zero l = let e : place + 2 * 0 ≡ place = omega arith in rw e
operand-there s place (suc m) (suc i) l = let e : place + 2 * suc i ≡ place + 2 + 2 * i = omega arith in rw e (operand-there s (place + 2) m i (omega arith))

pin_number_lem : (s : List ℕ) (place : ℕ) → misfit_from (pins_used s place) 0 s place 4 ≡ None → (i : ℕ) → i < 4 →
    get_or (operands s place (pins_used s place)) i absent ≡ operand s (place + 2 * i)
pin_number_lem s place fits i l = go (dec_lt i (pins_used s place))
  where
    go : Dec (i < pins_used s place) → get_or (operands s place (pins_used s place)) i absent ≡ operand s (place + 2 * i)
    go (yes d) = operand-there s place (pins_used s place) i d
    go (no d) =
        let z : 0 + i ≡ i = omega arith in
        get_or-eq_default (operands s place (pins_used s place)) absent (omega (arith, length_operands s place (pins_used s place)))
        ∙ sym (bare_absent (pins_used s place) i (operand s (place + 2 * i)) (rw z at (misfit_none (pins_used s place) 0 s place 4 fits i l)) (omega arith))

-- ---- one part

module _ (s : List ℕ) (note first : ℕ) (here : Spot) where
  abbrev x : ℕ
  x = here.net

  abbrev k : ℕ
  k = here.register

  module _ (odd : note % 2 ≡ 1) (r : NotesRead s (note ∷ [])) where
    pub element_rows : length (net_rows k (parts_in s (note ∷ []))) ≡ 8
    unfolding net_rows
    element_rows = rw (part-element s note odd r)

    row_same : net_rows k (part_at s (part_noted note) ∷ [])
        ≡ 3 ∷ operand s (note / 2 + 1) ∷ operand s (note / 2 + 3) ∷ operand s (note / 2 + 5) ∷ operand s (note / 2 + 7) ∷ 0 ∷ 0 ∷ 0 ∷ []
    unfolding net_rows
    row_same =
        let fits = (element_read s note odd r).fits in
        let a : note / 2 + 1 + 2 * 0 ≡ note / 2 + 1 = omega arith in
        let b : note / 2 + 1 + 2 * 1 ≡ note / 2 + 3 = omega arith in
        let c : note / 2 + 1 + 2 * 2 ≡ note / 2 + 5 = omega arith in
        let d : note / 2 + 1 + 2 * 3 ≡ note / 2 + 7 = omega arith in
        let pin = pin_number_lem s (note / 2 + 1) fits in
        rw (part-element s note odd r, pin 0 (omega arith), pin 1 (omega arith), pin 2 (omega arith), pin 3 (omega arith), a, b, c, d)

    pub element_put : {a b c d : ℕ} {nets nets' regs : List ℕ} → a ≡ operand s (note / 2 + 1) → b ≡ operand s (note / 2 + 3) → c ≡ operand s (note / 2 + 5) →
        d ≡ operand s (note / 2 + 7) → Put nets (8 * x) (3 ∷ a ∷ b ∷ c ∷ d ∷ 0 ∷ 0 ∷ 0 ∷ []) nets' →
        PartPut (part_at s (part_noted note)) first here nets nets' regs regs (record { net = x + 1; register = k })
    unfolding register_rows
    element_put {nets} {nets'} {regs} ea eb ec ed p = record {
      nets_put = rw (row_same, ← ea, ← eb, ← ec, ← ed) p;
      registers_put = rw (part-element s note odd r) (put_none regs (4 * k));
      after = rw (part-element s note odd r);
    }

  module _ (even : note % 2 ≡ 1 → ⊥) (r : NotesRead s (note ∷ [])) where
    pub register_rows_holds : (length (net_rows k (parts_in s (note ∷ []))) ≡ 24) × (length (register_rows (first + x) (parts_in s (note ∷ []))) ≡ 4)
    unfolding net_rows register_rows
    register_rows_holds = (rw (part-register s note even r), rw (part-register s note even r))

    pub register_put : {a b c : ℕ} {nets nets1 nets2 nets' regs regs' : List ℕ} → a ≡ operand s (note / 2 + 1) → b ≡ operand s (note / 2 + 3) → c ≡ operand s (note / 2 + 5) →
        Put nets (8 * x) (rail_row a k) nets1 → Put nets1 (8 * (x + 1)) (rail_row b k) nets2 → Put nets2 (8 * (x + 2)) (ko_row k) nets' →
        Put regs (4 * k) ((first + x) ∷ a ∷ b ∷ c ∷ []) regs' →
        PartPut (part_at s (part_noted note)) first here nets nets' regs regs' (record { net = x + 3; register = k + 1 })
    unfolding net_rows register_rows
    register_put ea eb ec p q t u = record {
      nets_put = rw (part-register s note even r, ← ea, ← eb) (put-++ p (put-++ q t (omega arith)) (omega arith));
      registers_put = rw (part-register s note even r, ← ea, ← eb, ← ec) u;
      after = rw (part-register s note even r);
    }

-- ---- one after the other

-- what the tables lack, where a loop that loads some parts has come to part i
pub record PartsLeft (parts : List Part) (first : ℕ) (nets₀ nets regs₀ regs : List ℕ) (here : Spot) (i : ℕ) : Type 0 where
  pub nets_left : Left nets₀ 0 (net_rows 0 parts) nets (8 * here.net) (net_rows here.register (drop i parts))
  pub registers_left : Left regs₀ 0 (register_rows first parts) regs (4 * here.register) (register_rows (first + here.net) (drop i parts))
  pub few_nets : here.net ≤ 3 * i
  pub few_registers : here.register ≤ i

drop-parts : (s notes : List ℕ) (i : ℕ) → drop i (parts_in s notes) ≡ parts_in s (drop i notes)
drop-parts s notes zero = refl
drop-parts s [] (suc i) = refl
drop-parts s (note ∷ notes) (suc i) = drop-parts s notes i

-- a note among others
pub note_read : {s notes : List ℕ} (i : ℕ) → NotesRead s notes → i < length notes → NotesRead s (get_or notes i 0 ∷ [])
note_read {s} {notes} i r h = record { file = r.file; nets = r.nets; each = (go notes i h r.each, tt) }
  where
    go : (notes : List ℕ) (i : ℕ) → i < length notes → All (PartRead r.file s r.nets) (map part_noted notes) → PartRead r.file s r.nets (part_noted (get_or notes i 0))
    go [] i h a = absurd (omega arith)
    go (note ∷ notes) zero h a = a.0
    go (note ∷ notes) (suc i) h a = go notes i (omega arith) a.1

-- the rows of a part, then those of the parts after it
module _ (part : Part) (parts : List Part) (first : ℕ) (here : Spot) where
  nets-split : net_rows here.register (part ∷ parts) ≡ net_rows here.register (part ∷ []) ++ net_rows (spot_after part here).register parts
  unfolding net_rows
  nets-split = go part
    where
      go : (part : Part) → net_rows here.register (part ∷ parts) ≡ net_rows here.register (part ∷ []) ++ net_rows (spot_after part here).register parts
      go (register r) = refl
      go (element pins) = refl

  registers-split : register_rows (first + here.net) (part ∷ parts)
      ≡ register_rows (first + here.net) (part ∷ []) ++ register_rows (first + (spot_after part here).net) parts
  unfolding register_rows
  registers-split = go part
    where
      go : (part : Part) → register_rows (first + here.net) (part ∷ parts)
          ≡ register_rows (first + here.net) (part ∷ []) ++ register_rows (first + (spot_after part here).net) parts
      go (register r) = let e : first + here.net + 3 ≡ first + (here.net + 3) = omega arith in rw e
      go (element pins) = let e : first + here.net + 1 ≡ first + (here.net + 1) = omega arith in rw e

-- where they end
pub record Ends (part : Part) (first : ℕ) (here next : Spot) : Type 0 where
  pub nets : 8 * next.net ≡ 8 * here.net + length (net_rows here.register (part ∷ []))
  pub registers : 4 * next.register ≡ 4 * here.register + length (register_rows (first + here.net) (part ∷ []))
  pub few_nets : next.net ≤ here.net + 3
  pub few_registers : next.register ≤ here.register + 1

ends : (part : Part) (first : ℕ) (here : Spot) → Ends part first here (spot_after part here)
unfolding net_rows register_rows
ends (register r) first here = record { nets = omega arith; registers = omega arith; few_nets = omega arith; few_registers = omega arith }
ends (element pins) first here = record { nets = omega arith; registers = omega arith; few_nets = omega arith; few_registers = omega arith }

module _ (s notes : List ℕ) {first : ℕ} {nets₀ regs₀ : List ℕ} where
  module _ {nets regs : List ℕ} {here : Spot} {i : ℕ} (l : PartsLeft (parts_in s notes) first nets₀ nets regs₀ regs here i) (h : i < length notes) where
    abbrev part : Part
    part = part_at s (part_noted (get_or notes i 0))

    abbrev later : List Part
    later = drop (suc i) (parts_in s notes)

    next-part : drop i (parts_in s notes) ≡ part ∷ later
    next-part = drop-parts s notes i ∙ ap (parts_in s) (drop-cons notes i 0 h) ∙ ap (λ (parts : List Part). part ∷ parts) (sym (drop-parts s notes (suc i)))

    nets-next : net_rows here.register (drop i (parts_in s notes)) ≡ net_rows here.register (part ∷ []) ++ net_rows (spot_after part here).register later
    nets-next = ap (net_rows here.register) next-part ∙ nets-split part later first here

    registers-next : register_rows (first + here.net) (drop i (parts_in s notes))
        ≡ register_rows (first + here.net) (part ∷ []) ++ register_rows (first + (spot_after part here).net) later
    registers-next = ap (register_rows (first + here.net)) next-part ∙ registers-split part later first here

    pub parts_room : (8 * here.net + length (net_rows here.register (part ∷ [])) ≤ length nets)
        × (4 * here.register + length (register_rows (first + here.net) (part ∷ [])) ≤ length regs)
    parts_room = (
      left_room (net_rows here.register (part ∷ [])) (net_rows (spot_after part here).register later) l.nets_left nets-next,
      left_room (register_rows (first + here.net) (part ∷ [])) (register_rows (first + (spot_after part here).net) later) l.registers_left registers-next,
    )

    pub parts_put : {nets' regs' : List ℕ} {next : Spot} → PartPut part first here nets nets' regs regs' next →
        PartsLeft (parts_in s notes) first nets₀ nets' regs₀ regs' next (i + 1)
    parts_put {nets'} {regs'} {next} p =
        let one : suc i ≡ i + 1 = omega arith in
        let e = ends part first here in
        rw (p.after, ← one)
        (record {
          nets_left = left_put _ _ l.nets_left nets-next p.nets_put e.nets;
          registers_left = left_put _ _ l.registers_left registers-next p.registers_put e.registers;
          few_nets = omega (arith, e.few_nets, l.few_nets);
          few_registers = omega (arith, e.few_registers, l.few_registers);
        })

  -- none is left
  pub parts_done : {nets regs : List ℕ} {here : Spot} {i : ℕ} → PartsLeft (parts_in s notes) first nets₀ nets regs₀ regs here i → length notes ≤ i →
      Put nets₀ 0 (net_rows 0 (parts_in s notes)) nets × Put regs₀ 0 (register_rows first (parts_in s notes)) regs
  unfolding net_rows register_rows
  parts_done {here = here} {i = i} l h =
      let none : drop i (parts_in s notes) ≡ [] = drop-parts s notes i ∙ ap (parts_in s) (drop_of_length-le notes h) in
      (left_none l.nets_left (ap (net_rows here.register) none), left_none l.registers_left (ap (register_rows (first + here.net)) none))
