-- What one turn of each loop leaves, and the file of which they put the parts.
-- Assumes nothing.
use Rattle.std.proofs.Common.{◌≡◌, ℕ, suc, ◌+◌, ◌-◌, ◌*◌, ◌<◌, ◌≤◌, Bool, true, false, cond, not, eqb, List, [], ◌∷◌, ◌++◌, length, get_or, set, replicate, sym, refl, ap, ◌∙◌, arith, le-ltb, lt-ltb}
use lib.ListN.{length-map}
use Rattle.netlist.specs.declared.File.TheVariants as file
use Rattle.netlist.specs.Content.{Coded}
use Rattle.netlist.specs.Writing.{gate, write_item}
use Rattle.netlist.proofs.Lists.{All-map}
use Rattle.verdict.specs.Rows.{high}
use Rattle.verdict.proofs.Names.{select_alike}
use Rattle.check_spec.specs.Lists.{numbers, select, some}
use Rattle.make_spec.specs.Marks.{marked}
use Rattle.make_spec.proofs.Marks.{marked_long, marked_alone}
use Rattle.write_command.specs.Put.{Put, coded}
use Rattle.write_command.specs.Parts.{signal_item, bytes_of}
use Rattle.write_command.proofs.Joining.{put-++}
use Rattle.write_command.proofs.Putting.{put_same}
use Rattle.write_command.proofs.Files.{bytes_length, reference_gate_width, reference_output_width, reference_parts, reference_length}
use Rattle.write_command.proofs.Items.{ItemsLeft, items_all, items_room, items_put, items_skip, items_done}
use Rattle.draw_spec.specs.Draws.{gate_from, after_gate, gates_from}
use Rattle.draw_spec.specs.Drawn.{used_by, unused, drawn_reference, drawn_bytes}
use Rattle.draw_spec.proofs.Selected.{selected_few}
use Rattle.draw_spec.proofs.Formed.{parsed, bytes_are, gates_formed, gates_long, used_in}
use Rattle.call_draw.specs.declared.Gate.{Gate}
use Rattle.call_draw.specs.Steps.{operands_of, GateDrawn, unmarked}
use Rattle.call_draw.proofs.Draws.{turn, no_turn}

-- ---- the gates

marked-++ : (marks xs ys : List ℕ) → marked marks (xs ++ ys) ≡ marked (marked marks xs) ys
unfolding marked
marked-++ marks [] ys = refl
marked-++ marks (x ∷ xs) ys = marked-++ (set marks x 1) xs ys

-- k gates are drawn and put ..
pub record GatesTo (seed n g : ℕ) (buffer₀ buffer : List ℕ) (s k : ℕ) : Type 0 where
  pub within : k ≤ g
  pub items : ItemsLeft file.Reference gate buffer₀ 2 (gates_from n g seed) buffer (2 + 6 * k) (gates_from (n + k) (g - k) s)

-- .. and their operands are marked
pub record MarksTo (seed n g : ℕ) (marks₀ marks : List ℕ) (s k : ℕ) : Type 0 where
  pub long : length marks ≡ length marks₀
  pub all : marked marks (used_by (gates_from (n + k) (g - k) s)) ≡ marked marks₀ (used_by (gates_from n g seed))

all_left : (seed n g : ℕ) → gates_from (n + 0) (g - 0) seed ≡ gates_from n g seed
all_left seed n g = let a : n + 0 ≡ n = omega arith in let b : g - 0 ≡ g = omega arith in rw (a, b)

module _ {seed n g : ℕ} where
  pub gates_start : {buffer₀ : List ℕ} → 2 + 6 * g ≤ length buffer₀ → GatesTo seed n g buffer₀ buffer₀ seed 0
  gates_start room = record {
    within = omega arith;
    items = items_all (omega arith) (all_left seed n g)
        (omega (arith, bytes_length file.Reference gate 6 reference_gate_width (gates_from n g seed), gates_long n g seed));
  }

  pub marks_start : (marks₀ : List ℕ) → MarksTo seed n g marks₀ marks₀ seed 0
  marks_start marks₀ = record { long = refl; all = ap (λ (cs : List Coded). marked marks₀ (used_by cs)) (all_left seed n g) }

  module _ {buffer₀ buffer : List ℕ} {s k : ℕ} (t : GatesTo seed n g buffer₀ buffer s k) where
    pub gates_room : k < g → 2 + 6 * k + 6 ≤ length buffer
    gates_room l = omega (arith, items_room t.items (turn n g k s l), reference_gate_width (gate_from (n + k) s))

    pub gates_turn : {after : List ℕ} (r : Gate) → k < g → GateDrawn (n + k) s r
        → Put buffer (2 + 6 * k) (write_item file.Reference (gate (coded r.operation (r.first ∷ r.second ∷ [])))) after
        → GatesTo seed n g buffer₀ after r.state (k + 1)
    gates_turn r l d p = record {
      within = omega arith;
      items = rw d.state
          (items_put t.items (turn n g k s l) (put_same d.command p) (omega (arith, reference_gate_width (gate_from (n + k) s))));
    }

    pub gates_put : g ≤ k → Put buffer₀ 2 (bytes_of file.Reference gate (gates_from n g seed)) buffer
    gates_put l = items_done t.items (no_turn n g k s l)

  module _ {marks₀ marks : List ℕ} {s k : ℕ} (t : MarksTo seed n g marks₀ marks s k) where
    pub marks_turn : {after : List ℕ} (r : Gate) → k < g → GateDrawn (n + k) s r → after ≡ marked marks (operands_of r)
        → MarksTo seed n g marks₀ after r.state (k + 1)
    unfolding used_by
    marks_turn r l d e =
        let later = gates_from (n + (k + 1)) (g - (k + 1)) (after_gate s) in
        record {
          long = ap length e ∙ marked_long marks (operands_of r) ∙ t.long;
          all =
              rw (e, d.state, ← d.operands)
              (sym (marked-++ marks (gate_from (n + k) s).operands (used_by later))
              ∙ sym (ap (λ (cs : List Coded). marked marks (used_by cs)) (turn n g k s l)) ∙ t.all);
        }

    pub gates_marked : g ≤ k → marks ≡ marked marks₀ (used_by (gates_from n g seed))
    unfolding marked used_by
    gates_marked l = sym (ap (λ (cs : List Coded). marked marks (used_by cs)) (no_turn n g k s l)) ∙ t.all

-- ---- the outputs

-- of m signals, those from x on that have no mark
abbrev free_from : List ℕ → ℕ → ℕ → List ℕ
free_from marks m x = select (unmarked marks) (numbers x (m - x))

module _ (marks : List ℕ) (m : ℕ) where
  pub free_all : free_from marks m 0 ≡ select (unmarked marks) (numbers 0 m)
  free_all = let a : m - 0 ≡ m = omega arith in rw a

  module _ (x : ℕ) where
    -- the next one, if it has no mark, and those after it
    at_x : x < m → (b : Bool) → unmarked marks x ≡ b → free_from marks m x ≡ cond b (x ∷ free_from marks m (x + 1)) (free_from marks m (x + 1))
    unfolding select numbers
    at_x l b e = let a : m - x ≡ suc (m - (x + 1)) = omega arith in let s : x + 1 ≡ suc x = omega arith in rw (a, s, e)

    pub free_first : x < m → get_or marks x 0 ≡ 0 → free_from marks m x ≡ x ∷ free_from marks m (x + 1)
    free_first l e = at_x l true (ap not (le-ltb 0 (get_or marks x 0) (omega arith)))

    pub free_passed : x < m → ¬ (get_or marks x 0 ≡ 0) → free_from marks m x ≡ free_from marks m (x + 1)
    free_passed l d = at_x l false (ap not (lt-ltb 0 (get_or marks x 0) (omega arith)))

    pub free_none : m ≤ x → free_from marks m x ≡ []
    unfolding select numbers
    free_none l = let a : m - x ≡ 0 = omega arith in rw a

-- the signals before x are passed
pub record OutputsTo (marks : List ℕ) (m : ℕ) (buffer₀ : List ℕ) (from : ℕ) (buffer : List ℕ) (at x : ℕ) : Type 0 where
  pub within : x ≤ m
  pub items : ItemsLeft file.Reference signal_item buffer₀ from (select (unmarked marks) (numbers 0 m)) buffer at (free_from marks m x)
  pub place : at + 3 * length (free_from marks m x) ≡ from + 3 * length (select (unmarked marks) (numbers 0 m))

-- an output has three bytes
outputs_length : (xs : List ℕ) → length (bytes_of file.Reference signal_item xs) ≡ 3 * length xs
outputs_length = bytes_length file.Reference signal_item 3 (λ v. reference_output_width (v ∷ []))

module _ {marks : List ℕ} {m : ℕ} {buffer₀ : List ℕ} {from : ℕ} where
  pub outputs_start : from + 3 * m ≤ length buffer₀ → OutputsTo marks m buffer₀ from buffer₀ from 0
  outputs_start room = record {
    within = omega arith;
    items = items_all refl (free_all marks m) (omega (arith, outputs_length (select (unmarked marks) (numbers 0 m)), selected_few (unmarked marks) 0 m));
    place = rw (free_all marks m);
  }

  module _ {buffer : List ℕ} {at x : ℕ} (t : OutputsTo marks m buffer₀ from buffer at x) where
    pub outputs_room : x < m → get_or marks x 0 ≡ 0 → at + 3 ≤ length buffer
    outputs_room l e = omega (arith, items_room t.items (free_first marks m x l e), reference_output_width (x ∷ []))

    pub outputs_put_holds : {after left : List ℕ} {next : ℕ} → x < m → get_or marks x 0 ≡ 0 → Put buffer at (write_item file.Reference (signal_item x)) after
        → left ≡ after → next ≡ at + 3 → OutputsTo marks m buffer₀ from left next (x + 1)
    outputs_put_holds l e p b n =
        let f = free_first marks m x l e in
        rw b
        record {
          within = omega arith;
          items = items_put t.items f p (omega (arith, reference_output_width (x ∷ [])));
          place = omega (arith, t.place, ap length f);
        }

    pub outputs_passed : {after : List ℕ} {next : ℕ} → x < m → ¬ (get_or marks x 0 ≡ 0) → after ≡ buffer → next ≡ at
        → OutputsTo marks m buffer₀ from after next (x + 1)
    outputs_passed l d b n =
        let f = free_passed marks m x l d in
        record { within = omega arith; items = items_skip t.items f b n; place = omega (arith, t.place, ap length f) }

    pub outputs_done : m ≤ x
        → (at ≡ from + 3 * length (select (unmarked marks) (numbers 0 m)))
        × Put buffer₀ from (bytes_of file.Reference signal_item (select (unmarked marks) (numbers 0 m))) buffer
    outputs_done l = let e = free_none marks m x l in (omega (arith, t.place, ap length e), items_done t.items e)

-- ---- the whole

module _ (seed n g : ℕ) (some-input : 1 ≤ n) (low : n ≤ 10) (few : g ≤ 40) (marks : List ℕ)
    (all : marks ≡ marked (replicate 50 0) (used_by (gates_from n g seed))) where
  abbrev gates : List Coded
  gates = gates_from n g seed

  abbrev free : List ℕ
  free = select (unmarked marks) (numbers 0 (n + g))

  -- the marks show which signals are used
  marks_show : (y : ℕ) → high marks y ≡ some (eqb y) (used_by gates)
  marks_show y =
      ap (λ (ms : List ℕ). high ms y) all
      ∙ marked_alone 50 (used_by gates) (All-map (λ v. suc v < n + length gates) (λ v. v < 50) (λ v b. omega (arith, gates_long n g seed)) (used_by gates) (used_in n gates (gates_formed n g seed some-input))) y

  -- so those without a mark are the outputs
  outputs-free : free ≡ (parsed seed n g).outputs
  outputs-free = select_alike (unmarked marks) (unused gates) (numbers 0 (n + g)) (λ y i. ap not (marks_show y))

  pub file_long : {end : ℕ} → end ≡ 2 + 6 * g + 3 * length free
      → (end + 1 ≡ length (drawn_bytes seed n g)) × (end + 1 ≡ 3 + 6 * g + 3 * length (drawn_reference seed n g).outputs) × (end + 1 ≤ 393)
  unfolding drawn_reference
  file_long e =
      let o = ap length outputs-free in
      let m = length-map (parsed seed n g).outputs (λ (v : ℕ). v ∷ []) in
      (omega (arith, ap length (bytes_are seed n g), reference_length (parsed seed n g), gates_long n g seed), omega arith, omega (arith, selected_few (unmarked marks) 0 (n + g)))

  pub file_put : {b0 b1 b2 b3 b4 : List ℕ} {end : ℕ} → Put b0 0 (0x01 ∷ n ∷ []) b1 → Put b1 2 (bytes_of file.Reference gate gates) b2
      → Put b2 (2 + 6 * g) (bytes_of file.Reference signal_item free) b3 → Put b3 end (0x00 ∷ []) b4
      → end ≡ 2 + 6 * g + 3 * length free → Put b0 0 (drawn_bytes seed n g) b4
  file_put p q o z e =
      let parts = ap (λ (vs : List ℕ). (0x01 ∷ n ∷ []) ++ (bytes_of file.Reference gate gates ++ (bytes_of file.Reference signal_item vs ++ (0x00 ∷ []))))
      outputs-free in
      put_same (parts ∙ sym (bytes_are seed n g ∙ reference_parts (parsed seed n g)))
      (put-++ p
      (put-++ q
      (put-++ o z (omega (arith, outputs_length free)))
      (omega (arith, bytes_length file.Reference gate 6 reference_gate_width gates, gates_long n g seed)))
      refl)
