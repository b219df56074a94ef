-- Noting a command more: what stands in the lent list then, by its sort.
-- Assumes nothing.
use Prim.Native.Nat.{ℕ, ◌+◌, ◌*◌, ◌-◌, ◌/◌, ◌%◌, ◌≤◌, ◌<◌}
use native.Mathlib.Omega.{arith}
use native.Mathlib.Numerals.{add-one}
use mathlib.Core.Path.{◌≡◌, refl, sym, ap, ap₂, ◌∙◌}
use mathlib.Core.Logic.{◌⊎◌, inl, inr}
use mathlib.Core.List.{List, [], ◌∷◌, ◌++◌, map, map-append}
use lib.ListN.{length, take, drop, set, length-append, length-set, length-drop}
use lib.Seq.{take-suc-set, take-set-le, drop-set-lt, drop-set-add}
use Rattle.netlist.specs.declared.Sort.{Sort}
use Rattle.netlist.specs.declared.Sort.TheVariants as sort
use Rattle.netlist.specs.declared.Limits.{Limits}
use Rattle.netlist.specs.declared.Counts.{Counts}
use Rattle.netlist.specs.Bytes.{byte, operand}
use Rattle.netlist.specs.Reading.{count_of, sorts_of, noted}
use Rattle.netlist.proofs.Walk.{floor_snoc, count_snoc}
use Rattle.read_file.specs.Files.{sort_noted, part_noted, first_part, first_care, standing, RoomOf, Notable, NotedIn}

-- ---- a list in which one number is written

module _ (l : List ℕ) (v : ℕ) where
  -- right behind some numbers from an offset on
  segment_more : (from n : ℕ) → from + n < length l → take (n + 1) (drop from (set l (from + n) v)) ≡ take n (drop from l) ++ (v ∷ [])
  segment_more from n h = rw (add-one, drop-set-add from l n v, take-suc-set (drop from l) n v (simp length-drop (omega arith)))

  -- behind them, or before
  segment_kept : (from n i : ℕ) → from + n ≤ i → take n (drop from (set l i v)) ≡ take n (drop from l)
  segment_kept from n i h =
      let e : i ≡ from + (i - from) = omega arith in
      ap (λ (j : ℕ). take n (drop from (set l j v))) e ∙ rw (drop-set-add from l (i - from) v, take-set-le n (drop from l) (i - from) v (omega arith))

  segment_later : (from n i : ℕ) → i < from → take n (drop from (set l i v)) ≡ take n (drop from l)
  segment_later from n i h = rw (drop-set-lt from l i v h)

-- one more of a list that is counted
one_more : {A : Type 0} (xs : List A) (x : A) (k : ℕ) → length xs ≡ k → length (xs ++ (x ∷ [])) ≡ k + 1
one_more xs x k e = omega (arith, length-append xs (x ∷ []))

-- ---- the notes

pub note_register : (at : ℕ) → part_noted (2 * at) ≡ (sort.Register, at)
unfolding sort_noted
note_register at =
    let r : (2 * at) % 2 ≡ 0 = omega arith in
    let q : 2 * at / 2 ≡ at = omega arith in
    rw (r, q)

pub note_element : (at : ℕ) → part_noted (2 * at + 1) ≡ (sort.Element, at)
unfolding sort_noted
note_element at =
    let r : (2 * at + 1) % 2 ≡ 1 = omega arith in
    let q : (2 * at + 1) / 2 ≡ at = omega arith in
    rw (r, q)

-- ---- one command more

-- the counts, number by number
abbrev pub counts : ℕ → ℕ → ℕ → ℕ → ℕ → ℕ → ℕ → Counts
counts n g o k w r e = record { inputs = n; gates = g; outputs = o; care = k; floor = w; registers = r; elements = e }

-- the code's match tells the sort
pub notable_as : {k k' : Sort} {most : Limits} {s : List ℕ} {at : ℕ} {c : Counts} {long : ℕ} → k ≡ k' → Notable k most s at c long → Notable k' most s at c long
notable_as told h = rw told at h

module _ (most : Limits) (s : List ℕ) (at : ℕ) (places : List ℕ) (c : Counts) where
  abbrev Room : Sort → Type 0
  Room k = Notable k most s at c (length places)

  abbrev Done : Sort → List ℕ → Counts → Type 0
  Done k places' c' = NotedIn k most s at places c places' c'

  pub noted_inputs : {v : ℕ} → v ≡ byte s (at + 1) → Done sort.Inputs places (counts v c.gates c.outputs c.care c.floor c.registers c.elements)
  unfolding noted
  noted_inputs {v} is = record {
    long = refl;
    same = rw is;
    counted = λ e. ap₂ (λ (n : ℕ) (x : Counts). counts n x.gates x.outputs x.care x.floor x.registers x.elements) (sym is) e;
  }

  pub noted_gate : Room sort.Gate → Done sort.Gate (set places c.gates at) (counts c.inputs (c.gates + 1) c.outputs c.care c.floor c.registers c.elements)
  unfolding noted RoomOf
  noted_gate h = record {
    long = length-set places c.gates at;
    same = rw (
      add-one,
      take-suc-set places c.gates at (omega (arith, h.more, h.space)),
      segment_later places at most.gates c.outputs c.gates h.more,
      segment_later places at (first_part most) (c.registers + c.elements) c.gates (omega (arith, h.more)),
      segment_later places at (first_care most) c.care c.gates (omega (arith, h.more)),
    );
    counted = λ e. ap₂ (λ (g : ℕ) (x : Counts). counts x.inputs g x.outputs x.care x.floor x.registers x.elements)
        (one_more (take c.gates places) at c.gates (ap (λ (x : Counts). x.gates) e)) e;
  }

  pub noted_output : Room sort.Output → Done sort.Output (set places (most.gates + c.outputs) at)
      (counts c.inputs c.gates (c.outputs + 1) c.care c.floor c.registers c.elements)
  unfolding noted RoomOf
  noted_output h =
      let i : ℕ = most.gates + c.outputs in
      record {
        long = length-set places i at;
        same = rw (
          segment_kept places at 0 c.gates i (omega (arith, h.gates_in_holds)),
          segment_more places at most.gates c.outputs (omega (arith, h.more, h.space)),
          segment_later places at (first_part most) (c.registers + c.elements) i (omega (arith, h.more)),
          segment_later places at (first_care most) c.care i (omega (arith, h.more)),
        );
        counted = λ e. ap₂ (λ (o : ℕ) (x : Counts). counts x.inputs x.gates o x.care x.floor x.registers x.elements)
            (one_more (take c.outputs (drop most.gates places)) at c.outputs (ap (λ (x : Counts). x.outputs) e)) e;
      }

  -- the place of one more register or C-element, and what stands there then
  module _ (more : c.registers + c.elements < 2 * 64) (space : first_care most ≤ length places) (gates_in_holds : c.gates ≤ most.gates) (outputs_in_holds : c.outputs ≤ most.outputs) where
    abbrev behind : ℕ
    behind = first_part most + (c.registers + c.elements)

    part-stands : (v : ℕ) → (r e : ℕ) → r + e ≡ c.registers + c.elements + 1 →
        standing most (set places behind v) (counts c.inputs c.gates c.outputs c.care c.floor r e)
        ≡ record {
          inputs = c.inputs;
          gates = take c.gates places;
          outputs = take c.outputs (drop most.gates places);
          care = take c.care (drop (first_care most) places);
          parts = map part_noted (take (c.registers + c.elements) (drop (first_part most) places)) ++ (part_noted v ∷ []);
        }
    part-stands v r e one = rw (
      one,
      segment_kept places v 0 c.gates behind (omega arith),
      segment_kept places v most.gates c.outputs behind (omega arith),
      segment_more places v (first_part most) (c.registers + c.elements) (omega arith),
      segment_later places v (first_care most) c.care behind (omega arith),
      map-append part_noted (take (c.registers + c.elements) (drop (first_part most) places)) (v ∷ []),
    )

  pub noted_register : Room sort.Register → Done sort.Register (set places (first_part most + (c.registers + c.elements)) (2 * at))
      (counts c.inputs c.gates c.outputs c.care c.floor (c.registers + 1) c.elements)
  unfolding noted RoomOf
  noted_register h =
      let ps = (standing most places c).parts in
      record {
        long = length-set places (first_part most + (c.registers + c.elements)) (2 * at);
        same = part-stands h.more h.space h.gates_in_holds h.outputs_in_holds (2 * at) (c.registers + 1) c.elements (omega arith) ∙ rw (note_register at);
        counted = λ e.
            let more : count_of sort.Register (sorts_of (ps ++ ((sort.Register, at) ∷ []))) ≡ count_of sort.Register (sorts_of ps) + 1 = count_snoc sort.Register ps sort.Register at in
            let none : count_of sort.Element (sorts_of (ps ++ ((sort.Register, at) ∷ []))) ≡ count_of sort.Element (sorts_of ps) = omega (arith, count_snoc sort.Element ps sort.Register at) in
            rw (more, none) (ap (λ (x : Counts). counts x.inputs x.gates x.outputs x.care x.floor (x.registers + 1) x.elements) e);
      }

  pub noted_element : Room sort.Element → Done sort.Element (set places (first_part most + (c.registers + c.elements)) (2 * at + 1))
      (counts c.inputs c.gates c.outputs c.care c.floor c.registers (c.elements + 1))
  unfolding noted RoomOf
  noted_element h =
      let ps = (standing most places c).parts in
      record {
        long = length-set places (first_part most + (c.registers + c.elements)) (2 * at + 1);
        same = part-stands h.more h.space h.gates_in_holds h.outputs_in_holds (2 * at + 1) c.registers (c.elements + 1) (omega arith) ∙ rw (note_element at);
        counted = λ e.
            let more : count_of sort.Element (sorts_of (ps ++ ((sort.Element, at) ∷ []))) ≡ count_of sort.Element (sorts_of ps) + 1 = count_snoc sort.Element ps sort.Element at in
            let none : count_of sort.Register (sorts_of (ps ++ ((sort.Element, at) ∷ []))) ≡ count_of sort.Register (sorts_of ps) = omega (arith, count_snoc sort.Register ps sort.Element at) in
            rw (more, none) (ap (λ (x : Counts). counts x.inputs x.gates x.outputs x.care x.floor x.registers (x.elements + 1)) e);
      }

  pub noted_care : Room sort.Care → {v : ℕ} → v ≡ operand s (at + 1) →
      Done sort.Care (set places (first_care most + c.care) v) (counts c.inputs c.gates c.outputs (c.care + 1) (v + 1) c.registers c.elements)
  unfolding noted RoomOf
  noted_care h {v} is =
      let i : ℕ = first_care most + c.care in
      let words = take c.care (drop (first_care most) places) in
      record {
        long = length-set places i v;
        same = rw (
          ← is,
          segment_kept places v 0 c.gates i (omega (arith, h.gates_in_holds)),
          segment_kept places v most.gates c.outputs i (omega (arith, h.outputs_in_holds)),
          segment_kept places v (first_part most) (c.registers + c.elements) i (omega (arith, h.parts_in)),
          segment_more places v (first_care most) c.care h.more.1,
        );
        counted = λ e. rw (← is, floor_snoc 0 words v)
            (ap₂ (λ (k : ℕ) (x : Counts). counts x.inputs x.gates x.outputs k (v + 1) x.registers x.elements)
            (one_more words v c.care (ap (λ (x : Counts). x.care) e)) e);
      }

  -- nothing is noted of the other commands
  pub noted_other : (k : Sort) → (k ≡ sort.End) ⊎ (k ≡ sort.Unknown) → Done k places c
  unfolding noted
  noted_other k (inl e) = rw e (record { long = refl; same = refl; counted = λ e. e })
  noted_other k (inr e) = rw e (record { long = refl; same = refl; counted = λ e. e })
