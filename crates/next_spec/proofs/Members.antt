-- Each stage of the family has a number among those of its shape, and each number without a loop is of the family.
-- Assumes nothing.
use Prim.Native.Nat.{ℕ, zero, suc, ◌+◌, ◌*◌, ◌-◌, ◌/◌, ◌%◌, ◌≤◌, ◌<◌}
use native.Mathlib.Omega.{arith}
use native.Mathlib.Nat.{mod-lt}
use mathlib.Core.Path.{◌≡◌, refl, sym, ap, ap₂, subst, ◌∙◌}
use mathlib.Core.Bool.{true}
use mathlib.Core.Logic.{inl}
use mathlib.Core.List.{List, [], ◌∷◌}
use lib.ListN.{length}
use Rattle.gates.specs.Cell.{kind_of, pin_count, cell_at, cells}
use Rattle.netlist.specs.declared.File.TheVariants.{Stage}
use Rattle.netlist.specs.Commands.{needed, pins_needed, command_table, own_commands, form_in}
use Rattle.netlist.specs.Reading.{Nets, readable, stage_limits}
use Rattle.netlist.specs.Content.{Coded, stage_of}
use Rattle.netlist.specs.Writing.{All}
use Rattle.netlist.proofs.Readable.{pins_in_holds, in_pins, rails_in_holds, in_rails}
use Rattle.netlist.proofs.Formed.{GatesFormed, OutputFormed}
use Rattle.netlist.proofs.Stages.{write_stage_no_care}
use Rattle.check_spec.specs.Content.{Content, content_at, content_of}
use Rattle.check_spec.specs.Verdicts.{refusal, reading}
use Rattle.check_spec.specs.Demands.{Pass}
use Rattle.check_spec.proofs.Formed as formed
use Rattle.check_spec.proofs.Formed.{Formed, read_formed, written_reads}
use Rattle.check_spec.proofs.View.{stage_partless}
use Rattle.check_spec.proofs.Back.{stage_content, stage_write}
use Rattle.next_spec.specs.Numbered.{nets_of, stages, lists, first, second, pair_numbered, gate_numbered, gates_numbered, stage_numbered}
use Rattle.next_spec.specs.Listing.{InShape, free, Listed}
use Rattle.next_spec.specs.Family.{Small, file_of, InFamily, EachFile}
use Rattle.next_spec.proofs.Digits.{quotient_low, digits_back, digits_low, square, lists_some}
use Rattle.next_spec.proofs.Loops.{free_no_loop, no_loop_free}

-- ---- numbered stages are well-formed

-- kinds 1 and 2 need two pins
two_needed : (k : ℕ) → k < 2 → needed Stage (1 + k) ≡ 2
unfolding needed pins_needed kind_of pin_count cell_at cells
two_needed zero l = refl
two_needed (suc zero) l = refl
two_needed (suc (suc k)) l = absurd (omega arith)

pub gates_long : (m g x : ℕ) → length (gates_numbered m g x) ≡ g
unfolding gates_numbered
gates_long m zero x = refl
gates_long m (suc g) x = ap suc (gates_long m g (x % lists m g))

module _ (n g : ℕ) (shaped : InShape n g) where
  abbrev m : ℕ
  m = nets_of n g

  pub nets_some : 1 ≤ m
  nets_some = omega (arith, shaped.inputs_in)

  pub nets_low : m ≤ 256
  nets_low = omega (arith, shaped.inputs_in, shaped.gates_in_holds)

  gates_formed : (j x : ℕ) → x < lists m j → (k : ℕ)
      → GatesFormed Stage (record { inputs = n; gates = g; parts = [] }) k (gates_numbered m j x) × All (λ c. (1 ≤ c.code) × (c.code ≤ 2)) (gates_numbered m j x)
  unfolding gates_numbered lists
  gates_formed zero x l k = (tt, tt)
  gates_formed (suc j) x l k =
      let some = lists_some m nets_some j in
      let s = square m nets_some in
      let y = x / lists m j in
      let q : y / (m * m) < 2 = quotient_low (m * m) s y 2 (quotient_low (lists m j) some x (2 * (m * m)) l) in
      let two = two_needed (y / (m * m)) q in
      let later = gates_formed j (x % lists m j) (mod-lt x some) (suc k) in (
        (
          record {
            known = omega arith;
            whole = sym two;
            named = in_pins (record { inputs = n; gates = g; parts = [] }) k 0 (first m (y % (m * m)) ∷ second m (y % (m * m)) ∷ []) (quotient_low m nets_some (y % (m * m)) m (mod-lt y s), (mod-lt (y % (m * m)) nets_some, tt));
          },
          later.0,
        ),
        ((omega arith, omega arith), later.1),
      )

  module _ (z : ℕ) (l : z < stages n g) where
    abbrev x : ℕ
    x = z / (m * m)

    inside : x < lists m g
    inside = quotient_low (m * m) (square m nets_some) z (lists m g) l

    numbered-formed : Formed Stage stage_limits (stage_numbered n g z)
    unfolding stage_numbered command_table own_commands form_in
    numbered-formed =
        let y : z % (m * m) < m * m = mod-lt z (square m nets_some) in
        let long : length (gates_numbered m g x) ≡ g = gates_long m g x in
        record {
          inputs_in = (omega (arith, shaped.inputs_in), omega (arith, shaped.inputs_in));
          gates_in_holds = omega (arith, shaped.gates_in_holds);
          outputs_in_holds = (omega arith, omega arith);
          gates = rw long (gates_formed g x inside 0).0;
          outputs = rw long (record { whole = refl; named = in_rails (record { inputs = n; gates = g; parts = [] }) g 0 (pair_numbered m (z % (m * m))) (quotient_low m nets_some (z % (m * m)) m y, (mod-lt (z % (m * m)) nets_some, tt)) }, tt);
          care_in_holds = tt;
          care_stage = inl refl;
          plain = refl;
        }

    numbered-small : free n g z ≡ true → Small (stage_numbered n g z)
    unfolding stage_numbered
    numbered-small e = record {
      inputs_in = shaped.inputs_in;
      gates_in_holds = omega (arith, gates_long m g x, shaped.gates_in_holds);
      kinds_in = (gates_formed g x inside 0).1;
      one_output = refl;
      no_care = refl;
      no_loop = free_no_loop n g shaped z l e;
    }

pub listed_in : (n g z : ℕ) → Listed n g z → InFamily (stage_numbered n g z)
listed_in n g z l =
    let r = written_reads Stage stage_limits (stage_numbered n g z) (record { words = omega arith; nets = omega arith }) (numbered-formed n g l.shaped z l.below) in
    record { reads = r.0; reads_as = r.1; small = numbered-small n g l.shaped z l.below l.loop_free }

family_formed : (c : Content) → InFamily c → Formed Stage stage_limits c
family_formed c i = subst (Formed Stage stage_limits) i.reads_as (read_formed Stage stage_limits (file_of c) i.reads (stage_partless stage_limits (file_of c)))

-- a readable file with the gates first, whose stage is small, is of the family
pub readable_member : EachFile
unfolding content_at refusal
readable_member s p bytes e first h =
    let c = content_at Stage s (readable p) in
    let is : content_of Stage stage_limits s ≡ c = ap (content_at Stage s) e in
    let w : s ≡ file_of c = write_stage_no_care stage_limits s p e bytes h.no_care first ∙ sym (stage_write (stage_of s p)) ∙ ap file_of (sym (stage_content stage_limits s p e) ∙ is) in
    (c, record { reads = subst (λ (t : List ℕ). Pass (reading Stage stage_limits t)) w (rw e tt); reads_as = subst (λ (t : List ℕ). content_of Stage stage_limits t ≡ c) w is; small = h }, w)

-- ---- the number of a stage

abbrev number_two : ℕ → List ℕ → ℕ
number_two m [] = 0
number_two m (a ∷ []) = 0
number_two m (a ∷ b ∷ ps) = a * m + b

abbrev number_gate : ℕ → Coded → ℕ
number_gate m g = (g.code - 1) * (m * m) + number_two m g.operands

abbrev number_list : ℕ → List Coded → ℕ
number_list m [] = 0
number_list m (g ∷ gs) = number_gate m g * lists m (length gs) + number_list m gs

module _ (m : ℕ) (some : 1 ≤ m) where
  two_back : (a b : ℕ) → a < m → b < m → ((a * m + b) / m ≡ a) × ((a * m + b) % m ≡ b) × (a * m + b < m * m)
  two_back a b k l = let e = digits_back m some a b l in (e.0, e.1, digits_low m some a b m k l)

  number_back : (k : ℕ) (ps : List ℕ) → k < 2 → length ps ≡ 2 → All (λ v. v < m) ps
      → (gate_numbered m (k * (m * m) + number_two m ps) ≡ record { code = 1 + k; operands = ps }) × (k * (m * m) + number_two m ps < 2 * (m * m))
  number_back k [] l e h = absurd (omega arith)
  number_back k (a ∷ []) l e h = absurd (omega arith)
  number_back k (a ∷ b ∷ []) l e h =
      let t = two_back a b h.0 h.1.0 in
      let d = digits_back (m * m) (square m some) k (a * m + b) t.2 in
      (rw (d.0, d.1, t.0, t.1), digits_low (m * m) (square m some) k (a * m + b) 2 l t.2)
  number_back k (a ∷ b ∷ c ∷ ps) l e h = absurd (omega arith)

  gate-back : (g : Coded) → 1 ≤ g.code → g.code ≤ 2 → length g.operands ≡ needed Stage g.code → All (λ v. v < m) g.operands
      → (gate_numbered m (number_gate m g) ≡ g) × (number_gate m g < 2 * (m * m))
  gate-back g low high whole named =
      let one : 1 + (g.code - 1) ≡ g.code = omega arith in
      let r = number_back (g.code - 1) g.operands (omega arith) (whole ∙ ap (needed Stage) (sym one) ∙ two_needed (g.code - 1) (omega arith)) named in
      (r.0 ∙ ap (λ (k : ℕ). record { code = k; operands = g.operands }) one, r.1)

  list_back : (N : Nets) (k : ℕ) (gs : List Coded) → m ≡ 2 * N.inputs + N.gates → All (λ g. (1 ≤ g.code) × (g.code ≤ 2)) gs → GatesFormed Stage N k gs
      → (gates_numbered m (length gs) (number_list m gs) ≡ gs) × (number_list m gs < lists m (length gs))
  unfolding gates_numbered lists
  list_back N k [] e h f = (refl, omega arith)
  list_back N k (g ∷ gs) e h f =
      let j = lists m (length gs) in
      let later = list_back N (suc k) gs e h.1 f.1 in
      let one = gate-back g h.0.0 h.0.1 f.0.whole (rw e (pins_in_holds N k 0 g.operands f.0.named)) in
      let d = digits_back j (lists_some m some (length gs)) (number_gate m g) (number_list m gs) later.1 in (
        rw (d.0, d.1) (ap₂ (λ (a : Coded) (b : List Coded). a ∷ b) one.0 later.0),
        digits_low j (lists_some m some (length gs)) (number_gate m g) (number_list m gs) (2 * (m * m)) one.1 later.1,
      )

-- each stage of the family has a number
module _ (c : Content) (i : InFamily c) where
  shaped : InShape c.inputs (length c.gates)
  shaped = record { inputs_in = i.small.inputs_in; gates_in_holds = omega (arith, i.small.gates_in_holds) }

  pub numbered : (z : ℕ) × (z < stages c.inputs (length c.gates)) × (stage_numbered c.inputs (length c.gates) z ≡ c)
  unfolding stage_numbered command_table own_commands form_in
  numbered = go c.outputs refl i.small.one_output (family_formed c i).outputs
    where
      k : ℕ
      k = nets_of c.inputs (length c.gates)

      some : 1 ≤ k
      some = nets_some c.inputs (length c.gates) shaped

      pair : (p : List ℕ) → length p ≡ 2 → All (λ v. v < k) p → c.outputs ≡ p ∷ []
          → (z : ℕ) × (z < stages c.inputs (length c.gates)) × (stage_numbered c.inputs (length c.gates) z ≡ c)
      pair [] w h e = absurd (omega arith)
      pair (a ∷ []) w h e = absurd (omega arith)
      pair (a ∷ b ∷ []) w h e =
          let t = two_back k some a b h.0 h.1.0 in
          let x = number_list k c.gates in
          let gs = list_back k some (formed.nets_of c) 0 c.gates refl i.small.kinds_in (family_formed c i).gates in
          let d = digits_back (k * k) (square k some) x (a * k + b) t.2 in (
            x * (k * k) + (a * k + b),
            digits_low (k * k) (square k some) x (a * k + b) (lists k (length c.gates)) gs.1 t.2,
            rw (d.0, d.1, t.0, t.1)
                (ap₂ (λ (gs : List Coded) (os : List (List ℕ)). record { inputs = c.inputs; gates = gs; outputs = os; care = []; parts = [] }) gs.0 (sym e)
                ∙ (λ k. record { inputs = c.inputs; gates = c.gates; outputs = c.outputs; care = sym i.small.no_care k; parts = sym (family_formed c i).plain k })),
          )
      pair (a ∷ b ∷ d ∷ p) w h e = absurd (omega arith)

      go : (os : List (List ℕ)) → c.outputs ≡ os → length c.outputs ≡ 1 → All (OutputFormed Stage (formed.nets_of c)) c.outputs
          → (z : ℕ) × (z < stages c.inputs (length c.gates)) × (stage_numbered c.inputs (length c.gates) z ≡ c)
      go [] e l a = absurd (omega (arith, ap length e))
      go (p ∷ []) e l a = let b = subst (All (OutputFormed Stage (formed.nets_of c))) e a in pair p b.0.whole (rails_in_holds (formed.nets_of c) _ 0 p b.0.named) e
      go (p ∷ q ∷ os) e l a = absurd (omega (arith, ap length e))

-- so it is listed
pub in_listed : (c : Content) → InFamily c → (z : ℕ) × Listed c.inputs (length c.gates) z × (stage_numbered c.inputs (length c.gates) z ≡ c)
in_listed c i =
    let k = numbered c i in (
      k.0,
      record {
        shaped = shaped c i;
        below = k.1;
        loop_free = no_loop_free c.inputs (length c.gates) (shaped c i) k.0 k.1
            (rw k.2 i.small.no_loop);
      },
      k.2,
    )
