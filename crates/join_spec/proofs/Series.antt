-- The joined stage: its net is the parts' nets in series, it has no loop, and its gates are cast where theirs are.
-- Assumes nothing.
use Prim.Native.Nat.{ℕ, ◌+◌, ◌-◌, ◌*◌, ◌/◌, ◌%◌, ◌≤◌, ◌<◌}
use native.Mathlib.Omega.{arith}
use native.Mathlib.Decide.{dec_lt}
use mathlib.Core.Path.{◌≡◌, refl, sym, ap, ap₂, ◌∙◌, subst}
use mathlib.Core.Bool.{Bool, true, false, cond, not, ◌&&◌}
use mathlib.Core.List.{List, [], ◌∷◌, ◌++◌, map, map-map}
use lib.ListN.{length, get_or}
use lib.Dec.{eqb, ltb}
use Rattle.gates.specs.Expression.{holds}
use Rattle.gates.specs.Cell.{set_expression, bit, is_retired, kind_of}
use Rattle.runs.specs.Row.{Row}
use Rattle.runs.specs.Net.{Net, rails, nets, IsGate, input_rail, all_low}
use Rattle.runs.specs.Acyclic.{Acyclic, AllPins}
use Rattle.runs.specs.Series.{Named, InSeries}
use Rattle.runs.proofs.Test.{lt-ltb, le-ltb}
use Rattle.runs.proofs.Net.{rail_of_input}
use Rattle.netlist.specs.declared.File.TheVariants.{Stage}
use Rattle.netlist.specs.declared.Limits.{Limits}
use Rattle.netlist.specs.Commands.{command_table, own_commands, form_in, role_of}
use Rattle.netlist.specs.Reading.{names}
use Rattle.netlist.specs.Coded.{Coded, hold_of}
use Rattle.netlist.proofs.Readable as readable
use Rattle.netlist.proofs.Readable.{named_pin, named_rail, rails_in_holds}
use Rattle.netlist.proofs.Formed.{OutputFormed}
use Rattle.verdict.specs.Graph.{In}
use Rattle.verdict.proofs.Graph.{rank-≤}
use Rattle.check_spec.specs.Content.{Content}
use Rattle.check_spec.specs.Rows.{no_gate, driver, cell_in, set_in, net_of, feeding}
use Rattle.check_spec.specs.Demands.{LoopFree}
use Rattle.check_spec.proofs.Loops.{feeding_gate, rank, acyclic, ranked_free}
use Rattle.check_spec.proofs.Formed.{Formed, nets_of}
use Rattle.join_spec.specs.Joining.{joined_by, net_in_whole}
use Rattle.join_spec.proofs.Lists.{All-get, All-pins, pins_in_holds, in_map, map_get}
use Rattle.join_spec.proofs.Whole.{moved, RoomForTwo, gates_length, outputs_length, gate_first, gate_second, gate_formed, Moves, joined_formed}

bit-≤ : (b : Bool) → bit b ≤ 1
bit-≤ true = omega arith
bit-≤ false = omega arith

-- what a well-formed stage names
module _ (most : Limits) (s : Content) (h : Formed Stage most s) where
  output_formed : (j : ℕ) → j < length s.outputs → OutputFormed Stage (nets_of s) (get_or s.outputs j [])
  output_formed j l = All-get (OutputFormed Stage (nets_of s)) s.outputs h.outputs j [] l

  two_rails : (j : ℕ) → j < length s.outputs → (b : Bool) → bit b < length (get_or s.outputs j [])
  unfolding command_table own_commands form_in
  two_rails j l b = omega (arith, (output_formed j l).whole, bit-≤ b)

  pub stage_named : Named (net_of s)
  stage_named = record {
    pins = λ g i. All-pins (λ p. p < nets (net_of s)) (driver s g).operands
        (readable.pins_in_holds (nets_of s) _ 0 (driver s g).operands (gate_formed Stage (nets_of s) 0 s.gates h.gates (g - 2 * s.inputs) (omega (arith, i.0, i.1))).named);
    outs = λ j l b. All-get (λ v. v < nets (net_of s)) (get_or s.outputs j []) (rails_in_holds (nets_of s) _ 0 (get_or s.outputs j []) (output_formed j l).named) (bit b) 0 (two_rails j l b);
  }

-- ---- the rules of a gate whose pins are moved

-- a gate may fall in a row
abbrev falls : Row → Coded → Bool
falls r g = cond (hold_of (kind_of g.code)) (all_low r g.operands) (not (set_in r g))

module _ (r : Row) (move : ℕ → ℕ) where
  all_low-map : (l : List ℕ) → all_low r (map move l) ≡ all_low (λ p. r (move p)) l
  all_low-map [] = refl
  all_low-map (p ∷ ps) = ap (λ (b : Bool). not (r (move p)) && b) (all_low-map ps)

  set-moved : (g : Coded) → set_in r (moved move g) ≡ set_in (λ p. r (move p)) g
  set-moved g = ap (λ (l : List Bool). holds (set_expression (cell_in g)) (λ i. get_or l i false)) (map-map r move g.operands)

  falls_moved : (g : Coded) → falls r (moved move g) ≡ falls (λ p. r (move p)) g
  falls_moved g = ap₂ (λ (a b : Bool). cond (hold_of (kind_of g.code)) a (not b)) (all_low-map g.operands) (set-moved g)

-- ---- two stages

module _ (one two : Content) where
  abbrev move : ℕ → ℕ
  move = net_in_whole one two

  abbrev pub whole : Content
  whole = joined_by move one two

  move_gate : (net : ℕ) → 2 * two.inputs ≤ net → move net ≡ nets (net_of one) + (net - 2 * two.inputs)
  unfolding net_in_whole
  move_gate net h = rw (le-ltb net (2 * two.inputs) h)

  move_rail : (j : ℕ) → j < two.inputs → (b : Bool) → move (input_rail j b) ≡ (net_of one).rail j b
  unfolding net_in_whole
  move_rail j h false =
      let a : 2 * j / 2 ≡ j = omega arith in
      let b : 2 * j % 2 ≡ 0 = omega arith in
      rw (lt-ltb (2 * j) (2 * two.inputs) (omega arith), a, b)
  move_rail j h true =
      let a : (2 * j + 1) / 2 ≡ j = omega arith in
      let b : (2 * j + 1) % 2 ≡ 1 = omega arith in
      rw (lt-ltb (2 * j + 1) (2 * two.inputs) (omega arith), a, b)

  driver-first : (k : ℕ) → IsGate (net_of one) k → driver whole k ≡ driver one k
  unfolding joined_by
  driver-first k h = gate_first move one two (k - 2 * one.inputs) (omega (arith, h.0, h.1))

  driver-second : (k : ℕ) → IsGate (net_of two) k → driver whole (move k) ≡ moved move (driver two k)
  unfolding joined_by
  driver-second k h =
      let e : move k - 2 * one.inputs ≡ length one.gates + (k - 2 * two.inputs) = omega (arith, move_gate k h.0) in
      ap (λ (i : ℕ). get_or (joined_by move one two).gates i no_gate) e ∙ gate_second move one two (k - 2 * two.inputs) (omega (arith, h.0, h.1))

  -- a gate of the whole is one of the first part, or of the second, moved
  gate-cases : (P : ℕ → Type 0) → ((k : ℕ) → IsGate (net_of one) k → P k) → ((k : ℕ) → IsGate (net_of two) k → P (move k)) → (k : ℕ) → IsGate (net_of whole) k → P k
  unfolding joined_by
  gate-cases P f s k h = go (dec_lt k (nets (net_of one)))
    where
      go : Dec (k < nets (net_of one)) → P k
      go (yes l) = f k (h.0, l)
      go (no l) =
          let i : ℕ = 2 * two.inputs + (k - nets (net_of one)) in
          let e : move i ≡ k = omega (arith, move_gate i (omega arith)) in
          subst P e (s i (omega arith, omega (arith, h.1, gates_length move one two)))

  pub whole_cast : ((net : ℕ) → IsGate (net_of one) net → is_retired (cell_in (driver one net)) ≡ false) → ((net : ℕ) → IsGate (net_of two) net → is_retired (cell_in (driver two net)) ≡ false)
      → (net : ℕ) → IsGate (net_of whole) net → is_retired (cell_in (driver whole net)) ≡ false
  whole_cast a b = gate-cases (λ net. is_retired (cell_in (driver whole net)) ≡ false)
      (λ k h. ap (λ (g : Coded). is_retired (cell_in g)) (driver-first k h) ∙ a k h) (λ k h. ap (λ (g : Coded). is_retired (cell_in g)) (driver-second k h) ∙ b k h)

  module _ (most : Limits) (h : Formed Stage most one) (h' : Formed Stage most two) (seam : two.inputs ≡ length one.outputs) where
    pub in_series : InSeries (net_of one) (net_of two) (net_of whole) move
    unfolding joined_by
    in_series = record {
      seam = seam;
      inputs = refl;
      gates = gates_length move one two;
      outputs = outputs_length move one two;
      tied = move_rail;
      moved = λ k i. move_gate k i.0;
      rail = rail;
      first_fires = λ r k i. ap (set_in r) (driver-first k i);
      first_falls = λ r k i. ap (falls r) (driver-first k i);
      second_fires = λ r k i. ap (set_in r) (driver-second k i) ∙ set-moved r move (driver two k);
      second_falls = λ r k i. ap (falls r) (driver-second k i) ∙ falls_moved r move (driver two k);
    }
      where
        rail : (j : ℕ) → j < length two.outputs → (b : Bool) → (net_of whole).rail j b ≡ move ((net_of two).rail j b)
        rail j l b = ap (λ (vs : List ℕ). get_or vs (bit b) 0) (map_get (map move) two.outputs j [] [] l) ∙ map_get move (get_or two.outputs j []) (bit b) 0 0 (two_rails most two h' j l b)

    -- a net of the second part is one of the whole
    rail-below : (net : ℕ) → net < 2 * two.inputs → move net < nets (net_of one)
    rail-below net l =
        let i = rail_of_input net in
        rw (ap move i.1 ∙ move_rail (net / 2) (omega arith) i.0) ((stage_named most one h).outs (net / 2) (omega arith) i.0)

    below : (net : ℕ) → net < nets (net_of two) → move net < 2 * one.inputs + (length one.gates + length two.gates)
    below net l = go (dec_lt net (2 * two.inputs))
      where
        go : Dec (net < 2 * two.inputs) → move net < 2 * one.inputs + (length one.gates + length two.gates)
        go (yes k) = omega (arith, rail-below net k)
        go (no k) = omega (arith, move_gate net (omega arith))

    pub stage_formed : (most' : Limits) → RoomForTwo most most' → Formed Stage most' whole
    unfolding names role_of
    stage_formed most' room = joined_formed Stage move one two most most' room h h' (record {
      first = λ k i v e. lt-ltb v _ (omega (arith, named_pin (nets_of one) k i v e));
      second = λ k i v e. lt-ltb (move v) _ (below v (named_pin (nets_of two) k i v e));
      outputs = λ i v e. lt-ltb (move v) _ (below v (named_rail (nets_of two) (length two.gates) i v e));
    })

    -- ---- no loop

    module _ (free : LoopFree (net_of one)) (free' : LoopFree (net_of two)) where
      -- the nets of the first part by their rank, then the gates of the second by theirs
      place : ℕ → ℕ
      place k = cond (ltb k (nets (net_of one))) (rank one free k) (nets (net_of one) + 1 + rank two free' (2 * two.inputs + (k - nets (net_of one))))

      place-first : (k : ℕ) → k < nets (net_of one) → (place k ≡ rank one free k) × (place k ≤ nets (net_of one))
      unfolding place
      place-first k l =
          let e : place k ≡ rank one free k = rw (lt-ltb k (nets (net_of one)) l) in
          (e, omega (arith, e, rank-≤ (feeding (net_of one)) (nets (net_of one)) (λ a b j. (feeding_gate one a b j).1) k))

      place-second : (k : ℕ) → 2 * two.inputs ≤ k → place (move k) ≡ nets (net_of one) + 1 + rank two free' k
      unfolding place
      place-second k l =
          let e : 2 * two.inputs + (move k - nets (net_of one)) ≡ k = omega (arith, move_gate k l) in
          rw (le-ltb (move k) (nets (net_of one)) (omega (arith, move_gate k l)), e)

      second-before : (k : ℕ) → IsGate (net_of two) k → (p : ℕ) → In p (driver two k).operands → place (move p) < place (move k)
      second-before k g p i = go (dec_lt p (2 * two.inputs))
        where
          go : Dec (p < 2 * two.inputs) → place (move p) < place (move k)
          go (yes l) = omega (arith, (place-first (move p) (rail-below p l)).1, place-second k g.0)
          go (no l) = omega (arith, place-second p (omega arith), place-second k g.0, pins_in_holds _ (driver two k).operands ((acyclic two free').rank_pins k g) p i)

      pub whole_free : LoopFree (net_of whole)
      whole_free = ranked_free whole place (λ u v i.
          let g = feeding_gate whole u v i in
          gate-cases (λ u. (v : ℕ) → In v (driver whole u).operands → place v < place u)
          (λ k g v i.
          let i' : In v (driver one k).operands = rw (driver-first k g) at i in
          let l = pins_in_holds _ (driver one k).operands ((stage_named most one h).pins k g) v i' in
          omega (arith, (place-first v l).0, (place-first k g.1).0, pins_in_holds _ (driver one k).operands ((acyclic one free).rank_pins k g) v i'))
          (λ k g v i. let x = in_map move (driver two k).operands v (rw (driver-second k g) at i) in rw x.2 (second-before k g x.0 x.1))
          u g v (rw (le-ltb u (rails (net_of whole)) g.0) at i))
