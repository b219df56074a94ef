-- The code of the wired stage, number by number, and copies.
-- Assumes nothing.
use Prim.Native.Nat.{ℕ, ◌+◌, ◌*◌, ◌-◌, ◌/◌, ◌%◌, ◌≤◌, ◌<◌}
use native.Mathlib.Omega.{arith}
use mathlib.Core.Path.{◌≡◌, refl, sym, ap, ◌∙◌}
use mathlib.Core.Bool.{Bool, true, false}
use mathlib.Core.List.{List, ◌++◌}
use lib.ListN.{length, get_or, take, drop, length-append, length-drop, get_or-append}
use lib.Seq.{get_or-take, length-take-le}
use lib.Dec.{leb}
use borrow.Author.Tests.{lt-ltb, le-ltb, le-leb, lt-leb, eq-eqb, ne_eqb}
use Rattle.netlist.specs.declared.Counts.{Counts}
use Rattle.circuit.specs.Stage.{net_count}
use Rattle.wiring_spec.specs.Tables.{slot}
use Rattle.circuit_wire.specs.Wire.{wired_net, names_net, wired_number, CopiedTo}

-- ---- copies

pub copied : (from before part : List ℕ) (end : ℕ) → end ≤ length from → end ≤ length before → part ≡ take end from → CopiedTo from before (part ++ drop end before) end
copied from before part end a b e = record {
  long = omega (arith, length-append part (drop end before), length-drop end before, long);
  done = λ j h. get_or-append part (drop end before) 0 j (omega (arith, long)) ∙ ap (λ (l : List ℕ). get_or l j 0) e ∙ get_or-take end from j 0 h;
}
  where
    long : length part ≡ end
    long = ap length e ∙ length-take-le end from a

-- ---- what a net becomes

module _ (nets : List ℕ) (first x : ℕ) where
  pub net_before : x < first → x ≡ wired_net nets first x
  unfolding wired_net
  net_before h = rw (lt-ltb x first h)

  pub net_past : first ≤ x → length nets / 8 ≤ x - first → first ≡ wired_net nets first x
  unfolding wired_net
  net_past h l = rw (le-ltb x first h, le-leb (length nets / 8) (x - first) l)

  pub net_row : first ≤ x → x - first < length nets / 8 → slot nets (x - first) 7 ≡ wired_net nets first x
  unfolding wired_net
  net_row h l = rw (le-ltb x first h, lt-leb (length nets / 8) (x - first) l)

-- ---- which numbers name nets

pub names_lead : (gates i : ℕ) → i < gates → i % 8 ≡ 0 → false ≡ names_net gates i
unfolding names_net
names_lead gates i h e = rw (lt-ltb i gates h, eq-eqb (i % 8) 0 e)

pub names_low : (gates i : ℕ) → i < gates → (i % 8 ≡ 0 → ⊥) → leb (i % 8) 4 ≡ names_net gates i
unfolding names_net
names_low gates i h d = rw (lt-ltb i gates h, ne_eqb (i % 8) 0 d)

pub names_past : (gates i : ℕ) → gates ≤ i → true ≡ names_net gates i
unfolding names_net
names_past gates i h = rw (le-ltb i gates h)

-- ---- the numbers of a gate, and of an output

module _ (nets : List ℕ) (c : Counts) where
  number_is : (i v : ℕ) (b : Bool) → b ≡ names_net (8 * c.gates) i → b ≡ true → wired_number nets c i v ≡ wired_net nets (net_count c) v
  unfolding wired_number
  number_is i v b e q = rw (sym e ∙ q)

  pub number_other : (i v : ℕ) (b : Bool) → b ≡ names_net (8 * c.gates) i → b ≡ false → v ≡ wired_number nets c i v
  unfolding wired_number
  number_other i v b e q = rw (sym e ∙ q)

  pub number_net : (i v : ℕ) (b : Bool) → b ≡ names_net (8 * c.gates) i → b ≡ true → wired_net nets (net_count c) v ≡ wired_number nets c i v
  number_net i v b e q = sym (number_is i v b e q)

  pub pin_wired : (k i v : ℕ) → k < c.gates → i < 4 → wired_number nets c (8 * k + (1 + i)) v ≡ wired_net nets (net_count c) v
  pin_wired k i v h l =
      let r : (8 * k + (1 + i)) % 8 ≡ 1 + i = omega arith in
      number_is (8 * k + (1 + i)) v (leb ((8 * k + (1 + i)) % 8) 4) (names_low (8 * c.gates) (8 * k + (1 + i)) (omega arith) (λ e. absurd (omega arith))) (le-leb ((8 * k + (1 + i)) % 8) 4 (omega arith))

  pub cell_kept : (k v : ℕ) → k < c.gates → wired_number nets c (8 * k) v ≡ v
  cell_kept k v h = let r : (8 * k) % 8 ≡ 0 = omega arith in sym (number_other (8 * k) v false (names_lead (8 * c.gates) (8 * k) (omega arith) r) refl)

  pub hold_kept : (k v : ℕ) → k < c.gates → wired_number nets c (8 * k + 7) v ≡ v
  hold_kept k v h =
      let r : (8 * k + 7) % 8 ≡ 7 = omega arith in
      sym (number_other (8 * k + 7) v (leb ((8 * k + 7) % 8) 4) (names_low (8 * c.gates) (8 * k + 7) (omega arith) (λ e. absurd (omega arith))) (lt-leb ((8 * k + 7) % 8) 4 (omega arith)))

  pub rail_wired : (i v : ℕ) → 8 * c.gates ≤ i → wired_number nets c i v ≡ wired_net nets (net_count c) v
  rail_wired i v h = number_is i v true (names_past (8 * c.gates) i h) refl
