-- The nets of a readable stage file, as reading counts them and as its wiring drives them: the same carry data, and there are as many. So every operand
-- of the wiring names what its role asks for.
-- Assumes nothing.
use Prim.Native.Nat.{ℕ, zero, suc, ◌+◌, ◌-◌, ◌*◌, ◌<◌}
use native.Mathlib.Omega.{arith}
use native.Mathlib.Decide.{dec_lt}
use mathlib.Core.Path.{◌≡◌, refl, sym, ap, ◌∙◌, subst}
use mathlib.Core.Bool.{Bool, true, false, cond, ◌||◌}
use mathlib.Core.Logic.{◌⊎◌, inl, inr, ⊎_elim}
use mathlib.Core.List.{List, [], ◌∷◌, ◌++◌, map}
use lib.ListN.{length, get_or, replicate, length-append, length-map, length-replicate, get_or-eq_default}
use lib.Dec.{eqb, ltb}
use borrow.Author.Tests.{lt-ltb, le-ltb, ltb-true, eqb-true}
use Rattle.runs.proofs.Test.{or_cases}
use Rattle.netlist.specs.declared.File.TheVariants as file
use Rattle.netlist.specs.declared.Sort.{Sort}
use Rattle.netlist.specs.declared.Sort.TheVariants as sort
use Rattle.netlist.specs.declared.Limits.{Limits}
use Rattle.netlist.specs.Bytes.{byte, operand, operands, outside}
use Rattle.netlist.specs.Commands.{stage_file, is_sort, command_table, own_commands, form_in, role_of, needed, pins_used}
use Rattle.netlist.specs.Reading.{Nets, first_part, part_nets, is_net, carries_data, names, Places, count_of, sorts_of, nets_of, stage_limits, NoMore}
use Rattle.netlist.specs.Read.{RegisterRead, ElementRead, PartOf, PartRead, Read}
use Rattle.netlist.specs.Writing.{All}
use Rattle.netlist.proofs.Encoding.{stage_registerless, stage_elementless}
use Rattle.verdict.specs.Paths.{In}
use Rattle.wiring_spec.specs.Parts.{Register, Part, register, element, part_at, Pipeline, input, gate, nothing, registers_of, register_count, data_of, ki_of}
use Rattle.wiring_spec.specs.Parts.{part_drivers, drivers, driver_of, all_nets}
use Rattle.wiring_spec.specs.Wiring.{opened}
use Rattle.wiring_spec.specs.Tables.{wiring_of}
use Rattle.wiring_spec.specs.Named as wiring
use Rattle.wiring_spec.specs.Named.{IsData, Named}
use Rattle.wiring_spec.proofs.Nets.{each_driver, steps_are}

-- ---- what each register and C-element names

-- a register's data carries data and its Ki is the outside or a net, a C-element's pins are nets
pub record RegisterNames (s : List ℕ) (N : Nets) (at : ℕ) : Type 0 where
  pub data0 : carries_data N (operand s (at + 1)) ≡ true
  pub data1 : carries_data N (operand s (at + 3)) ≡ true
  pub ki : (eqb (operand s (at + 5)) outside || is_net N (operand s (at + 5))) ≡ true

pub record ElementNames (s : List ℕ) (N : Nets) (at : ℕ) : Type 0 where
  pub pin : (i : ℕ) → i < pins_used s (at + 1) → is_net N (operand s (at + 1 + 2 * i)) ≡ true

abbrev NamesOf : List ℕ → Nets → ℕ → Bool → Type 0
NamesOf s N at true = RegisterNames s N at
NamesOf s N at false = ElementNames s N at

-- the sort of a part is that of a register or of a C-element
pub record PartNames (s : List ℕ) (N : Nets) (x : Sort × ℕ) : Type 0 where
  pub either : (x.0 ≡ sort.Register) ⊎ (x.0 ≡ sort.Element)
  pub names_nets : NamesOf s N x.1 (is_sort sort.Register x.0)

register_names : {s : List ℕ} {N : Nets} {at : ℕ} → RegisterRead file.Pipeline s N at → RegisterNames s N at
unfolding names role_of
register_names {at = at} r =
    let a : at + 1 + 2 * 0 ≡ at + 1 = omega arith in
    let b : at + 1 + 2 * 1 ≡ at + 3 = omega arith in
    let c : at + 1 + 2 * 2 ≡ at + 5 = omega arith in
    record { data0 = rw a at (r.named 0 (omega arith)); data1 = rw b at (r.named 1 (omega arith)); ki = rw c at (r.named 2 (omega arith)) }

element_names : {s : List ℕ} {N : Nets} {at : ℕ} → ElementRead file.Pipeline s N at → ElementNames s N at
unfolding names role_of
element_names r = record { pin = r.named }

part-names : (registers : Bool) (s : List ℕ) (N : Nets) (c : Sort) (at : ℕ) → PartOf (stage_file registers) s N at c → PartNames s N (c, at)
part-names registers s N sort.Inputs at h = absurd h
part-names registers s N sort.Gate at h = absurd h
part-names registers s N sort.Output at h = absurd h
part-names registers s N sort.Care at h = absurd h
part-names registers s N sort.End at h = absurd h
part-names registers s N sort.Unknown at h = absurd h
part-names true s N sort.Register at h = record { either = inl refl; names_nets = register_names h }
part-names true s N sort.Element at h = record { either = inr refl; names_nets = element_names h }
part-names false s N sort.Register at h = absurd (stage_registerless h.own)
part-names false s N sort.Element at h = absurd (stage_elementless h.own)

parts_names : (registers : Bool) (s : List ℕ) (N : Nets) (ps : List (Sort × ℕ)) → All (PartRead (stage_file registers) s N) ps → All (PartNames s N) ps
parts_names registers s N [] h = tt
parts_names registers s N (x ∷ ps) h = (part-names registers s N x.0 x.1 h.0, parts_names registers s N ps h.1)

-- ---- the nets of the parts

module _ (s : List ℕ) where
  abbrev parts : List (Sort × ℕ) → List Part
  parts = map (part_at s)

  -- net x after the gates carries data, or not
  data_alike : (ps : List (Sort × ℕ)) (k x : ℕ) → get_or (part_nets (sorts_of ps)) x false ≡ wiring.carries_data (get_or (part_drivers k (parts ps)) x nothing)
  unfolding part_nets part_drivers wiring.carries_data
  data_alike [] k x = refl
  data_alike (q ∷ ps) k x = go (is_sort sort.Register q.0) x (data_alike ps)
    where
      go : (b : Bool) (x : ℕ) → ((k x : ℕ) → get_or (part_nets (sorts_of ps)) x false ≡ wiring.carries_data (get_or (part_drivers k (parts ps)) x nothing)) →
          get_or (cond b (true ∷ true ∷ false ∷ part_nets (sorts_of ps)) (false ∷ part_nets (sorts_of ps))) x false
          ≡ wiring.carries_data (get_or (part_drivers k (cond b
          (register (record { data0 = operand s (q.1 + 1); data1 = operand s (q.1 + 3); ki = operand s (q.1 + 5) }))
          (element (operands s (q.1 + 1) (pins_used s (q.1 + 1)))) ∷ parts ps)) x nothing)
      go true zero later = refl
      go true (suc zero) later = refl
      go true (suc (suc zero)) later = refl
      go true (suc (suc (suc x))) later = later (suc k) x
      go false zero later = refl
      go false (suc x) later = later k x

  -- there are as many
  pub long_alike : (ps : List (Sort × ℕ)) (k : ℕ) → length (part_nets (sorts_of ps)) ≡ length (part_drivers k (parts ps))
  unfolding part_nets part_drivers
  long_alike [] k = refl
  long_alike (q ∷ ps) k = go (is_sort sort.Register q.0) (long_alike ps)
    where
      go : (b : Bool) → ((k : ℕ) → length (part_nets (sorts_of ps)) ≡ length (part_drivers k (parts ps))) →
          length (cond b (true ∷ true ∷ false ∷ part_nets (sorts_of ps)) (false ∷ part_nets (sorts_of ps)))
          ≡ length (part_drivers k (cond b
          (register (record { data0 = operand s (q.1 + 1); data1 = operand s (q.1 + 3); ki = operand s (q.1 + 5) }))
          (element (operands s (q.1 + 1) (pins_used s (q.1 + 1)))) ∷ parts ps))
      go true later = omega (arith, later (suc k))
      go false later = omega (arith, later k)

  -- three for a register and one for a C-element, and each register is one of the wiring's
  pub nets_count : (N : Nets) (ps : List (Sort × ℕ)) → All (PartNames s N) ps →
      (length (part_nets (sorts_of ps)) ≡ 3 * count_of sort.Register (sorts_of ps) + count_of sort.Element (sorts_of ps))
      × (length (registers_of (parts ps)) ≡ count_of sort.Register (sorts_of ps))
  unfolding part_nets count_of registers_of
  nets_count N [] h = (refl, refl)
  nets_count N (q ∷ ps) h = go h.0.either (nets_count N ps h.1)
    where
      go : (q.0 ≡ sort.Register) ⊎ (q.0 ≡ sort.Element) →
          (length (part_nets (sorts_of ps)) ≡ 3 * count_of sort.Register (sorts_of ps) + count_of sort.Element (sorts_of ps))
          × (length (registers_of (parts ps)) ≡ count_of sort.Register (sorts_of ps)) →
          (length (part_nets (sorts_of (q ∷ ps))) ≡ 3 * count_of sort.Register (sorts_of (q ∷ ps)) + count_of sort.Element (sorts_of (q ∷ ps)))
          × (length (registers_of (parts (q ∷ ps))) ≡ count_of sort.Register (sorts_of (q ∷ ps)))
      go (inl e) later = rw e (omega (arith, later.0), omega (arith, later.1))
      go (inr e) later = rw e (omega (arith, later.0), later.1)

  -- ---- operands among the nets

  operand-of : (place m v : ℕ) → In v (operands s place m) → (i : ℕ) × (i < m) × (v ≡ operand s (place + 2 * i))
  unfolding operands
  operand-of place zero v i = absurd i
  operand-of place (suc m) v (inl e) = let z : place + 2 * 0 ≡ place = omega arith in (0, omega arith, rw z e)
  operand-of place (suc m) v (inr i) =
      let r = operand-of (place + 2) m v i in
      let z : place + 2 * suc r.0 ≡ place + 2 + 2 * r.0 = omega arith in
      (suc r.0, omega (arith, r.1), rw z r.2)

  module _ (N : Nets) where
    -- at the data of register t, at its Ki, and at the pins of a C-element
    data_named : (ps : List (Sort × ℕ)) → All (PartNames s N) ps → (t v : ℕ) → In v (get_or (map (λ (r : Register). r.data0 ∷ r.data1 ∷ []) (registers_of (parts ps))) t []) → carries_data N v ≡ true
    unfolding registers_of
    data_named [] h t v i = absurd i
    data_named (q ∷ ps) h t v i = go (is_sort sort.Register q.0) h.0.names_nets t i (data_named ps h.1)
      where
        go : (b : Bool) → NamesOf s N q.1 b → (t : ℕ) →
            In v (get_or (map (λ (r : Register). r.data0 ∷ r.data1 ∷ []) (registers_of (cond b
            (register (record { data0 = operand s (q.1 + 1); data1 = operand s (q.1 + 3); ki = operand s (q.1 + 5) }))
            (element (operands s (q.1 + 1) (pins_used s (q.1 + 1)))) ∷ parts ps))) t []) →
            ((t v : ℕ) → In v (get_or (map (λ (r : Register). r.data0 ∷ r.data1 ∷ []) (registers_of (parts ps))) t []) → carries_data N v ≡ true) → carries_data N v ≡ true
        go true n zero (inl e) later = ap (carries_data N) e ∙ n.data0
        go true n zero (inr (inl e)) later = ap (carries_data N) e ∙ n.data1
        go true n zero (inr (inr i)) later = absurd i
        go true n (suc t) i later = later t v i
        go false n t i later = later t v i

    ki_named : (ps : List (Sort × ℕ)) → All (PartNames s N) ps → (t : ℕ) → t < length (registers_of (parts ps)) →
        (get_or (map (λ (r : Register). r.ki) (registers_of (parts ps))) t outside ≡ outside) ⊎ (is_net N (get_or (map (λ (r : Register). r.ki) (registers_of (parts ps))) t outside) ≡ true)
    unfolding registers_of
    ki_named [] h t l = absurd (omega arith)
    ki_named (q ∷ ps) h t l = go (is_sort sort.Register q.0) h.0.names_nets t l (ki_named ps h.1)
      where
        Names : ℕ → List Part → Type 0
        Names t ps = (get_or (map (λ (r : Register). r.ki) (registers_of ps)) t outside ≡ outside) ⊎ (is_net N (get_or (map (λ (r : Register). r.ki) (registers_of ps)) t outside) ≡ true)

        part : Bool → Part
        part b = cond b (register (record { data0 = operand s (q.1 + 1); data1 = operand s (q.1 + 3); ki = operand s (q.1 + 5) })) (element (operands s (q.1 + 1) (pins_used s (q.1 + 1))))

        go : (b : Bool) → NamesOf s N q.1 b → (t : ℕ) → t < length (registers_of (part b ∷ parts ps)) → ((t : ℕ) → t < length (registers_of (parts ps)) → Names t (parts ps)) → Names t (part b ∷ parts ps)
        go true n zero l later = ⊎_elim (λ e. inl (eqb-true (operand s (q.1 + 5)) outside e)) (λ e. inr e) (or_cases (eqb (operand s (q.1 + 5)) outside) (is_net N (operand s (q.1 + 5))) n.ki)
        go true n (suc t) l later = later t (omega arith)
        go false n t l later = later t l

    pin_named : (ps : List (Sort × ℕ)) → All (PartNames s N) ps → (k x v : ℕ) → In v (opened (get_or (part_drivers k (parts ps)) x nothing)) → is_net N v ≡ true
    unfolding part_drivers opened
    pin_named [] h k x v i = absurd i
    pin_named (q ∷ ps) h k x v i = go (is_sort sort.Register q.0) h.0.names_nets x i (pin_named ps h.1)
      where
        part : Bool → Part
        part b = cond b (register (record { data0 = operand s (q.1 + 1); data1 = operand s (q.1 + 3); ki = operand s (q.1 + 5) })) (element (operands s (q.1 + 1) (pins_used s (q.1 + 1))))

        go : (b : Bool) → NamesOf s N q.1 b → (x : ℕ) → In v (opened (get_or (part_drivers k (part b ∷ parts ps)) x nothing)) →
            ((k x v : ℕ) → In v (opened (get_or (part_drivers k (parts ps)) x nothing)) → is_net N v ≡ true) → is_net N v ≡ true
        go true n zero i later = absurd i
        go true n (suc zero) i later = absurd i
        go true n (suc (suc zero)) i later = absurd i
        go true n (suc (suc (suc x))) i later = later (suc k) x v i
        go false n zero i later = let r = operand-of (q.1 + 1) (pins_used s (q.1 + 1)) v i in rw r.2 (n.pin r.0 r.1)
        go false n (suc x) i later = later k x v i

-- ---- the wiring of a file that was read

-- a gate's pins carry data, with registers or without
gate-carries : (registers : Bool) (most : Limits) (s : List ℕ) (p : Places) → Read (stage_file registers) most s p → (k : ℕ) → k < length p.gates → (i : ℕ) →
    i < needed file.Stage (byte s (get_or p.gates k 0 + 1)) → carries_data (nets_of p) (operand s (get_or p.gates k 0 + 2 + 2 * i)) ≡ true
unfolding needed names role_of carries_data
gate-carries true most s p r k h i l = (r.gate_at_holds k h).named i l
gate-carries false most s p r k h i l = rw ((r.gate_at_holds k h).named i l)

-- and so do an output's rails
output_carries : (registers : Bool) (most : Limits) (s : List ℕ) (p : Places) → Read (stage_file registers) most s p → (j : ℕ) → j < length p.outputs → (i : ℕ) → i < 2 →
    carries_data (nets_of p) (operand s (get_or p.outputs j 0 + 1 + 2 * i)) ≡ true
unfolding names role_of carries_data command_table own_commands form_in
output_carries true most s p r j h i l = (r.output_at j h).named i l
output_carries false most s p r j h i l = rw ((r.output_at j h).named i l)

module _ (registers : Bool) (most : Limits) (less : NoMore most stage_limits) (s : List ℕ) (p : Places) (r : Read (stage_file registers) most s p) where
  abbrev P : Pipeline
  P = wiring_of s p

  abbrev N : Nets
  N = nets_of p

  abbrev gate_pins : ℕ → List ℕ
  gate_pins at = operands s (at + 2) (needed file.Stage (byte s (at + 1)))

  abbrev output_rails : ℕ → List ℕ
  output_rails at = operands s (at + 1) 2

  gates_long : length P.gates ≡ length p.gates
  gates_long = length-map p.gates gate_pins

  pub all_named : All (PartNames s N) p.parts
  all_named = parts_names registers s N p.parts r.parts_at

  pub first_part_lem : 2 * P.inputs + length P.gates ≡ first_part N
  first_part_lem = ap (λ (g : ℕ). 2 * p.inputs + g) gates_long

  pub all_long : all_nets P ≡ first_part N + length (part_nets N.parts)
  unfolding all_nets drivers
  all_long = omega (
    arith,
    length-append (replicate (2 * P.inputs) input) (map gate P.gates ++ part_drivers 0 P.parts),
    length-append (map gate P.gates) (part_drivers 0 P.parts),
    length-replicate (2 * P.inputs) input,
    length-map P.gates gate,
    gates_long,
    long_alike s p.parts 0,
  )

  pub net_inside : (v : ℕ) → is_net N v ≡ true → v < all_nets P
  net_inside v e = omega (arith, ltb-true v (first_part N + length (part_nets N.parts)) e, all_long)

  -- what carries data for the reader does so in the wiring
  pub data_same : (v : ℕ) → carries_data N v ≡ wiring.carries_data (driver_of P v)
  unfolding carries_data wiring.carries_data
  data_same = each_driver (λ d x. carries_data N x ≡ wiring.carries_data d) P (λ x h. early x (omega (arith, first_part_lem))) (λ k h. early (2 * P.inputs + k) (omega (arith, first_part_lem))) (λ x.
      let y : ℕ = 2 * P.inputs + length P.gates + x in
      let z : y - first_part N ≡ x = omega (arith, first_part_lem) in
      rw (le-ltb y (first_part N) (omega (arith, first_part_lem)), z) (data_alike s p.parts 0 x))
    where
      early : (x : ℕ) → x < first_part N → carries_data N x ≡ true
      early x h = rw (lt-ltb x (first_part N) h)

  pub data_is : (v : ℕ) → carries_data N v ≡ true → IsData P v
  data_is v e = sym (data_same v) ∙ e

  -- the pins of gate k carry data
  gate-named : (k v : ℕ) → In v (get_or P.gates k []) → carries_data N v ≡ true
  gate-named k v i = go (dec_lt k (length p.gates))
    where
      at : (gs : List ℕ) (k : ℕ) → k < length gs → get_or (map gate_pins gs) k [] ≡ gate_pins (get_or gs k 0)
      at [] k h = absurd (omega arith)
      at (g ∷ gs) zero h = refl
      at (g ∷ gs) (suc k) h = at gs k (omega arith)

      place : ℕ
      place = get_or p.gates k 0

      go : Dec (k < length p.gates) → carries_data N v ≡ true
      go (no h) = absurd (subst (In v) (get_or-eq_default P.gates [] (omega (arith, gates_long))) i)
      go (yes h) =
          let o = operand-of s (place + 2) (needed file.Stage (byte s (place + 1))) v (subst (In v) (at p.gates k h) i) in
          rw o.2 (gate-carries registers most s p r k h o.0 o.1)

  -- what the outputs name carries data
  pub output_named : (j v : ℕ) → In v (get_or (map output_rails p.outputs) j []) → IsData P v
  output_named j v i = go (dec_lt j (length p.outputs))
    where
      at : (os : List ℕ) (j : ℕ) → j < length os → get_or (map output_rails os) j [] ≡ output_rails (get_or os j 0)
      at [] j h = absurd (omega arith)
      at (o ∷ os) zero h = refl
      at (o ∷ os) (suc j) h = at os j (omega arith)

      go : Dec (j < length p.outputs) → IsData P v
      go (no h) = absurd (subst (In v) (get_or-eq_default (map output_rails p.outputs) [] (omega (arith, length-map p.outputs output_rails))) i)
      go (yes h) =
          let o = operand-of s (get_or p.outputs j 0 + 1) 2 v (subst (In v) (at p.outputs j h) i) in
          data_is v (rw o.2 (output_carries registers most s p r j h o.0 o.1))

  pub named : Named P
  unfolding data_of ki_of register_count opened
  named = record {
    few = omega (arith, all_long, (nets_count s N p.parts all_named).0, r.registers_in, r.elements_in, r.inputs_in.1, r.gates_in_holds, less.inputs_in, less.gates_in_holds);
    gate_pin = λ x v i. data_is v (gate-pin x v (subst (In v) (steps_are P x) i));
    element_pin = each_driver (λ d x. (v : ℕ) → In v (opened d) → v < all_nets P) P (λ x h v i. absurd i) (λ k h v i. absurd i)
        (λ x v i. net_inside v (pin_named s N p.parts all_named 0 x v i));
    rail = λ k v i. data_is v (data_named s N p.parts all_named k v i);
    ki = λ k h. ⊎_elim inl (λ e. inr (net_inside (ki_of P k) e)) (ki_named s N p.parts all_named k h);
  }
    where
      gate-pin : (x v : ℕ) → In v (cond (ltb x (2 * P.inputs)) [] (get_or P.gates (x - 2 * P.inputs) [])) → carries_data N v ≡ true
      gate-pin x v i = go (ltb x (2 * P.inputs)) i
        where
          go : (b : Bool) → In v (cond b [] (get_or P.gates (x - 2 * P.inputs) [])) → carries_data N v ≡ true
          go true i = absurd i
          go false i = gate-named (x - 2 * P.inputs) v i
