-- The two tables that loading leaves are those of the wiring: each row is that of what drives its net, and each register has its own.
-- Assumes nothing.
use Prim.Native.Nat.{ℕ, zero, suc, ◌+◌, ◌*◌, ◌≤◌, ◌<◌}
use native.Mathlib.Omega.{arith}
use mathlib.Core.Path.{◌≡◌, refl, sym, ap, ◌∙◌, subst}
use mathlib.Core.Bool.{Bool, true, false, cond}
use mathlib.Core.List.{List, [], ◌∷◌, ◌++◌, map}
use lib.ListN.{length, get_or, replicate, length-append, length-map, length-replicate, get_or-append}
use lib.Seq.{get_or-append-add, get_or-take}
use Rattle.gates.specs.Cell.{bit}
use Rattle.netlist.specs.declared.Sort.{Sort}
use Rattle.netlist.specs.declared.Sort.TheVariants as sort
use Rattle.netlist.specs.declared.Limits.{Limits}
use Rattle.netlist.specs.Bytes.{operand, operands, absent, outside}
use Rattle.netlist.specs.Commands.{stage_file, is_sort, pins_used}
use Rattle.netlist.specs.Reading.{Places, counts_of, nets_of, stage_limits, NoMore}
use Rattle.netlist.specs.Read.{Read}
use Rattle.netlist.specs.Writing.{All}
use Rattle.netlist.proofs.Operands.{pins_used_in, length_operands}
use Rattle.circuit.specs.Stage.{net_count}
use Rattle.wiring_spec.specs.Parts.{Register, Part, register, element, part_at, Pipeline, Driver, input, gate, rail, acknowledge, completion, nothing, registers_of, register_count, data_of, ki_of}
use Rattle.wiring_spec.specs.Parts.{part_drivers, drivers, driver_of}
use Rattle.wiring_spec.specs.Tables.{slot, RowOf, register_slot, RegisterRow, PartsLoaded}
use Rattle.circuit_load.specs.Parts.{wiring_of, rail_row, ko_row, element_row, net_rows, register_rows, Begins, PipelineHeld}
use Rattle.wiring_spec.proofs.Named.{long_alike, nets_count, all_named, first_part_lem, all_long, named}

-- ---- row by row

-- the net at the data of a rail
rail_of : Register → Bool → ℕ
rail_of r false = r.data0
rail_of r true = r.data1

-- the row of what drives a net, where `from` are the nets at the registers' data
row_by : (ℕ → Bool → ℕ) → Driver → List ℕ
row_by from input = []
row_by from (gate pins) = []
row_by from (rail k b) = rail_row (from k b) k
row_by from (acknowledge k) = ko_row k
row_by from (completion pins) = element_row pins
row_by from nothing = []

rows_by : (ℕ → Bool → ℕ) → List Driver → List ℕ
rows_by from [] = []
rows_by from (d ∷ ds) = row_by from d ++ rows_by from ds

no_register : Register
no_register = record { data0 = 0; data1 = 0; ki = outside }

-- the table of some parts, where k registers stand before them, is that of their drivers
rows_by_lem : (from : ℕ → Bool → ℕ) (parts : List Part) (k : ℕ) → ((m : ℕ) (b : Bool) → m < length (registers_of parts) → from (k + m) b ≡ rail_of (get_or (registers_of parts) m no_register) b) →
    net_rows k parts ≡ rows_by from (part_drivers k parts)
unfolding net_rows part_drivers registers_of rows_by row_by rail_of
rows_by_lem from [] k h = refl
rows_by_lem from (register r ∷ parts) k h =
    let z : k + 0 ≡ k = omega arith in
    let o : k + 1 ≡ suc k = omega arith in
    let a : from k false ≡ r.data0 = subst (λ (j : ℕ). from j false ≡ r.data0) z (h 0 false (omega arith)) in
    let b : from k true ≡ r.data1 = subst (λ (j : ℕ). from j true ≡ r.data1) z (h 0 true (omega arith)) in
    let later = rows_by_lem from parts (suc k) (λ m c l. let e : k + suc m ≡ suc k + m = omega arith in rw e at (h (suc m) c (omega arith))) in
    rw (a, b, o) (ap (λ (l : List ℕ). rail_row r.data0 k ++ (rail_row r.data1 k ++ (ko_row k ++ l))) later)
rows_by_lem from (element pins ∷ parts) k h = ap (λ (l : List ℕ). element_row pins ++ l) (rows_by_lem from parts k h)

-- a driver of a part: its row has eight numbers
Part8 : Driver → Type 0
Part8 input = ⊥
Part8 (gate pins) = ⊥
Part8 (rail k b) = Unit {0}
Part8 (acknowledge k) = Unit {0}
Part8 (completion pins) = (1 ≤ length pins) × (length pins ≤ 4)
Part8 nothing = ⊥

eight : (from : ℕ → Bool → ℕ) (d : Driver) → Part8 d → length (row_by from d) ≡ 8
unfolding row_by Part8
eight from input h = absurd h
eight from (gate pins) h = absurd h
eight from (rail k b) h = refl
eight from (acknowledge k) h = refl
eight from (completion pins) h = refl
eight from nothing h = absurd h

number_of : (from : ℕ → Bool → ℕ) (ds : List Driver) → All Part8 ds → (i j : ℕ) → i < length ds → j < 8 → slot (rows_by from ds) i j ≡ get_or (row_by from (get_or ds i nothing)) j 0
unfolding rows_by
number_of from [] h i j l m = absurd (omega arith)
number_of from (d ∷ ds) h zero j l m = let z : 8 * 0 + j ≡ j = omega arith in rw z (get_or-append (row_by from d) (rows_by from ds) 0 j (omega (arith, eight from d h.0)))
number_of from (d ∷ ds) h (suc i) j l m =
    let z : 8 * suc i + j ≡ length (row_by from d) + (8 * i + j) = omega (arith, eight from d h.0) in
    rw z (get_or-append-add (row_by from d) (rows_by from ds) (8 * i + j) 0 ∙ number_of from ds h.1 i j (omega arith) m)

-- the drivers of parts whose C-elements have one to four pins
abbrev pub Pinned : Part → Type 0
Pinned (register r) = Unit {0}
Pinned (element pins) = (1 ≤ length pins) × (length pins ≤ 4)

part-drivers : (parts : List Part) (k : ℕ) → All Pinned parts → All Part8 (part_drivers k parts)
unfolding part_drivers Part8
part-drivers [] k h = tt
part-drivers (register r ∷ parts) k h = (tt, (tt, (tt, part-drivers parts (suc k) h.1)))
part-drivers (element pins ∷ parts) k h = (h.0, part-drivers parts k h.1)

pinned : (s : List ℕ) (ps : List (Sort × ℕ)) → All Pinned (map (part_at s) ps)
pinned s [] = tt
pinned s (q ∷ ps) = (go (is_sort sort.Register q.0), pinned s ps)
  where
    go : (b : Bool) → Pinned (cond b (register (record { data0 = operand s (q.1 + 1); data1 = operand s (q.1 + 3); ki = operand s (q.1 + 5) }))
        (element (operands s (q.1 + 1) (pins_used s (q.1 + 1)))))
    go true = tt
    go false = omega (arith, pins_used_in s (q.1 + 1), length_operands s (q.1 + 1) (pins_used s (q.1 + 1)))

-- ---- the tables of a wiring

module _ (P : Pipeline) (pins_in_holds : All Pinned P.parts) where
  abbrev ds : List Driver
  ds = part_drivers 0 P.parts

  -- net i after the gates
  abbrev first : ℕ
  first = 2 * P.inputs + length P.gates

  late_driver : (i : ℕ) → driver_of P (first + i) ≡ get_or ds i nothing
  unfolding driver_of drivers
  late_driver i =
      let a : first + i ≡ length (replicate (2 * P.inputs) input) + (length P.gates + i) = omega (arith, length-replicate (2 * P.inputs) input) in
      let b : length P.gates + i ≡ length (map gate P.gates) + i = omega (arith, length-map P.gates gate) in
      ap (λ (n : ℕ). get_or (replicate (2 * P.inputs) input ++ (map gate P.gates ++ ds)) n nothing) a
      ∙ get_or-append-add (replicate (2 * P.inputs) input) (map gate P.gates ++ ds) (length P.gates + i) nothing
      ∙ ap (λ (n : ℕ). get_or (map gate P.gates ++ ds) n nothing) b
      ∙ get_or-append-add (map gate P.gates) ds i nothing

  from : ℕ → Bool → ℕ
  from k b = get_or (data_of P k) (bit b) 0

  data_from_lem : (m : ℕ) (b : Bool) → m < length (registers_of P.parts) → from (0 + m) b ≡ rail_of (get_or (registers_of P.parts) m no_register) b
  unfolding data_of from rail_of
  data_from_lem m b h = let z : 0 + m ≡ m = omega arith in rw z (go (registers_of P.parts) m h b)
    where
      go : (rs : List Register) (m : ℕ) → m < length rs → (b : Bool) → get_or (get_or (map (λ (r : Register). r.data0 ∷ r.data1 ∷ []) rs) m []) (bit b) 0 ≡ rail_of (get_or rs m no_register) b
      go [] m h b = absurd (omega arith)
      go (r ∷ rs) zero h false = refl
      go (r ∷ rs) zero h true = refl
      go (r ∷ rs) (suc m) h b = go rs m (omega arith) b

  table_is : net_rows 0 P.parts ≡ rows_by from ds
  table_is = rows_by_lem from P.parts 0 data_from_lem

  rows_long : (ds : List Driver) → All Part8 ds → length (rows_by from ds) ≡ 8 * length ds
  unfolding rows_by
  rows_long [] h = refl
  rows_long (d ∷ ds) h = omega (arith, length-append (row_by from d) (rows_by from ds), eight from d h.0, rows_long ds h.1)

  -- a number of a table that begins so
  begins_at : (nets : List ℕ) → Begins (net_rows 0 P.parts) nets → (i j : ℕ) → i < length ds → j < 8 → slot nets i j ≡ get_or (row_by from (get_or ds i nothing)) j 0
  begins_at nets begins i j h l =
      let a = part-drivers P.parts 0 pins_in_holds in
      let in_table : 8 * i + j < length (net_rows 0 P.parts) = omega (arith, ap length table_is, rows_long ds a) in
      sym (get_or-take (length (net_rows 0 P.parts)) nets (8 * i + j) 0 in_table) ∙ ap (λ (t : List ℕ). slot t i j) (begins ∙ table_is) ∙ number_of from ds a i j h l

  pins_at_holds : (nets : List ℕ) (i : ℕ) (pins : List ℕ) → ((j : ℕ) → j < 8 → slot nets i j ≡ get_or (element_row pins) j 0) → (j : ℕ) → j < 4 → slot nets i (1 + j) ≡ get_or pins j absent
  pins_at_holds nets i pins e zero l = e 1 (omega arith)
  pins_at_holds nets i pins e (suc zero) l = e 2 (omega arith)
  pins_at_holds nets i pins e (suc (suc zero)) l = e 3 (omega arith)
  pins_at_holds nets i pins e (suc (suc (suc zero))) l = e 4 (omega arith)
  pins_at_holds nets i pins e (suc (suc (suc (suc j)))) l = absurd (omega arith)

  pub rows_loaded : (nets : List ℕ) → Begins (net_rows 0 P.parts) nets → (i : ℕ) → i < length ds → RowOf P nets i (driver_of P (first + i))
  unfolding row_by from Part8
  rows_loaded nets begins i h =
      rw (late_driver i) (go (get_or ds i nothing) (driver_at ds i h (part-drivers P.parts 0 pins_in_holds)) (λ j l. begins_at nets begins i j h l))
    where
      driver_at : (ds : List Driver) (i : ℕ) → i < length ds → All Part8 ds → Part8 (get_or ds i nothing)
      driver_at [] i h a = absurd (omega arith)
      driver_at (d ∷ ds) zero h a = a.0
      driver_at (d ∷ ds) (suc i) h a = driver_at ds i (omega arith) a.1

      go : (d : Driver) → Part8 d → ((j : ℕ) → j < 8 → slot nets i j ≡ get_or (row_by from d) j 0) → RowOf P nets i d
      go input h e = absurd h
      go (gate pins) h e = absurd h
      go (rail k b) h e = (e 0 (omega arith), e 1 (omega arith), e 6 (omega arith))
      go (acknowledge k) h e = (e 0 (omega arith), e 6 (omega arith))
      go (completion pins) h e = (e 0 (omega arith), h.0, h.1, pins_at_holds nets i pins e)
      go nothing h e = absurd h

-- ---- the table of the registers

-- register m of some parts, whose first net is x: its row, and its rails among the drivers, where k registers stand before them
record RegisterAt (parts : List Part) (x k m : ℕ) : Type 0 where
  after : ℕ
  rail_net : get_or (register_rows x parts) (4 * m) 0 ≡ x + after
  rail0 : get_or (part_drivers k parts) after nothing ≡ rail (k + m) false
  rail1 : get_or (part_drivers k parts) (after + 1) nothing ≡ rail (k + m) true
  data0 : get_or (register_rows x parts) (4 * m + 1) 0 ≡ (get_or (registers_of parts) m no_register).data0
  data1 : get_or (register_rows x parts) (4 * m + 2) 0 ≡ (get_or (registers_of parts) m no_register).data1
  ki_net : get_or (register_rows x parts) (4 * m + 3) 0 ≡ (get_or (registers_of parts) m no_register).ki

register_at : (parts : List Part) (x k m : ℕ) → m < length (registers_of parts) → RegisterAt parts x k m
unfolding register_rows part_drivers registers_of
register_at [] x k m h = absurd (omega arith)
register_at (register r ∷ parts) x k zero h =
    let z : k + 0 ≡ k = omega arith in
    record { after = 0; rail_net = omega arith; rail0 = rw z; rail1 = rw z; data0 = refl; data1 = refl; ki_net = refl }
register_at (register r ∷ parts) x k (suc m) h =
    let l = register_at parts (x + 3) (suc k) m (omega arith) in
    let row : List ℕ = x ∷ r.data0 ∷ r.data1 ∷ r.ki ∷ [] in
    let past : (j : ℕ) → get_or (row ++ register_rows (x + 3) parts) (4 * suc m + j) 0 ≡ get_or (register_rows (x + 3) parts) (4 * m + j) 0 =
    λ j. let e : 4 * suc m + j ≡ 4 + (4 * m + j) = omega arith in
    ap (λ (n : ℕ). get_or (row ++ register_rows (x + 3) parts) n 0) e ∙ get_or-append-add row (register_rows (x + 3) parts) (4 * m + j) 0 in
    let n : k + suc m ≡ suc k + m = omega arith in
    let a : l.after + 3 ≡ suc (suc (suc l.after)) = omega arith in
    let b : l.after + 3 + 1 ≡ suc (suc (suc (l.after + 1))) = omega arith in
    let c : 4 * suc m ≡ 4 * suc m + 0 = omega arith in
    let d : 4 * m + 0 ≡ 4 * m = omega arith in
    record {
      after = l.after + 3;
      rail_net = ap (λ (n : ℕ). get_or (row ++ register_rows (x + 3) parts) n 0) c ∙ past 0 ∙ rw d (l.rail_net ∙ omega arith);
      rail0 = rw (a, n) l.rail0;
      rail1 = rw (b, n) l.rail1;
      data0 = past 1 ∙ l.data0;
      data1 = past 2 ∙ l.data1;
      ki_net = past 3 ∙ l.ki_net;
    }
register_at (element pins ∷ parts) x k m h =
    let l = register_at parts (x + 1) k m h in
    let a : l.after + 1 ≡ suc l.after = omega arith in
    let b : l.after + 1 + 1 ≡ suc (l.after + 1) = omega arith in
    record {
      after = l.after + 1;
      rail_net = l.rail_net ∙ omega arith;
      rail0 = rw a l.rail0;
      rail1 = rw b l.rail1;
      data0 = l.data0;
      data1 = l.data1;
      ki_net = l.ki_net;
    }

registers-long : (parts : List Part) (x : ℕ) → length (register_rows x parts) ≡ 4 * length (registers_of parts)
unfolding register_rows registers_of
registers-long [] x = refl
registers-long (register r ∷ parts) x = omega (arith, registers-long parts (x + 3))
registers-long (element pins ∷ parts) x = registers-long parts (x + 1)

ki_of_lem : (rs : List Register) (m : ℕ) → m < length rs → (get_or rs m no_register).ki ≡ get_or (map (λ (r : Register). r.ki) rs) m outside
ki_of_lem [] m h = absurd (omega arith)
ki_of_lem (r ∷ rs) zero h = refl
ki_of_lem (r ∷ rs) (suc m) h = ki_of_lem rs m (omega arith)

module _ (P : Pipeline) (pins_in_holds : All Pinned P.parts) where
  pub registers_loaded : (regs : List ℕ) → Begins (register_rows (first P pins_in_holds) P.parts) regs → (k : ℕ) → k < register_count P → RegisterRow P regs k
  unfolding register_count ki_of from rail_of
  registers_loaded regs begins k h =
      let x : ℕ = first P pins_in_holds in
      let at = register_at P.parts x 0 k h in
      let z : 0 + k ≡ k = omega arith in
      let table : List ℕ = register_rows x P.parts in
      let slot_is : (j : ℕ) → j < 4 → register_slot regs k j ≡ get_or table (4 * k + j) 0 =
      λ j l. sym (get_or-take (length table) regs (4 * k + j) 0 (omega (arith, registers-long P.parts x))) ∙ ap (λ (t : List ℕ). get_or t (4 * k + j) 0) begins in
      let n : 4 * k + 0 ≡ 4 * k = omega arith in
      let net : register_slot regs k 0 ≡ x + at.after = slot_is 0 (omega arith) ∙ rw n at.rail_net in
      let next : x + at.after + 1 ≡ x + (at.after + 1) = omega arith in
      record {
        rail0_net = ap (driver_of P) net ∙ late_driver P pins_in_holds at.after ∙ at.rail0 ∙ ap (λ (m : ℕ). rail m false) z;
        rail1_net = ap (λ (y : ℕ). driver_of P (y + 1)) net ∙ ap (driver_of P) next ∙ late_driver P pins_in_holds (at.after + 1) ∙ at.rail1 ∙ ap (λ (m : ℕ). rail m true) z;
        data_net = λ b. data_at at slot_is b ∙ sym (rw z at (data_from_lem P pins_in_holds k b h));
        ki_net = slot_is 3 (omega arith) ∙ at.ki_net ∙ ki_of_lem (registers_of P.parts) k h;
      }
    where
      data_at : RegisterAt P.parts (first P pins_in_holds) 0 k → ((j : ℕ) → j < 4 → register_slot regs k j ≡ get_or (register_rows (first P pins_in_holds) P.parts) (4 * k + j) 0) →
          (b : Bool) → register_slot regs k (1 + bit b) ≡ rail_of (get_or (registers_of P.parts) k no_register) b
      data_at at slot_is false = slot_is 1 (omega arith) ∙ at.data0
      data_at at slot_is true = slot_is 2 (omega arith) ∙ at.data1

-- ---- a file that was read

pub parts_loaded : (registers : Bool) {most : Limits} → NoMore most stage_limits → {s : List ℕ} {p : Places} → Read (stage_file registers) most s p → {code nets regs : List ℕ} →
    PipelineHeld s p code nets regs → PartsLoaded (wiring_of s p) (net_count (counts_of p)) (3 * (counts_of p).registers + (counts_of p).elements) nets regs
unfolding register_count
parts_loaded registers {most} less {s} {p} r {nets = nets} {regs = regs} h =
    let P : Pipeline = wiring_of s p in
    let pins_in_holds = pinned s p.parts in
    let count = nets_count s (nets_of p) p.parts (all_named registers most less s p r) in
    let first-is = first_part_lem registers most less s p r in
    let long = all_long registers most less s p r in
    record {
      first-is = sym first-is;
      all_nets_holds = omega (arith, long, count.0);
      few = omega (arith, count.1, r.registers_in);
      row = λ i l. subst (λ (x : ℕ). RowOf P nets i (driver_of P (x + i))) first-is (rows_loaded P pins_in_holds nets h.nets_begin i (omega (arith, count.0, long_alike s p.parts 0)));
      register_row = registers_loaded P pins_in_holds regs (subst (λ (x : ℕ). Begins (register_rows x P.parts) regs) (sym first-is) h.registers_begin);
      named = named registers most less s p r;
    }
