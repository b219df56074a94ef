-- Which nets the drivers stand at: the gates from 2n on, and registers of the file only.
-- Assumes nothing.
use Prim.Native.Nat.{ℕ, zero, suc, ◌+◌, ◌-◌, ◌*◌, ◌≤◌, ◌<◌}
use native.Mathlib.Omega.{arith}
use native.Mathlib.Decide.{dec_lt}
use mathlib.Core.Path.{◌≡◌, refl, sym, ap, ◌∙◌, subst}
use mathlib.Core.Bool.{Bool, true, false, cond}
use mathlib.Core.Logic.{inl, inr}
use mathlib.Core.List.{List, [], ◌∷◌, ◌++◌, map}
use lib.ListN.{length, get_or, replicate, length-map, get_or-eq_default}
use Rattle.gates.specs.Cell.{bit}
use lib.Dec.{eqb, ltb}
use borrow.Author.Tests.{eq-eqb, eqb-true, lt-ltb, le-ltb}
use Rattle.verdict.specs.Paths.{In, Leads, here, onward}
use Rattle.wiring_spec.specs.Parts.{Register, Part, register, element, Pipeline, Driver, input, gate, rail, acknowledge, completion, nothing, registers_of, part_drivers, drivers, driver_of, all_nets, register_count, data_of}
use Rattle.wiring_spec.specs.Wiring.{through_gate, opened, gate_steps, openings, is_rail_of}
use Rattle.wiring_spec.specs.Named.{carries_data, IsData}

pub never : false ≡ true → ⊥
never e = let z : ◌≡◌ {A = ℕ} 0 1 = cc in omega arith

pub eqb_sym : (a b : ℕ) → eqb a b ≡ eqb b a
eqb_sym a b = go (eqb a b) (eqb b a) refl refl
  where
    go : (c d : Bool) → eqb a b ≡ c → eqb b a ≡ d → c ≡ d
    go true d e f = sym (sym f ∙ eq-eqb b a (sym (eqb-true a b e)))
    go false true e f = sym e ∙ eq-eqb a b (sym (eqb-true b a f))
    go false false e f = refl

-- steps of one sort are steps of another
pub leads_more : (next next' : ℕ → List ℕ) → ((u v : ℕ) → In v (next u) → In v (next' u)) → (y : ℕ) {x : ℕ} → Leads next y x → Leads next' y x
leads_more next next' h y here = here
leads_more next next' h y (onward {x = x} {z = z} i p) = onward (h x z i) (leads_more next next' h y p)

-- ---- past the nets

-- what lies past all nets is driven by nothing ..
pub past_nothing : (p : Pipeline) (x : ℕ) → all_nets p ≤ x → driver_of p x ≡ nothing
unfolding driver_of all_nets
past_nothing p x h = get_or-eq_default (drivers p) nothing h

-- .. so that of which something is so that is not so of nothing is a net
pub net_where : (p : Pipeline) (x : ℕ) (P : Driver → Type 0) → ¬ (P nothing) → P (driver_of p x) → x < all_nets p
net_where p x P none h = go (dec_lt x (all_nets p))
  where
    go : Dec (x < all_nets p) → x < all_nets p
    go (yes l) = l
    go (no l) = absurd (none (subst P (past_nothing p x (omega arith)) h))

module _ (p : Pipeline) where
  pub gate_inside : (u v : ℕ) → In v (gate_steps p u) → u < all_nets p
  unfolding through_gate
  gate_inside u v i = net_where p u (λ d. In v (through_gate d)) (λ h. h) i

  pub open_inside : (u v : ℕ) → In v (openings p u) → u < all_nets p
  unfolding opened
  open_inside u v i = net_where p u (λ d. In v (opened d)) (λ h. h) i

  pub data_net : (x : ℕ) → IsData p x → x < all_nets p
  unfolding carries_data
  data_net x e = net_where p x (λ d. carries_data d ≡ true) never e

-- ---- the list of drivers, part by part

module _ (P : Driver → ℕ → Type 0) where
  -- what holds of each rail, gate and part with its place holds of each net
  in_inputs : (m : ℕ) (rest : List Driver) (j : ℕ) → ((x : ℕ) → x < m → P input (j + x)) → ((x : ℕ) → P (get_or rest x nothing) (j + m + x)) → (x : ℕ) → P (get_or (replicate m input ++ rest) x nothing) (j + x)
  in_inputs zero rest j f g x = subst (λ (i : ℕ). P (get_or rest x nothing) i) (omega arith) (g x)
  in_inputs (suc m) rest j f g zero = f 0 (omega arith)
  in_inputs (suc m) rest j f g (suc x) =
      subst (λ (i : ℕ). P (get_or (replicate m input ++ rest) x nothing) i) (omega arith)
      (in_inputs m rest (suc j) (λ y h. subst (P input) (omega arith) (f (suc y) (omega arith))) (λ y. subst (P (get_or rest y nothing)) (omega arith) (g y)) x)

  in_gates : (gates : List (List ℕ)) (rest : List Driver) (j : ℕ) → ((k : ℕ) → k < length gates → P (gate (get_or gates k [])) (j + k)) → ((x : ℕ) → P (get_or rest x nothing) (j + length gates + x)) → (x : ℕ) → P (get_or (map gate gates ++ rest) x nothing) (j + x)
  in_gates [] rest j f h x = subst (λ (i : ℕ). P (get_or rest x nothing) i) (omega arith) (h x)
  in_gates (g ∷ gates) rest j f h zero = f 0 (omega arith)
  in_gates (g ∷ gates) rest j f h (suc x) =
      subst (λ (i : ℕ). P (get_or (map gate gates ++ rest) x nothing) i) (omega arith)
      (in_gates gates rest (suc j) (λ k l. subst (P (gate (get_or gates k []))) (omega arith) (f (suc k) (omega arith))) (λ y. subst (P (get_or rest y nothing)) (omega arith) (h y)) x)

  pub each_driver :
      (p : Pipeline)
      → ((x : ℕ) → x < 2 * p.inputs → P input x)
      → ((k : ℕ) → k < length p.gates → P (gate (get_or p.gates k [])) (2 * p.inputs + k))
      → ((x : ℕ) → P (get_or (part_drivers 0 p.parts) x nothing) (2 * p.inputs + length p.gates + x))
      → (x : ℕ) → P (driver_of p x) x
  unfolding driver_of drivers
  each_driver p f g h x =
      subst (λ (i : ℕ). P (driver_of p x) i) zero_plus
      (in_inputs (2 * p.inputs) (map gate p.gates ++ part_drivers 0 p.parts) 0
      (λ y l. subst (P input) (sym (plus y)) (f y l))
      (λ y. subst (λ (i : ℕ). P (get_or (map gate p.gates ++ part_drivers 0 p.parts) y nothing) (i + y)) (sym (plus (2 * p.inputs)))
      (in_gates p.gates (part_drivers 0 p.parts) (2 * p.inputs) g h y)) x)
    where
      plus : (y : ℕ) → 0 + y ≡ y
      plus y = omega arith

      zero_plus : 0 + x ≡ x
      zero_plus = plus x

-- ---- gates and parts

-- the parts' drivers: rails and Ko of the file's registers, C-elements, or nothing
abbrev pub Late : ℕ → Driver → Type 0
Late m input = ⊥
Late m (gate pins) = ⊥
Late m (rail k b) = k < m
Late m (acknowledge k) = k < m
Late m (completion pins) = Unit {0}
Late m nothing = Unit {0}

late_more : (m m' : ℕ) → m ≤ m' → (d : Driver) → Late m d → Late m' d
late_more m m' h input l = l
late_more m m' h (gate pins) l = l
late_more m m' h (rail k b) l = omega arith
late_more m m' h (acknowledge k) l = omega arith
late_more m m' h (completion pins) l = tt
late_more m m' h nothing l = tt

part-late : (parts : List Part) (k x : ℕ) → Late (k + length (registers_of parts)) (get_or (part_drivers k parts) x nothing)
unfolding part_drivers registers_of
part-late [] k x = tt
part-late (register r ∷ parts) k zero = omega arith
part-late (register r ∷ parts) k (suc zero) = omega arith
part-late (register r ∷ parts) k (suc (suc zero)) = omega arith
part-late (register r ∷ parts) k (suc (suc (suc x))) = late_more (suc k + length (registers_of parts)) (k + suc (length (registers_of parts))) (omega arith) (get_or (part_drivers (suc k) parts) x nothing) (part-late parts (suc k) x)
part-late (element pins ∷ parts) k zero = tt
part-late (element pins ∷ parts) k (suc x) = part-late parts k x

-- what the driver of net x is: an input below 2n, gate x - 2n, or after these one of the parts'
abbrev pub Stands : Pipeline → Driver → ℕ → Type 0
Stands p input x = x < 2 * p.inputs
Stands p (gate pins) x = (k : ℕ) × (k < length p.gates) × (x ≡ 2 * p.inputs + k) × (pins ≡ get_or p.gates k [])
Stands p (rail k b) x = (k < register_count p) × (2 * p.inputs + length p.gates ≤ x)
Stands p (acknowledge k) x = (k < register_count p) × (2 * p.inputs + length p.gates ≤ x)
Stands p (completion pins) x = 2 * p.inputs + length p.gates ≤ x
Stands p nothing x = Unit {0}

pub stands : (p : Pipeline) (x : ℕ) → Stands p (driver_of p x) x
unfolding register_count
stands p = each_driver (Stands p) p (λ x h. h) (λ k h. (k, h, refl, refl)) (λ x.
    late (part x) (2 * p.inputs + length p.gates + x) (omega arith) (late_more (0 + register_count p) (register_count p) (omega arith) (part x) (part-late p.parts 0 x)))
  where
    part : ℕ → Driver
    part x = get_or (part_drivers 0 p.parts) x nothing

    late : (d : Driver) (x : ℕ) → 2 * p.inputs + length p.gates ≤ x → Late (register_count p) d → Stands p d x
    late input x h l = absurd l
    late (gate pins) x h l = absurd l
    late (rail k b) x h l = (l, h)
    late (acknowledge k) x h l = (l, h)
    late (completion pins) x h l = h
    late nothing x h l = tt

-- before the parts' nets all carry data
pub early_data : (p : Pipeline) (x : ℕ) → x < 2 * p.inputs + length p.gates → IsData p x
unfolding carries_data
early_data p = each_driver (λ d x. x < 2 * p.inputs + length p.gates → carries_data d ≡ true) p (λ x h l. refl) (λ k h l. refl) (λ x l. absurd (omega arith))

-- C-elements come after the gates
pub open_late : (p : Pipeline) (x v : ℕ) → In v (openings p x) → 2 * p.inputs + length p.gates ≤ x
unfolding opened
open_late p x v = go (driver_of p x) (stands p x)
  where
    go : (d : Driver) → Stands p d x → In v (opened d) → 2 * p.inputs + length p.gates ≤ x
    go input s i = absurd i
    go (gate pins) s i = absurd i
    go (rail k b) s i = absurd i
    go (acknowledge k) s i = absurd i
    go (completion pins) s i = s
    go nothing s i = absurd i

-- a net that is opened is a C-element's
pub opened_element : (d : Driver) (v : ℕ) → In v (opened d) → d ≡ completion (opened d)
unfolding opened
opened_element input v i = absurd i
opened_element (gate pins) v i = absurd i
opened_element (rail k b) v i = absurd i
opened_element (acknowledge k) v i = absurd i
opened_element (completion pins) v i = refl
opened_element nothing v i = absurd i

-- the steps of all nets: a gate's pins, from net 2n on
pub steps_are : (p : Pipeline) (x : ℕ) → gate_steps p x ≡ cond (ltb x (2 * p.inputs)) [] (get_or p.gates (x - 2 * p.inputs) [])
unfolding through_gate
steps_are p = each_driver (λ d x. through_gate d ≡ pins_from x) p (λ x h. sym (rw (lt-ltb x (2 * p.inputs) h))) (λ k h. sym (past k)) (λ x.
    let k = length p.gates + x in
    let z : 2 * p.inputs + length p.gates + x ≡ 2 * p.inputs + k = omega arith in
    none _ (get_or (part_drivers 0 p.parts) x nothing) (part-late p.parts 0 x)
    ∙ sym (ap pins_from z ∙ past k ∙ get_or-eq_default p.gates [] (omega arith)))
  where
    pins_from : ℕ → List ℕ
    pins_from x = cond (ltb x (2 * p.inputs)) [] (get_or p.gates (x - 2 * p.inputs) [])

    past : (k : ℕ) → pins_from (2 * p.inputs + k) ≡ get_or p.gates k []
    past k = let e : 2 * p.inputs + k - 2 * p.inputs ≡ k = omega arith in rw (le-ltb (2 * p.inputs + k) (2 * p.inputs) (omega arith), e)

    none : (m : ℕ) (d : Driver) → Late m d → through_gate d ≡ []
    none m input l = absurd l
    none m (gate pins) l = absurd l
    none m (rail k b) l = refl
    none m (acknowledge k) l = refl
    none m (completion pins) l = refl
    none m nothing l = refl

-- a rail of register k is one of the file's
pub rail_inside : (p : Pipeline) (k x : ℕ) → is_rail_of k (driver_of p x) ≡ true → k < register_count p
unfolding is_rail_of
rail_inside p k x e = go (driver_of p x) (stands p x) e
  where
    go : (d : Driver) → Stands p d x → is_rail_of k d ≡ true → k < register_count p
    go input s e = absurd (never e)
    go (gate pins) s e = absurd (never e)
    go (rail j b) s e = omega (arith, s.0, eqb-true j k e)
    go (acknowledge j) s e = absurd (never e)
    go (completion pins) s e = absurd (never e)
    go nothing s e = absurd (never e)

-- ---- a register's data

module _ (p : Pipeline) (t : ℕ) where
  abbrev nets : List (List ℕ)
  nets = map (λ (r : Register). r.data0 ∷ r.data1 ∷ []) (registers_of p.parts)

  -- a register with data is one of the file's ..
  pub register_inside : (x : ℕ) → In x (data_of p t) → t < register_count p
  unfolding data_of register_count
  register_inside x i = go (dec_lt t (length (registers_of p.parts)))
    where
      go : Dec (t < length (registers_of p.parts)) → t < length (registers_of p.parts)
      go (yes h) = h
      go (no h) = absurd (subst (In x) (get_or-eq_default nets [] (omega (arith, length-map (registers_of p.parts) (λ (r : Register). r.data0 ∷ r.data1 ∷ [])))) i)

  -- .. and each of those has data for both rails
  pub data_in : (b : Bool) → t < register_count p → In (get_or (data_of p t) (bit b) 0) (data_of p t)
  unfolding data_of register_count
  data_in b h = go (registers_of p.parts) t h b
    where
      go : (rs : List Register) (k : ℕ) → k < length rs → (b : Bool)
          → In (get_or (get_or (map (λ (r : Register). r.data0 ∷ r.data1 ∷ []) rs) k []) (bit b) 0) (get_or (map (λ (r : Register). r.data0 ∷ r.data1 ∷ []) rs) k [])
      go [] k h b = absurd (omega arith)
      go (r ∷ rs) zero h false = inl refl
      go (r ∷ rs) zero h true = inr (inl refl)
      go (r ∷ rs) (suc k) h b = go rs k (omega arith) b

  -- the data is these two
  pub data_two : t < register_count p → data_of p t ≡ get_or (data_of p t) 0 0 ∷ get_or (data_of p t) 1 0 ∷ []
  unfolding data_of register_count
  data_two h = go (registers_of p.parts) t h
    where
      go : (rs : List Register) (k : ℕ) → k < length rs → get_or (map (λ (r : Register). r.data0 ∷ r.data1 ∷ []) rs) k []
          ≡ get_or (get_or (map (λ (r : Register). r.data0 ∷ r.data1 ∷ []) rs) k []) 0 0 ∷ get_or (get_or (map (λ (r : Register). r.data0 ∷ r.data1 ∷ []) rs) k []) 1 0 ∷ []
      go [] k h = absurd (omega arith)
      go (r ∷ rs) zero h = refl
      go (r ∷ rs) (suc k) h = go rs k (omega arith)
