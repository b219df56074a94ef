-- The wires of the flat form, and that following them is resolving in the pipeline.
-- Assumes nothing.
use Prim.Native.Nat.{ℕ, zero, suc, ◌+◌, ◌*◌, ◌-◌, ◌/◌, ◌≤◌, ◌<◌}
use native.Mathlib.Omega.{arith}
use native.Mathlib.Decide.{ℕ_discrete}
use mathlib.Core.Path.{◌≡◌, refl, sym, ap, ◌∙◌}
use mathlib.Core.Bool.{true}
use mathlib.Core.List.{List}
use lib.ListN.{length, get_or, set, length-set}
use lib.Seq.{get_or-set_same, get_or-set_other}
use borrow.Author.Tests.{lt-ltb, le-ltb, le-leb, lt-leb, eq-eqb, ne_eqb}
use Rattle.wiring_spec.specs.Parts.{Pipeline, Driver, input, gate, rail, acknowledge, completion, nothing, driver_of, register_count}
use Rattle.wiring_spec.specs.Wires.{wire_of, times, resolve}
use Rattle.wiring_spec.specs.Named.{carries_data}
use Rattle.wiring_spec.specs.Tables.{slot, RowOf, PartsLoaded}
use Rattle.wiring_spec.proofs.Nets.{Stands}
use Rattle.wiring_spec.proofs.Rows.{by_row}
use Rattle.circuit_wire.specs.Wire.{wire_in, ResolvedTo}

module _ (nets : List ℕ) (first x : ℕ) where
  pub wire_before : x < first → x ≡ wire_in nets first x
  unfolding wire_in
  wire_before h = rw (lt-ltb x first h)

  pub wire_past : first ≤ x → length nets / 8 ≤ x - first → x ≡ wire_in nets first x
  unfolding wire_in
  wire_past h l = rw (le-ltb x first h, le-leb (length nets / 8) (x - first) l)

  module _ (h : first ≤ x) (l : x - first < length nets / 8) where
    wire_rail : slot nets (x - first) 0 ≡ 1 → slot nets (x - first) 1 ≡ wire_in nets first x
    unfolding wire_in
    wire_rail e = rw (le-ltb x first h, lt-leb (length nets / 8) (x - first) l, eq-eqb (slot nets (x - first) 0) 1 e)

    wire_other : (slot nets (x - first) 0 ≡ 1 → ⊥) → x ≡ wire_in nets first x
    unfolding wire_in
    wire_other d = rw (le-ltb x first h, lt-leb (length nets / 8) (x - first) l, ne_eqb (slot nets (x - first) 0) 1 d)

    sort_at : slot nets (x - first) 0 ≡ get_or nets (8 * (x - first)) 0
    sort_at = let z : 8 * (x - first) + 0 ≡ 8 * (x - first) = omega arith in ap (λ (k : ℕ). get_or nets k 0) z

    pub rail_read : get_or nets (8 * (x - first)) 0 ≡ 1 → slot nets (x - first) 1 ≡ wire_in nets first x
    rail_read e = wire_rail (sort_at ∙ e)

    pub other_read : (get_or nets (8 * (x - first)) 0 ≡ 1 → ⊥) → x ≡ wire_in nets first x
    other_read d = wire_other (λ e. d (sym sort_at ∙ e))

-- one more wire
pub times_turn : (f : ℕ → ℕ) (n i x y : ℕ) → i < n → y ≡ f x → times (n - (i + 1)) f y ≡ times (n - i) f x
unfolding times
times_turn f n i x y h e =
    let s : n - i ≡ suc (n - (i + 1)) = omega arith in
    ap (times (n - (i + 1)) f) e ∙ sym (ap (λ (k : ℕ). times k f x) s)

-- what is its own stays so
pub times_own : (f : ℕ → ℕ) (n x : ℕ) → f x ≡ x → times n f x ≡ x
unfolding times
times_own f zero x e = refl
times_own f (suc n) x e = ap (times n f) e ∙ times_own f n x e

pub times_none : (f : ℕ → ℕ) (left x : ℕ) → left ≤ 0 → x ≡ times left f x
unfolding times
times_none f zero x h = refl
times_none f (suc left) x h = absurd (omega arith)

times-same : (f g : ℕ → ℕ) → ((x : ℕ) → f x ≡ g x) → (k x : ℕ) → times k f x ≡ times k g x
unfolding times
times-same f g h zero x = refl
times-same f g h (suc k) x = times-same f g h k (f x) ∙ ap (times k g) (h x)

-- ---- row by row

-- the wires are the same where the rows are, but for their last number
kept_wire : (before nets : List ℕ) (first : ℕ) → length nets ≡ length before → ((k j : ℕ) → j < 7 → slot nets k j ≡ slot before k j) → (x : ℕ)
    → wire_in nets first x ≡ wire_in before first x
unfolding wire_in
kept_wire before nets first long kept x = rw (long, kept (x - first) 0 (omega arith), kept (x - first) 1 (omega arith))

pub resolved_more : (before nets : List ℕ) (first m i v : ℕ) → i < length before / 8 → ResolvedTo before nets first m i → v ≡ times m (wire_in nets first) (first + i)
    → ResolvedTo before (set nets (8 * i + 7) v) first m (i + 1)
resolved_more before nets first m i v h r e = record {
  long = simp length-set r.long;
  kept = λ k j l. get_or-set_other nets (8 * i + 7) (8 * k + j) v 0 (omega arith) ∙ r.kept k j l;
  done = λ k l. go k l (ℕ_discrete k i);
}
  where
    go : (k : ℕ) → k < i + 1 → Dec (k ≡ i) → slot (set nets (8 * i + 7) v) k 7 ≡ times m (wire_in before first) (first + k)
    go k l (yes q) =
        rw q (get_or-set_same nets (8 * i + 7) v 0 (omega (arith, r.long)) ∙ e
        ∙ times-same (wire_in nets first) (wire_in before first) (kept_wire before nets first r.long r.kept) m (first + i))
    go k l (no d) = get_or-set_other nets (8 * i + 7) (8 * k + 7) v 0 (omega arith) ∙ r.done k (omega arith)

-- ---- in the pipeline

module _ (p : Pipeline) (first count : ℕ) (nets regs : List ℕ) (loaded : PartsLoaded p first count nets regs) (long : length nets ≡ 8 * count) where
  rows : length nets / 8 ≡ count
  rows = omega arith

  wire_is : (x : ℕ) → wire_in nets first x ≡ wire_of p x (driver_of p x)
  unfolding wire_of
  wire_is = by_row p first count nets regs loaded long (λ x d. wire_in nets first x ≡ wire_of p x d) early row (λ x l h e. sym (wire_past nets first x l (omega (arith, rows))))
    where
      early : (x : ℕ) (d : Driver) → x < first → Stands p d x → carries_data d ≡ true → wire_in nets first x ≡ wire_of p x d
      early x input h s e = sym (wire_before nets first x h)
      early x (gate pins) h s e = sym (wire_before nets first x h)
      early x (rail k b) h s e = absurd (omega (arith, s.1, loaded.first-is))
      early x (acknowledge k) h s e = sym (wire_before nets first x h)
      early x (completion pins) h s e = sym (wire_before nets first x h)
      early x nothing h s e = sym (wire_before nets first x h)

      row : (x : ℕ) (d : Driver) → first ≤ x → x - first < count → Stands p d x → RowOf p nets (x - first) d → wire_in nets first x ≡ wire_of p x d
      row x input l h s r = absurd r
      row x (gate pins) l h s r = absurd r
      row x (rail k b) l h s r = sym (wire_rail nets first x l (omega (arith, rows)) r.0) ∙ r.1
      row x (acknowledge k) l h s r = sym (wire_other nets first x l (omega (arith, rows)) (λ e. absurd (omega (arith, r.0))))
      row x (completion pins) l h s r = sym (wire_other nets first x l (omega (arith, rows)) (λ e. absurd (omega (arith, r.0))))
      row x nothing l h s r = absurd r

  pub resolve_is : (x : ℕ) → times (register_count p) (wire_in nets first) x ≡ resolve p x
  unfolding resolve
  resolve_is = times-same (wire_in nets first) (λ x. wire_of p x (driver_of p x)) wire_is (register_count p)

-- a net that is its own wire stays
pub times_fixed : (f : ℕ → ℕ) (k x : ℕ) → f x ≡ x → times k f x ≡ x
unfolding times
times_fixed f zero x e = refl
times_fixed f (suc k) x e = ap (times k f) e ∙ times_fixed f k x e
