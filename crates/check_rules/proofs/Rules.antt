-- The rules told from the tables are those of the wiring.
-- Assumes nothing.
use Prim.Native.Nat.{ℕ, suc, ◌+◌, ◌-◌, ◌^◌, ◌≤◌, ◌<◌}
use native.Mathlib.Omega.{arith}
use native.Mathlib.Decide.{dec_lt}
use mathlib.Core.Path.{◌≡◌, refl, sym, ap, ap₂, ◌∙◌}
use mathlib.Core.Bool.{Bool, true, false, cond, not, ◌&&◌, ◌||◌}
use mathlib.Core.Logic.{◌⊎◌, inl, inr, ⊎_elim}
use mathlib.Core.List.{List, [], ◌∷◌}
use lib.ListN.{length, get_or}
use lib.Dec.{eqb, ltb}
use lib.Bits.{bit_or}
use borrow.Author.Tests.{eq-eqb, ne_eqb, eqb-true, lt-ltb, le-ltb}
use Rattle.netlist.specs.Bytes.{outside}
use Rattle.runs.proofs.Test.{clash, not-true, not-false, of_not, and_in, and_left, and_right, or_left, or_right, or_cases}
use Rattle.verdict.specs.Lists.{select, some}
use Rattle.verdict.proofs.Steps.{some_in, some_out}
use Rattle.verdict.proofs.Words.{index_in}
use Rattle.lane_cells.specs.Lane.{lane}
use Rattle.lane_cells.proofs.Lane.{lane_or}
use Rattle.wiring_spec.specs.Parts.{Pipeline, Driver, input, gate, rail, acknowledge, completion, nothing, driver_of, ki_of, register_count}
use Rattle.wiring_spec.specs.Wiring.{reaches, registers, sources, level, behind, is_ko_of, uneven, missing, foreign, bars, barred}
use Rattle.wiring_spec.specs.Passing.{Behind}
use Rattle.wiring_spec.specs.Named.{carries_data}
use Rattle.wiring_spec.proofs.Nets.{never, net_where, data_net, Stands, stands}
use Rattle.wiring_spec.proofs.Passing.{reaches_sound, source_inside, behind_sound, behind_complete, ko_sound, ko_complete}
use Rattle.check_levels.specs.Graph.{source_in, SourcesOf}
use Rattle.check_open.specs.declared.Behind.{Behind as Standing}
use Rattle.check_open.specs.Opening.{nothing_behind}
use Rattle.check_rules.specs.Known.{InputsOf, LevelsOf, BehindOf}
use Rattle.check_rules.specs.Rules.{SetTo, lacking}
use Rattle.check_rules.proofs.Sets.{together, set_in_holds, set_out, set_empty, lacking_some}

-- some of those that are selected pass a test
some-select : (f test : ℕ → Bool) (xs : List ℕ) → some (λ x. f x && test x) xs ≡ some test (select f xs)
unfolding some select
some-select f test [] = refl
some-select f test (x ∷ xs) = go (f x) refl (some-select f test xs)
  where
    go : (b : Bool) → f x ≡ b → some (λ x. f x && test x) xs ≡ some test (select f xs)
        → cond (f x && test x) true (some (λ x. f x && test x) xs) ≡ some test (cond (f x) (x ∷ select f xs) (select f xs))
    go true e later = rw (e, later)
    go false e later = rw (e, later)

-- ---- what is barred behind a Ki

module _ (p : Pipeline) (k : ℕ) where
  abbrev bars_at : ℕ → Bool
  bars_at x = bars p k (driver_of p x)

  abbrev is_data : ℕ → Bool
  is_data x = carries_data (driver_of p x)

  abbrev ko_behind : ℕ → Bool
  ko_behind t = behind p (λ x. is_ko_of t (driver_of p x)) k

  abbrev strange : ℕ → Bool
  strange t = ko_behind t && foreign p k t

  bars-out : (d : Driver) (x : ℕ) → Stands p d x → bars p k d ≡ true
      → (carries_data d ≡ true) ⊎ ((t : ℕ) × (t < register_count p) × (is_ko_of t d ≡ true) × (foreign p k t ≡ true))
  unfolding bars carries_data is_ko_of
  bars-out input x s e = inl refl
  bars-out (gate pins) x s e = inl refl
  bars-out (rail j b) x s e = inl refl
  bars-out (acknowledge t) x s e = inr (t, s.0, eq-eqb t t refl, e)
  bars-out (completion pins) x s e = absurd (never e)
  bars-out nothing x s e = absurd (never e)

  bars-data : (d : Driver) → carries_data d ≡ true → bars p k d ≡ true
  unfolding bars carries_data
  bars-data input e = refl
  bars-data (gate pins) e = refl
  bars-data (rail j b) e = refl
  bars-data (acknowledge t) e = absurd (never e)
  bars-data (completion pins) e = absurd (never e)
  bars-data nothing e = absurd (never e)

  bars-ko : (t : ℕ) (d : Driver) → is_ko_of t d ≡ true → foreign p k t ≡ true → bars p k d ≡ true
  unfolding bars is_ko_of
  bars-ko t input e f = absurd (never e)
  bars-ko t (gate pins) e f = absurd (never e)
  bars-ko t (rail j b) e f = absurd (never e)
  bars-ko t (acknowledge j) e f = ap (foreign p k) (eqb-true j t e) ∙ f
  bars-ko t (completion pins) e f = absurd (never e)
  bars-ko t nothing e f = absurd (never e)

  -- a net that carries data, or the Ko of a register that is foreign to k
  pub bars_split : behind p bars_at k ≡ (behind p is_data k || some strange (registers p))
  unfolding bars
  bars_split = together (behind p bars_at k) (behind p is_data k || some strange (registers p)) sound complete
    where
      sound : behind p bars_at k ≡ true → (behind p is_data k || some strange (registers p)) ≡ true
      sound e =
          let r = behind_sound p bars_at k e in
          ⊎_elim (λ q. or_left (behind p is_data k) (some strange (registers p)) (behind_complete p is_data k r.0 (data_net p r.0 q) q r.2))
          (λ q. or_right (behind p is_data k) (some strange (registers p)) (some_in strange (registers p) q.0 (index_in (register_count p) q.0 q.1)
          (and_in (ko_behind q.0) (foreign p k q.0) (ko_complete p k q.0 (r.0, q.2, r.2)) q.3)))
          (bars-out (driver_of p r.0) r.0 (stands p r.0) r.1)

      barred-at : (y : ℕ) → bars_at y ≡ true → Behind p k y → behind p bars_at k ≡ true
      barred-at y e b = behind_complete p bars_at k y (net_where p y (λ d. bars p k d ≡ true) never e) e b

      complete : (behind p is_data k || some strange (registers p)) ≡ true → behind p bars_at k ≡ true
      complete e =
          ⊎_elim (λ q. let r = behind_sound p is_data k q in barred-at r.0 (bars-data (driver_of p r.0) r.1) r.2)
          (λ q.
          let t = some_out strange (registers p) q in
          let r = ko_sound p k t.0 (and_left (ko_behind t.0) (foreign p k t.0) t.2) in
          barred-at r.0 (bars-ko t.0 (driver_of p r.0) r.1 (and_right (ko_behind t.0) (foreign p k t.0) t.2)) r.2)
          (or_cases (behind p is_data k) (some strange (registers p)) e)

  -- only a register of the file has a Ko
  pub no_ko : (t : ℕ) → register_count p ≤ t → ko_behind t ≡ false
  unfolding is_ko_of
  no_ko t h = not-true (ko_behind t) (λ e. let r = ko_sound p k t e in at (driver_of p r.0) r.0 (stands p r.0) r.1)
    where
      at : (d : Driver) (x : ℕ) → Stands p d x → is_ko_of t d ≡ true → ⊥
      at input x s e = never e
      at (gate pins) x s e = never e
      at (rail j b) x s e = never e
      at (acknowledge j) x s e = omega (arith, s.0, eqb-true j t e)
      at (completion pins) x s e = never e
      at nothing x s e = never e

-- ---- the rules

module _ (p : Pipeline) (table : List ℕ) (of : SourcesOf p table) (small : length table ≤ 64) (k : ℕ) (h : k < length table) where
  abbrev m : ℕ
  m = register_count p

  inside : k < m
  inside = omega (arith, of.long)

  few : m ≤ 64
  few = omega (arith, of.long)

  -- a set of a level holds the registers of that level
  level_in : (levels : List ℕ) → LevelsOf p levels → length levels ≡ length table → (l set : ℕ) → SetTo (λ t. eqb (get_or levels t 0) l) (length levels) set
      → (t : ℕ) → t < m → lane t set ≡ eqb (level p t) l
  level_in levels level-is long l set s t h =
      set_in_holds (λ t. eqb (get_or levels t 0) l) (length levels) set (omega arith) s t (omega (arith, of.long)) ∙ ap (λ (x : ℕ). eqb x l) (level-is t h)

  -- 33
  module _ (levels inputs : List ℕ) (level-is : LevelsOf p levels) (input_is : InputsOf p inputs) (long : length levels ≡ length table) (low : 1 ≤ get_or levels k 0) where
    abbrev own : ℕ
    own = get_or levels k 0

    abbrev unlike : ℕ → Bool
    unlike t = not (eqb (level p k) (suc (level p t)))

    before : (a b : ℕ) → 1 ≤ a → eqb b (a - 1) ≡ eqb a (suc b)
    before a b l = together (eqb b (a - 1)) (eqb a (suc b)) (λ e. eq-eqb a (suc b) (omega (arith, eqb-true b (a - 1) e))) (λ e. eq-eqb b (a - 1) (omega (arith, eqb-true a (suc b) e)))

    pub uneven_told : (row : ℕ) → SetTo (λ t. eqb (get_or levels t 0) (own - 1)) (length levels) row → (a b : Bool) → a ≡ lacking row (get_or table k 0)
        → b ≡ source_in inputs 0 k → (a || (b && not (eqb own 1))) ≡ uneven p k
    unfolding uneven sources
    uneven_told row s a b f g =
        ap₂ (λ (x y : Bool). x || y) (f ∙ lack ∙ some-select (λ t. reaches p t k) unlike (registers p))
        (ap₂ (λ (x : Bool) (l : ℕ). x && not (eqb l 1)) (g ∙ input_is k inside) (level-is k inside))
      where
        at : (i : ℕ) → i < m → (lane i (get_or table k 0) && not (lane i row)) ≡ (reaches p i k && unlike i)
        at i l =
            ap₂ (λ (a b : Bool). a && not b) (of.each i k (omega (arith, few)) inside)
            (level_in levels level-is long (own - 1) row s i l ∙ before own (level p i) low ∙ ap (λ (x : ℕ). eqb x (suc (level p i))) (level-is k inside))

        past : (i : ℕ) → m ≤ i → i < 64 → lane i (get_or table k 0) ≡ false
        past i l l64 = of.each i k l64 inside ∙ not-true (reaches p i k) (λ e. omega (arith, source_inside p i k (reaches_sound p i k e)))

        lack : lacking row (get_or table k 0) ≡ some (λ t. reaches p t k && unlike t) (registers p)
        lack = lacking_some row (get_or table k 0) m (λ t. reaches p t k && unlike t) few at past

  -- 34 and 35
  module _ (reached : ℕ) (s : SetTo (source_in table k) (length table) reached) where
    reached_set : SetTo (reaches p k) m reached
    reached_set i l = s i l ∙ go (dec_lt i m)
      where
        go : Dec (i < m) → cond (ltb i (length table)) (source_in table k i) false ≡ cond (ltb i m) (reaches p k i) false
        go (yes q) = rw (of.long, lt-ltb i m q) (of.each k i (omega arith) q)
        go (no q) = rw (of.long, le-ltb i m (omega arith))

    pub missing_told : (found : List Standing) → BehindOf p found → lacking (get_or found k nothing_behind).kos reached ≡ missing p k
    unfolding missing
    missing_told found stands_of =
        lacking_some (get_or found k nothing_behind).kos reached m (λ t. reaches p k t && not (ko_behind p k t)) few
        (λ t l. ap₂ (λ (a b : Bool). a && not b) (set_in_holds (reaches p k) m reached few reached_set t l) (stands_of.kos_of k t inside (omega (arith, few))))
        (set_out (reaches p k) m reached few reached_set)

    module _ (fits : reached < 2 ^ 64) where
      abbrev some_reached : Bool
      some_reached = some (reaches p k) (registers p)

      reached_none : reached ≡ 0 → some_reached ≡ false
      reached_none z = of_not some_reached (sym (set_empty (reaches p k) m reached few reached_set fits) ∙ eq-eqb reached 0 z)

      reached_some : ¬ (reached ≡ 0) → some_reached ≡ true
      reached_some d = not-false some_reached (λ e. clash (set_empty (reaches p k) m reached few reached_set fits ∙ ap not e) (ne_eqb reached 0 d))

      -- where it reaches no other
      pub barred_alone : (ki : ℕ) → ki ≡ ki_of p k → reached ≡ 0 → not (eqb ki outside) ≡ barred p k
      unfolding barred
      barred_alone ki e z = rw (reached_none z, e)

      -- where it reaches some
      module _ (found : List Standing) (stands_of : BehindOf p found) (d : ¬ (reached ≡ 0)) where
        pub barred_data : (get_or found k nothing_behind).other ≡ true → true ≡ barred p k
        unfolding barred
        barred_data e = rw (reached_some d, bars_split p k, sym (stands_of.others_of k inside) ∙ e)

        pub barred_told : (levels : List ℕ) → LevelsOf p levels → length levels ≡ length table → (get_or found k nothing_behind).other ≡ false → (next : ℕ)
            → SetTo (λ t. eqb (get_or levels t 0) (get_or levels k 0 + 1)) (length levels) next → lacking (bit_or reached next) (get_or found k nothing_behind).kos ≡ barred p k
        unfolding barred foreign
        barred_told levels level-is long n next w =
            rw (reached_some d, bars_split p k, sym (stands_of.others_of k inside) ∙ n)
            (lacking_some (bit_or reached next) (get_or found k nothing_behind).kos m (strange p k) few at (λ t l l64. stands_of.kos_of k t inside l64 ∙ no_ko p k t l))
          where
            neither : (a b : Bool) → not (a || b) ≡ (not a && not b)
            neither true b = refl
            neither false b = refl

            after : (t : ℕ) → t < m → lane t next ≡ eqb (level p t) (suc (level p k))
            after t l =
                let e : get_or levels k 0 + 1 ≡ suc (level p k) = omega (arith, level-is k inside) in
                level_in levels level-is long (get_or levels k 0 + 1) next w t l ∙ ap (eqb (level p t)) e

            at : (t : ℕ) → t < m → (lane t (get_or found k nothing_behind).kos && not (lane t (bit_or reached next))) ≡ strange p k t
            at t l =
                ap₂ (λ (a b : Bool). a && b) (stands_of.kos_of k t inside (omega (arith, few)))
                (ap not (lane_or t reached next) ∙ neither (lane t reached) (lane t next)
                ∙ ap₂ (λ (a b : Bool). not a && not b) (set_in_holds (reaches p k) m reached few reached_set t l) (after t l))
