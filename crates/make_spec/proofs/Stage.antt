-- The stage that is made from a well-formed reference: it has no loop, its gates are cast and have hold, and in every word it conforms if every
-- signal leads to an output; its rails wait for their operands.
-- Assumes nothing.
use Prim.Native.Nat.{ℕ, zero, suc, ◌+◌, ◌-◌, ◌*◌, ◌/◌, ◌%◌, ◌≤◌, ◌<◌}
use native.Mathlib.Omega.{arith}
use native.Mathlib.Decide.{dec_lt}
use mathlib.Core.Path.{◌≡◌, refl, sym, ap, ◌∙◌, subst}
use mathlib.Core.Bool.{Bool, true, false, not, cond}
use mathlib.Core.Logic.{◌⊎◌, inl, inr}
use mathlib.Core.List.{List, [], ◌∷◌, map, map-map}
use lib.ListN.{length, get_or, length-map}
use lib.Dec.{ltb}
use Rattle.gates.specs.Cell.{bit}
use Rattle.runs.specs.Row.{Row, low, after}
use Rattle.runs.specs.Net.{nets, rails, IsGate, input_rail, rise_up, rise_down, rise_step, RiseList}
use Rattle.runs.specs.Theory.{AllHold}
use Rattle.runs.specs.Pair.{DataOf, Data}
use Rattle.runs.specs.Acyclic.{Acyclic}
use Rattle.runs.specs.Tight.{Supported, Tight}
use Rattle.runs.specs.Complete.{Conforms}
use Rattle.runs.proofs.Test.{clash, not-true, lt-ltb, le-ltb}
use Rattle.runs.proofs.Net.{by_net_gate, rail_of_input}
use Rattle.runs.proofs.Rise.{settled_exists, rise_low, rise_supported, rise_end_settled}
use Rattle.runs.proofs.Fall.{fall_high}
use Rattle.runs.proofs.Tight.{tight_passes}
use Rattle.runs.proofs.Complete.{hold_checks_conforms}
use Rattle.netlist.specs.declared.Limits.{Limits}
use Rattle.netlist.specs.Coded.{Coded}
use Rattle.netlist.specs.Content.{Reference}
use Rattle.netlist.specs.Formed.{ReferenceFormed}
use Rattle.verdict.specs.Graph.{In}
use Rattle.check_spec.specs.Lists.{xor, numbers, bit_of}
use Rattle.check_spec.specs.Content.{Content}
use Rattle.check_spec.specs.Rows.{no_gate, driver, set_in, net_of}
use Rattle.check_spec.specs.Words.{rails_for, operate, values, answer}
use Rattle.check_spec.specs.Demands.{LoopFree}
use Rattle.check_spec.proofs.Loops.{feeding_gate, ranked_free, acyclic}
use Rattle.check_spec.proofs.OneWord.{word_data}
use Rattle.make_spec.specs.Make.{Built, gate, rails_at, built, is_output, leads_out, Operand, Waits}
use Rattle.check_spec.specs.Loaded.{from_reference}
use Rattle.make_spec.proofs.Lists.{all-at, all_in, index_of, map_at, among_in}
use Rattle.make_spec.proofs.Signals.{TwoGates, Driven, input, inverse, operation, Signals, operands_data, gates_wait, signals_tight}
use Rattle.make_spec.proofs.Gates.{code_of, turned, rails_from, rail, rail_at, bit_small, xor_twice, Fit, BothBelow, gate_fit, gate_for, gate_set, gate_cause}
use Rattle.make_spec.proofs.Building.{swapped, Two, Placed, as_not, as_two, Owner, Laid, laid}
use Rattle.make_spec.proofs.Values.{value_of, values_prefix, values_at_holds}
use Rattle.make_spec.proofs.Leading.{reads_later, leads_cases, output-is}

numbers-long : (j m : ℕ) → length (numbers j m) ≡ m
unfolding numbers
numbers-long j zero = refl
numbers-long j (suc m) = ap suc (numbers-long (suc j) m)

numbers-at : (j m i : ℕ) → i < m → get_or (numbers j m) i 0 ≡ j + i
unfolding numbers
numbers-at j zero i l = absurd (omega arith)
numbers-at j (suc m) zero l = omega arith
numbers-at j (suc m) (suc i) l = numbers-at (suc j) m i (omega arith) ∙ omega arith

module _ {most : Limits} (r : Reference) (formed : ReferenceFormed most r) where
  abbrev pub n : ℕ
  n = r.inputs

  abbrev pub size : ℕ
  size = n + length r.gates

  abbrev pub all : Built
  all = built (from_reference r)

  abbrev pub stage : Content
  stage = record { inputs = n; gates = all.gates; outputs = map (λ (o : List ℕ). rails_at all (get_or o 0 0)) (map (λ (v : ℕ). v ∷ []) r.outputs); care = []; parts = [] }

  -- ---- what stands where

  abbrev start : Built
  start = record { gates = []; rails = map (λ i. 2 * i ∷ (2 * i + 1) ∷ []) (numbers 0 n) }

  start_long : length start.rails ≡ n
  start_long = length-map (numbers 0 n) (λ i. 2 * i ∷ (2 * i + 1) ∷ []) ∙ numbers-long 0 n

  start_at : (i : ℕ) → i < n → rails_at start i ≡ 2 * i ∷ (2 * i + 1) ∷ []
  start_at i l =
      map_at (λ i. 2 * i ∷ (2 * i + 1) ∷ []) (numbers 0 n) i (0 ∷ 0 ∷ []) (omega (arith, numbers-long 0 n))
      ∙ ap (λ i. 2 * i ∷ (2 * i + 1) ∷ []) (numbers-at 0 n i l ∙ omega arith)

  pub whole : Laid n start r.gates all
  unfolding built
  whole = laid n start r.gates (rw start_long formed.gates_formed) below
    where
      below : (s : ℕ) → s < length start.rails → (x : Bool) → rail (rails_at start s) x < 2 * n + 0
      below s l true = rw (start_at s (omega (arith, start_long))) (omega (arith, start_long))
      below s l false = rw (start_at s (omega (arith, start_long))) (omega (arith, start_long))

  input_rails : (i : ℕ) → i < n → rails_at all i ≡ 2 * i ∷ (2 * i + 1) ∷ []
  input_rails i l = whole.rails i (omega (arith, start_long)) ∙ start_at i l

  placed : (k : ℕ) → k < length r.gates → Placed n all (n + k) (get_or r.gates k no_gate)
  placed k l = subst (λ (m : ℕ). Placed n all (m + k) (get_or r.gates k no_gate)) start_long (whole.placed k l)

  -- each signal has two rails, which exist
  pub two_rails : (s : ℕ) → s < size → (length (rails_at all s) ≡ 2) × BothBelow (nets (net_of stage)) (rails_at all s)
  two_rails s l = (go (dec_lt s n), whole.below s (omega (arith, whole.long, start_long)))
    where
      both : (t : Bool) (net : ℕ) → length (rails_from t net) ≡ 2
      both true net = refl
      both false net = refl

      by : {k : ℕ} {c : Coded} → Placed n all k c → length (rails_at all k) ≡ 2
      by (as_not a before is e) = ap length e
      by (as_two t) = ap length t.rails_are ∙ both (turned t.kind) _

      go : Dec (s < n) → length (rails_at all s) ≡ 2
      go (yes h) = ap length (input_rails s h)
      go (no h) = let e : n + (s - n) ≡ s = omega arith in subst (λ (k : ℕ). length (rails_at all k) ≡ 2) e (by (placed (s - n) (omega arith)))

  -- ---- the gates

  owner : (j : ℕ) → j < length all.gates → (k : ℕ) × (k < length r.gates) × Owner n all (n + k) (get_or r.gates k no_gate) j
  owner j l =
      let o = whole.covered j (omega arith) l in
      (o.0, o.1, subst (λ (m : ℕ). Owner n all (m + o.0) (get_or r.gates o.0 no_gate) j) start_long o.2)

  pub fit : (j : ℕ) → j < length all.gates → (below : ℕ) → 2 * n + j ≤ below → Fit below (get_or all.gates j no_gate)
  fit j l below h =
      let o = (owner j l).2 in
      let t = o.two in
      subst (λ (i : ℕ). Fit below (get_or all.gates i no_gate)) (sym o.index_is) (rw (t.gates_are o.which)
      (gate_fit below (rails_at all t.p) (rails_at all t.q) (λ x. omega (arith, t.below_p x, o.index_is)) (λ x. omega (arith, t.below_q x, o.index_is)) t.kind o.which))

  pub fit_at : (net : ℕ) → IsGate (net_of stage) net → Fit net (driver stage net)
  fit_at net g = fit (net - 2 * n) (omega (arith, g.0, g.1)) net (omega (arith, g.0))

  pub free : LoopFree (net_of stage)
  free = ranked_free stage (λ u. u) (λ u v i.
      let g = feeding_gate stage u v i in
      all_in (λ p. p < u) (driver stage u).operands (fit_at u g).pins_in_holds v (rw (le-ltb u (rails (net_of stage)) g.0) at i))

  abbrev S : Acyclic
  S = acyclic stage free

  holds : AllHold (net_of stage)
  holds net g = (fit_at net g).has_hold

  -- the two gates of an operation
  module _ (s : ℕ) (c : Coded) (t : Two n all s c) where
    two_net : (x : Bool) → rail (rails_at all s) x ≡ 2 * n + t.first + bit (xor (turned t.kind) x)
    two_net x = ap (λ (p : List ℕ). rail p x) t.rails_are ∙ rail_at (turned t.kind) x (2 * n + t.first)

    two_gates_lem : TwoGates (net_of stage) (rail (rails_at all s)) (operate (code_of t.kind)) (rail (rails_at all t.p)) (rail (rails_at all t.q))
    two_gates_lem =
        let k = t.kind in
        let a = rails_at all t.p in
        let b = rails_at all t.q in
        record {
          gate = λ x. (omega (arith, two_net x), omega (arith, two_net x, t.inside, bit_small (xor (turned k) x)));
          set = λ m u v hu hv. ap (set_in m) (drives (operate (code_of k) u v)) ∙ gate_set k m a b u v hu hv;
          cause = λ m x na nb e. gate_cause k m a b x na nb (sym (ap (set_in m) (drives x)) ∙ e);
        }
      where
        drives : (x : Bool) → driver stage (rail (rails_at all s) x) ≡ gate_for t.kind x (rails_at all t.p) (rails_at all t.q)
        drives x =
            let e : rail (rails_at all s) x - 2 * n ≡ t.first + bit (xor (turned t.kind) x) = omega (arith, two_net x) in
            ap (λ (i : ℕ). get_or all.gates i no_gate) e ∙ t.gates_are (xor (turned t.kind) x)

  -- ---- the outputs

  pub outputs_are : stage.outputs ≡ map (rails_at all) r.outputs
  outputs_are = map-map (λ (o : List ℕ). rails_at all (get_or o 0 0)) (λ (v : ℕ). v ∷ []) r.outputs

  pub outputs_long : length stage.outputs ≡ length r.outputs
  outputs_long = ap length outputs_are ∙ length-map r.outputs (rails_at all)

  -- ---- one word

  module _ (w : ℕ) where
    abbrev c : Row
    c = rails_for w

    abbrev input_bits : List Bool
    input_bits = map (bit_of w) (numbers 0 n)

    bits_long : length input_bits ≡ n
    bits_long = length-map (numbers 0 n) (bit_of w) ∙ numbers-long 0 n

    abbrev value : ℕ → Bool
    value s = get_or (values input_bits r.gates) s false

    input_value : (i : ℕ) → i < n → value i ≡ bit_of w i
    input_value i l =
        values_prefix input_bits r.gates i (omega (arith, bits_long))
        ∙ map_at (bit_of w) (numbers 0 n) i false (omega (arith, numbers-long 0 n)) ∙ ap (bit_of w) (numbers-at 0 n i l ∙ omega arith)

    gate-value : (k : ℕ) → k < length r.gates → value (n + k) ≡ value_of (values input_bits r.gates) (get_or r.gates k no_gate)
    gate-value k l =
        subst (λ (m : ℕ). value (m + k) ≡ value_of (values input_bits r.gates) (get_or r.gates k no_gate)) bits_long
        (values_at_holds input_bits r.gates (rw bits_long formed.gates_formed) k l)

    -- the rails of the inputs
    rail_1 : (i : ℕ) → i < n → c (2 * i + 1) ≡ value i
    rail_1 i l =
        let d : (2 * i + 1) / 2 ≡ i = omega arith in
        let m : (2 * i + 1) % 2 ≡ 1 = omega arith in
        rw (d, m) (sym (input_value i l))

    rail_0 : (i : ℕ) → i < n → c (2 * i) ≡ not (value i)
    rail_0 i l = word_data (net_of stage) w i l ∙ ap not (rail_1 i l)

    -- the operands of signal s; an input has none
    abbrev operands : ℕ → List ℕ
    operands s = cond (ltb s n) [] (get_or r.gates (s - n) no_gate).operands

    gate-operands : (k : ℕ) → operands (n + k) ≡ (get_or r.gates k no_gate).operands
    gate-operands k = let e : n + k - n ≡ k = omega arith in rw (le-ltb (n + k) n (omega arith), e)

    abbrev signal_rail : ℕ → Bool → ℕ
    signal_rail s = rail (rails_at all s)

    driven-input : (s : ℕ) → s < n → Driven (net_of stage) c signal_rail value (operands s) s
    driven-input s l = input (rw (lt-ltb s n l)) (λ x. rw (input_rails s l) (inside x)) (rw (input_rails s l) (shows (value s) refl))
      where
        inside : (x : Bool) → rail (2 * s ∷ (2 * s + 1) ∷ []) x < 2 * n
        inside true = omega arith
        inside false = omega arith

        shows : (v : Bool) → value s ≡ v → DataOf c (rail (2 * s ∷ (2 * s + 1) ∷ [])) v
        shows true e = (rail_1 s l ∙ e, rail_0 s l ∙ ap not e)
        shows false e = (rail_0 s l ∙ ap not e, rail_1 s l ∙ e)

    driven-gate : (k : ℕ) → k < length r.gates → Placed n all (n + k) (get_or r.gates k no_gate) → Driven (net_of stage) c signal_rail value (operands (n + k)) (n + k)
    unfolding operate
    driven-gate k l (as_not a before is e) =
        inverse a (gate-operands k ∙ ap (λ (x : Coded). x.operands) is) before (λ x. ap (λ (p : List ℕ). rail p x) e ∙ turn x)
        (gate-value k l ∙ ap (value_of (values input_bits r.gates)) is)
      where
        turn : (x : Bool) → rail (swapped (rails_at all a)) x ≡ signal_rail a (not x)
        turn true = refl
        turn false = refl
    driven-gate k l (as_two t) =
        operation (operate (code_of t.kind)) t.p t.q (gate-operands k ∙ ap (λ (x : Coded). x.operands) t.is) t.p_in t.q_in (two_gates_lem (n + k) _ t)
        (gate-value k l ∙ ap (value_of (values input_bits r.gates)) t.is)

    driven-at : (s : ℕ) → s < size → Driven (net_of stage) c signal_rail value (operands s) s
    driven-at s l = go (dec_lt s n)
      where
        go : Dec (s < n) → Driven (net_of stage) c signal_rail value (operands s) s
        go (yes h) = driven-input s h
        go (no h) =
            let e : n + (s - n) ≡ s = omega arith in
            subst (λ (s : ℕ). Driven (net_of stage) c signal_rail value (operands s) s) e (driven-gate (s - n) (omega arith) (placed (s - n) (omega arith)))

    -- every net is a rail
    covered_at : (k : ℕ) → k < nets (net_of stage) → (s : ℕ) × (s < size) × ((x : Bool) × (signal_rail s x ≡ k))
    covered_at k l = go (dec_lt k (2 * n))
      where
        input_rail_holds : (i : ℕ) (x : Bool) → rail (2 * i ∷ (2 * i + 1) ∷ []) x ≡ input_rail i x
        input_rail_holds i true = refl
        input_rail_holds i false = refl

        go : Dec (k < 2 * n) → (s : ℕ) × (s < size) × ((x : Bool) × (signal_rail s x ≡ k))
        go (yes h) =
            let a = rail_of_input k in
            let i : k / 2 < n = omega arith in
            (k / 2, omega arith, (a.0, rw (input_rails (k / 2) i) (input_rail_holds (k / 2) a.0 ∙ sym a.1)))
        go (no h) =
            let o = owner (k - 2 * n) (omega arith) in
            let t = o.2.two in
            let y = o.2.which in
            let x = xor (turned t.kind) y in
            (n + o.0, omega (arith, o.1), (x, two_net (n + o.0) _ t x ∙ ap (λ (b : Bool). 2 * n + t.first + bit b) (xor_twice (turned t.kind) y) ∙ omega (arith, o.2.index_is)))

    abbrev out : ℕ → ℕ
    out j = get_or r.outputs j 0

    answer_at : (j : ℕ) → j < length r.outputs → value (out j) ≡ answer (from_reference r) (bit_of w) j
    unfolding answer
    answer_at j l = sym (ap (λ (o : List ℕ). value (get_or o 0 0)) (map_at (λ (v : ℕ). v ∷ []) r.outputs j [] l))

    word_signals : Signals (net_of stage) c
    word_signals = record {
      count = size;
      rail = signal_rail;
      value = value;
      operands = operands;
      driven = driven-at;
      out = out;
      out_in = λ j h. all-at (λ v. v < size) r.outputs formed.outputs_formed j 0 (omega (arith, outputs_long));
      output = λ j h x. ap (λ (l : List (List ℕ)). rail (get_or l j []) x) outputs_are ∙ ap (λ (p : List ℕ). rail p x) (map_at (rails_at all) r.outputs j [] (omega (arith, outputs_long)));
      covered = covered_at;
    }

    -- ---- 13, 14 and 15 find nothing

    pub word_tight : ((s : ℕ) → s < size → leads_out (from_reference r) s ≡ true) → Tight (net_of stage) c (answer (from_reference r) (bit_of w))
    unfolding word_signals
    word_tight lead =
        let t = signals_tight S c word_signals (λ s l. led s (leads_cases (from_reference r) formed.gates_formed s (lead s l))) in
        record {
          right = λ R rest j h. subst (DataOf R ((net_of stage).rail j)) (answer_at j (omega (arith, outputs_long))) (t.right R rest j h);
          tight = t.tight;
        }
      where
        led : (s : ℕ) → (is_output (from_reference r) s ≡ true) ⊎ ((k : ℕ) × ((k < length r.gates) × In s (get_or r.gates k no_gate).operands) × (leads_out (from_reference r) (n + k) ≡ true))
            → ((j : ℕ) × (j < length stage.outputs) × (out j ≡ s)) ⊎ ((z : ℕ) × (s < z) × (z < size) × In s (operands z))
        led s (inl o) =
            let j = index_of r.outputs s (among_in s r.outputs (sym (output-is s r.outputs) ∙ o)) in
            inl (j.0, omega (arith, j.1, outputs_long), j.2)
        led s (inr (k, g, e)) = inr (n + k, reads_later (from_reference r) formed.gates_formed k s g, omega (arith, g.0), rw (gate-operands k) g.1)

    pub word_conforms : ((s : ℕ) → s < size → leads_out (from_reference r) s ≡ true) → Conforms (net_of stage) c (answer (from_reference r) (bit_of w))
    word_conforms lead =
        let word = word_data (net_of stage) w in
        (hold_checks_conforms S c (answer (from_reference r) (bit_of w)) word holds).0 (tight_passes S c (answer (from_reference r) (bit_of w)) word (word_tight lead))

    -- ---- rails wait for their operands

    -- the rails of an operation other than NOT, where they are set in a supported row
    set-waits : (m : Row) → Supported (net_of stage) c m → (k : ℕ) → k < length r.gates → ¬ ((get_or r.gates k no_gate).code ≡ 1)
        → Placed n all (n + k) (get_or r.gates k no_gate) → (b : Bool) → rise_up (net_of stage) c m (signal_rail (n + k) b) ≡ true
        → (x : ℕ) → Operand (from_reference r) k x → Data m (signal_rail x)
    unfolding word_signals
    set-waits m supported k l other (as_not a before is e) b u x o = absurd (other (ap (λ (x : Coded). x.code) is))
    set-waits m supported k l other (as_two t) b u x o =
        let R = settled_exists S c in
        let g = two_gates_lem (n + k) _ t in
        let d = gates_wait S c word_signals R.0 R.1 m supported (n + k) _ t.p t.q (omega (arith, t.p_in)) (omega (arith, t.q_in)) g b
        (sym (by_net_gate (net_of stage) (signal_rail (n + k) b) _ _ (g.gate b)) ∙ u) in
        pick d (subst (λ (c : Coded). In x c.operands) t.is (among_in x (get_or r.gates k no_gate).operands o))
      where
        pick : Data m (signal_rail t.p) × Data m (signal_rail t.q) → In x (t.p ∷ t.q ∷ []) → Data m (signal_rail x)
        pick d (inl e) = subst (λ (y : ℕ). Data m (signal_rail y)) (sym e) d.0
        pick d (inr (inl e)) = subst (λ (y : ℕ). Data m (signal_rail y)) (sym e) d.1
        pick d (inr (inr e)) = absurd e

    -- a net that may switch in a rise may rise
    may_rise_holds : (l : List ℕ) → RiseList (net_of stage) c l → (net : ℕ) → rise_step (net_of stage) c (after low l) net ≡ true → rise_up (net_of stage) c (after low l) net ≡ true
    may_rise_holds l p net e =
        subst (λ (b : Bool). cond b (rise_down (net_of stage) (after low l) net) (rise_up (net_of stage) c (after low l) net) ≡ true) (rise_low S c l p net e) e

    pub word_waits : Waits (from_reference r) (net_of stage) w
    unfolding word_signals
    word_waits = record {
      high = λ l p k hk b e x o.
          let R = settled_exists S c in
          operands_data S c word_signals R.0 R.1 (after low l) (rise_supported S c l p) (n + k) (omega arith) b e x
          (rw (gate-operands k) (among_in x (get_or r.gates k no_gate).operands o));
      rises = λ l p k hk other b e x o. set-waits (after low l) (rise_supported S c l p) k hk other (placed k hk) b (may_rise_holds l p (signal_rail (n + k) b) e) x o;
      fall = λ l p d m q net e. not-true _ (λ h. clash (fall_high S c (after low l) (rise_end_settled S c l p d) m q net h) e);
    }
