-- All words, name by name, and check by check.
-- Assumes nothing.
use Rattle.std.specs.Prelude.{Option, Some, None, Ok, Err}
use Prim.Native.Nat.{ℕ, zero, suc, ◌+◌, ◌-◌, ◌*◌, ◌^◌, ◌≤◌, ◌<◌}
use native.Mathlib.Omega.{arith}
use native.Mathlib.Decide.{ℕ_discrete}
use native.Mathlib.Numerals.{add-one}
use mathlib.Core.Path.{◌≡◌, refl, sym, ap, subst, ◌∙◌}
use mathlib.Core.Logic.{inl, inr, ⊎_elim}
use mathlib.Core.List.{List, [], ◌∷◌, ◌++◌, map}
use lib.ListN.{length, get_or, take, drop, length-map, drop_of_length-le}
use lib.Seq.{drop-cons}
use Rattle.netlist.specs.Content.{Stage, Reference}
use Rattle.netlist.specs.declared.Counts.{Counts}
use Rattle.verdict.specs.FourNumbers.{Finding}
use Rattle.verdict.specs.declared.Verdict.{Verdict}
use Rattle.verdict.specs.declared.WordOrder.{WordOrder}
use Rattle.verdict.specs.Words.{IsWord, spelled, names}
use Rattle.verdict.specs.Checks.{verdict, Check, at_fault, sweep, finding, or_later, first_fault, never_rises, idle, rise_sweeps, fall_sweeps, sweeps, word_checks}
use Rattle.verdict.specs.Search.{least}
use Rattle.verdict.specs.Nets.{no_gate}
use Rattle.verdict.specs.Loops.{In}
use Rattle.verdict.proofs.Words.{rising_in}
use Rattle.verdict.proofs.Names.{spelled_twice, name_spells, names_rise}
use Rattle.check_spec.proofs.Hold.{fall_passes}
use Rattle.circuit.specs.Stage.{gate_in, stage_gates, output_in, stage_outputs, stage_in, StageLoaded}
use Rattle.circuit.specs.Reference.{signal_in, signals_in, reference_in}
use Rattle.circuit.specs.Order.{order_in, InOrder}
use Rattle.circuit.proofs.Order.{order_no_loop}
use Rattle.circuit.proofs.Tabulate.{length_tabulate, get_d_tabulate}
use Rattle.circuit.proofs.Settling.{length_stage_gates}
use Rattle.check_word.specs.declared.Sweep.{Sweep}
use Rattle.check_word.specs.declared.Sweep.TheVariants.{Wrong, Missing, Unobserved, Remaining, StillHigh}
use Rattle.check_word.specs.Finds.{finds}
use Rattle.check_word.specs.Loaded.{BothLoaded}
use Rattle.lane_screen.specs.Hold.{WithHold}
use Rattle.lane_screen.specs.declared.Masks.{Masks}
use Rattle.lane_screen.specs.Suspects.{Unnamed, Clean, AllClean}
use Rattle.check_words.specs.Sweeps.{number_of, swept, all_sweeps, sweep_at, mask_of, Enough, UnnamedFrom}

-- ---- name by name

module _ (number file : ℕ) (find : ℕ → Option ℕ) (names : List ℕ) (k : ℕ) where
  -- nothing is found under the names before name k
  abbrev pub SweptTo : Type 0
  SweptTo = sweep number file find names ≡ sweep number file find (drop k names)

  -- what is found under name k, and after it
  module _ (h : k < length names) (s : SweptTo) where
    now_at : (f : Option ℕ) → find (get_or names k 0) ≡ f → sweep number file find names ≡ at_fault number file (get_or names k 0) f (sweep number file find (drop (k + 1) names))
    unfolding sweep
    now_at f e = s ∙ ap (sweep number file find) (drop-cons names k 0 h) ∙ rw (e, add-one)

    pub swept_on : find (get_or names k 0) ≡ None → sweep number file find names ≡ sweep number file find (drop (k + 1) names)
    unfolding at_fault
    swept_on e = now_at None e

    pub swept_here : (i name : ℕ) → name ≡ get_or names k 0 → find (get_or names k 0) ≡ Some i → Err (verdict number file i name) ≡ sweep number file find names
    unfolding at_fault
    swept_here i name is e = ap (λ (n : ℕ). Err (verdict number file i n)) is ∙ sym (now_at (Some i) e)

  pub swept_none : length names ≤ k → SweptTo → Ok tt ≡ sweep number file find names
  unfolding sweep
  swept_none h s = sym (s ∙ ap (sweep number file find) (drop_of_length-le names {i = k} h))

pub swept_start : (number file : ℕ) (find : ℕ → Option ℕ) (names : List ℕ) → SweptTo number file find names 0
swept_start number file find names = refl

-- nothing is found under any of some names
pub swept_nothing : (number file : ℕ) (find : ℕ → Option ℕ) (names : List ℕ) → ((name : ℕ) → In name names → find name ≡ None) → sweep number file find names ≡ Ok tt
unfolding sweep at_fault
swept_nothing number file find [] h = refl
swept_nothing number file find (x ∷ names) h = rw (h x (inl refl)) (swept_nothing number file find names (λ name i. h name (inr i)))

-- what a check finds under a name
abbrev pub finds_under : Sweep → WordOrder → Stage → Reference → ℕ → Option ℕ
finds_under which order s r name = finds which s r (spelled order s.inputs name)

-- by the number of the check
pub swept_words : (which : Sweep) (order : WordOrder) (s : Stage) (r : Reference) (number : ℕ) (f : Finding) → number ≡ number_of which
    → f ≡ sweep number 1 (finds_under which order s r) (names order s) → f ≡ swept which order s r
swept_words which order s r number f a e = e ∙ ap (λ (k : ℕ). sweep k 1 (finds_under which order s r) (names order s)) a

-- ---- words that are passed over

pub unnamed_on : (mask list : List ℕ) (from i : ℕ) → UnnamedFrom mask list from i → Unnamed mask (get_or list i 0) → UnnamedFrom mask list from (i + 1)
unnamed_on mask list from i before here j above below = go (ℕ_discrete j i)
  where
    go : Dec (j ≡ i) → Unnamed mask (get_or list j 0)
    go (yes e) = subst (λ (k : ℕ). Unnamed mask (get_or list k 0)) (sym e) here
    go (no d) = before j above (omega (arith, below, d))

-- nothing is found under names that are passed over, d of them
pub swept_past : (number file : ℕ) (find : ℕ → Option ℕ) (names : List ℕ) (k n d : ℕ) → n ≡ k + d → n ≤ length names → SweptTo number file find names k
    → ((j : ℕ) → k ≤ j → j < n → find (get_or names j 0) ≡ None) → SweptTo number file find names n
swept_past number file find names k n zero is h s none = subst (SweptTo number file find names) (omega (arith, is)) s
swept_past number file find names k n (suc d) is h s none =
    let before : SweptTo number file find names (k + d) =
    swept_past number file find names k (k + d) d refl (omega (arith, is, h)) s (λ j above below. none j above (omega (arith, below, is))) in
    subst (SweptTo number file find names) (omega (arith, is))
    (swept_on number file find names (k + d) (omega (arith, is, h)) before (none (k + d) (omega arith) (omega (arith, is))))

-- ---- the words that the names spell, one after the other

at_map : (f : ℕ → ℕ) (l : List ℕ) (k : ℕ) → k < length l → get_or (map f l) k 0 ≡ f (get_or l k 0)
at_map f [] k h = absurd (omega arith)
at_map f (x ∷ l) zero h = refl
at_map f (x ∷ l) (suc k) h = at_map f l k (omega arith)

at_in : (l : List ℕ) (k : ℕ) → k < length l → In (get_or l k 0) l
at_in [] k h = absurd (omega arith)
at_in (x ∷ l) zero h = inl refl
at_in (x ∷ l) (suc k) h = inr (at_in l k (omega arith))

module _ (order : WordOrder) (s : Stage) (list : List ℕ) (is : list ≡ map (spelled order s.inputs) (names order s)) where
  pub as_many : length list ≡ length (names order s)
  as_many = ap length is ∙ length-map (names order s) (spelled order s.inputs)

  module _ (k : ℕ) (h : k < length list) where
    pub word_at : get_or list k 0 ≡ spelled order s.inputs (get_or (names order s) k 0)
    word_at = ap (λ (l : List ℕ). get_or l k 0) is ∙ at_map (spelled order s.inputs) (names order s) k (omega (arith, as_many))

    pub name_at_holds : spelled order s.inputs (get_or list k 0) ≡ get_or (names order s) k 0
    name_at_holds =
        let below = (rising_in (2 ^ s.inputs) 0 (names order s) (names_rise order s) (get_or (names order s) k 0) (at_in (names order s) k (omega (arith, as_many)))).1 in
        ap (spelled order s.inputs) word_at ∙ spelled_twice order s.inputs (get_or (names order s) k 0) below

-- nothing is found in words that are passed over, since the mask does not name them
module _ (which : Sweep) (order : WordOrder) (s : Stage) (r : Reference) (list : List ℕ) (is : list ≡ map (spelled order s.inputs) (names order s)) (mask : List ℕ)
    (clean : Clean which s r mask) where
  pub swept_unnamed : (number from k : ℕ) → from ≤ k → k ≤ length list → UnnamedFrom mask list from k
      → SweptTo number 1 (finds_under which order s r) (names order s) from → SweptTo number 1 (finds_under which order s r) (names order s) k
  swept_unnamed number from k h few passed swept =
      swept_past number 1 (finds_under which order s r) (names order s) from k (k - from) (omega arith) (omega (arith, as_many order s list is)) swept
      (λ j above below. ap (finds which s r) (sym (word_at order s list is j (omega arith))) ∙ clean _ (passed j above below))

-- a check whose mask names none of the words finds nothing
pub none_worth : (which : Sweep) (order : WordOrder) (s : Stage) (r : Reference) (mask : List ℕ) → Clean which s r mask
    → ((w : ℕ) → IsWord s w → Unnamed mask w) → Ok tt ≡ swept which order s r
none_worth which order s r mask clean none =
    sym (swept_nothing (number_of which) 1 (finds_under which order s r) (names order s) (λ name i.
    clean (spelled order s.inputs name) (none _ (name_spells order s name i))))

-- ---- check by check

-- a place past the first four is that of the last check
pub last_at : (i : ℕ) → (i ≡ 0 → ⊥) → (i ≡ 1 → ⊥) → (i ≡ 2 → ⊥) → (i ≡ 3 → ⊥) → StillHigh ≡ sweep_at i
last_at zero a b c d = absurd (a refl)
last_at (suc zero) a b c d = absurd (b refl)
last_at (suc (suc zero)) a b c d = absurd (c refl)
last_at (suc (suc (suc zero))) a b c d = absurd (d refl)
last_at (suc (suc (suc (suc zero)))) a b c d = refl
last_at (suc (suc (suc (suc (suc i))))) a b c d = refl

later_passed : (later : Finding) {f : Finding} → Ok tt ≡ f → later ≡ or_later f later
unfolding or_later
later_passed later e = ap (λ (x : Finding). or_later x later) e

later_both : (f later : Finding) → Ok tt ≡ or_later f later → ((Ok tt) ≡ f) × ((Ok tt) ≡ later)
unfolding or_later
later_both (Err v) later e = let z : ◌≡◌ {A = ℕ} 0 1 = cc in absurd (omega arith)
later_both (Ok _) later e = (refl, e)

-- of two lists: the first list's, or else the second's
fault-++ : (cs ds : List Check) → first_fault (cs ++ ds) ≡ or_later (first_fault cs) (first_fault ds)
unfolding first_fault or_later
fault-++ [] ds = refl
fault-++ (c ∷ cs) ds = go (finding c) (fault-++ cs ds)
  where
    go : (x : Finding) → first_fault (cs ++ ds) ≡ or_later (first_fault cs) (first_fault ds) → or_later x (first_fault (cs ++ ds)) ≡ or_later (or_later x (first_fault cs)) (first_fault ds)
    go (Err v) e = refl
    go (Ok _) e = e

module _ (order : WordOrder) (s : Stage) (r : Reference) where
  -- the first fault that some of the checks find
  abbrev pub swept_by : List Sweep → Finding
  swept_by [] = Ok tt
  swept_by (w ∷ ws) = or_later (swept w order s r) (swept_by ws)

  rises_are : swept_by (take 3 all_sweeps) ≡ first_fault (rise_sweeps order s r)
  unfolding first_fault rise_sweeps finding
  rises_are = refl

  falls_are : swept_by (drop 3 all_sweeps) ≡ first_fault (fall_sweeps order s r)
  unfolding first_fault fall_sweeps finding
  falls_are = refl

  sweeps-are : swept_by all_sweeps ≡ first_fault (sweeps order s r)
  unfolding first_fault rise_sweeps fall_sweeps finding
  sweeps-are = refl

  fault_by : (l : List Sweep) (i : ℕ) (v : Verdict) → i < length l → Ok tt ≡ swept_by (take i l) → Err v ≡ swept (get_or l i StillHigh) order s r → Err v ≡ swept_by l
  unfolding or_later
  fault_by [] i v h p e = absurd (omega arith)
  fault_by (w ∷ l) zero v h p e = ap (λ (f : Finding). or_later f (swept_by l)) e
  fault_by (w ∷ l) (suc i) v h p e =
      let both = later_both (swept w order s r) (swept_by (take i l)) p in
      fault_by l i v (omega arith) both.1 e ∙ later_passed (swept_by l) both.0

  passed_by : (l : List Sweep) (i : ℕ) → i < length l → Ok tt ≡ swept_by (take i l) → Ok tt ≡ swept (get_or l i StillHigh) order s r → Ok tt ≡ swept_by (take (suc i) l)
  passed_by [] i h p e = absurd (omega arith)
  passed_by (w ∷ l) zero h p e = later_passed (Ok tt) e
  passed_by (w ∷ l) (suc i) h p e =
      let both = later_both (swept w order s r) (swept_by (take i l)) p in
      passed_by l i (omega arith) both.1 e ∙ later_passed (swept_by (take (suc i) l)) both.0

  -- the first i of them pass
  abbrev pub PassedTo : ℕ → Type 0
  PassedTo i = Ok tt ≡ swept_by (take i all_sweeps)

  -- and the one at place i does, or finds something
  pub passed_on : (i : ℕ) → i < 5 → PassedTo i → Ok tt ≡ swept (sweep_at i) order s r → PassedTo (i + 1)
  passed_on i h p e = rw (add-one i) (passed_by all_sweeps i h p e)

  pub found_at : (i : ℕ) (v : Verdict) → i < 5 → PassedTo i → Err v ≡ swept (sweep_at i) order s r → Err v ≡ first_fault (sweeps order s r)
  found_at i v h p e = fault_by all_sweeps i v h p e ∙ sweeps-are

  -- the rise, then the fall
  pub then_fall : Ok tt ≡ first_fault (rise_sweeps order s r) → Ok tt ≡ first_fault (fall_sweeps order s r) → Ok tt ≡ first_fault (sweeps order s r)
  then_fall e f = f ∙ later_passed _ e ∙ sym (fault-++ (rise_sweeps order s r) (fall_sweeps order s r))

  -- the masks name none of the words
  module _ (m : Masks) (clean : AllClean s r m) where
    pub mask_clean : (which : Sweep) → Clean which s r (mask_of which m)
    mask_clean Wrong = clean.wrong
    mask_clean Missing = clean.missing
    mask_clean Unobserved = clean.unobserved
    mask_clean Remaining = clean.remaining
    mask_clean StillHigh = clean.still_high

    passes : (which : Sweep) → ((w : ℕ) → IsWord s w → Unnamed (mask_of which m) w) → Ok tt ≡ swept which order s r
    passes which none = none_worth which order s r (mask_of which m) (mask_clean which) none

    pub rises_pass : ((w : ℕ) → IsWord s w → Unnamed m.wrong w) → ((w : ℕ) → IsWord s w → Unnamed m.rise w) → Ok tt ≡ first_fault (rise_sweeps order s r)
    rises_pass wrong rise =
        later_passed _ (passes Unobserved rise) ∙ later_passed _ (passes Missing rise) ∙ later_passed _ (passes Wrong wrong) ∙ rises_are

    pub falls_pass : ((w : ℕ) → IsWord s w → Unnamed m.fall w) → Ok tt ≡ first_fault (fall_sweeps order s r)
    falls_pass fall = later_passed _ (passes StillHigh fall) ∙ later_passed _ (passes Remaining fall) ∙ falls_are

-- a loaded reference has the outputs that it counts
pub enough_signals : (sizes : Counts) (reference : List ℕ) {m : ℕ} → m ≤ sizes.outputs → m ≤ length (signals_in sizes reference)
unfolding signals_in
enough_signals sizes reference h = omega (arith, length_tabulate (signal_in sizes reference) sizes.outputs)

later_none : (f : Finding) → or_later f (Ok tt) ≡ f
unfolding or_later
later_none (Err v) = refl
later_none (Ok _) = refl

-- 32 after those that sweep: what is found by the least gate that never rises
idle-is : (s : Stage) (low : Option ℕ) → low ≡ least (never_rises s) 0 (length s.gates) → at_fault 32 1 0 low (Ok tt) ≡ first_fault (idle s ∷ [])
unfolding first_fault finding sweep
idle-is s low e = ap (λ (x : Option ℕ). at_fault 32 1 0 x (Ok tt)) e ∙ sym (later_none (finding (idle s)))

module _ (order : WordOrder) (c : Counts) (code : List ℕ) (r : Reference) where
  abbrev s : Stage
  s = stage_in c code

  pub swept_fault : (v : Verdict) → Err v ≡ first_fault (sweeps order s r) → Err v ≡ first_fault (word_checks order s r)
  unfolding or_later
  swept_fault v e = ap (λ (x : Finding). or_later x (first_fault (idle s ∷ []))) e ∙ sym (fault-++ (sweeps order s r) (idle s ∷ []))

  pub then_idle : Ok tt ≡ first_fault (sweeps order s r) → (low : Option ℕ) → low ≡ least (never_rises s) 0 c.gates
      → (f : Finding) → f ≡ at_fault 32 1 0 low (Ok tt) → f ≡ first_fault (word_checks order s r)
  then_idle e low is f q =
      q ∙ idle-is s low (is ∙ ap (least (never_rises s) 0) (sym (length_stage_gates c code)))
      ∙ later_passed _ e ∙ sym (fault-++ (sweeps order s r) (idle s ∷ []))

-- a stage with hold everywhere passes the fall where it passes the rise
pub no_fall : (order : WordOrder) (c : Counts) (code : List ℕ) → StageLoaded c code → InOrder c code → WithHold (stage_in c code) → (r : Reference) → c.outputs ≤ length r.outputs
    → Ok tt ≡ first_fault (rise_sweeps order (stage_in c code) r) → Ok tt ≡ first_fault (sweeps order (stage_in c code) r)
unfolding stage_gates stage_outputs
no_fall order c code loaded o hold r few e =
    let s = stage_in c code in
    let cells : (k : ℕ) → k < length s.gates → (1 ≤ (get_or s.gates k no_gate).cell) × ((get_or s.gates k no_gate).cell ≤ 27) =
    λ k h. let l : k < c.gates = omega (arith, length_tabulate (gate_in code) c.gates) in rw (get_d_tabulate (gate_in code) c.gates k no_gate l) ((loaded.gate k l).low, (loaded.gate k l).high) in
    then_fall order s r e (sym (fall_passes s cells order r (order_no_loop c.inputs (stage_gates c code) (order_in c code) o.ordered)
    (omega (arith, few, length_tabulate (output_in c code) c.outputs)) (λ k g. hold (k - 2 * c.inputs) (omega (arith, g.0, g.1))) (sym e)))

-- so many have passed that all do
pub enough_passed : (order : WordOrder) {c : Counts} {code : List ℕ} {sizes : Counts} {reference : List ℕ} → BothLoaded c code sizes reference
    → (m i : ℕ) → Enough (stage_in c code) m → i ≡ m
    → PassedTo order (stage_in c code) (reference_in sizes reference) i → Ok tt ≡ first_fault (sweeps order (stage_in c code) (reference_in sizes reference))
enough_passed order {c} {code} {sizes} {reference} both m i enough e p =
    let s = stage_in c code in
    let r = reference_in sizes reference in
    let passed : (k : ℕ) → m ≡ k → PassedTo order s r k = λ k q. subst (PassedTo order s r) (e ∙ q) p in
    let few = enough_signals sizes reference {m = c.outputs} (omega (arith, both.outputs)) in
    ⊎_elim (λ all. passed 5 all ∙ sweeps-are order s r)
    (λ rise. no_fall order c code both.stage both.ordered rise.1 r few (passed 3 rise.0 ∙ rises_are order s r))
    enough.decides
