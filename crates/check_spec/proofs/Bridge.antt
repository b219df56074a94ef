-- The verdict as the first failing case is the one that the code finds, check by check: the law that joins the definitions with those of the code.
-- Assumes nothing.
use Rattle.std.specs.Prelude.{Option, Some, None, Ok, Err}
use Prim.Native.Nat.{ℕ, zero, suc, ◌+◌, ◌-◌, ◌*◌, ◌^◌, ◌≤◌, ◌<◌}
use native.Mathlib.Omega.{arith}
use mathlib.Core.Path.{◌≡◌, refl, sym, ap, ap₂, ◌∙◌, subst, fun_ext}
use mathlib.Core.Logic.{inl, inr}
use mathlib.Core.Bool.{Bool, true, false, cond, not, ◌&&◌, ◌||◌}
use mathlib.Core.List.{List, [], ◌∷◌, map, flat_map, ◌++◌}
use lib.ListN.{length, get_or, length-map}
use lib.Dec.{eqb, ltb}
use Rattle.gates.specs.Cell.{bit, is_retired}
use Rattle.runs.specs.Row.{Row}
use Rattle.runs.specs.Theory.{AllHold}
use Rattle.runs.specs.Net.{nets}
use Rattle.runs.proofs.Test.{clash, not-true}
use Rattle.netlist.specs.Reading.{Ascending}
use Rattle.netlist.specs.Content as parsed
use Rattle.netlist.specs.Content.{Coded, gate_of}
use Rattle.verdict.specs.declared.Verdict.{Verdict}
use Rattle.verdict.specs.declared.WordOrder.{WordOrder}
use Rattle.verdict.specs.FourNumbers.{Finding}
use Rattle.verdict.specs.Graph.{In, OnLoop}
use Rattle.verdict.specs.Rows as levels
use Rattle.verdict.specs.Loops as loops
use Rattle.verdict.specs.Words as words
use Rattle.verdict.specs.Nets as code
use Rattle.verdict.specs.Retired as retire
use Rattle.verdict.specs.Checks as found
use Rattle.verdict.specs.Verdicts as given
use Rattle.verdict.proofs.Words.{in_index}
use Rattle.verdict.proofs.Reaching.{reaches_sound, reaches_complete}
use Rattle.verdict.proofs.Rising.{never_rises_holds, rises_never}
use Rattle.check_spec.specs.Cases.{verdict, accepted, case, Check, first, judge, sweep, unequal}
use Rattle.check_spec.specs.Lists.{xor, numbers, every, bit_of, reaches}
use Rattle.wiring_spec.specs.Parts.{register_count}
use Rattle.wiring_spec.specs.Wiring.{circular, uneven, missing, barred}
use Rattle.wiring_spec.specs.Wires.{resolve}
use Rattle.wiring_spec.specs.Table.{wiring_checks}
use Rattle.check_spec.specs.Content.{Content, pipeline_of, wired}
use Rattle.check_spec.specs.Rows.{no_gate, driver, cell_in, net_of, data_of, all_data, all_null, feeding, reaches_itself}
use Rattle.check_spec.specs.Words.{spelled, names, IsWord, answer}
use Rattle.check_spec.specs.Checks.{rest, wrong, incomplete, high_and, unobservable, fall_incomplete, fall_unobservable, looped, retired_gate, retired, swept, never_rises, idle, checks}
use Rattle.check_spec.specs.Demands.{Pass, LoopFree}
use Rattle.check_spec.specs.Loaded.{pair_of, stage_view, reference_view}
use Rattle.check_spec.proofs.First.{first_pass, first-++}
use Rattle.check_spec.proofs.OneWord.{CleanFall, hold_clean}
use Rattle.check_spec.proofs.Laws.{Laws, none, ◌&◌, equal_passes, places_passes, gates_passes, swept_passes}
use Rattle.verdict.proofs.Steps.{loop-found, found_loop}
use Rattle.check_spec.proofs.Loops.{feeding_gate}
use Rattle.check_spec.proofs.Wired.{wired_free}
use Rattle.check_spec.proofs.View.{rail_view}
use Rattle.check_spec.proofs.Alike.{spelled_alike, names_alike, answer_alike, rest_alike, missing_alike, held_alike, but_alike, keeping_alike, word_in, in_word_holds}
use Rattle.check_spec.proofs.Rising.{never_low, low_never}

-- ---- a sweep finds what its cases say

abbrev found_or : ℕ → ℕ → ℕ → Option ℕ → Verdict → Verdict
found_or number file w (Some i) later = verdict number file i w
found_or number file w None later = later

abbrev pub fault_or : Finding → Verdict → Verdict
fault_or (Err v) later = v
fault_or (Ok _) later = later

module _ (number file : ℕ) (places : List ℕ) where
  places_is : (w : ℕ) (test test' : ℕ → Bool) (is : List ℕ) → ((i : ℕ) → In i is → test i ≡ test' i) → (later : Verdict)
      → first (map (λ i. case number file i w (test i)) is) later ≡ found_or number file w (found.first test' is) later
  unfolding first found.first
  places_is w test test' [] same later = refl
  places_is w test test' (i ∷ is) same later =
      rw (same i (inl refl)) (go (test' i) (places_is w test test' is (λ k x. same k (inr x)) later))
    where
      go : (b : Bool) → first (map (λ i. case number file i w (test i)) is) later ≡ found_or number file w (found.first test' is) later
          → cond b (verdict number file i w) (first (map (λ i. case number file i w (test i)) is) later) ≡ found_or number file w (cond b (Some i) (found.first test' is)) later
      go true r = refl
      go false r = r

  found-fault : (w : ℕ) (x : Option ℕ) (f : Finding) (later : Verdict) → found_or number file w x (fault_or f later) ≡ fault_or (found.at_fault number file w x f) later
  unfolding found.at_fault
  found-fault w (Some i) f later = refl
  found-fault w None f later = refl

  -- where two tests agree at the places
  pub sweep_is : (fails fails' : ℕ → ℕ → Bool) (ws : List ℕ) → ((w : ℕ) → In w ws → (i : ℕ) → In i places → fails w i ≡ fails' w i) → (later : Verdict)
      → first (sweep number file ws places fails) later ≡ fault_or (found.sweep number file (λ w. found.first (fails' w) places) ws) later
  unfolding first sweep flat_map found.sweep
  sweep_is fails fails' [] same later = refl
  sweep_is fails fails' (w ∷ ws) same later =
      first-++ (map (λ i. case number file i w (fails w i)) places) (sweep number file ws places fails) later
      ∙ places_is w (fails w) (fails' w) places (same w (inl refl)) (first (sweep number file ws places fails) later)
      ∙ ap (found_or number file w (found.first (fails' w) places)) (sweep_is fails fails' ws (λ u x. same u (inr x)) later)
      ∙ found-fault w (found.first (fails' w) places) (found.sweep number file (λ w. found.first (fails' w) places) ws) later

-- a fault that the code finds has the number of its check
pub sweep_number : (number file : ℕ) (find : ℕ → Option ℕ) (ws : List ℕ) (v : Verdict) → found.sweep number file find ws ≡ Err v → v.number ≡ number
unfolding found.sweep found.at_fault
sweep_number number file find [] v e = let z : ◌≡◌ {A = ℕ} 0 1 = cc in absurd (omega arith)
sweep_number number file find (w ∷ ws) v e = go (find w) e (sweep_number number file find ws v)
  where
    go : (x : Option ℕ) → found.at_fault number file w x (found.sweep number file find ws) ≡ Err v → (found.sweep number file find ws ≡ Err v → v.number ≡ number) → v.number ≡ number
    go (Some i) e later = let q : verdict number file i w ≡ v = cc in sym (ap (λ (x : Verdict). x.number) q)
    go None e later = later e

-- a check, and what the code finds for it
abbrev pub Same : Check → found.Check → Type 0
Same c d = (later : Verdict) → first c later ≡ fault_or (found.finding d) later

-- where the code finds nothing the check passes
same-pass : (c : Check) → ((later : Verdict) → first c later ≡ later) → Pass c
unfolding first
same-pass [] e = tt
same-pass (k ∷ c) e = go k.fails refl (same-pass c)
  where
    go : (b : Bool) → k.fails ≡ b → (((later : Verdict) → first c later ≡ later) → Pass c) → Pass (k ∷ c)
    go true q later =
        let a : k.names ≡ accepted = rw q at (e accepted) in
        let b : k.names ≡ verdict 1 0 0 0 = rw q at (e (verdict 1 0 0 0)) in
        absurd (omega (arith, ap (λ (v : Verdict). v.number) (sym a ∙ b)))
    go false q later = (q, later (λ x. rw q at (e x)))

-- some checks, and as many of the code's: each finds what the first failing case of the other says, where those before it pass
pub data Alike : List Check → List found.Check → Type 1 where
  alike : Alike [] []
  also : {c : Check} {d : found.Check} {cs : List Check} {ds : List found.Check} → Same c d → (Pass c → Alike cs ds) → Alike (c ∷ cs) (d ∷ ds)

pub alike_judge : {cs : List Check} {ds : List found.Check} → Alike cs ds → judge cs ≡ given.verdict_of (found.first_fault ds)
unfolding judge found.first_fault found.or_later given.verdict_of
alike_judge alike = refl
alike_judge (also {c = c} {d = d} {cs = cs} {ds = ds} e a) = e (judge cs) ∙ go (found.finding d) refl (λ p. alike_judge (a p))
  where
    go : (x : Finding) → found.finding d ≡ x → (Pass c → judge cs ≡ given.verdict_of (found.first_fault ds))
        → fault_or (found.finding d) (judge cs) ≡ given.verdict_of (found.or_later (found.finding d) (found.first_fault ds))
    go (Err v) q later = rw q
    go (Ok _) q later = rw q (later (same-pass c (λ y. e y ∙ ap (λ (x : Finding). fault_or x y) q)))

abbrev pub AllPass : List Check → Type 0
AllPass [] = Unit {0}
AllPass (c ∷ cs) = Pass c × AllPass cs

-- the code finds nothing exactly if all checks pass
pub alike_passed : {cs : List Check} {ds : List found.Check} → Alike cs ds → AllPass cs → found.first_fault ds ≡ Ok tt
unfolding found.first_fault found.or_later
alike_passed alike p = refl
alike_passed (also {c = c} {d = d} {ds = ds} e a) p = go (found.finding d) (λ y. sym (e y) ∙ first_pass c y p.0) (alike_passed (a p.0) p.1)
  where
    go : (x : Finding) → ((later : Verdict) → fault_or x later ≡ later) → found.first_fault ds ≡ Ok tt → found.or_later x (found.first_fault ds) ≡ Ok tt
    go (Err v) same later = absurd (omega (arith, ap (λ (x : Verdict). x.number) (sym (same accepted) ∙ same (verdict 1 0 0 0))))
    go (Ok _) same later = later

pub passed_alike : {cs : List Check} {ds : List found.Check} → Alike cs ds → found.first_fault ds ≡ Ok tt → AllPass cs
unfolding found.first_fault found.or_later
passed_alike alike e = tt
passed_alike (also {c = c} {d = d} {cs = cs} {ds = ds} e a) q = go (found.finding d) refl q (λ p. passed_alike (a p))
  where
    go : (x : Finding) → found.finding d ≡ x → found.or_later x (found.first_fault ds) ≡ Ok tt → (Pass c → found.first_fault ds ≡ Ok tt → AllPass cs) → Pass c × AllPass cs
    go (Err v) z q later = let y : ◌≡◌ {A = ℕ} 0 1 = cc in absurd (omega arith)
    go (Ok _) z q later = let p = same-pass c (λ y. e y ∙ ap (λ (x : Finding). fault_or x y) z) in (p, later p q)

-- all pass in a whole
pub whole_passes : {Whole : Type 0} {Claim : Verdict → Type 0} → Whole → {cs : List Check} → Laws Whole Claim cs → AllPass cs
whole_passes w none = tt
whole_passes w (l & ls) = (l.passes.1 (l.in_whole w), whole_passes w ls)

-- ---- the tests

every-shift : (test : ℕ → Bool) (j m : ℕ) → every test (numbers (suc j) m) ≡ every (λ i. test (suc i)) (numbers j m)
unfolding every numbers
every-shift test j zero = refl
every-shift test j (suc m) = ap (λ (b : Bool). cond (test (suc j)) b false) (every-shift test (suc j) m)

-- every pair of outputs passes a test of its two levels
every-pair : (T : Bool → Bool → Bool) (test : levels.DualRail → Bool) → ((a b : Bool) → T a b ≡ test (levels.dual_rail a b)) → (row : List ℕ) (outputs : List (List ℕ))
    → every (λ j. T (code.row_of row (get_or (get_or outputs j []) 0 0)) (code.row_of row (get_or (get_or outputs j []) 1 0))) (numbers 0 (length outputs)) ≡ levels.every_pair test row (map pair_of outputs)
unfolding every numbers levels.every_pair
every-pair T test same row [] = refl
every-pair T test same row (o ∷ outputs) = rw (same (code.row_of row (get_or o 0 0)) (code.row_of row (get_or o 1 0)))
    (ap (λ (b : Bool). cond (test (levels.pair_in row (pair_of o))) b false)
    (every-shift (λ j. T (code.row_of row (get_or (get_or (o ∷ outputs) j []) 0 0)) (code.row_of row (get_or (get_or (o ∷ outputs) j []) 1 0))) 0 (length outputs) ∙ every-pair T test same row outputs))

is_data_lem : (a b : Bool) → xor a b ≡ levels.is_data (levels.dual_rail a b)
is_data_lem true true = refl
is_data_lem true false = refl
is_data_lem false true = refl
is_data_lem false false = refl

is_null_lem : (a b : Bool) → not (a || b) ≡ levels.is_null (levels.dual_rail a b)
is_null_lem true true = refl
is_null_lem true false = refl
is_null_lem false true = refl
is_null_lem false false = refl

-- two tests that pass together
pub together : (a b : Bool) → (a ≡ true → b ≡ true) → (b ≡ true → a ≡ true) → a ≡ b
together true b f g = sym (f refl)
together false b f g = sym (not-true b (λ e. clash (g e) refl))

module _ (c : Content) where
  abbrev v : parsed.Stage
  v = stage_view c

  feeding-alike : feeding (net_of c) ≡ loops.gate_steps c.inputs v.gates
  unfolding loops.gate_steps
  feeding-alike = fun_ext (λ net. ap (cond (ltb net (2 * c.inputs)) []) (pins c.gates (net - 2 * c.inputs)))
    where
      pins : (gates : List Coded) (k : ℕ) → (get_or gates k no_gate).operands ≡ get_or (map (λ (g : parsed.Gate). g.pins) (map gate_of gates)) k []
      pins [] k = refl
      pins (g ∷ gates) zero = refl
      pins (g ∷ gates) (suc k) = pins gates k

  pub loop_alike : (g : ℕ) → g < length c.gates → reaches_itself (net_of c) (2 * c.inputs + g) ≡ loops.reaches_itself c.inputs v.gates g
  unfolding reaches_itself
  loop_alike g h = together _ _
      (λ e. reaches_complete c.inputs v.gates g (omega (arith, length-map c.gates gate_of))
      (subst (λ (next : ℕ → List ℕ). OnLoop next (2 * c.inputs + g)) feeding-alike (found_loop (feeding (net_of c)) (nets (net_of c)) (2 * c.inputs + g) e)))
      (λ e.
      let z : suc (nets (net_of c) - 1) ≡ nets (net_of c) = omega arith in
      let l : OnLoop (feeding (net_of c)) (2 * c.inputs + g) =
      subst (λ (next : ℕ → List ℕ). OnLoop next (2 * c.inputs + g)) (sym feeding-alike) (reaches_sound c.inputs v.gates g e) in
      subst (λ (k : ℕ). reaches (feeding (net_of c)) (eqb (2 * c.inputs + g)) k (2 * c.inputs + g) ≡ true) z
      (loop-found (feeding (net_of c)) (nets (net_of c) - 1) (λ a b j. omega (arith, (feeding_gate c a b j).1)) (2 * c.inputs + g) l))

  -- a stage without loops is one to the code
  pub code_free : LoopFree (net_of c) → loops.NoLoop c.inputs v.gates
  code_free free g h l =
      let k : g < length c.gates = omega (arith, length-map c.gates gate_of) in
      clash (loop_alike g k ∙ reaches_complete c.inputs v.gates g h l) (free (2 * c.inputs + g) (omega arith, omega arith))

  retired-alike : (g : ℕ) → g < length c.gates → is_retired (cell_in (driver c (2 * c.inputs + g))) ≡ retire.retired_at v.gates g
  unfolding retire.retired_at
  retired-alike g h = let e : 2 * c.inputs + g - 2 * c.inputs ≡ g = omega arith in rw e (ap is_retired (at c.gates g h))
    where
      at : (gates : List Coded) (k : ℕ) → k < length gates → cell_in (get_or gates k no_gate) ≡ (get_or (map gate_of gates) k code.no_gate).cell
      at [] k h = absurd (omega arith)
      at (g ∷ gates) zero h = refl
      at (g ∷ gates) (suc k) h = at gates k (omega arith)

  data_alike : (row : List ℕ) (R : Row) → code.row_of row ≡ R → all_data (net_of c) R ≡ levels.all_data row v.outputs
  data_alike row R e = ap (all_data (net_of c)) (sym e) ∙ every-pair xor levels.is_data is_data_lem row c.outputs

  null_alike : (row : List ℕ) (R : Row) → code.row_of row ≡ R → all_null (net_of c) R ≡ levels.all_null row v.outputs
  null_alike row R e = ap (all_null (net_of c)) (sym e) ∙ every-pair (λ a b. not (a || b)) levels.is_null is_null_lem row c.outputs

  module _ (r : Content) (free : LoopFree (net_of c)) (w : ℕ) where
    wrong-alike : (j : ℕ) → j < length r.outputs → wrong c r w j ≡ found.wrong v (reference_view r) w j
    unfolding wrong found.wrong
    wrong-alike j h =
        let row = levels.settled v.gates (words.rails_in v w) in
        let p = code.output_pair v j in
        ap not (
        ap (λ (R : Row). data_of R ((net_of c).rail j) (answer r (bit_of w) j)) (sym (rest_alike c free w))
        ∙ spelt (code.row_of row) ((net_of c).rail j) (answer r (bit_of w) j)
        ∙ ap₂ (λ (x y : ℕ). levels.spells (levels.dual_rail (levels.high row x) (levels.high row y)) (bit (answer r (bit_of w) j)))
        (sym (rail_view c j false)) (sym (rail_view c j true))
        ∙ ap (levels.spells (levels.pair_in row p)) (answer_alike r w j h))
      where
        pair : (x y b : Bool) → cond b (y && not x) (x && not y) ≡ levels.spells (levels.dual_rail x y) (bit b)
        pair true true true = refl
        pair true true false = refl
        pair true false true = refl
        pair true false false = refl
        pair false true true = refl
        pair false true false = refl
        pair false false true = refl
        pair false false false = refl

        turned : (R : Row) (p : Bool → ℕ) (b : Bool) → data_of R p b ≡ cond b (R (p true) && not (R (p false))) (R (p false) && not (R (p true)))
        turned R p true = refl
        turned R p false = refl

        spelt : (R : Row) (p : Bool → ℕ) (b : Bool) → data_of R p b ≡ levels.spells (levels.dual_rail (R (p false)) (R (p true))) (bit b)
        spelt R p b = turned R p b ∙ pair (R (p false)) (R (p true)) b

    incomplete-alike : (i : ℕ) → incomplete c w i ≡ found.incomplete v w i
    unfolding incomplete found.incomplete
    incomplete-alike i = data_alike _ _ (missing_alike c free w i)

    high_alike : (g : ℕ) (test : Row → ℕ → Bool) (b : Bool) → test (rest c w) (2 * c.inputs + g) ≡ b
        → high_and c w test g ≡ elim (levels.high (levels.settled v.gates (words.rails_in v w)) (2 * c.inputs + g)) as (λ x. Bool) [ true ↦ b | false ↦ false ]
    unfolding high_and
    high_alike g test b e =
        ap (λ (x : Bool). cond (rest c w (2 * c.inputs + g)) x false) e
        ∙ ap (λ (R : Row). cond (R (2 * c.inputs + g)) b false) (sym (rest_alike c free w))
        ∙ as_elim (levels.high (levels.settled v.gates (words.rails_in v w)) (2 * c.inputs + g))
      where
        as_elim : (x : Bool) → cond x b false ≡ elim x as (λ x. Bool) [ true ↦ b | false ↦ false ]
        as_elim true = refl
        as_elim false = refl

    unobservable-alike : (g : ℕ) → g < length c.gates → unobservable c w g ≡ found.unobservable v w g
    unfolding unobservable found.unobservable
    unobservable-alike g h = high_alike g _ _ (data_alike _ _ (held_alike c free w g h))

    fall_incomplete_alike : (i : ℕ) → fall_incomplete c w i ≡ found.fall_incomplete v w i
    unfolding fall_incomplete found.fall_incomplete
    fall_incomplete_alike i = null_alike _ _ (but_alike c free w r i)

    fall_unobservable_alike : (g : ℕ) → fall_unobservable c w g ≡ found.fall_unobservable v w g
    unfolding fall_unobservable found.fall_unobservable
    fall_unobservable_alike g = high_alike g _ _ (null_alike _ _ (keeping_alike c free w r g))

  -- 32, of a stage whose care words rise
  never_alike : LoopFree (net_of c) → Ascending (2 ^ c.inputs) 0 c.care → (g : ℕ) → never_rises c (2 * c.inputs + g) ≡ found.never_rises v g
  never_alike free care g =
      let net = 2 * c.inputs + g in
      let level : (w : ℕ) → found.high_at v w g ≡ rest c w net = λ w. ap (λ (R : Row). R net) (rest_alike c free w) in
      together _ _
      (λ e. rises_never v g (λ w i. level w ∙ never_low c net e w (in_word_holds c care w i)))
      (λ e. low_never c net (λ w i. sym (level w) ∙ never_rises_holds v g e w (word_in c care w i)))

-- ---- the checks

-- of a check that compares counts, of one that looks at places, and of one that sweeps words
pub unequal_is : (number mine theirs mine' theirs' : ℕ) → mine ≡ mine' → theirs ≡ theirs' → (later : Verdict)
    → first (unequal number mine theirs) later ≡ fault_or (found.finding (found.unequal number mine' theirs')) later
unfolding found.finding sweep flat_map
unequal_is number mine theirs mine' theirs' e e' later =
    sweep_is number 0 (mine ∷ []) (λ w i. not (eqb mine theirs)) (λ w i. not (eqb mine theirs)) (theirs ∷ []) (λ w x i y. refl) later
    ∙ ap₂ (λ (a b : ℕ). fault_or (found.sweep number 0 (λ w. found.first (λ i. not (eqb a b)) (a ∷ [])) (b ∷ [])) later) e e'

pub placed_is : (number file m m' : ℕ) (fails fails' : ℕ → Bool) → m ≡ m' → ((i : ℕ) → i < m → fails i ≡ fails' i) → (later : Verdict)
    → first (sweep number file (0 ∷ []) (numbers 0 m) (λ w. fails)) later
    ≡ fault_or (found.sweep number file (λ w. found.first fails' (numbers 0 m')) (0 ∷ [])) later
placed_is number file m m' fails fails' e same later =
    sweep_is number file (numbers 0 m) (λ w. fails) (λ w. fails') (0 ∷ []) (λ w x i y. same i (in_index m i y)) later
    ∙ ap (λ (k : ℕ). fault_or (found.sweep number file (λ w. found.first fails' (numbers 0 k)) (0 ∷ [])) later) e

module _ (order : WordOrder) (c : Content) where
  pub swept_is : (number file m m' : ℕ) (fails fails' : ℕ → ℕ → Bool) → m ≡ m' → ((w i : ℕ) → i < m → fails w i ≡ fails' w i)
      → (later : Verdict) → first (swept order c number file m fails) later
      ≡ fault_or (found.sweep number file (λ name. found.first (fails' (words.spelled order c.inputs name)) (numbers 0 m')) (words.names order (stage_view c))) later
  swept_is number file m m' fails fails' e same later =
      let n = c.inputs in
      let find : ℕ → ℕ → (Option ℕ) = λ k name. found.first (fails' (words.spelled order n name)) (numbers 0 k) in
      sweep_is number file (numbers 0 m) (λ name. fails (spelled order n name)) (λ name. fails' (words.spelled order n name)) (names order c)
      (λ name x i y. ap (λ (w : ℕ). fails w i) (spelled_alike order n name) ∙ same (words.spelled order n name) i (in_index m i y)) later
      ∙ ap₂ (λ (k : ℕ) (ws : List ℕ). fault_or (found.sweep number file (find k) ws) later) e (names_alike order c)

  module _ (r : Content) where
    abbrev s : parsed.Stage
    s = stage_view c

    abbrev q : parsed.Reference
    q = reference_view r

    pub gates_long : length c.gates ≡ length s.gates
    gates_long = sym (length-map c.gates gate_of)

    outputs_long : length c.outputs ≡ length s.outputs
    outputs_long = sym (length-map c.outputs pair_of)

    signals_long : length r.outputs ≡ length q.outputs
    signals_long = sym (length-map r.outputs (λ (vs : List ℕ). get_or vs 0 0))

    -- the checks of the rise and those of the fall, with others after them
    module _ (free : LoopFree (net_of c)) where
      rises_alike : length c.outputs ≤ length r.outputs → {cs : List Check} {ds : List found.Check} → Alike cs ds
          → Alike (swept order c 13 1 (length c.outputs) (wrong c r) ∷ swept order c 14 1 c.inputs (incomplete c) ∷ swept order c 15 1 (length c.gates) (unobservable c) ∷ cs) (found.rise_sweeps order s q ++ ds)
      unfolding found.rise_sweeps found.finding
      rises_alike few later =
          also (swept_is 13 1 (length c.outputs) (length s.outputs) (wrong c r) (found.wrong s q) outputs_long (λ w j h. wrong-alike c r free w j (omega arith))) λ n13.
          also (swept_is 14 1 c.inputs c.inputs (incomplete c) (found.incomplete s) refl (λ w i h. incomplete-alike c r free w i)) λ n14.
          also (swept_is 15 1 (length c.gates) (length s.gates) (unobservable c) (found.unobservable s) gates_long (λ w g h. unobservable-alike c r free w g h)) λ n15. later

      falls_alike : {cs : List Check} {ds : List found.Check} → Alike cs ds
          → Alike (swept order c 20 1 c.inputs (fall_incomplete c) ∷ swept order c 21 1 (length c.gates) (fall_unobservable c) ∷ cs) (found.fall_sweeps order s q ++ ds)
      unfolding found.fall_sweeps found.finding
      falls_alike later =
          also (swept_is 20 1 c.inputs c.inputs (fall_incomplete c) (found.fall_incomplete s) refl (λ w i h. fall_incomplete_alike c r free w i)) λ n20.
          also (swept_is 21 1 (length c.gates) (length s.gates) (fall_unobservable c) (found.fall_unobservable s) gates_long (λ w g h. fall_unobservable_alike c r free w g)) λ n21. later

      -- with hold everywhere the code passes the fall where it passes the rise
      pub hold_passes : length c.outputs ≤ length r.outputs → AllHold (net_of c) → found.first_fault (found.rise_sweeps order s q) ≡ Ok tt → found.first_fault (found.fall_sweeps order s q) ≡ Ok tt
      unfolding found.rise_sweeps found.fall_sweeps
      hold_passes few hold e =
          let p = passed_alike (rises_alike few alike) e in
          let clean : (w : ℕ) → IsWord c w → CleanFall c w = λ w i. hold_clean c r free w hold (record {
            right = (swept_passes c order 13 1 (length c.outputs) (wrong c r)).0 p.0 w i;
            complete = (swept_passes c order 14 1 c.inputs (incomplete c)).0 p.1.0 w i;
            observable = (swept_passes c order 15 1 (length c.gates) (unobservable c)).0 p.1.1.0 w i;
          }) in
          alike_passed (falls_alike alike) ((swept_passes c order 20 1 c.inputs (fall_incomplete c)).1 (λ w i. (clean w i).complete), ((swept_passes c order 21 1 (length c.gates) (fall_unobservable c)).1 (λ w i. (clean w i).observable), tt))

    -- those that follow the wiring, of a stage whose care words rise
    later_alike : Ascending (2 ^ c.inputs) 0 c.care → LoopFree (net_of c) → length c.outputs ≤ length r.outputs
        → Alike (retired c ∷ swept order c 13 1 (length c.outputs) (wrong c r) ∷ swept order c 14 1 c.inputs (incomplete c) ∷ swept order c 15 1 (length c.gates) (unobservable c) ∷
        swept order c 20 1 c.inputs (fall_incomplete c) ∷ swept order c 21 1 (length c.gates) (fall_unobservable c) ∷ idle c ∷ []) (found.retired s ∷ found.word_checks order s q)
    unfolding retired idle found.rise_sweeps found.fall_sweeps found.finding
    later_alike care free few =
        also (placed_is 28 1 (length c.gates) (length s.gates) (retired_gate c) (retire.retired_at s.gates) gates_long (retired-alike c)) λ n28.
        rises_alike free few (falls_alike free
        (also (placed_is 32 1 (length c.gates) (length s.gates) (λ g. never_rises c (2 * c.inputs + g)) (found.never_rises s) gates_long
        (λ g h. never_alike c free care g)) λ n32. alike))

-- all of them: of a stage as reading gives it, and of the same with its registers as wires
pub checks_alike : (order : WordOrder) (c r : Content) → Ascending (2 ^ c.inputs) 0 c.care
    → Alike (checks order c r) (found.checks order (stage_view c) (wiring_checks (pipeline_of c)) (stage_view (wired c)) (reference_view r))
unfolding checks looped found.checks wiring_checks found.finding wired
checks_alike order c r care =
    let p = pipeline_of c in
    let m = register_count p in
    let long = length-map c.outputs (map (resolve p)) in
    also (unequal_is 10 c.inputs r.inputs c.inputs r.inputs refl refl) λ n10.
    also (unequal_is 11 (length c.outputs) (length r.outputs) (length (stage_view c).outputs) (length (reference_view r).outputs) (outputs_long order c r) (signals_long order c r)) λ n11.
    also (placed_is 12 1 (length c.gates) (length (stage_view c).gates) (λ g. reaches_itself (net_of c) (2 * c.inputs + g))
    (loops.reaches_itself c.inputs (stage_view c).gates) (gates_long order c r) (loop_alike c)) λ n12.
    also (placed_is 33 1 m m (circular p) (circular p) refl (λ i h. refl)) λ n33.
    also (placed_is 33 1 m m (uneven p) (uneven p) refl (λ i h. refl)) λ n33b.
    also (placed_is 34 1 m m (missing p) (missing p) refl (λ i h. refl)) λ n34.
    also (placed_is 35 1 m m (barred p) (barred p) refl (λ i h. refl)) λ n35.
    let o = (equal_passes 11 0 (length c.outputs) (length r.outputs) (length c.outputs) (length r.outputs)).0 n11 in
    let free = wired_free c ((gates_passes c 12 (reaches_itself (net_of c))).0 n12) ((places_passes 33 1 m (circular p)).0 n33) in
    later_alike order (wired c) r care free (omega arith)
