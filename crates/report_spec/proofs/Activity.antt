-- The total of the report is half of all gate switchings when each word rises and falls once.
-- Assumes nothing.
use Prim.Native.Nat.{ℕ, zero, suc, ◌+◌, ◌*◌, ◌^◌, ◌≤◌}
use native.Mathlib.Omega.{arith}
use mathlib.Core.Path.{◌≡◌, refl, sym, ap, ap₂, subst, ◌∙◌, fun_ext}
use mathlib.Core.Bool.{Bool, true, false, cond, not}
use mathlib.Core.Logic.{◌⊎◌, inl, inr}
use mathlib.Core.List.{List, [], ◌∷◌, ◌++◌, map, map-map}
use lib.ListN.{length, get_or, length-append, get_or-eq_default}
use lib.Seq.{get_or-append-add}
use lib.Dec.{eqb, ltb}
use borrow.Author.Tests.{lt-ltb, le-ltb, eq-eqb}
use Rattle.runs.specs.Row.{Row, low, after, tally, times}
use Rattle.runs.specs.Net.{Net, RiseList, RiseEnd}
use Rattle.runs.specs.Promise.{Rest}
use Rattle.runs.proofs.Test.{clash, eqb_eq}
use Rattle.netlist.specs.Commands.{stage_file}
use Rattle.netlist.specs.Reading.{Ascending}
use Rattle.netlist.specs.Content.{Stage}
use Rattle.verdict.specs.declared.Verdict.{Verdict}
use Rattle.verdict.specs.declared.WordOrder.{WordOrder}
use Rattle.verdict.specs.Levels.{sum}
use Rattle.verdict.specs.Rows.{settled, settled_levels}
use Rattle.verdict.specs.Words as words
use Rattle.verdict.specs.Words.{rails_in}
use Rattle.verdict.specs.Nets as nets
use Rattle.verdict.specs.Nets.{row_of}
use Rattle.verdict.proofs.Levels.{bits_length, bits_get}
use Rattle.verdict.proofs.Settling.{settled_bits}
use Rattle.verdict.proofs.Names.{words_once}
use Rattle.verdict.proofs.OneWord.{wires_length}
use Rattle.check_spec.specs.Cases.{accepted}
use Rattle.check_spec.specs.Content.{Content, wired, Files, stage_in}
use Rattle.check_spec.specs.Rows.{net_of}
use Rattle.check_spec.specs.Words.{rails_for, spelled, names, IsWord}
use Rattle.check_spec.specs.Checks.{rest}
use Rattle.check_spec.specs.Verdicts.{verdict_on}
use Rattle.check_spec.specs.Demands.{LoopFree, answer_to, Kept}
use Rattle.check_spec.specs.Loaded.{stage_view}
use Rattle.check_spec.proofs.Formed.{read_of}
use Rattle.check_spec.proofs.Alike.{spelled_alike, names_alike, rest_alike, levels_alike, word_in, in_word_holds, care_rises}
use Rattle.check_spec.proofs.Sound.{accepted_sound, sound_free, sound_kept}
use Rattle.report_spec.specs.High as code
use Rattle.report_spec.specs.Report.{gates_high, report_of, lines, report_on, gate_switchings, Cycle, switchings, EachWordOnce, Cycled, ReportMeans}
use Rattle.report_spec.proofs.Cycles.{low_again}
use Rattle.report_spec.proofs.Counting.{up_to, up_to_same, up_to_zero, up_to_split, up_to_levels, weigh, weigh_zero, sum_times, sum_same}

-- ---- one list

-- the nets that are high at the rest of word w stand in a list, each once, and no other: its gate switchings are the gates high there
module _ (s : Stage) (w : ℕ) (l : List ℕ) (once : (k : ℕ) → times k l ≡ tally (row_of (settled s.gates (rails_in s w)) k) 0) where
  abbrev wires : List ℕ
  wires = rails_in s w

  abbrev levels : List ℕ
  levels = settled_levels s.gates wires

  abbrev n2 : ℕ
  n2 = 2 * s.inputs

  abbrev g : ℕ
  g = length s.gates

  levels_long : length levels ≡ g
  levels_long = bits_length g levels (settled_bits s.gates wires)

  level : (k : ℕ) → get_or (wires ++ levels) (n2 + k) 0 ≡ get_or levels k 0
  level k = ap (λ (m : ℕ). get_or (wires ++ levels) (m + k) 0) (sym (wires_length s w)) ∙ get_or-append-add wires levels k 0

  -- a gate switches once where its level is 1
  gate : (k x : ℕ) → get_or levels k 0 ≡ x → x ≤ 1 → weigh (times (n2 + k) l) 1 ≡ x
  gate k zero e h = ap (λ (m : ℕ). weigh m 1) (once (n2 + k) ∙ ap (λ (m : ℕ). tally (ltb 0 m) 0) (level k ∙ e))
  gate k (suc zero) e h = ap (λ (m : ℕ). weigh m 1) (once (n2 + k) ∙ ap (λ (m : ℕ). tally (ltb 0 m) 0) (level k ∙ e))
  gate k (suc (suc x)) e h = absurd (omega arith)

  past : (k : ℕ) → n2 + g ≤ k → times k l ≡ 0
  past k h =
      let e : length (wires ++ levels) ≤ k = omega (arith, length-append wires levels, wires_length s w, levels_long) in
      once k ∙ ap (λ (m : ℕ). tally (ltb 0 m) 0) (get_or-eq_default (wires ++ levels) 0 {n = k} e)

  -- 1 for a gate, 0 for a rail
  abbrev is_gate : ℕ → ℕ
  is_gate k = tally (not (ltb k n2)) 0

  pub list_gates : gate_switchings (nets.net_of s) l ≡ code.gates_high s w
  list_gates =
      let a : gate_switchings (nets.net_of s) l ≡ up_to (n2 + g) (λ k. weigh (times k l) (is_gate k)) = sum_times is_gate (n2 + g) l past in
      let b : up_to (n2 + g) (λ k. weigh (times k l) (is_gate k)) ≡ up_to n2 (λ k. weigh (times k l) (is_gate k)) + up_to g (λ k. weigh (times (n2 + k) l) (is_gate (n2 + k))) = up_to_split n2 g (λ k. weigh (times k l) (is_gate k)) in
      let c : up_to n2 (λ k. weigh (times k l) (is_gate k)) ≡ 0 = up_to_zero n2 (λ k. weigh (times k l) (is_gate k)) (λ k h. ap (λ b. weigh (times k l) (tally (not b) 0)) (lt-ltb k n2 h) ∙ weigh_zero (times k l)) in
      let d : up_to g (λ k. weigh (times (n2 + k) l) (is_gate (n2 + k))) ≡ up_to g (λ k. get_or levels k 0) = up_to_same g (λ k. weigh (times (n2 + k) l) (is_gate (n2 + k))) (λ k. get_or levels k 0) (λ k h. ap (λ b. weigh (times (n2 + k) l) (tally (not b) 0)) (le-ltb (n2 + k) n2 (omega arith)) ∙ gate k (get_or levels k 0) refl (bits_get g levels (settled_bits s.gates wires) k)) in
      let e : sum levels ≡ up_to g (λ k. get_or levels k 0) = up_to_levels levels ∙ ap (λ (m : ℕ). up_to m (λ k. get_or levels k 0)) levels_long in
      omega (arith, a ∙ b, c, d, e)

-- ---- what the theory counts

module _ (c : Content) (free : LoopFree (net_of c)) (w : ℕ) where
  pub high_alike : code.gates_high (stage_view c) w ≡ gates_high c w
  high_alike = ap sum (levels_alike c free w)

  pub switched_gates : (l : List ℕ) → ((k : ℕ) → times k l ≡ tally (rest c w k) 0) → gate_switchings (net_of c) l ≡ gates_high c w
  switched_gates l once =
      list_gates (stage_view c) w l (λ k. once k ∙ ap (λ (R : Row). tally (R k) 0) (sym (rest_alike c free w))) ∙ high_alike

-- ---- one word

-- a word in which the promise is kept: it has cycles, and each switches the gates high at its rest, up and down again
module _ (f : Files) (free : LoopFree (net_of (stage_in f))) (w : ℕ) (kept : Kept f w) where
  abbrev N : Net
  N = net_of (stage_in f)

  module _ (p : Cycle N) (e : p.word ≡ w) where
    legal : RiseList N (rails_for w) p.rise
    legal = subst (λ (v : ℕ). RiseList N (rails_for v) p.rise) e p.rise_legal

    ended : RiseEnd N (rails_for w) p.rise
    ended = subst (λ (v : ℕ). RiseEnd N (rails_for v) p.rise) e p.rise_ended

    at_rest : Rest N (rails_for w) (answer_to f w) p.rise
    at_rest = (kept.promise.lists p.rise legal).end_rest ended

    high-there : (i : ℕ) → tally (after low p.rise i) 0 ≡ tally (rest (stage_in f) w i) 0
    high-there i = ap (λ (R : Row). tally (R i) 0) (kept.rest-is.end_is p.rise legal ended)

    rise_gates : gate_switchings N p.rise ≡ gates_high (stage_in f) w
    rise_gates = switched_gates (stage_in f) free w p.rise (λ i. at_rest.switched.once i ∙ high-there i)

    fall_gates : gate_switchings N p.fall ≡ gates_high (stage_in f) w
    fall_gates =
        switched_gates (stage_in f) free w p.fall (λ i. ((at_rest.falls p.fall p.fall_legal).end_switched p.fall_ended).once i ∙ high-there i)

  pub cycled : Cycled (stage_in f) w
  cycled = record {
    some =
        let up = (kept.promise.lists [] tt).goes_on in
        let down = (((kept.promise.lists up.more up.legal).end_rest up.ended).falls [] tt).goes_on in (
          record {
            word = w;
            rise = up.more;
            rise_legal = up.legal;
            rise_ended = up.ended;
            fall = down.more;
            fall_legal = down.legal;
            fall_ended = down.ended;
          },
          refl,
        );
    rises = rise_gates;
    falls = fall_gates;
    back = λ p e.
        low_again N (rails_for p.word) p.rise p.fall p.rise_legal p.fall_legal (((at_rest p e).falls p.fall p.fall_legal).end_low p.fall_ended);
  }

-- ---- all words

module _ (order : WordOrder) (c : Content) (care : Ascending (2 ^ c.inputs) 0 c.care) where
  abbrev by_name : List ℕ
  by_name = map (spelled order c.inputs) (names order c)

  -- each word stands once among those of the names
  once : (w : ℕ) → (IsWord c w × (times w by_name ≡ 1)) ⊎ ((¬ (IsWord c w)) × (times w by_name ≡ 0))
  once w = subst (λ (l : List ℕ). (IsWord c w × (times w l ≡ 1)) ⊎ ((¬ (IsWord c w)) × (times w l ≡ 0))) (sym same) (go (words_once order (stage_view c) care w))
    where
      same : by_name ≡ map (words.spelled order c.inputs) (words.names order (stage_view c))
      same = ap₂ (λ (f : ℕ → ℕ) (l : List ℕ). map f l) (fun_ext (spelled_alike order c.inputs)) (names_alike order c)

      listed : List ℕ
      listed = map (words.spelled order c.inputs) (words.names order (stage_view c))

      go : (words.IsWord (stage_view c) w × (times w listed ≡ 1)) ⊎ ((¬ (words.IsWord (stage_view c) w)) × (times w listed ≡ 0))
          → (IsWord c w × (times w listed ≡ 1)) ⊎ ((¬ (IsWord c w)) × (times w listed ≡ 0))
      go (inl h) = inl (in_word_holds c care w h.0, h.1)
      go (inr h) = inr (λ i. h.0 (word_in c care w i), h.1)

  module _ (cycle : (p : Cycle (net_of c)) → IsWord c p.word → switchings (net_of c) p ≡ 2 * gates_high c p.word) where
    abbrev word_of : Cycle (net_of c) → ℕ
    word_of p = p.word

    cycles_twice : (cycles : List (Cycle (net_of c))) → ((w : ℕ) → ¬ (IsWord c w) → times w (map word_of cycles) ≡ 0)
        → sum (map (switchings (net_of c)) cycles) ≡ 2 * sum (map (gates_high c) (map word_of cycles))
    cycles_twice [] none = refl
    cycles_twice (p ∷ cycles) none = omega (arith, cycle p (first (once p.word)), cycles_twice cycles (λ w n. tail w (eqb w p.word) (none w n)))
      where
        later : ℕ → ℕ
        later w = times w (map word_of cycles)

        first : (IsWord c p.word × (times p.word by_name ≡ 1)) ⊎ ((¬ (IsWord c p.word)) × (times p.word by_name ≡ 0)) → IsWord c p.word
        first (inl h) = h.0
        first (inr h) = absurd (omega (arith, sym (ap (λ b. tally b (later p.word)) (eq-eqb p.word p.word refl)) ∙ none p.word h.0))

        tail : (w : ℕ) (b : Bool) → tally b (later w) ≡ 0 → later w ≡ 0
        tail w true e = absurd (omega (arith, e))
        tail w false e = e

    half : (cycles : List (Cycle (net_of c))) → EachWordOnce c (map word_of cycles) → sum (map (switchings (net_of c)) cycles) ≡ 2 * sum (map (gates_high c) by_name)
    half cycles each = omega (arith, cycles_twice cycles each.none, sum_same (gates_high c) (map word_of cycles) by_name (λ w. as_often w (once w)))
      where
        as_often : (w : ℕ) → (IsWord c w × (times w by_name ≡ 1)) ⊎ ((¬ (IsWord c w)) × (times w by_name ≡ 0)) → times w (map word_of cycles) ≡ times w by_name
        as_often w (inl h) = each.once w h.0 ∙ sym h.1
        as_often w (inr h) = each.none w h.0 ∙ sym h.1

-- ---- the report

-- the report of two files means what is said of it
pub report_means : (order : WordOrder) (f : Files) → ReportMeans f (report_on order f)
unfolding report_on wired
report_means order f = go (eqb (verdict_on order f).number 0) refl
  where
    s : Content
    s = stage_in f

    go : (b : Bool) → eqb (verdict_on order f).number 0 ≡ b
        → ReportMeans f (cond b (report_of (verdict_on order f) (names order (stage_in f)) (lines order (stage_in f))) (report_of (verdict_on order f) [] []))
    go false e = let no : verdict_on order f ≡ accepted → ⊥ = λ a. clash (ap (λ (v : Verdict). eqb v.number 0) a) e in
        record { cycled = λ a. absurd (no a); half = λ a. absurd (no a) }
    go true e =
        let p = (accepted_sound order f (eqb_eq (verdict_on order f).number 0 e)).1 in
        let free = sound_free p in
        let read = read_of (stage_file f.registers) f.stage_most f.stage p.read.0 in
        let care = care_rises (stage_file f.registers) f.stage_most f.stage read.0 read.1 in
        record {
          cycled = λ a w h. cycled f free w (sound_kept p w h);
          half = λ a cycles each.
              half order (stage_in f) care (λ q h. let c = cycled f free q.word (sound_kept p q.word h) in omega (arith, c.rises q refl, c.falls q refl)) cycles each
              ∙ ap (λ (l : List ℕ). 2 * sum l) (map-map (gates_high (stage_in f)) (spelled order (stage_in f).inputs) (names order (stage_in f)));
        }
