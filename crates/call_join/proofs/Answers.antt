-- 23: the word that a reference answers, and what is found under the name of a word.
-- Assumes nothing.
use Rattle.std.specs.Prelude.{Some, None, Ok}
use Prim.Native.Nat.{ℕ, zero, suc, ◌+◌, ◌-◌, ◌*◌, ◌^◌, ◌≤◌, ◌<◌}
use native.Mathlib.Omega.{arith}
use native.Mathlib.Nat.{two-pow-succ}
use mathlib.Core.Path.{◌≡◌, refl, sym, ap, ap₂, subst, ◌∙◌}
use mathlib.Core.Bool.{Bool, true, false, not}
use mathlib.Core.List.{List, [], ◌∷◌, map, map-map, map-id}
use lib.ListN.{length, get_or, take, drop, length-drop, length-map, drop_of_length-le}
use lib.Seq.{drop-cons, get_or-take}
use lib.Pow.{pow_mono}
use lib.Dec.{eqb}
use borrow.Author.Tests.{lt-ltb}
use Rattle.gates.specs.Cell.{bit}
use Rattle.netlist.specs.declared.Counts.{Counts}
use Rattle.netlist.specs.Content.{Stage, Reference}
use Rattle.verdict.specs.Graph.{tabulate}
use Rattle.verdict.specs.declared.WordOrder.{WordOrder}
use Rattle.verdict.specs.Words.{bits_of, word_of, spelled}
use Rattle.verdict.specs.Answers.{answer, values_at, signal_values}
use Rattle.verdict.specs.Checks.{first, sweep}
use Rattle.verdict.proofs.Words.{bits_of_bit, answer_bit}
use Rattle.check_spec.specs.Lists.{bit_of, of_bits}
use Rattle.check_spec.specs.Words as content
use Rattle.check_spec.specs.Loaded.{from_reference, reference_view}
use Rattle.check_spec.proofs.Names.{of_bits_below, same_bits}
use Rattle.check_spec.proofs.Alike.{word_of_holds, answer_alike}
use Rattle.join_spec.specs.Joining as joins
use Rattle.circuit.specs.Stage.{stage_in}
use Rattle.circuit.specs.Reference.{operators_in, signal_in, signals_in, reference_in, ReferenceLoaded}
use Rattle.circuit.proofs.Tabulate.{length_tabulate, get_d_tabulate}
use Rattle.words.proofs.Membership.{of_all_holds}
use Rattle.lane_cells.specs.Lane.{lane_of}
use Rattle.lane_cells.proofs.Lane.{level_small}
use Rattle.lane_cells.proofs.Blocks.{level_at}
use Rattle.check_words.proofs.Sweeping.{swept_nothing}
use Rattle.write_joined.proofs.Whole.{signals_count}
use Rattle.call_join.specs.Steps.{answer_word, answer_in, uncared_for, uncared_under}

-- ---- a word from its bits, the last first

module _ (value : ℕ → ℕ) where
  word_below : ((v : ℕ) → value v ≤ 1) → (vs : List ℕ) → word_of (map value vs) < 2 ^ length vs
  unfolding word_of
  word_below bit [] = omega arith
  word_below bit (v ∷ vs) = omega (arith, bit v, word_below bit vs, two-pow-succ (length vs))

  module _ (signal : ℕ → ℕ) (m j : ℕ) where
    -- that of the outputs from output j on
    abbrev pub word_from : ℕ
    word_from = word_of (map value (drop j (tabulate signal m)))

    pub word_few : ((v : ℕ) → value v ≤ 1) → m ≤ 16 → word_from < 65536
    word_few bit few =
        let l = drop j (tabulate signal m) in
        let long : length l ≤ 16 = omega (arith, length-drop j (tabulate signal m), length_tabulate signal m) in
        omega (arith, word_below bit l, pow_mono {i = length l} {j = 16} long)

  -- behind the last output nothing is left
  pub word_none : (signal : ℕ → ℕ) (m : ℕ) → 0 ≡ word_from signal m m
  unfolding word_of
  word_none signal m = sym (ap (λ (l : List ℕ). word_of (map value l)) (drop_of_length-le (tabulate signal m) {i = m} (omega (arith, length_tabulate signal m))))

  pub word_more : (signal : ℕ → ℕ) (m j word : ℕ) → 0 < j → j ≤ m → word ≡ word_from signal m j → value (signal (j - 1)) + 2 * word ≡ word_from signal m (j - 1)
  unfolding word_of
  word_more signal m j word pos most e =
      let s : suc (j - 1) ≡ j = omega arith in
      let d : drop (j - 1) (tabulate signal m) ≡ signal (j - 1) ∷ drop j (tabulate signal m) =
      drop-cons (tabulate signal m) (j - 1) 0 (omega (arith, length_tabulate signal m))
      ∙ ap₂ (λ (v i : ℕ). v ∷ drop i (tabulate signal m)) (get_d_tabulate signal m (j - 1) 0 (omega arith)) s in
      rw d (ap (λ (n : ℕ). value (signal (j - 1)) + 2 * n) e)

-- ---- the answer of a reference

-- values of signals that all stand before a place
values-before : (values : List ℕ) (n : ℕ) (signal : ℕ → ℕ) (m : ℕ) → ((j : ℕ) → j < m → signal j < n) →
    values_at values (tabulate signal m) ≡ values_at (take n values) (tabulate signal m)
unfolding tabulate
values-before values n signal zero h = refl
values-before values n signal (suc m) h =
    ap₂ (λ (v : ℕ) (vs : List ℕ). v ∷ vs) (sym (get_or-take n values (signal 0) 0 (h 0 (omega arith))))
    (values-before values n (λ i. signal (suc i)) m (λ j l. h (suc j) (omega arith)))

-- the value of a signal in word j of a block
abbrev pub value_in : List ℕ → ℕ → ℕ → ℕ
value_in values j v = get_or (lane_of j values) v 0

pub value_small : (values : List ℕ) (j v : ℕ) → value_in values j v ≤ 1
value_small values j v = rw (level_at j values v) (level_small j (get_or values v 0))

module _ (sizes : Counts) (reference values : List ℕ) (j : ℕ) where
  pub answer_below : answer_in sizes reference values j < 2 ^ sizes.outputs
  answer_below =
      subst (λ (m : ℕ). answer_in sizes reference values j < 2 ^ m) (signals_count sizes reference)
      (word_below (value_in values j) (value_small values j) (signals_in sizes reference))

  -- where the signals have the values of word w, the outputs spell its answer
  pub answered : ReferenceLoaded sizes reference → (w : ℕ) →
      take (sizes.inputs + sizes.gates) (lane_of j values) ≡ signal_values (bits_of sizes.inputs w) (operators_in sizes reference) →
      answer_in sizes reference values j ≡ answer_word (reference_in sizes reference) w
  unfolding answer signals_in
  answered loaded w e =
      ap word_of (values-before (lane_of j values) (sizes.inputs + sizes.gates) (signal_in sizes reference) sizes.outputs loaded.signal
      ∙ ap (λ (l : List ℕ). values_at l (tabulate (signal_in sizes reference) sizes.outputs)) e)

-- ---- what is found under a name

module _ (order : WordOrder) (inputs : ℕ) (r : Reference) (t : Stage) (name : ℕ) where
  pub cared_under : uncared_for t (answer_word r (spelled order inputs name)) ≡ false → uncared_under order inputs r t name ≡ None
  unfolding first
  cared_under e = rw e

  pub uncared_under_holds : uncared_for t (answer_word r (spelled order inputs name)) ≡ true → uncared_under order inputs r t name ≡ Some 0
  unfolding first
  uncared_under_holds e = rw e

-- ---- the answer of the content

unbit : (b : Bool) → eqb (bit b) 1 ≡ b
unbit true = refl
unbit false = refl

pub answer_word_lem : (r : Reference) (w : ℕ) → joins.answer_word (from_reference r) w ≡ answer_word r w
unfolding answer
answer_word_lem r w =
    let l = answer r (bits_of r.inputs w) in
    let c = from_reference r in
    let view : reference_view c ≡ r = ap (λ (o : List ℕ). record { inputs = r.inputs; gates = r.gates; outputs = o }) (map-map (λ (vs : List ℕ). get_or vs 0 0) (λ (v : ℕ). v ∷ []) r.outputs ∙ map-id r.outputs) in
    let long : length l ≡ length c.outputs = length-map r.outputs (λ (v : ℕ). get_or (signal_values (bits_of r.inputs w) r.gates) v 0) ∙ sym (length-map r.outputs (λ (v : ℕ). v ∷ [])) in
    same_bits (length c.outputs) (content.answer c (bit_of w)) (λ i. eqb (get_or l i 0) 1) (λ i h.
    sym (unbit (content.answer c (bit_of w) i)) ∙ ap (λ (x : ℕ). eqb x 1) (answer_alike c w i h ∙ ap (λ (q : Reference). get_or (answer q (bits_of r.inputs w)) i 0) view))
    ∙ ap (λ (m : ℕ). of_bits m (λ i. eqb (get_or l i 0) 1)) (sym long) ∙ sym (word_of_holds l (answer_bit r (bits_of r.inputs w) (bits_of_bit r.inputs w)))

-- a second part without a care list cares for every answer
pub all_cared : (order : WordOrder) (inputs : ℕ) (sizes : Counts) (reference : List ℕ) (c : Counts) (code : List ℕ) → c.care ≡ 0 → sizes.outputs ≡ c.inputs
    → (ns : List ℕ) → Ok tt ≡ sweep 23 0 (uncared_under order inputs (reference_in sizes reference) (stage_in c code)) ns
all_cared order inputs sizes reference c code none seam ns =
    let r = reference_in sizes reference in
    let long : length (from_reference r).outputs ≡ c.inputs = length-map r.outputs (λ (v : ℕ). v ∷ []) ∙ signals_count sizes reference ∙ seam in
    let below : (w : ℕ) → answer_word r w < 2 ^ c.inputs = λ w. subst (λ (k : ℕ). answer_word r w < 2 ^ k) long
    (subst (λ (x : ℕ). x < 2 ^ length (from_reference r).outputs) (answer_word_lem r w) (of_bits_below (length (from_reference r).outputs) _)) in
    sym (swept_nothing 23 0 _ ns (λ name i. cared_under order inputs r (stage_in c code) name
    (ap not (sym (of_all_holds c code _ none) ∙ lt-ltb _ _ (below (spelled order inputs name))))))
