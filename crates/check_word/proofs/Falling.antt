-- 20 and 21: the rest of a word with all inputs fallen but one, and a gate kept high.
-- Assumes nothing.
use Prim.Native.Nat.{ℕ, zero, suc, ◌+◌, ◌*◌, ◌≤◌, ◌<◌}
use native.Mathlib.Omega.{arith}
use Rattle.std.proofs.lemmas.Slice.{put_mid-paste}
use Rattle.std.proofs.lemmas.List.Edits.{paste_none, paste_more}
use borrow.Rule.Slice.PartMut.{put_mid}
use native.Mathlib.Decide.{ℕ_discrete}
use mathlib.Core.Path.{◌≡◌, refl, sym, ap, ap₂, ◌∙◌, fun_ext, subst}
use mathlib.Core.Bool.{Bool, true, false, cond, not, ◌&&◌, ◌||◌}
use mathlib.Core.List.{List, [], ◌∷◌, ◌++◌}
use lib.ListN.{length, get_or, set, take, drop, replicate, length-replicate, get_or-replicate}
use lib.Seq.{paste, get_or-take, get_or-drop, get_or-set_same, get_or-set_other, ext_get_or, length-take-le, take-set-le, take-set-lt, drop-set-lt}
use lib.Dec.{eqb, eqb-zero-suc, eqb-suc-zero, eqb-suc-suc}
use borrow.Author.Tests.{ne_eqb, lt-ltb, le-ltb}
use Rattle.gates.specs.Cell.{bit}
use Rattle.runs.specs.Row.{only}
use Rattle.netlist.specs.declared.Counts.{Counts}
use Rattle.netlist.specs.Reading.{stage_limits, Within}
use Rattle.netlist.specs.Content.{Gate}
use Rattle.verdict.specs.Rows.{high, with_null, rounds, settled_levels, settled, all_null}
use Rattle.verdict.specs.Words.{rails_in}
use Rattle.verdict.specs.Nets.{no_gate}
use Rattle.verdict.specs.Falls.{stays, fallen_levels, fallen}
use Rattle.verdict.specs.Checks.{fall_incomplete, fall_unobservable}
use Rattle.circuit.specs.Stage.{net_count, stage_gates, stage_outputs, stage_in}
use Rattle.circuit.specs.Rows.{row_size, RowFor, rail_part, level_part, fallen_in}
use Rattle.circuit.proofs.Settling.{length_stage_gates, length_rails, length_levels, low_row, row_set}
use Rattle.circuit.proofs.Tabulate.{all_same}
use Rattle.words.proofs.Rest.{word_length, word_rails_holds, word_levels}
use Rattle.check_word.specs.Fallen.{RestOf, fallen_from}

-- ---- inputs that fall

-- sets that agree on the inputs
null_alike : (m m' : ℕ → Bool) (n : ℕ) (rails : List ℕ) → length rails ≡ 2 * n → ((k : ℕ) → k < n → m k ≡ m' k) → with_null m rails ≡ with_null m' rails
unfolding with_null
null_alike m m' n [] h e = refl
null_alike m m' n (a ∷ []) h e = refl
null_alike m m' zero (a ∷ b ∷ rails) h e = absurd (omega arith)
null_alike m m' (suc n) (a ∷ b ∷ rails) h e =
    ap₂ (λ (t : Bool) (l : List ℕ). cond t (0 ∷ 0 ∷ l) (a ∷ b ∷ l)) (e 0 (omega arith))
    (null_alike (λ i. m (suc i)) (λ i. m' (suc i)) n rails (omega arith) (λ k l. e (suc k) (omega arith)))

all_null_holds : (n : ℕ) (rails : List ℕ) → length rails ≡ 2 * n → with_null (λ k. true) rails ≡ replicate (length rails) 0
unfolding with_null
all_null_holds n [] h = refl
all_null_holds n (a ∷ []) h = absurd (omega arith)
all_null_holds zero (a ∷ b ∷ rails) h = absurd (omega arith)
all_null_holds (suc n) (a ∷ b ∷ rails) h = ap (λ (l : List ℕ). 0 ∷ 0 ∷ l) (all_null_holds n rails (omega arith))

-- all but one that is none
pub null_but_none : (n : ℕ) (rails : List ℕ) → length rails ≡ 2 * n → (i : ℕ) → n ≤ i → with_null (λ k. not (eqb k i)) rails ≡ with_null (λ k. true) rails
null_but_none n rails h i l = null_alike _ _ n rails h (λ k b. ap not (ne_eqb k i (λ e. omega arith)))

-- all but input i: its rails are as they were, and the others low
pub null_but : (n : ℕ) (rails : List ℕ) → length rails ≡ 2 * n → (i : ℕ) → i < n
    → set (set (replicate (length rails) 0) (2 * i) (get_or rails (2 * i) 0)) (2 * i + 1) (get_or rails (2 * i + 1) 0) ≡ with_null (λ k. not (eqb k i)) rails
unfolding with_null
null_but n [] h i l = absurd (omega arith)
null_but n (a ∷ []) h i l = absurd (omega arith)
null_but zero (a ∷ b ∷ rails) h i l = absurd (omega arith)
null_but (suc n) (a ∷ b ∷ rails) h zero l =
    ap (λ (r : List ℕ). a ∷ b ∷ r) (sym (all_null_holds n rails (omega arith))
    ∙ ap (λ (m : ℕ → Bool). with_null m rails) (fun_ext (λ k. ap not (sym (eqb-suc-zero k)))))
null_but (suc n) (a ∷ b ∷ rails) h (suc i) l =
    let e : 2 * suc i ≡ suc (suc (2 * i)) = omega arith in
    let f : 2 * suc i + 1 ≡ suc (suc (2 * i + 1)) = omega arith in
    ap₂ (λ (x y : ℕ). set (set (0 ∷ 0 ∷ replicate (length rails) 0) x (get_or (a ∷ b ∷ rails) x 0)) y (get_or (a ∷ b ∷ rails) y 0)) e f
    ∙ ap (λ (r : List ℕ). 0 ∷ 0 ∷ r) (null_but n rails (omega arith) i (omega arith))
    ∙ sym (ap₂ (λ (t : Bool) (m : ℕ → Bool). cond t (0 ∷ 0 ∷ with_null m rails) (a ∷ b ∷ with_null m rails)) (ap not (eqb-zero-suc i)) (fun_ext (λ k. ap not (eqb-suc-suc k i))))

-- the levels of a row up to net p, in a row whose rails are low
pub record LowTo (c : Counts) (row low : List ℕ) (p : ℕ) : Type 0 where
  pub row_for_holds : RowFor c low
  pub rails : rail_part c low ≡ replicate (2 * c.inputs) 0
  pub same : (k : ℕ) → 2 * c.inputs ≤ k → k < p → get_or low k 0 ≡ get_or row k 0

pub low_start : (c : Counts) (row : List ℕ) → Within stage_limits c → LowTo c row (replicate row_size 0) (2 * c.inputs)
low_start c row w = record { row_for_holds = low_row c w; rails = rails; same = λ k a b. absurd (omega arith) }
  where
    long : length (take (2 * c.inputs) (replicate {A = ℕ} row_size 0)) ≡ 2 * c.inputs
    long = length-take-le (2 * c.inputs) (replicate {A = ℕ} row_size 0) (omega (arith, length-replicate {A = ℕ} row_size 0, w.inputs_in))

    rails : take (2 * c.inputs) (replicate {A = ℕ} row_size 0) ≡ replicate (2 * c.inputs) 0
    rails =
        ext_get_or 0 (take (2 * c.inputs) (replicate row_size 0)) (replicate (2 * c.inputs) 0) (long ∙ sym (length-replicate (2 * c.inputs) 0))
        (λ k b. get_or-take (2 * c.inputs) (replicate row_size 0) k 0 (omega (arith, long)) ∙ get_or-replicate row_size k 0 0 (omega (arith, long, w.inputs_in))
        ∙ sym (get_or-replicate (2 * c.inputs) k 0 0 (omega (arith, long))))

module _ (c : Counts) (row low : List ℕ) (r : RowFor c row) (p : ℕ) (t : LowTo c row low p) where
  pub low_turn : 2 * c.inputs ≤ p → p < net_count c → LowTo c row (set low p (get_or row p 0)) (p + 1)
  low_turn a b = record {
    row_for_holds = row_set c low t.row_for_holds p (get_or row p 0) b (r.bit p (omega arith));
    rails = take-set-le (2 * c.inputs) low p (get_or row p 0) a ∙ t.rails;
    same = λ k x y. go k x y (ℕ_discrete k p);
  }
    where
      go : (k : ℕ) → 2 * c.inputs ≤ k → k < p + 1 → Dec (k ≡ p) → get_or (set low p (get_or row p 0)) k 0 ≡ get_or row k 0
      go k x y (yes e) = rw e (get_or-set_same low p (get_or row p 0) 0 (omega (arith, t.row_for_holds.long)))
      go k x y (no d) = get_or-set_other low p k (get_or row p 0) 0 d ∙ t.same k x (omega arith)

  pub low_levels : net_count c ≤ p → level_part c low ≡ level_part c row
  low_levels h =
      ext_get_or 0 (level_part c low) (level_part c row) (length_levels c low t.row_for_holds ∙ sym (length_levels c row r))
      (λ k b. let l = length_levels c low t.row_for_holds in part low k (omega arith) ∙ t.same (2 * c.inputs + k) (omega arith) (omega arith) ∙ sym (part row k (omega arith)))
    where
      part : (l : List ℕ) (k : ℕ) → k < c.gates → get_or (level_part c l) k 0 ≡ get_or l (2 * c.inputs + k) 0
      part l k g = get_or-take c.gates (drop (2 * c.inputs) l) k 0 g ∙ get_or-drop (2 * c.inputs) l k 0

-- the levels of the first m gates copied to a row of zeros
module _ (c : Counts) (row : List ℕ) (w : Within stage_limits c) (r : RowFor c row) where
  low_to : (m : ℕ) → m ≤ c.gates → LowTo c row (paste (replicate row_size 0) (2 * c.inputs) (level_part c row) m) (2 * c.inputs + m)
  low_to zero h =
      let e : 2 * c.inputs ≡ 2 * c.inputs + 0 = omega arith in
      subst (LowTo c row (paste (replicate row_size 0) (2 * c.inputs) (level_part c row) 0)) e
      (subst (λ (v : List ℕ). LowTo c row v (2 * c.inputs)) (paste_none (replicate row_size 0) (2 * c.inputs) (level_part c row)) (low_start c row w))
  low_to (suc m) h =
      let e : m + 1 ≡ suc m = omega arith in
      let f : 2 * c.inputs + m + 1 ≡ 2 * c.inputs + (m + 1) = omega arith in
      let g : get_or row (2 * c.inputs + m) 0 ≡ get_or (level_part c row) m 0 = sym (get_or-take c.gates (drop (2 * c.inputs) row) m 0 h ∙ get_or-drop (2 * c.inputs) row m 0) in
      let t = low_to m (omega arith) in
      subst (λ (k : ℕ). LowTo c row (paste (replicate row_size 0) (2 * c.inputs) (level_part c row) k) (2 * c.inputs + k)) e
      (subst (LowTo c row (paste (replicate row_size 0) (2 * c.inputs) (level_part c row) (m + 1))) f
      (subst (λ (v : List ℕ). LowTo c row v (2 * c.inputs + m + 1))
      (ap (set (paste (replicate row_size 0) (2 * c.inputs) (level_part c row) m) (2 * c.inputs + m)) g
      ∙ paste_more (replicate row_size 0) (2 * c.inputs) (level_part c row) m 0 (omega (arith, length-replicate {A = ℕ} row_size 0, w.inputs_in, w.gates_in_holds)) (omega (arith, length_levels c row r)))
      (low_turn c row (paste (replicate row_size 0) (2 * c.inputs) (level_part c row) m) r (2 * c.inputs + m) t (omega arith) (omega arith))))

  -- all of them
  pub low_copied : (part : List ℕ) (n : ℕ) → n ≡ c.gates → part ≡ take n (drop (2 * c.inputs) row)
      → LowTo c row (put_mid (2 * c.inputs) n (replicate row_size 0) part) (net_count c)
  low_copied part n e f =
      let p : part ≡ level_part c row = f ∙ ap (λ (k : ℕ). take k (drop (2 * c.inputs) row)) e in
      subst (λ (v : List ℕ). LowTo c row v (net_count c))
      (sym (put_mid-paste (2 * c.inputs) n (replicate row_size 0) part (level_part c row) c.gates p (sym e) (sym (length_levels c row r))))
      (low_to c.gates (omega arith))

-- the rails of one input put back, if it is one; and what the gates settle to
module _ (c : Counts) (code rest row : List ℕ) (rest-for : RowFor c rest) (row_for_holds : RowFor c row)
    (low : rail_part c row ≡ replicate (2 * c.inputs) 0) (same : level_part c row ≡ level_part c rest) (i g : ℕ) where
  abbrev n : ℕ
  n = 2 * c.inputs

  long : length (rail_part c rest) ≡ n
  long = length_rails c rest rest-for

  low_long : replicate {A = ℕ} n 0 ≡ replicate (length (rail_part c rest)) 0
  low_long = ap (λ (m : ℕ). replicate {A = ℕ} m 0) (sym long)

  pub none_back : c.inputs ≤ i → fallen_in g c code row ≡ fallen_from c code rest i g
  unfolding fallen_from
  none_back h =
      ap₂ (λ (a b : List ℕ). a ++ fallen_levels (only g) (stage_gates c code) b a)
      (low ∙ low_long ∙ sym (null_but_none c.inputs (rail_part c rest) long i h ∙ all_null_holds c.inputs (rail_part c rest) long)) same

  module _ (h : i < c.inputs) where
    abbrev back : List ℕ
    back = set (set row (2 * i) (get_or rest (2 * i) 0)) (2 * i + 1) (get_or rest (2 * i + 1) 0)

    pub back_row : RowFor c back
    back_row =
        row_set c (set row (2 * i) (get_or rest (2 * i) 0)) (row_set c row row_for_holds (2 * i) (get_or rest (2 * i) 0) (omega arith) (rest-for.bit (2 * i) (omega arith)))
        (2 * i + 1) (get_or rest (2 * i + 1) 0) (omega arith) (rest-for.bit (2 * i + 1) (omega arith))

    back_rails : rail_part c back ≡ with_null (λ k. not (eqb k i)) (rail_part c rest)
    back_rails =
        take-set-lt n (set row (2 * i) (get_or rest (2 * i) 0)) (2 * i + 1) (get_or rest (2 * i + 1) 0) (omega arith)
        ∙ ap (λ (l : List ℕ). set l (2 * i + 1) (get_or rest (2 * i + 1) 0)) (take-set-lt n row (2 * i) (get_or rest (2 * i) 0) (omega arith))
        ∙ ap (λ (l : List ℕ). set (set l (2 * i) (get_or rest (2 * i) 0)) (2 * i + 1) (get_or rest (2 * i + 1) 0)) (low ∙ low_long)
        ∙ ap₂ (λ (x y : ℕ). set (set (replicate (length (rail_part c rest)) 0) (2 * i) x) (2 * i + 1) y)
        (sym (get_or-take n rest (2 * i) 0 (omega arith))) (sym (get_or-take n rest (2 * i + 1) 0 (omega arith)))
        ∙ null_but c.inputs (rail_part c rest) long i h

    back_levels : level_part c back ≡ level_part c rest
    back_levels = ap (take c.gates) (drop-set-lt n (set row (2 * i) (get_or rest (2 * i) 0)) (2 * i + 1) (get_or rest (2 * i + 1) 0) (omega arith)
        ∙ drop-set-lt n row (2 * i) (get_or rest (2 * i) 0) (omega arith)) ∙ same

    pub one_back : fallen_in g c code back ≡ fallen_from c code rest i g
    unfolding fallen_from
    one_back = ap₂ (λ (a b : List ℕ). a ++ fallen_levels (only g) (stage_gates c code) b a) back_rails back_levels

-- ---- no gate kept

fallen-none : (gates : List Gate) (rest rails : List ℕ) → fallen_levels (only (length gates)) gates rest rails ≡ fallen_levels (λ g. false) gates rest rails
unfolding fallen_levels
fallen-none gates rest rails =
    ap (λ (step : List ℕ → List ℕ). rounds step (length gates) (length gates))
    (fun_ext (λ v. all_same _ _ (length gates) (λ k l.
    ap (λ (b : Bool). bit (high rest k && (b || stays (rails ++ v) (get_or gates k no_gate)))) (ne_eqb k (length gates) (λ e. omega arith)))))

-- ---- from the rest of a word

module _ (c : Counts) (code row : List ℕ) (r : RowFor c row) (w : ℕ) (is : RestOf c code row w) where
  abbrev rails : List ℕ
  rails = rails_in (stage_in c code) w

  from_word : (i g : ℕ) → fallen_from c code row i g
      ≡ with_null (λ k. not (eqb k i)) rails ++ fallen_levels (only g) (stage_gates c code) (settled_levels (stage_gates c code) rails) (with_null (λ k. not (eqb k i)) rails)
  unfolding fallen_from
  from_word i g = ap₂ (λ (a b : List ℕ). with_null (λ k. not (eqb k i)) a ++ fallen_levels (only g) (stage_gates c code) b (with_null (λ k. not (eqb k i)) a))
      (word_rails_holds c code row w is) (word_levels c code row w is r)

  pub remaining_word : (i : ℕ) → all_null (fallen_from c code row i c.gates) (stage_outputs c code) ≡ fall_incomplete (stage_in c code) w i
  unfolding fall_incomplete fallen
  remaining_word i =
      let left = with_null (λ k. not (eqb k i)) rails in
      ap (λ (l : List ℕ). all_null l (stage_outputs c code)) (from_word i c.gates
      ∙ ap (λ (m : ℕ). left ++ fallen_levels (only m) (stage_gates c code) (settled_levels (stage_gates c code) rails) left) (sym (length_stage_gates c code))
      ∙ ap (λ (l : List ℕ). left ++ l) (fallen-none (stage_gates c code) (settled_levels (stage_gates c code) rails) left))

  module _ (g : ℕ) (h : g < c.gates) where
    level-same : get_or row (2 * c.inputs + g) 0 ≡ get_or (settled (stage_gates c code) rails) (2 * c.inputs + g) 0
    level-same = sym (get_or-take (net_count c) row (2 * c.inputs + g) 0 (omega arith)) ∙ ap (λ (l : List ℕ). get_or l (2 * c.inputs + g) 0) is

    pub still_low : get_or row (2 * c.inputs + g) 0 ≡ 0 → false ≡ fall_unobservable (stage_in c code) w g
    unfolding fall_unobservable
    still_low z = rw (le-ltb 0 (get_or (settled (stage_gates c code) rails) (2 * c.inputs + g) 0) (omega (arith, level-same)), fall_unobservable)

    pub still_high : (get_or row (2 * c.inputs + g) 0 ≡ 0 → ⊥) → (b : Bool) → b ≡ all_null (fallen_from c code row c.inputs g) (stage_outputs c code) → b ≡ fall_unobservable (stage_in c code) w g
    unfolding fall_unobservable fallen
    still_high d b e =
        rw (lt-ltb 0 (get_or (settled (stage_gates c code) rails) (2 * c.inputs + g) 0) (omega (arith, level-same, d)), fall_unobservable)
        (e ∙ ap (λ (l : List ℕ). all_null l (stage_outputs c code)) (from_word c.inputs g
        ∙ ap (λ (l : List ℕ). l ++ fallen_levels (only g) (stage_gates c code) (settled_levels (stage_gates c code) rails) l)
        (null_but_none c.inputs rails (word_length c.inputs w) c.inputs (omega arith))))
