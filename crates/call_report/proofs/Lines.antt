-- The lines of a report, written one after the other, and what they come to.
-- Assumes nothing.
use Prim.Native.Nat.{ℕ, zero, suc, ◌+◌, ◌-◌, ◌^◌, ◌≤◌, ◌<◌}
use native.Mathlib.Omega.{arith}
use native.Mathlib.Decide.{ℕ_discrete, dec_lt}
use lib.Pow.{pow_mono}
use mathlib.Core.Path.{◌≡◌, refl, sym, ap, ap₂, ◌∙◌}
use mathlib.Core.List.{List, [], ◌∷◌, ◌++◌, map}
use lib.ListN.{length, get_or, drop, set, replicate, length-set, length-map, length-append, length-replicate, get_or-append}
use lib.Seq.{get_or-set_same, get_or-set_other, get_or-append-add, ext_get_or, take_all}
use Rattle.netlist.specs.Reading.{Ascending, stage_limits}
use Rattle.netlist.specs.Content.{Stage}
use Rattle.netlist.proofs.Readable.{rising_length}
use Rattle.verdict.specs.Levels.{sum}
use Rattle.verdict.specs.declared.WordOrder.{WordOrder}
use Rattle.verdict.specs.Words.{spelled, names}
use Rattle.verdict.proofs.Names.{spelled_below, names_rise}
use Rattle.words.specs.Listed.{Listed}
use Rattle.report_spec.specs.High.{gates_high, HighIn}
use Rattle.call_report.proofs.ReportLines.{map_at}
use Rattle.call_report.specs.Report.{lines, most_lines, padded}
use Rattle.call_report.specs.Lines.{lines_by, ListedTo, LinesTo}
use Rattle.lane_count.proofs.Summing.{sum_more}

zero_at : (m k : ℕ) → get_or {A = ℕ} (replicate m 0) k 0 ≡ 0
zero_at zero k = refl
zero_at (suc m) zero = refl
zero_at (suc m) (suc k) = zero_at m k

drop-zeros : (k m : ℕ) → drop {A = ℕ} k (replicate m 0) ≡ replicate (m - k) 0
drop-zeros zero m = let e : m - 0 ≡ m = omega arith in rw e refl
drop-zeros (suc k) zero = let e : 0 - suc k ≡ 0 = omega arith in rw e refl
drop-zeros (suc k) (suc m) = let e : suc m - suc k ≡ m - k = omega arith in rw e (drop-zeros k m)

-- ---- a list that is written from its start

module _ (l : List ℕ) where
  listed_start : ListedTo l 0 (replicate most_lines 0)
  listed_start = record { long = length-replicate {A = ℕ} most_lines 0; member = λ k h. absurd (omega arith); later = λ k h. zero_at most_lines k }

  module _ (few : length l ≤ most_lines) (m : ℕ) (written : List ℕ) (to : ListedTo l m written) where
    listed_more : m < length l → (x : ℕ) → x ≡ get_or l m 0 → ListedTo l (m + 1) (set written m x)
    listed_more below x e = record {
      long = length-set written m x ∙ to.long;
      member = λ k h. at k h (ℕ_discrete k m);
      later = λ k h. get_or-set_other written m k x 0 (λ q. omega arith) ∙ to.later k (omega arith);
    }
      where
        at : (k : ℕ) → k < m + 1 → Dec (k ≡ m) → get_or (set written m x) k 0 ≡ get_or l k 0
        at k h (yes q) = ap (λ (i : ℕ). get_or (set written m x) i 0) q ∙ get_or-set_same written m x 0 (omega (arith, to.long, below, few)) ∙ e
            ∙ ap (λ (i : ℕ). get_or l i 0) (sym q)
        at k h (no d) = get_or-set_other written m k x 0 d ∙ to.member k (omega arith)

    listed_done : m ≡ length l → written ≡ padded l
    listed_done e =
        ext_get_or 0 written (l ++ rest) (omega (arith, to.long, length-append l rest, length-replicate {A = ℕ} (most_lines - length l) 0)) (λ k h. at k (dec_lt k m))
      where
        rest : List ℕ
        rest = replicate (most_lines - length l) 0

        at : (k : ℕ) → Dec (k < m) → get_or written k 0 ≡ get_or (l ++ rest) k 0
        at k (yes h) = to.member k h ∙ sym (get_or-append l rest 0 k (omega arith))
        at k (no h) =
            let q : k ≡ length l + (k - length l) = omega arith in
            to.later k (omega arith)
            ∙ sym (ap (λ (i : ℕ). get_or (l ++ rest) i 0) q ∙ get_or-append-add l rest (k - length l) 0 ∙ zero_at (most_lines - length l) (k - length l))

  -- ---- its sum besides

  pub lines_start : LinesTo l 0 (replicate most_lines 0) 0
  lines_start = record { lines_to = listed_start; sum_is = refl; small = omega arith }

  module _ (few : length l ≤ most_lines) (m : ℕ) (written : List ℕ) (so_far : ℕ) (to : LinesTo l m written so_far) where
    pub lines_more : m < length l → (x : ℕ) → x ≡ get_or l m 0 → x < 0x10000 → LinesTo l (m + 1) (set written m x) (so_far + x)
    lines_more h x at f = record {
      lines_to = listed_more few m written to.lines_to h x at;
      sum_is = omega (arith, to.sum_is, sum_more l m h, at);
      small = omega (arith, to.small);
    }

    pub lines_done : m ≡ length l → (so_far ≡ sum l) × (written ≡ padded l)
    lines_done e = (to.sum_is ∙ ap sum (take_all m l (omega arith)), listed_done few m written to.lines_to e)

-- ---- lines by names

rising_at : (below floor : ℕ) (l : List ℕ) → Ascending below floor l → (k : ℕ) → k < length l → get_or l k 0 < below
rising_at below floor [] r k h = absurd (omega arith)
rising_at below floor (x ∷ l) r zero h = r.1
rising_at below floor (x ∷ l) r (suc k) h = rising_at below (x + 1) l r.2 k (omega arith)

-- a listed name spells a word that the inputs have
pub named_below : (order : WordOrder) (n : ℕ) (list : List ℕ) → Ascending (2 ^ n) 0 list → (k : ℕ) → k < length list → spelled order n (get_or list k 0) < 2 ^ n
named_below order n list r k h = spelled_below order n (get_or list k 0) (rising_at (2 ^ n) 0 list r k h)

pub named_long : (order : WordOrder) (n : ℕ) (high list : List ℕ) → length (lines_by order n high list) ≡ length list
named_long order n high list = length-map list (λ name. get_or high (spelled order n name) 0)

pub named_at : (order : WordOrder) (n : ℕ) (high list : List ℕ) (k : ℕ) → k < length list → get_or (lines_by order n high list) k 0 ≡ get_or high (spelled order n (get_or list k 0)) 0
named_at order n high list k h = map_at (λ name. get_or high (spelled order n name) 0) list k h

-- ---- the names and lines of a stage

module _ (order : WordOrder) (s : Stage) where
  -- they are those of the names, where it is known how many gates are high in each word
  lines-named : (high : List ℕ) → HighIn s high → lines_by order s.inputs high (names order s) ≡ lines order s
  lines-named high is = go 0 (names order s) (names_rise order s)
    where
      go : (floor : ℕ) (l : List ℕ) → Ascending (2 ^ s.inputs) floor l → lines_by order s.inputs high l ≡ map (gates_high s) (map (spelled order s.inputs) l)
      go floor [] r = refl
      go floor (x ∷ l) r = ap₂ ◌∷◌ (is.at (spelled order s.inputs x) (spelled_below order s.inputs x r.1)) (go (x + 1) l r.2)

  -- so for a list that is those names
  pub lines_by_holds : (list high : List ℕ) → list ≡ names order s → HighIn s high → lines_by order s.inputs high list ≡ lines order s
  lines_by_holds list high e is = ap (lines_by order s.inputs high) e ∙ lines-named high is

  -- there is room for a line of each
  pub names_few : s.inputs ≤ stage_limits.inputs → length (names order s) ≤ most_lines
  names_few h = omega (arith, rising_length (2 ^ s.inputs) 0 (names order s) (names_rise order s), pow_mono {i = s.inputs} {j = stage_limits.inputs} h)

-- numbers that are listed at the start of a slice of zeros
pub listed_padded : (numbers : List ℕ) (count : ℕ) (after : List ℕ) → Listed numbers (replicate most_lines 0) count after → after ≡ padded numbers
listed_padded numbers count after l =
    l.list_is ∙ ap (λ (z : List ℕ). numbers ++ z) (drop-zeros count most_lines ∙ ap (λ (k : ℕ). replicate (most_lines - k) 0) l.count-is)
