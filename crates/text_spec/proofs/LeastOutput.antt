-- 31 in writing names the least output: what its search finds, and so what a verdict says.
-- Assumes nothing.
use Rattle.std.specs.Prelude.{Option, Some, None}
use Prim.Native.Nat.{ℕ, suc, ◌*◌}
use native.Mathlib.Omega.{arith}
use mathlib.Core.Path.{◌≡◌, refl, sym, ap, ap₂, subst, ◌∙◌}
use mathlib.Core.Bool.{Bool, true, false, cond, not, ◌&&◌, ◌||◌}
use mathlib.Core.List.{List, [], ◌∷◌, ◌++◌, append_assoc, append-nil}
use lib.ListN.{length, get_or, take}
use lib.Dec.{eqb, ltb}
use Rattle.netlist.specs.declared.File.TheVariants as file
use Rattle.netlist.specs.Content.{Pair, Stage, stage_of}
use Rattle.netlist.specs.Reading.{Places, Reading, refused, readable, read_file, stage_limits}
use Rattle.verdict.proofs.Refusals.{refused_number}
use Rattle.verdict.specs.declared.Answer.{Answer}
use Rattle.verdict.specs.Written.{Written, written}
use Rattle.text_spec.specs.FromText.{TextAnswer, refusal, gives, unless, if_room}
use Rattle.text_spec.specs.ToText.{straight, among, named, second_name, text_for, care_list, stage_text, on_reading, to_text}
use Rattle.text_spec.specs.Call.{leaves, text_from}
use Rattle.text_spec.specs.Promises.{named_by, renames, LeastOutput, no_pair}
use Rattle.text_spec.proofs.LeastLines.{Finds, finds_zero, finds_suc, from_first}

-- ---- tests in another order

or-true : (x : Bool) → x || true ≡ true
or-true true = refl
or-true false = refl

or-false : (x : Bool) → x || false ≡ x
or-false true = refl
or-false false = refl

or_assoc : (a b c : Bool) → (a || b) || c ≡ a || (b || c)
or_assoc true b c = refl
or_assoc false b c = refl

one_of_five : (a b c d e : Bool) → (a || d) || (b || (c || e)) ≡ (((a || b) || c) || d) || e
one_of_five true b c d e = refl
one_of_five false true c d e = or-true d
one_of_five false false true d e = or-true d
one_of_five false false false d e = refl

turned : (a b g : Bool) → b || (a || g) ≡ g || (a || b)
turned true true g = sym (or-true g)
turned true false g = sym (or-true g)
turned false true g = sym (or-true g)
turned false false g = sym (or-false g)

-- ---- the search

module _ (n : ℕ) where
  -- the nets that were named are those of the outputs passed that are no input pair
  abbrev Given : List ℕ → List Pair → Type 0
  Given given earlier = (v : ℕ) → among v given ≡ named_by n v earlier

  abbrev has : ℕ → Pair → Bool
  has v p = not (straight n p) && (eqb v p.rail0 || eqb v p.rail1)

  named_more : (v : ℕ) (earlier : List Pair) (p : Pair) → named_by n v (earlier ++ (p ∷ [])) ≡ named_by n v earlier || has v p
  named_more v [] p = or-false (has v p)
  named_more v (q ∷ qs) p = ap (λ (x : Bool). has v q || x) (named_more v qs p) ∙ sym (or_assoc (has v q) (named_by n v qs) (has v p))

  module _ (given : List ℕ) (earlier : List Pair) (p : Pair) (passed : Given given earlier) where
    given-straight : straight n p ≡ true → Given given (earlier ++ (p ∷ []))
    given-straight is v =
        let none : has v p ≡ false = ap (λ (x : Bool). not x && (eqb v p.rail0 || eqb v p.rail1)) is in
        sym (named_more v earlier p ∙ ap (λ (x : Bool). named_by n v earlier || x) none ∙ or-false (named_by n v earlier) ∙ sym (passed v))

    given-new : straight n p ≡ false → Given (p.rail1 ∷ p.rail0 ∷ given) (earlier ++ (p ∷ []))
    given-new is v =
        let own : has v p ≡ eqb v p.rail0 || eqb v p.rail1 = ap (λ (x : Bool). not x && (eqb v p.rail0 || eqb v p.rail1)) is in
        turned (eqb v p.rail0) (eqb v p.rail1) (among v given)
        ∙ ap₂ (λ (x y : Bool). x || y) (passed v) (sym own)
        ∙ sym (named_more v earlier p)

    -- what the search tests is what is promised of the output
    tested : straight n p ≡ false → renames n earlier p ≡ (named n given p.rail0 || named n (p.rail0 ∷ given) p.rail1)
    tested is =
        let a = ltb p.rail0 (2 * n) in
        let b = ltb p.rail1 (2 * n) in
        let c = eqb p.rail1 p.rail0 in
        ap (λ (x : Bool). not x && (a || b || c || named_by n p.rail0 earlier || named_by n p.rail1 earlier)) is
        ∙ ap₂ (λ (x y : Bool). a || b || c || x || y) (sym (passed p.rail0)) (sym (passed p.rail1))
        ∙ sym (one_of_five a b c (among p.rail0 given) (among p.rail1 given))

  abbrev renames_among : List Pair → List Pair → ℕ → Bool
  renames_among earlier qs j = renames n (earlier ++ take j qs) (get_or qs j no_pair)

  second-finds : (given : List ℕ) (earlier : List Pair) (j k : ℕ) (qs : List Pair) → Given given earlier → second_name n given j qs ≡ Some k →
      Finds (renames_among earlier qs) (length qs) j k
  unfolding second_name
  second-finds given earlier j k [] passed e = let z : ◌≡◌ {A = ℕ} 0 1 = cc in absurd (omega arith)
  second-finds given earlier j k (p ∷ qs) passed e =
      go (straight n p) refl (named n given p.rail0 || named n (p.rail0 ∷ given) p.rail1) refl
      (second-finds given (earlier ++ (p ∷ [])) (suc j) k qs)
      (second-finds (p.rail1 ∷ p.rail0 ∷ given) (earlier ++ (p ∷ [])) (suc j) k qs) e
    where
      start : renames_among earlier (p ∷ qs) 0 ≡ renames n earlier p
      start = ap (λ (b : List Pair). renames n b p) (append-nil earlier)

      alike : (i : ℕ) → renames_among (earlier ++ (p ∷ [])) qs i ≡ renames_among earlier (p ∷ qs) (suc i)
      alike i = ap (λ (b : List Pair). renames n b (get_or qs i no_pair)) (append_assoc earlier (p ∷ []) (take i qs))

      go : (t : Bool) → straight n p ≡ t → (u : Bool) → (named n given p.rail0 || named n (p.rail0 ∷ given) p.rail1) ≡ u →
          (Given given (earlier ++ (p ∷ [])) → second_name n given (suc j) qs ≡ Some k →
          Finds (renames_among (earlier ++ (p ∷ [])) qs) (length qs) (suc j) k) →
          (Given (p.rail1 ∷ p.rail0 ∷ given) (earlier ++ (p ∷ [])) → second_name n (p.rail1 ∷ p.rail0 ∷ given) (suc j) qs ≡ Some k →
          Finds (renames_among (earlier ++ (p ∷ [])) qs) (length qs) (suc j) k) →
          cond t (second_name n given (suc j) qs) (cond u (Some j) (second_name n (p.rail1 ∷ p.rail0 ∷ given) (suc j) qs)) ≡ Some k →
          Finds (renames_among earlier (p ∷ qs)) (suc (length qs)) j k
      go true is u test same later e =
          let passes : renames n earlier p ≡ false = rw is refl in
          finds_suc _ (renames_among (earlier ++ (p ∷ [])) qs) (length qs) j k (start ∙ passes) alike (same (given-straight given earlier p passed is) e)
      go false is true test same later e = finds_zero _ (length qs) j k e (start ∙ tested given earlier p passed is ∙ test)
      go false is false test same later e =
          finds_suc _ (renames_among (earlier ++ (p ∷ [])) qs) (length qs) j k (start ∙ tested given earlier p passed is ∙ test) alike
          (later (given-new given earlier p passed is) e)

-- ---- the answer

module _ (stage : List ℕ) where
  Says : TextAnswer → Type 0
  Says (refusal number f at) = number ≡ 31 → LeastOutput stage at
  Says (gives s) = Unit {0}

  room_says : (room : ℕ) (s : List ℕ) → Says (if_room room s)
  unfolding if_room Says
  room_says room s = go (ltb room (length s))
    where
      go : (b : Bool) → Says (cond b (refusal 24 3 0) (gives s))
      go true = λ z. absurd (omega (arith, z))
      go false = tt

  module _ (p : Places) (reads : read_file file.Stage stage_limits stage ≡ readable p) where
    abbrev c : Stage
    c = stage_of stage p

    second-says : (f : Option ℕ) → second_name c.inputs [] 0 c.outputs ≡ f → (later : TextAnswer) → Says later → Says (unless 31 f later)
    unfolding unless Says
    second-says (Some i) e later h = λ z. record {
      places = p;
      reads = reads;
      least = from_first _ (length c.outputs) i (second-finds c.inputs [] [] 0 i c.outputs (λ v. refl) e);
    }
    second-says None e later h = h

    care_says : (f : Option ℕ) (later : TextAnswer) → Says later → Says (unless 29 f later)
    unfolding unless Says
    care_says (Some i) later h = λ z. absurd (omega (arith, z))
    care_says None later h = h

    stage_says : (room : ℕ) → Says (stage_text room c)
    unfolding stage_text
    stage_says room =
        care_says (care_list c.care) _ (second-says (second_name c.inputs [] 0 c.outputs) refl _ (room_says room (text_for c)))

  says : (room : ℕ) → Says (to_text stage_limits room stage)
  unfolding to_text on_reading Says
  says room = go (read_file file.Stage stage_limits stage) refl
    where
      go : (r : Reading) → read_file file.Stage stage_limits stage ≡ r → Says (on_reading room stage r)
      go (refused number at) e = λ z. absurd (omega (arith, refused_number file.Stage stage_limits stage number at e, z))
      go (readable p) e = stage_says p e room

-- whatever the file holds
pub least_output : (stage buffer : List ℕ) (r : Answer) (after : List ℕ) → written r after ≡ text_from stage buffer → r.verdict.number ≡ 31 →
    LeastOutput stage r.verdict.at
unfolding leaves Says
least_output stage buffer r after e z = go (to_text stage_limits (length buffer) stage) refl e
  where
    go : (a : TextAnswer) → to_text stage_limits (length buffer) stage ≡ a → written r after ≡ leaves a buffer → LeastOutput stage r.verdict.at
    go (refusal number f at) is w =
        subst (LeastOutput stage) (sym (ap (λ (x : Written). x.verdict.at) w))
        (subst (Says stage) is (says stage (length buffer)) (sym (ap (λ (x : Written). x.verdict.number) w) ∙ z))
    go (gives s) is w = absurd (omega (arith, ap (λ (x : Written). x.verdict.number) w, z))
