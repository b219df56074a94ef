-- A `for` over the pieces of a text, or over its lines: this turn's piece, and the end.
-- Assumes nothing.
use Prim.Native.Nat.{ℕ, ◌+◌, ◌<◌}
use native.Mathlib.Omega.{arith}
use mathlib.Core.Path.{◌≡◌, refl, sym, ap, ◌∙◌}
use mathlib.Core.Bool.{Bool, false}
use mathlib.Core.List.{List, ◌∷◌}
use lib.ListN.{length, get_or, take, drop}
use lib.Dec.{eqb}
use denote.Param.Members.{Mut}
use denote.Ref.{Bor}
use Rattle.std.specs.declared.option.Option.{Option}
use Rattle.std.specs.declared.option.Option.TheVariants.{None, Some}
use Rattle.std.specs.declared.slice.Split.{Split}
use Rattle.std.specs.declared.iter.Enumerate.{Enumerate}
use Rattle.std.specs.declared.iter.Take.{Take}
use Rattle.std.specs.Fn.{CalledAt}
use Rattle.std.specs.Iterator.{Yields, YieldsFirstRef}
use Rattle.std.specs.Iterator.Adapters.{enumerate_source, enumerate_count, enumerate_steps, take_source, take_count, take_steps}
use Rattle.std.specs.List.{enumerate_from}
use Rattle.std.specs.Slice.Iter.{split_rest, split_done, split_callee, split_steps}
use Rattle.std.proofs.lemmas.Iterator.{YieldsList, YieldsList-from_take}
use Rattle.std.proofs.lemmas.Iterator.Consumers.{YieldsList-at, YieldsList-from_enumerate, YieldsList-from_first, YieldsList-turn, YieldsList-end}
use Rattle.std.proofs.lemmas.Iterator.Splits.{YieldsList-from_slice_split}
use Rattle.std.proofs.lemmas.List.{drop_more}
use Rattle.std.proofs.lemmas.List.FromFn.{length-enumerate_from, get_or-enumerate_from}
use Rattle.text_spec.specs.Lines.{split}
use Rattle.text_scan.specs.Pieces.{lines_in}
use Rattle.text_scan.specs.declared.Lines.{Lines}
use Rattle.text_scan.proofs.Pieces.{split_list}

-- piece k of some is p, and it is the next
pub record Next (ps : List (List ℕ)) (k : ℕ) (p : List ℕ) : Type 0 where
  pub inside : k < length ps
  pub here : drop k ps ≡ p ∷ drop (k + 1) ps

next : (ps : List (List ℕ)) (k : ℕ) (p : List ℕ) → (k < length ps) × (p ≡ get_or ps k p) → Next ps k p
next ps k p h = record { inside = h.0; here = drop_more ps k p h.0 ∙ ap {B = List (List ℕ)} (λ q. q ∷ drop (k + 1) ps) (sym h.1) }

numbered : (ps : List (List ℕ)) (k : ℕ) (x : ℕ × List ℕ) → (k < length (enumerate_from 0 ps)) × (x ≡ get_or (enumerate_from 0 ps) k x) → (x.0 ≡ k) × Next ps k x.1
numbered ps k x h =
    let l : k < length ps = omega (arith, h.0, length-enumerate_from 0 ps) in
    let e = h.1 ∙ get_or-enumerate_from 0 ps k x l in
    let n = ap (λ (y : ℕ × List ℕ). y.0) e in
    (omega (arith, n), next ps k x.1 (l, ap (λ (y : ℕ × List ℕ). y.1) e))

-- ---- pieces: `for p in l.split(..)`, at a closure that tests for c. Before the loop its iterator is i, made of j.

module _ {F : Type 0} {g : Mut F (Bor ℕ × Unit {0}) Bool} (c : ℕ) (l : List ℕ) {j : Split ℕ F} {f : F} where
  road : split_rest j ≡ l → split_done j ≡ false → split_callee j ≡ f → ((x : ℕ) (b : Bool) (q : F) → CalledAt g f x b q → (q ≡ f) × (b ≡ eqb x c)) →
      YieldsList (split_steps g) (λ x. x.now) j (split c l)
  road rest more callee test = rw (← split_list c l) (YieldsList-from_slice_split g (λ b. eqb b c) l rest more callee test)

  module _ (xs : List (Bor (List ℕ))) {i : Split ℕ F} (t u : Split ℕ F) {r : Option (Bor (List ℕ))} (y : Yields (split_steps g) i xs t) where
    pub piece_next : {p : Bor (List ℕ)} → r ≡ Some p → split_steps g t r u → i ≡ j → split_rest j ≡ l → split_done j ≡ false → split_callee j ≡ f →
        ((x : ℕ) (b : Bool) (q : F) → CalledAt g f x b q → (q ≡ f) × (b ≡ eqb x c)) → Next (split c l) (length xs) p.now
    piece_next {p} is step e rest more callee test =
        next (split c l) (length xs) p.now (YieldsList-turn (YieldsList-at e (road rest more callee test)) xs t y r u p is step)

    pub piece_end : r ≡ None → split_steps g t r u → i ≡ j → split_rest j ≡ l → split_done j ≡ false → split_callee j ≡ f →
        ((x : ℕ) (b : Bool) (q : F) → CalledAt g f x b q → (q ≡ f) × (b ≡ eqb x c)) → length xs ≡ length (split c l)
    piece_end is step e rest more callee test = (YieldsList-end (YieldsList-at e (road rest more callee test)) xs t y r u is step).1

  -- the same under `enumerate`
  module _ (xs : List (ℕ × Bor (List ℕ))) {h i : Enumerate (Split ℕ F)} (t u : Enumerate (Split ℕ F)) {r : Option (ℕ × Bor (List ℕ))} (y : Yields (enumerate_steps (split_steps g)) i xs t) where
    pub numbered_next : {p : ℕ × Bor (List ℕ)} → r ≡ Some p → enumerate_steps (split_steps g) t r u → i ≡ h → enumerate_source h ≡ j → enumerate_count h ≡ 0 →
        split_rest j ≡ l → split_done j ≡ false → split_callee j ≡ f →
        ((x : ℕ) (b : Bool) (q : F) → CalledAt g f x b q → (q ≡ f) × (b ≡ eqb x c)) → (p.0 ≡ length xs) × Next (split c l) (length xs) p.1.now
    numbered_next {p} is step e source zero rest more callee test =
        numbered (split c l) (length xs) (p.0, p.1.now)
        (YieldsList-turn (YieldsList-at e (YieldsList-from_enumerate (YieldsList-at source (road rest more callee test)) zero)) xs t y r u p is step)

    pub numbered_end : r ≡ None → enumerate_steps (split_steps g) t r u → i ≡ h → enumerate_source h ≡ j → enumerate_count h ≡ 0 →
        split_rest j ≡ l → split_done j ≡ false → split_callee j ≡ f →
        ((x : ℕ) (b : Bool) (q : F) → CalledAt g f x b q → (q ≡ f) × (b ≡ eqb x c)) → length xs ≡ length (split c l)
    numbered_end is step e source zero rest more callee test =
        (YieldsList-end (YieldsList-at e (YieldsList-from_enumerate (YieldsList-at source (road rest more callee test)) zero)) xs t y r u is step).1
        ∙ length-enumerate_from 0 (split c l)

  -- the same under `take(n)`
  module _ (n : ℕ) (xs : List (Bor (List ℕ))) {h i : Take (Split ℕ F)} (t u : Take (Split ℕ F)) {r : Option (Bor (List ℕ))} (y : Yields (take_steps (split_steps g)) i xs t) where
    pub taken_next : {p : Bor (List ℕ)} → r ≡ Some p → take_steps (split_steps g) t r u → i ≡ h → take_source h ≡ j → take_count h ≡ n →
        split_rest j ≡ l → split_done j ≡ false → split_callee j ≡ f →
        ((x : ℕ) (b : Bool) (q : F) → CalledAt g f x b q → (q ≡ f) × (b ≡ eqb x c)) → Next (take n (split c l)) (length xs) p.now
    taken_next {p} is step e source count rest more callee test =
        next (take n (split c l)) (length xs) p.now
        (YieldsList-turn (YieldsList-at e (YieldsList-from_take n (YieldsList-at source (road rest more callee test)) count)) xs t y r u p is step)

    pub taken_end : r ≡ None → take_steps (split_steps g) t r u → i ≡ h → take_source h ≡ j → take_count h ≡ n →
        split_rest j ≡ l → split_done j ≡ false → split_callee j ≡ f →
        ((x : ℕ) (b : Bool) (q : F) → CalledAt g f x b q → (q ≡ f) × (b ≡ eqb x c)) → length xs ≡ length (take n (split c l))
    taken_end is step e source count rest more callee test =
        (YieldsList-end (YieldsList-at e (YieldsList-from_take n (YieldsList-at source (road rest more callee test)) count)) xs t y r u is step).1

-- ---- lines: `for p in Lines(..)`, over the text l

abbrev steps : Lines → Option (Bor (List ℕ)) → Lines → Type 0
steps = YieldsFirstRef (λ t. lines_in t.0.now)

module _ (l : List ℕ) where
  module _ (xs : List (Bor (List ℕ))) (i t u : Lines) {r : Option (Bor (List ℕ))} (y : Yields steps i xs t) where
    pub line_next : {p : Bor (List ℕ)} → r ≡ Some p → steps t r u → i.0.now ≡ l → Next (lines_in l) (length xs) p.now
    line_next {p} is step e =
        next (lines_in l) (length xs) p.now
        (YieldsList-turn (YieldsList-from_first (λ x. x.now) (λ (t : Lines). lines_in t.0.now) (lines_in l) (ap lines_in e)) xs t y r u p is step)

    pub line_end : r ≡ None → steps t r u → i.0.now ≡ l → length xs ≡ length (lines_in l)
    line_end is step e =
        (YieldsList-end (YieldsList-from_first (λ x. x.now) (λ (t : Lines). lines_in t.0.now) (lines_in l) (ap lines_in e)) xs t y r u is step).1

  module _ (xs : List (ℕ × Bor (List ℕ))) {h i : Enumerate Lines} (t u : Enumerate Lines) {r : Option (ℕ × Bor (List ℕ))} (y : Yields (enumerate_steps steps) i xs t) where
    pub numbered_line_next : {p : ℕ × Bor (List ℕ)} → r ≡ Some p → enumerate_steps steps t r u → i ≡ h → (enumerate_source h).0.now ≡ l → enumerate_count h ≡ 0 →
        (p.0 ≡ length xs) × Next (lines_in l) (length xs) p.1.now
    numbered_line_next {p} is step e source zero =
        numbered (lines_in l) (length xs) (p.0, p.1.now)
        (YieldsList-turn (YieldsList-at e (YieldsList-from_enumerate (YieldsList-from_first (λ x. x.now) (λ (t : Lines). lines_in t.0.now) (lines_in l) (ap lines_in source)) zero))
        xs t y r u p is step)

    pub numbered_line_end : r ≡ None → enumerate_steps steps t r u → i ≡ h → (enumerate_source h).0.now ≡ l → enumerate_count h ≡ 0 → length xs ≡ length (lines_in l)
    numbered_line_end is step e source zero =
        (YieldsList-end (YieldsList-at e (YieldsList-from_enumerate (YieldsList-from_first (λ x. x.now) (λ (t : Lines). lines_in t.0.now) (lines_in l) (ap lines_in source)) zero))
        xs t y r u is step).1
        ∙ length-enumerate_from 0 (lines_in l)

pub lines_road : (i : Lines) → YieldsList steps (λ x. x.now) i (lines_in i.0.now)
lines_road i = YieldsList-from_first (λ x. x.now) (λ (t : Lines). lines_in t.0.now) (lines_in i.0.now) refl
