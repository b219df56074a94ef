-- What stands where in the stage that is made: the rails of each signal and what drives them, for any number of gates of the reference.
-- Assumes nothing.
use Prim.Native.Nat.{ℕ, zero, suc, ◌+◌, ◌-◌, ◌*◌, ◌≤◌, ◌<◌}
use native.Mathlib.Omega.{arith}
use native.Mathlib.Decide.{dec_lt}
use mathlib.Core.Path.{◌≡◌, refl, sym, ap, ◌∙◌, subst}
use mathlib.Core.Bool.{Bool, true, false, cond}
use mathlib.Core.List.{List, [], ◌∷◌, ◌++◌}
use lib.ListN.{length, get_or, length-append, get_or-append}
use lib.Seq.{get_or-append-add, get_or-append_seam}
use lib.Dec.{eqb}
use Rattle.gates.specs.Cell.{bit}
use Rattle.netlist.specs.declared.File.TheVariants as file
use Rattle.netlist.specs.Commands.{needed}
use Rattle.netlist.specs.Coded.{Coded}
use Rattle.netlist.specs.Writing.{All}
use Rattle.netlist.specs.Formed.{OperationFormed, FormedFrom}
use Rattle.check_spec.specs.Lists.{xor}
use Rattle.check_spec.specs.Rows.{no_gate}
use Rattle.make_spec.specs.Make.{Built, gate, realize, rails_at, build}
use Rattle.make_spec.specs.Count.{operations}
use Rattle.make_spec.proofs.Gates.{Binary, and, or, xor', nand, nor, code_of, turned, rails_from, rail, rail_at, bit_small, with_rails, cell, realize_two, BothBelow}

-- ---- gates of a reference by their form

-- NOT of an earlier signal, or an operation on two
data Shape (below : ℕ) (c : Coded) : Type 0 where
  inverter : (a : ℕ) → a < below → c ≡ gate 1 (a ∷ []) → Shape below c
  operation : (k : Binary) (a b : ℕ) → a < below → b < below → c ≡ gate (code_of k) (a ∷ b ∷ []) → Shape below c

two_shaped : (below : ℕ) (k : Binary) (vs : List ℕ) → length vs ≡ 2 → All (λ v. v < below) vs → Shape below (gate (code_of k) vs)
two_shaped below k [] e h = absurd (omega arith)
two_shaped below k (a ∷ []) e h = absurd (omega arith)
two_shaped below k (a ∷ b ∷ []) e h = operation k a b h.0 h.1.0 refl
two_shaped below k (a ∷ b ∷ c ∷ vs) e h = absurd (omega arith)

one_shaped : (below : ℕ) (vs : List ℕ) → length vs ≡ 1 → All (λ v. v < below) vs → Shape below (gate 1 vs)
one_shaped below [] e h = absurd (omega arith)
one_shaped below (a ∷ []) e h = inverter a h.0 refl
one_shaped below (a ∷ b ∷ vs) e h = absurd (omega arith)

shaped : (below code : ℕ) (vs : List ℕ) → 1 ≤ code → code ≤ 6 → length vs ≡ needed file.Reference code → All (λ v. v < below) vs → Shape below (gate code vs)
unfolding needed
shaped below zero vs l u e h = absurd (omega arith)
shaped below (suc zero) vs l u e h = one_shaped below vs e h
shaped below (suc (suc zero)) vs l u e h = two_shaped below and vs e h
shaped below (suc (suc (suc zero))) vs l u e h = two_shaped below or vs e h
shaped below (suc (suc (suc (suc zero)))) vs l u e h = two_shaped below xor' vs e h
shaped below (suc (suc (suc (suc (suc zero))))) vs l u e h = two_shaped below nand vs e h
shaped below (suc (suc (suc (suc (suc (suc zero)))))) vs l u e h = two_shaped below nor vs e h
shaped below (suc (suc (suc (suc (suc (suc (suc code))))))) vs l u e h = absurd (omega arith)

shape : (below : ℕ) (c : Coded) → OperationFormed below c → Shape below c
shape below c h = shaped below c.code c.operands h.operation_in_holds.0 h.operation_in_holds.1 h.whole h.operands_in_holds

-- ---- what stands where

abbrev pub swapped : List ℕ → List ℕ
swapped p = get_or p 1 0 ∷ get_or p 0 0 ∷ []

-- with n inputs, signal s is an operation on two earlier signals: its rails are two gates, one after the other, whose pins are rails of these
pub record Two (n : ℕ) (all : Built) (s : ℕ) (c : Coded) : Type 0 where
  pub kind : Binary
  pub p : ℕ
  pub q : ℕ
  pub p_in : p < s
  pub q_in : q < s
  pub is : c ≡ gate (code_of kind) (p ∷ q ∷ [])
  pub first : ℕ
  pub inside : first + 1 < length all.gates
  pub rails_are : rails_at all s ≡ rails_from (turned kind) (2 * n + first)
  pub gates_are : (y : Bool) → get_or all.gates (first + bit y) no_gate ≡ with_rails (rails_at all p) (rails_at all q) (cell kind y)
  pub below_p : BothBelow (2 * n + first) (rails_at all p)
  pub below_q : BothBelow (2 * n + first) (rails_at all q)

-- the rails of signal s are those of a gate of the reference
pub data Placed (n : ℕ) (all : Built) (s : ℕ) (c : Coded) : Type 0 where
  as_not : (a : ℕ) → a < s → c ≡ gate 1 (a ∷ []) → rails_at all s ≡ swapped (rails_at all a) → Placed n all s c
  as_two : Two n all s c → Placed n all s c

-- gate j is one of the two of a signal
pub record Owner (n : ℕ) (all : Built) (s : ℕ) (c : Coded) (j : ℕ) : Type 0 where
  pub two : Two n all s c
  pub which : Bool
  pub index_is : j ≡ two.first + bit which

-- the rails of each signal exist
abbrev Below : ℕ → Built → Type 0
Below n b = (s : ℕ) → s < length b.rails → BothBelow (2 * n + length b.gates) (rails_at b s)

-- what was made of some gates of a reference, after what was made before them
pub record Laid (n : ℕ) (b : Built) (cs : List Coded) (all : Built) : Type 0 where
  pub long : length all.rails ≡ length b.rails + length cs
  pub count : length all.gates ≡ length b.gates + 2 * operations cs
  pub rails : (i : ℕ) → i < length b.rails → rails_at all i ≡ rails_at b i
  pub gates : (j : ℕ) → j < length b.gates → get_or all.gates j no_gate ≡ get_or b.gates j no_gate
  pub below : Below n all
  pub placed : (i : ℕ) → i < length cs → Placed n all (length b.rails + i) (get_or cs i no_gate)
  pub covered : (j : ℕ) → length b.gates ≤ j → j < length all.gates → (i : ℕ) × (i < length cs) × Owner n all (length b.rails + i) (get_or cs i no_gate) j

-- ---- one gate more

-- with some gates and the rails of one signal more
abbrev extended : Built → List Coded → List ℕ → Built
extended b gs p = record { gates = b.gates ++ gs; rails = b.rails ++ (p ∷ []) }

build-not : (n : ℕ) (b : Built) (a : ℕ) (cs : List Coded) → build n b (gate 1 (a ∷ []) ∷ cs) ≡ build n (extended b [] (swapped (rails_at b a))) cs
unfolding build realize
build-not n b a cs = refl

abbrev two_gates : Built → Binary → ℕ → ℕ → List Coded
two_gates b k p q = with_rails (rails_at b p) (rails_at b q) (cell k false) ∷ with_rails (rails_at b p) (rails_at b q) (cell k true) ∷ []

build-two : (n : ℕ) (b : Built) (k : Binary) (p q : ℕ) (cs : List Coded)
    → build n b (gate (code_of k) (p ∷ q ∷ []) ∷ cs) ≡ build n (extended b (two_gates b k p q) (rails_from (turned k) (2 * n + length b.gates))) cs
unfolding build
build-two n b k p q cs = rw (realize_two k (rails_at b p) (rails_at b q) (2 * n + length b.gates))

pub operations_cons : (c : Coded) (cs : List Coded) → operations (c ∷ cs) ≡ operations (c ∷ []) + operations cs
unfolding operations
operations_cons c cs = go (eqb c.code 1)
  where
    go : (b : Bool) → cond b (operations cs) (suc (operations cs)) ≡ cond b 0 1 + operations cs
    go true = omega arith
    go false = omega arith

module _ (n : ℕ) (b : Built) (gs : List Coded) (p : List ℕ) where
  abbrev next : Built
  next = extended b gs p

  rails-long : length next.rails ≡ suc (length b.rails)
  rails-long = length-append b.rails (p ∷ []) ∙ omega arith

  gates_long : length next.gates ≡ length b.gates + length gs
  gates_long = length-append b.gates gs

  next-below : Below n b → BothBelow (2 * n + (length b.gates + length gs)) p → Below n next
  next-below old new s l = go (dec_lt s (length b.rails))
    where
      go : Dec (s < length b.rails) → BothBelow (2 * n + length next.gates) (rails_at next s)
      go (yes h) x = rw (get_or-append b.rails (p ∷ []) (0 ∷ 0 ∷ []) s h) (omega (arith, old s h x, gates_long))
      go (no h) x =
          let e : length b.rails ≡ s = omega (arith, rails-long) in
          subst (λ (i : ℕ). rail (rails_at next i) x < 2 * n + length next.gates) e
          (rw (get_or-append_seam b.rails p [] (0 ∷ 0 ∷ [])) (omega (arith, new x, gates_long)))

  module _ (cs : List Coded) (all : Built) (l : Laid n next cs all) where
    rails-old : (i : ℕ) → i < length b.rails → rails_at all i ≡ rails_at b i
    rails-old i h = l.rails i (omega (arith, rails-long)) ∙ get_or-append b.rails (p ∷ []) (0 ∷ 0 ∷ []) i h

    rails-new : rails_at all (length b.rails) ≡ p
    rails-new = l.rails (length b.rails) (omega (arith, rails-long)) ∙ get_or-append_seam b.rails p [] (0 ∷ 0 ∷ [])

    gate_new : (j : ℕ) → j < length gs → get_or all.gates (length b.gates + j) no_gate ≡ get_or gs j no_gate
    gate_new j h = l.gates (length b.gates + j) (omega (arith, gates_long)) ∙ get_or-append-add b.gates gs j no_gate

    laid_next : (c : Coded) → length gs ≡ 2 * operations (c ∷ []) → Placed n all (length b.rails) c
        → ((i : ℕ) → i < length gs → Owner n all (length b.rails) c (length b.gates + i)) → Laid n b (c ∷ cs) all
    laid_next c two new owner = record {
      long = omega (arith, l.long, rails-long);
      count = omega (arith, l.count, gates_long, operations_cons c cs);
      rails = rails-old;
      gates = λ j h. l.gates j (omega (arith, gates_long)) ∙ get_or-append b.gates gs no_gate j h;
      below = l.below;
      placed = placed;
      covered = λ j h u. covered j h u (dec_lt j (length b.gates + length gs));
    }
      where
        zero_more : length b.rails ≡ length b.rails + 0
        zero_more = omega arith

        one_more : (i : ℕ) → length next.rails + i ≡ length b.rails + suc i
        one_more i = omega (arith, rails-long)

        placed : (i : ℕ) → i < length (c ∷ cs) → Placed n all (length b.rails + i) (get_or (c ∷ cs) i no_gate)
        placed zero h = subst (λ (s : ℕ). Placed n all s c) zero_more new
        placed (suc i) h = subst (λ (s : ℕ). Placed n all s (get_or cs i no_gate)) (one_more i) (l.placed i (omega arith))

        covered : (j : ℕ) → length b.gates ≤ j → j < length all.gates → Dec (j < length b.gates + length gs)
            → (i : ℕ) × (i < length (c ∷ cs)) × Owner n all (length b.rails + i) (get_or (c ∷ cs) i no_gate) j
        covered j h u (yes d) =
            let e : length b.gates + (j - length b.gates) ≡ j = omega arith in
            (0, omega arith, subst (λ (s : ℕ). Owner n all s c j) zero_more (subst (Owner n all (length b.rails) c) e (owner (j - length b.gates) (omega arith))))
        covered j h u (no d) =
            let r = l.covered j (omega (arith, gates_long)) u in
            (suc r.0, omega (arith, r.1), subst (λ (s : ℕ). Owner n all s (get_or cs r.0 no_gate) j) (one_more r.0) r.2)

-- ---- all gates

operations-not : (a : ℕ) → 0 ≡ 2 * operations (gate 1 (a ∷ []) ∷ [])
unfolding operations
operations-not a = refl

operations-two : (k : Binary) (p q : ℕ) → 2 ≡ 2 * operations (gate (code_of k) (p ∷ q ∷ []) ∷ [])
unfolding operations
operations-two and p q = refl
operations-two or p q = refl
operations-two xor' p q = refl
operations-two nand p q = refl
operations-two nor p q = refl

operations-none : operations [] ≡ 0
unfolding operations
operations-none = refl

module _ (n : ℕ) (b : Built) (cs : List Coded) (low : Below n b) where
  abbrev first : ℕ
  first = length b.gates

  -- NOT
  module _ (a : ℕ) (h : a < length b.rails) where
    not-below : BothBelow (2 * n + (first + 0)) (swapped (rails_at b a))
    not-below true = omega (arith, low a h false)
    not-below false = omega (arith, low a h true)

    laid_not : (all : Built) → Laid n (extended b [] (swapped (rails_at b a))) cs all → Laid n b (gate 1 (a ∷ []) ∷ cs) all
    laid_not all l =
        let p = swapped (rails_at b a) in
        laid_next n b [] p cs all l (gate 1 (a ∷ [])) (operations-not a)
        (as_not a h refl (rails-new n b [] p cs all l ∙ ap swapped (sym (rails-old n b [] p cs all l a h)))) (λ i z. absurd (omega arith))

  -- an operation on two
  module _ (k : Binary) (u v : ℕ) (hu : u < length b.rails) (hv : v < length b.rails) where
    abbrev gs : List Coded
    gs = two_gates b k u v

    abbrev pair : List ℕ
    pair = rails_from (turned k) (2 * n + first)

    two_below : BothBelow (2 * n + (first + 2)) pair
    two_below x = omega (arith, rail_at (turned k) x (2 * n + first), bit_small (xor (turned k) x))

    which : (y : Bool) → get_or gs (bit y) no_gate ≡ with_rails (rails_at b u) (rails_at b v) (cell k y)
    which true = refl
    which false = refl

    index : (i : ℕ) → i < 2 → first + i ≡ first + bit (eqb i 1)
    index zero h = refl
    index (suc zero) h = refl
    index (suc (suc i)) h = absurd (omega arith)

    module _ (all : Built) (l : Laid n (extended b gs pair) cs all) where
      two : Two n all (length b.rails) (gate (code_of k) (u ∷ v ∷ []))
      two = record {
        kind = k;
        p = u;
        q = v;
        p_in = hu;
        q_in = hv;
        is = refl;
        first = first;
        inside = omega (arith, l.count, gates_long n b gs pair);
        rails_are = rails-new n b gs pair cs all l;
        gates_are = λ y. gate_new n b gs pair cs all l (bit y) (bit_small y) ∙ which y ∙ sym (rw (rails-old n b gs pair cs all l u hu, rails-old n b gs pair cs all l v hv));
        below_p = rw (rails-old n b gs pair cs all l u hu) (low u hu);
        below_q = rw (rails-old n b gs pair cs all l v hv) (low v hv);
      }

      laid_two : Laid n b (gate (code_of k) (u ∷ v ∷ []) ∷ cs) all
      unfolding two
      laid_two =
          laid_next n b gs pair cs all l (gate (code_of k) (u ∷ v ∷ [])) (operations-two k u v) (as_two two)
          (λ i h. record { two = two; which = eqb i 1; index_is = index i h })

pub laid : (n : ℕ) (b : Built) (cs : List Coded) → FormedFrom (length b.rails) cs → Below n b → Laid n b cs (build n b cs)
unfolding build
laid n b [] f low = record {
  long = omega arith;
  count = omega (arith, operations-none);
  rails = λ i h. refl;
  gates = λ j h. refl;
  below = low;
  placed = λ i h. absurd (omega arith);
  covered = λ j h u. absurd (omega arith);
}
laid n b (c ∷ cs) f low = go (shape (length b.rails) c f.0) (λ gs p. laid n (extended b gs p) cs (rw (rails-long n b gs p) f.1))
  where
    go : Shape (length b.rails) c → ((gs : List Coded) (p : List ℕ) → Below n (extended b gs p) → Laid n (extended b gs p) cs (build n (extended b gs p) cs))
        → Laid n b (c ∷ cs) (build n b (c ∷ cs))
    go (inverter a h e) later =
        subst (λ (c : Coded). Laid n b (c ∷ cs) (build n b (c ∷ cs))) (sym e)
        (rw (build-not n b a cs) (laid_not n b cs low a h _ (later [] (swapped (rails_at b a)) (next-below n b [] _ low (not-below n b cs low a h)))))
    go (operation k u v hu hv e) later =
        subst (λ (c : Coded). Laid n b (c ∷ cs) (build n b (c ∷ cs))) (sym e)
        (rw (build-two n b k u v cs) (laid_two n b cs low k u v hu hv _ (later (gs n b cs low k u v hu hv) _ (next-below n b _ _ low (two_below n b cs low k u v hu hv)))))
