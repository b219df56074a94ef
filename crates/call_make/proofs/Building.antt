-- Gate by gate: what is put and which rails are stored, up to gate k.
-- Assumes nothing.
use Prim.Native.Nat.{ℕ, zero, suc, ◌+◌, ◌*◌, ◌≤◌, ◌<◌}
use native.Mathlib.Omega.{arith}
use native.Mathlib.Numerals.{add-one}
use native.Mathlib.Decide.{ℕ_discrete}
use mathlib.Core.Path.{◌≡◌, refl, sym, ap, ap₂, ◌∙◌}
use mathlib.Core.Bool.{cond}
use mathlib.Core.List.{List, [], ◌∷◌, ◌++◌, map}
use lib.ListN.{length, get_or, set, drop, take, length-set, length-append}
use lib.Seq.{get_or-set_same, get_or-set_other}
use lib.Dec.{eqb}
use borrow.Author.Tests.{ne_eqb}
use Rattle.netlist.specs.declared.File.TheVariants as file
use Rattle.netlist.specs.declared.Counts.{Counts}
use Rattle.netlist.specs.Reading.{reference_limits}
use Rattle.netlist.specs.Content.{Coded}
use Rattle.netlist.specs.Formed.{ReferenceFormed}
use Rattle.netlist.specs.Writing.{gate}
use Rattle.check_spec.specs.Lists.{numbers}
use Rattle.make_spec.specs.Make.{Built, realize, rails_at, build, built}
use Rattle.make_spec.specs.Count.{operations}
use Rattle.make_spec.proofs.Building.{operations_cons}
use Rattle.make_spec.proofs.Making.{needed_counted}
use Rattle.write_command.specs.Put.{Put}
use Rattle.write_command.specs.Parts.{bytes_of}
use Rattle.write_command.proofs.Joining.{put_none, put-++}
use Rattle.write_command.proofs.Files.{bytes-++, bytes_length, stage_gate_width}
use Rattle.write_command.proofs.Putting.{put_same}
use Rattle.circuit.specs.Stage.{tabulate}
use Rattle.circuit.specs.Reference.{operation_in, operand_in, operator_in, operators_in, reference_in, ReferenceLoaded}
use Rattle.circuit.proofs.Tabulate.{get_d_tabulate, from_at, none_from, one_more, all_same}
use Rattle.circuit.specs.declared.form.Rails.{Rails}
use Rattle.write_made.specs.Rails.{content_in, pair_of, pair_stored, pairs_in, becomes}
use Rattle.write_made.proofs.Operations.{not_gates, other_gates, one_operation}

-- ---- rails

abbrev input_pair : ℕ → List ℕ
input_pair i = 2 * i ∷ (2 * i + 1) ∷ []

inputs_from : (j m : ℕ) → tabulate (λ i. input_pair (j + i)) m ≡ map input_pair (numbers j m)
unfolding tabulate numbers
inputs_from j zero = refl
inputs_from j (suc m) =
    let z : j + 0 ≡ j = omega arith in
    ap₂ ◌∷◌ (ap input_pair z)
    (all_same (λ i. input_pair (j + suc i)) (λ i. input_pair (suc j + i)) m (λ i l. let e : j + suc i ≡ suc j + i = omega arith in ap input_pair e) ∙ inputs_from (suc j) m)

-- the rails of the inputs
pub inputs_are : (rails : List ℕ) (m : ℕ) → ((i : ℕ) → i < 2 * m → get_or rails i 0 ≡ i) → pairs_in rails m ≡ map input_pair (numbers 0 m)
unfolding pairs_in
inputs_are rails m h =
    all_same (pair_stored rails) (λ i. input_pair (0 + i)) m
    (λ i l. let z : i ≡ 0 + i = omega arith in ap₂ (λ (a b : ℕ). a ∷ b ∷ []) (h (2 * i) (omega arith)) (h (2 * i + 1) (omega arith)) ∙ ap input_pair z)
    ∙ inputs_from 0 m

-- number i stored at place i
pub stored_more : (rails₀ rails : List ℕ) (i : ℕ) → i < length rails → (length rails ≡ length rails₀) × ((j : ℕ) → j < i → get_or rails j 0 ≡ j)
    → (length (set rails i i) ≡ length rails₀) × ((j : ℕ) → j < i + 1 → get_or (set rails i i) j 0 ≡ j)
stored_more rails₀ rails i l t = (length-set rails i i ∙ t.0, λ j h. go j h (ℕ_discrete j i))
  where
    go : (j : ℕ) → j < i + 1 → Dec (j ≡ i) → get_or (set rails i i) j 0 ≡ j
    go j h (yes e) = rw e (get_or-set_same rails i i 0 l)
    go j h (no d) = get_or-set_other rails i j i 0 d ∙ t.1 j (omega arith)

-- those of one signal more
rails-more : (rails : List ℕ) (m p q : ℕ) → 2 * m + 1 < length rails → pairs_in (set (set rails (2 * m) p) (2 * m + 1) q) (m + 1) ≡ pairs_in rails m ++ ((p ∷ q ∷ []) ∷ [])
unfolding pairs_in
rails-more rails m p q l =
    ap (tabulate (pair_stored after)) (add-one m)
    ∙ one_more (pair_stored after) m
    ∙ ap₂ (λ (l : List (List ℕ)) (q : List ℕ). l ++ (q ∷ []))
    (all_same (pair_stored after) (pair_stored rails) m (λ i h. ap₂ (λ (a b : ℕ). a ∷ b ∷ []) (other (2 * i) (omega arith)) (other (2 * i + 1) (omega arith))))
    (ap₂ (λ (a b : ℕ). a ∷ b ∷ []) first second)
  where
    between : List ℕ
    between = set rails (2 * m) p

    after : List ℕ
    after = set between (2 * m + 1) q

    other : (i : ℕ) → i < 2 * m → get_or after i 0 ≡ get_or rails i 0
    other i h = get_or-set_other between (2 * m + 1) i q 0 (λ e. omega arith) ∙ get_or-set_other rails (2 * m) i p 0 (λ e. omega arith)

    first : get_or after (2 * m) 0 ≡ p
    first = get_or-set_other between (2 * m + 1) (2 * m) q 0 (λ e. omega arith) ∙ get_or-set_same rails (2 * m) p 0 (omega arith)

    second : get_or after (2 * m + 1) 0 ≡ q
    second = get_or-set_same between (2 * m + 1) q 0 (omega (arith, length-set rails (2 * m) p))

-- the rails of a signal among those that are stored
pub signal_pair : (rails : List ℕ) (m x : ℕ) (b : Built) → pairs_in rails m ≡ b.rails → x < m → rails_at b x ≡ pair_stored rails x
unfolding pairs_in
signal_pair rails m x b e l = ap (λ (l : List (List ℕ)). get_or l x (0 ∷ 0 ∷ [])) (sym e) ∙ get_d_tabulate (pair_stored rails) m x (0 ∷ 0 ∷ []) l

-- ---- gates

module _ (c : Counts) (code : List ℕ) where
  abbrev whole : Built
  whole = built (content_in c code)

  -- the gates before gate k are made: those after them make of these the whole
  pub record MadeTo (buffer₀ rails₀ buffer rails : List ℕ) (made k : ℕ) : Type 0 where
    pub so_far : Built
    pub within : k ≤ c.gates
    pub left : build c.inputs so_far (drop k (operators_in c code)) ≡ whole
    pub rails_are : pairs_in rails (c.inputs + k) ≡ so_far.rails
    pub count : made ≡ length so_far.gates
    pub needed : made + 2 * operations (drop k (operators_in c code)) ≡ length whole.gates
    pub put : Put buffer₀ 2 (bytes_of file.Stage gate so_far.gates) buffer
    pub long : length rails ≡ length rails₀

  pub made_start : ReferenceFormed reference_limits (reference_in c code) → (buffer rails : List ℕ) → pairs_in rails c.inputs ≡ map input_pair (numbers 0 c.inputs)
      → MadeTo buffer rails buffer rails 0 0
  unfolding built bytes_of
  made_start formed buffer rails e =
      let z : c.inputs + 0 ≡ c.inputs = omega arith in
      record {
        so_far = record { gates = []; rails = map input_pair (numbers 0 c.inputs) };
        within = omega arith;
        left = refl;
        rails_are = ap (pairs_in rails) z ∙ e;
        count = refl;
        needed = omega (arith, needed_counted (reference_in c code) formed);
        put = put_none buffer 2;
        long = refl;
      }

  module _ {buffer₀ rails₀ buffer rails : List ℕ} {made k : ℕ} (t : MadeTo buffer₀ rails₀ buffer rails made k) where
    -- room for the gates of gate k
    pub made_room : k < c.gates → made + 2 * operations (operator_in code k ∷ []) ≤ length whole.gates
    unfolding operators_in
    made_room l = omega (arith, t.needed, operations_cons (operator_in code k) (drop (suc k) (operators_in c code)), ap operations (from_at (operator_in code) c.gates k l))

    module _ (loaded : ReferenceLoaded c code) (l : k < c.gates) (rails-long : 2 * (c.inputs + c.gates) ≤ length rails₀) where
      abbrev here : Built
      here = becomes c code k rails made

      gate_long : length here.gates ≡ 2 * operations (operator_in code k ∷ [])
      unfolding operations
      gate_long = go (ℕ_discrete (operation_in code k) 1)
        where
          a : List ℕ
          a = pair_stored rails (operand_in code k 0)

          b : List ℕ
          b = pair_stored rails (operand_in code k 1)

          go : Dec (operation_in code k ≡ 1) → length here.gates ≡ 2 * operations (operator_in code k ∷ [])
          go (yes e) = ap length (not_gates (operation_in code k) a b _ e) ∙ rw e
          go (no d) =
              other_gates (operation_in code k) a b _ (omega (arith, loaded.low k l)) (loaded.high k l) ∙ omega (arith, one_operation (operator_in code k) d)

      -- what the definition makes of it
      abbrev operand : ℕ → List ℕ
      operand i = get_or (map (rails_at t.so_far) (operator_in code k).operands) i (0 ∷ 0 ∷ [])

      same-become : here ≡ realize (operation_in code k) (operand 0) (operand 1) (2 * c.inputs + length t.so_far.gates)
      unfolding realize
      same-become = ap (λ (n : ℕ). becomes c code k rails n) t.count ∙ go (operation_in code k) (ℕ_discrete (operation_in code k) 1)
        where
          stored : (i : ℕ) → i < 2 → pair_stored rails (operand_in code k i) ≡ rails_at t.so_far (operand_in code k i)
          stored i h = sym (signal_pair rails (c.inputs + k) (operand_in code k i) t.so_far t.rails_are (loaded.operand k i l h))

          taken : ℕ → List (List ℕ)
          taken op = map (rails_at t.so_far) (take (cond (eqb op 1) 1 2) (operand_in code k 0 ∷ operand_in code k 1 ∷ []))

          net : ℕ
          net = 2 * c.inputs + length t.so_far.gates

          go : (op : ℕ) → Dec (op ≡ 1) → realize op (pair_stored rails (operand_in code k 0)) (pair_stored rails (operand_in code k 1)) net
              ≡ realize op (get_or (taken op) 0 (0 ∷ 0 ∷ [])) (get_or (taken op) 1 (0 ∷ 0 ∷ [])) net
          go op (yes e) = rw e (ap (λ (a : List ℕ). realize 1 a (0 ∷ 0 ∷ []) net) (stored 0 (omega arith)))
          go op (no d) = ap₂ (λ (a b : List ℕ). realize op a b net) (stored 0 (omega arith)) (stored 1 (omega arith)) ∙ rw (ne_eqb op 1 d)

      pub made_turn : {after rails' : List ℕ} {made' : ℕ} → made' ≡ made + length here.gates
          → Put buffer (2 + 10 * made) (bytes_of file.Stage gate here.gates) after
          → (r : Rails) × (pair_of r ∷ [] ≡ here.rails) × (rails' ≡ set (set rails (2 * (c.inputs + k)) r.rail0) (2 * (c.inputs + k) + 1) r.rail1)
          → MadeTo buffer₀ rails₀ after rails' made' (k + 1)
      unfolding build operators_in
      made_turn {after} {rails'} {made'} e p (r, is, q) =
          let b = t.so_far in
          let m = realize (operation_in code k) (operand 0) (operand 1) (2 * c.inputs + length b.gates) in
          let s : c.inputs + (k + 1) ≡ c.inputs + k + 1 = omega arith in
          let longer = length-append b.gates m.gates in
          let same : here.gates ≡ m.gates = ap (λ (x : Built). x.gates) same-become in
          let step = from_at (operator_in code) c.gates k l in
          record {
            so_far = record { gates = b.gates ++ m.gates; rails = b.rails ++ m.rails };
            within = omega arith;
            left = ap (λ (i : ℕ). build c.inputs (record { gates = b.gates ++ m.gates; rails = b.rails ++ m.rails }) (drop i (operators_in c code))) (add-one k) ∙ sym (ap (build c.inputs b) step) ∙ t.left;
            rails_are =
                ap₂ pairs_in q s
                ∙ rails-more rails (c.inputs + k) r.rail0 r.rail1 (omega (arith, t.long))
                ∙ ap₂ (λ (x y : List (List ℕ)). x ++ y) t.rails_are (is ∙ ap (λ (x : Built). x.rails) same-become);
            count = omega (arith, e, t.count, ap length same, longer);
            needed =
                let split = operations_cons (operator_in code k) (drop (suc k) (operators_in c code)) in
                let n = ap (λ (i : ℕ). operations (drop i (operators_in c code))) (add-one k) in
                omega (arith, t.needed, split, ap operations step, n, gate_long, e);
            put =
                put_same (sym (bytes-++ file.Stage gate b.gates here.gates) ∙ ap (λ (x : List Coded). bytes_of file.Stage gate (b.gates ++ x)) same)
                (put-++ t.put p (omega (arith, t.count, bytes_length file.Stage gate 10 stage_gate_width b.gates)));
            long =
                ap length q
                ∙ length-set (set rails (2 * (c.inputs + k)) r.rail0) (2 * (c.inputs + k) + 1) r.rail1
                ∙ length-set rails (2 * (c.inputs + k)) r.rail0
                ∙ t.long;
          }

    made_all : c.gates ≤ k → t.so_far ≡ whole
    unfolding build operators_in
    made_all l = sym (ap (build c.inputs t.so_far) (none_from (operator_in code) c.gates k l)) ∙ t.left

    pub done_count : c.gates ≤ k → made ≡ length whole.gates
    done_count l = t.count ∙ ap (λ (b : Built). length b.gates) (made_all l)

    pub done_put : c.gates ≤ k → Put buffer₀ 2 (bytes_of file.Stage gate whole.gates) buffer
    done_put l = put_same (ap (λ (b : Built). bytes_of file.Stage gate b.gates) (made_all l)) t.put

    pub done_rails : c.gates ≤ k → pairs_in rails (c.inputs + c.gates) ≡ whole.rails
    done_rails l =
        let e : c.gates ≡ k = omega (arith, t.within) in
        ap (λ (i : ℕ). pairs_in rails (c.inputs + i)) e ∙ t.rails_are ∙ ap (λ (b : Built). b.rails) (made_all l)
