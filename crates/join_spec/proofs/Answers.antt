-- The joined reference: a file can hold it, and it answers what the second part answers to the answer of the first.
-- Assumes nothing.
use Prim.Native.Nat.{ℕ, zero, suc, ◌+◌, ◌-◌, ◌≤◌, ◌<◌}
use native.Mathlib.Omega.{arith}
use native.Mathlib.Decide.{dec_lt}
use mathlib.Core.Path.{◌≡◌, refl, sym, ap, ap₂, ◌∙◌, subst}
use mathlib.Core.Bool.{Bool, true, false}
use mathlib.Core.List.{List, [], ◌∷◌, ◌++◌, map}
use lib.ListN.{length, get_or, length-append, length-map, get_or-append}
use lib.Seq.{get_or-append_seam}
use Rattle.runs.proofs.Test.{lt-ltb, le-ltb}
use Rattle.netlist.specs.declared.File.TheVariants.{Reference}
use Rattle.netlist.specs.declared.Limits.{Limits}
use Rattle.netlist.specs.Commands.{command_table, own_commands, form_in, role_of}
use Rattle.netlist.specs.Reading.{Nets, names}
use Rattle.netlist.specs.Coded.{Coded}
use Rattle.netlist.specs.Writing.{All}
use Rattle.netlist.proofs.Readable.{named_earlier, named_signal, earlier_in, signals_in_holds}
use Rattle.netlist.proofs.Formed.{GatesFormed, OutputFormed}
use Rattle.check_spec.specs.Lists.{numbers}
use Rattle.check_spec.specs.Content.{Content}
use Rattle.check_spec.specs.Words.{operate, values, answer}
use Rattle.check_spec.proofs.Formed.{Formed, nets_of}
use Rattle.join_spec.specs.Joining.{joined_by, signal_in_whole}
use Rattle.join_spec.proofs.Lists.{All-get, map_get}
use Rattle.join_spec.proofs.Whole.{moved, RoomForTwo, gates_length, outputs_length, Moves, joined_formed}

-- ---- the values of signals

-- the value of a gate whose operands have the values of some signals
abbrev value_of : List Bool → Coded → Bool
value_of known g = operate g.code (get_or (map (λ x. get_or known x false) g.operands) 0 false) (get_or (map (λ x. get_or known x false) g.operands) 1 false)

values_length : (known : List Bool) (gates : List Coded) → length (values known gates) ≡ length known + length gates
unfolding values
values_length known [] = omega arith
values_length known (g ∷ gates) = omega (arith, values_length (known ++ (value_of known g ∷ [])) gates, length-append known (value_of known g ∷ []))

values-++ : (known : List Bool) (gs hs : List Coded) → values known (gs ++ hs) ≡ values (values known gs) hs
unfolding values
values-++ known [] hs = refl
values-++ known (g ∷ gs) hs = values-++ (known ++ (value_of known g ∷ [])) gs hs

numbered : (f : ℕ → Bool) (j m p : ℕ) → p < m → get_or (map f (numbers j m)) p false ≡ f (j + p)
unfolding numbers
numbered f j zero p h = absurd (omega arith)
numbered f j (suc m) zero h = let z : j ≡ j + 0 = omega arith in ap f z
numbered f j (suc m) (suc p) h = let z : suc j + p ≡ j + suc p = omega arith in numbered f (suc j) m p (omega arith) ∙ ap f z

numbers-length : (j m : ℕ) → length (numbers j m) ≡ m
unfolding numbers
numbers-length j zero = refl
numbers-length j (suc m) = ap suc (numbers-length (suc j) m)

-- an answer is to the bits of the inputs
pub answer_local : (r : Content) (b c : ℕ → Bool) → ((i : ℕ) → i < r.inputs → b i ≡ c i) → answer r b ≡ answer r c
unfolding answer numbers
answer_local r b c h = ap {B = ℕ → Bool} (λ (l : List Bool) (j : ℕ). get_or (values l r.gates) (get_or (get_or r.outputs j []) 0 0) false) (same 0 r.inputs (λ i l. h i (omega arith)))
  where
    same : (j m : ℕ) → ((i : ℕ) → i < j + m → b i ≡ c i) → map b (numbers j m) ≡ map c (numbers j m)
    same j zero h = refl
    same j (suc m) h = ap₂ {C = List Bool} (λ x l. x ∷ l) (h j (omega arith)) (same (suc j) m (λ i l. h i (omega arith)))

-- ---- values that follow others: signal p of the second part has the value of signal `move p` of the whole

pub record Follows (move : ℕ → ℕ) (whole part : List Bool) : Type 0 where
  pub inside : (p : ℕ) → p < length part → move p < length whole
  pub same : (p : ℕ) → p < length part → get_or whole (move p) false ≡ get_or part p false

-- so have the operands of a gate
operands-follow : (move : ℕ → ℕ) (whole part : List Bool) → Follows move whole part → (vs : List ℕ) → All (λ v. v < length part) vs
    → map (λ x. get_or whole x false) (map move vs) ≡ map (λ x. get_or part x false) vs
operands-follow move whole part f [] h = refl
operands-follow move whole part f (v ∷ vs) h = ap₂ {C = List Bool} (λ a b. a ∷ b) (f.same v h.0) (operands-follow move whole part f vs h.1)

-- and one signal more
follow_one : (move : ℕ → ℕ) (whole part : List Bool) (x : Bool) → Follows move whole part → move (length part) ≡ length whole → Follows move (whole ++ (x ∷ [])) (part ++ (x ∷ []))
follow_one move whole part x f next = record { inside = λ p h. inside p (dec_lt p (length part)) h; same = λ p h. same p (dec_lt p (length part)) h }
  where
    longer : (l : List Bool) → length (l ++ (x ∷ [])) ≡ length l + 1
    longer l = length-append l (x ∷ [])

    last : (p : ℕ) → ¬ (p < length part) → p < length (part ++ (x ∷ [])) → (p ≡ length part) × (move p ≡ length whole)
    last p l h = let e : p ≡ length part = omega (arith, longer part) in (e, ap move e ∙ next)

    inside : (p : ℕ) → Dec (p < length part) → p < length (part ++ (x ∷ [])) → move p < length (whole ++ (x ∷ []))
    inside p (yes l) h = omega (arith, f.inside p l, longer whole)
    inside p (no l) h = omega (arith, (last p l h).1, longer whole)

    same : (p : ℕ) → Dec (p < length part) → p < length (part ++ (x ∷ [])) → get_or (whole ++ (x ∷ [])) (move p) false ≡ get_or (part ++ (x ∷ [])) p false
    same p (yes l) h = get_or-append whole (x ∷ []) false (move p) (f.inside p l) ∙ f.same p l ∙ sym (get_or-append part (x ∷ []) false p l)
    same p (no l) h =
        let e = last p l h in
        ap (λ (i : ℕ). get_or (whole ++ (x ∷ [])) i false) e.1 ∙ get_or-append_seam whole x [] false
        ∙ sym (ap (λ (i : ℕ). get_or (part ++ (x ∷ [])) i false) e.0 ∙ get_or-append_seam part x [] false)

-- ---- two references

module _ (one two : Content) where
  abbrev move : ℕ → ℕ
  move = signal_in_whole one two

  abbrev pub whole : Content
  whole = joined_by move one two

  move_input : (p : ℕ) → p < two.inputs → move p ≡ get_or (get_or one.outputs p []) 0 0
  unfolding signal_in_whole
  move_input p h = rw (lt-ltb p two.inputs h)

  move_gate : (p : ℕ) → two.inputs ≤ p → move p ≡ one.inputs + length one.gates + (p - two.inputs)
  unfolding signal_in_whole
  move_gate p h = rw (le-ltb p two.inputs h)

  -- the gates of the second part, after k of them
  gates-follow : (N : Nets) → N.inputs ≡ two.inputs → (k : ℕ) (cs : List Coded) (known part : List Bool) → length known ≡ one.inputs + length one.gates + k → length part ≡ two.inputs + k
      → GatesFormed Reference N k cs → Follows move known part → Follows move (values known (map (moved move) cs)) (values part cs)
  unfolding values
  gates-follow N n k [] known part lw lp h f = f
  gates-follow N n k (c ∷ cs) known part lw lp h f =
      let x = value_of part c in
      let e : value_of known (moved move c) ≡ x =
      ap (λ (l : List Bool). operate c.code (get_or l 0 false) (get_or l 1 false))
      (operands-follow move known part f c.operands (subst (λ (n : ℕ). All (λ v. v < n) c.operands) (ap (λ (i : ℕ). i + k) n ∙ sym lp) (earlier_in N k 0 c.operands h.0.named))) in
      let next : move (length part) ≡ length known = omega (arith, move_gate (length part) (omega arith)) in
      subst (λ (y : Bool). Follows move (values (known ++ (y ∷ [])) (map (moved move) cs)) (values (part ++ (x ∷ [])) cs)) (sym e)
      (gates-follow N n (suc k) cs (known ++ (x ∷ [])) (part ++ (x ∷ [])) (omega (arith, length-append known (x ∷ []))) (omega (arith, length-append part (x ∷ []))) h.1
      (follow_one move known part x f next))

  module _ (most : Limits) (h : Formed Reference most one) (h' : Formed Reference most two) (seam : two.inputs ≡ length one.outputs) where
    -- an output of a reference names a signal
    signal_below : (k p : ℕ) → p < two.inputs + k → move p < one.inputs + (length one.gates + k)
    unfolding command_table own_commands form_in
    signal_below k p l = go (dec_lt p two.inputs)
      where
        go : Dec (p < two.inputs) → move p < one.inputs + (length one.gates + k)
        go (yes i) =
            let o = All-get (OutputFormed Reference (nets_of one)) one.outputs h.outputs p [] (omega arith) in
            omega (arith, move_input p i, All-get (λ v. v < one.inputs + length one.gates) (get_or one.outputs p []) (signals_in_holds (nets_of one) _ 0 (get_or one.outputs p []) o.named) 0 0 (omega (arith, o.whole)))
        go (no i) = omega (arith, move_gate p (omega arith))

    pub reference_formed : (most' : Limits) → RoomForTwo most most' → Formed Reference most' whole
    unfolding names role_of
    reference_formed most' room = joined_formed Reference move one two most most' room h h' (record {
      first = λ k i v e. e;
      second = λ k i v e. lt-ltb (move v) _ (signal_below k v (named_earlier (nets_of two) k i v e));
      outputs = λ i v e. lt-ltb (move v) _ (signal_below (length two.gates) v (named_signal (nets_of two) (length two.gates) i v e));
    })

    pub whole_answers : (bits : ℕ → Bool) (j : ℕ) → j < length two.outputs → answer whole bits j ≡ answer two (answer one bits) j
    unfolding joined_by answer command_table own_commands form_in
    whole_answers bits j l =
        let inputs = map bits (numbers 0 one.inputs) in
        let known = values inputs one.gates in
        let part = map (answer one bits) (numbers 0 two.inputs) in
        let lw : length known ≡ one.inputs + length one.gates =
        values_length inputs one.gates ∙ ap (λ (n : ℕ). n + length one.gates) (length-map (numbers 0 one.inputs) bits ∙ numbers-length 0 one.inputs) in
        let lp : length part ≡ two.inputs = length-map (numbers 0 two.inputs) (answer one bits) ∙ numbers-length 0 two.inputs in
        let start : Follows move known part = record {
          inside = λ p i. omega (arith, signal_below 0 p (omega arith));
          same = λ p i.
              let z : 0 + p ≡ p = omega arith in
              ap (λ (i : ℕ). get_or known i false) (move_input p (omega arith)) ∙ sym (numbered (answer one bits) 0 two.inputs p (omega arith) ∙ ap (answer one bits) z);
        } in
        let end = gates-follow (nets_of two) refl 0 two.gates known part (omega arith) (omega arith) h'.gates start in
        let o = All-get (OutputFormed Reference (nets_of two)) two.outputs h'.outputs j [] l in
        let out = get_or (get_or two.outputs j []) 0 0 in
        let named = All-get (λ v. v < two.inputs + length two.gates) (get_or two.outputs j []) (signals_in_holds (nets_of two) _ 0 (get_or two.outputs j []) o.named) 0 0 (omega (arith, o.whole)) in
        ap₂ (λ (vs : List Bool) (i : ℕ). get_or vs i false) (values-++ inputs one.gates (map (moved move) two.gates))
        (ap (λ (vs : List ℕ). get_or vs 0 0) (map_get (map move) two.outputs j [] [] l) ∙ map_get move (get_or two.outputs j []) 0 0 0 (omega (arith, o.whole)))
        ∙ end.same out (omega (arith, values_length part two.gates, named))
