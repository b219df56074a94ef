-- Words, answers and settled rows as the theory has them, and as the code has them, which are lists of levels.
-- Assumes nothing.
use Prim.Native.Nat.{ℕ, zero, suc, ◌+◌, ◌-◌, ◌*◌, ◌/◌, ◌%◌, ◌^◌, ◌≤◌, ◌<◌, min, max}
use native.Mathlib.Omega.{arith}
use native.Mathlib.Nat.{pow-succ', div-div-eq-div-mul}
use mathlib.Core.Path.{◌≡◌, refl, sym, ap, ap₂, ◌∙◌, subst, fun_ext}
use mathlib.Core.Bool.{Bool, true, false, cond, not, ◌&&◌, ◌||◌, and-true}
use mathlib.Core.List.{List, [], ◌∷◌, ◌++◌, map, reverse}
use lib.ListN.{length, get_or, length-map, length-reverse, get_or-map}
use lib.Seq.{get_or-append-add}
use lib.Dec.{eqb, ltb}
use Rattle.gates.specs.Cell.{bit}
use Rattle.runs.specs.Row.{Row, low, only, ◌∖◌}
use Rattle.runs.specs.Net.{Net, rails, may_rise, rise_up, rails_of_inputs}
use Rattle.runs.specs.Settled.{SettledHeld, SettledKept}
use Rattle.runs.proofs.Test.{and_in, and_left, and_right, or_left, lt-ltb, ltb-true, eqb_eq, eqb_same, eqb_other}
use Rattle.runs.proofs.Moves.{missing_held}
use Rattle.runs.proofs.Net.{Place, rail, gate, none, place, by_net_rail, by_net_gate, by_net_none}
use Rattle.netlist.specs.declared.File.{File}
use Rattle.netlist.specs.declared.Limits.{Limits}
use Rattle.netlist.specs.Reading.{Places, Ascending, readable, read_file}
use Rattle.netlist.specs.Content as parsed
use Rattle.netlist.specs.Content.{Coded, gate_of}
use Rattle.netlist.proofs.Readable.{readable_read}
use Rattle.verdict.specs.declared.WordOrder.{WordOrder}
use Rattle.verdict.specs.declared.WordOrder.TheVariants.{FirstHighest, FirstLowest}
use Rattle.verdict.specs.Graph.{In}
use Rattle.verdict.specs.Rows as levels
use Rattle.verdict.specs.Words as words
use Rattle.verdict.specs.Answers as answers
use Rattle.verdict.specs.Nets as code
use Rattle.verdict.specs.Falls as falls
use Rattle.verdict.proofs.Levels.{bits_length, bits_get}
use Rattle.verdict.proofs.Settling.{settled_bits}
use Rattle.verdict.proofs.Words.{bits_of_length, bits_of_bit, rails_word, index_in, in_index, word_below}
use Rattle.verdict.proofs.Names.{aux_bit, aux_at, spelled_below, select_alike, in_is_in}
use Rattle.verdict.proofs.Bridge.{settled_row_holds, held_row_holds, missing_row_holds}
use Rattle.verdict.proofs.OneWord.{wires_length, but_settled, keeping_settled}
use Rattle.check_spec.specs.Lists.{xor, numbers, some, bit_of, of_bits}
use Rattle.check_spec.specs.Content.{Content, content_at, content_of}
use Rattle.check_spec.specs.Rows.{net_of, risen, fallen}
use Rattle.check_spec.specs.Words.{IsWord, rails_for, cares_for, spelled, names, operate, values, answer}
use Rattle.check_spec.specs.Checks.{rest}
use Rattle.check_spec.specs.Demands.{LoopFree}
use Rattle.check_spec.specs.Loaded.{stage_view, reference_view}
use Rattle.verdict.proofs.Steps.{some_in, some_out}
use Rattle.check_spec.proofs.Loops.{risen_is, fallen_is}
use Rattle.check_spec.proofs.Names.{same_bits}
use Rattle.check_spec.proofs.OneWord.{inside}
use Rattle.check_spec.proofs.View.{net_view}

-- ---- bits

pub bits_at : (n w i : ℕ) → i < n → get_or (words.bits_of n w) i 0 ≡ w / 2 ^ i % 2
unfolding words.bits_of
bits_at zero w i h = absurd (omega arith)
bits_at (suc n) w zero h = omega arith
bits_at (suc n) w (suc i) h =
    bits_at n (w / 2) i (omega arith) ∙ ap (λ (x : ℕ). x % 2) (div-div-eq-div-mul w 2 (2 ^ i)) ∙ ap (λ (x : ℕ). w / x % 2) (sym (pow-succ' 2 i))

-- the word of some bits
pub word_of_holds : (l : List ℕ) → ((i : ℕ) → get_or l i 0 ≤ 1) → words.word_of l ≡ of_bits (length l) (λ i. eqb (get_or l i 0) 1)
unfolding words.word_of of_bits
word_of_holds [] h = refl
word_of_holds (b ∷ l) h = ap₂ (λ (x y : ℕ). x + 2 * y) (low_bit b (h 0)) (word_of_holds l (λ i. h (suc i)))
  where
    low_bit : (b : ℕ) → b ≤ 1 → b ≡ bit (eqb b 1)
    low_bit zero h = refl
    low_bit (suc zero) h = refl
    low_bit (suc (suc b)) h = absurd (omega arith)

pub spelled_alike : (order : WordOrder) (n name : ℕ) → spelled order n name ≡ words.spelled order n name
unfolding spelled words.spelled
spelled_alike FirstLowest n name = refl
spelled_alike FirstHighest n name = sym (
    word_of_holds (reverse bits) (aux_bit bits [] (bits_of_bit n name) (λ i. omega arith))
    ∙ ap (λ (m : ℕ). of_bits m (λ i. eqb (get_or (reverse bits) i 0) 1)) (length-reverse bits ∙ long)
    ∙ same_bits n (λ i. eqb (get_or (reverse bits) i 0) 1) (λ i. bit_of name (n - (i + 1))) (λ i h. ap (λ (x : ℕ). eqb x 1) (turned i h)))
  where
    bits : List ℕ
    bits = words.bits_of n name

    long : length (words.bits_of n name) ≡ n
    long = bits_of_length n name

    turned : (i : ℕ) → i < n → get_or (reverse (words.bits_of n name)) i 0 ≡ name / 2 ^ (n - (i + 1)) % 2
    turned i h =
        let e : length (words.bits_of n name) - 1 - i ≡ n - (i + 1) = omega (arith, long) in
        aux_at (words.bits_of n name) [] i (omega (arith, long)) ∙ ap (λ (k : ℕ). get_or (words.bits_of n name) k 0) e ∙ bits_at n name (n - (i + 1)) (omega arith)

-- ---- names

or-false : (b : Bool) → (b || false) ≡ b
or-false true = refl
or-false false = refl

or_is : (b x y : Bool) → x ≡ y → cond b true x ≡ (b || y)
or_is true x y e = refl
or_is false x y e = e

-- a word below 2 to the number of inputs is cared for
pub cares_alike : (c : Content) (x : ℕ) → x < 2 ^ c.inputs → cares_for c x ≡ words.is_in x (words.words (stage_view c))
unfolding words.words words.cared_for words.is_in some cares_for
cares_alike c x h = go c.care
  where
    some_is : (ws : List ℕ) → some (eqb x) ws ≡ words.is_in x ws
    some_is [] = refl
    some_is (w ∷ ws) = or_is (eqb x w) _ _ (some_is ws)

    go : (care : List ℕ) → (some (eqb x) care || eqb (length care) 0) ≡ words.is_in x (words.cared_for c.inputs care)
    go [] = sym (in_is_in x (numbers 0 (2 ^ c.inputs)) (index_in (2 ^ c.inputs) x h))
    go (w ∷ ws) = rw (eqb_other (length (w ∷ ws)) 0 (λ e. omega arith)) (or-false (some (eqb x) (w ∷ ws)) ∙ some_is (w ∷ ws))

pub names_alike : (order : WordOrder) (c : Content) → names order c ≡ words.names order (stage_view c)
unfolding names words.names
names_alike order c = select_alike _ _ (numbers 0 (2 ^ c.inputs)) (λ name i.
    let h = in_index (2 ^ c.inputs) name i in
    ap (cares_for c) (spelled_alike order c.inputs name)
    ∙ cares_alike c (words.spelled order c.inputs name) (spelled_below order c.inputs name h))

-- ---- rails

pub rails_alike : (c : Content) (w k : ℕ) → k < 2 * c.inputs → code.rails_for (stage_view c) w k ≡ rails_for w k
rails_alike c w k h =
    let long = bits_of_length c.inputs w in
    let at = bits_at c.inputs w (k / 2) (omega arith) in
    rails_word (words.bits_of c.inputs w) (bits_of_bit c.inputs w) k (omega (arith, long))
    ∙ ap (λ (x : ℕ). cond (eqb (k % 2) 1) (ltb 0 x) (not (ltb 0 x))) at
    ∙ digit (w / 2 ^ (k / 2) % 2) (k % 2) (omega arith) (omega arith)
  where
    digit : (m p : ℕ) → m < 2 → p < 2 → cond (eqb p 1) (ltb 0 m) (not (ltb 0 m)) ≡ eqb m p
    digit zero zero a b = refl
    digit zero (suc zero) a b = refl
    digit (suc zero) zero a b = refl
    digit (suc zero) (suc zero) a b = refl
    digit zero (suc (suc p)) a b = absurd (omega arith)
    digit (suc zero) (suc (suc p)) a b = absurd (omega arith)
    digit (suc (suc m)) p a b = absurd (omega arith)

-- a rise sees of some rails only those that there are
pub rise_alike : (N : Net) (c d : Row) → ((k : ℕ) → k < rails N → c k ≡ d k) → rise_up N c ≡ rise_up N d
rise_alike N c d h = fun_ext (λ r. fun_ext (λ k. at r k (place N k)))
  where
    at : (r : Row) (k : ℕ) → Place N k → rise_up N c r k ≡ rise_up N d r k
    at r k (rail x) = by_net_rail N k (c k) (may_rise N r k) x ∙ h k x ∙ sym (by_net_rail N k (d k) (may_rise N r k) x)
    at r k (gate x) = by_net_gate N k (c k) (may_rise N r k) x ∙ sym (by_net_gate N k (d k) (may_rise N r k) x)
    at r k (none x) = by_net_none N k (c k) (may_rise N r k) x ∙ sym (by_net_none N k (d k) (may_rise N r k) x)

-- ---- the reference's answer

operate-alike : (operation : ℕ) (a b : Bool) (xs : List ℕ) → get_or xs 0 0 ≡ bit a → get_or xs 1 0 ≡ bit b → bit (operate operation a b) ≡ answers.operate operation xs
unfolding operate answers.operate
operate-alike operation a b xs p q = rw (p, q)
    (sym (get_or-map bit (false ∷ not a ∷ (a && b) ∷ (a || b) ∷ xor a b ∷ not (a && b) ∷ not (a || b) ∷ []) operation false)
    ∙ ap (λ (l : List ℕ). get_or l operation 0) (both a b))
  where
    both : (a b : Bool) → map bit (false ∷ not a ∷ (a && b) ∷ (a || b) ∷ xor a b ∷ not (a && b) ∷ not (a || b) ∷ [])
        ≡ 0 ∷ (1 - bit a) ∷ min (bit a) (bit b) ∷ max (bit a) (bit b) ∷ ((bit a + bit b) % 2) ∷ (1 - min (bit a) (bit b)) ∷ (1 - max (bit a) (bit b)) ∷ []
    both true true = refl
    both true false = refl
    both false true = refl
    both false false = refl

at_bits : (known : List Bool) (signals : List ℕ) (i : ℕ)
    → get_or (answers.values_at (map bit known) signals) i 0 ≡ bit (get_or (map (λ x. get_or known x false) signals) i false)
at_bits known [] i = refl
at_bits known (x ∷ signals) zero = get_or-map bit known x false
at_bits known (x ∷ signals) (suc i) = at_bits known signals i

values-alike : (known : List Bool) (gates : List Coded) → map bit (values known gates) ≡ answers.signal_values (map bit known) gates
unfolding values answers.signal_values
values-alike known [] = refl
values-alike known (g ∷ gates) =
    let operands : List Bool = map (λ x. get_or known x false) g.operands in
    let x : Bool = operate g.code (get_or operands 0 false) (get_or operands 1 false) in
    values-alike (known ++ (x ∷ [])) gates
    ∙ ap (λ (l : List ℕ). answers.signal_values l gates) (snoc known x
    ∙ ap (λ (y : ℕ). map bit known ++ (y ∷ [])) (operate-alike g.code (get_or operands 0 false) (get_or operands 1 false)
    (answers.values_at (map bit known) g.operands) (at_bits known g.operands 0) (at_bits known g.operands 1)))
  where
    snoc : (l : List Bool) (x : Bool) → map bit (l ++ (x ∷ [])) ≡ map bit l ++ (bit x ∷ [])
    snoc [] x = refl
    snoc (y ∷ l) x = ap (λ (m : List ℕ). bit y ∷ m) (snoc l x)

odd : (m : ℕ) → m < 2 → bit (eqb m 1) ≡ m
odd zero h = refl
odd (suc zero) h = refl
odd (suc (suc m)) h = absurd (omega arith)

bits_alike : (w j n : ℕ) → map bit (map (bit_of w) (numbers j n)) ≡ words.bits_of n (w / 2 ^ j)
unfolding numbers words.bits_of
bits_alike w j zero = refl
bits_alike w j (suc n) =
    let e : 2 ^ suc j ≡ 2 ^ j * 2 = omega (arith, pow-succ' 2 j) in
    ap₂ (λ (x : ℕ) (l : List ℕ). x ∷ l) (odd (w / 2 ^ j % 2) (omega arith))
    (bits_alike w (suc j) n ∙ ap (words.bits_of n) (ap (λ (x : ℕ). w / x) e ∙ sym (div-div-eq-div-mul w (2 ^ j) 2)))

-- output j answers the value that the code has for it
pub answer_any : (r : Content) (bits : ℕ → Bool) (j : ℕ) → j < length r.outputs
    → bit (answer r bits j) ≡ get_or (answers.answer (reference_view r) (map bit (map bits (numbers 0 r.inputs)))) j 0
unfolding answer answers.answer
answer_any r bits j h =
    let signals = values (map bits (numbers 0 r.inputs)) r.gates in
    sym (get_or-map bit signals (get_or (get_or r.outputs j []) 0 0) false)
    ∙ ap (λ (l : List ℕ). get_or l (get_or (get_or r.outputs j []) 0 0) 0) (values-alike (map bits (numbers 0 r.inputs)) r.gates)
    ∙ at (answers.signal_values (map bit (map bits (numbers 0 r.inputs))) r.gates) r.outputs j h
  where
    at : (l : List ℕ) (outputs : List (List ℕ)) (j : ℕ) → j < length outputs
        → get_or l (get_or (get_or outputs j []) 0 0) 0 ≡ get_or (answers.values_at l (map (λ (vs : List ℕ). get_or vs 0 0) outputs)) j 0
    at l [] j h = absurd (omega arith)
    at l (o ∷ outputs) zero h = refl
    at l (o ∷ outputs) (suc j) h = at l outputs j (omega arith)

pub answer_alike : (r : Content) (w j : ℕ) → j < length r.outputs
    → bit (answer r (bit_of w) j) ≡ get_or (answers.answer (reference_view r) (words.bits_of r.inputs w)) j 0
answer_alike r w j h =
    let one : w / 2 ^ 0 ≡ w = omega arith in
    answer_any r (bit_of w) j h
    ∙ ap (λ (l : List ℕ). get_or (answers.answer (reference_view r) l) j 0) (bits_alike w 0 r.inputs ∙ ap (words.bits_of r.inputs) one)

-- ---- rows

-- a list by its members
pub list_is : (f : ℕ → ℕ) (j : ℕ) (l : List ℕ) → ((i : ℕ) → i < length l → get_or l i 0 ≡ f (j + i)) → l ≡ map f (numbers j (length l))
unfolding numbers
list_is f j [] h = refl
list_is f j (x ∷ l) h =
    let z : j + 0 ≡ j = omega arith in
    ap₂ (λ (y : ℕ) (m : List ℕ). y ∷ m) (h 0 (omega arith) ∙ ap f z)
    (list_is f (suc j) l (λ i k. let y : j + suc i ≡ suc j + i = omega arith in h (suc i) (omega arith) ∙ ap f y))

pub level : (x : ℕ) → x ≤ 1 → x ≡ bit (ltb 0 x)
level zero h = refl
level (suc zero) h = refl
level (suc (suc x)) h = absurd (omega arith)

module _ (c : Content) (free : LoopFree (net_of c)) (w : ℕ) where
  abbrev v : parsed.Stage
  v = stage_view c

  abbrev N : Net
  N = net_of c

  abbrev of : ℕ → Row
  of i = rails_of_inputs N (only i)

  -- what settles for the code's rails settles for the word's
  held : (X r : Row) → SettledHeld (code.net_of v) (code.rails_for v w) X r → SettledHeld N (rails_for w) X r
  held X r h k =
      subst (λ (M : Net). SettledHeld M (code.rails_for v w) X r) (net_view c) h k
      ∙ ap (λ (up : Row → Row). (up r ∖ X) k) (rise_alike N (code.rails_for v w) (rails_for w) (rails_alike c w))

  pub rest_alike : code.rest_row v w ≡ rest c w
  rest_alike = (risen_is c free (rails_for w) low).1 (code.rest_row v w)
      (held low (code.rest_row v w) (λ k. settled_row_holds v (words.rails_in v w) (wires_length v w) k ∙ sym (and-true (rise_up (code.net_of v) (code.rails_for v w) (code.rest_row v w) k))))

  pub missing_alike : (i : ℕ) → code.missing_row v w i ≡ risen N (rails_for w) (of i)
  missing_alike i = (risen_is c free (rails_for w) (of i)).1 (code.missing_row v w i) (held (of i) (code.missing_row v w i)
      (missing_held (code.net_of v) (code.rails_for v w) (only i) (code.missing_row v w i) (missing_row_holds v (words.rails_in v w) (wires_length v w) (only i))))

  pub held_alike : (g : ℕ) → g < length c.gates → code.held_row v w g ≡ risen N (rails_for w) (only (2 * c.inputs + g))
  held_alike g h = (risen_is c free (rails_for w) (only (2 * c.inputs + g))).1 (code.held_row v w g) (held (only (2 * c.inputs + g)) (code.held_row v w g)
      (held_row_holds v (words.rails_in v w) (wires_length v w) g (omega (arith, length-map c.gates gate_of))))

  kept : (X r : Row) → SettledKept (code.net_of v) X (code.rest_row v w) r → SettledKept N X (rest c w) r
  kept X r h = subst (λ (R : Row). SettledKept N X R r) rest_alike (subst (λ (M : Net). SettledKept M X (code.rest_row v w) r) (net_view c) h)

  pub but_alike : (r : Content) (i : ℕ) → code.row_of (falls.fallen_but v w i) ≡ fallen N (rest c w) (of i)
  but_alike r i = (fallen_is c free (rest c w) (of i) (inside c r free w)).1 (code.row_of (falls.fallen_but v w i)) (kept (of i) _ (but_settled v w i))

  pub keeping_alike : (r : Content) (g : ℕ) → code.row_of (falls.fallen_keeping v w g) ≡ fallen N (rest c w) (only (2 * c.inputs + g))
  keeping_alike r g = (fallen_is c free (rest c w) (only (2 * c.inputs + g)) (inside c r free w)).1 (code.row_of (falls.fallen_keeping v w g))
      (kept (only (2 * c.inputs + g)) _ (keeping_settled v w g))

  -- the levels of the gates at the rest
  pub levels_alike : levels.settled_levels v.gates (words.rails_in v w) ≡ map (λ k. bit (rest c w k)) (numbers (2 * c.inputs) (length c.gates))
  levels_alike =
      let wires = words.rails_in v w in
      let L = levels.settled_levels v.gates wires in
      let bits = settled_bits v.gates wires in
      let long : length L ≡ length c.gates = bits_length (length v.gates) L bits ∙ length-map c.gates gate_of in
      list_is (λ k. bit (rest c w k)) (2 * c.inputs) L (λ i h.
      level (get_or L i 0) (bits_get (length v.gates) L bits i)
      ∙ ap (λ (x : ℕ). bit (ltb 0 x)) (sym (get_or-append-add wires L i 0) ∙ ap (λ (n : ℕ). get_or (wires ++ L) (n + i) 0) (wires_length v w))
      ∙ ap (λ (R : Row). bit (R (2 * c.inputs + i))) rest_alike)
      ∙ ap (λ (m : ℕ). map (λ k. bit (rest c w k)) (numbers (2 * c.inputs) m)) long

-- ---- the words of a stage whose care words rise, as those of a readable file do

module _ (c : Content) (care : Ascending (2 ^ c.inputs) 0 c.care) (w : ℕ) where
  pub word_in : IsWord c w → words.IsWord (stage_view c) w
  unfolding words.words words.cared_for cares_for
  word_in h = go c.care (and_left (ltb w (2 ^ c.inputs)) _ h) (and_right (ltb w (2 ^ c.inputs)) _ h)
    where
      go : (ws : List ℕ) → ltb w (2 ^ c.inputs) ≡ true → (some (eqb w) ws || eqb (length ws) 0) ≡ true → In w (words.cared_for c.inputs ws)
      go [] l t = index_in (2 ^ c.inputs) w (ltb-true w (2 ^ c.inputs) l)
      go (x ∷ ws) l t = let r = some_out (eqb w) (x ∷ ws) (sym (or-false _) ∙ sym (ap (λ (b : Bool). some (eqb w) (x ∷ ws) || b) (eqb_other (length (x ∷ ws)) 0 (λ e. omega arith))) ∙ t) in
          subst (λ (y : ℕ). In y (x ∷ ws)) (sym (eqb_eq w r.0 r.2)) r.1

  pub in_word_holds : words.IsWord (stage_view c) w → IsWord c w
  unfolding words.words words.cared_for cares_for some
  in_word_holds i = and_in (ltb w (2 ^ c.inputs)) _ (lt-ltb w (2 ^ c.inputs) (word_below (stage_view c) care w i)) (go c.care i)
    where
      go : (ws : List ℕ) → In w (words.cared_for c.inputs ws) → (some (eqb w) ws || eqb (length ws) 0) ≡ true
      go [] i = refl
      go (x ∷ ws) i = or_left (some (eqb w) (x ∷ ws)) _ (some_in (eqb w) (x ∷ ws) w i (eqb_same w))

-- the care words of a file that reads rise
pub read_care : (f : File) (most : Limits) (bytes : List ℕ) (p : Places) → read_file f most bytes ≡ readable p
    → Ascending (2 ^ (content_at f bytes (readable p)).inputs) 0 (content_at f bytes (readable p)).care
unfolding content_at
read_care f most bytes p e = (readable_read f most bytes p e).care_in_holds

pub care_rises : (f : File) (most : Limits) (bytes : List ℕ) (p : Places) → read_file f most bytes ≡ readable p
    → Ascending (2 ^ (content_of f most bytes).inputs) 0 (content_of f most bytes).care
unfolding content_at
care_rises f most bytes p e = rw e (read_care f most bytes p e)
