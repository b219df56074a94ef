-- Two stages in a row that are tight and clear are tight and clear as one.
-- Assumes nothing.
use mathlib.Core.Path.{◌≡◌, refl, sym, ap, ◌∙◌, fun_ext}
use mathlib.Core.Bool.{Bool, true, false, not, ◌&&◌}
use Prim.Native.Nat.{ℕ, ◌+◌, ◌-◌, ◌/◌, ◌≤◌, ◌<◌}
use native.Mathlib.Omega.{arith}
use lib.Dec.{ltb}
use Rattle.runs.specs.Row.{Row, low}
use Rattle.runs.specs.Net.{Net, rails, nets, IsGate, input_rail, may_fall, by_net, rise_up, fall_down}
use Rattle.runs.specs.Theory.{◌⊑◌}
use Rattle.runs.specs.Settled.{Settled}
use Rattle.runs.specs.Pair.{DataOf, AllData, AllNull, Reads}
use Rattle.runs.specs.Acyclic.{Acyclic, AllPins}
use Rattle.runs.specs.Tight.{Supported, Tight, Released, Clear}
use Rattle.runs.specs.Series.{Named, InSeries}
use Rattle.runs.proofs.Test.{clash, not-true, and_left, and_right, ltb-true, lt-ltb, le-ltb}
use Rattle.runs.proofs.Net.{Place, rail, gate, none, place, by_net_rail, by_net_gate, by_net_none, rail_of_input, input_rail_inside, AllPins-map, may_fall_local}
use Rattle.runs.proofs.Pair.{reads_data}
use Rattle.runs.proofs.Rise.{supported-⊑-settled, settled_inside}

-- two pairs that are DATA of one bit agree in each rail
data_same : (r s : Row) (p q : Bool → ℕ) (x : Bool) → DataOf r p x → DataOf s q x → (b : Bool) → r (p b) ≡ s (q b)
data_same r s p q true d e true = d.0 ∙ sym e.0
data_same r s p q true d e false = d.1 ∙ sym e.1
data_same r s p q false d e true = d.1 ∙ sym e.1
data_same r s p q false d e false = d.0 ∙ sym e.0

module _ (SA SB SW : Acyclic) (move : ℕ → ℕ) (named_a : Named SA.net) (named_b : Named SB.net) (s : InSeries SA.net SB.net SW.net move) where
  abbrev A : Net
  A = SA.net

  abbrev B : Net
  B = SB.net

  abbrev W : Net
  W = SW.net

  -- ---- a row of the whole as the parts see it

  first : Row → Row
  first r k = ltb k (nets A) && r k

  second : Row → Row
  second r k = ltb k (nets B) && r (move k)

  first_in : (r : Row) (k : ℕ) → k < nets A → first r k ≡ r k
  unfolding first
  first_in r k h = rw (lt-ltb k (nets A) h)

  second_in : (r : Row) (k : ℕ) → k < nets B → second r k ≡ r (move k)
  unfolding second
  second_in r k h = rw (lt-ltb k (nets B) h)

  first-high : (r : Row) (k : ℕ) → first r k ≡ true → (k < nets A) × (r k ≡ true)
  unfolding first
  first-high r k e = (ltb-true k (nets A) (and_left (ltb k (nets A)) (r k) e), and_right (ltb k (nets A)) (r k) e)

  second-high : (r : Row) (k : ℕ) → second r k ≡ true → (k < nets B) × (r (move k) ≡ true)
  unfolding second
  second-high r k e = (ltb-true k (nets B) (and_left (ltb k (nets B)) (r (move k)) e), and_right (ltb k (nets B)) (r (move k)) e)

  first_past : (r : Row) (k : ℕ) → nets A ≤ k → first r k ≡ false
  unfolding first
  first_past r k h = rw (le-ltb k (nets A) h)

  second_past : (r : Row) (k : ℕ) → nets B ≤ k → second r k ≡ false
  unfolding second
  second_past r k h = rw (le-ltb k (nets B) h)

  first-⊑ : (r R : Row) → r ⊑ R → first r ⊑ first R
  first-⊑ r R o k e = let h = first-high r k e in first_in R k h.0 ∙ o k h.1

  second-⊑ : (r R : Row) → r ⊑ R → second r ⊑ second R
  second-⊑ r R o k e = let h = second-high r k e in second_in R k h.0 ∙ o (move k) h.1

  -- rail b of output j of the first part is rail b of input j of the second
  at_seam : (r : Row) (j : ℕ) → j < A.outputs → (b : Bool) → first r (A.rail j b) ≡ second r (input_rail j b)
  at_seam r j h b =
      let l : j < B.inputs = omega (arith, s.seam) in
      first_in r (A.rail j b) (named_a.outs j h b) ∙ ap r (sym (s.tied j l b)) ∙ sym (second_in r (input_rail j b) (omega (arith, input_rail_inside B j b l)))

  -- every net of the whole is one of a part
  gate-of : (k : ℕ) → nets A ≤ k → k < nets W → (i : ℕ) × IsGate B i × (move i ≡ k)
  gate-of k h l =
      let i : ℕ = rails B + (k - nets A) in
      let is : IsGate B (rails B + (k - nets A)) = (omega arith, omega (arith, s.gates, s.inputs)) in
      (rails B + (k - nets A), is, omega (arith, s.moved (rails B + (k - nets A)) is))

  glue : (r t : Row) → first r ≡ first t → second r ≡ second t → ((k : ℕ) → nets W ≤ k → r k ≡ t k) → r ≡ t
  glue r t f g past = fun_ext (λ k. go k (place A k) (place W k))
    where
      under : (k : ℕ) → k < nets A → r k ≡ t k
      under k h = sym (first_in r k h) ∙ ap (λ (x : Row). x k) f ∙ first_in t k h

      go : (k : ℕ) → Place A k → Place W k → r k ≡ t k
      go k (rail h) p = under k (omega arith)
      go k (gate h) p = under k h.1
      go k (none h) (rail l) = absurd (omega (arith, s.inputs))
      go k (none h) (gate l) =
          let i = gate-of k h l.1 in
          ap r (sym i.2) ∙ sym (second_in r i.0 i.1.1) ∙ ap (λ (x : Row). x i.0) g ∙ second_in t i.0 i.1.1 ∙ ap t i.2
      go k (none h) (none l) = past k l

  -- ---- outputs of the whole and of the parts

  -- an output of the whole is one of the second part
  at_output : (r : Row) (j : ℕ) → j < B.outputs → (b : Bool) → second r (B.rail j b) ≡ r (W.rail j b)
  at_output r j h b = second_in r (B.rail j b) (named_b.outs j h b) ∙ ap r (sym (s.rail j h b))

  second_reads : (R : Row) (answer : ℕ → Bool) → Reads B (second R) answer → Reads W R answer
  second_reads R answer f j h =
      let l : j < B.outputs = omega (arith, s.outputs) in
      (sym (at_output R j l (answer j)) ∙ (f j l).0, sym (at_output R j l (not (answer j))) ∙ (f j l).1)

  second-data : (r : Row) → AllData W r → AllData B (second r)
  second-data r x j h = at_output r j h false ∙ x j (omega (arith, s.outputs)) ∙ ap not (sym (at_output r j h true))

  -- where the second part's inputs are as in a row that shows the first part's answer, all outputs of the first part are DATA
  first-data : (r R : Row) (v : ℕ → Bool) → Reads A (first R) v → second r ≡ second R → AllData A (first r)
  first-data r R v reads e j h = same false ∙ reads_data A (first R) v reads j h ∙ ap not (sym (same true))
    where
      same : (b : Bool) → first r (A.rail j b) ≡ first R (A.rail j b)
      same b = at_seam r j h b ∙ ap (λ (x : Row). x (input_rail j b)) e ∙ sym (at_seam R j h b)

  second-null : (r : Row) → AllNull W r → AllNull B (second r)
  second-null r x j h = let n = x j (omega (arith, s.outputs)) in (at_output r j h false ∙ n.0, at_output r j h true ∙ n.1)

  first-null : (r : Row) → second r ≡ low → AllNull A (first r)
  first-null r e j h = (at_seam r j h false ∙ ap (λ (x : Row). x (input_rail j false)) e, at_seam r j h true ∙ ap (λ (x : Row). x (input_rail j true)) e)

  -- ---- the rules of the whole are those of the parts

  first-by_net : (k : ℕ) → k < nets A → (a x y : Bool) → (IsGate A k → x ≡ y) → by_net W k a x ≡ by_net A k a y
  first-by_net k l a x y f = go (place A k)
    where
      go : Place A k → by_net W k a x ≡ by_net A k a y
      go (rail h) = by_net_rail W k a x (omega (arith, s.inputs)) ∙ sym (by_net_rail A k a y h)
      go (gate h) = by_net_gate W k a x (omega (arith, h.0, s.inputs), omega (arith, h.1, s.inputs, s.gates)) ∙ f h ∙ sym (by_net_gate A k a y h)
      go (none h) = absurd (omega arith)

  second-by_net : (k : ℕ) → IsGate B k → (a b x y : Bool) → x ≡ y → by_net W (move k) a x ≡ by_net B k b y
  second-by_net k h a b x y e =
      let m = s.moved k h in
      by_net_gate W (move k) a x (omega (arith, h.0, s.inputs), omega (arith, h.0, h.1, s.inputs, s.gates)) ∙ e ∙ sym (by_net_gate B k b y h)

  first_pins : (r : Row) (k : ℕ) → IsGate A k → AllPins (λ p. r p ≡ first r p) (A.pins k)
  first_pins r k h = AllPins-map (λ p. p < nets A) (λ p. r p ≡ first r p) (λ p l. sym (first_in r p l)) (A.pins k) (named_a.pins k h)

  second-pins : (r : Row) (k : ℕ) → IsGate B k → AllPins (λ p. r (move p) ≡ second r p) (B.pins k)
  second-pins r k h = AllPins-map (λ p. p < nets B) (λ p. r (move p) ≡ second r p) (λ p l. sym (second_in r p l)) (B.pins k) (named_b.pins k h)

  first-up : (c r : Row) (k : ℕ) → k < nets A → rise_up W c r k ≡ rise_up A c (first r) k
  first-up c r k l = first-by_net k l (c k) (W.fires r k) (A.fires (first r) k) (λ h. s.first_fires r k h ∙ SA.fires_local r (first r) k (first_pins r k h))

  second-up : (c d r : Row) (k : ℕ) → IsGate B k → rise_up W c r (move k) ≡ rise_up B d (second r) k
  second-up c d r k h =
      second-by_net k h (c (move k)) (d k) (W.fires r (move k)) (B.fires (second r) k) (s.second_fires r k h ∙ SB.fires_local (λ p. r (move p)) (second r) k (second-pins r k h))

  first-down : (r : Row) (k : ℕ) → k < nets A → fall_down W r k ≡ fall_down A (first r) k
  first-down r k l = first-by_net k l true (may_fall W r k) (may_fall A (first r) k) (λ h. s.first_falls r k h ∙ may_fall_local SA r (first r) k (first_pins r k h))

  second-down : (r : Row) (k : ℕ) → IsGate B k → fall_down W r (move k) ≡ fall_down B (second r) k
  second-down r k h = second-by_net k h true true (may_fall W r (move k)) (may_fall B (second r) k) (s.second_falls r k h ∙ may_fall_local SB (λ p. r (move p)) (second r) k (second-pins r k h))

  -- ---- settled, supported and released rows of the whole are so in each part

  module _ (c : Row) where
    first-settled : (R : Row) → Settled W c R → Settled A c (first R)
    first-settled R rest k = go (place A k)
      where
        under : k < nets A → first R k ≡ rise_up A c (first R) k
        under l = first_in R k l ∙ rest k ∙ first-up c R k l

        go : Place A k → first R k ≡ rise_up A c (first R) k
        go (rail h) = under (omega arith)
        go (gate h) = under h.1
        go (none h) = first_past R k h ∙ sym (by_net_none A k (c k) (A.fires (first R) k) h)

    first-supported : (r : Row) → Supported W c r → Supported A c (first r)
    first-supported r u k e = let h = first-high r k e in sym (first-up c r k h.0) ∙ u k h.1

    first-released : (R r : Row) → Released W R r → Released A (first R) (first r)
    first-released R r f k e z = let h = first-high R k e in sym (first-down r k h.0) ∙ f k h.1 (sym (first_in r k h.0) ∙ z)

    -- nothing is high past the nets
    past_low : (R : Row) → Settled W c R → (r : Row) → r ⊑ R → (k : ℕ) → nets W ≤ k → r k ≡ false
    past_low R rest r o k h = not-true (r k) (λ e. omega (arith, settled_inside W c R rest k (o k e)))

    -- the rails d of the second part spell what the first part answers
    module _ (v : ℕ → Bool) (d : Row) (spelt : (j : ℕ) → j < B.inputs → DataOf d (input_rail j) (v j)) (R : Row) (rest : Settled W c R) (reads : Reads A (first R) v) where
      rail-is : (k : ℕ) → k < rails B → second R k ≡ d k
      rail-is k h =
          let i = rail_of_input k in
          let j : k / 2 < B.inputs = omega arith in
          ap (second R) i.1
          ∙ sym (at_seam R (k / 2) (omega (arith, s.seam)) i.0)
          ∙ data_same (first R) d (A.rail (k / 2)) (input_rail (k / 2)) (v (k / 2)) (reads (k / 2) (omega (arith, s.seam))) (spelt (k / 2) j) i.0
          ∙ ap d (sym i.1)

      second-settled : Settled B d (second R)
      second-settled k = go (place B k)
        where
          go : Place B k → second R k ≡ rise_up B d (second R) k
          go (rail h) = rail-is k h ∙ sym (by_net_rail B k (d k) (B.fires (second R) k) h)
          go (gate h) = second_in R k h.1 ∙ rest (move k) ∙ second-up c d R k h
          go (none h) = second_past R k h ∙ sym (by_net_none B k (d k) (B.fires (second R) k) h)

      second-supported : (r : Row) → Supported W c r → Supported B d (second r)
      second-supported r u k e = go (second-high r k e) (place B k)
        where
          go : (k < nets B) × (r (move k) ≡ true) → Place B k → rise_up B d (second r) k ≡ true
          go x (rail h) =
              by_net_rail B k (d k) (B.fires (second r) k) h ∙ sym (rail-is k h) ∙ second-⊑ r R (supported-⊑-settled SW c r R u rest) k e
          go x (gate h) = sym (second-up c d r k h) ∙ u (move k) x.1
          go x (none h) = absurd (omega (arith, x.0))

      second-released : (r : Row) → Released W R r → Released B (second R) (second r)
      second-released r f k e z = go (second-high R k e) (place B k)
        where
          go : (k < nets B) × (R (move k) ≡ true) → Place B k → fall_down B (second r) k ≡ true
          go x (rail h) = by_net_rail B k true (may_fall B (second r) k) h
          go x (gate h) = sym (second-down r k h) ∙ f (move k) x.1 (sym (second_in r k x.0) ∙ z)
          go x (none h) = absurd (omega (arith, x.0))

  -- ---- tight and clear in a row

  low_first : first low ≡ low
  low_first = fun_ext (λ k. not-true (first low k) (λ e. clash (first-high low k e).1 refl))

  low_second : second low ≡ low
  low_second = fun_ext (λ k. not-true (second low k) (λ e. clash (second-high low k e).1 refl))

  module _ (c : Row) (v : ℕ → Bool) (d : Row) (spelt : (j : ℕ) → j < B.inputs → DataOf d (input_rail j) (v j)) where
    -- Two stages in a row that are tight are tight as one.
    pub series_tight : (answer : ℕ → Bool) → Tight A c v → Tight B d answer → Tight W c answer
    series_tight answer ta tb = record { right = right; tight = tight }
      where
        reads : (R : Row) → Settled W c R → Reads A (first R) v
        reads R rest = ta.right (first R) (first-settled c R rest)

        second-rest : (R : Row) → Settled W c R → Settled B d (second R)
        second-rest R rest = second-settled c v d spelt R rest (reads R rest)

        right : (R : Row) → Settled W c R → Reads W R answer
        right R rest = second_reads R answer (tb.right (second R) (second-rest R rest))

        tight : (R : Row) → Settled W c R → (r : Row) → Supported W c r → AllData W r → r ≡ R
        tight R rest r u x =
            let o : r ⊑ R = supported-⊑-settled SW c r R u rest in
            let u' = second-supported c v d spelt R rest (reads R rest) r u in
            let g : second r ≡ second R = tb.tight (second R) (second-rest R rest) (second r) u' (second-data r x) in
            let f : first r ≡ first R = ta.tight (first R) (first-settled c R rest) (first r) (first-supported c r u) (first-data r R v (reads R rest) g) in
            glue r R f g (λ k h. past_low c R rest r o k h ∙ sym (past_low c R rest R (λ i e. e) k h))

    -- Two stages in a row that are clear are clear as one, where the first shows what it answers.
    pub series_clear : ((R : Row) → Settled A c R → Reads A R v) → Clear A c → Clear B d → Clear W c
    series_clear shows ca cb R rest r o f n =
        let reads : Reads A (first R) v = shows (first R) (first-settled c R rest) in
        let f' = second-released c v d spelt R rest reads r f in
        let g : second r ≡ low = cb (second R) (second-settled c v d spelt R rest reads) (second r) (second-⊑ r R o) f' (second-null r n) in
        let e : first r ≡ low = ca (first R) (first-settled c R rest) (first r) (first-⊑ r R o) (first-released c R r f) (first-null r g) in
        glue r low (e ∙ sym low_first) (g ∙ sym low_second) (past_low c R rest r o)
