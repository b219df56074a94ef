-- The tests of 33, 34 and 35 mean their conditions, and the wiring passes exactly if they find nothing.
-- Assumes nothing.
use Prim.Native.Nat.{ℕ, suc, ◌<◌}
use mathlib.Core.Path.{◌≡◌, refl, sym, ap, subst}
use mathlib.Core.Bool.{Bool, true, false, cond, not, ◌&&◌}
use mathlib.Core.Logic.{◌⊎◌, inl, inr, ⊎_elim, ◌↔◌}
use mathlib.Core.List.{[], ◌∷◌}
use lib.Dec.{eqb}
use borrow.Author.Tests.{eq-eqb, eqb-true, eqb-false}
use Rattle.netlist.specs.Bytes.{outside}
use Rattle.runs.proofs.Test.{clash, not-true, of_not, and_in, and_left, and_right, or_left, or_right, or_cases}
use Rattle.verdict.specs.Lists.{some}
use Rattle.verdict.specs.Paths.{In, Leads, here, onward, OnLoop}
use Rattle.verdict.proofs.Steps.{some_in, some_out, lead_sound, lead_complete}
use Rattle.verdict.proofs.Words.{index_in}
use Rattle.verdict.proofs.Names.{select_in, in_select}
use Rattle.wiring_spec.specs.Parts.{Pipeline, Driver, input, gate, rail, acknowledge, completion, nothing, driver_of, all_nets, data_of, ki_of, register_count}
use Rattle.wiring_spec.specs.Wiring.{gate_steps, openings, is_input, is_rail_of, is_ko_of, data_from, reaches, from_input, registers, sources, reaches_itself, level, behind, is_loop, circular, uneven, missing, foreign, bars, barred}
use Rattle.wiring_spec.specs.Passing.{DataFrom, Reaches, FromInput, ReachesOn, straight, through, ReachesNone, Behind, KoBehind, MayStand, Circular, Uneven, Missing, Barred, Levelled, Acknowledged, Passes, LeastAt, AtNone, Nowhere, FindNothing}
use Rattle.wiring_spec.proofs.Nets.{never, net_where, register_inside, rail_inside, gate_inside, open_inside}

-- ---- numbers that are equal, by their test

same? : (a b : ℕ) → ¬ (¬ (a ≡ b)) → a ≡ b
same? a b f = go (eqb a b) refl
  where
    go : (c : Bool) → eqb a b ≡ c → a ≡ b
    go true e = eqb-true a b e
    go false e = absurd (f (eqb-false a b e))

differ_in : (a b : ℕ) → ¬ (a ≡ b) → not (eqb a b) ≡ true
differ_in a b f = ap not (not-true (eqb a b) (λ e. f (eqb-true a b e)))

differ_out : (a b : ℕ) → not (eqb a b) ≡ true → ¬ (a ≡ b)
differ_out a b e = eqb-false a b (of_not (eqb a b) e)

module _ (p : Pipeline) where
  abbrev m : ℕ
  m = register_count p

  -- ---- reaching

  module _ (goal : Driver → Bool) (t : ℕ) where
    abbrev there : ℕ → Bool
    there x = goal (driver_of p x)

    data_sound : data_from p goal t ≡ true → DataFrom p goal t
    unfolding data_from
    data_sound e = lead_sound (gate_steps p) there (all_nets p) (data_of p t) e

    data_complete : ¬ (goal nothing ≡ true) → DataFrom p goal t → data_from p goal t ≡ true
    unfolding data_from
    data_complete net r =
        lead_complete (gate_steps p) there (all_nets p) (gate_inside p) (data_of p t) r.1 r.2 (net_where p r.2 (λ d. goal d ≡ true) net r.3) r.3 r.4

  pub reaches_sound : (k t : ℕ) → reaches p k t ≡ true → Reaches p k t
  unfolding reaches
  reaches_sound k t e = data_sound (is_rail_of k) t e

  pub reaches_complete : (k t : ℕ) → Reaches p k t → reaches p k t ≡ true
  unfolding reaches is_rail_of
  reaches_complete k t r = data_complete (is_rail_of k) t never r

  pub input_sound : (t : ℕ) → from_input p t ≡ true → FromInput p t
  unfolding from_input
  input_sound t e = data_sound is_input t e

  pub input_complete : (t : ℕ) → FromInput p t → from_input p t ≡ true
  unfolding from_input is_input
  input_complete t r = data_complete is_input t never r

  -- who reaches and who is reached are registers of the file
  pub source_inside : (k t : ℕ) → Reaches p k t → k < m
  source_inside k t r = rail_inside p k r.2 r.3

  pub target_inside : (k t : ℕ) → Reaches p k t → t < m
  target_inside k t r = register_inside p t r.0 r.1

  pub source_in : (k t : ℕ) → Reaches p k t → In k (sources p t)
  unfolding sources
  source_in k t r = in_select (λ k. reaches p k t) (registers p) k (index_in m k (source_inside k t r)) (reaches_complete k t r)

  pub source_out : (k t : ℕ) → In k (sources p t) → Reaches p k t
  unfolding sources
  source_out k t i = reaches_sound k t (select_in (λ k. reaches p k t) (registers p) k i).1

  -- a test of the registers that k reaches
  reached_in : (k t : ℕ) (test : ℕ → Bool) → Reaches p k t → test t ≡ true → some test (registers p) ≡ true
  reached_in k t test r e = some_in test (registers p) t (index_in m t (target_inside k t r)) e

  -- ---- a register that reaches itself

  on_leads : (k t : ℕ) → ReachesOn p k t → (j : ℕ) × In j (sources p t) × Leads (sources p) k j
  on_leads k t (straight r) = (k, source_in k t r, here)
  on_leads k t (through {j = j} a r) = let l = on_leads k j a in (j, source_in j t r, onward l.1 l.2)

  pub leads_on : (k t : ℕ) {j : ℕ} → Leads (sources p) k j → In j (sources p t) → ReachesOn p k t
  leads_on k t here i = straight (source_out k t i)
  leads_on k t (onward {x = x} {z = z} s l) i = through (leads_on k x l s) (source_out x t i)

  pub itself_loop : (k : ℕ) → ReachesOn p k k ↔ OnLoop (sources p) k
  itself_loop k = (on_leads k k, λ l. leads_on k k l.2 l.1)

  pub step_inside : (u v : ℕ) → In v (sources p u) → u < m
  step_inside u v i = target_inside v u (source_out v u i)

  pub on_inside : (k : ℕ) → ReachesOn p k k → k < m
  on_inside k r = let l = on_leads k k r in step_inside k l.0 l.1

  pub itself_sound : (k : ℕ) → reaches_itself p k ≡ true → ReachesOn p k k
  unfolding reaches_itself
  itself_sound k e =
      let r = lead_sound (sources p) (eqb k) m (sources p k) e in
      leads_on k k (subst (λ (y : ℕ). Leads (sources p) y r.0) (sym (eqb-true k r.2 r.3)) r.4) r.1

  pub itself_complete : (k : ℕ) → ReachesOn p k k → reaches_itself p k ≡ true
  unfolding reaches_itself
  itself_complete k r =
      let l = on_leads k k r in
      lead_complete (sources p) (eqb k) m step_inside (sources p k) l.1 k (step_inside k l.0 l.1) (eq-eqb k k refl) l.2

  -- ---- behind a Ki

  module _ (goal : ℕ → Bool) (k : ℕ) where
    pub behind_sound : behind p goal k ≡ true → (y : ℕ) × (goal y ≡ true) × Behind p k y
    unfolding behind
    behind_sound e = let r = lead_sound (openings p) goal (all_nets p) (ki_of p k ∷ []) e in (r.2, r.3, at r.0 r.2 r.1 r.4)
      where
        at : (x y : ℕ) → In x (ki_of p k ∷ []) → Leads (openings p) y x → Behind p k y
        at x y (inl e) l = subst (Leads (openings p) y) e l
        at x y (inr i) l = absurd i

    -- nothing but itself stands behind the outside, and that is no net
    pub behind_complete : (y : ℕ) → y < all_nets p → goal y ≡ true → Behind p k y → behind p goal k ≡ true
    unfolding behind
    behind_complete y h g b = lead_complete (openings p) goal (all_nets p) (open_inside p) (ki_of p k ∷ []) (inl refl) y h g b

  pub loop_sound : (x : ℕ) → is_loop p x ≡ true → OnLoop (openings p) x
  unfolding is_loop
  loop_sound x e =
      let r = lead_sound (openings p) (eqb x) (all_nets p) (openings p x) e in
      (r.0, r.1, subst (λ (y : ℕ). Leads (openings p) y r.0) (sym (eqb-true x r.2 r.3)) r.4)

  pub loop_complete : (x : ℕ) → OnLoop (openings p) x → is_loop p x ≡ true
  unfolding is_loop
  loop_complete x o =
      lead_complete (openings p) (eqb x) (all_nets p) (open_inside p) (openings p x) o.1 x (open_inside p x o.0 o.1) (eq-eqb x x refl) o.2

  pub ko_inside : (t y : ℕ) → is_ko_of t (driver_of p y) ≡ true → y < all_nets p
  unfolding is_ko_of
  ko_inside t y e = net_where p y (λ d. is_ko_of t d ≡ true) never e

  abbrev ko_behind : ℕ → ℕ → Bool
  ko_behind k t = behind p (λ x. is_ko_of t (driver_of p x)) k

  pub ko_sound : (k t : ℕ) → ko_behind k t ≡ true → KoBehind p k t
  ko_sound k t e = behind_sound (λ x. is_ko_of t (driver_of p x)) k e

  pub ko_complete : (k t : ℕ) → KoBehind p k t → ko_behind k t ≡ true
  ko_complete k t b = behind_complete (λ x. is_ko_of t (driver_of p x)) k b.0 (ko_inside t b.0 b.1) b.1 b.2

  -- ---- 33

  pub circular_sound : (k : ℕ) → circular p k ≡ true → Circular p k
  unfolding circular
  circular_sound k e =
      ⊎_elim (λ a. inl (itself_sound k a)) (λ a. let r = behind_sound (is_loop p) k a in inr (r.0, r.2, loop_sound r.0 r.1))
      (or_cases (reaches_itself p k) (behind p (is_loop p) k) e)

  pub circular_complete : (k : ℕ) → Circular p k → circular p k ≡ true
  unfolding circular
  circular_complete k (inl r) = or_left (reaches_itself p k) (behind p (is_loop p) k) (itself_complete k r)
  circular_complete k (inr r) =
      or_right (reaches_itself p k) (behind p (is_loop p) k)
      (behind_complete (is_loop p) k r.0 (open_inside p r.0 r.2.0 r.2.1) (loop_complete r.0 r.2) r.1)

  module _ (t : ℕ) where
    abbrev unlike : ℕ → Bool
    unlike k = not (eqb (level p t) (suc (level p k)))

    abbrev high-input : Bool
    high-input = from_input p t && not (eqb (level p t) 1)

    pub uneven_sound : uneven p t ≡ true → Uneven p t
    unfolding uneven
    uneven_sound e = ⊎_elim registers-out inputs (or_cases (some unlike (sources p t)) high-input e)
      where
        registers-out : some unlike (sources p t) ≡ true → Uneven p t
        registers-out a = let r = some_out unlike (sources p t) a in inl (r.0, source_out r.0 t r.1, differ_out (level p t) (suc (level p r.0)) r.2)

        inputs : high-input ≡ true → Uneven p t
        inputs a = inr (input_sound t (and_left (from_input p t) (not (eqb (level p t) 1)) a), differ_out (level p t) 1 (and_right (from_input p t) (not (eqb (level p t) 1)) a))

    pub uneven_complete : Uneven p t → uneven p t ≡ true
    unfolding uneven
    uneven_complete (inl u) =
        or_left (some unlike (sources p t)) high-input
        (some_in unlike (sources p t) u.0 (source_in u.0 t u.1) (differ_in (level p t) (suc (level p u.0)) u.2))
    uneven_complete (inr u) =
        or_right (some unlike (sources p t)) high-input (and_in (from_input p t) (not (eqb (level p t) 1)) (input_complete t u.0) (differ_in (level p t) 1 u.1))

  -- ---- 34

  module _ (k : ℕ) where
    abbrev lacks : ℕ → Bool
    lacks t = reaches p k t && not (ko_behind k t)

    pub missing_sound : missing p k ≡ true → Missing p k
    unfolding missing
    missing_sound e =
        let r = some_out lacks (registers p) e in (
          r.0,
          reaches_sound k r.0 (and_left (reaches p k r.0) (not (ko_behind k r.0)) r.2),
          λ b. clash (ko_complete k r.0 b) (of_not (ko_behind k r.0) (and_right (reaches p k r.0) (not (ko_behind k r.0)) r.2)),
        )

    pub missing_complete : Missing p k → missing p k ≡ true
    unfolding missing
    missing_complete l =
        reached_in k l.0 lacks l.1
        (and_in (reaches p k l.0) (not (ko_behind k l.0)) (reaches_complete k l.0 l.1) (ap not (not-true (ko_behind k l.0) (λ e. l.2 (ko_sound k l.0 e)))))

    -- ---- 35

    foreign-out : (t : ℕ) → foreign p k t ≡ true → ¬ (Reaches p k t ⊎ (level p t ≡ suc (level p k)))
    unfolding foreign
    foreign-out t e (inl r) = clash (reaches_complete k t r) (of_not (reaches p k t) (and_left (not (reaches p k t)) (not (eqb (level p t) (suc (level p k)))) e))
    foreign-out t e (inr q) = differ_out (level p t) (suc (level p k)) (and_right (not (reaches p k t)) (not (eqb (level p t) (suc (level p k)))) e) q

    foreign-in : (t : ℕ) → ¬ (Reaches p k t ⊎ (level p t ≡ suc (level p k))) → foreign p k t ≡ true
    unfolding foreign
    foreign-in t f =
        and_in (not (reaches p k t)) (not (eqb (level p t) (suc (level p k)))) (ap not (not-true (reaches p k t) (λ e. f (inl (reaches_sound k t e)))))
        (differ_in (level p t) (suc (level p k)) (λ e. f (inr e)))

    bars-out : (d : Driver) → bars p k d ≡ true → ¬ (MayStand p k d)
    unfolding bars
    bars-out input e s = s
    bars-out (gate pins) e s = s
    bars-out (rail j b) e s = s
    bars-out (acknowledge t) e s = foreign-out t e s
    bars-out (completion pins) e s = never e
    bars-out nothing e s = never e

    bars-in : (d : Driver) → ¬ (MayStand p k d) → bars p k d ≡ true
    unfolding bars
    bars-in input f = refl
    bars-in (gate pins) f = refl
    bars-in (rail j b) f = refl
    bars-in (acknowledge t) f = foreign-in t f
    bars-in (completion pins) f = absurd (f tt)
    bars-in nothing f = absurd (f tt)

    abbrev bars_at : ℕ → Bool
    bars_at x = bars p k (driver_of p x)

    abbrev some_reached : Bool
    some_reached = some (reaches p k) (registers p)

    pub none_sound : some_reached ≡ false → ReachesNone p k
    none_sound e t r = clash (reached_in k t (reaches p k) r (reaches_complete k t r)) e

    pub none_complete : ReachesNone p k → some_reached ≡ false
    none_complete f = not-true some_reached (λ e. let r = some_out (reaches p k) (registers p) e in f r.0 (reaches_sound k r.0 r.2))

    pub barred_sound : barred p k ≡ true → Barred p k
    unfolding barred
    barred_sound = go some_reached refl
      where
        go : (c : Bool) → some_reached ≡ c → cond c (behind p bars_at k) (not (eqb (ki_of p k) outside)) ≡ true → Barred p k
        go true q e =
            let r = some_out (reaches p k) (registers p) q in
            let b = behind_sound bars_at k e in
            inl ((r.0, reaches_sound k r.0 r.2), (b.0, b.2, bars-out (driver_of p b.0) b.1))
        go false q e = inr (none_sound q, differ_out (ki_of p k) outside e)

    pub barred_complete : Barred p k → barred p k ≡ true
    unfolding barred bars
    barred_complete (inl (r, b)) =
        let y = bars-in (driver_of p b.0) b.2 in
        rw (reached_in k r.0 (reaches p k) r.1 (reaches_complete k r.0 r.1))
        (behind_complete bars_at k b.0 (net_where p b.0 (λ d. bars p k d ≡ true) never y) y b.1)
    barred_complete (inr (f, d)) = rw (none_complete f) (differ_in (ki_of p k) outside d)

  -- ---- exactly

  module _ (fails : ℕ → Bool) (P : ℕ → Type 0) where
    pub none_out : ((k : ℕ) → P k → fails k ≡ true) → Nowhere p fails → AtNone p P
    none_out complete n k h c = clash (complete k c) (n k h)

    none_in : ((k : ℕ) → fails k ≡ true → P k) → AtNone p P → Nowhere p fails
    none_in sound f k h = not-true (fails k) (λ e. f k h (sound k e))

    pub least_out : ((k : ℕ) → fails k ≡ true → P k) → ((k : ℕ) → P k → fails k ≡ true) → (k : ℕ) → fails k ≡ true → ((j : ℕ) → j < k → fails j ≡ false) → LeastAt P k
    least_out sound complete k e less = (sound k e, λ j h c. clash (complete j c) (less j h))

  levelled_in : AtNone p (Circular p) → AtNone p (Uneven p) → Levelled p
  levelled_in c u = record {
    forward = λ k r. c k (on_inside k r) (inl r);
    no_loop = λ k y h b o. c k h (inr (y, b, o));
    equal = λ k t r. same? (level p t) (suc (level p k)) (λ d. u t (target_inside k t r) (inl (k, r, d)));
    first = λ t r. same? (level p t) 1 (λ d. u t (register_inside p t r.0 r.1) (inr (r, d)));
  }

  -- 33 finds nothing
  pub levelled_found : Nowhere p (circular p) → Nowhere p (uneven p) → Levelled p
  levelled_found c u = levelled_in (none_out (circular p) (Circular p) circular_complete c) (none_out (uneven p) (Uneven p) uneven_complete u)

  acknowledged_in : (k : ℕ) → ¬ (Missing p k) → ¬ (Barred p k) → Acknowledged p k
  acknowledged_in k l b = record { all = all_in; only = only-in; alone = λ f. same? (ki_of p k) outside (λ d. b (inr (f, d))) }
    where
      all_in : (t : ℕ) → Reaches p k t → KoBehind p k t
      all_in t r = go (ko_behind k t) refl
        where
          go : (c : Bool) → ko_behind k t ≡ c → KoBehind p k t
          go true e = ko_sound k t e
          go false e = absurd (l (t, r, λ q. clash (ko_complete k t q) e))

      only-in : (t : ℕ) → Reaches p k t → (y : ℕ) → Behind p k y → MayStand p k (driver_of p y)
      only-in t r y q = go (driver_of p y) (λ f. b (inl ((t, r), (y, q, f))))
        where
          ko : (u : ℕ) → ¬ (¬ (Reaches p k u ⊎ (level p u ≡ suc (level p k)))) → Reaches p k u ⊎ (level p u ≡ suc (level p k))
          ko u f = at (reaches p k u) refl
            where
              at : (c : Bool) → reaches p k u ≡ c → Reaches p k u ⊎ (level p u ≡ suc (level p k))
              at true e = inl (reaches_sound k u e)
              at false e = inr (same? (level p u) (suc (level p k)) (λ d. f (λ s. ⊎_elim (λ a. clash (reaches_complete k u a) e) d s)))

          go : (d : Driver) → ¬ (¬ (MayStand p k d)) → MayStand p k d
          go input f = f (λ s. s)
          go (gate pins) f = f (λ s. s)
          go (rail j b) f = f (λ s. s)
          go (acknowledge u) f = ko u f
          go (completion pins) f = tt
          go nothing f = tt

  -- the wiring passes exactly if 33, 34 and 35 find nothing
  pub passes_exactly : Passes p ↔ FindNothing p
  passes_exactly = (forth, back)
    where
      forth : Passes p → FindNothing p
      forth w = record {
        circular = none_in (circular p) (Circular p) circular_sound (λ k h c. ⊎_elim (w.levelled.forward k) (λ b. w.levelled.no_loop k b.0 h b.1 b.2) c);
        uneven = none_in (uneven p) (Uneven p) uneven_sound (λ t h c. ⊎_elim (λ u. u.2 (w.levelled.equal u.0 t u.1)) (λ u. u.1 (w.levelled.first t u.0)) c);
        missing = none_in (missing p) (Missing p) missing_sound (λ k h l. l.2 ((w.acknowledged k h).all l.0 l.1));
        barred = none_in (barred p) (Barred p) barred_sound
            (λ k h b. ⊎_elim (λ c. c.1.2 ((w.acknowledged k h).only c.0.0 c.0.1 c.1.0 c.1.1)) (λ c. c.1 ((w.acknowledged k h).alone c.0)) b);
      }

      back : FindNothing p → Passes p
      back n = record {
        levelled = levelled_found n.circular n.uneven;
        acknowledged = λ k h. acknowledged_in k (none_out (missing p) (Missing p) missing_complete n.missing k h) (none_out (barred p) (Barred p) barred_complete n.barred k h);
      }
