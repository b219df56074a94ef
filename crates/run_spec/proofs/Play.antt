-- Lists that are judged: the steps before the first that is barred are those of a run, and with this step they are not.
-- Assumes nothing.
use Prim.Native.Nat.{ℕ, zero, suc, ◌+◌, ◌-◌, ◌≤◌, ◌<◌}
use native.Mathlib.Omega.{arith}
use native.Mathlib.Decide.{dec_lt}
use mathlib.Core.Path.{◌≡◌, refl, sym, ap, ◌∙◌, subst, fun_ext}
use mathlib.Core.Logic.{◌⊎◌, inl, inr}
use mathlib.Core.Bool.{Bool, true, false, cond, not, ◌&&◌}
use mathlib.Core.List.{List, [], ◌∷◌, ◌++◌}
use lib.ListN.{length, take, drop, length-take, length-drop}
use lib.Seq.{take_all, take-take, take-add, drop_at, drop-nil, length-take-le}
use lib.Dec.{eqb}
use Rattle.runs.specs.Row.{Row, Rule, low, toggle, after, Legal, Ended}
use Rattle.runs.specs.Net.{Net, nets, rise_step, fall_step, rise_up, rise_down, fall_up, fall_down, may_rise, may_fall, RiseList, RiseEnd, FallList}
use Rattle.runs.proofs.Test.{clash, true?, not-true, of_not, eqb_eq, eqb_same, and_left, and_right}
use Rattle.runs.proofs.Net.{by_net_none}
use Rattle.verdict.specs.Loops.{In}
use Rattle.verdict.proofs.Words.{index_in, in_index}
use Rattle.check_spec.specs.Lists.{numbers, every}
use Rattle.run_spec.specs.Play.{allowed, none_left, steps_of, RunList, Barred}

-- ---- one rule

module _ (can : Rule) where
  pub allowed_within : (r : Row) (l : List ℕ) → allowed can r l ≤ length l
  unfolding allowed
  allowed_within r [] = omega arith
  allowed_within r (k ∷ l) = go (can r k) (allowed_within (toggle r k) l)
    where
      go : (b : Bool) → allowed can (toggle r k) l ≤ length l → cond b (suc (allowed can (toggle r k) l)) 0 ≤ suc (length l)
      go true h = omega arith
      go false h = omega arith

  pub allowed_legal : (r : Row) (l : List ℕ) → Legal can r (take (allowed can r l) l)
  unfolding allowed
  allowed_legal r [] = tt
  allowed_legal r (k ∷ l) = go (can r k) refl (allowed_legal (toggle r k) l)
    where
      go : (b : Bool) → can r k ≡ b → Legal can (toggle r k) (take (allowed can (toggle r k) l) l)
          → Legal can r (take (cond b (suc (allowed can (toggle r k) l)) 0) (k ∷ l))
      go true e p = (e, p)
      go false e p = tt

  pub allowed_barred : (r : Row) (l : List ℕ) → allowed can r l < length l → ¬ (Legal can r (take (suc (allowed can r l)) l))
  unfolding allowed
  allowed_barred r [] h p = omega arith
  allowed_barred r (k ∷ l) h p = go (can r k) refl (allowed_barred (toggle r k) l) h p
    where
      go : (b : Bool) → can r k ≡ b → (allowed can (toggle r k) l < length l → ¬ (Legal can (toggle r k) (take (suc (allowed can (toggle r k) l)) l)))
          → cond b (suc (allowed can (toggle r k) l)) 0 < suc (length l) → ¬ (Legal can r (take (suc (cond b (suc (allowed can (toggle r k) l)) 0)) (k ∷ l)))
      go true e later h p = later (omega arith) p.1
      go false e later h p = clash p.0 e

  -- all steps are allowed exactly if the list is legal
  pub allowed_all : (r : Row) (l : List ℕ) → Legal can r l → allowed can r l ≡ length l
  unfolding allowed
  allowed_all r [] p = refl
  allowed_all r (k ∷ l) p = rw p.0 (ap suc (allowed_all (toggle r k) l p.1))

-- ---- an end

every_out : (test : ℕ → Bool) (l : List ℕ) → every test l ≡ true → (x : ℕ) → In x l → test x ≡ true
unfolding every
every_out test [] e x h = elim h [ ]
every_out test (y ∷ l) e x h = go (test y) refl e h (every_out test l)
  where
    go : (b : Bool) → test y ≡ b → cond b (every test l) false ≡ true → In x (y ∷ l) → (every test l ≡ true → (x : ℕ) → In x l → test x ≡ true) → test x ≡ true
    go true p q (inl m) later = ap test m ∙ p
    go true p q (inr m) later = later q x m
    go false p q m later = absurd (clash q refl)

every_in : (test : ℕ → Bool) (l : List ℕ) → ((x : ℕ) → In x l → test x ≡ true) → every test l ≡ true
unfolding every
every_in test [] h = refl
every_in test (y ∷ l) h = rw (h y (inl refl)) (every_in test l (λ x m. h x (inr m)))

module _ (can : Rule) (n : ℕ) (r : Row) where
  pub none_left_lem : ((k : ℕ) → k < n → can r k ≡ false) → none_left can n r ≡ true
  unfolding none_left
  none_left_lem h = every_in (λ i. not (can r i)) (numbers 0 n) (λ k l. ap not (h k (in_index n k l)))

  pub some_left : (k : ℕ) → k < n → can r k ≡ true → none_left can n r ≡ false
  unfolding none_left
  some_left k h e =
      not-true (every (λ i. not (can r i)) (numbers 0 n)) (λ q. clash (every_out (λ i. not (can r i)) (numbers 0 n) q k (index_in n k h)) (ap not e))

-- ---- two rules that allow the same

module _ (a b : Rule) (I : Row → Type 0) (same : (r : Row) → I r → (k : ℕ) → a r k ≡ b r k) (stays : (r : Row) (k : ℕ) → I r → a r k ≡ true → I (toggle r k)) where
  pub allowed_alike : (r : Row) (l : List ℕ) → I r → allowed a r l ≡ allowed b r l
  unfolding allowed
  allowed_alike r [] x = refl
  allowed_alike r (k ∷ l) x = go (a r k) refl (λ e. allowed_alike (toggle r k) l (stays r k x e))
    where
      go : (t : Bool) → a r k ≡ t → (a r k ≡ true → allowed a (toggle r k) l ≡ allowed b (toggle r k) l)
          → cond t (suc (allowed a (toggle r k) l)) 0 ≡ cond (b r k) (suc (allowed b (toggle r k) l)) 0
      go true e later = ap suc (later e) ∙ sym (ap (λ (t : Bool). cond t (suc (allowed b (toggle r k) l)) 0) (sym (same r x k) ∙ e))
      go false e later = sym (ap (λ (t : Bool). cond t (suc (allowed b (toggle r k) l)) 0) (sym (same r x k) ∙ e))

  pub left_alike : (n : ℕ) (r : Row) → I r → none_left a n r ≡ none_left b n r
  unfolding none_left
  left_alike n r x = ap (λ (f : ℕ → Bool). every (λ k. not (f k)) (numbers 0 n)) (fun_ext (same r x))

  -- what is known of a row is known after every list
  pub kept_after : (r : Row) (l : List ℕ) → Legal a r l → I r → I (after r l)
  kept_after r [] p x = x
  kept_after r (k ∷ l) p x = kept_after (toggle r k) l p.1 (stays r k x p.0)

module _ (N : Net) (c : Row) (r : Row) where
  pub left_ended : none_left (rise_step N c) (nets N) r ≡ true → Ended (rise_step N c) r
  unfolding none_left
  left_ended e k = go (dec_lt k (nets N))
    where
      outside : (b : Bool) (u d : Bool) → u ≡ false → d ≡ false → cond b d u ≡ false
      outside true u d p q = q
      outside false u d p q = p

      go : Dec (k < nets N) → rise_step N c r k ≡ false
      go (yes h) = of_not (rise_step N c r k) (every_out (λ i. not (rise_step N c r i)) (numbers 0 (nets N)) e k (index_in (nets N) k h))
      go (no h) = outside (r k) (rise_up N c r k) (rise_down N r k) (by_net_none N k (c k) (may_rise N r k) (omega arith)) (by_net_none N k false (may_fall N r k) (omega arith))

  pub ended_left : Ended (rise_step N c) r → none_left (rise_step N c) (nets N) r ≡ true
  unfolding none_left
  ended_left e = every_in (λ i. not (rise_step N c r i)) (numbers 0 (nets N)) (λ k h. ap not (e k))

-- ---- a rise and a fall

module _ (N : Net) (c : Row) (fall : ℕ) (list : List ℕ) where
  abbrev rise : List ℕ
  rise = take fall list

  abbrev up : ℕ
  up = allowed (rise_step N c) low rise

  abbrev down : ℕ
  down = allowed (fall_step N) (after low rise) (drop fall list)

  up_within : up ≤ length rise
  up_within = allowed_within (rise_step N c) low rise

  rise_short : length rise ≤ fall
  rise_short = simp length-take (omega arith)

  rise_part : length rise ≤ length list
  rise_part = simp length-take (omega arith)

  -- the part of a beginning that is no longer than the rise
  start : (m : ℕ) → m ≤ length rise → take fall (take m list) ≡ take m rise
  start m h =
      let a : m ≤ fall = omega (arith, rise_short) in
      take_all fall (take m list) (simp length-take (omega arith)) ∙ sym (take-take m fall list a)

  -- a step of the rise is barred
  in_rise : up < length rise → Barred N c fall list up
  in_rise h = record {
    within = omega (arith, rise_part);
    legal = (
      subst (Legal (rise_step N c) low) (sym (start up (omega arith))) (allowed_legal (rise_step N c) low rise),
      λ l. absurd (omega (arith, rise_short, length-take-le up list (omega (arith, rise_part)))),
    );
    barred = λ l p. allowed_barred (rise_step N c) low rise h (subst (Legal (rise_step N c) low) (start (suc up) (omega arith)) p.0);
  }

  module _ (all : up ≡ length rise) where
    rise_legal : RiseList N c rise
    rise_legal = subst (Legal (rise_step N c) low) (ap (λ (m : ℕ). take m rise) all ∙ take_all (length rise) rise (omega arith)) (allowed_legal (rise_step N c) low rise)

    -- there is no fall
    no_fall : length list ≤ fall → (steps : ℕ) → steps ≡ length list → Barred N c fall list steps
    no_fall h steps e =
        let same : take steps list ≡ list = take_all steps list (omega arith) in
        record {
          within = omega arith;
          legal = rw same (rise_legal, λ l. absurd (omega arith));
          barred = λ l. absurd (omega arith);
        }

    whole : length list ≤ fall → length rise ≡ length list
    whole h = ap length (take_all fall list h)

    -- the rise has not ended
    not_ended : none_left (rise_step N c) (nets N) (after low rise) ≡ false → Barred N c fall list up
    not_ended e = go (dec_lt fall (length list))
      where
        go : Dec (fall < length list) → Barred N c fall list up
        go (no h) = no_fall (omega arith) up (all ∙ whole (omega arith))
        go (yes h) =
            let long : length rise ≡ fall = length-take-le fall list (omega arith) in
            let is : up ≡ fall = all ∙ long in
            rw is (record {
              within = omega arith;
              legal = rw (take-take fall fall list (omega arith)) (rise_legal, λ l. absurd (omega (arith, long)));
              barred = λ l p.
                  let e' : take fall (take (suc fall) list) ≡ rise = take-take fall (suc fall) list (omega arith) in
                  let ended : RiseEnd N c (take fall (take (suc fall) list)) = (p.1 (omega (arith, length-take-le (suc fall) list (omega arith)))).0 in
                  clash (ended_left N c (after low rise) (subst (RiseEnd N c) e' ended)) e;
            })

    -- it has
    ended : none_left (rise_step N c) (nets N) (after low rise) ≡ true → Barred N c fall list (up + down)
    ended e = go (dec_lt fall (length list))
      where
        go : Dec (fall < length list) → Barred N c fall list (up + down)
        go (no h) =
            let none : length (drop fall list) ≡ 0 = simp length-drop (omega arith) in
            no_fall (omega arith) (up + down) (omega (arith, all, whole (omega arith), allowed_within (fall_step N) (after low rise) (drop fall list)))
        go (yes h) =
            let long : length rise ≡ fall = length-take-le fall list (omega arith) in
            let is : up ≡ fall = all ∙ long in
            let left : length (drop fall list) ≡ length list - fall = length-drop fall list in
            let few : down ≤ length (drop fall list) = allowed_within (fall_step N) (after low rise) (drop fall list) in
            let front : (m : ℕ) → take fall (take (fall + m) list) ≡ rise = λ m. take-take fall (fall + m) list (omega arith) in
            let back : (m : ℕ) → drop fall (take (fall + m) list) ≡ take m (drop fall list) = λ m. ap (drop fall) (take-add fall m list) ∙ drop_at rise (take m (drop fall list)) fall long in
            let next : suc (fall + down) ≡ fall + suc down = omega arith in
            rw is (record {
              within = omega arith;
              legal = rw (front down, back down) (rise_legal, λ l. (left_ended N c (after low rise) e, allowed_legal (fall_step N) (after low rise) (drop fall list)));
              barred = λ l p.
                  let q : RunList N c fall (take (fall + suc down) list) = rw next at p in
                  let in_it : fall < length (take (fall + suc down) list) = omega (arith, length-take-le (fall + suc down) list (omega arith)) in
                  allowed_barred (fall_step N) (after low rise) (drop fall list) (omega arith) (rw (front (suc down), back (suc down)) at (q.1 in_it).1);
            })

  pub steps_barred : Barred N c fall list (steps_of N c fall list)
  unfolding steps_of
  steps_barred = go (eqb up (length rise)) refl (none_left (rise_step N c) (nets N) (after low rise)) refl
    where
      go : (a : Bool) → eqb up (length rise) ≡ a → (b : Bool) → none_left (rise_step N c) (nets N) (after low rise) ≡ b → Barred N c fall list (cond (a && b) (up + down) up)
      go true p true q = ended (eqb_eq up (length rise) p) q
      go true p false q = not_ended (eqb_eq up (length rise) p) q
      go false p b q = in_rise (less (dec_lt up (length rise)))
        where
          less : Dec (up < length rise) → up < length rise
          less (yes d) = d
          less (no d) = let z : up ≡ length rise = omega (arith, up_within) in absurd (clash (rw z (eqb_same (length rise))) p)
