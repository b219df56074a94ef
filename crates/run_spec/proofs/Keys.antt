-- Runs by keys: a run that is played by keys is full, with keys that differ it is the only one, and every full run is played by the keys that say in which
-- place each net stands in it. So keys give all orders, and nothing else.
-- Assumes nothing.
use Prim.Native.Nat.{ℕ, zero, suc, ◌+◌, ◌-◌, ◌*◌, ◌^◌, ◌≤◌, ◌<◌}
use native.Mathlib.Omega.{arith}
use native.Mathlib.Decide.{dec_lt}
use mathlib.Core.Path.{◌≡◌, refl, sym, ap, ap₂, ◌∙◌, subst}
use mathlib.Core.Logic.{◌⊎◌, inl, inr, ◌≢◌}
use mathlib.Core.Bool.{Bool, true, false, cond}
use mathlib.Core.List.{List, [], ◌∷◌, ◌++◌, map}
use lib.ListN.{length, get_or, drop, length-append, length-map, get_or-append, get_or-eq_default}
use lib.Seq.{drop_at, get_or-append-add}
use lib.Dec.{eqb}
use Rattle.runs.specs.Row.{Row, Rule, low, toggle, after, Legal, Ended, tally, times}
use Rattle.runs.specs.Net.{Net, nets, rise_step, fall_step, rise_up, rise_down, fall_up, fall_down, may_rise, may_fall, RiseList, RiseEnd, FallList, FallEnd}
use Rattle.runs.specs.Acyclic.{Acyclic}
use Rattle.runs.specs.Settled.{Settled}
use Rattle.runs.specs.FallWitness.{FullCycle}
use Rattle.runs.proofs.Test.{clash, true?, same?, eqb_same, eqb_other}
use Rattle.runs.proofs.Row.{count-≤}
use Rattle.runs.proofs.Net.{by_net_none}
use Rattle.runs.proofs.System.{System, can, Quiet, complement}
use Rattle.runs.proofs.Persistent.{can_rise, quiet_toggle, quiet_low, ⊑-after, times_after, length_after, ended_full}
use Rattle.runs.proofs.Dual.{legal_dual, ended_dual}
use Rattle.runs.proofs.Moves.{rise, fall, fallen, settled_dual_quiet}
use Rattle.verdict.specs.Loops.{In}
use Rattle.check_spec.specs.Lists.{numbers}
use Rattle.run_spec.specs.Played.{rise_by, fall_by}
use Rattle.run_spec.specs.Keys.{key_in, LeastFirst, Distinct, PlayedBy}
use Rattle.run_spec.proofs.Played.{least-one}
use Rattle.run_spec.proofs.Runs.{rise_least, fall_least, least_up}

-- ---- the place of a net in a list

-- where net k stands first; where it does not, behind all that do, by its number
abbrev pub place : ℕ → List ℕ → ℕ
place k [] = k
place k (i ∷ l) = cond (eqb k i) 0 (suc (place k l))

pub place_one : (l : List ℕ) (i k : ℕ) → place i l ≡ place k l → i ≡ k
place_one [] i k e = e
place_one (j ∷ l) i k e = go (same? i j) (same? k j) (place_one l i k)
  where
    go : (i ≡ j) ⊎ (i ≢ j) → (k ≡ j) ⊎ (k ≢ j) → (place i l ≡ place k l → i ≡ k) → i ≡ k
    go (inl a) (inl b) later = a ∙ sym b
    go (inl a) (inr b) later = absurd (omega (arith, rw (eqb_other k j b, ap (λ (x : ℕ). eqb x j) a, eqb_same j) at e))
    go (inr a) (inl b) later = absurd (omega (arith, rw (eqb_other i j a, ap (λ (x : ℕ). eqb x j) b, eqb_same j) at e))
    go (inr a) (inr b) later = later (omega (arith, rw (eqb_other i j a, eqb_other k j b) at e))

pub place_few : (l : List ℕ) (k : ℕ) → place k l ≤ length l + k
place_few [] k = omega arith
place_few (i ∷ l) k = go (eqb k i) (place_few l k)
  where
    go : (b : Bool) → place k l ≤ length l + k → cond b 0 (suc (place k l)) ≤ suc (length l) + k
    go true h = omega arith
    go false h = omega arith

-- no net stands twice
abbrev Once : List ℕ → Type 0
Once l = (k : ℕ) → times k l ≤ 1

not_twice : (k : ℕ) (l : List ℕ) → times k l ≡ 0 → ¬ (In k l)
not_twice k [] e h = h
not_twice k (i ∷ l) e h = go (same? k i) h (not_twice k l)
  where
    go : (k ≡ i) ⊎ (k ≢ i) → In k (i ∷ l) → (times k l ≡ 0 → ¬ (In k l)) → ⊥
    go (inl p) h later = omega (arith, rw (ap (λ (x : ℕ). eqb x i) p, eqb_same i) at e)
    go (inr n) (inl p) later = n p
    go (inr n) (inr p) later = later (rw (eqb_other k i n) at e) p

-- the keys rise along a list
abbrev Sorted : (ℕ → ℕ) → List ℕ → Type 0
Sorted key [] = Unit {0}
Sorted key (k ∷ l) = ((i : ℕ) → In i l → key k ≤ key i) × Sorted key l

sorted_from : (key : ℕ → ℕ) (b : ℕ) (l : List ℕ) → Once l → ((x : ℕ) → In x l → key x ≡ b + place x l) → Sorted key l
sorted_from key b [] once is = tt
sorted_from key b (k ∷ l) once is = (
  λ i h. omega (arith, is k (inl refl), first, is i (inr h)),
  sorted_from key (suc b) l (λ x. rest x (same? x k) (once x)) (λ x h. is x (inr h) ∙ later x h),
)
  where
    first : place k (k ∷ l) ≡ 0
    first = rw (eqb_same k)

    rest : (x : ℕ) → (x ≡ k) ⊎ (x ≢ k) → tally (eqb x k) (times x l) ≤ 1 → times x l ≤ 1
    rest x (inl p) h = omega (arith, rw (ap (λ (y : ℕ). eqb y k) p, eqb_same k) at h)
    rest x (inr n) h = rw (eqb_other x k n) at h

    none : times k l ≡ 0
    none = omega (arith, rw (eqb_same k) at (once k))

    later : (x : ℕ) → In x l → b + place x (k ∷ l) ≡ suc b + place x l
    later x h =
        let d : x ≢ k = λ p. not_twice k l none (subst (λ (y : ℕ). In y l) p h) in
        rw (eqb_other x k d) (omega arith)

-- ---- every full run is played by keys that rise along it

listed : (i : ℕ) (l : List ℕ) → times i l ≡ 1 → In i l
listed i [] e = absurd (omega arith)
listed i (k ∷ l) e = go (listed i l) (same? i k)
  where
    go : (times i l ≡ 1 → In i l) → (i ≡ k) ⊎ (i ≢ k) → In i (k ∷ l)
    go later (inl p) = inl p
    go later (inr n) = inr (later (rw (eqb_other i k n) at e))

module _ (S : System) (key : ℕ → ℕ) where
  -- what may switch stands in it
  enabled_listed : (r : Row) (l : List ℕ) → Quiet S r → Legal (can S) r l → Ended (can S) (after r l) → (i : ℕ) → can S r i ≡ true → In i l
  enabled_listed r l q p e i c =
      let u = can_rise S r i q c in
      let h : after r l i ≡ true = ended_full S (after r l) e i (S.up_mono r (after r l) (⊑-after S r l q p) i u.1) in
      listed i l (omega (arith, rw (u.0, h) at (times_after S r l q p i)))

  sorted_least : (r : Row) (l : List ℕ) → Quiet S r → Legal (can S) r l → Ended (can S) (after r l) → Sorted key l → LeastFirst (can S) key r l
  sorted_least r [] q p e s = e
  sorted_least r (k ∷ l) q p e s = (
    p.0,
    λ i c. least i (enabled_listed r (k ∷ l) q p e i c),
    sorted_least (toggle r k) l (quiet_toggle S r k q p.0) p.1 e s.1,
  )
    where
      least : (i : ℕ) → In i (k ∷ l) → key k ≤ key i
      least i (inl x) = omega (arith, ap key x)
      least i (inr x) = s.0 i x

  -- and so by the places in it
  placed_least : (r : Row) (l : List ℕ) → Quiet S r → Legal (can S) r l → Ended (can S) (after r l)
      → ((x : ℕ) → x < S.size → key x ≡ place x l) → LeastFirst (can S) key r l
  placed_least r l q p e is = sorted_least r l q p e (sorted_from key 0 l once (λ x h. is x (inside x h) ∙ plus (place x l)))
    where
      plus : (x : ℕ) → x ≡ 0 + x
      plus x = omega arith

      at_most : (b a : Bool) (n : ℕ) → n + tally b 0 ≡ tally a 0 → n ≤ 1
      at_most b true n h = omega arith
      at_most b false n h = omega arith

      once : Once l
      once k = at_most (r k) (after r l k) (times k l) (times_after S r l q p k)

      inside : (x : ℕ) → In x l → x < S.size
      inside x h = go r l q p x h
        where
          go : (r : Row) (l : List ℕ) → Quiet S r → Legal (can S) r l → (x : ℕ) → In x l → x < S.size
          go r [] q p x x6 = elim x6 [ ]
          go r (k ∷ l) q p x (inl m) = rw m (S.up_inside r k (can_rise S r k q p.0).1)
          go r (k ∷ l) q p x (inr m) = go (toggle r k) l (quiet_toggle S r k q p.0) p.1 x m

  -- it has at most one switching for each net
  pub run_short : (r : Row) (l : List ℕ) → Quiet S r → Legal (can S) r l → length l ≤ S.size
  run_short r l q p = omega (arith, length_after S r l q p, count-≤ S.size (after r l))

-- ---- a stage without loops

-- a net that may switch is one
module _ (N : Net) (r : Row) (k : ℕ) where
  inside_by : (b u d : Bool) → cond b d u ≡ true → (nets N ≤ k → u ≡ false) → (nets N ≤ k → d ≡ false) → k < nets N
  inside_by b u d e f g = go (dec_lt k (nets N)) b e
    where
      go : Dec (k < nets N) → (b : Bool) → cond b d u ≡ true → k < nets N
      go (yes h) b e = h
      go (no h) true e = absurd (clash e (g (omega arith)))
      go (no h) false e = absurd (clash e (f (omega arith)))

  pub rise_inside : (c : Row) → rise_step N c r k ≡ true → k < nets N
  rise_inside c e = inside_by (r k) (rise_up N c r k) (rise_down N r k) e (by_net_none N k (c k) (may_rise N r k)) (by_net_none N k false (may_fall N r k))

  pub fall_inside : fall_step N r k ≡ true → k < nets N
  fall_inside e = inside_by (r k) (fall_up N r k) (fall_down N r k) e (by_net_none N k false (may_rise N r k)) (by_net_none N k true (may_fall N r k))

module _ (S : Acyclic) (c : Row) (key : ℕ → ℕ) where
  abbrev N : Net
  N = S.net

  only-rise : Distinct (nets N) key → (l m : List ℕ) → LeastFirst (rise_step N c) key low l → LeastFirst (rise_step N c) key low m → l ≡ m
  only-rise d l m = least-one (rise_step N c) key (λ r i k a b e. d i k (rise_inside N r i c a) (rise_inside N r k c b) e) low l m

  pub rise_played : PlayedBy (rise_step N c) key (nets N) low (rise_by key N c low)
  rise_played = record { least_first = rise_least S c key; only = λ d l p. only-rise d l (rise_by key N c low) p (rise_least S c key) }

  -- a full rise is played by the places in it
  pub rise_by_places : (l : List ℕ) → RiseList N c l → RiseEnd N c l → ((x : ℕ) → x < nets N → key x ≡ place x l) → rise_by key N c low ≡ l
  rise_by_places l p e is =
      only-rise (λ i k a b q. place_one l i k (sym (is i a) ∙ q ∙ is k b)) (rise_by key N c low) l (rise_least S c key)
      (placed_least (rise S c) key low l (quiet_low (rise S c)) p e is)

  module _ (R : Row) (rest : Settled N c R) where
    only-fall : Distinct (nets N) key → (l m : List ℕ) → LeastFirst (fall_step N) key R l → LeastFirst (fall_step N) key R m → l ≡ m
    only-fall d l m = least-one (fall_step N) key (λ r i k a b e. d i k (fall_inside N r i a) (fall_inside N r k b) e) R l m

    pub fall_played : PlayedBy (fall_step N) key (nets N) R (fall_by key N R low)
    fall_played = record { least_first = fall_least S c R rest key; only = λ d l p. only-fall d l (fall_by key N R low) p (fall_least S c R rest key) }

    pub fall_by_places : (m : List ℕ) → FallList N R m → FallEnd N R m → ((x : ℕ) → x < nets N → key x ≡ place x m) → fall_by key N R low ≡ m
    fall_by_places m p e is =
        only-fall (λ i k a b q. place_one m i k (sym (is i a) ∙ q ∙ is k b)) (fall_by key N R low) m (fall_least S c R rest key)
        (least_up (fall S) key R m
        (placed_least (fallen S) key (complement R) m (settled_dual_quiet S c R rest) (legal_dual (fall S) R m p) (ended_dual (fall S) R m e) is))

-- ---- two lists of places as one list of keys

places_at : (f : ℕ → ℕ) (j m k : ℕ) → k < m → get_or (map f (numbers j m)) k 0 ≡ f (j + k)
unfolding numbers
places_at f j zero k h = absurd (omega arith)
places_at f j (suc m) zero h = let e : j + 0 ≡ j = omega arith in rw e
places_at f j (suc m) (suc k) h = let e : suc j + k ≡ j + suc k = omega arith in places_at f (suc j) m k (omega arith) ∙ ap f e

listed_at : (f : ℕ → ℕ) (n k : ℕ) → k < n → get_or (map f (numbers 0 n)) k 0 ≡ f k
listed_at f n k h = let e : 0 + k ≡ k = omega arith in places_at f 0 n k h ∙ ap f e

numbers-long : (j m : ℕ) → length (numbers j m) ≡ m
unfolding numbers
numbers-long j zero = refl
numbers-long j (suc m) = ap suc (numbers-long (suc j) m)

module _ (n : ℕ) (l m : List ℕ) where
  abbrev front : List ℕ
  front = map (λ k. place k l) (numbers 0 n)

  abbrev back : List ℕ
  back = map (λ k. place k m) (numbers 0 n)

  abbrev pub place_keys : List ℕ
  place_keys = front ++ back

  front_long : length front ≡ n
  front_long = length-map (numbers 0 n) (λ k. place k l) ∙ numbers-long 0 n

  back_long : length back ≡ n
  back_long = length-map (numbers 0 n) (λ k. place k m) ∙ numbers-long 0 n

  pub keys_long : length place_keys ≡ 2 * n
  keys_long = omega (arith, length-append front back, front_long, back_long)

  pub key_rise : (x : ℕ) → x < n → key_in place_keys x ≡ place x l
  key_rise x h = get_or-append front back 0 x (omega (arith, front_long)) ∙ listed_at (λ k. place k l) n x h

  pub key_fall : (x : ℕ) → x < n → key_in (drop n place_keys) x ≡ place x m
  key_fall x h = ap (λ (a : List ℕ). get_or a x 0) (drop_at front back n front_long) ∙ listed_at (λ k. place k m) n x h

  pub keys_small : length l ≤ n → length m ≤ n → (i : ℕ) → get_or place_keys i 0 ≤ 2 * n
  keys_small a b i = go (dec_lt i n) (dec_lt i (2 * n))
    where
      go : Dec (i < n) → Dec (i < 2 * n) → get_or place_keys i 0 ≤ 2 * n
      go (yes h) d = omega (arith, key_rise i h, place_few l i)
      go (no h) (yes d) =
          let e : i ≡ length front + (i - n) = omega (arith, front_long) in
          omega (arith, ap (λ (x : ℕ). get_or place_keys x 0) e, get_or-append-add front back (i - n) 0, listed_at (λ k. place k m) n (i - n) (omega arith), place_few m (i - n))
      go (no h) (no d) = omega (arith, get_or-eq_default place_keys 0 {n = i} (omega (arith, keys_long)))
