-- The list of the family: in ascending order, with exactly the stages of the family.
-- Assumes nothing.
use Prim.Native.Nat.{ℕ, zero, suc, ◌+◌, ◌*◌, ◌/◌, ◌%◌, ◌≤◌, ◌<◌}
use native.Mathlib.Omega.{arith}
use mathlib.Core.Path.{◌≡◌, refl, sym, ap, subst, ◌∙◌}
use mathlib.Core.Bool.{Bool, true, false, cond}
use mathlib.Core.Logic.{◌⊎◌, inl, inr, ⊎_elim}
use mathlib.Core.List.{List, [], ◌∷◌, ◌++◌}
use lib.ListN.{length}
use Rattle.check_spec.specs.Content.{Content}
use Rattle.netlist.specs.Writing.{All}
use Rattle.netlist.proofs.Lists.{All-map, All-++}
use Rattle.next_spec.specs.Numbered.{nets_of, stages, lists, stage_numbered}
use Rattle.next_spec.proofs.Bytes.{list_bytes, output_bytes}
use Rattle.next_spec.specs.Listing.{InShape, free, loop_free_from, group, Shape, shape, stages_of, shapes, listing}
use Rattle.next_spec.specs.Family.{file_of, InFamily, Less, key, Ascending, Among, Shaped, Lists}
use Rattle.next_spec.proofs.Digits.{apart}
use Rattle.next_spec.proofs.Less.{stage_less, stage_bytes}
use Rattle.next_spec.proofs.Members.{nets_some, nets_low, gates_long, listed_in, in_listed}

-- ---- one group

module _ (n g : ℕ) (P : Content → Type 0) where
  -- what holds of each numbered stage without a loop holds of all that are listed
  pub listed_all : (z m : ℕ) → ((y : ℕ) → z ≤ y → y < z + m → free n g y ≡ true → P (stage_numbered n g y)) → All P (loop_free_from n g z m)
  unfolding loop_free_from
  listed_all z zero h = tt
  listed_all z (suc m) h = go (free n g z) refl (listed_all (suc z) m (λ y l u f. h y (omega arith) (omega arith) f))
    where
      go : (b : Bool) → free n g z ≡ b → All P (loop_free_from n g (suc z) m)
          → All P (cond b (stage_numbered n g z ∷ loop_free_from n g (suc z) m) (loop_free_from n g (suc z) m))
      go true t later = (h z (omega arith) (omega arith) t, later)
      go false f later = later

module _ (n g : ℕ) where
  pub listed : (z m y : ℕ) → z ≤ y → y < z + m → free n g y ≡ true → Among (stage_numbered n g y) (loop_free_from n g z m)
  unfolding loop_free_from
  listed z zero y l u f = absurd (omega arith)
  listed z (suc m) y l u f = go (free n g z) refl (λ above. listed (suc z) m y above (omega arith) f)
    where
      go : (b : Bool) → free n g z ≡ b → (suc z ≤ y → Among (stage_numbered n g y) (loop_free_from n g (suc z) m))
          → Among (stage_numbered n g y) (cond b (stage_numbered n g z ∷ loop_free_from n g (suc z) m) (loop_free_from n g (suc z) m))
      go true t later = ⊎_elim (λ e. inl (ap (stage_numbered n g) (sym e))) (λ s. inr (later s)) (apart z y l)
      go false t later = later (⊎_elim (λ e. absurd (clash (subst (λ (i : ℕ). free n g i ≡ false) e t))) (λ s. s) (apart z y l))
        where
          clash : free n g y ≡ false → ⊥
          clash q = let z : ◌≡◌ {A = ℕ} 0 1 = cc in omega arith

-- ---- the shape of a listed stage

-- so many inputs and gates, in a file as long as they make it
pub record InFile (n g : ℕ) (c : Content) : Type 0 where
  pub inputs : c.inputs ≡ n
  pub gates : length c.gates ≡ g
  pub long : length (file_of c) ≡ 8 + 10 * g

pub list_long : (m g x : ℕ) (rest : List ℕ) → length (list_bytes m g x rest) ≡ 10 * g + length rest
unfolding list_bytes
list_long m zero x rest = omega arith
list_long m (suc g) x rest = let h : length (list_bytes m g (x % lists m g) rest) ≡ 10 * g + length rest = list_long m g (x % lists m g) rest in omega arith

module _ (n g : ℕ) (fits : InShape n g) where
  pub numbered_shaped : (z : ℕ) → InFile n g (stage_numbered n g z)
  unfolding stage_numbered
  numbered_shaped z =
      let k = nets_of n g in
      record {
        inputs = refl;
        gates = gates_long k g (z / (k * k));
        long = ap (length {A = ℕ}) (stage_bytes n g z) ∙ (let h = list_long k g (z / (k * k)) (output_bytes k (z % (k * k))) in omega arith);
      }

-- ---- ascending

-- fewer inputs, or as many and fewer gates
abbrev Sooner : Shape → Shape → Type 0
Sooner h k = (h.inputs < k.inputs) ⊎ ((h.inputs ≡ k.inputs) × (h.gates < k.gates))

sooner_less : (h k : Shape) → Sooner h k → (c d : Content) → InFile h.inputs h.gates c → InFile k.inputs k.gates d → Less (key c) (key d)
sooner_less h k s c d a b =
    let p = a.inputs in
    let q = b.inputs in
    let r = a.gates in
    let t = b.gates in
    ⊎_elim (λ l. inl (omega arith)) (λ e. let f = e.0 in let l = e.1 in inr (omega arith, inl (omega arith))) s

Ascending-++ : (cs ds : List Content) → Ascending cs → Ascending ds → All (λ c. All (λ d. Less (key c) (key d)) ds) cs → Ascending (cs ++ ds)
Ascending-++ [] ds a b h = b
Ascending-++ (c ∷ cs) ds a b h = (All-++ (λ d. Less (key c) (key d)) cs ds a.0 h.0, Ascending-++ cs ds a.1 b h.1)

module _ (n g : ℕ) (fits : InShape n g) where
  number_less : (y z : ℕ) → y < z → z < stages n g → Less (key (stage_numbered n g y)) (key (stage_numbered n g z))
  number_less y z l b =
      let p = numbered_shaped n g fits y in
      let q = numbered_shaped n g fits z in
      inr (p.inputs ∙ sym q.inputs, inr (p.gates ∙ sym q.gates, stage_less n g (nets_some n g fits) (nets_low n g fits) y z l b))

  group-ascending : (z m : ℕ) → z + m ≤ stages n g → Ascending (loop_free_from n g z m)
  unfolding loop_free_from
  group-ascending z zero l = tt
  group-ascending z (suc m) l = go (free n g z) (group-ascending (suc z) m (omega arith))
    where
      above : All (λ d. Less (key (stage_numbered n g z)) (key d)) (loop_free_from n g (suc z) m)
      above = listed_all n g (λ d. Less (key (stage_numbered n g z)) (key d)) (suc z) m (λ y a b f. number_less z y (omega arith) (omega arith))

      go : (b : Bool) → Ascending (loop_free_from n g (suc z) m)
          → Ascending (cond b (stage_numbered n g z ∷ loop_free_from n g (suc z) m) (loop_free_from n g (suc z) m))
      go true later = (above, later)
      go false later = later

-- ---- some shapes, one after another

abbrev Rising : List Shape → Type 0
Rising [] = Unit {0}
Rising (h ∷ hs) = InShape h.inputs h.gates × All (Sooner h) hs × Rising hs

-- what holds of each numbered stage of the shapes without a loop holds of all that are listed
stages_of-all : (P : Content → Type 0) (hs : List Shape)
    → All (λ h. (y : ℕ) → y < stages h.inputs h.gates → free h.inputs h.gates y ≡ true → P (stage_numbered h.inputs h.gates y)) hs
    → All P (stages_of hs)
unfolding group
stages_of-all P [] a = tt
stages_of-all P (h ∷ hs) a =
    All-++ P (group h.inputs h.gates) (stages_of hs)
    (listed_all h.inputs h.gates P 0 (stages h.inputs h.gates) (λ y l u f. a.0 y (omega arith) f)) (stages_of-all P hs a.1)

in_shapes : (hs : List Shape) → Rising hs → All (λ h. InShape h.inputs h.gates) hs
in_shapes [] r = tt
in_shapes (h ∷ hs) r = (r.0, in_shapes hs r.2)

All-both : {X : Type 0} (P Q : X → Type 0) (xs : List X) → All P xs → All Q xs → All (λ x. P x × Q x) xs
All-both P Q [] a b = tt
All-both P Q (x ∷ xs) a b = ((a.0, b.0), All-both P Q xs a.1 b.1)

pub stages_ascending : (hs : List Shape) → Rising hs → Ascending (stages_of hs)
unfolding group
stages_ascending [] r = tt
stages_ascending (h ∷ hs) r =
    let n = h.inputs in
    let g = h.gates in
    let later = All-both (Sooner h) (λ k. InShape k.inputs k.gates) hs r.1 (in_shapes hs r.2) in
    Ascending-++ (group n g) (stages_of hs) (group-ascending n g r.0 0 (stages n g) (omega arith)) (stages_ascending hs r.2)
    (listed_all n g (λ c. All (λ d. Less (key c) (key d)) (stages_of hs)) 0 (stages n g)
    (λ y l u f. stages_of-all (λ d. Less (key (stage_numbered n g y)) (key d)) hs
    (All-map (λ k. Sooner h k × InShape k.inputs k.gates)
    (λ k. (z : ℕ) → z < stages k.inputs k.gates → free k.inputs k.gates z ≡ true
    → Less (key (stage_numbered n g y)) (key (stage_numbered k.inputs k.gates z)))
    (λ k s z b e. sooner_less h k s.0 (stage_numbered n g y) (stage_numbered k.inputs k.gates z) (numbered_shaped n g r.0 y)
    (numbered_shaped k.inputs k.gates s.1 z))
    hs later)))

shapes_rising : Rising shapes
unfolding shapes
shapes_rising =
    let i : (n g : ℕ) → 1 ≤ n → n ≤ 2 → g ≤ 2 → InShape n g = λ n g a b c. record { inputs_in = (a, b); gates_in_holds = c } in (
      i 1 0 (omega arith) (omega arith) (omega arith),
      (inr (refl, omega arith), (inr (refl, omega arith), (inl (omega arith), (inl (omega arith), (inl (omega arith), tt))))),
      (
        i 1 1 (omega arith) (omega arith) (omega arith),
        (inr (refl, omega arith), (inl (omega arith), (inl (omega arith), (inl (omega arith), tt)))),
        (
          i 1 2 (omega arith) (omega arith) (omega arith),
          (inl (omega arith), (inl (omega arith), (inl (omega arith), tt))),
          (
            i 2 0 (omega arith) (omega arith) (omega arith),
            (inr (refl, omega arith), (inr (refl, omega arith), tt)),
            (i 2 1 (omega arith) (omega arith) (omega arith), (inr (refl, omega arith), tt), (i 2 2 (omega arith) (omega arith) (omega arith), tt, tt)),
          ),
        ),
      ),
    )

-- the family is listed in ascending order
pub listing_ascending : Ascending listing
unfolding listing
listing_ascending = stages_ascending shapes shapes_rising

-- ---- exactly the files of the family

Among-++ : {X : Type 0} (x : X) (xs ys : List X) → Among x xs ⊎ Among x ys → Among x (xs ++ ys)
Among-++ x [] ys h = ⊎_elim (λ a. absurd a) (λ b. b) h
Among-++ x (y ∷ xs) ys h = ⊎_elim (λ a. ⊎_elim (λ e. inl e) (λ i. inr (Among-++ x xs ys (inl i))) a) (λ b. inr (Among-++ x xs ys (inr b))) h

-- every listed stage is of the family
pub listing_in : All InFamily listing
unfolding listing
listing_in = stages_of-all InFamily shapes
    (All-map (λ h. InShape h.inputs h.gates)
    (λ h. (y : ℕ) → y < stages h.inputs h.gates → free h.inputs h.gates y ≡ true → InFamily (stage_numbered h.inputs h.gates y))
    (λ h i y l f. listed_in h.inputs h.gates y (record { shaped = i; below = l; loop_free = f }))
    shapes (in_shapes shapes shapes_rising))

stages_of-among : (n g : ℕ) (c : Content) (hs : List Shape) → Among (shape n g) hs → Among c (group n g) → Among c (stages_of hs)
stages_of-among n g c [] i a = absurd i
stages_of-among n g c (h ∷ hs) i a =
    ⊎_elim
    (λ e. Among-++ c (group h.inputs h.gates) (stages_of hs) (inl (subst (λ (k : Shape). Among c (group k.inputs k.gates)) e a)))
    (λ j. Among-++ c (group h.inputs h.gates) (stages_of hs) (inr (stages_of-among n g c hs j a)))
    i

pub in_shape : (n g : ℕ) → InShape n g → Among (shape n g) shapes
unfolding shapes
in_shape zero g i = absurd (omega (arith, i.inputs_in))
in_shape (suc zero) zero i = inl refl
in_shape (suc zero) (suc zero) i = inr (inl refl)
in_shape (suc zero) (suc (suc zero)) i = inr (inr (inl refl))
in_shape (suc zero) (suc (suc (suc g))) i = absurd (omega (arith, i.gates_in_holds))
in_shape (suc (suc zero)) zero i = inr (inr (inr (inl refl)))
in_shape (suc (suc zero)) (suc zero) i = inr (inr (inr (inr (inl refl))))
in_shape (suc (suc zero)) (suc (suc zero)) i = inr (inr (inr (inr (inr (inl refl)))))
in_shape (suc (suc zero)) (suc (suc (suc g))) i = absurd (omega (arith, i.gates_in_holds))
in_shape (suc (suc (suc n))) g i = absurd (omega (arith, i.inputs_in))

in_group : (c : Content) → InFamily c → Among c (group c.inputs (length c.gates))
unfolding group
in_group c i =
    let k = in_listed c i in
    let n = c.inputs in
    let g = length c.gates in
    subst (λ (d : Content). Among d (group n g)) k.2 (listed n g 0 (stages n g) k.0 (omega arith) (omega (arith, k.1.below)) k.1.loop_free)

-- every stage of the family is listed
pub in_listing : (c : Content) → InFamily c → Among c listing
unfolding listing
in_listing c i =
    stages_of-among c.inputs (length c.gates) c shapes (in_shape c.inputs (length c.gates) (in_listed c i).1.shaped) (in_group c i)

-- ---- the lists

All-with : (cs : List Content) → All InFamily cs → All (λ c. InFamily c × Unit {0}) cs
All-with = All-map InFamily (λ c. InFamily c × Unit {0}) (λ c i. (i, tt))

pub listing_lists : Lists (λ c. Unit {0}) listing
listing_lists = record { ascending = listing_ascending; each = All-with listing listing_in; every = λ c i u. in_listing c i }

-- those of one shape
pub group_lists : (n g : ℕ) → InShape n g → Lists (Shaped n g) (group n g)
unfolding group
group_lists n g i = record {
  ascending = group-ascending n g i 0 (stages n g) (omega arith);
  each = listed_all n g (λ c. InFamily c × Shaped n g c) 0 (stages n g)
      (λ y l u f. let w = numbered_shaped n g i y in (listed_in n g y (record { shaped = i; below = omega arith; loop_free = f }), (w.inputs, w.gates)));
  every = λ c j s. go c (in_group c j) s.0 s.1;
}
  where
    go : (c : Content) → Among c (group c.inputs (length c.gates)) → c.inputs ≡ n → length c.gates ≡ g → Among c (group n g)
    go c a p q = subst (λ (h : ℕ). Among c (group n h)) q (subst (λ (k : ℕ). Among c (group k (length c.gates))) p a)
