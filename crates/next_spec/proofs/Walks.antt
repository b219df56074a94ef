-- What comes next in a list of the family is next by the order; and taking next from the empty file on gives the list.
-- Assumes nothing.
use Prim.Native.Nat.{ℕ, ◌+◌, ◌*◌}
use native.Mathlib.Omega.{arith}
use mathlib.Core.Path.{◌≡◌, refl, sym, ap, ap₂, subst, ◌∙◌}
use mathlib.Core.Logic.{◌⊎◌, inl, inr}
use mathlib.Core.List.{List, [], ◌∷◌, ◌++◌, append_assoc}
use lib.ListN.{length}
use Rattle.netlist.specs.declared.File.TheVariants.{Stage}
use Rattle.netlist.specs.Commands.{command_table, own_commands, form_in}
use Rattle.netlist.specs.Reading.{stage_limits}
use Rattle.netlist.specs.Writing.{All}
use Rattle.check_spec.specs.Content.{Content, content_of}
use Rattle.check_spec.specs.Writing.{row_for, command, write_file}
use Rattle.verdict.specs.FourNumbers.{verdict}
use Rattle.verdict.specs.Written.{Written, write_or}
use Rattle.next_spec.specs.Family.{file_of, InFamily, Member, key, Before, After, Next, Last, NextIs, outside, last, next, Walk, Ascending, Among, Family}
use Rattle.next_spec.specs.Listing.{InShape, listing, group}
use Rattle.next_spec.proofs.Members.{in_listed, readable_member}
use Rattle.next_spec.proofs.Less.{less_refl, less_both}
use Rattle.check_spec.proofs.Loops.{loops_found}
use Rattle.next_spec.proofs.Loops.{count_0, count_1}
use Rattle.next_spec.proofs.Listed.{listing_ascending, listing_in, in_listing, listing_lists, group_lists, numbered_shaped}

-- ---- a file has one stage, and is not empty

pub one_stage : (c d : Content) → InFamily c → InFamily d → file_of c ≡ file_of d → c ≡ d
one_stage c d i j e = sym i.reads_as ∙ ap (content_of Stage stage_limits) e ∙ j.reads_as

pub not_empty : (c : Content) → ¬ (file_of c ≡ [])
unfolding write_file command row_for command_table own_commands form_in
not_empty c e = let z : ◌≡◌ {A = ℕ} 0 1 = cc in omega arith

-- what comes after the file of a stage is what the stage is before
after-stage : (c d : Content) → InFamily c → After (file_of c) d → Before c d
after-stage c d i (inl e) = absurd (not_empty c e)
after-stage c d i (inr (b, j, e, l)) = subst (λ (x : Content). Before x d) (sym (one_stage c b i j e)) l

-- ---- in an ascending list

all_among : (P : Content → Type 0) (cs : List Content) (c : Content) → All P cs → Among c cs → P c
all_among P [] c h a = absurd a
all_among P (d ∷ cs) c h (inl e) = subst P (sym e) h.0
all_among P (d ∷ cs) c h (inr a) = all_among P cs c h.1 a

all_middle : (P : Content → Type 0) (front : List Content) (c : Content) (later : List Content) → All P (front ++ (c ∷ later)) → P c
all_middle P [] c later h = h.0
all_middle P (a ∷ front) c later h = all_middle P front c later h.1

ascending_from : (front rest : List Content) → Ascending (front ++ rest) → Ascending rest
ascending_from [] rest a = a
ascending_from (c ∷ front) rest a = ascending_from front rest a.1

-- what c is before stands after it
stands_later : (front : List Content) (c : Content) (later : List Content) → Ascending (front ++ (c ∷ later)) → (e : Content) → Among e (front ++ (c ∷ later))
    → Before c e → Among e later
stands_later [] c later a e (inl q) l = absurd (less_refl (key c) (subst (Before c) q l))
stands_later [] c later a e (inr i) l = i
stands_later (b ∷ front) c later a e (inl q) l = absurd (less_both (key b) (key c) (all_middle (Before b) front c later a.0) (subst (Before c) q l))
stands_later (b ∷ front) c later a e (inr i) l = stands_later front c later a.1 e i l

-- ---- next in the list

-- the first of an ascending list is before the others
first-least : (d : Content) (more : List Content) → Ascending (d ∷ more) → (e : Content) → Among e (d ∷ more) → (d ≡ e) ⊎ Before d e
first-least d more a e (inl q) = inl (sym q)
first-least d more a e (inr i) = inr (all_among (Before d) more e a.0 i)

module _ (s : List ℕ) (none : s ≡ []) where
  pub next-first : (d : Content) (more : List Content) → listing ≡ d ∷ more → Next s d
  next-first d more e = record {
    in_family = (subst (λ (cs : List Content). All InFamily cs) e listing_in).0;
    after = inl none;
    least = λ x i l. first-least d more (subst Ascending e listing_ascending) x (subst (Among x) e (in_listing x i));
  }

  pub none_first : listing ≡ [] → Last s
  none_first e = record { given = inl none; none = λ x i l. subst (Among x) e (in_listing x i) }

module _ (front : List Content) (c : Content) (later : List Content) (e : listing ≡ front ++ (c ∷ later)) where
  listed_c : InFamily c
  listed_c = all_middle InFamily front c later (subst (λ (cs : List Content). All InFamily cs) e listing_in)

  ascends : Ascending (front ++ (c ∷ later))
  ascends = subst Ascending e listing_ascending

  later_after : (x : Content) → InFamily x → After (file_of c) x → Among x later
  later_after x i l = stands_later front c later ascends x (subst (Among x) e (in_listing x i)) (after-stage c x listed_c l)

  pub next_listed : (d : Content) (more : List Content) → later ≡ d ∷ more → Next (file_of c) d
  next_listed d more f = record {
    in_family = all_middle InFamily (front ++ (c ∷ [])) d more
        (subst (λ (cs : List Content). All InFamily cs)
        (e ∙ ap (λ (l : List Content). front ++ (c ∷ l)) f ∙ sym (append_assoc front (c ∷ []) (d ∷ more))) listing_in);
    after = inr (c, listed_c, refl, (subst (All (Before c)) f (ascending_from front (c ∷ later) ascends).0).0);
    least = λ x i l. first-least d more (subst Ascending f (ascending_from front (c ∷ later) ascends).1) x (subst (Among x) f (later_after x i l));
  }

  pub none_listed : later ≡ [] → Last (file_of c)
  none_listed f = record { given = inr (c, listed_c, refl); none = λ x i l. subst (Among x) f (later_after x i l) }

-- ---- the walk

walk_from : (front : List Content) (c : Content) (later : List Content) → listing ≡ front ++ (c ∷ later) → Walk (file_of c) later
walk_from front c [] e = none_listed front c [] e refl
walk_from front c (d ∷ more) e =
    (next_listed front c (d ∷ more) e d more refl, walk_from (front ++ (c ∷ [])) d more (e ∙ sym (append_assoc front (c ∷ []) (d ∷ more))))

walk_all : (cs : List Content) → listing ≡ cs → Walk [] cs
walk_all [] e = none_first [] refl e
walk_all (d ∷ more) e = (next-first [] refl d more e, walk_from [] d more e)

-- ---- nothing else is next

next_one : (s : List ℕ) (d e : Content) → Next s d → Next s e → d ≡ e
next_one s d e n m = go (n.least e m.in_family m.after) (m.least d n.in_family n.after)
  where
    go : (d ≡ e) ⊎ Before d e → (e ≡ d) ⊎ Before e d → d ≡ e
    go (inl p) q = p
    go (inr p) (inl q) = sym q
    go (inr p) (inr q) = absurd (less_both (key d) (key e) p q)

next_last : (s : List ℕ) (d : Content) → Next s d → Last s → ⊥
next_last s d n l = l.none d n.in_family n.after

next-given : (s : List ℕ) (d : Content) → Next s d → (s ≡ []) ⊎ Member s
next-given s d n = go n.after
  where
    go : After s d → (s ≡ []) ⊎ Member s
    go (inl e) = inl e
    go (inr (c, i, e, l)) = inr (c, i, e)

walk_one : (s : List ℕ) (cs ds : List Content) → Walk s cs → Walk s ds → cs ≡ ds
walk_one s [] [] a b = refl
walk_one s [] (d ∷ ds) a b = absurd (next_last s d b.0 a)
walk_one s (c ∷ cs) [] a b = absurd (next_last s c a.0 b)
walk_one s (c ∷ cs) (d ∷ ds) a b =
    let e = next_one s c d a.0 b.0 in
    ap₂ (λ (x : Content) (xs : List Content). x ∷ xs) e (walk_one (file_of d) cs ds (subst (λ (x : Content). Walk (file_of x) cs) e a.1) b.1)

not_outside : {s : List ℕ} → (s ≡ []) ⊎ Member s → ¬ (s ≡ []) → ¬ (Member s) → ⊥
not_outside (inl e) a b = a e
not_outside (inr m) a b = b m

pub one_answer : (s buffer : List ℕ) (v w : Written) → NextIs s buffer v → NextIs s buffer w → v ≡ w
one_answer s buffer v w (outside a b) (outside c d) = refl
one_answer s buffer v w (outside a b) (last l) = absurd (not_outside l.given a b)
one_answer s buffer v w (outside a b) (next d n) = absurd (not_outside (next-given s d n) a b)
one_answer s buffer v w (last l) (outside a b) = absurd (not_outside l.given a b)
one_answer s buffer v w (last l) (last m) = refl
one_answer s buffer v w (last l) (next d n) = absurd (next_last s d n l)
one_answer s buffer v w (next d n) (outside a b) = absurd (not_outside (next-given s d n) a b)
one_answer s buffer v w (next d n) (last l) = absurd (next_last s d n l)
one_answer s buffer v w (next d n) (next e m) = ap (λ (c : Content). write_or (verdict 38 3 0 0) (file_of c) buffer) (next_one s d e n m)

-- ---- the family

family_long : (c : Content) → InFamily c → length (file_of c) ≡ 8 + 10 * length c.gates
family_long c i =
    let k = in_listed c i in
    let long = (numbered_shaped c.inputs (length c.gates) k.1.shaped k.0).long in
    subst (λ (d : Content). length (file_of d) ≡ 8 + 10 * length c.gates) k.2 long

shaped_1 : (g : ℕ) → InShape 1 0 × InShape 1 1
shaped_1 g = (
  record { inputs_in = (omega arith, omega arith); gates_in_holds = omega arith },
  record {
    inputs_in =
        (omega arith, omega arith);
    gates_in_holds = omega arith;
  },
)

pub family : Family
family = record {
  each_file = readable_member;
  loops = loops_found;
  room = λ c i. omega (arith, family_long c i, i.small.gates_in_holds);
  stages = listing;
  walk = walk_all listing refl;
  only = λ ds w. walk_one [] ds listing w (walk_all listing refl);
  lists = listing_lists;
  four = (group 1 0, group_lists 1 0 (shaped_1 0).0, count_0);
  seventy_two = (group 1 1, group_lists 1 1 (shaped_1 0).1, count_1);
}
