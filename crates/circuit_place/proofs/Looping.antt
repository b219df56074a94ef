-- A loop of C-elements stands behind a Ki exactly if the C-element there has no place. The idea: from one without a place one comes to such ones on and on,
-- and from one with a place to lower and lower places.
-- Assumes nothing.
use Prim.Native.Nat.{ℕ, zero, suc, ◌≤◌, ◌<◌}
use native.Mathlib.Omega.{arith}
use native.Mathlib.Decide.{ℕ_discrete}
use mathlib.Core.Path.{◌≡◌, refl, sym, ◌∙◌}
use mathlib.Core.Bool.{Bool, true, false}
use mathlib.Core.List.{List}
use Rattle.verdict.specs.Paths.{In, Leads, here, onward, OnLoop}
use Rattle.verdict.proofs.Graph as graph
use Rattle.verdict.proofs.Graph.{rank-≤, rank_falls}
use Rattle.wiring_spec.specs.Parts.{Pipeline, all_nets, ki_of}
use Rattle.wiring_spec.specs.Wiring.{openings, behind, is_loop}
use Rattle.wiring_spec.specs.Tables.{PartsLoaded}
use Rattle.wiring_spec.proofs.Nets.{open_inside}
use Rattle.wiring_spec.proofs.Passing.{behind_sound, behind_complete, loop_sound, loop_complete}
use Rattle.circuit_place.specs.Placing.{place, waiting, Passed, Placed}
use Rattle.circuit_place.proofs.Placing.{never}
use Rattle.circuit_place.proofs.Order.{waits, waits_opened, placed_of}

module _ (p : Pipeline) (code : List ℕ) (first : ℕ) (placed : Placed p code first) where
  abbrev at : ℕ → ℕ
  at = place code first

  -- no loop stands behind x
  abbrev Free : ℕ → Type 0
  Free x = (y : ℕ) → Leads (openings p) y x → ¬ (OnLoop (openings p) y)

  abbrev rank : ℕ → ℕ
  rank = graph.rank (openings p) (all_nets p) (open_inside p)

  unplaced : (fuel x w : ℕ) → rank x ≤ fuel → In w (openings p x) → at x ≡ 0 → Free x → ⊥
  unplaced zero x w l i e free = let s = placed.stuck x w i e in omega (arith, rank_falls (openings p) (all_nets p) (open_inside p) x s.0 (free x here) s.2)
  unplaced (suc fuel) x w l i e free =
      let s = placed.stuck x w i e in
      unplaced fuel s.0 s.1 (omega (arith, rank_falls (openings p) (all_nets p) (open_inside p) x s.0 (free x here) s.2)) s.3 s.4 (λ y q. free y (onward s.2 q))

  -- a C-element that can be opened has a place
  abbrev Opens : ℕ → Type 0
  Opens x = (v : ℕ) → In v (openings p x) → 0 < at x

  -- where a path ends at a C-element it begins at one
  begins : {x y : ℕ} (w : ℕ) → In w (openings p y) → Leads (openings p) y x → (v : ℕ) × In v (openings p x)
  begins w i here = (w, i)
  begins w i (onward {z = z} j l) = (z, j)

  down : {y x : ℕ} (w : ℕ) → In w (openings p y) → Opens x → Leads (openings p) y x → (at y ≤ at x) × Opens y
  down w i o here = (omega arith, o)
  down w i o (onward {x = x} {z = z} j l) =
      let b = begins w i l in
      let f = placed.before x z b.0 j b.1 (o z j) in
      let r = down w i (λ v k. f.0) l in
      (omega (arith, f.1, r.0), r.1)

  placed_free : (x : ℕ) → Opens x → Free x
  placed_free x o y l c =
      let r = down c.0 c.1 o l in
      let b = begins c.0 c.1 c.2 in
      let f = placed.before y c.0 b.0 c.1 b.1 (r.1 c.0 c.1) in
      omega (arith, f.1, (down c.0 c.1 (λ v k. f.0) c.2).0)

module _ (p : Pipeline) (first count : ℕ) (nets regs : List ℕ) (loaded : PartsLoaded p first count nets regs) (before : List ℕ) (placed : ℕ) (w : Passed before nets first count placed placed) (k : ℕ) where
  abbrev ki : ℕ
  ki = ki_of p k

  abbrev order : Placed p nets first
  order = placed_of p first count nets regs loaded before placed w

  forth : waiting nets first count ki ≡ true → behind p (is_loop p) k ≡ true
  forth e = go (behind p (is_loop p) k) refl
    where
      go : (b : Bool) → behind p (is_loop p) k ≡ b → b ≡ true
      go true f = refl
      go false f =
          let o = waits_opened p first count nets regs loaded before placed w ki e in
          absurd (unplaced p nets first order (all_nets p) ki o.0 (rank-≤ (openings p) (all_nets p) (open_inside p) ki) o.1 o.2
          (λ y l c. never (sym f ∙ behind_complete p (is_loop p) k y (open_inside p y c.0 c.1) (loop_complete p y c) l)))

  back : behind p (is_loop p) k ≡ true → waiting nets first count ki ≡ true
  back e = go (waiting nets first count ki) refl
    where
      go : (b : Bool) → waiting nets first count ki ≡ b → b ≡ true
      go true f = refl
      go false f = let r = behind_sound p (is_loop p) k e in absurd (placed_free p nets first order ki opens r.0 r.2 (loop_sound p r.0 r.1))
        where
          opens : Opens p nets first order ki
          opens v i = at (ℕ_discrete (place nets first ki) 0)
            where
              at : Dec (place nets first ki ≡ 0) → 0 < place nets first ki
              at (yes q) = absurd (never (sym f ∙ waits p first count nets regs loaded before placed w ki v i q))
              at (no d) = positive (place nets first ki) d
                where
                  positive : (n : ℕ) → ¬ (n ≡ 0) → 0 < n
                  positive zero d = absurd (d refl)
                  positive (suc n) d = omega arith

  pub loop-behind : waiting nets first count ki ≡ behind p (is_loop p) k
  loop-behind = either (waiting nets first count ki) (behind p (is_loop p) k) forth back
    where
      either : (a b : Bool) → (a ≡ true → b ≡ true) → (b ≡ true → a ≡ true) → a ≡ b
      either true b f g = sym (f refl)
      either false true f g = g refl
      either false false f g = refl
