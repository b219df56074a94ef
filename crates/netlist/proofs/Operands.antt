-- Operands in a file: what the tests of 5 and 9 say of them, and that writing and reading them undo one another.
-- Assumes nothing.
use Rattle.std.specs.Prelude.{Option, Some, None}
use Prim.Native.Nat.{ℕ, zero, suc, ◌+◌, ◌-◌, ◌*◌, ◌/◌, ◌%◌, ◌≤◌, ◌<◌}
use native.Mathlib.Omega.{arith}
use mathlib.Core.Path.{◌≡◌, refl, sym, ap, ap₂, ◌∙◌}
use mathlib.Core.Bool.{Bool, true, false, cond}
use mathlib.Core.List.{List, [], ◌∷◌, ◌++◌}
use lib.ListN.{length, drop, length-drop}
use lib.Seq.{get_or-drop, drop-drop, drop-cons, drop_at}
use lib.Dec.{eqb}
use borrow.Author.Tests.{lt-ltb, le-ltb, eq-eqb, ne_eqb, eqb-true, eqb-false, not-false}
use Rattle.netlist.specs.Bytes.{byte, operand, operands, absent}
use Rattle.netlist.specs.Commands.{pins_used, misfit, misfit_from}
use Rattle.netlist.specs.Reading.{nameless}
use Rattle.netlist.specs.Writing.{write_operands, All, EachFrom}
use Rattle.netlist.proofs.Lists.{Bytes, byte_small}

-- ---- k operands

pub length_operands : (s : List ℕ) (at m : ℕ) → length (operands s at m) ≡ m
unfolding operands
length_operands s at zero = refl
length_operands s at (suc m) = ap suc (length_operands s (at + 2) m)

-- ---- a property of each operand, by list and by index

module _ (P : ℕ → Type 0) (s : List ℕ) where
  pub operands_each : (at m : ℕ) → All P (operands s at m) → (i : ℕ) → i < m → P (operand s (at + 2 * i))
  unfolding operands
  operands_each at zero h i l = absurd (omega arith)
  operands_each at (suc m) h zero l = let e : at + 2 * 0 ≡ at = omega arith in rw e h.0
  operands_each at (suc m) h (suc i) l = let e : at + 2 * suc i ≡ at + 2 + 2 * i = omega arith in rw e (operands_each (at + 2) m h.1 i (omega arith))

  pub each_operands : (at m : ℕ) → ((i : ℕ) → i < m → P (operand s (at + 2 * i))) → All P (operands s at m)
  unfolding operands
  each_operands at zero h = tt
  each_operands at (suc m) h = (
    let e : at + 2 * 0 ≡ at = omega arith in rw e at (h 0 (omega arith)),
    each_operands (at + 2) m (λ i l. let e : at + 2 * suc i ≡ at + 2 + 2 * i = omega arith in rw e at (h (suc i) (omega arith))),
  )

-- ---- 9

kept : (b : Bool) (p : ℕ) (later : Option ℕ) → cond b later (Some p) ≡ None → (b ≡ true) × (later ≡ None)
kept true p later e = (refl, e)
kept false p later e = absurd (let z : ◌≡◌ {A = ℕ} 0 1 = cc in omega arith)

passed : (b : Bool) (p : ℕ) (later : Option ℕ) → cond b (Some p) later ≡ None → (b ≡ false) × (later ≡ None)
passed true p later e = absurd (let z : ◌≡◌ {A = ℕ} 0 1 = cc in omega arith)
passed false p later e = (refl, e)

module _ (test : ℕ → ℕ → Bool) (s : List ℕ) where
  pub nameless_named : (i at m : ℕ) → nameless test i s at m ≡ None → EachFrom test i (operands s at m)
  unfolding nameless operands
  nameless_named i at zero e = tt
  nameless_named i at (suc m) e =
      let k = kept (test i (operand s at)) at (nameless test (suc i) s (at + 2) m) e in
      (k.0, nameless_named (suc i) (at + 2) m k.1)

  pub named_nameless : (i at m : ℕ) → EachFrom test i (operands s at m) → nameless test i s at m ≡ None
  unfolding nameless operands
  named_nameless i at zero h = refl
  named_nameless i at (suc m) h = rw h.0 (named_nameless (suc i) (at + 2) m h.1)

  -- each of them by its number
  named-each : (i at m : ℕ) → EachFrom test i (operands s at m) → (j : ℕ) → j < m → test (i + j) (operand s (at + 2 * j)) ≡ true
  unfolding operands
  named-each i at zero h j l = absurd (omega arith)
  named-each i at (suc m) h zero l =
      let e : at + 2 * 0 ≡ at = omega arith in
      let z : i + 0 ≡ i = omega arith in
      rw (e, z) h.0
  named-each i at (suc m) h (suc j) l =
      let e : at + 2 * suc j ≡ at + 2 + 2 * j = omega arith in
      let z : i + suc j ≡ suc i + j = omega arith in
      rw (e, z) (named-each (suc i) (at + 2) m h.1 j (omega arith))

  pub each_named : (at m : ℕ) → EachFrom test 0 (operands s at m) → (j : ℕ) → j < m → test j (operand s (at + 2 * j)) ≡ true
  each_named at m h j l = let e : 0 + j ≡ j = omega arith in rw e at (named-each 0 at m h j l)

-- where every operand is asked the same
pub same_asked : (test : ℕ → ℕ → Bool) (P : ℕ → Type 0) → ((i v : ℕ) → test i v ≡ true → P v) → (i : ℕ) (vs : List ℕ) → EachFrom test i vs → All P vs
same_asked test P says i [] h = tt
same_asked test P says i (v ∷ vs) h = (says i v h.0, same_asked test P says (suc i) vs h.1)

-- a test that holds where another does
pub asked_more : (test test' : ℕ → ℕ → Bool) → ((i v : ℕ) → test i v ≡ true → test' i v ≡ true) → (i : ℕ) (vs : List ℕ) → EachFrom test i vs → EachFrom test' i vs
asked_more test test' more i [] h = tt
asked_more test test' more i (v ∷ vs) h = (more i v h.0, asked_more test test' more (suc i) vs h.1)

pub asked_same : (test : ℕ → ℕ → Bool) (P : ℕ → Type 0) → ((i v : ℕ) → P v → test i v ≡ true) → (i : ℕ) (vs : List ℕ) → All P vs → EachFrom test i vs
asked_same test P holds i [] h = tt
asked_same test P holds i (v ∷ vs) h = (holds i v h.0, asked_same test P holds (suc i) vs h.1)

-- ---- 5

pub misfit_none : (k i : ℕ) (s : List ℕ) (at m : ℕ) → misfit_from k i s at m ≡ None → (j : ℕ) → j < m → misfit k (i + j) (operand s (at + 2 * j)) ≡ false
unfolding misfit_from
misfit_none k i s at zero e j l = absurd (omega arith)
misfit_none k i s at (suc m) e zero l =
    let a : at + 2 * 0 ≡ at = omega arith in
    let b : i + 0 ≡ i = omega arith in
    rw (a, b) (passed (misfit k i (operand s at)) at (misfit_from k (i + 1) s (at + 2) m) e).0
misfit_none k i s at (suc m) e (suc j) l =
    let a : at + 2 * suc j ≡ at + 2 + 2 * j = omega arith in
    let b : i + suc j ≡ i + 1 + j = omega arith in
    rw (a, b) (misfit_none k (i + 1) s (at + 2) m (passed (misfit k i (operand s at)) at (misfit_from k (i + 1) s (at + 2) m) e).1 j (omega arith))

pub needed_there : (k i v : ℕ) → misfit k i v ≡ false → i < k → v ≡ absent → ⊥
unfolding misfit
needed_there k i v e l = eqb-false v absent (rw (lt-ltb i k l) at e)

pub bare_absent : (k i v : ℕ) → misfit k i v ≡ false → k ≤ i → v ≡ absent
unfolding misfit
bare_absent k i v e l = eqb-true v absent (not-false (eqb v absent) (rw (le-ltb i k l) at e))

there_fits : (k i v : ℕ) → i < k → (v ≡ absent → ⊥) → misfit k i v ≡ false
unfolding misfit
there_fits k i v l d = rw (lt-ltb i k l) (ne_eqb v absent d)

absent_fits : (k i v : ℕ) → k ≤ i → v ≡ absent → misfit k i v ≡ false
unfolding misfit
absent_fits k i v l e = rw (le-ltb i k l, eq-eqb v absent e)

-- how many pins a C-element uses, and that there is no other number for which they fit
pub pins_used_in : (s : List ℕ) (place : ℕ) → (2 ≤ pins_used s place) × (pins_used s place ≤ 4)
unfolding pins_used
pins_used_in s place = go (eqb (operand s (place + 4)) absent) (eqb (operand s (place + 6)) absent)
  where
    go : (c d : Bool) → (2 ≤ cond c 2 (cond d 3 4)) × (cond c 2 (cond d 3 4) ≤ 4)
    go true d = omega arith
    go false true = omega arith
    go false false = omega arith

pub pins_are : (s : List ℕ) (place k : ℕ) → 2 ≤ k → k ≤ 4 → misfit_from k 0 s place 4 ≡ None → pins_used s place ≡ k
unfolding pins_used
pins_are s place zero lo hi e = absurd (omega arith)
pins_are s place (suc zero) lo hi e = absurd (omega arith)
pins_are s place (suc (suc zero)) lo hi e =
    rw (eq-eqb (operand s (place + 4)) absent (bare_absent 2 2 (operand s (place + 4)) (misfit_none 2 0 s place 4 e 2 (omega arith)) (omega arith)))
pins_are s place (suc (suc (suc zero))) lo hi e =
    rw (
      ne_eqb (operand s (place + 4)) absent (needed_there 3 2 (operand s (place + 4)) (misfit_none 3 0 s place 4 e 2 (omega arith)) (omega arith)),
      eq-eqb (operand s (place + 6)) absent (bare_absent 3 3 (operand s (place + 6)) (misfit_none 3 0 s place 4 e 3 (omega arith)) (omega arith)),
    )
pins_are s place (suc (suc (suc (suc zero)))) lo hi e =
    rw (
      ne_eqb (operand s (place + 4)) absent (needed_there 4 2 (operand s (place + 4)) (misfit_none 4 0 s place 4 e 2 (omega arith)) (omega arith)),
      ne_eqb (operand s (place + 6)) absent (needed_there 4 3 (operand s (place + 6)) (misfit_none 4 0 s place 4 e 3 (omega arith)) (omega arith)),
    )
pins_are s place (suc (suc (suc (suc (suc k))))) lo hi e = absurd (omega arith)

-- ---- what stands from a place on

module _ (s : List ℕ) (at : ℕ) where
  pub byte_after : (tail : List ℕ) → drop at s ≡ tail → (i : ℕ) → byte s (at + i) ≡ byte tail i
  byte_after tail e i = sym (get_or-drop at s i 0) ∙ ap (λ (l : List ℕ). byte l i) e

  pub drop_after : (xs rest : List ℕ) (w : ℕ) → drop at s ≡ xs ++ rest → length xs ≡ w → drop (at + w) s ≡ rest
  drop_after xs rest w e l = sym (drop-drop w at s) ∙ ap (drop w) e ∙ drop_at xs rest w l

  pub length_after : (x : ℕ) (xs : List ℕ) → drop at s ≡ x ∷ xs → length s ≡ at + suc (length xs)
  length_after x xs e = omega (arith, length-drop at s, ap length e)

-- ---- written operands are read back

pub length_written : (m : ℕ) (vs : List ℕ) → length (write_operands m vs) ≡ 2 * m
length_written zero vs = refl
length_written (suc m) [] = omega (arith, length_written m [])
length_written (suc m) (v ∷ vs) = omega (arith, length_written m vs)

pub bytes_written : (m : ℕ) (vs : List ℕ) → All (λ v. v < 65536) vs → Bytes (write_operands m vs)
bytes_written zero vs h = tt
bytes_written (suc m) [] h = (omega arith, (omega arith, bytes_written m [] tt))
bytes_written (suc m) (v ∷ vs) h = (omega arith, (omega (arith, h.0), bytes_written m vs h.1))

module _ (s : List ℕ) (at v : ℕ) (tail : List ℕ) (e : drop at s ≡ v % 256 ∷ v / 256 ∷ tail) where
  operand-written : operand s at ≡ v
  unfolding operand
  operand-written =
      let z : at + 0 ≡ at = omega arith in
      let a : byte s at ≡ v % 256 = rw z at (byte_after s at (v % 256 ∷ v / 256 ∷ tail) e 0) in
      let b : byte s (at + 1) ≡ v / 256 = byte_after s at (v % 256 ∷ v / 256 ∷ tail) e 1 in
      omega arith

  two_further : drop (at + 2) s ≡ tail
  two_further = drop_after s at (v % 256 ∷ v / 256 ∷ []) tail 2 e refl

module _ (s rest : List ℕ) where
  pub operands_written : (at m : ℕ) (vs : List ℕ) → length vs ≤ m → drop at s ≡ write_operands m vs ++ rest → operands s at (length vs) ≡ vs
  unfolding operands
  operands_written at m [] l e = refl
  operands_written at zero (v ∷ vs) l e = absurd (omega arith)
  operands_written at (suc m) (v ∷ vs) l e =
      ap₂ (λ (x : ℕ) (xs : List ℕ). x ∷ xs) (operand-written s at v (write_operands m vs ++ rest) e)
      (operands_written (at + 2) m vs (omega arith) (two_further s at v (write_operands m vs ++ rest) e))

  pub fits_written : (at m k i : ℕ) (vs : List ℕ) → length vs ≡ k - i → All (λ v. v < absent) vs → drop at s ≡ write_operands m vs ++ rest → misfit_from k i s at m ≡ None
  unfolding misfit_from
  fits_written at zero k i vs l h e = refl
  fits_written at (suc m) k i [] l h e =
      rw (absent_fits k i (operand s at) (omega arith) (operand-written s at absent (write_operands m [] ++ rest) e))
      (fits_written (at + 2) m k (i + 1) [] (omega arith) tt (two_further s at absent (write_operands m [] ++ rest) e))
  fits_written at (suc m) k i (v ∷ vs) l h e =
      let w : operand s at ≡ v = operand-written s at v (write_operands m vs ++ rest) e in
      rw (there_fits k i (operand s at) (omega arith) (λ z. omega (arith, h.0)))
      (fits_written (at + 2) m k (i + 1) vs (omega arith) h.1 (two_further s at v (write_operands m vs ++ rest) e))

-- ---- and operands that are read are what writing them gives

pub drop-one : (s : List ℕ) (at : ℕ) → at + 1 ≤ length s → drop at s ≡ byte s at ∷ drop (at + 1) s
drop-one s at h = let e : at + 1 ≡ suc at = omega arith in rw e (drop-cons s at 0 (omega arith))

pub drop_two : (s : List ℕ) (at : ℕ) → at + 2 ≤ length s → drop at s ≡ byte s at ∷ byte s (at + 1) ∷ drop (at + 2) s
drop_two s at h =
    let e : at + 1 + 1 ≡ at + 2 = omega arith in
    drop-one s at (omega arith) ∙ ap (λ (l : List ℕ). byte s at ∷ l) (rw e at (drop-one s (at + 1) (omega arith)))

module _ (s : List ℕ) (small : Bytes s) where
  operand-bytes : (at v : ℕ) → operand s at ≡ v → at + 2 ≤ length s → drop at s ≡ v % 256 ∷ v / 256 ∷ drop (at + 2) s
  unfolding operand
  operand-bytes at v e h =
      let a : v % 256 ≡ byte s at = omega (arith, byte_small s small at, byte_small s small (at + 1)) in
      let b : v / 256 ≡ byte s (at + 1) = omega (arith, byte_small s small at, byte_small s small (at + 1)) in
      rw (a, b) (drop_two s at h)

  pub operand_small : (at : ℕ) → operand s at < 65536
  unfolding operand
  operand_small at = omega (arith, byte_small s small at, byte_small s small (at + 1))

  -- the operands from the k-th on are not used
  pub written_operands : (at m k : ℕ) → at + 2 * m ≤ length s → ((j : ℕ) → k ≤ j → j < m → operand s (at + 2 * j) ≡ absent) → drop at s ≡ write_operands m (operands s at k) ++ drop (at + 2 * m) s
  unfolding operands
  written_operands at zero k r h = let e : at + 2 * 0 ≡ at = omega arith in rw e
  written_operands at (suc m) zero r h =
      let e : at + 2 * 0 ≡ at = omega arith in
      let w : at + 2 * suc m ≡ at + 2 + 2 * m = omega arith in
      let rest = written_operands (at + 2) m zero (omega arith) (λ j a b. let x : at + 2 + 2 * j ≡ at + 2 * suc j = omega arith in rw x (h (suc j) (omega arith) (omega arith))) in
      rw w (operand-bytes at absent (rw e at (h 0 (omega arith) (omega arith))) (omega arith)
      ∙ ap (λ (l : List ℕ). 255 ∷ 255 ∷ l) rest)
  written_operands at (suc m) (suc k) r h =
      let w : at + 2 * suc m ≡ at + 2 + 2 * m = omega arith in
      let rest = written_operands (at + 2) m k (omega arith) (λ j a b. let x : at + 2 + 2 * j ≡ at + 2 * suc j = omega arith in rw x (h (suc j) (omega arith) (omega arith))) in
      rw w (operand-bytes at (operand s at) refl (omega arith)
      ∙ ap (λ (l : List ℕ). operand s at % 256 ∷ operand s at / 256 ∷ l) rest)
