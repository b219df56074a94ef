-- Masks of all words: a block's words are put in, and what is not named stays without faults.
-- Assumes nothing.
use Rattle.std.specs.Prelude.{None}
use Prim.Native.Nat.{ℕ, ◌+◌, ◌*◌, ◌/◌, ◌%◌, ◌≤◌, ◌<◌}
use native.Mathlib.Omega.{arith}
use native.Mathlib.Decide.{ℕ_discrete}
use native.Mathlib.Nat.{mod-lt}
use mathlib.Core.Path.{◌≡◌, sym, ap, ◌∙◌, subst}
use mathlib.Core.List.{List}
use lib.ListN.{length, get_or, set, replicate, length-set, length-replicate, get_or-replicate}
use lib.Seq.{get_or-set_same, get_or-set_other}
use lib.Dec.{eqb, lit<}
use Rattle.runs.proofs.Test.{clash}
use Rattle.netlist.specs.Content.{Stage, Reference}
use Rattle.check_word.specs.declared.Sweep.{Sweep}
use Rattle.check_word.specs.declared.Sweep.TheVariants.{Wrong, Missing, Unobserved, Remaining, StillHigh}
use Rattle.check_word.specs.Finds.{finds}
use Rattle.lane_cells.specs.Lane.{lane}
use Rattle.lane_cells.proofs.Lane.{lane_zero}
use Rattle.lane_cells.proofs.Blocks.{all-at}
use Rattle.lane_screen.specs.declared.Rise.{Rise}
use Rattle.lane_screen.specs.declared.Masks.{Masks}
use Rattle.lane_screen.specs.Suspects.{CleanIn, RiseClean, Unnamed, Clean, AllClean}

module _ (s : Stage) (r : Reference) (which : Sweep) where
  clean_start : (n : ℕ) → Clean which s r (replicate n 0xFFFF_FFFF_FFFF_FFFF)
  clean_start n w u =
      let full = replicate {A = ℕ} n 0xFFFF_FFFF_FFFF_FFFF in
      let h : w / 64 < n = omega (arith, u.inside, length-replicate {A = ℕ} n 0xFFFF_FFFF_FFFF_FFFF) in
      let e : get_or full (w / 64) 0 ≡ 0xFFFF_FFFF_FFFF_FFFF = get_or-replicate n (w / 64) 0xFFFF_FFFF_FFFF_FFFF 0 h in
      absurd (clash (ap (lane (w % 64)) e ∙ ap (λ (x : ℕ). eqb x 1) (all-at (w % 64) (mod-lt w (lit< tt)))) u.clear)

  pub clean_more : (mask : List ℕ) (b x : ℕ) → Clean which s r mask → CleanIn which s r b x
      → Clean which s r (set mask b x)
  clean_more mask b x ok new w u = go (ℕ_discrete (w / 64) b)
    where
      inside : w / 64 < length mask
      inside = omega (arith, u.inside, length-set mask b x)

      go : Dec (w / 64 ≡ b) → finds which s r w ≡ None
      go (yes e) =
          let is : 64 * b + w % 64 ≡ w = omega arith in
          let stored : get_or (set mask b x) (w / 64) 0 ≡ x = rw e (get_or-set_same mask b x 0 (omega (arith, inside))) in
          subst (λ (v : ℕ). finds which s r v ≡ None) is (new (w % 64) (mod-lt w (lit< tt)) (sym (ap (lane (w % 64)) stored) ∙ u.clear))
      go (no d) = ok w (record { inside = inside; clear = sym (ap (lane (w % 64)) (get_or-set_other mask b (w / 64) x 0 d)) ∙ u.clear })

abbrev pub masks_of : List ℕ → List ℕ → List ℕ → Masks
masks_of wrong rise fall = record { wrong = wrong; rise = rise; fall = fall }

pub all_clean_start : (s : Stage) (r : Reference) (n : ℕ)
    → AllClean s r (masks_of (replicate n 0xFFFF_FFFF_FFFF_FFFF) (replicate n 0xFFFF_FFFF_FFFF_FFFF) (replicate n 0xFFFF_FFFF_FFFF_FFFF))
all_clean_start s r n = record {
  wrong = clean_start s r Wrong n;
  missing = clean_start s r Missing n;
  unobserved = clean_start s r Unobserved n;
  remaining = clean_start s r Remaining n;
  still_high = clean_start s r StillHigh n;
}

-- a block's words in all masks
pub all_clean_more : (s : Stage) (r : Reference) (wrong rise fall : List ℕ) (b : ℕ) (l : Rise) (x : ℕ) → AllClean s r (masks_of wrong rise fall) → RiseClean s r b l
    → CleanIn Remaining s r b x → CleanIn StillHigh s r b x → AllClean s r (masks_of (set wrong b l.wrong) (set rise b l.all) (set fall b x))
all_clean_more s r wrong rise fall b l x ok up complete observable = record {
  wrong = clean_more s r Wrong wrong b l.wrong ok.wrong up.wrong;
  missing = clean_more s r Missing rise b l.all ok.missing up.missing;
  unobserved = clean_more s r Unobserved rise b l.all ok.unobserved up.unobserved;
  remaining = clean_more s r Remaining fall b x ok.remaining complete;
  still_high = clean_more s r StillHigh fall b x ok.still_high observable;
}

-- a mask whose numbers are 0 up to the words below a bound names none of them
pub clear_unnamed : (mask : List ℕ) (b : ℕ) → b ≤ length mask → ((k : ℕ) → k < b → get_or mask k 0 ≡ 0) → (n w : ℕ) → w < n → n ≤ 64 * b → Unnamed mask w
clear_unnamed mask b room low n w h l =
    let block : w / 64 < b = omega arith in
    record { inside = omega arith; clear = ap (lane (w % 64)) (low (w / 64) block) ∙ lane_zero (w % 64) }
