-- A run that is played and put into a list, one net after the other. Assumes nothing.
use Rattle.std.specs.Prelude.{Some, None}
use Prim.Native.Nat.{ℕ, suc, ◌+◌, ◌-◌, ◌≤◌, ◌<◌}
use native.Mathlib.Omega.{arith}
use mathlib.Core.Path.{◌≡◌, ap, ◌∙◌}
use mathlib.Core.List.{List, ◌∷◌}
use lib.ListN.{length, set}
use Rattle.runs.specs.Row.{Row, Rule, toggle}
use Rattle.run_spec.specs.Played.{played}
use Rattle.run_spec.proofs.Played.{NextIs, played_none, played_next, played_few}
use Rattle.write_run.specs.Listing.{ListedRun}
use Rattle.write_run.proofs.Listing.{Listing, listing_start, listing_long, listing_room, listing_turn, listing_done}

-- a list as it was at the start, the place from which nets are put, and the row
pub record Begun : Type 0 where
  pub list : List ℕ
  pub start : ℕ
  pub row : Row

module _ (can : Rule) (key : ℕ → ℕ) (n : ℕ) where
  abbrev more : ℕ → Row → List ℕ
  more = played can key n

  -- what is listed so far of what is played in n steps
  abbrev pub Playing : Begun → List ℕ → ℕ → Row → Type 0
  Playing b = Listing more n b.list b.start b.row

  pub playing_start : (b : Begun) → b.start + n ≤ length b.list → Playing b b.list b.start b.row
  playing_start b room = listing_start more n b.list b.start b.row (omega (arith, played_few can key n n b.row))

  module _ (b : Begun) (list : List ℕ) (count : ℕ) (r : Row) (l : Playing b list count r) where
    abbrev before : List ℕ
    before = b.list

    abbrev start : ℕ
    start = b.start

    abbrev r₀ : Row
    r₀ = b.row

    pub playing_long : length list ≡ length before
    playing_long = listing_long more n before start r₀ list count r l

    -- no step is left to take, or no net may switch
    pub playing_full : start + n ≤ count → ListedRun (more n r₀) before start r₀ count list r
    unfolding played
    playing_full h =
        let z : l.steps ≡ 0 = omega (arith, l.steps_are) in
        listing_done more n before start r₀ list count r l (ap (λ (m : ℕ). more m r) z)

    pub playing_none : NextIs key (can r) n None → ListedRun (more n r₀) before start r₀ count list r
    playing_none next = listing_done more n before start r₀ list count r l (played_none can key n l.steps r next)

    -- the next net switches
    module _ (k : ℕ) (next : NextIs key (can r) n (Some k)) (left : count < start + n) where
      steps_left : l.steps ≡ suc (l.steps - 1)
      steps_left = omega (arith, l.steps_are)

      is_next : more (suc (l.steps - 1)) r ≡ k ∷ more (l.steps - 1) (toggle r k)
      is_next = played_next can key n (l.steps - 1) r k next

      pub playing_room : count < length list
      playing_room = listing_room more n before start r₀ list count r l k (l.steps - 1) (ap (λ (m : ℕ). more m r) steps_left ∙ is_next)

      pub playing_turn : Playing b (set list count k) (count + 1) (toggle r k)
      playing_turn = listing_turn more n before start r₀ list count r l k (l.steps - 1) steps_left is_next
