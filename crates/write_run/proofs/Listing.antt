-- A run that is being put into a list: what is still to come, put behind what stands there, gives the whole. Assumes nothing.
use Prim.Native.Nat.{ℕ, suc, ◌+◌, ◌≤◌, ◌<◌}
use native.Mathlib.Omega.{arith}
use mathlib.Core.Path.{◌≡◌, refl, sym, ap, ap₂, ◌∙◌, subst}
use mathlib.Core.List.{List, [], ◌∷◌, ◌++◌, append-nil}
use lib.ListN.{length, take, drop, set, length-append}
use lib.Seq.{take-append_seam}
use Rattle.runs.specs.Row.{Row, toggle, after}
use Rattle.write_command.specs.Put.{Put}
use Rattle.write_command.proofs.Joining.{put, put-++, put_holding, Left, left_all, left_put, left_none}
use Rattle.write_run.specs.declared.Lengths.{Lengths}
use Rattle.write_run.specs.Listing.{ListedRun, RunPut}

-- with `more steps r` what is played from row r in so many steps, of which n are left at the start
pub record Listing (more : ℕ → Row → List ℕ) (n : ℕ) (before : List ℕ) (start : ℕ) (r₀ : Row) (list : List ℕ) (count : ℕ) (r : Row) : Type 0 where
  pub steps : ℕ
  pub steps_are : count + steps ≡ start + n
  pub count-is : count + length (more steps r) ≡ start + length (more n r₀)
  pub left : Left before start (more n r₀) list count (more steps r)
  pub row_is : after r (more steps r) ≡ after r₀ (more n r₀)

module _ (more : ℕ → Row → List ℕ) (n : ℕ) (before : List ℕ) (start : ℕ) (r₀ : Row) where
  pub listing_start : start + length (more n r₀) ≤ length before → Listing more n before start r₀ before start r₀
  listing_start room = record { steps = n; steps_are = refl; count-is = refl; left = left_all refl room; row_is = refl }

  module _ (list : List ℕ) (count : ℕ) (r : Row) (l : Listing more n before start r₀ list count r) where
    pub listing_long : length list ≡ length before
    listing_long = l.left.long

    -- a net switches: it has room, and what is still to come follows it
    pub listing_room : (k : ℕ) (steps : ℕ) → more l.steps r ≡ k ∷ more steps (toggle r k) → count < length list
    listing_room k steps e = omega (arith, l.left.room, ap length e)

    pub listing_turn : (k : ℕ) (steps : ℕ) → l.steps ≡ suc steps → more (suc steps) r ≡ k ∷ more steps (toggle r k)
        → Listing more n before start r₀ (set list count k) (count + 1) (toggle r k)
    listing_turn k steps s e =
        let is : more l.steps r ≡ k ∷ more steps (toggle r k) = ap (λ (m : ℕ). more m r) s ∙ e in
        record {
          steps = steps;
          steps_are = omega (arith, l.steps_are, s);
          count-is = omega (arith, l.count-is, ap length is);
          left = left_put (k ∷ []) (more steps (toggle r k)) l.left is (put list (set list count k) count (k ∷ []) refl) (omega arith);
          row_is = ap (after r) (sym is) ∙ l.row_is;
        }

    pub listing_done : more l.steps r ≡ [] → ListedRun (more n r₀) before start r₀ count list r
    listing_done e = record {
      end_is = omega (arith, l.count-is, ap length e);
      put = left_none l.left e;
      row_is = ap (after r) (sym e) ∙ l.row_is;
    }

-- ---- a rise, and a fall behind it

pub put_both : {rise fall before between after' : List ℕ} {r₀ r₁ r₂ : Row} {a b : ℕ} → ListedRun rise before 0 r₀ a between r₁ → ListedRun fall between a r₁ b after' r₂
    → RunPut rise fall before (record { rise = a; count = b }) after'
put_both {rise} {fall} x y = record {
  rise_is = omega (arith, x.end_is);
  count-is = omega (arith, x.end_is, y.end_is, length-append rise fall);
  put = put-++ x.put y.put (omega (arith, x.end_is));
}

pub put_rise : {rise fall before after' : List ℕ} {r₀ r₁ : Row} {a : ℕ} → fall ≡ [] → ListedRun rise before 0 r₀ a after' r₁
    → RunPut rise fall before (record { rise = a; count = a }) after'
put_rise {rise} {fall} {before} {after'} {r₀} {r₁} {a} e x =
    let is : rise ++ fall ≡ rise = ap (λ (l : List ℕ). rise ++ l) e ∙ append-nil rise in
    record { rise_is = omega (arith, x.end_is); count-is = omega (arith, x.end_is, ap length is); put = subst (λ (l : List ℕ). Put before 0 l after') (sym is) x.put }

-- they stand at the start
pub run_taken : {rise fall before list : List ℕ} {r : Lengths} → RunPut rise fall before r list → length (rise ++ fall) ≤ length before → take r.count list ≡ rise ++ fall
run_taken {rise} {fall} {before} {list} {r} x room =
    let h : list ≡ (rise ++ fall) ++ drop (length (rise ++ fall)) before = put_holding x.put room in
    ap₂ take x.count-is h ∙ take-append_seam (rise ++ fall) (drop (length (rise ++ fall)) before)
