-- The cases of the call.
-- Assumes nothing.
use Prim.Native.Nat.{ℕ, ◌+◌, ◌*◌, ◌≤◌, ◌<◌}
use native.Mathlib.Omega.{arith}
use mathlib.Core.Path.{◌≡◌, sym, ap, subst, ◌∙◌}
use mathlib.Core.List.{List, [], ◌∷◌, ◌++◌}
use lib.ListN.{length}
use Rattle.check_spec.specs.Content.{Content}
use Rattle.verdict.specs.FourNumbers.{verdict, accepted}
use Rattle.verdict.specs.declared.Answer.{Answer}
use Rattle.write_command.specs.Put.{Put}
use Rattle.verdict.specs.Written.{Written, answer_of, written}
use Rattle.write_command.proofs.Answers.{refuses, answers_short, answers_written}
use Rattle.call_next.specs.declared.Place.{Place}
use Rattle.call_next.specs.declared.Place.TheVariants as place
use Rattle.next_spec.specs.Numbered.{stages, stage_numbered}
use Rattle.next_spec.specs.Family.{file_of, Member, NextIs, outside, last, next, NextDemand}
use Rattle.next_spec.specs.Listing.{InShape, listing, Listed, onward}
use Rattle.call_next.specs.Steps.{Located, First, ListedAt, written_at}
use Rattle.next_spec.proofs.Listed.{numbered_shaped}
use Rattle.next_spec.proofs.Walks.{next-first, none_first, next_listed, none_listed, one_answer, family}
use Rattle.next_spec.proofs.Onward.{stages_most, onward_start, place_in_listing}

-- ---- the file at a place

pub located_listed : (s : List ℕ) (p : Place) (n g z : ℕ) → p ≡ place.Stage n g z → Located s p → InShape n g × (z + 1 ≤ stages n g) × (z < 186624)
unfolding Located
located_listed s p n g z e l =
    let o : Listed n g z × (s ≡ file_of (stage_numbered n g z)) = subst (Located s) e l in
    let b = o.0.below in
    let m = stages_most n g o.0.shaped in
    (o.0.shaped, omega arith, omega arith)

module _ (n g z : ℕ) (l : Listed n g z) (buffer : List ℕ) where
  long : length (file_of (stage_numbered n g z)) ≡ 8 + 10 * g
  long = (numbered_shaped n g l.shaped z).long

  pub number_short : {a : Answer} → length buffer < 8 + 10 * g → a ≡ answer_of (verdict 38 3 0 0) 0 → written a buffer ≡ written_at (place.Stage n g z) buffer
  unfolding written_at
  number_short s e = answers_short (verdict 38 3 0 0) (file_of (stage_numbered n g z)) buffer (omega (arith, long)) e

  pub number_fits : {a : Answer} {after : List ℕ} → 8 + 10 * g ≤ length buffer → Put buffer 0 (file_of (stage_numbered n g z)) after
      → a ≡ answer_of accepted (8 + 10 * g)
      → written a after ≡ written_at (place.Stage n g z) buffer
  unfolding written_at
  number_fits s p e = answers_written (verdict 38 3 0 0) (file_of (stage_numbered n g z)) buffer (omega (arith, long)) p (sym long) e

module _ (p : Place) (buffer : List ℕ) where
  pub place_listed : (n g z : ℕ) → p ≡ place.Stage n g z → ListedAt p → Listed n g z
  unfolding ListedAt
  place_listed n g z e h = subst ListedAt e h

  pub place_stage : (x : Written) (n g z : ℕ) → p ≡ place.Stage n g z → x ≡ written_at (place.Stage n g z) buffer → x ≡ written_at p buffer
  place_stage x n g z e h = h ∙ ap (λ (q : Place). written_at q buffer) (sym e)

  pub place-start : {a : Answer} → p ≡ place.Start → a ≡ answer_of (verdict 36 1 0 0) 0 → written a buffer ≡ written_at p buffer
  unfolding written_at
  place-start e h = rw (e, h)

  pub place_outside : {a : Answer} → p ≡ place.Outside → a ≡ answer_of (verdict 36 1 0 0) 0 → written a buffer ≡ written_at p buffer
  unfolding written_at
  place_outside e h = rw (e, h)

pub first_listed : (cs : List Content) (p : Place) → First cs p → ListedAt p
unfolding First ListedAt
first_listed cs place.Start f = absurd f
first_listed cs (place.Stage n g z) f = f.0
first_listed cs place.Outside f = tt

-- ---- the call

module _ (s buffer : List ℕ) where
  demanded : {r : Answer} {after : List ℕ} → NextIs s buffer (written r after) → NextDemand s buffer r after
  demanded {r} {after} a = record { answer = a; fixed = λ w n. one_answer s buffer w (written r after) n a; family = family }

  pub next_outside : (p : Place) {a : Answer} → p ≡ place.Outside → Located s p → a ≡ answer_of (verdict 37 1 0 0) 0 → NextDemand s buffer a buffer
  unfolding Located
  next_outside p e l h =
      let o : (s ≡ [] → ⊥) × (Member s → ⊥) = subst (Located s) e l in
      demanded (subst (NextIs s buffer) (sym (refuses buffer h)) (outside o.0 o.1))

  start_is : s ≡ [] → (q : Place) → First listing q → NextIs s buffer (written_at q buffer)
  unfolding First written_at
  start_is e place.Start f = absurd f
  start_is e (place.Stage n g z) f = next (stage_numbered n g z) (next-first s e (stage_numbered n g z) (onward n g (z + 1)) f.1)
  start_is e place.Outside f = last (none_first s e f)

  pub next_start : (p : Place) {r : Answer} {after : List ℕ} → p ≡ place.Start → Located s p → (q : Place) → First (onward 1 0 0) q
      → written r after ≡ written_at q buffer
      → NextDemand s buffer r after
  unfolding Located listing
  next_start p e l q f h =
      let o : s ≡ [] = subst (Located s) e l in
      let i : InShape 1 0 = record { inputs_in = (omega arith, omega arith); gates_in_holds = omega arith } in
      demanded (subst (NextIs s buffer) (sym h) (start_is o q (subst (λ (cs : List Content). First cs q) (sym (onward_start 1 0 i)) f)))

  stage_is : (c : Content) (front later : List Content) → listing ≡ front ++ (c ∷ later) → s ≡ file_of c → (q : Place) → First later q
      → NextIs s buffer (written_at q buffer)
  unfolding First written_at
  stage_is c front later e h place.Start f = absurd f
  stage_is c front later e h (place.Stage n g z) f = rw h
      (next (stage_numbered n g z) (next_listed front c later e (stage_numbered n g z) (onward n g (z + 1)) f.1))
  stage_is c front later e h place.Outside f = rw h (last (none_listed front c later e f))

  pub next_stage_lem : (p : Place) {r : Answer} {after : List ℕ} (n g z : ℕ) → p ≡ place.Stage n g z → Located s p → (q : Place) → First (onward n g (z + 1)) q
      → written r after ≡ written_at q buffer → NextDemand s buffer r after
  unfolding Located
  next_stage_lem p n g z e l q f h =
      let o : Listed n g z × (s ≡ file_of (stage_numbered n g z)) = subst (Located s) e l in
      let a = place_in_listing n g z o.0 in
      demanded (subst (NextIs s buffer) (sym h) (stage_is (stage_numbered n g z) a.0 (onward n g (z + 1)) a.1 o.1 q f))
