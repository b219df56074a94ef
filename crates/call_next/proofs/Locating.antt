-- Where a file stands, and what the call gives for it.
-- Assumes nothing.
use Prim.Native.Nat.{ℕ, ◌+◌, ◌*◌, ◌≤◌, ◌<◌}
use native.Mathlib.Omega.{arith}
use mathlib.Core.Path.{◌≡◌, refl, sym, ap, subst, ◌∙◌}
use mathlib.Core.Bool.{Bool, true, false}
use Rattle.runs.proofs.Test.{clash}
use mathlib.Core.List.{List, [], ◌∷◌}
use lib.ListN.{length, get_or, take, replicate, length-replicate}
use Rattle.std.specs.Bool.{Decides}
use Rattle.write_command.specs.Put.{Put}
use Rattle.verdict.specs.Written.{holding}
use Rattle.write_command.proofs.Joining.{put_holding}
use Rattle.verdict.proofs.Written.{holding_take}
use Rattle.call_next.specs.declared.Place.TheVariants as place
use Rattle.next_spec.specs.Numbered.{nets_of, stages, stage_numbered}
use Rattle.next_spec.specs.Family.{file_of, Member}
use Rattle.next_spec.specs.Listing.{InShape, free, Listed}
use Rattle.call_next.specs.Steps.{number_in, Located}
use Rattle.next_spec.proofs.Less.{stage_bytes}
use Rattle.next_spec.proofs.Members.{in_listed}
use Rattle.next_spec.proofs.Listed.{numbered_shaped}
use Rattle.call_next.proofs.Shown.{number_shown}

-- ---- a file of the family has a number

pub record Stands (s : List ℕ) (n g z : ℕ) : Type 0 where
  pub listed : Listed n g z
  pub bytes : s ≡ file_of (stage_numbered n g z)
  pub long : length s ≡ 8 + 10 * g
  pub inputs : get_or s 1 0 ≡ n

stands : (s : List ℕ) (n g z : ℕ) → Listed n g z → s ≡ file_of (stage_numbered n g z) → Stands s n g z
stands s n g z l e = record {
  listed = l;
  bytes = e;
  long = ap (length {A = ℕ}) e ∙ (numbered_shaped n g l.shaped z).long;
  inputs = ap (λ (t : List ℕ). get_or t 1 0) (e ∙ stage_bytes n g z);
}

member_stands : (s : List ℕ) → Member s → (n : ℕ) × (g : ℕ) × (z : ℕ) × Stands s n g z
member_stands s (c, i, e) =
    let k = in_listed c i in
    (c.inputs, length c.gates, k.0, stands s c.inputs (length c.gates) k.0 k.1 (e ∙ ap file_of (sym k.2)))

-- ---- files of another form

module _ (s : List ℕ) (some : length s ≡ 0 → ⊥) where
  outside : (Member s → ⊥) → Located s place.Outside
  unfolding Located
  outside h = ((λ e. some (ap (length {A = ℕ}) e)), h)

  pub outside_long : ((g : ℕ) → g ≤ 2 → length s ≡ 8 + 10 * g → ⊥) → Located s place.Outside
  outside_long h = outside (λ m. let w = member_stands s m in h w.1 w.3.listed.shaped.gates_in_holds w.3.long)

  pub outside_inputs : ((n : ℕ) → 1 ≤ n → n ≤ 2 → get_or s 1 0 ≡ n → ⊥) → Located s place.Outside
  outside_inputs h = outside (λ m. let w = member_stands s m in let i = w.3.listed.shaped.inputs_in in h w.0 i.0 i.1 w.3.inputs)

pub located_start : (s : List ℕ) → length s ≡ 0 → Located s place.Start
unfolding Located
located_start [] e = refl
located_start (x ∷ s) e = absurd (omega arith)

-- ---- files of a shape

module _ (s : List ℕ) (n g z : ℕ) (i : InShape n g) (long : length s ≡ 8 + 10 * g) (byte : get_or s 1 0 ≡ n) (e : z ≡ number_in s (nets_of n g) g) where
  -- a member has the number that its bytes show
  its_number : Member s → Stands s n g z
  its_number m =
      let w = member_stands s m in
      let p : w.0 ≡ n = sym w.3.inputs ∙ byte in
      let q : w.1 ≡ g = omega (arith, w.3.long) in
      go w.0 w.1 w.2 w.3 p q
    where
      go : (a b c : ℕ) → Stands s a b c → a ≡ n → b ≡ g → Stands s n g z
      go a b c w p q =
          let v : Stands s n g c = subst (λ (j : ℕ). Stands s n j c) q (subst (λ (k : ℕ). Stands s k b c) p w) in
          let y : z ≡ c = e ∙ ap (λ (t : List ℕ). number_in t (nets_of n g) g) v.bytes ∙ number_shown n g c i v.listed.below in
          subst (Stands s n g) (sym y) v

  pub outside_count : (count : ℕ) → count ≡ stages n g → count ≤ z → Located s place.Outside
  outside_count count c l = outside s (λ k. omega arith) (λ m. omega (arith, (its_number m).listed.below))

  pub outside_loop : (b : Bool) → b ≡ free n g z → b ≡ false → Located s place.Outside
  outside_loop b h f = outside s (λ k. omega arith) (λ m. clash (its_number m).listed.loop_free (sym h ∙ f))

  module _ (bytes : List ℕ) (w : Put (replicate 28 0) 0 (file_of (stage_numbered n g z)) bytes) (b : Bool) (h : Decides b (s ≡ take (length s) bytes)) where
    file_long : length (file_of (stage_numbered n g z)) ≡ length s
    file_long = (numbered_shaped n g i z).long ∙ sym long

    first-bytes : take (length s) bytes ≡ file_of (stage_numbered n g z)
    first-bytes =
        let f = file_of (stage_numbered n g z) in
        ap (take (length s)) (put_holding w (omega (arith, file_long, i.gates_in_holds, length-replicate {A = ℕ} 28 0)))
        ∙ ap (λ (k : ℕ). take k (holding f (replicate 28 0))) (sym file_long)
        ∙ holding_take f (replicate 28 0)

    pub outside_bytes : b ≡ false → Located s place.Outside
    outside_bytes f = outside s (λ k. omega arith) (λ m. clash (h.1 ((its_number m).bytes ∙ sym first-bytes)) f)

    pub located_stage : z < stages n g → free n g z ≡ true → b ≡ true → Located s (place.Stage n g z)
    unfolding Located
    located_stage l f t = (record { shaped = i; below = l; loop_free = f }, h.0 t ∙ first-bytes)
