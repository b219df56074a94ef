-- What the answer of the call says of the bytes that it writes.
-- Assumes nothing.
use Prim.Native.Nat.{ℕ, ◌≤◌}
use native.Mathlib.Omega.{arith}
use mathlib.Core.Path.{◌≡◌, refl, sym, ap, ◌∙◌, subst}
use mathlib.Core.Bool.{Bool, true, false, ◌&&◌}
use mathlib.Core.List.{List}
use lib.ListN.{length, take}
use lib.Dec.{leb, ltb}
use borrow.Author.Tests.{leb-true, ltb-false}
use Rattle.runs.proofs.Test.{and_left, and_right}
use Rattle.verdict.specs.declared.Verdict.{Verdict}
use Rattle.verdict.specs.FourNumbers.{verdict}
use Rattle.verdict.specs.declared.Answer.{Answer}
use Rattle.verdict.specs.Written.{Written, written, refuse, write, write_or}
use Rattle.verdict.proofs.Written.{holding_take}
use Rattle.draw_spec.specs.Drawn.{drawn_reference, drawn_bytes, in_range, many_outputs, drawn}
use Rattle.draw_spec.specs.Demand.{Makeable, DrawnDemand}
use Rattle.draw_spec.proofs.Made.{makeable}

pub in_range_holds : (n g : ℕ) → in_range n g ≡ true → (1 ≤ n) × (n ≤ 10) × (g ≤ 40)
in_range_holds n g e =
    let a = and_left (leb 1 n && leb n 10) (leb g 40) e in (
      leb-true 1 n (and_left (leb 1 n) (leb n 10) a),
      leb-true n 10 (and_right (leb 1 n) (leb n 10) a),
      leb-true g 40 (and_right (leb 1 n && leb n 10) (leb g 40) e),
    )

-- a refusal is no acceptance
refuses : {v : Verdict} {w : Written} {buffer : List ℕ} {P : Type 0} → w ≡ refuse v buffer → 1 ≤ v.number → w.verdict.number ≡ 0 → P
refuses e l z = let n = sym (ap (λ (x : Written). x.verdict.number) e) ∙ z in absurd (omega arith)

module _ (seed n g : ℕ) (buffer : List ℕ) where
  accepts : (w : Written) → w ≡ drawn seed n g buffer → w.verdict.number ≡ 0 → Makeable seed n g (take w.count w.buffer)
  unfolding drawn write_or
  accepts w e z = go (in_range n g) (many_outputs seed n g) (ltb (length buffer) (length (drawn_bytes seed n g))) refl refl refl e
    where
      go : (a b c : Bool) → in_range n g ≡ a → many_outputs seed n g ≡ b → ltb (length buffer) (length (drawn_bytes seed n g)) ≡ c → w ≡ drawn seed n g buffer
          → Makeable seed n g (take w.count w.buffer)
      go false b c o p q e = refuses {v = verdict 39 0 0 0} {buffer = buffer} (e ∙ rw o) (omega arith) z
      go true true c o p q e = refuses {v = verdict 40 0 0 0} {buffer = buffer} (e ∙ rw (o, p)) (omega arith) z
      go true false true o p q e = refuses {v = verdict 41 3 0 0} {buffer = buffer} (e ∙ rw (o, p, q)) (omega arith) z
      go true false false o p q e =
          let bytes = drawn_bytes seed n g in
          let y : w ≡ write bytes buffer = e ∙ rw (o, p, q) in
          let i = in_range_holds n g o in
          subst (Makeable seed n g) (sym (ap (λ (x : Written). take x.count x.buffer) y ∙ holding_take bytes buffer))
          (makeable seed n g i.0 i.1 i.2 (ltb-false 16 (length (drawn_reference seed n g).outputs) p))

  -- an answer that is the one defined says all that is said of the call
  pub drawn_demand : {r : Answer} {after : List ℕ} → written r after ≡ drawn seed n g buffer → DrawnDemand seed n g buffer r after
  drawn_demand {r} {after} e = record { answer = e; makeable = λ z. accepts (written r after) e z }
