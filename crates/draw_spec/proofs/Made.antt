-- Every signal of a drawn reference is an output or leads to one, so that a stage is made of it.
-- Assumes nothing.
use Rattle.std.specs.Prelude.{Option, Some, None}
use Prim.Native.Nat.{ℕ, zero, suc, ◌+◌, ◌≤◌, ◌<◌}
use native.Mathlib.Omega.{arith}
use mathlib.Core.Path.{◌≡◌, refl, sym, ap, ◌∙◌}
use mathlib.Core.Logic.{◌⊎◌, inl, inr, ⊎_elim}
use mathlib.Core.Bool.{Bool, true, false, cond, not}
use mathlib.Core.List.{List, [], ◌∷◌, ◌++◌}
use lib.ListN.{length, get_or}
use lib.Dec.{eqb, ltb}
use borrow.Author.Tests.{le-ltb}
use Rattle.runs.proofs.Test.{clash, true?}
use Rattle.netlist.specs.Commands.{when_found}
use Rattle.netlist.specs.Reading.{stage_limits, reference_limits}
use Rattle.netlist.specs.Content.{Coded, Reference}
use Rattle.netlist.specs.Formed.{ReferenceFormed}
use Rattle.verdict.specs.declared.Verdict.{Verdict}
use Rattle.verdict.specs.Graph.{In}
use Rattle.verdict.specs.Search.{least}
use Rattle.verdict.proofs.Least.{least_says}
use Rattle.verdict.proofs.Names.{in_select}
use Rattle.verdict.proofs.Words.{index_in}
use Rattle.check_spec.specs.Cases.{verdict, accepted, judge, first}
use Rattle.check_spec.specs.Lists.{numbers, some}
use Rattle.check_spec.specs.Rows.{no_gate}
use Rattle.check_spec.specs.Verdicts.{refusal}
use Rattle.make_spec.specs.Make.{built, leads_out, made_bytes, make_checks, make_checks_on}
use Rattle.check_spec.specs.Loaded.{from_reference}
use Rattle.make_spec.specs.Count.{operations}
use Rattle.make_spec.proofs.Lists.{among_in, in_among}
use Rattle.make_spec.proofs.Leading.{reads_later, output_leads, operand_leads, output-is}
use Rattle.make_spec.proofs.Making.{needed_counted, later_verdict, judged_by}
use Rattle.draw_spec.specs.Draws.{gates_from}
use Rattle.draw_spec.specs.Drawn.{used_by, unused, drawn_reference, drawn_bytes}
use Rattle.draw_spec.specs.Demand.{Makeable}
use Rattle.draw_spec.proofs.Formed.{parsed, free, gates_long, formed, reads, reads_as}

-- ---- a reference all of whose signals lead out

-- the gates that are not NOT are gates
operations-most : (cs : List Coded) → operations cs ≤ length cs
unfolding operations
operations-most [] = omega arith
operations-most (c ∷ cs) = go (eqb c.code 1) (operations-most cs)
  where
    go : (b : Bool) → operations cs ≤ length cs → cond b (operations cs) (suc (operations cs)) ≤ suc (length cs)
    go true l = omega arith
    go false l = omega arith

-- what a call that makes a stage may answer: the stage is made, or the buffer is too short for it
abbrev MadeOr27 : Verdict → Type 0
MadeOr27 v = (v ≡ accepted) ⊎ (v ≡ verdict 27 3 0 0)

not_25 : (v : Verdict) → MadeOr27 v → ¬ (v.number ≡ 25)
not_25 v (inl e) h = let z : ◌≡◌ {A = ℕ} 0 25 = sym (ap (λ (v : Verdict). v.number) e) ∙ h in omega arith
not_25 v (inr e) h = let z : ◌≡◌ {A = ℕ} 27 25 = sym (ap (λ (v : Verdict). v.number) e) ∙ h in omega arith

-- 25 finds nothing, nor does 26 where the gates are few
module _ (r : Reference) (well : ReferenceFormed reference_limits r) (lead : (x : ℕ) → x < r.inputs + length r.gates → leads_out (from_reference r) x ≡ true) (few : length r.gates ≤ 128) where
  none_25 : (x : Option ℕ) → least (λ x. not (leads_out (from_reference r) x)) 0 (r.inputs + length r.gates) ≡ x → x ≡ None
  none_25 (Some x) e =
      let s = least_says (λ x. not (leads_out (from_reference r) x)) 0 (r.inputs + length r.gates) (Some x) e in
      absurd (clash s.passes (ap not (lead x (omega (arith, s.below)))))
  none_25 None e = refl

  pub made_or_27 : (room : ℕ) → MadeOr27 (judge (make_checks (from_reference r) room))
  unfolding when_found
  made_or_27 room = go (ltb room (length (made_bytes (from_reference r)))) (judged_by (from_reference r) room
      ∙ ap (λ (x : Option ℕ). when_found x (λ x. verdict 25 2 x 0) (later_verdict (from_reference r) room)) (none_25 _ refl)
      ∙ rw (le-ltb stage_limits.gates (length (built (from_reference r)).gates) (omega (arith, needed_counted r well, operations-most r.gates))))
    where
      go : (short : Bool) → judge (make_checks (from_reference r) room) ≡ cond short (verdict 27 3 0 0) accepted → MadeOr27 (judge (make_checks (from_reference r) room))
      go true e = inr e
      go false e = inl e

-- ---- a drawn reference is such a one

in-++ : (x : ℕ) (xs ys : List ℕ) → In x (xs ++ ys) → In x xs ⊎ In x ys
in-++ x [] ys i = inr i
in-++ x (y ∷ xs) ys (inl e) = inl (inl e)
in-++ x (y ∷ xs) ys (inr i) = ⊎_elim (λ j. inl (inr j)) (λ j. inr j) (in-++ x xs ys i)

-- x is an operand of some gate
abbrev Used : List Coded → ℕ → Type 0
Used cs x = (k : ℕ) × (k < length cs) × In x (get_or cs k no_gate).operands

user : (x : ℕ) (cs : List Coded) → In x (used_by cs) → Used cs x
unfolding used_by
user x [] i = absurd i
user x (c ∷ cs) i = go (in-++ x c.operands (used_by cs) i) (user x cs)
  where
    go : In x c.operands ⊎ In x (used_by cs) → (In x (used_by cs) → Used cs x) → Used (c ∷ cs) x
    go (inl j) later = (0, omega arith, j)
    go (inr j) later = let u = later j in (suc u.0, omega (arith, u.1), u.2)

module _ (seed n g : ℕ) (some-input : 1 ≤ n) (low : n ≤ 10) (few : g ≤ 40) (outputs : length (drawn_reference seed n g).outputs ≤ 16) where
  abbrev gates : List Coded
  gates = gates_from n g seed

  well : ReferenceFormed reference_limits (parsed seed n g)
  well = formed seed n g some-input low few outputs

  -- a signal with at most `more` signals above it leads out: it is an output, or a gate above it uses it
  leads_from : (more x : ℕ) → x < n + g → n + g ≤ x + more → leads_out (from_reference (parsed seed n g)) x ≡ true
  leads_from zero x l m = absurd (omega arith)
  leads_from (suc more) x l m = go (true? (some (eqb x) (used_by gates))) (leads_from more)
    where
      go : (some (eqb x) (used_by gates) ≡ true) ⊎ (some (eqb x) (used_by gates) ≡ false)
          → ((y : ℕ) → y < n + g → n + g ≤ y + more → leads_out (from_reference (parsed seed n g)) y ≡ true) → leads_out (from_reference (parsed seed n g)) x ≡ true
      go (inr none) later =
          output_leads (from_reference (parsed seed n g)) well.gates_formed x
          (output-is x (free seed n g) ∙ in_among x (free seed n g) (in_select (unused gates) (numbers 0 (n + g)) x (index_in (n + g) x l) (ap not none)))
      go (inl taken) later =
          let u = user x gates (among_in x (used_by gates) taken) in
          let before = reads_later (from_reference (parsed seed n g)) well.gates_formed u.0 x (u.1, u.2) in
          operand_leads (from_reference (parsed seed n g)) well.gates_formed x u.0 (u.1, u.2) (later (n + u.0) (omega (arith, u.1, gates_long n g seed)) (omega arith))

  pub makeable : Makeable seed n g (drawn_bytes seed n g)
  unfolding judge first refusal drawn_reference
  makeable =
      let read = reads seed n g some-input low few outputs in
      let is = reads_as seed n g some-input low few outputs in
      let long = gates_long n g seed in
      let all-lead : (x : ℕ) → x < n + length gates → leads_out (from_reference (parsed seed n g)) x ≡ true = λ x l. leads_from (n + g) x (omega arith) (omega arith) in
      let made : (room : ℕ) → MadeOr27 (judge (make_checks_on (drawn_bytes seed n g) room)) = λ room. rw (is, read) (made_or_27 (parsed seed n g) well all-lead (omega arith) room) in
      record { readable = (rw read tt, is); never_25 = λ room. not_25 (judge (make_checks_on (drawn_bytes seed n g) room)) (made room); made = made }
