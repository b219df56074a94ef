-- What the call answers, check by check.
-- Assumes nothing.
use Rattle.std.specs.Prelude.{Some, None}
use Prim.Native.Nat.{ℕ, ◌≤◌, ◌<◌}
use mathlib.Core.Path.{◌≡◌, sym, ap, ◌∙◌}
use mathlib.Core.List.{List, []}
use lib.ListN.{length}
use Rattle.netlist.specs.Reading.{stage_limits}
use Rattle.verdict.specs.Checks.{verdict}
use Rattle.verdict.specs.declared.Answer.{Answer}
use Rattle.verdict.specs.Written.{Written, answer_of, written}
use Rattle.text_spec.specs.Characters.{newline}
use Rattle.text_spec.specs.Lines.{split, other_form, Text}
use Rattle.text_spec.specs.FromText.{TextAnswer, refusal, drivers, needing, driving, undriven, driven_again, from_parsed}
use Rattle.text_spec.specs.Call.{leaves, stage_from}
use Rattle.text_spec.proofs.Answers.{text_29, text_formed, text_30, text_31, text_3, text_6, text_file}
use Rattle.call_text_read.specs.Counted.{saying, file_leaves}

-- a refusal writes nothing
refused_as : (a : TextAnswer) (number file at : ℕ) (r : Answer) (buffer : List ℕ) → a ≡ refusal number file at → r ≡ answer_of (verdict number file at 0) 0 →
    written r buffer ≡ leaves a buffer
unfolding leaves
refused_as a number file at r buffer e d = rw (e, d)

-- ---- 29

module _ (s buffer : List ℕ) where
  pub refused_29 : (i : ℕ) (r : Answer) → Some i ≡ other_form 0 (split newline s) → r ≡ answer_of (verdict 29 1 i 0) 0 → written r buffer ≡ stage_from s buffer
  refused_29 i r e d = refused_as _ 29 1 i r buffer (text_29 stage_limits (length buffer) s i (sym e)) d

  pub passed_29 : (w : Written) → None ≡ other_form 0 (split newline s) → w ≡ leaves (from_parsed stage_limits (length buffer) (saying s)) buffer →
      w ≡ stage_from s buffer
  passed_29 w e d = d ∙ ap (λ (a : TextAnswer). leaves a buffer) (sym (text_formed stage_limits (length buffer) s (sym e)))

-- ---- 30, 31, 3 and 6

module _ (t : Text) (buffer : List ℕ) where
  abbrev Answers : Written → Type 0
  Answers w = w ≡ leaves (from_parsed stage_limits (length buffer) t) buffer

  pub refused_30 : (i : ℕ) (r : Answer) → Some i ≡ undriven (drivers t) 0 (needing t) → r ≡ answer_of (verdict 30 1 i 0) 0 → Answers (written r buffer)
  refused_30 i r e d = refused_as _ 30 1 i r buffer (text_30 stage_limits (length buffer) t i (sym e)) d

  module _ (e : None ≡ undriven (drivers t) 0 (needing t)) where
    pub refused_31 : (i : ℕ) (r : Answer) → Some i ≡ driven_again [] 0 (driving t) → r ≡ answer_of (verdict 31 1 i 0) 0 → Answers (written r buffer)
    refused_31 i r f d = refused_as _ 31 1 i r buffer (text_31 stage_limits (length buffer) t (sym e) i (sym f)) d

    module _ (f : None ≡ driven_again [] 0 (driving t)) where
      pub refused_3 : (r : Answer) → stage_limits.inputs < length t.inputs → r ≡ answer_of (verdict 3 1 1 0) 0 → Answers (written r buffer)
      refused_3 r l d = refused_as _ 3 1 1 r buffer (text_3 stage_limits (length buffer) t (sym e) (sym f) l) d

      module _ (l : length t.inputs ≤ stage_limits.inputs) where
        pub refused_6 : (r : Answer) → stage_limits.gates < length t.gates → r ≡ answer_of (verdict 6 1 2562 0) 0 → Answers (written r buffer)
        refused_6 r m d = refused_as _ 6 1 2562 r buffer (text_6 stage_limits (length buffer) t (sym e) (sym f) l m) d

        pub passed_all : (w : Written) → length t.gates ≤ stage_limits.gates → w ≡ file_leaves t buffer → Answers w
        passed_all w m d = d ∙ ap (λ (a : TextAnswer). leaves a buffer) (sym (text_file stage_limits (length buffer) t (sym e) (sym f) l m))
