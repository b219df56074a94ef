-- The witness of two files, whatever they hold: it shows what the verdict says.
-- Assumes nothing.
use Prim.Native.Nat.{ℕ, ◌+◌, ◌*◌}
use native.Mathlib.Omega.{arith}
use mathlib.Core.Path.{◌≡◌, refl, sym, ap, ap₂, ◌∙◌, subst}
use mathlib.Core.Logic.{◌⊎◌, inl, inr}
use mathlib.Core.Bool.{Bool, true, false, cond}
use mathlib.Core.List.{List, [], ◌∷◌, ◌++◌}
use lib.ListN.{length, drop}
use lib.Dec.{eqb, ltb}
use borrow.Author.Tests.{eq-eqb, ne_eqb}
use Rattle.netlist.specs.Commands.{stage_file}
use Rattle.runs.specs.Row.{Row, low, only, after}
use Rattle.runs.specs.Net.{Net, rails_of_inputs, rise_step, fall_step}
use Rattle.runs.specs.Witness.{ShowsWrong, ShowsIncomplete, ShowsUnobservable}
use Rattle.runs.specs.FallWitness.{ShowsFallIncomplete, ShowsFallUnobservable, FullCycle, ShowsNeverSwitching}
use Rattle.runs.proofs.Test.{clash, true?, not-true, eqb_eq, le-ltb}
use Rattle.verdict.specs.declared.Verdict.{Verdict}
use Rattle.verdict.specs.declared.WordOrder.{WordOrder}
use Rattle.check_spec.specs.Lists.{some}
use Rattle.check_spec.specs.Content.{Content, Files, wired, stage_in, reference_in}
use Rattle.check_spec.specs.Rows.{net_of}
use Rattle.check_spec.specs.Words.{rails_for, spelled, cares_for, names, IsWord}
use Rattle.check_spec.specs.Verdicts.{verdict_on}
use Rattle.check_spec.specs.Demands.{BothRead, LoopFree, answer_to}
use Rattle.check_spec.proofs.Sound.{idle_sound, sound_free}
use Rattle.check_spec.proofs.Demanded.{demand_2, demand_3}
use Rattle.run_spec.specs.declared.RunAnswer.{RunAnswer}
use Rattle.run_spec.specs.Played.{Run, switchings, answering, handed_out}
use Rattle.run_spec.specs.Witness.{of_runs, of_falls, held_back, witness_run, asked_or_first, name_shown, word_shown, witness_on, Shows, WitnessDemand}
use Rattle.run_spec.proofs.Played.{handed}
use Rattle.run_spec.proofs.OneWord.{full, shows_wrong, shows_incomplete, shows_unobservable, shows_fall_incomplete, shows_fall_unobservable}
use Rattle.run_spec.proofs.Named.{named, accepted_free, refused_free, at_13, at_14, at_15, at_20, at_21}
use Rattle.run_spec.proofs.Idle.{never_listed, has_word, cared_word}
use Rattle.run_spec.proofs.Numbers.{self, known, held_input, held_gate, held_none, rise_is, fall_is, rise_none, fall_none, run_few}

-- ---- what it shows

module _ (order : WordOrder) (f : Files) (w : ℕ) where
  abbrev s : Content
  s = stage_in f

  abbrev v : Verdict
  v = verdict_on order f

  abbrev run : Run
  run = witness_run s v w

  abbrev N : Net
  N = net_of s

  abbrev c : Row
  c = rails_for w

  abbrev of : Row
  of = rails_of_inputs N (only v.at)

  abbrev net : ℕ
  net = 2 * s.inputs + v.at

  on_0 : v.number ≡ 0 → FullCycle N c run.rise run.fall
  unfolding some
  on_0 e =
      let x = held_none s v 14 15 (λ q. omega arith) (λ q. omega arith) in
      let y = held_none s v 20 21 (λ q. omega arith) (λ q. omega arith) in
      rw (rise_is s v w 0 e low low x y refl, fall_is s v w 0 e low low x y refl) (full s (reference_in f) (accepted_free order f e).1 w self self)

  module _ (word : named order f ≡ w) where
    free : (n : ℕ) → v.number ≡ n → some (eqb n) (13 ∷ 14 ∷ 15 ∷ 20 ∷ 21 ∷ []) ≡ true → LoopFree N
    free n e h = (refused_free order f (known (13 ∷ 14 ∷ 15 ∷ 20 ∷ 21 ∷ []) true n h v.number e)).1

    on_13 : v.number ≡ 13 → ShowsWrong N c (answer_to f w) v.at run.rise × (run.fall ≡ [])
    unfolding some
    on_13 e =
        let x = held_none s v 14 15 (λ q. omega arith) (λ q. omega arith) in
        let t = rw word at (at_13 order f e) in
        (rw (rise_is s v w 13 e low (held_back s v 20 21) x refl refl) (shows_wrong s (reference_in f) (free 13 e refl) w self self v.at t.1), fall_none s v w 13 e refl)

    on_14 : v.number ≡ 14 → ShowsIncomplete N c v.at run.rise × (run.fall ≡ [])
    unfolding some
    on_14 e =
        let x = held_input s v 14 15 e in
        let t = rw word at (at_14 order f e) in
        (rw (rise_is s v w 14 e of (held_back s v 20 21) x refl refl) (shows_incomplete s (reference_in f) (free 14 e refl) w self self v.at t.0 t.1), fall_none s v w 14 e refl)

    on_15 : v.number ≡ 15 → ShowsUnobservable N c net run.rise × (run.fall ≡ [])
    unfolding some
    on_15 e =
        let x = held_gate s v 14 15 (λ q. omega arith) e in
        let t = rw word at (at_15 order f e) in
        (rw (rise_is s v w 15 e (only net) (held_back s v 20 21) x refl refl) (shows_unobservable s (reference_in f) (free 15 e refl) w self self v.at t.0 t.1), fall_none s v w 15 e refl)

    on_20 : v.number ≡ 20 → ShowsFallIncomplete N c v.at run.rise run.fall
    unfolding some
    on_20 e =
        let x = held_none s v 14 15 (λ q. omega arith) (λ q. omega arith) in
        let y = held_input s v 20 21 e in
        let t = rw word at (at_20 order f e) in
        rw (rise_is s v w 20 e low of x y refl, fall_is s v w 20 e low of x y refl) (shows_fall_incomplete s (reference_in f) (free 20 e refl) w self self v.at t.0 t.1)

    on_21 : v.number ≡ 21 → ShowsFallUnobservable N c net run.rise run.fall
    unfolding some
    on_21 e =
        let x = held_none s v 14 15 (λ q. omega arith) (λ q. omega arith) in
        let y = held_gate s v 20 21 (λ q. omega arith) e in
        let t = rw word at (at_21 order f e) in
        rw (rise_is s v w 21 e low (only net) x y refl, fall_is s v w 21 e low (only net) x y refl)
        (shows_fall_unobservable s (reference_in f) (free 21 e refl) w self self v.at t.0 t.1)

  on_32 : v.number ≡ 32 → IsWord s w → ShowsNeverSwitching N c net run.rise run.fall
  unfolding some
  on_32 e i =
      let x = held_none s v 14 15 (λ q. omega arith) (λ q. omega arith) in
      let y = held_none s v 20 21 (λ q. omega arith) (λ q. omega arith) in
      let d = ((demand_3 order f).idle e).1 in
      let cycle : FullCycle N c run.rise run.fall =
      rw (rise_is s v w 32 e low low x y refl, fall_is s v w 32 e low low x y refl) (full s (reference_in f) (sound_free (idle_sound order f e)) w self self) in
      let l = cycle.lists in
      record {
        cycle = cycle;
        not_in_rise = never_listed (rise_step N c) net low run.rise l.rise_legal (d.rise_low w i);
        not_in_fall = never_listed (fall_step N) net (after low run.rise) run.fall l.fall_legal (d.fall_low w i run.rise l.rise_legal l.rise_ended);
      }

  pub shown : (¬ (v.number ≡ 0) → ¬ (v.number ≡ 32) → named order f ≡ w) → (v.number ≡ 32 → IsWord s w) → Shows f w v run
  shown word cared = record {
    accepted = on_0;
    wrong = λ e. on_13 (word (λ q. omega arith) (λ q. omega arith)) e;
    incomplete = λ e. on_14 (word (λ q. omega arith) (λ q. omega arith)) e;
    unobservable = λ e. on_15 (word (λ q. omega arith) (λ q. omega arith)) e;
    fall_incomplete_holds = λ e. on_20 (word (λ q. omega arith) (λ q. omega arith)) e;
    fall_unobservable_holds = λ e. on_21 (word (λ q. omega arith) (λ q. omega arith)) e;
    never_switching = λ e. (cared e, on_32 e (cared e));
  }

-- a verdict that speaks of runs is one on two files that read
module _ (order : WordOrder) (f : Files) where
  pub both_read : some (eqb (verdict_on order f).number) of_runs ≡ true → BothRead f
  unfolding some
  both_read h = go (true? (eqb (verdict_on order f).number 0)) (true? (eqb (verdict_on order f).number 32))
    where
      go : (eqb (verdict_on order f).number 0 ≡ true) ⊎ (eqb (verdict_on order f).number 0 ≡ false) → (eqb (verdict_on order f).number 32 ≡ true) ⊎ (eqb (verdict_on order f).number 32 ≡ false) → BothRead f
      go (inl e) d = (accepted_free order f (eqb_eq (verdict_on order f).number 0 e)).0
      go (inr e) (inl d) = ((demand_3 order f).idle (eqb_eq (verdict_on order f).number 32 d)).0
      go (inr e) (inr d) = (refused_free order f (rw (e, d) at h)).0

-- ---- the call

module _ (order : WordOrder) (f : Files) (asked : ℕ) (before : List ℕ) where
  abbrev verdict : Verdict
  verdict = verdict_on order f

  abbrev given : Run
  given = witness_on order f asked

  -- the name that is shown, by the number
  abbrev cared : ℕ
  cared = asked_or_first (names order (stage_in f)) asked

  word-is : ¬ (verdict.number ≡ 0) → ¬ (verdict.number ≡ 32) → named order f ≡ word_shown order f asked
  unfolding name_shown
  word-is d e =
      ap (spelled order (stage_in f).inputs) (sym (
      ap (λ (b : Bool). cond b asked (cond (eqb verdict.number 32) cared verdict.word)) (ne_eqb verdict.number 0 d)
      ∙ ap (λ (b : Bool). cond b cared verdict.word) (ne_eqb verdict.number 32 e)
      ))

  word_cared : verdict.number ≡ 32 → IsWord (stage_in f) (word_shown order f asked)
  unfolding name_shown wired cares_for
  word_cared e =
      let is : cared ≡ name_shown order (stage_in f) verdict asked =
      sym (ap (λ (b : Bool). cond b asked (cond (eqb verdict.number 32) cared verdict.word)) (ne_eqb verdict.number 0 (λ q. omega arith))
      ∙ ap (λ (b : Bool). cond b cared verdict.word) (eq-eqb verdict.number 32 e)) in
      subst (λ (name : ℕ). IsWord (stage_in f) (spelled order (stage_in f).inputs name)) is
      (cared_word order (stage_in f) (has_word (stage_file f.registers) f.stage_most f.stage ((demand_3 order f).idle e).0.0) asked)

  -- a number that is not of runs is not of falls
  no_falls : (n : ℕ) → some (eqb n) of_runs ≡ false → some (eqb n) of_falls ≡ false
  unfolding some
  no_falls n = go (eqb n 0) (eqb n 13) (eqb n 14) (eqb n 15) (eqb n 20) (eqb n 21) (eqb n 32)
    where
      go : (a b c d e g i : Bool) → cond a true (cond b true (cond c true (cond d true (cond e true (cond g true (cond i true false)))))) ≡ false
          → cond a true (cond e true (cond g true (cond i true false))) ≡ false
      go true b c d e g i h = h
      go false true c d e g i h = absurd (clash refl h)
      go false false true d e g i h = absurd (clash refl h)
      go false false false true e g i h = absurd (clash refl h)
      go false false false false e g i h = h

  module _ (h : some (eqb verdict.number) of_runs ≡ false) where
    rise_empty : given.rise ≡ []
    rise_empty = rise_none (stage_in f) verdict (word_shown order f asked) verdict.number refl h

    fall_empty : given.fall ≡ []
    fall_empty = fall_none (stage_in f) verdict (word_shown order f asked) verdict.number refl (no_falls verdict.number h)

    none : switchings given ≡ []
    none = ap₂ (λ (a b : List ℕ). a ++ b) rise_empty fall_empty

    unchanged : handed_out (switchings given) before ≡ before
    unfolding handed_out
    unchanged = ap (λ (l : List ℕ). cond (ltb (length before) (length l)) before (l ++ drop (length l) before)) none ∙ ap (λ (b : Bool). cond b before before) (le-ltb (length before) 0 (omega arith))

    -- of the other numbers the answer has no run, and the list stays
    pub nothing_given : (answering verdict given ≡ record { verdict = verdict; rise = 0; count = 0 }) × (handed_out (switchings given) before ≡ before)
    nothing_given = (ap₂ {C = RunAnswer} (λ (a b : List ℕ). record { verdict = verdict; rise = length a; count = length b }) rise_empty none, unchanged)

  pub witness_demand : (r : RunAnswer) (after' : List ℕ) → r ≡ answering verdict given → after' ≡ handed_out (switchings given) before → WitnessDemand order f asked before r after'
  witness_demand r after' p q = rw (p, q) (record {
    answer = refl;
    handed = handed verdict given before;
    demand2 = demand_2 order f;
    demand3 = demand_3 order f;
    few = run_few (stage_in f) verdict (word_shown order f asked);
    shows = λ h. (both_read order f h, shown order f (word_shown order f asked) word-is word_cared);
    nothing = λ d. let h = not-true (some (eqb verdict.number) of_runs) d in (ap length (none h), unchanged h);
  })
