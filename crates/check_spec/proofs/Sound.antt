-- Two files in which the checks 10 to 21 and 33 to 35 find nothing, whatever the order of words: what an accepted verdict rests on, and what joined and made files are
-- built from. 32 comes after all of these: what is sound is accepted, unless a gate never rises.
-- Assumes nothing.
use Prim.Native.Nat.{ℕ, ◌+◌, ◌*◌, ◌≤◌, ◌<◌}
use native.Mathlib.Omega.{arith}
use mathlib.Core.Path.{◌≡◌, refl, sym, ap, ◌∙◌, subst, subst₂}
use mathlib.Core.Bool.{Bool, true, false}
use mathlib.Core.Logic.{inl, inr}
use mathlib.Core.List.{List, [], ◌∷◌, map, flat_map, ◌++◌}
use lib.ListN.{length, length-map}
use lib.Dec.{eqb}
use Rattle.gates.specs.Cell.{is_retired}
use Rattle.runs.specs.Net.{IsGate}
use Rattle.runs.specs.Complete.{Conforms}
use Rattle.runs.specs.Promise.{Promise}
use Rattle.runs.specs.Witness.{Wrong, Incomplete, Unobservable}
use Rattle.runs.specs.FallWitness.{FallIncomplete, FallUnobservable}
use Rattle.runs.proofs.Test.{clash}
use Rattle.netlist.specs.declared.File.{File}
use Rattle.netlist.specs.declared.File.TheVariants.{Reference}
use Rattle.netlist.specs.declared.Limits.{Limits}
use Rattle.netlist.specs.Commands.{stage_file}
use Rattle.netlist.specs.Reading.{Reading, refused, readable, read_file}
use Rattle.verdict.specs.declared.Verdict.{Verdict}
use Rattle.verdict.specs.declared.WordOrder.{WordOrder}
use Rattle.verdict.proofs.Refusals.{InTable, refused_number}
use Rattle.check_spec.specs.Cases.{verdict, accepted, case, first, judge, sweep}
use Rattle.check_spec.specs.Lists.{some, numbers, bit_of}
use Rattle.wiring_spec.specs.Parts.{Pipeline, register_count}
use Rattle.wiring_spec.specs.Wiring.{circular, uneven, missing, barred}
use Rattle.wiring_spec.specs.Wires.{resolve}
use Rattle.wiring_spec.specs.Passing.{Passes, Nowhere, FindNothing}
use Rattle.wiring_spec.proofs.Passing.{passes_exactly}
use Rattle.wiring_spec.proofs.Means.{passes_none}
use Rattle.check_spec.specs.Content.{Content, wired, Files, raw_in, stage_in, reference_in}
use Rattle.check_spec.specs.Rows.{driver, cell_in, net_of, reaches_itself}
use Rattle.check_spec.specs.Words.{rails_for, spelled, IsWord, answer}
use Rattle.check_spec.specs.Checks.{wrong, incomplete, unobservable, fall_incomplete, fall_unobservable, looped, at_registers, retired, swept, never_rises, idle, checks}
use Rattle.check_spec.specs.Verdicts.{refusal, reading, verdict_on}
use Rattle.check_spec.specs.Demands.{BothRead, LoopFree, wiring_in, answer_to, Rises, Kept, Broken, Idle, AcceptedUnlessIdle}
use Rattle.check_spec.proofs.First.{Each, Placed, places_say}
use Rattle.check_spec.proofs.Names.{named_below, named_word}
use Rattle.check_spec.proofs.OneWord.{CleanRise, CleanFall, word_exactly}
use Rattle.check_spec.proofs.Shown.{word_kept, wrong_shown, incomplete_shown, unobservable_shown, fall_incomplete_shown, fall_unobservable_shown}
use Rattle.check_spec.proofs.Rising.{never_low, low_rising, low_falling, rises, rises_not}
use Rattle.check_spec.proofs.Wired.{wired_free, wired_none}
use Rattle.check_spec.proofs.Laws.{Law, Laws, none, ◌&◌, AllBefore, all_before, said, each_said, before, judge_later, judge_pass, judge_from, whole_accepted, equal_law, places_law, gates_law, swept_law}

pub record Sound (f : Files) : Type 0 where
  pub read : BothRead f
  pub inputs : (raw_in f).inputs ≡ (reference_in f).inputs
  pub outputs : length (raw_in f).outputs ≡ length (reference_in f).outputs
  pub raw_free : LoopFree (net_of (raw_in f))
  pub wiring : Passes (wiring_in f)
  pub cast : (net : ℕ) → IsGate (net_of (stage_in f)) net → is_retired (cell_in (driver (stage_in f) net)) ≡ false
  pub conforms : (w : ℕ) → IsWord (stage_in f) w → Conforms (net_of (stage_in f)) (rails_for w) (answer_to f w)

-- the stage with its registers as wires has as many inputs and outputs, and no loop
pub sound_inputs : {f : Files} → Sound f → (stage_in f).inputs ≡ (reference_in f).inputs
unfolding wired
sound_inputs h = h.inputs

pub sound_outputs : {f : Files} → Sound f → length (stage_in f).outputs ≡ length (reference_in f).outputs
unfolding wired
sound_outputs {f} h = length-map (raw_in f).outputs (map (resolve (wiring_in f))) ∙ h.outputs

pub sound_free : {f : Files} → Sound f → LoopFree (net_of (stage_in f))
sound_free {f} h = wired_free (raw_in f) h.raw_free ((passes_exactly (wiring_in f)).0 h.wiring).circular

-- every gate rises in some word of the stage
abbrev pub AllRise : Files → Type 0
AllRise f = (net : ℕ) → IsGate (net_of (stage_in f)) net → Rises f net

-- what no check finds anything in
abbrev pub Faultless : Files → Type 0
Faultless f = Sound f × AllRise f

-- reading names numbers of its table only
pub reading_number : (other : ℕ) → ¬ (InTable other) → (f : File) (most : Limits) (bytes : List ℕ)
    → Each (λ c. ¬ (c.names.number ≡ other)) (reading f most bytes)
unfolding refusal
reading_number other h f most bytes = go (read_file f most bytes) refl
  where
    go : (x : Reading) → read_file f most bytes ≡ x → Each (λ c. ¬ (c.names.number ≡ other)) (refusal f x)
    go (refused number at) e = (λ p. h (subst InTable p (refused_number f most bytes number at e)), tt)
    go (readable p) e = tt

-- the numbers of which demand 3 speaks
abbrev pub Ran : ℕ → Type 0
Ran n = some (eqb n) (13 ∷ 14 ∷ 15 ∷ 20 ∷ 21 ∷ []) ≡ true

-- and of which it speaks as wiring
abbrev pub Wired : ℕ → Type 0
Wired n = some (eqb n) (33 ∷ 34 ∷ 35 ∷ []) ≡ true

module _ (f : Files) where
  abbrev raw : Content
  raw = raw_in f

  abbrev p : Pipeline
  p = wiring_in f

  abbrev s : Content
  s = stage_in f

  abbrev r : Content
  r = reference_in f

  -- in a word nothing is found
  pub sound_clean : Sound f → (w : ℕ) → IsWord s w → CleanRise s r w × CleanFall s w
  sound_clean h w i = (word_exactly s r (sound_free h) w).1 (h.conforms w i)

  -- ---- the checks by their numbers

  -- what a run of word w shows under such a number, at an output, an input or a gate
  abbrev pub Shows : ℕ → ℕ → ℕ → Type 0
  Shows w i n =
      elim (eqb n 13) as (λ b. Type 0) [
        | true ↦ (i < length s.outputs) × Wrong (net_of s) (rails_for w) (answer_to f w) i
        | false ↦
            elim (eqb n 14) as (λ b. Type 0) [
              | true ↦ (i < s.inputs) × Incomplete (net_of s) (rails_for w) i
              | false ↦
                  elim (eqb n 15) as (λ b. Type 0) [
                    | true ↦ (i < length s.gates) × Unobservable (net_of s) (rails_for w) (2 * s.inputs + i)
                    | false ↦
                        elim (eqb n 20) as (λ b. Type 0) [
                          | true ↦ (i < s.inputs) × FallIncomplete (net_of s) (rails_for w) i
                          | false ↦
                              (i < length s.gates) × FallUnobservable (net_of s) (rails_for w) (2 * s.inputs + i)
                        ]
                  ]
            ]
      ]

  module _ (order : WordOrder) where
    -- a refusal names one of the two files or none; and what demand 3 says of it as broken
    abbrev pub Claim : Verdict → Type 0
    Claim v = (v.file ≤ 2) × (LoopFree (net_of s) → Ran v.number → Broken f (spelled order s.inputs v.word) v)

    -- it says nothing of the other numbers
    pub silent : (n file at word : ℕ) → file ≤ 2 → some (eqb n) (13 ∷ 14 ∷ 15 ∷ 20 ∷ 21 ∷ []) ≡ false → Claim (verdict n file at word)
    silent n file at word few h = (few, λ free ran. absurd (clash ran h))

    -- a check of the registers
    pub wiring_law : (n : ℕ) (fails : Pipeline → ℕ → Bool) → some (eqb n) (13 ∷ 14 ∷ 15 ∷ 20 ∷ 21 ∷ []) ≡ false → (FindNothing p → Nowhere p (fails p))
        → Law (Faultless f) Claim n (Nowhere p (fails p)) (at_registers n fails raw)
    wiring_law n fails h nowhere = places_law n 1 (register_count p) (fails p) (λ w. nowhere ((passes_exactly p).0 w.0.wiring)) (λ k l e. silent n 1 k 0 (omega arith) h)

    -- a check of the words, which a run shows to be broken where it fails
    pub run_law : (n m : ℕ) (fails : ℕ → ℕ → Bool) → ((w : ℕ) → CleanRise s r w × CleanFall s w → (i : ℕ) → i < m → fails w i ≡ false)
        → (LoopFree (net_of s) → (w i : ℕ) → i < m → fails w i ≡ true → Shows w i n × (¬ (Promise (net_of s) (rails_for w) (answer_to f w))))
        → Law (Faultless f) Claim n ((w : ℕ) → IsWord s w → (i : ℕ) → i < m → fails w i ≡ false) (swept order s n 1 m fails)
    run_law n m fails clean shown = swept_law s order n 1 m fails (λ h w i. clean w (sound_clean h.0 w i)) (λ name x i l e. (
      omega arith,
      λ free ran.
          let w = spelled order s.inputs name in
          let b = shown free w i l e in
          record {
            name = named_below order s name x;
            word = named_word order s name x;
            broken = b.1;
            wrong = λ q. subst (Shows w i) q b.0;
            incomplete = λ q. subst (Shows w i) q b.0;
            unobservable = λ q. subst (Shows w i) q b.0;
            fall_incomplete_holds = λ q. subst (Shows w i) q b.0;
            fall_unobservable_holds = λ q. subst (Shows w i) q b.0;
          },
    ))

    unfoldable pub laws : Laws (Faultless f) Claim (checks order raw r)
    unfolding checks looped retired idle some
    laws =
        equal_law 10 0 raw.inputs r.inputs raw.inputs r.inputs (λ h. h.0.inputs) (silent 10 0 _ _ (omega arith) refl)
        & equal_law 11 0 (length raw.outputs) (length r.outputs) (length raw.outputs) (length r.outputs) (λ h. h.0.outputs) (silent 11 0 _ _ (omega arith) refl)
        & gates_law raw 12 (reaches_itself (net_of raw)) (λ h. h.0.raw_free) (λ g. silent 12 1 g 0 (omega arith) refl)
        & wiring_law 33 circular refl (λ n. n.circular)
        & wiring_law 33 uneven refl (λ n. n.uneven)
        & wiring_law 34 missing refl (λ n. n.missing)
        & wiring_law 35 barred refl (λ n. n.barred)
        & gates_law s 28 (λ net. is_retired (cell_in (driver s net))) (λ h. h.0.cast) (λ g. silent 28 1 g 0 (omega arith) refl)
        & run_law 13 (length s.outputs) (wrong s r) (λ w c. c.0.right) (wrong_shown s r)
        & run_law 14 s.inputs (incomplete s) (λ w c. c.0.complete) (incomplete_shown s r)
        & run_law 15 (length s.gates) (unobservable s) (λ w c. c.0.observable) (unobservable_shown s r)
        & run_law 20 s.inputs (fall_incomplete s) (λ w c. c.1.complete) (fall_incomplete_shown s r)
        & run_law 21 (length s.gates) (fall_unobservable s) (λ w c. c.1.observable) (fall_unobservable_shown s r)
        & gates_law s 32 (never_rises s) (λ h net i. rises_not f (sound_free h.0) net (h.1 net i)) (λ g. silent 32 1 g 0 (omega arith) refl)
        & none

    -- a verdict of a number that is not one of reading: both files read, and it is that of the checks
    pub past_reading : (n : ℕ) → ¬ (InTable n) → (verdict_on order f).number ≡ n → BothRead f × (verdict_on order f ≡ judge (checks order raw r))
    past_reading n h e =
        let a = judge_later n _ (reading Reference f.reference_most f.reference ∷ checks order raw r) (reading_number n h (stage_file f.registers) f.stage_most f.stage) e in
        let b = judge_later n _ (checks order raw r) (reading_number n h Reference f.reference_most f.reference) (ap (λ (v : Verdict). v.number) (sym a.1) ∙ e) in
        ((a.0, b.0), a.1 ∙ b.1)

    pub reads_past : BothRead f → verdict_on order f ≡ judge (checks order raw r)
    reads_past h = judge_pass (reading (stage_file f.registers) f.stage_most f.stage) _ h.0 ∙ judge_pass (reading Reference f.reference_most f.reference) _ h.1

pub sound_kept : {f : Files} → Sound f → (w : ℕ) → IsWord (stage_in f) w → Kept f w
sound_kept {f} h w i = let k = sound_clean f h w i in word_kept f (sound_free h) w k.0 k.1

-- ---- acceptance

-- what is faultless is accepted in every order
pub faultless_accepted : {f : Files} → Faultless f → (order : WordOrder) → verdict_on order f ≡ accepted
faultless_accepted {f} h order = reads_past f order h.0.read ∙ whole_accepted h (laws f order)

module _ (order : WordOrder) (f : Files) where
  abbrev v : Verdict
  v = verdict_on order f

  -- the checks before 32 find nothing exactly in sound files
  sound_before : Sound f → AllBefore 32 (laws f order)
  unfolding laws
  sound_before h =
      let c = sound_clean f h in
      let n = (passes_exactly (wiring_in f)).0 h.wiring in
      (h.inputs, (h.outputs, (h.raw_free, (n.circular, (n.uneven, (n.missing, (n.barred, (h.cast, (λ w i. (c w i).0.right, (λ w i. (c w i).0.complete, (λ w i. (c w i).0.observable, (λ w i. (c w i).1.complete, (λ w i. (c w i).1.observable, tt)))))))))))))

  before-sound : BothRead f → AllBefore 32 (laws f order) → Sound f
  unfolding laws
  before-sound read a =
      let ls = laws f order in
      let levels = each_said 32 33 ls a in
      let free = wired_free (raw_in f) (said 32 12 ls a) levels.0 in
      record {
        read = read;
        inputs = said 32 10 ls a;
        outputs = said 32 11 ls a;
        raw_free = said 32 12 ls a;
        wiring = (passes_exactly (wiring_in f)).1 (record { circular = levels.0; uneven = levels.1.0; missing = said 32 34 ls a; barred = said 32 35 ls a });
        cast = said 32 28 ls a;
        conforms = λ w i. (word_exactly (stage_in f) (reference_in f) free w).0 (
          record { right = said 32 13 ls a w i; complete = said 32 14 ls a w i; observable = said 32 15 ls a w i },
          record { complete = said 32 20 ls a w i; observable = said 32 21 ls a w i },
        );
      }

  -- where nothing is found before it, the verdict is that of 32
  abbrev fails : ℕ → Bool
  fails g = never_rises (stage_in f) (2 * (stage_in f).inputs + g)

  last-is : Sound f → v ≡ first (map (λ g. case 32 1 g 0 (fails g)) (numbers 0 (length (stage_in f).gates)) ++ []) accepted
  unfolding laws judge idle sweep flat_map
  last-is h = reads_past f order h.read ∙ judge_from 32 (laws f order) (sound_before h)

  answers : Sound f → AcceptedUnlessIdle order f
  unfolding first
  answers h = go (last-is h) (places_say 32 1 0 fails [] accepted 0 (length (stage_in f).gates))
    where
      go : {x : Verdict} → v ≡ x → Placed fails (λ g. verdict 32 1 g 0) 0 (length (stage_in f).gates) accepted x → AcceptedUnlessIdle order f
      go e (inr (all, is)) = inl (e ∙ is)
      go e (inl (g, a, l, t, less, is)) =
          let net = 2 * (stage_in f).inputs + g in
          inr (subst (Idle f) (sym (e ∙ is)) (record {
            is = refl;
            gate = omega (arith, l);
            least = λ k d. rises f (sound_free h) (2 * (stage_in f).inputs + k) (less k (omega arith) d);
            rise_low = λ w i. low_rising (stage_in f) (sound_free h) w net (never_low (stage_in f) net t w i);
            fall_low = λ w i. low_falling (stage_in f) (sound_free h) w net (never_low (stage_in f) net t w i);
            kept = sound_kept h;
          }))

  -- an accepted verdict, and 32
  pub accepted_faultless : v.number ≡ 0 → (v ≡ accepted) × Faultless f
  unfolding laws
  accepted_faultless e =
      let p = past_reading f order 0 (λ t. omega (arith, t.0)) e in
      let z : (judge (checks order (raw_in f) (reference_in f))).number ≡ 0 = ap (λ (v : Verdict). v.number) (sym p.1) ∙ e in
      let h : Sound f = before-sound p.0 (all_before 32 0 (laws f order) refl z) in
      let rise : AllRise f = λ net i. rises f (sound_free h) net (before 0 32 (laws f order) z net i) in
      (faultless_accepted (h, rise) order, (h, rise))

  pub accepted_sound : v.number ≡ 0 → (v ≡ accepted) × Sound f
  accepted_sound e = let a = accepted_faultless e in (a.0, a.1.0)

  pub idle_sound : v.number ≡ 32 → Sound f
  unfolding laws
  idle_sound e =
      let p = past_reading f order 32 (λ t. omega (arith, t.1)) e in
      before-sound p.0 (all_before 32 32 (laws f order) refl (ap (λ (v : Verdict). v.number) (sym p.1) ∙ e))

-- "unless a gate never rises": what is sound is accepted, or refused by 32 at the least such gate
pub sound_answers : {f : Files} → Sound f → (order : WordOrder) → AcceptedUnlessIdle order f
sound_answers {f} h order = answers order f h

-- from what two files hold, of which the stage has no registers
pub record Agrees (s r : Content) : Type 0 where
  pub plain : s.parts ≡ []
  pub inputs : s.inputs ≡ r.inputs
  pub outputs : length s.outputs ≡ length r.outputs
  pub free : LoopFree (net_of s)
  pub cast : (net : ℕ) → IsGate (net_of s) net → is_retired (cell_in (driver s net)) ≡ false
  pub conforms : (w : ℕ) → IsWord s w → Conforms (net_of s) (rails_for w) (answer r (bit_of w))

pub sound_from : {f : Files} {s r : Content} → BothRead f → raw_in f ≡ s → reference_in f ≡ r → Agrees s r → Sound f
sound_from {f} read e e' a =
    let h = subst₂ Agrees (sym e) (sym e') a in
    let same = wired_none (raw_in f) h.plain in
    record {
      read = read;
      inputs = h.inputs;
      outputs = h.outputs;
      raw_free = h.free;
      wiring = passes_none (wiring_in f) h.plain;
      cast = rw same h.cast;
      conforms = rw same h.conforms;
    }
