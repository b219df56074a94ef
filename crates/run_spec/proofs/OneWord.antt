-- Runs of a word of a stage without loops, played with the nets held back that a check has held back: each shows what the check finds.
-- Assumes nothing.
use Prim.Native.Nat.{ℕ, ◌+◌, ◌*◌, ◌≤◌, ◌<◌}
use native.Mathlib.Omega.{arith}
use mathlib.Core.Path.{◌≡◌, refl, sym, ap, ◌∙◌, subst}
use mathlib.Core.Logic.{◌⊎◌, inl, inr}
use mathlib.Core.Bool.{Bool, true, false, cond, not}
use mathlib.Core.List.{List, [], ◌∷◌, ◌++◌}
use lib.ListN.{length, drop, length-append}
use lib.Dec.{eqb, ltb}
use Rattle.runs.specs.Row.{Row, low, only, after}
use Rattle.runs.specs.Net.{Net, nets, rails_of_inputs, RiseList, FallList, FallEnd, rise_step, fall_step}
use Rattle.runs.specs.Acyclic.{Acyclic}
use Rattle.runs.specs.Settled.{Settled, SettledHeld, SettledKept}
use Rattle.runs.specs.Pair.{DataOf}
use Rattle.runs.specs.Witness.{ShowsWrong, ShowsIncomplete, ShowsUnobservable}
use Rattle.runs.specs.FallWitness.{RiseAndFall, ShowsFallIncomplete, ShowsFallUnobservable, FullCycle}
use Rattle.runs.proofs.Test.{true?, clash, of_not, and_in, eqb_eq, eqb_other, eqb_same, le-ltb}
use Rattle.runs.proofs.Rise.{settled_ended}
use Rattle.runs.proofs.Fall.{fall_end_low}
use Rattle.runs.proofs.Witness as show
use Rattle.verdict.specs.declared.Verdict.{Verdict}
use Rattle.verdict.specs.declared.WordOrder.{WordOrder}
use Rattle.verdict.specs.Loops.{In}
use Rattle.verdict.specs.Written.{holding}
use Rattle.check_spec.specs.Lists.{bit_of, some}
use Rattle.check_spec.specs.Content.{Content, Files, stage_in, reference_in}
use Rattle.check_spec.specs.Rows.{net_of, risen, fallen, data_of, all_data, all_null}
use Rattle.check_spec.specs.Words.{rails_for, spelled, answer}
use Rattle.check_spec.specs.Checks.{rest, wrong, incomplete, unobservable, fall_incomplete, fall_unobservable}
use Rattle.check_spec.specs.Verdicts.{verdict_on}
use Rattle.check_spec.specs.Demands.{BothRead, LoopFree, answer_to}
use Rattle.verdict.proofs.Steps.{some_out}
use Rattle.check_spec.proofs.Loops.{acyclic, risen_is, fallen_is, settled_is}
use Rattle.check_spec.proofs.Pairs.{all_data_holds, all_null_holds}
use Rattle.check_spec.proofs.OneWord.{word_data, high_out, rest_settled, inside, gate}
use Rattle.run_spec.specs.declared.RunAnswer.{RunAnswer}
use Rattle.run_spec.specs.Played.{Run, rise_by, fall_by, switchings, answering, handed_out}
use Rattle.run_spec.specs.Witness.{of_runs, of_falls, held_back, witness_run, name_shown, word_shown, witness_on, Shows, WitnessDemand}
use Rattle.run_spec.proofs.Played.{played_few, least_ended}
use Rattle.run_spec.proofs.Runs.{rise_list, rise_arrives, fall_list, fall_arrives, fall_least}
use Rattle.run_spec.proofs.Named.{named, accepted_free, refused_free, at_13, at_14, at_15, at_20, at_21}

-- ---- a word of a stage without loops

module _ (s r : Content) (free : LoopFree (net_of s)) (w : ℕ) where
  abbrev N : Net
  N = net_of s

  abbrev c : Row
  c = rails_for w

  abbrev S : Acyclic
  S = acyclic s free

  settled : Settled N c (rest s w)
  settled = rest_settled s r free w

  -- the rise with X held back, and the fall from the rest with X held back
  module _ (key : ℕ → ℕ) where
    held_legal : (X : Row) → RiseList N c (rise_by key N c X)
    held_legal X = rise_list S c X key

    held_row_holds : (X : Row) → after low (rise_by key N c X) ≡ risen N c X
    held_row_holds X = rise_arrives S c X key (risen N c X) (risen_is s free c X).0

    kept_legal : (X : Row) → FallList N (rest s w) (fall_by key N (rest s w) X)
    kept_legal X = fall_list S c (rest s w) settled X key

    kept_row : (X : Row) → after (rest s w) (fall_by key N (rest s w) X) ≡ fallen N (rest s w) X
    kept_row X = fall_arrives S c (rest s w) settled X key (fallen N (rest s w) X) (fallen_is s free (rest s w) X (inside s r free w)).0

  module _ (key key' : ℕ → ℕ) where
    abbrev rise : List ℕ
    rise = rise_by key N c low

    -- a full rise comes to the rest
    pub to_rest : after low rise ≡ rest s w
    to_rest = held_row_holds key low

    abbrev fall : Row → List ℕ
    fall X = fall_by key' N (after low rise) X

    from_rest : (X : Row) → fall X ≡ fall_by key' N (rest s w) X
    from_rest X = ap (λ (R : Row). fall_by key' N R X) to_rest

    both : (X : Row) → RiseAndFall N c rise (fall X)
    both X = show.rise_and_fall S c (rest s w) settled rise (fall X) (held_legal key low) to_rest (subst (FallList N (rest s w)) (sym (from_rest X)) (kept_legal key' X))

    falls_to : (X : Row) → after (after low rise) (fall X) ≡ fallen N (rest s w) X
    falls_to X = ap (λ (R : Row). after R (fall X)) to_rest ∙ ap (after (rest s w)) (from_rest X) ∙ kept_row key' X

    fall_ended : FallEnd N (rest s w) (fall_by key' N (rest s w) low)
    fall_ended = least_ended (fall_step N) key' (rest s w) (fall_by key' N (rest s w) low) (fall_least S c (rest s w) settled key')

    -- with nothing held back both are full, and the fall comes to all low
    pub full : FullCycle N c rise (fall low)
    full = record { lists = both low; fall_ended = rw (from_rest low, to_rest) fall_ended }

    pub to_low : after (rest s w) (fall low) ≡ low
    to_low = ap (after (rest s w)) (from_rest low) ∙ fall_end_low S c (rest s w) settled (fall_by key' N (rest s w) low) (kept_legal key' low) fall_ended

  -- ---- what a failing test shows

  module _ (key key' : ℕ → ℕ) where
    abbrev of : ℕ → Row
    of i = rails_of_inputs N (only i)

    pub shows_wrong : (j : ℕ) → wrong s r w j ≡ true → ShowsWrong N c (answer r (bit_of w)) j (rise_by key N c low)
    unfolding wrong
    shows_wrong j e = record {
      legal = held_legal key low;
      ended = rw (to_rest key key) (settled_ended S c (rest s w) settled);
      wrong = rw (to_rest key key) no;
    }
      where
        a : Bool
        a = answer r (bit_of w) j

        no : ¬ (DataOf (rest s w) (N.rail j) (answer r (bit_of w) j))
        no d =
            let a = answer r (bit_of w) j in
            clash (and_in (rest s w (N.rail j a)) (not (rest s w (N.rail j (not a)))) d.0 (ap not d.1)) (of_not (data_of (rest s w) (N.rail j) a) e)

    pub shows_incomplete : (i : ℕ) → i < s.inputs → incomplete s w i ≡ true → ShowsIncomplete N c i (rise_by key N c (of i))
    unfolding incomplete
    shows_incomplete i h e =
        show.shows_incomplete S c (rise_by key N c (of i)) (held_legal key (of i)) (risen N c (of i)) (held_row_holds key (of i))
        ((all_data_holds N (risen N c (of i))).0 e) i h (risen_is s free c (of i)).0

    pub shows_unobservable : (g : ℕ) → g < length s.gates → unobservable s w g ≡ true
        → ShowsUnobservable N c (2 * s.inputs + g) (rise_by key N c (only (2 * s.inputs + g)))
    unfolding unobservable
    shows_unobservable g h e =
        let net = 2 * s.inputs + g in
        let X = only net in
        let u = high_out s w (λ row net. all_data N (risen N c (only net))) g e in
        show.shows_unobservable S c (rise_by key N c X) (held_legal key X) (risen N c X) (held_row_holds key X) ((all_data_holds N (risen N c X)).0 u.1)
        (rest s w) settled net (gate s r free w g h) u.0 (risen_is s free c X).0

    pub shows_fall_incomplete : (i : ℕ) → i < s.inputs → fall_incomplete s w i ≡ true
        → ShowsFallIncomplete N c i (rise_by key N c low) (fall_by key' N (after low (rise_by key N c low)) (of i))
    unfolding fall_incomplete
    shows_fall_incomplete i h e =
        let row = fallen N (rest s w) (of i) in
        show.shows_fall_incomplete S c (rest s w) settled (rise_by key N c low) (fall_by key' N (after low (rise_by key N c low)) (of i)) (both key key' (of i))
        row (falls_to key key' (of i)) ((all_null_holds N row).0 e) (word_data N w) i h (fallen_is s free (rest s w) (of i) (inside s r free w)).0

    pub shows_fall_unobservable : (g : ℕ) → g < length s.gates → fall_unobservable s w g ≡ true
        → ShowsFallUnobservable N c (2 * s.inputs + g) (rise_by key N c low) (fall_by key' N (after low (rise_by key N c low)) (only (2 * s.inputs + g)))
    unfolding fall_unobservable
    shows_fall_unobservable g h e =
        let net = 2 * s.inputs + g in
        let X = only net in
        let u = high_out s w (λ row net. all_null N (fallen N row (only net))) g e in
        let row = fallen N (rest s w) X in
        show.shows_fall_unobservable S c (rest s w) settled (rise_by key N c low) (fall_by key' N (after low (rise_by key N c low)) X) (both key key' X)
        row (falls_to key key' X) ((all_null_holds N row).0 u.1) net u.0 (fallen_is s free (rest s w) X (inside s r free w)).0
