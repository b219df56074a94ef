-- What is said of the calls that judge a list and that play a run by keys, for all stage files.
-- Assumes nothing.
use Prim.Native.Nat.{ℕ, ◌+◌, ◌*◌, ◌^◌, ◌≤◌, ◌<◌}
use native.Mathlib.Omega.{arith}
use mathlib.Core.Path.{◌≡◌, refl, sym, ap, ap₂, ◌∙◌, subst}
use mathlib.Core.Bool.{Bool, true, false, cond}
use mathlib.Core.List.{List, [], map}
use lib.ListN.{length, get_or, take, drop, length-append, length-map}
use lib.Dec.{eqb, ltb}
use borrow.Author.Tests.{eq-eqb, ne_eqb}
use Rattle.runs.specs.Row.{Row, low, after}
use Rattle.runs.specs.Net.{Net, nets, RiseList, FallList, FallEnd}
use Rattle.runs.specs.Acyclic.{Acyclic}
use Rattle.runs.specs.Settled.{Settled}
use Rattle.runs.specs.FallWitness.{FullCycle}
use Rattle.runs.proofs.Test.{clash, le-ltb}
use Rattle.runs.proofs.System.{complement}
use Rattle.runs.proofs.Persistent.{quiet_low}
use Rattle.runs.proofs.Dual.{legal_dual}
use Rattle.runs.proofs.Moves as moves
use Rattle.runs.proofs.Rise.{rise_end_is}
use Rattle.netlist.specs.declared.File.TheVariants.{Stage}
use Rattle.netlist.specs.Reading.{Places, Reading, refused, readable, read_file, stage_limits}
use Rattle.netlist.specs.Coded.{coded_at}
use Rattle.netlist.proofs.Readable.{readable_read}
use Rattle.verdict.specs.declared.Verdict.{Verdict}
use Rattle.verdict.specs.declared.WordOrder.{WordOrder}
use Rattle.check_spec.specs.Cases.{accepted, judge}
use Rattle.check_spec.specs.Content.{Content, content_at}
use Rattle.check_spec.specs.Rows.{net_of}
use Rattle.check_spec.specs.Words.{rails_for, spelled}
use Rattle.check_spec.specs.Checks.{rest}
use Rattle.check_spec.specs.Verdicts.{refusal, reading, row_stage}
use Rattle.check_spec.specs.Demands.{Pass, LoopFree}
use Rattle.check_spec.proofs.First.{judged}
use Rattle.check_spec.proofs.Loops.{acyclic}
use Rattle.check_spec.proofs.OneWord.{rest_settled}
use Rattle.run_spec.specs.declared.RunAnswer.{RunAnswer}
use Rattle.run_spec.specs.declared.PlayAnswer.{PlayAnswer}
use Rattle.run_spec.specs.Played.{Run, rise_by, fall_by, switchings, answering, handed_out}
use Rattle.run_spec.specs.Play.{play_checks_on, played_steps, play_on, play_row, levels_of, PlayDemand}
use Rattle.run_spec.specs.Keys.{key_in, run_by_keys, key_checks_on, keys_on, KeysFor, RunOfKeys, KeysDemand}
use Rattle.run_spec.proofs.Played.{rise_few, fall_few, handed}
use Rattle.run_spec.proofs.OneWord.{full, to_rest, to_low}
use Rattle.run_spec.proofs.Play.{steps_barred}
use Rattle.run_spec.proofs.Refusals.{unrefused}
use Rattle.run_spec.proofs.Keys.{rise_played, fall_played, rise_by_places, fall_by_places, run_short, place_keys, keys_long, keys_small, key_rise, key_fall}

zero_of : {v : Verdict} → v ≡ accepted → v.number ≡ 0
zero_of e = ap (λ (v : Verdict). v.number) e

-- ---- play

module _ (order : WordOrder) (stage : List ℕ) (name fall : ℕ) (list before : List ℕ) where
  abbrev v : Verdict
  v = judge (play_checks_on stage before)

  abbrev s : Content
  s = row_stage stage

  abbrev N : Net
  N = net_of s

  abbrev steps : ℕ
  steps = played_steps order stage name fall list

  abbrev levels : List ℕ
  levels = levels_of N (after low (take steps list))

  pub played_accepted : v.number ≡ 0 → (play_on order stage name fall list before ≡ record { verdict = v; steps = steps }) × (play_row order stage name fall list before ≡ levels)
  unfolding play_on play_row
  played_accepted e = (
    ap {B = PlayAnswer} (λ (b : Bool). record { verdict = v; steps = cond b steps 0 }) (eq-eqb v.number 0 e),
    ap (λ (b : Bool). cond b levels before) (eq-eqb v.number 0 e),
  )

  pub played_refused : ¬ (v.number ≡ 0) → (play_on order stage name fall list before ≡ record { verdict = v; steps = 0 }) × (play_row order stage name fall list before ≡ before)
  unfolding play_on play_row
  played_refused d = (
    ap {B = PlayAnswer} (λ (b : Bool). record { verdict = v; steps = cond b steps 0 }) (ne_eqb v.number 0 d),
    ap (λ (b : Bool). cond b levels before) (ne_eqb v.number 0 d),
  )

  verdict_is : (play_on order stage name fall list before).verdict ≡ v
  unfolding play_on
  verdict_is = refl

  pub play_demand : (r : PlayAnswer) (after' : List ℕ) → r ≡ play_on order stage name fall list before → after' ≡ play_row order stage name fall list before
      → PlayDemand order stage name fall list before r after'
  play_demand r after' p q =
      let is : r.verdict ≡ v = ap (λ (x : PlayAnswer). x.verdict) p ∙ verdict_is in
      record {
        answer = p;
        row = q;
        least = rw is (judged (play_checks_on stage before));
        unchanged = λ d.
            let n : ¬ (v.number ≡ 0) = λ e. d (is ∙ (unrefused stage 1 before e).is) in
            (q ∙ (played_refused n).1, ap (λ (x : PlayAnswer). x.steps) (p ∙ (played_refused n).0));
        steps = λ e.
            let z : v.number ≡ 0 = zero_of (sym is ∙ e) in (
              (unrefused stage 1 before z).reads,
              rw (ap (λ (x : PlayAnswer). x.steps) (p ∙ (played_accepted z).0)) (steps_barred N (rails_for (spelled order s.inputs name)) fall list),
            );
      }

-- ---- a run by keys

-- a stage that reads has few nets
few_nets : (stage : List ℕ) → Pass (reading Stage stage_limits stage) → nets (net_of (row_stage stage)) ≤ 276
unfolding refusal content_at
few_nets stage = go (read_file Stage stage_limits stage) refl
  where
    go : (x : Reading) → read_file Stage stage_limits stage ≡ x → Pass (refusal Stage x) → nets (net_of (content_at Stage stage x)) ≤ 276
    go (refused number at) e p = absurd (clash refl p.0)
    go (readable p) e t =
        let r = readable_read Stage stage_limits stage p e in
        omega (arith, r.inputs_in.1, r.gates_in_holds, length-map p.gates (coded_at Stage stage))

module _ (s : Content) (free : LoopFree (net_of s)) (few : nets (net_of s) ≤ 276) (w : ℕ) where
  abbrev S : Acyclic
  S = acyclic s free

  abbrev c : Row
  c = rails_for w

  settled : Settled (net_of s) c (rest s w)
  settled = rest_settled s s free w

  module _ (rise fall : List ℕ) (cycle : FullCycle (net_of s) c rise fall) where
    abbrev n : ℕ
    n = nets (net_of s)

    abbrev keys : List ℕ
    keys = place_keys n rise fall

    at_rest : after low rise ≡ rest s w
    at_rest = rise_end_is S c (rest s w) settled rise cycle.lists.rise_legal cycle.lists.rise_ended

    rise_is : rise_by (key_in keys) (net_of s) c low ≡ rise
    rise_is = rise_by_places S c (key_in keys) rise cycle.lists.rise_legal cycle.lists.rise_ended (key_rise n rise fall)

    fall_legal : FallList (net_of s) (rest s w) fall
    fall_legal = subst (λ (R : Row). FallList (net_of s) R fall) at_rest cycle.lists.fall_legal

    fall_is : fall_by (key_in (drop n keys)) (net_of s) (rest s w) low ≡ fall
    fall_is = fall_by_places S c (key_in (drop n keys)) (rest s w) settled fall fall_legal
        (subst (λ (R : Row). FallEnd (net_of s) R fall) at_rest cycle.fall_ended) (key_fall n rise fall)

    pub keys_for : KeysFor s w rise fall
    unfolding run_by_keys
    keys_for = record {
      keys = keys;
      long = keys_long n rise fall;
      small = λ i. omega (
        arith,
        keys_small n rise fall (run_short (moves.rise S c) (key_in keys) low rise (quiet_low (moves.rise S c)) cycle.lists.rise_legal)
            (run_short (moves.fallen S) (key_in keys) (complement (rest s w)) fall (moves.settled_dual_quiet S c (rest s w) settled) (legal_dual (moves.fall S) (rest s w) fall fall_legal)) i,
      );
      plays = ap₂ {C = Run} (λ (a b : List ℕ). record { rise = a; fall = b }) rise_is
          (ap (λ (R : Row). fall_by (key_in (drop n keys)) (net_of s) R low) (ap (after low) rise_is ∙ at_rest) ∙ fall_is);
    }

  pub run_of_keys : (keys : List ℕ) → RunOfKeys s keys w (run_by_keys s keys w)
  unfolding run_by_keys
  run_of_keys keys =
      let key = key_in keys in
      let key' = key_in (drop (nets (net_of s)) keys) in
      let fall_is = ap (λ (R : Row). fall_by key' (net_of s) R low) (to_rest s s free w key key') in
      record {
        full = full s s free w key key';
        to_rest = to_rest s s free w key key';
        to_low = to_low s s free w key key';
        rise_by_holds = rise_played S c key;
        fall_by_holds = rw fall_is (fall_played S c key' (rest s w) settled);
        every = keys_for;
      }

abbrev pub no_run : Run
no_run = record { rise = []; fall = [] }

-- of no run nothing is handed out
pub none_handed : (list : List ℕ) → handed_out [] list ≡ list
unfolding handed_out
none_handed list = ap (λ (b : Bool). cond b list list) (le-ltb (length list) 0 (omega arith))

module _ (order : WordOrder) (stage : List ℕ) (name : ℕ) (keys before : List ℕ) where
  abbrev verdict : Verdict
  verdict = judge (key_checks_on stage keys)

  abbrev word : ℕ
  word = spelled order (row_stage stage).inputs name

  pub keyed_accepted : verdict.number ≡ 0 → keys_on order stage name keys ≡ run_by_keys (row_stage stage) keys word
  unfolding keys_on
  keyed_accepted e = ap (λ (b : Bool). cond b (run_by_keys (row_stage stage) keys word) no_run) (eq-eqb verdict.number 0 e)

  pub keyed_refused : ¬ (verdict.number ≡ 0) → keys_on order stage name keys ≡ no_run
  unfolding keys_on
  keyed_refused d = ap (λ (b : Bool). cond b (run_by_keys (row_stage stage) keys word) no_run) (ne_eqb verdict.number 0 d)

  -- each net stands at most once in the rise, and in the fall
  keys_few : length (switchings (keys_on order stage name keys)) ≤ 2 * nets (net_of (row_stage stage))
  unfolding keys_on run_by_keys
  keys_few = go (eqb verdict.number 0)
    where
      go : (b : Bool) → length (switchings (cond b (run_by_keys (row_stage stage) keys word) no_run)) ≤ 2 * nets (net_of (row_stage stage))
      go true =
          let N = net_of (row_stage stage) in
          let key = key_in keys in
          let key' = key_in (drop (nets N) keys) in
          let rise = rise_by key N (rails_for word) low in
          omega (
            arith,
            length-append rise (fall_by key' N (after low rise) low),
            rise_few key N (rails_for word) low,
            fall_few key' N (after low rise) low,
          )
      go false = omega arith

  pub keys_demand : (r : RunAnswer) (after' : List ℕ) → r ≡ answering verdict (keys_on order stage name keys) → after' ≡ handed_out (switchings (keys_on order stage name keys)) before
      → KeysDemand order stage name keys before r after'
  keys_demand r after' p q =
      let is : r.verdict ≡ verdict = ap (λ (x : RunAnswer). x.verdict) p in
      record {
        answer = p;
        handed = rw (p, q) (handed verdict (keys_on order stage name keys) before);
        few = omega (arith, ap (λ (x : RunAnswer). x.count) p, keys_few);
        least = rw is (judged (key_checks_on stage keys));
        unchanged = λ d.
            let no : keys_on order stage name keys ≡ no_run = keyed_refused (λ e. d (is ∙ (unrefused stage 2 keys e).is)) in
            (q ∙ ap (λ (x : Run). handed_out (switchings x) before) no ∙ none_handed before, ap (λ (x : RunAnswer). x.count) p ∙ ap (λ (x : Run). (answering verdict x).count) no);
        run = λ e.
            let z : verdict.number ≡ 0 = zero_of (sym is ∙ e) in
            let u = unrefused stage 2 keys z in
            (u.reads, rw (keyed_accepted z) (run_of_keys (row_stage stage) u.free (few_nets stage u.reads) word keys));
      }
