-- What is played by keys on the flat form is the run that is defined. Assumes nothing.
use Prim.Native.Nat.{ℕ, ◌+◌, ◌-◌, ◌*◌, ◌≤◌, ◌<◌}
use native.Mathlib.Omega.{arith}
use mathlib.Core.Path.{◌≡◌, refl, sym, ap, ap₂, ◌∙◌, subst}
use mathlib.Core.Bool.{and-true}
use mathlib.Core.List.{List, ◌++◌}
use lib.ListN.{length, take, drop, replicate, length-append, length-drop}
use lib.Seq.{take_all}
use Rattle.runs.specs.Row.{Row, low, toggle, after, ◌∖◌}
use Rattle.runs.specs.Net.{Net, nets, rise_step, fall_step}
use Rattle.runs.proofs.Test.{clash}
use Rattle.netlist.specs.declared.Counts.{Counts}
use Rattle.verdict.specs.declared.Verdict.{Verdict}
use Rattle.verdict.specs.declared.WordOrder.{WordOrder}
use Rattle.verdict.specs.FourNumbers.{accepted}
use Rattle.verdict.specs.Words as flat
use Rattle.check_spec.specs.Cases.{judge}
use Rattle.check_spec.specs.Content.{Content}
use Rattle.check_spec.specs.Rows.{net_of}
use Rattle.check_spec.specs.Verdicts.{row_stage}
use Rattle.check_spec.specs.Words.{rails_for, spelled}
use Rattle.check_spec.proofs.Alike.{spelled_alike}
use Rattle.circuit.specs.Stage.{net_count}
use Rattle.circuit.specs.Rows.{row_size}
use Rattle.circuit.proofs.Settling.{length_stage_gates}
use Rattle.circuit_steps.specs.Moves.{moves, loaded_net, row_in}
use Rattle.circuit_steps.proofs.Goals.{low_levels}
use Rattle.circuit_steps.proofs.Rules.{RailsBelow, rise_free, fall_free, free_stays}
use Rattle.write_run.specs.declared.Lengths.{Lengths}
use Rattle.write_run.specs.Listing.{ListedRun, RunPut}
use Rattle.write_run.proofs.Listing.{run_taken}
use Rattle.run_spec.specs.declared.RunAnswer.{RunAnswer}
use Rattle.run_spec.specs.Played.{Run, rise_by, fall_by, switchings, answering, handed_out}
use Rattle.run_spec.specs.Keys.{key_in, run_by_keys, key_checks_on, keys_on, KeysDemand}
use Rattle.run_spec.proofs.Played.{played_alike, played_few}
use Rattle.run_spec.proofs.Calls.{no_run, none_handed, keyed_accepted, keyed_refused, keys_demand}
use Rattle.call_open.specs.Opened.{StageOpened}
use Rattle.call_keys.specs.Lists.{by_keys, rise_in, fall_in, run_in, GivenBy}
use Rattle.call_keys.proofs.Steps.{goal_same}

-- ---- the rules are those of a rise and of a fall, with nothing held back

module _ (N : Net) (key : ℕ → ℕ) where
  rise_alike : (c : Row) → by_keys N c key low ≡ rise_by key N c low
  rise_alike c =
      played_alike (moves N c) (λ r. rise_step N c r ∖ low) key (nets N) (λ x y. RailsBelow N c x × (x ≡ y))
      (λ x y z k h. rise_free N x k c c (λ j l. refl) z.0 ∙ sym (and-true (rise_step N c x k)) ∙ ap (λ (t : Row). (rise_step N c t ∖ low) k) z.1)
      (λ x y k z e. (free_stays N c x k z.0 (sym (rise_free N x k c c (λ j l. refl) z.0) ∙ e), ap (λ (t : Row). toggle t k) z.1))
      (nets N) low low ((λ k l e. absurd (clash e refl)), refl)

  fall_alike : (R : Row) → by_keys N low key R ≡ fall_by key N R low
  fall_alike R =
      played_alike (moves N low) (λ r. fall_step N r ∖ low) key (nets N) (λ x y. x ≡ y)
      (λ x y z k h. fall_free N x k low (λ j l. refl) ∙ sym (and-true (fall_step N x k)) ∙ ap (λ (t : Row). (fall_step N t ∖ low) k) z)
      (λ x y k z e. ap (λ (t : Row). toggle t k) z) (nets N) R R refl

-- ---- the run of a stage

pub run_same : (s : Content) (c : Counts) (code keys : List ℕ) (w : ℕ) → loaded_net c code ≡ net_of s → run_in c code keys w ≡ run_by_keys s keys w
unfolding rise_in fall_in run_by_keys
run_same s c code keys w e =
    let N = loaded_net c code in
    let key' = key_in (drop (nets N) keys) in
    ap₂ {C = Run} (λ (a b : List ℕ). record { rise = a; fall = b }) (rise_alike N (key_in keys) (rails_for w))
    (fall_alike N key' (after low (by_keys N (rails_for w) (key_in keys) low)) ∙ ap (λ (l : List ℕ). fall_by key' N (after low l) low) (rise_alike N (key_in keys) (rails_for w)))
    ∙ ap {B = Run} (λ (M : Net).
    record { rise = rise_by (key_in keys) M (rails_for w) low; fall = fall_by (key_in (drop (nets M) keys)) M (after low (rise_by (key_in keys) M (rails_for w) low)) low }) e

-- ---- a rise and a fall that are listed one after the other

-- each net is listed at most once
pub listed_few : (c : Counts) (code : List ℕ) (goal : Row) (key : ℕ → ℕ) (before : List ℕ) (start : ℕ) (r₀ : Row) (end : ℕ) (list : List ℕ) (r : Row)
    → ListedRun (by_keys (loaded_net c code) goal key r₀) before start r₀ end list r → end ≤ start + net_count c
listed_few c code goal key before start r₀ end list r l =
    let N = loaded_net c code in
    omega (arith, l.end_is, played_few (moves N goal) key (nets N) (nets N) r₀, length_stage_gates c code)

-- the keys of the fall
module _ (c : Counts) (code keys : List ℕ) (long : length keys ≡ 2 * net_count c) where
  abbrev part : List ℕ
  part = take (length keys - net_count c) (drop (net_count c) keys)

  part-all : part ≡ drop (net_count c) keys
  part-all = take_all (length keys - net_count c) (drop (net_count c) keys) (omega (arith, length-drop (net_count c) keys))

  pub part_keys : part ≡ drop (nets (loaded_net c code)) keys
  part_keys = part-all ∙ ap (λ (g : ℕ). drop (2 * c.inputs + g) keys) (sym (length_stage_gates c code))

  pub part_room : net_count c ≤ length part
  part_room = omega (arith, ap length part-all, length-drop (net_count c) keys)

module _ (c : Counts) (code keys : List ℕ) (w : ℕ) (before : List ℕ) (end : ℕ) (list : List ℕ) (r : Row) where
  abbrev M : Net
  M = loaded_net c code

  abbrev zeros : Row
  zeros = row_in c (replicate row_size 0)

  pub rise_listed : (goal : Row) → ((k : ℕ) → k < 2 * c.inputs → goal k ≡ rails_for w k) → ListedRun (by_keys M goal (key_in keys) zeros) before 0 zeros end list r
      → ListedRun (rise_in c code keys w) before 0 low end list r
  unfolding rise_in
  rise_listed goal spells l =
      subst (λ (s : Row). ListedRun (by_keys M (rails_for w) (key_in keys) s) before 0 s end list r) (low_levels c)
      (subst (λ (x : List ℕ). ListedRun x before 0 zeros end list r) (goal_same c code goal (rails_for w) spells (key_in keys) zeros) l)

  pub fall_listed : (start : ℕ) (R : Row) (some-keys : List ℕ) → some-keys ≡ drop (nets M) keys → R ≡ after low (rise_in c code keys w)
      → ListedRun (by_keys M zeros (key_in some-keys) R) before start R end list r → ListedRun (fall_in c code keys w) before start R end list r
  unfolding fall_in
  fall_listed start R some-keys e f l =
      subst (λ (x : List ℕ). ListedRun x before start R end list r)
      (ap₂ (λ (g : Row) (ks : List ℕ). by_keys M g (key_in ks) R) (low_levels c) e ∙ ap (by_keys M low (key_in (drop (nets M) keys))) f) l

-- it is short
pub run_few : (c : Counts) (code keys : List ℕ) (w : ℕ) → length (rise_in c code keys w ++ fall_in c code keys w) ≤ 2 * net_count c
unfolding rise_in fall_in
run_few c code keys w =
    let N = loaded_net c code in
    let rise = by_keys N (rails_for w) (key_in keys) low in
    omega (
      arith,
      length-append rise (by_keys N low (key_in (drop (nets N) keys)) (after low rise)),
      played_few (moves N (rails_for w)) (key_in keys) (nets N) (nets N) low,
      played_few (moves N low) (key_in (drop (nets N) keys)) (nets N) (nets N) (after low rise),
      length_stage_gates c code,
    )

pub run_room : (c : Counts) (code keys : List ℕ) (w : ℕ) (before list : List ℕ) (r : Lengths) → RunPut (rise_in c code keys w) (fall_in c code keys w) before r list
    → 2 * net_count c ≤ length before → r.count ≤ length before
run_room c code keys w before list r put room = omega (arith, put.count-is, run_few c code keys w)

pub run_count : (c : Counts) (code keys : List ℕ) (w : ℕ) (before list : List ℕ) (r : Lengths) → RunPut (rise_in c code keys w) (fall_in c code keys w) before r list
    → 2 * net_count c ≤ length before → r.count ≡ length (take r.count list)
run_count c code keys w before list r put room = put.count-is ∙ sym (ap length (run_taken put (omega (arith, run_few c code keys w))))

pub given_by : (order : WordOrder) (c : Counts) (code : List ℕ) (name : ℕ) (keys : List ℕ) (w : ℕ) → w ≡ flat.spelled order c.inputs name
    → (before list : List ℕ) (r : Lengths) → RunPut (rise_in c code keys w) (fall_in c code keys w) before r list → 2 * net_count c ≤ length before
    → (lent lent' : List ℕ) → lent' ≡ handed_out (take r.count list) lent → (a : RunAnswer) → a ≡ record { verdict = accepted; rise = r.rise; count = r.count }
    → GivenBy order c code name keys lent a lent'
given_by order c code name keys w e before list r put room lent lent' h a q =
    let few : length (rise_in c code keys w ++ fall_in c code keys w) ≤ length before = omega (arith, run_few c code keys w) in
    record {
      answer =
          q ∙ ap₂ {C = RunAnswer} (λ (x y : ℕ). record { verdict = accepted; rise = x; count = y }) put.rise_is put.count-is
          ∙ ap (λ (x : ℕ). answering accepted (run_in c code keys x)) e;
      list_is = h ∙ ap (λ (l : List ℕ). handed_out l lent) (run_taken put few) ∙ ap (λ (x : ℕ). handed_out (switchings (run_in c code keys x)) lent) e;
    }

-- ---- the call

module _ (order : WordOrder) (stage : List ℕ) (name : ℕ) (keys before : List ℕ) where
  abbrev v : Verdict
  v = judge (key_checks_on stage keys)

  pub by_refusal : (x : Verdict) → (x ≡ v) × (¬ (x.number ≡ 0)) → (r : RunAnswer) → r ≡ record { verdict = x; rise = 0; count = 0 } → KeysDemand order stage name keys before r before
  by_refusal x h r q =
      let no : keys_on order stage name keys ≡ no_run = keyed_refused order stage name keys before (λ z. h.1 (ap (λ (y : Verdict). y.number) h.0 ∙ z)) in
      keys_demand order stage name keys before r before
      (q ∙ ap {B = RunAnswer} (λ (y : Verdict). record { verdict = y; rise = 0; count = 0 }) h.0 ∙ sym (ap (answering v) no))
      (sym (ap (λ (x : Run). handed_out (switchings x) before) no ∙ none_handed before))

  pub by_run : (c : Counts) (code : List ℕ) → StageOpened stage c code × (v ≡ accepted) → (r : RunAnswer) (list : List ℕ) → GivenBy order c code name keys before r list
      → KeysDemand order stage name keys before r list
  by_run c code (o, is) r list g =
      let word : flat.spelled order c.inputs name ≡ spelled order (row_stage stage).inputs name =
      sym (spelled_alike order c.inputs name) ∙ ap (λ (n : ℕ). spelled order n name) o.inputs in
      let run : run_in c code keys (flat.spelled order c.inputs name) ≡ keys_on order stage name keys =
      run_same (row_stage stage) c code keys (flat.spelled order c.inputs name) o.net ∙ ap (run_by_keys (row_stage stage) keys) word
      ∙ sym (keyed_accepted order stage name keys before (ap (λ (y : Verdict). y.number) is)) in
      keys_demand order stage name keys before r list (g.answer ∙ ap₂ answering (sym is) run) (g.list_is ∙ ap (λ (x : Run). handed_out (switchings x) before) run)
