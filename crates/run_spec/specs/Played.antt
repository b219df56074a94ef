-- Runs that are played: at each step, of the nets that may switch, that with the least key does.
use Rattle.std.specs.Prelude.{ℕ, zero, suc, ◌+◌, ◌≤◌, ◌<◌, ◌≡◌, Bool, true, cond, List, [], ◌∷◌, ◌++◌, length, drop, ltb, Option, Some, None}
use Rattle.runs.specs.Row.{Row, Rule, low, toggle, after, Ended, ◌∖◌}
use Rattle.runs.specs.Net.{Net, nets, rise_step, fall_step}
use Rattle.verdict.specs.declared.Verdict.{Verdict}
use Rattle.verdict.specs.Written.{holding}
use Rattle.check_spec.specs.Lists.{numbers}
use Rattle.run_spec.specs.declared.RunAnswer.{RunAnswer}

-- net k, or the one that was found if its key is less
abbrev pub lesser : (ℕ → ℕ) → ℕ → Option ℕ → Option ℕ
lesser key k None = Some k
lesser key k (Some i) = cond (ltb (key i) (key k)) (Some i) (Some k)

-- of the nets of a list that may switch, that with the least key; of equal keys the first
unfoldable pub next : (ℕ → ℕ) → (ℕ → Bool) → List ℕ → Option ℕ
next key may [] = None
next key may (k ∷ ks) = let later = next key may ks in cond (may k) (lesser key k later) later

-- a list that begins with the net that was found, with what follows it; none where none was
abbrev pub onward : (ℕ → List ℕ) → Option ℕ → List ℕ
onward more None = []
onward more (Some k) = k ∷ more k

-- At each step the next of the nets below n switches; so for some steps, or until none may.
unfoldable pub played : Rule → (ℕ → ℕ) → ℕ → ℕ → Row → List ℕ
played can key n zero r = []
played can key n (suc steps) r = onward (λ k. played can key n steps (toggle r k)) (next key (can r) (numbers 0 n))

-- ---- runs of a net

-- The rise of the rails c, from all low, and the fall from row R, each with the nets of X held back: these do not switch. No net switches twice in
-- either.
abbrev pub rise_by : (ℕ → ℕ) → Net → Row → Row → List ℕ
rise_by key N c X = played (λ r. rise_step N c r ∖ X) key (nets N) (nets N) low

abbrev pub fall_by : (ℕ → ℕ) → Net → Row → Row → List ℕ
fall_by key N R X = played (λ r. fall_step N r ∖ X) key (nets N) (nets N) R

-- ---- what a call hands out

-- a rise, and a fall from where it ends
pub record Run : Type 0 where
  pub rise : List ℕ
  pub fall : List ℕ

-- one after the other, as they stand in a list
abbrev pub switchings : Run → List ℕ
switchings run = run.rise ++ run.fall

abbrev pub answering : Verdict → Run → RunAnswer
answering v run = record { verdict = v; rise = length run.rise; count = length (switchings run) }

-- A list that has room for some entries holds them from its start, and what stands behind keeps its value; a list too short is left as it was.
unfoldable pub handed_out : List ℕ → List ℕ → List ℕ
handed_out entries list = let held = holding entries list in cond (ltb (length list) (length entries)) list held

-- What a call leaves of a run: the answer says where the fall begins and how long the whole is; a list with room for it holds the rise, then the fall, and
-- behind them what it held before; a list too short is left as it was.
pub record Handed (run : Run) (before : List ℕ) (r : RunAnswer) (after' : List ℕ) : Type 0 where
  pub rise : r.rise ≡ length run.rise
  pub count : r.count ≡ length run.rise + length run.fall
  pub room : r.count ≤ length before → after' ≡ (run.rise ++ run.fall) ++ drop r.count before
  pub short : length before < r.count → after' ≡ before
