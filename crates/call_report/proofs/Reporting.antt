-- The report of a loaded stage is the one defined, and what the report of two files means.
-- Assumes nothing.
use Prim.Native.Nat.{ℕ, ◌≤◌}
use native.Mathlib.Omega.{arith}
use mathlib.Core.Path.{◌≡◌, sym, ap, ap₂, ◌∙◌, subst, fun_ext}
use mathlib.Core.Bool.{Bool, false, cond}
use mathlib.Core.List.{List, [], map, map-map}
use lib.ListN.{replicate}
use lib.Dec.{eqb}
use borrow.Author.Tests.{ne_eqb}
use Rattle.netlist.specs.declared.File.TheVariants as file
use Rattle.netlist.specs.declared.Limits.{Limits}
use Rattle.netlist.specs.declared.Counts.{Counts}
use Rattle.netlist.specs.Reading.{stage_limits}
use Rattle.netlist.specs.Content.{Stage}
use Rattle.verdict.specs.declared.Verdict.{Verdict}
use Rattle.verdict.specs.declared.WordOrder.{WordOrder}
use Rattle.verdict.specs.Words as words
use Rattle.verdict.specs.Verdicts.{accepted}
use Rattle.check_spec.specs.Content.{Content, content_of, wired, Files, plain_files}
use Rattle.check_spec.specs.Content as content
use Rattle.check_spec.specs.Rows.{net_of}
use Rattle.check_spec.specs.Words.{names}
use Rattle.check_spec.specs.Verdicts.{verdict_on}
use Rattle.check_spec.specs.Demands.{LoopFree}
use Rattle.check_spec.specs.Loaded.{stage_view}
use Rattle.check_spec.proofs.Alike.{spelled_alike, names_alike}
use Rattle.check_spec.proofs.Sound.{sound_free, accepted_sound}
use Rattle.circuit.specs.Stage.{stage_in}
use Rattle.check_files.specs.Judgement.{StageFrom}
use Rattle.words.specs.Listed.{Listed}
use Rattle.report_spec.specs.High.{gates_high}
use Rattle.report_spec.specs.declared.Report.{Report}
use Rattle.report_spec.specs.Report as spec
use Rattle.report_spec.specs.Report.{report_of, padded, report_on, ReportMeans}
use Rattle.report_spec.proofs.Activity.{high_alike, report_means}
use Rattle.call_report.specs.Report.{lines, total, most_lines, refused_report, stage_report}
use Rattle.call_report.proofs.ReportLines.{lines_long}
use Rattle.call_report.proofs.Lines.{listed_padded}

-- ---- the report of a loaded stage

module _ (order : WordOrder) (s : Stage) where
  pub stage_report_holds : {count sum_of : ℕ} {l list : List ℕ} → Listed (words.names order s) (replicate most_lines 0) count list
      → (sum_of ≡ total order s) × (l ≡ padded (lines order s)) → record { verdict = accepted; words = count; total = sum_of; lines = l; names = list } ≡ stage_report order accepted s
  stage_report_holds a b =
      let n = a.count-is ∙ sym (lines_long order s) in
      rw (n, b.0, b.1, listed_padded _ _ _ a)

-- ---- two files

-- the report of a stage that the code has is the one defined
report_alike : (order : WordOrder) (v : Verdict) (c : Content) → LoopFree (net_of c) → stage_report order v (stage_view c) ≡ report_of v (names order c) (spec.lines order c)
report_alike order v c free =
    ap₂ (report_of v) (sym (names_alike order c)) (
    map-map (gates_high (stage_view c)) (words.spelled order c.inputs) (words.names order (stage_view c))
    ∙ ap₂ (λ (f : ℕ → ℕ) (l : List ℕ). map f l)
    (fun_ext (λ name. high_alike c free (words.spelled order c.inputs name) ∙ ap (spec.gates_high c) (sym (spelled_alike order c.inputs name))))
    (sym (names_alike order c)))

module _ (order : WordOrder) (stage reference : List ℕ) where
  abbrev f : Files
  f = plain_files stage reference

  pub report_accepted : accepted ≡ verdict_on order f → {most : Limits} {c : Counts} {code : List ℕ} → most ≡ stage_limits → StageFrom false most stage c code
      → (r : Report) → r ≡ stage_report order accepted (stage_in c code) → (r ≡ report_on order f) × ReportMeans f r
  unfolding report_on
  report_accepted e {most} {c} {code} m from r is =
      let a = (accepted_sound order f (sym (ap (λ (x : Verdict). x.number) e))).1 in
      let same : stage_view (content.stage_in f) ≡ stage_in c code =
      ap (λ (x : Limits). stage_view (wired (content_of file.Stage x stage))) (sym m) ∙ sym from.content in
      let z : r ≡ report_on order f =
      is ∙ ap (stage_report order accepted) (sym same) ∙ report_alike order accepted (content.stage_in f) (sound_free a)
      ∙ ap (λ (x : Verdict). cond (eqb x.number 0) (report_of x (names order (content.stage_in f)) (spec.lines order (content.stage_in f))) (report_of x [] [])) e in
      (z, subst (ReportMeans f) (sym z) (report_means order f))

  pub report_refused : (v : Verdict) → v ≡ verdict_on order f → 1 ≤ v.number → (refused_report v ≡ report_on order f) × ReportMeans f (refused_report v)
  unfolding report_on
  report_refused v e d =
      let z : refused_report v ≡ report_on order f =
      sym (ap (λ (b : Bool). cond b (report_of v (names order (content.stage_in f)) (spec.lines order (content.stage_in f))) (report_of v [] [])) (ne_eqb v.number 0 (λ q. omega arith)))
      ∙ ap (λ (x : Verdict). cond (eqb x.number 0) (report_of x (names order (content.stage_in f)) (spec.lines order (content.stage_in f))) (report_of x [] [])) e in
      (z, subst (ReportMeans f) (sym z) (report_means order f))
