-- `text_lines::other_form` meets its contract. The loop's invariant: the lines so far are of their form, and `at` is where the next begins.
-- Assumes nothing.
use Prim.Native.Nat.{◌+◌, ◌<◌}
use native.Mathlib.Omega.{arith}
use mathlib.Core.Path.{◌≡◌, sym, ap, ◌∙◌}
use mathlib.Core.List.{[], ◌∷◌}
use lib.ListN.{length, drop, length-append, drop_of_length-le}
use Rattle.std.specs.Prelude.{Some}
use Rattle.std.proofs.Common.{of_calls, inl}
use Rattle.text_spec.specs.Characters.{newline}
use Rattle.text_spec.specs.Lines.{split, other_form}
use Rattle.text_scan.specs.declared.Lines.{Lines}
use Rattle.text_scan.specs.Pieces.{lines_in}
use Rattle.text_scan.proofs.Pieces.{LineAt, line_at, lines_few}
use Rattle.text_scan.proofs.Turns.{Next, numbered_line_next, numbered_line_end}
use Rattle.text_lines.proofs.LineForms.{formed_start, formed_fails, formed_on, last_full, last_early, last_none}
use Rattle.text_lines.proofs.other_form.Goals as goal
use Rattle.text_lines.proofs.other_form.Goals.{In-Some, In-None, then-next-lt2-via-then-next-lt2, then-next-lt2-via-else-next-lt2+then-at-s}

here : (c : In-Some) → (c.in-Some.i ≡ length c.loop-i.yielded) × Next (lines_in c.args.s.now) (length c.loop-i.yielded) c.in-Some.line.now
here c =
    numbered_line_next c.args.s.now c.loop-i.yielded c.loop-i.i-iterator c.next.new.self c.loop-i.yielded_by c.in-Some.is c.next.ensures.steps
    c.into_iter-i-iterator.ensures.into_iter_gives (ap (λ (t : Lines). t.0.now) c.enumerate-i-items.ensures.source) c.enumerate-i-items.ensures.count

there : (c : In-Some) → LineAt c.args.s.now c.loop-i.at c.in-Some.line.now (drop (length c.loop-i.yielded + 1) (lines_in c.args.s.now))
there c =
    line_at c.args.s.now c.loop-i.at c.in-Some.line.now (drop (length c.loop-i.yielded + 1) (lines_in c.args.s.now))
    c.loop-i.invariant.before.inside (sym c.loop-i.invariant.before.lines ∙ (here c).1.here)

pub loop-i-init : goal.loop-i-init
loop-i-init c =
    record {
      can = (
        tt,
        tt,
        inl (rw (c.into_iter-i-iterator.ensures.into_iter_gives, c.enumerate-i-items.ensures.source, c.enumerate-i-items.ensures.count)
            (omega (arith, lines_few c.args.s.now))),
      );
      finite = search of_calls;
      count = omega arith;
      before = formed_start;
    }

pub returns-then-not-is_formed : goal.returns-then-not-is_formed
returns-then-not-is_formed c =
    let t = here (goal.at.returns-then-not-is_formed c).In-Some in
    let l = there (goal.at.returns-then-not-is_formed c).In-Some in
    rw t.0 (formed_fails c.loop-i.invariant.before l (rw t.0 at (sym c.is_formed.ensures ∙ c.if-not-is_formed.true)))

pub loop-i-preserved : goal.loop-i-preserved
loop-i-preserved c =
    let t = here (goal.at.loop-i-preserved c).In-Some in
    let l = there (goal.at.loop-i-preserved c).In-Some in
    let goes = c.next.ensures.goes in
    let z : c.loop-i.at + (length c.in-Some.line.now + 1) ≡ c.loop-i.at + length c.in-Some.line.now + 1 = omega arith in
    record {
      can = rw c.in-Some.is at goes.keeps;
      finite = (rw c.in-Some.is at (goes.on c.loop-i.invariant.finite)).1;
      count = omega (arith, t.0, length-append c.loop-i.yielded ((c.in-Some.i, c.in-Some.line) ∷ []));
      before = rw (length-append c.loop-i.yielded ((c.in-Some.i, c.in-Some.line) ∷ []), z)
          (formed_on c.loop-i.invariant.before l (rw t.0 at (sym c.is_formed.ensures ∙ c.if-not-is_formed.false)));
    }

none : (c : In-None) → lines_in (drop c.loop-i.at c.args.s.now) ≡ []
none c =
    let ls = lines_in c.args.s.now in
    let all : length c.loop-i.yielded ≡ length ls =
    numbered_line_end c.args.s.now c.loop-i.yielded c.loop-i.i-iterator c.next.new.self c.loop-i.yielded_by c.in-None.is c.next.ensures.steps
    c.into_iter-i-iterator.ensures.into_iter_gives (ap (λ (t : Lines). t.0.now) c.enumerate-i-items.ensures.source) c.enumerate-i-items.ensures.count in
    sym c.loop-i.invariant.before.lines ∙ drop_of_length-le ls {i = length c.loop-i.yielded} (omega (arith, all))

pub returns-then-next-lt2 : goal.returns-then-next-lt2
returns-then-next-lt2 c =
    let all = none (goal.at.returns-then-next-lt2 c).In-None in
    let early : c.loop-i.next < 2 → Some c.loop-i.next ≡ other_form 0 (split newline c.args.s.now) =
    λ l. rw c.loop-i.invariant.count (last_early c.loop-i.invariant.before all (omega (arith, c.loop-i.invariant.count))) in
    let full : c.loop-i.at < length c.args.s.now → Some c.loop-i.next ≡ other_form 0 (split newline c.args.s.now) =
    λ l. rw c.loop-i.invariant.count (last_full c.loop-i.invariant.before all l) in
    elim c.then-next-lt2.branch [
      | then-next-lt2-via-then-next-lt2 w ↦ early (omega (arith, w.if-next-lt2))
      | then-next-lt2-via-else-next-lt2+then-at-s w ↦ full (omega (arith, w.if-at-s))
    ]

pub returns : goal.returns
returns c =
    last_none c.loop-i.invariant.before (none (goal.at.returns c).In-None)
    (omega (arith, c.loop-i.invariant.count, c.if-next-lt2.false)) (omega (arith, c.if-at-s.false))
