-- `text_drive::first_undriven` meets its contract. The loop's invariant: the pins of the lines so far are driven. Assumes nothing.
use native.Mathlib.Omega.{arith}
use mathlib.Core.Path.{◌≡◌, sym, ap, ◌∙◌}
use mathlib.Core.List.{[], ◌∷◌}
use lib.ListN.{length, drop, length-append, length-drop}
use Rattle.std.proofs.Common.{of_calls, inl}
use Rattle.text_scan.specs.declared.Lines.{Lines}
use Rattle.text_scan.specs.Pieces.{lines_in}
use Rattle.text_scan.proofs.Pieces.{to_end, lines_few}
use Rattle.text_scan.proofs.Turns.{Next, numbered_line_next, numbered_line_end}
use Rattle.text_drive.proofs.Needed.{pins_lines, needs_start, needs_end, needs_fail, needs_on}
use Rattle.text_drive.proofs.first_undriven.Goals as goal
use Rattle.text_drive.proofs.first_undriven.Goals.{In-Some}

here : (c : In-Some) → (c.in-Some.i ≡ length c.loop-i.yielded) × Next (lines_in (drop c.args.start c.args.s.now)) (length c.loop-i.yielded) c.in-Some.line.now
here c =
    numbered_line_next (drop c.args.start c.args.s.now) c.loop-i.yielded c.loop-i.i-iterator c.next.new.self c.loop-i.yielded_by c.in-Some.is c.next.ensures.steps
    c.into_iter-i-iterator.ensures.into_iter_gives (ap (λ (t : Lines). t.0.now) c.enumerate-i-items.ensures.source ∙ to_end c.args.s.now c.args.start)
    c.enumerate-i-items.ensures.count

pub loop-i-init : goal.loop-i-init
loop-i-init c =
    let s = c.args.s.now in let start = c.args.start in
    record {
      can = (
        tt,
        tt,
        inl (rw (c.into_iter-i-iterator.ensures.into_iter_gives, c.enumerate-i-items.ensures.source, c.enumerate-i-items.ensures.count, to_end s start)
            (omega (arith, lines_few (drop start s), length-drop start s))),
      );
      finite = search of_calls;
      before = needs_start;
    }

pub overflow_add-result : goal.overflow_add-result
overflow_add-result c =
    let t = here (goal.at.overflow_add-result c).In-Some in
    let start = c.args.start in
    omega (arith, t.0, t.1.inside, lines_few (drop start c.args.s.now), length-drop start c.args.s.now)

pub returns-then-not-line_driven : goal.returns-then-not-line_driven
returns-then-not-line_driven c =
    let t = here (goal.at.returns-then-not-line_driven c).In-Some in
    rw (t.0, pins_lines c.args.s.now c.args.start) (needs_fail c.loop-i.invariant.before t.1 (sym c.line_driven.ensures ∙ c.if-not-line_driven.true))

pub loop-i-preserved : goal.loop-i-preserved
loop-i-preserved c =
    let t = here (goal.at.loop-i-preserved c).In-Some in
    let goes = c.next.ensures.goes in
    record {
      can = rw c.in-Some.is at goes.keeps;
      finite = (rw c.in-Some.is at (goes.on c.loop-i.invariant.finite)).1;
      before = rw (length-append c.loop-i.yielded ((c.in-Some.i, c.in-Some.line) ∷ []))
          (needs_on c.loop-i.invariant.before t.1 (sym c.line_driven.ensures ∙ c.if-not-line_driven.false));
    }

pub returns : goal.returns
returns c =
    rw (pins_lines c.args.s.now c.args.start) (needs_end c.loop-i.invariant.before
    (numbered_line_end (drop c.args.start c.args.s.now) c.loop-i.yielded c.loop-i.i-iterator c.next.new.self c.loop-i.yielded_by c.in-None.is c.next.ensures.steps
    c.into_iter-i-iterator.ensures.into_iter_gives (ap (λ (t : Lines). t.0.now) c.enumerate-i-items.ensures.source ∙ to_end c.args.s.now c.args.start)
    c.enumerate-i-items.ensures.count))
