-- `text_drive::gates_again` meets its contract. The loop's invariant: no net so far is driven before. Assumes nothing.
use native.Mathlib.Omega.{arith}
use mathlib.Core.Path.{◌≡◌, ap, ◌∙◌}
use mathlib.Core.List.{[], ◌∷◌}
use lib.ListN.{length, drop, length-append, length-drop}
use Rattle.std.proofs.Common.{of_calls, inl}
use Rattle.text_scan.specs.declared.Lines.{Lines}
use Rattle.text_scan.specs.Pieces.{lines_in}
use Rattle.text_scan.proofs.Pieces.{to_end, lines_few}
use Rattle.text_scan.proofs.Turns.{Next, numbered_line_next, numbered_line_end}
use Rattle.text_names.proofs.Driven.{nets_lines}
use Rattle.text_drive.proofs.Again.{gates_once_start, gates_once_end, gates_once_here, gates_once_on}
use Rattle.text_drive.proofs.gates_again.Goals as goal
use Rattle.text_drive.proofs.gates_again.Goals.{In-Some}

here : (c : In-Some) → (c.in-Some.i ≡ length c.loop-i.yielded) × Next (lines_in (drop c.args.start c.args.s.now)) (length c.loop-i.yielded) c.in-Some.line.now
here c =
    numbered_line_next (drop c.args.start c.args.s.now) c.loop-i.yielded c.loop-i.i-iterator c.next.new.self c.loop-i.yielded_by c.in-Some.is c.next.ensures.steps
    c.into_iter-i-iterator.ensures.into_iter_gives (ap (λ (t : Lines). t.0.now) c.enumerate-i-items.ensures.source ∙ to_end c.args.s.now c.args.start)
    c.enumerate-i-items.ensures.count

pub loop-i-init : goal.loop-i-init
loop-i-init c =
    let s = c.args.s.now in let start = c.args.start in
    record {
      can = (
        tt,
        tt,
        inl (rw (c.into_iter-i-iterator.ensures.into_iter_gives, c.enumerate-i-items.ensures.source, c.enumerate-i-items.ensures.count, to_end s start)
            (omega (arith, lines_few (drop start s), length-drop start s))),
      );
      finite = search of_calls;
      before = gates_once_start c.requires.5 (c.requires.6 ∙ nets_lines (drop start s));
    }

pub net_place-requires : goal.net_place-requires
net_place-requires c = (c.requires.0, c.requires.1)

pub overflow_add-rails : goal.overflow_add-rails
overflow_add-rails c =
    let t = here (goal.at.overflow_add-rails c).In-Some in
    let start = c.args.start in
    omega (arith, c.requires.2, c.requires.4, t.0, t.1.inside, lines_few (drop start c.args.s.now), length-drop start c.args.s.now)

pub overflow_add-result : goal.overflow_add-result
overflow_add-result c =
    let t = here (goal.at.overflow_add-result c).In-Some in
    let start = c.args.start in
    omega (arith, t.0, t.1.inside, lines_few (drop start c.args.s.now), length-drop start c.args.s.now, c.requires.2, c.requires.3)

pub returns-then-net_place-rails : goal.returns-then-net_place-rails
returns-then-net_place-rails c =
    let t = here (goal.at.returns-then-net_place-rails c).In-Some in
    rw (t.0, nets_lines (drop c.args.start c.args.s.now)) (gates_once_here c.loop-i.invariant.before t.1 (omega (arith, t.0, c.if-net_place-rails.true, c.net_place.ensures)))

pub loop-i-preserved : goal.loop-i-preserved
loop-i-preserved c =
    let t = here (goal.at.loop-i-preserved c).In-Some in
    let goes = c.next.ensures.goes in
    record {
      can = rw c.in-Some.is at goes.keeps;
      finite = (rw c.in-Some.is at (goes.on c.loop-i.invariant.finite)).1;
      before = rw (length-append c.loop-i.yielded ((c.in-Some.i, c.in-Some.line) ∷ []))
          (gates_once_on c.loop-i.invariant.before t.1 (omega (arith, t.0, c.if-net_place-rails.false, c.net_place.ensures)));
    }

pub returns : goal.returns
returns c =
    rw (nets_lines (drop c.args.start c.args.s.now)) (gates_once_end c.loop-i.invariant.before
    (numbered_line_end (drop c.args.start c.args.s.now) c.loop-i.yielded c.loop-i.i-iterator c.next.new.self c.loop-i.yielded_by c.in-None.is c.next.ensures.steps
    c.into_iter-i-iterator.ensures.into_iter_gives (ap (λ (t : Lines). t.0.now) c.enumerate-i-items.ensures.source ∙ to_end c.args.s.now c.args.start)
    c.enumerate-i-items.ensures.count))
