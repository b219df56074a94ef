-- `text_read::put_lines` meets its contract. The loop's invariant: the lines so far are put. Assumes nothing.
use native.Mathlib.Omega.{arith}
use mathlib.Core.Path.{ap, ◌∙◌}
use mathlib.Core.List.{[], ◌∷◌}
use lib.ListN.{length, drop, length-append}
use Rattle.std.proofs.Common.{of_calls}
use Rattle.text_scan.specs.declared.Lines.{Lines}
use Rattle.text_scan.specs.Pieces.{lines_in}
use Rattle.text_scan.proofs.Pieces.{to_end, gates_lines}
use Rattle.text_scan.proofs.Turns.{Next, line_next, line_end}
use Rattle.text_names.specs.Tailed.{drivers_of}
use Rattle.text_read.proofs.Making.{lines_put_start, lines_put_end, lines_put_room, lines_put_on}
use Rattle.text_read.proofs.put_lines.Goals as goal
use Rattle.text_read.proofs.put_lines.Goals.{In-Some}

here : (c : In-Some) → Next (lines_in (drop c.args.start c.args.s.now)) (length c.loop-line.yielded) c.in-Some.line.now
here c =
    line_next (drop c.args.start c.args.s.now) c.loop-line.yielded c.into_iter-line-iterator.result c.loop-line.line-iterator c.next.new.self c.loop-line.yielded_by c.in-Some.is
    c.next.ensures.steps (ap (λ (t : Lines). t.0.now) c.into_iter-line-iterator.ensures.into_iter_gives ∙ to_end c.args.s.now c.args.start)

pub loop-line-init : goal.loop-line-init
loop-line-init c = record {
  can = search of_calls;
  finite = search of_calls;
  names = c.names-names.ensures;
  lines = lines_put_start (drivers_of c.args.s.now) (lines_in (drop c.args.start c.args.s.now)) c.args.work.now (rw (gates_lines (drop c.args.start c.args.s.now)) at c.requires.3);
}

pub put_line-requires : goal.put_line-requires
put_line-requires c =
    let t = here (goal.at.put_line-requires c).In-Some in
    (c.requires.0, c.requires.1, c.loop-line.invariant.names, lines_put_room c.loop-line.invariant.lines t)

pub overflow_add-put : goal.overflow_add-put
overflow_add-put c =
    let t = here (goal.at.overflow_add-put c).In-Some in
    omega (arith, lines_put_room c.loop-line.invariant.lines t)

pub loop-line-preserved : goal.loop-line-preserved
loop-line-preserved c =
    let t = here (goal.at.loop-line-preserved c).In-Some in
    let goes = c.next.ensures.goes in
    record {
      can = rw c.in-Some.is at goes.keeps;
      finite = (rw c.in-Some.is at (goes.on c.loop-line.invariant.finite)).1;
      names = c.loop-line.invariant.names;
      lines = rw (length-append c.loop-line.yielded (c.in-Some.line ∷ [])) (lines_put_on c.loop-line.invariant.lines t c.put_line.ensures);
    }

pub returns : goal.returns
returns c =
    rw (gates_lines (drop c.args.start c.args.s.now)) (lines_put_end c.loop-line.invariant.lines
    (line_end (drop c.args.start c.args.s.now) c.loop-line.yielded c.into_iter-line-iterator.result c.loop-line.line-iterator c.next.new.self c.loop-line.yielded_by c.in-None.is
    c.next.ensures.steps (ap (λ (t : Lines). t.0.now) c.into_iter-line-iterator.ensures.into_iter_gives ∙ to_end c.args.s.now c.args.start)))
