-- `text_table::index_gates` meets its contract. The loop's invariant: the nets of the lines so far are entries, and `at` is where the next begins.
-- Assumes nothing.
use Prim.Native.Nat.{ℕ, ◌+◌}
use native.Mathlib.Omega.{arith}
use mathlib.Core.Path.{◌≡◌, refl, sym, ap, subst, ◌∙◌}
use mathlib.Core.List.{List, [], ◌∷◌}
use lib.ListN.{length, drop, length-append, length-drop, drop_of_length-le}
use Rattle.std.proofs.Common.{of_calls, inl}
use Rattle.text_scan.specs.declared.Lines.{Lines}
use Rattle.text_scan.specs.Pieces.{lines_in}
use Rattle.text_scan.proofs.Pieces.{LineAt, line_at, to_end, lines_few}
use Rattle.text_scan.proofs.Turns.{Next, numbered_line_next, numbered_line_end}
use Rattle.text_table.specs.Table.{NetAt}
use Rattle.text_table.proofs.Tables.{gates_to_start, gates_to_none, gates_to_on, gates_room}
use Rattle.text_table.proofs.index_gates.Goals as goal
use Rattle.text_table.proofs.index_gates.Goals.{In-Some}

here : (c : In-Some) → (c.in-Some.i ≡ length c.loop-i.yielded) × Next (lines_in (drop c.args.start c.args.s.now)) (length c.loop-i.yielded) c.in-Some.line.now
here c =
    numbered_line_next (drop c.args.start c.args.s.now) c.loop-i.yielded c.loop-i.i-iterator c.next.new.self c.loop-i.yielded_by c.in-Some.is c.next.ensures.steps
    c.into_iter-i-iterator.ensures.into_iter_gives (ap (λ (t : Lines). t.0.now) c.enumerate-i-items.ensures.source ∙ to_end c.args.s.now c.args.start)
    c.enumerate-i-items.ensures.count

there : (c : In-Some) → LineAt c.args.s.now c.loop-i.at c.in-Some.line.now (drop (length c.loop-i.yielded + 1) (lines_in (drop c.args.start c.args.s.now)))
there c =
    line_at c.args.s.now c.loop-i.at c.in-Some.line.now (drop (length c.loop-i.yielded + 1) (lines_in (drop c.args.start c.args.s.now)))
    c.loop-i.invariant.entries.inside (sym c.loop-i.invariant.lines ∙ (here c).1.here)

pub loop-i-init : goal.loop-i-init
loop-i-init c =
    let s = c.args.s.now in let start = c.args.start in
    let z : c.args.rails + 0 ≡ c.args.rails = omega arith in
    record {
      can = (
        tt,
        tt,
        inl (rw (c.into_iter-i-iterator.ensures.into_iter_gives, c.enumerate-i-items.ensures.source, c.enumerate-i-items.ensures.count, to_end s start)
            (omega (arith, lines_few (drop start s), length-drop start s))),
      );
      finite = search of_calls;
      entries = rw z (gates_to_start c.requires.0 c.requires.1);
      lines = refl;
    }

pub overflow_add-rails : goal.overflow_add-rails
overflow_add-rails c =
    let t = here (goal.at.overflow_add-rails c).In-Some in
    let l = there (goal.at.overflow_add-rails c).In-Some in
    omega (arith, t.0, gates_room c.loop-i.invariant.entries l.is l.more)

pub overflow_add-at : goal.overflow_add-at
overflow_add-at c = let l = there (goal.at.overflow_add-at c).In-Some in omega (arith, l.more)

pub overflow_add-at-in-loop-i : goal.overflow_add-at-in-loop-i
overflow_add-at-in-loop-i c = let l = there (goal.at.overflow_add-at-in-loop-i c).In-Some in omega (arith, l.more)

pub index_line-requires : goal.index_line-requires
index_line-requires c =
    let t = here (goal.at.index_line-requires c).In-Some in
    let l = there (goal.at.index_line-requires c).In-Some in
    let g = gates_room c.loop-i.invariant.entries l.is l.more in (omega (arith, g.0, t.0), omega (arith, l.more))

pub loop-i-preserved : goal.loop-i-preserved
loop-i-preserved c =
    let t = here (goal.at.loop-i-preserved c).In-Some in
    let l = there (goal.at.loop-i-preserved c).In-Some in
    let goes = c.next.ensures.goes in
    let at = c.loop-i.at in let p = c.in-Some.line.now in
    let z : at + (length p + 1) ≡ at + length p + 1 = omega arith in
    let w : c.args.rails + (length c.loop-i.yielded + 1) ≡ c.args.rails + length c.loop-i.yielded + 1 = omega arith in
    let put = subst (λ (m : List ℕ). NetAt m at (c.args.rails + length c.loop-i.yielded) c.loop-i.table c.index_line.new.table) l.cut (rw t.0 at c.index_line.ensures) in
    record {
      can = rw c.in-Some.is at goes.keeps;
      finite = (rw c.in-Some.is at (goes.on c.loop-i.invariant.finite)).1;
      entries = rw (length-append c.loop-i.yielded ((c.in-Some.i, c.in-Some.line) ∷ []), z, w) (gates_to_on c.loop-i.invariant.entries l.is l.more put);
      lines = rw (length-append c.loop-i.yielded ((c.in-Some.i, c.in-Some.line) ∷ []), z) (sym l.rest);
    }

pub returns : goal.returns
returns c =
    let ls = lines_in (drop c.args.start c.args.s.now) in
    let all : length c.loop-i.yielded ≡ length ls =
    numbered_line_end (drop c.args.start c.args.s.now) c.loop-i.yielded c.loop-i.i-iterator c.next.new.self c.loop-i.yielded_by c.in-None.is c.next.ensures.steps
    c.into_iter-i-iterator.ensures.into_iter_gives (ap (λ (t : Lines). t.0.now) c.enumerate-i-items.ensures.source ∙ to_end c.args.s.now c.args.start)
    c.enumerate-i-items.ensures.count in
    gates_to_none c.loop-i.invariant.entries (sym c.loop-i.invariant.lines ∙ drop_of_length-le ls {i = length c.loop-i.yielded} (omega arith))
