-- `text_drive::rails_again` meets its contract. The loop's invariant: no rail of the names so far is driven before. Assumes nothing.
use Prim.Native.Nat.{ℕ, ◌+◌, ◌-◌}
use native.Mathlib.Omega.{arith}
use mathlib.Core.Path.{◌≡◌, refl, sym, ap, ◌∙◌}
use mathlib.Core.List.{List, [], ◌∷◌, ◌++◌}
use lib.ListN.{length, take, drop, length-append}
use Rattle.std.proofs.Common.{rules, tests, of_calls, inl}
use Rattle.text_spec.specs.Characters.{newline, comma}
use Rattle.text_spec.specs.Lines.{split}
use Rattle.text_scan.specs.Pieces.{before}
use Rattle.text_scan.proofs.Turns.{Next, numbered_next, numbered_end}
use Rattle.text_names.specs.Tailed.{rails_in, nets_in}
use Rattle.text_names.proofs.Ends.{drivers_parts}
use Rattle.text_drive.proofs.Again.{once_start, once_first, once_second, once_end, once_on}
use Rattle.text_drive.proofs.rails_again.Goals as goal
use Rattle.text_drive.proofs.rails_again.Goals.{In-Some}

here : (c : In-Some) → (c.in-Some.i ≡ length c.loop-i.yielded) × Next (split comma c.args.line.now) (length c.loop-i.yielded) c.in-Some.name.now
here c =
    numbered_next comma c.args.line.now c.loop-i.yielded _ _ c.loop-i.yielded_by c.in-Some.is c.next.ensures.steps c.into_iter-i-iterator.ensures.into_iter_gives
    c.enumerate-i-items.ensures.source c.enumerate-i-items.ensures.count c.split.ensures.rest c.split.ensures.done c.split.ensures.closure
    (λ x b q k. search (rules, tests))

pub loop-i-init : goal.loop-i-init
loop-i-init c =
    let s = c.args.s.now in
    record {
      can = (
        search of_calls,
        tt,
        inl (rw (
          c.into_iter-i-iterator.ensures.into_iter_gives,
          c.enumerate-i-items.ensures.source,
          c.enumerate-i-items.ensures.count,
          c.split.ensures.done,
          c.split.ensures.rest,
        ) (omega arith)),
      );
      finite = search of_calls;
      before = once_start (drivers_parts s c.requires.0 (before newline s)
          (before newline (take (length s - (before newline s + 1)) (drop (before newline s + 1) s))) refl refl
          ∙ ap (λ (l : List ℕ). rails_in l ++ (nets_in
          (drop (before newline s + 1 + before newline (take (length s - (before newline s + 1)) (drop (before newline s + 1) s)) + 1) s)))
          (sym c.requires.2));
    }

pub place-requires : goal.place-requires
place-requires c = (c.requires.0, c.requires.1)

pub place-requires-in-loop-i : goal.place-requires-in-loop-i
place-requires-in-loop-i c = (c.requires.0, c.requires.1)

pub returns-then-place-i : goal.returns-then-place-i
returns-then-place-i c =
    let t = here (goal.at.returns-then-place-i c).In-Some in
    once_first c.loop-i.invariant.before t.1 (omega (arith, t.0, c.if-place-i.true, c.place.ensures))

pub returns-then-place-i-2 : goal.returns-then-place-i-2
returns-then-place-i-2 c =
    let t = here (goal.at.returns-then-place-i-2 c).In-Some in
    once_second c.loop-i.invariant.before t.1 (omega (arith, t.0, c.if-place-i.false, c.place.ensures))
    (omega (arith, t.0, c.if-place-i-2.true, c.place-in-loop-i.ensures))

pub loop-i-preserved : goal.loop-i-preserved
loop-i-preserved c =
    let t = here (goal.at.loop-i-preserved c).In-Some in
    let goes = c.next.ensures.goes in
    record {
      can = rw c.in-Some.is at goes.keeps;
      finite = (rw c.in-Some.is at (goes.on c.loop-i.invariant.finite)).1;
      before = rw (length-append c.loop-i.yielded ((c.in-Some.i, c.in-Some.name) ∷ []))
          (once_on c.loop-i.invariant.before t.1 (omega (arith, t.0, c.if-place-i.false, c.place.ensures)) (omega (arith, t.0, c.if-place-i-2.false, c.place-in-loop-i.ensures)));
    }

pub returns : goal.returns
returns c =
    once_end c.loop-i.invariant.before
    (numbered_end comma c.args.line.now c.loop-i.yielded _ _ c.loop-i.yielded_by c.in-None.is c.next.ensures.steps c.into_iter-i-iterator.ensures.into_iter_gives
    c.enumerate-i-items.ensures.source c.enumerate-i-items.ensures.count c.split.ensures.rest c.split.ensures.done c.split.ensures.closure
    (λ x b q k. search (rules, tests)))
