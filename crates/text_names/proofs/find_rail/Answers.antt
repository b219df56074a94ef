-- `text_names::find_rail` meets its contract. The loop's invariant: no rail of the names so far is the name. Assumes nothing.
use native.Mathlib.Omega.{arith}
use mathlib.Core.Path.{◌≡◌, sym, ◌∙◌}
use mathlib.Core.List.{[], ◌∷◌}
use lib.ListN.{length, length-append}
use Rattle.std.proofs.Common.{rules, tests, of_calls}
use Rattle.text_spec.specs.Characters.{comma}
use Rattle.text_spec.specs.Lines.{split}
use Rattle.text_scan.proofs.Pieces.{split_few}
use Rattle.text_scan.proofs.Turns.{Next, piece_next, piece_end}
use Rattle.text_names.proofs.Places.{places_start, first_place, second_place, places_on, no_place}
use Rattle.text_names.proofs.find_rail.Goals as goal
use Rattle.text_names.proofs.find_rail.Goals.{In-Some}

here : (c : In-Some) → Next (split comma c.args.s.now) (length c.loop-name.yielded) c.in-Some.name.now
here c =
    piece_next comma c.args.s.now c.loop-name.yielded _ _ c.loop-name.yielded_by c.in-Some.is c.next.ensures.steps c.into_iter-name-iterator.ensures.into_iter_gives
    c.split-name-items.ensures.rest c.split-name-items.ensures.done c.split-name-items.ensures.closure (λ x b q k. search (rules, tests))

pub loop-name-init : goal.loop-name-init
loop-name-init c = record { can = search of_calls; finite = search of_calls; before = places_start }

pub returns-then-same_tailed : goal.returns-then-same_tailed
returns-then-same_tailed c =
    let t = here (goal.at.returns-then-same_tailed c).In-Some in
    let b = c.loop-name.invariant.before in
    (first_place b t (sym c.same_tailed.ensures ∙ c.if-same_tailed.true), omega (arith, b.twice, t.inside, split_few comma c.args.s.now))

pub returns-then-same_tailed-2 : goal.returns-then-same_tailed-2
returns-then-same_tailed-2 c =
    let t = here (goal.at.returns-then-same_tailed-2 c).In-Some in
    let b = c.loop-name.invariant.before in (
      second_place b t (sym c.same_tailed.ensures ∙ c.if-same_tailed.false) (sym c.same_tailed-in-loop-name.ensures ∙ c.if-same_tailed-2.true),
      omega (arith, b.twice, t.inside, split_few comma c.args.s.now),
    )

pub loop-name-preserved : goal.loop-name-preserved
loop-name-preserved c =
    let t = here (goal.at.loop-name-preserved c).In-Some in
    let goes = c.next.ensures.goes in
    record {
      can = rw c.in-Some.is at goes.keeps;
      finite = (rw c.in-Some.is at (goes.on c.loop-name.invariant.finite)).1;
      before = rw (length-append c.loop-name.yielded (c.in-Some.name ∷ []))
          (places_on c.loop-name.invariant.before t (sym c.same_tailed.ensures ∙ c.if-same_tailed.false) (sym c.same_tailed-in-loop-name.ensures ∙ c.if-same_tailed-2.false));
    }

pub returns : goal.returns
returns c =
    let b = c.loop-name.invariant.before in
    let n : length c.loop-name.yielded ≡ length (split comma c.args.s.now) =
    piece_end comma c.args.s.now c.loop-name.yielded _ _ c.loop-name.yielded_by c.in-None.is c.next.ensures.steps c.into_iter-name-iterator.ensures.into_iter_gives
    c.split-name-items.ensures.rest c.split-name-items.ensures.done c.split-name-items.ensures.closure (λ x b q k. search (rules, tests)) in
    (no_place b n, omega (arith, n, b.twice, split_few comma c.args.s.now))
