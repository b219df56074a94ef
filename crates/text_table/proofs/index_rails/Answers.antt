-- `text_table::index_rails` meets its contract. The loop's invariant: the rails of the names so far are entries, and `at` is where the next begins.
-- Assumes nothing.
use Prim.Native.Nat.{◌+◌, ◌*◌}
use native.Mathlib.Omega.{arith}
use mathlib.Core.Path.{◌≡◌, refl, sym, ap, ◌∙◌}
use mathlib.Core.List.{[], ◌∷◌}
use lib.ListN.{length, drop, length-append, length-drop}
use Rattle.std.proofs.Common.{rules, tests, of_calls, inl}
use Rattle.text_spec.specs.Characters.{comma}
use Rattle.text_spec.specs.Lines.{split}
use Rattle.text_scan.proofs.Turns.{Next, numbered_next, numbered_end}
use Rattle.text_table.specs.Table.{hash_of}
use Rattle.text_table.proofs.Tables.{PieceAt, piece_at, RailsTo, rails_to_start, rails_room, rails_room_2, rails_to_end, rails_to_on, split_some}
use Rattle.text_table.proofs.index_rails.Goals as goal
use Rattle.text_table.proofs.index_rails.Goals.{In-Some}

here : (c : In-Some) → (c.in-Some.i ≡ length c.loop-i.yielded) × Next (split comma c.args.line.now) (length c.loop-i.yielded) c.in-Some.name.now
here c =
    numbered_next comma c.args.line.now c.loop-i.yielded _ _ c.loop-i.yielded_by c.in-Some.is c.next.ensures.steps c.into_iter-i-iterator.ensures.into_iter_gives
    c.enumerate-i-items.ensures.source c.enumerate-i-items.ensures.count c.split.ensures.rest c.split.ensures.done c.split.ensures.closure
    (λ x b q k. search (rules, tests))

soFar : (c : In-Some) → RailsTo c.args.line.now c.args.table.now c.loop-i.table c.loop-i.at (2 * length c.loop-i.yielded)
soFar c = (c.loop-i.invariant.more (here c).1.inside).0

there : (c : In-Some) → PieceAt c.args.line.now c.loop-i.at c.in-Some.name.now (drop (length c.loop-i.yielded + 1) (split comma c.args.line.now))
there c =
    piece_at c.args.line.now c.loop-i.at c.in-Some.name.now (drop (length c.loop-i.yielded + 1) (split comma c.args.line.now)) (soFar c).inside
    (sym (c.loop-i.invariant.more (here c).1.inside).1 ∙ (here c).1.here)

pub loop-i-init : goal.loop-i-init
loop-i-init c = record {
  can = (
    search of_calls,
    tt,
    inl (rw (
      c.into_iter-i-iterator.ensures.into_iter_gives,
      c.enumerate-i-items.ensures.source,
      c.enumerate-i-items.ensures.count,
      c.split.ensures.done,
      c.split.ensures.rest,
    ) (omega arith)),
  );
  finite = search of_calls;
  more = λ k. (rails_to_start c.requires, refl);
  all = λ k. absurd (omega (arith, k, split_some comma c.args.line.now));
}

pub overflow_add-end : goal.overflow_add-end
overflow_add-end c = let l = there (goal.at.overflow_add-end c).In-Some in omega (arith, l.fits)

pub put_entry-requires : goal.put_entry-requires
put_entry-requires c =
    let t = here (goal.at.put_entry-requires c).In-Some in
    let l = there (goal.at.put_entry-requires c).In-Some in
    omega (arith, t.0, rails_room (soFar (goal.at.put_entry-requires c).In-Some) l.is l.fits)

pub put_entry-requires-in-loop-i : goal.put_entry-requires-in-loop-i
put_entry-requires-in-loop-i c =
    let t = here (goal.at.put_entry-requires-in-loop-i c).In-Some in
    let l = there (goal.at.put_entry-requires-in-loop-i c).In-Some in
    omega (
      arith,
      t.0,
      rails_room_2 (soFar (goal.at.put_entry-requires-in-loop-i c).In-Some) l.is l.fits (c.hash_on-h.ensures.0 ∙ ap hash_of l.cut) c.hash_tail.ensures.0
          c.hash_tail-in-loop-i.ensures.0 (rw t.0 at c.put_entry.ensures),
    )

pub loop-i-preserved : goal.loop-i-preserved
loop-i-preserved c =
    let t = here (goal.at.loop-i-preserved c).In-Some in
    let l = there (goal.at.loop-i-preserved c).In-Some in
    let h = soFar (goal.at.loop-i-preserved c).In-Some in
    let goes = c.next.ensures.goes in
    let j = length c.loop-i.yielded in let ps = split comma c.args.line.now in
    let z : 2 * (j + 1) ≡ 2 * j + 2 = omega arith in
    let hash = c.hash_on-h.ensures.0 ∙ ap hash_of l.cut in
    let put₀ = rw t.0 at c.put_entry.ensures in
    let put₁ = rw t.0 at c.put_entry-in-loop-i.ensures in
    let hash₀ = c.hash_tail.ensures.0 in let hash₁ = c.hash_tail-in-loop-i.ensures.0 in
    record {
      can = rw c.in-Some.is at goes.keeps;
      finite = (rw c.in-Some.is at (goes.on c.loop-i.invariant.finite)).1;
      more = rw (length-append c.loop-i.yielded ((c.in-Some.i, c.in-Some.name) ∷ [])) (λ k.
          let m = l.more (omega (arith, k, length-drop (j + 1) ps)) in
          (rw z (rails_to_on h l.is l.fits hash hash₀ hash₁ put₀ put₁ m.0), m.1));
      all = rw (length-append c.loop-i.yielded ((c.in-Some.i, c.in-Some.name) ∷ [])) (λ k.
          rails_to_end h l.is l.fits hash hash₀ hash₁ put₀ put₁ (l.last (omega (arith, k, length-drop (j + 1) ps))));
    }

pub returns : goal.returns
returns c =
    c.loop-i.invariant.all
    (numbered_end comma c.args.line.now c.loop-i.yielded _ _ c.loop-i.yielded_by c.in-None.is c.next.ensures.steps c.into_iter-i-iterator.ensures.into_iter_gives
    c.enumerate-i-items.ensures.source c.enumerate-i-items.ensures.count c.split.ensures.rest c.split.ensures.done c.split.ensures.closure
    (λ x b q k. search (rules, tests)))

pub overflow_add-at : goal.overflow_add-at
overflow_add-at c = let l = there (goal.at.overflow_add-at c).In-Some in omega (arith, l.fits)
