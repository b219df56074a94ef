-- `read_file::read_file` meets its contract. The loops' invariant, `Walking` and `Passing`: the reading goes on from the position with what stands
-- in the lent slice, and the search for 9 too as far as the top tells. Assumes nothing.
use Prim.Native.Nat.{ℕ, ◌+◌, ◌-◌}
use native.Mathlib.Omega.{arith}
use mathlib.Core.Path.{◌≡◌, refl, sym, ap, ◌∙◌}
use mathlib.Core.List.{map}
use lib.ListN.{take, drop}
use Rattle.netlist.specs.Read.{outcome_of}
use Rattle.read_command.proofs.Position.{next_past}
use Rattle.read_file.specs.Files.{part_noted, first_part}
use Rattle.read_file.proofs.WholeFile.{walk_starts, read_as, goes_on, standing_counts, notes_room, sums_fit, walk_stops, walk_further, walk_room, walk_on, walk_ends}
use Rattle.read_file.proofs.WholeFile.{walk_filled, walk_placed, refused_placed, walk_stands, walk_passes, walk_has, walk_settled, walk_long, room_long, word_room, word_on, word_inputs, word_passes}
use Rattle.read_file.proofs.Passing.{passing_starts}
use Rattle.read_file.proofs.read_file.Goals as goal

pub overflow_add-first_part : goal.overflow_add-first_part
overflow_add-first_part c = omega (arith, c.requires.space, c.well_formed)

pub returns-in_default : goal.returns-in_default
unfolding outcome_of
returns-in_default c =
    let told = c.in_default.is in
    let e = walk_stops c.requires c.loop-at.invariant.0 c.take_next-next.ensures _ _ told in
    record { answered = c.refusal.ensures _ _ told ∙ sym (ap outcome_of e); placed = refused_placed _ _ _ _ _ e }

pub loop-at-init : goal.loop-at-init
loop-at-init c = (walk_starts _ _ _ _, passing_starts _ _)

-- the part of the lent slice that holds the notes
pub overflow_add-end : goal.overflow_add-end
overflow_add-end c =
    omega (arith, notes_room c.requires c.loop-at.invariant.0, c.loop-at.invariant.0.long_same, c.well_formed)

pub overflow_add-end-in-End : goal.overflow_add-end-in-End
overflow_add-end-in-End c =
    omega (arith, notes_room c.requires c.loop-at.invariant.0, c.loop-at.invariant.0.long_same, c.well_formed)

pub offset_bounds-places-first_part : goal.offset_bounds-places-first_part
offset_bounds-places-first_part c =
    omega (arith, notes_room c.requires c.loop-at.invariant.0, c.loop-at.invariant.0.long_same, c.well_formed)

pub slice_bounds-finish-end : goal.slice_bounds-finish-end
slice_bounds-finish-end c =
    omega (arith, notes_room c.requires c.loop-at.invariant.0)

pub finish-requires : goal.finish-requires
finish-requires c =
    let room = c.requires in
    let read = read_as c.in-Command.is c.in-End.is in
    let is = c.take_next-next.ensures in
    record {
      countable = (sums_fit room c.loop-at.invariant.0, c.loop-at-test.true, walk_filled room c.loop-at.invariant.0 is read);
      settled = λ last. walk_settled room c.loop-at.invariant.0 is read c.loop-at.invariant.1 last;
    }

pub returns-in-End : goal.returns-in-End
unfolding outcome_of
returns-in-End c =
    let room = c.requires in
    let is = c.take_next-next.ensures in
    let read = read_as c.in-Command.is c.in-End.is in
    let n = c.loop-at.counts.registers + c.loop-at.counts.elements in
    let first = first_part c.args.most in
    let kept : first + n - first ≡ n = omega arith in
    let e = walk_ends room c.loop-at.invariant.0 is read in record { answered = c.finish.ensures _ (standing_counts room c.loop-at.invariant.0) (ap (λ (k : ℕ). map part_noted (take k (drop first c.loop-at.places))) (sym kept)) ∙ sym (ap outcome_of e); placed = walk_placed room c.loop-at.invariant.0 is read }

pub top_after-top-requires : goal.top_after-top-requires
top_after-top-requires c =
    let room = c.requires in
    (walk_stands room c.loop-at.invariant.0 c.take_next-next.ensures c.in-Command.is, sums_fit room c.loop-at.invariant.0)

pub note-counts-requires : goal.note-counts-requires
note-counts-requires c =
    walk_room c.requires c.loop-at.invariant.0 c.take_next-next.ensures c.in-Command.is

-- the command was noted
pub loop-at-smaller : goal.loop-at-smaller
loop-at-smaller c =
    omega (arith, walk_further c.requires c.loop-at.invariant.0 c.take_next-next.ensures c.in-Command.is)

pub loop-at-preserved : goal.loop-at-preserved
loop-at-preserved c =
    let room = c.requires in
    let is = c.take_next-next.ensures in (
      walk_on room c.loop-at.invariant.0 is c.in-Command.is (goes_on c.in-Command.sort c.in_default-sort.not-End) c.note-counts.ensures,
      walk_passes room c.loop-at.invariant.0 is c.in-Command.is c.loop-at.invariant.1 c.top_after-top.ensures c.note-counts.ensures,
    )

-- care words that follow
pub loop-below-init : goal.loop-below-init
loop-below-init c =
    let room = c.requires in
    let is = c.take_next-next.ensures in
    let read = c.in-Command.is in
    let w = walk_on room c.loop-at.invariant.0 is read (goes_on c.in-Command.sort c.in_default-sort.not-End) c.note-counts.ensures in (
      walk_long (sym w.long_same) w,
      walk_passes room c.loop-at.invariant.0 is read c.loop-at.invariant.1 c.top_after-top.ensures c.note-counts.ensures,
      omega arith,
      omega (arith, walk_further room c.loop-at.invariant.0 is read),
      c.words_of-below.ensures,
    )

pub note-counts-requires-in-loop-below : goal.note-counts-requires-in-loop-below
note-counts-requires-in-loop-below c =
    let room = c.requires in
    let z = c.loop-below.invariant in
    let own = walk_has room c.loop-at.invariant.0 c.take_next-next.ensures (read_as c.in-Command.is c.in-Care.is) in
    word_room (room_long (sym (c.note-counts.ensures.long ∙ c.loop-at.invariant.0.long_same)) room) z.0 own z.3 z.4 (c.word_at.ensures c.loop-below-test.true)

pub overflow_add-at : goal.overflow_add-at
overflow_add-at c =
    omega (arith, (c.word_at.ensures c.loop-below-test.true).room, c.well_formed)

pub loop-below-smaller : goal.loop-below-smaller
loop-below-smaller c =
    omega (arith, (c.word_at.ensures c.loop-below-test.true).room)

pub loop-below-preserved : goal.loop-below-preserved
loop-below-preserved c =
    let room = c.requires in
    let z = c.loop-below.invariant in
    let own = walk_has room c.loop-at.invariant.0 c.take_next-next.ensures (read_as c.in-Command.is c.in-Care.is) in
    let long = room_long (sym (c.note-counts.ensures.long ∙ c.loop-at.invariant.0.long_same)) room in
    let h = c.word_at.ensures c.loop-below-test.true in
    let more = c.note-counts-in-loop-below.ensures in
    let same = word_inputs long z.0 own z.3 z.4 h more in
    (word_on long z.0 own z.3 z.4 h more, word_passes long z.0 own z.3 z.4 h z.1 more, omega (arith, z.2), omega arith, rw same z.4)

pub loop-at-smaller-in-loop-below : goal.loop-at-smaller-in-loop-below
loop-at-smaller-in-loop-below c =
    omega (arith, walk_further c.requires c.loop-at.invariant.0 c.take_next-next.ensures c.in-Command.is, c.loop-below.invariant.2)

pub loop-at-preserved-in-loop-below : goal.loop-at-preserved-in-loop-below
loop-at-preserved-in-loop-below c =
    (walk_long (c.note-counts.ensures.long ∙ c.loop-at.invariant.0.long_same) c.loop-below.invariant.0, c.loop-below.invariant.1)

pub returns : goal.returns
unfolding outcome_of
returns c =
    let e = walk_stops c.requires c.loop-at.invariant.0 (sym (next_past _ _ _ _ _ c.loop-at-test.false)) _ _ refl in
    record { answered = sym (ap outcome_of e); placed = refused_placed _ _ _ _ _ e }
