-- `text_read::put_outputs` meets its contract. The loop's invariant: the names so far are put. Assumes nothing.
use native.Mathlib.Omega.{arith}
use mathlib.Core.List.{[], ◌∷◌}
use lib.ListN.{length, length-append}
use Rattle.std.proofs.Common.{rules, tests, of_calls}
use Rattle.text_spec.specs.Characters.{comma}
use Rattle.text_spec.specs.Lines.{split}
use Rattle.text_scan.proofs.Turns.{Next, taken_next, taken_end}
use Rattle.text_names.specs.Tailed.{drivers_of}
use Rattle.text_read.specs.Parts.{outputs_put}
use Rattle.text_read.proofs.Making.{outputs_start, outputs_room, outputs_end, outputs_on}
use Rattle.text_read.proofs.put_outputs.Goals as goal
use Rattle.text_read.proofs.put_outputs.Goals.{In-Some}

here : (c : In-Some) → Next (outputs_put (split comma c.args.line.now)) (length c.loop-name.yielded) c.in-Some.name.now
here c =
    taken_next comma c.args.line.now 1145 c.loop-name.yielded _ _ c.loop-name.yielded_by c.in-Some.is c.next.ensures.steps
    c.into_iter-name-iterator.ensures.into_iter_gives c.take-name-items.ensures.source c.take-name-items.ensures.count c.split.ensures.rest c.split.ensures.done
    c.split.ensures.closure (λ x b q k. search (rules, tests))

pub loop-name-init : goal.loop-name-init
loop-name-init c = record {
  can = search of_calls;
  finite = search of_calls;
  names = outputs_start (drivers_of c.args.s.now) (split comma c.args.line.now) c.args.work.now c.args.at c.requires.2;
}

pub table_place-rail0-requires : goal.table_place-rail0-requires
table_place-rail0-requires c = c.requires.0

pub overflow_cast-rail0 : goal.overflow_cast-rail0
overflow_cast-rail0 c = omega (arith, c.table_place-rail0.ensures.1, c.requires.1)

pub table_place-rail1-requires : goal.table_place-rail1-requires
table_place-rail1-requires c = c.requires.0

pub overflow_cast-rail1 : goal.overflow_cast-rail1
overflow_cast-rail1 c = omega (arith, c.table_place-rail1.ensures.1, c.requires.1)

pub put_stage_output-requires : goal.put_stage_output-requires
put_stage_output-requires c =
    let t = here (goal.at.put_stage_output-requires c).In-Some in outputs_room c.loop-name.invariant.names t

pub overflow_add-put : goal.overflow_add-put
overflow_add-put c =
    let t = here (goal.at.overflow_add-put c).In-Some in omega (arith, outputs_room c.loop-name.invariant.names t)

pub loop-name-preserved : goal.loop-name-preserved
loop-name-preserved c =
    let t = here (goal.at.loop-name-preserved c).In-Some in
    let goes = c.next.ensures.goes in
    record {
      can = rw c.in-Some.is at goes.keeps;
      finite = (rw c.in-Some.is at (goes.on c.loop-name.invariant.finite)).1;
      names = rw (length-append c.loop-name.yielded (c.in-Some.name ∷ []))
          (outputs_on c.loop-name.invariant.names t c.table_place-rail0.ensures.0 c.table_place-rail1.ensures.0 c.put_stage_output.ensures);
    }

pub returns : goal.returns
returns c =
    outputs_end c.loop-name.invariant.names
    (taken_end comma c.args.line.now 1145 c.loop-name.yielded _ _ c.loop-name.yielded_by c.in-None.is c.next.ensures.steps
    c.into_iter-name-iterator.ensures.into_iter_gives c.take-name-items.ensures.source c.take-name-items.ensures.count c.split.ensures.rest c.split.ensures.done
    c.split.ensures.closure (λ x b q k. search (rules, tests)))
