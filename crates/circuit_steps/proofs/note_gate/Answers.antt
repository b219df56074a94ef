-- `circuit_steps::note_gate` meets its contract. The loop's invariant: the net is noted for the first i pins. Assumes nothing.
use native.Mathlib.Omega.{arith}
use mathlib.Core.Path.{◌≡◌, refl, sym, ap, ◌∙◌, subst}
use lib.ListN.{length}
use Rattle.circuit_steps.specs.Fed.{FedFrom}
use Rattle.circuit_steps.proofs.Fed.{noted, noted_long, noted_more, pin_there, all_noted}
use Rattle.circuit_steps.proofs.note_gate.Goals as goal

pub loop-i-init : goal.loop-i-init
loop-i-init c = refl

pub note_pin-requires : goal.note_pin-requires
note_pin-requires c =
    let l = c.loop-i in
    rw (l.invariant, c.pin_of.ensures.is)
    (pin_there c.args.counts c.args.code.now c.requires.0 c.args.k c.requires.1 c.args.fed.now c.requires.2 _ refl l.i (omega arith))

pub loop-i-preserved : goal.loop-i-preserved
loop-i-preserved c =
    let l = c.loop-i in
    noted_more c.args.code.now c.args.k _ c.args.fed.now l.i _ _ (rw (← c.pin_of.ensures.is) c.note_pin.ensures) l.invariant

pub shape_of-fed : goal.shape_of-fed
shape_of-fed c = let l = c.loop-i in ap length l.invariant ∙ noted_long _ _ _ _ l.i

pub returns : goal.returns
returns c =
    let l = c.loop-i in
    let four : l.i ≡ 4 = omega arith in
    subst (FedFrom c.args.counts c.args.code.now c.args.k) (sym (l.invariant ∙ ap (noted _ _ _ _) four))
    (all_noted c.args.counts c.args.code.now c.requires.0 c.args.k c.requires.1 c.args.fed.now c.requires.2 _ refl)
