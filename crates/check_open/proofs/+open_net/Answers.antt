-- The proof of the cycle of calls {open_net}. The measure is the place of the net's C-element in the order, 0 for a net of another sort. The loop's invariant:
-- what stands behind the pins from j on was gathered, and the table is right. Assumes nothing.
use Prim.Native.Nat.{suc, ◌-◌}
use native.Mathlib.Omega.{arith}
use mathlib.Core.Path.{◌≡◌, refl, sym, ap, ◌∙◌}
use lib.ListN.{length-set}
use Rattle.circuit_place.specs.Placing.{place}
use Rattle.check_open.proofs.Opening.{told_none, own_told, after_gates, row_in, opened_told, known_told, pin_more, pin_falls, remembers}
use Rattle.check_open.proofs.+open_net.Goals as goal

pub returns-then-place_of-eq0 : goal.returns-then-place_of-eq0
returns-then-place_of-eq0 t c = record {
  told = own_told c.args.nets.now c.args.first c.args.net _ (sym c.place_of.ensures ∙ c.if-place_of-eq0.true) c.own.ensures;
  met_long = refl;
  table = c.requires;
}

pub overflow_sub-i : goal.overflow_sub-i
overflow_sub-i t c =
    let d : ¬ (place c.args.nets.now c.args.first c.args.net ≡ 0) = λ e. c.if-place_of-eq0.false (c.place_of.ensures ∙ e) in
    after_gates c.args.nets.now c.args.first c.args.met.now c.requires c.args.net d

pub bounds : goal.bounds
bounds t c =
    let d : ¬ (place c.args.nets.now c.args.first c.args.net ≡ 0) = λ e. c.if-place_of-eq0.false (c.place_of.ensures ∙ e) in
    row_in c.args.nets.now c.args.first c.args.met.now c.requires c.args.net d

pub returns-in-Some : goal.returns-in-Some
returns-in-Some t c =
    let d : ¬ (place c.args.nets.now c.args.first c.args.net ≡ 0) = λ e. c.if-place_of-eq0.false (c.place_of.ensures ∙ e) in
    record {
      told = known_told c.args.nets.now c.args.first c.args.met.now c.requires c.args.net d _ c.in-Some.is;
      met_long = refl;
      table = c.requires;
    }

pub loop-j-init : goal.loop-j-init
loop-j-init t c = (refl, c.requires, told_none c.args.nets.now c.args.first)

pub pin_at-requires : goal.pin_at-requires
pin_at-requires t c =
    let d : ¬ (place c.args.nets.now c.args.first c.args.net ≡ 0) = λ e. c.if-place_of-eq0.false (c.place_of.ensures ∙ e) in
    (omega (arith, row_in c.args.nets.now c.args.first c.args.met.now c.requires c.args.net d, c.requires.rows), omega arith)

pub open_net-pin-requires : goal.open_net-pin-requires
open_net-pin-requires t c =
    let d : ¬ (place c.args.nets.now c.args.first c.args.net ≡ 0) = λ e. c.if-place_of-eq0.false (c.place_of.ensures ∙ e) in
    let l = c.loop-j in
    (omega (arith, c.decreases, ap (place c.args.nets.now c.args.first) c.pin_at.ensures, pin_falls c.args.nets.now c.args.first c.args.met.now c.requires c.args.net d (l.j - 1) (omega (arith, c.loop-j-test.true))), l.invariant.1)

pub loop-j-preserved : goal.loop-j-preserved
loop-j-preserved t c =
    let d : ¬ (place c.args.nets.now c.args.first c.args.net ≡ 0) = λ e. c.if-place_of-eq0.false (c.place_of.ensures ∙ e) in
    let l = c.loop-j in
    let q = c.open_net-pin.ensures in
    let n : suc (l.j - 1) ≡ l.j = omega (arith, c.loop-j-test.true) in (
      q.met_long ∙ l.invariant.0,
      q.table,
      pin_more c.args.nets.now c.args.first c.args.met.now c.requires c.args.net d (l.j - 1) (omega (arith, c.loop-j-test.true)) _ _ _ c.joined-all.ensures (rw c.pin_at.ensures at q.told) (rw n l.invariant.2),
    )

pub bounds-met-i-2 : goal.bounds-met-i-2
bounds-met-i-2 t c =
    let d : ¬ (place c.args.nets.now c.args.first c.args.net ≡ 0) = λ e. c.if-place_of-eq0.false (c.place_of.ensures ∙ e) in
    omega (arith, c.loop-j.invariant.0, row_in c.args.nets.now c.args.first c.args.met.now c.requires c.args.net d)

pub returns : goal.returns
returns t c =
    let d : ¬ (place c.args.nets.now c.args.first c.args.net ≡ 0) = λ e. c.if-place_of-eq0.false (c.place_of.ensures ∙ e) in
    let l = c.loop-j in
    let n : l.j ≡ 0 = omega (arith, c.loop-j-test.false) in
    let told = opened_told c.args.nets.now c.args.first l.met l.invariant.1 c.args.net d l.all (rw n at l.invariant.2) in
    record {
      told = told;
      met_long = length-set l.met _ _ ∙ l.invariant.0;
      table = remembers c.args.nets.now c.args.first l.met l.invariant.1 c.args.net d l.all told;
    }
