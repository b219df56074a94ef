-- `lane_count::write_counters` meets its contract. The loop's invariant: of each 16 words of the block the counters of the first j are written.
-- Assumes nothing.
use native.Mathlib.Omega.{arith}
use Rattle.lane_count.proofs.Beside.{first_of, second-of, third_of, fourth_of}
use Rattle.lane_count.proofs.Words.{written_start, written_more}
use Rattle.lane_count.proofs.write_counters.Goals as goal

pub overflow_mul-first : goal.overflow_mul-first
overflow_mul-first c = omega (arith, c.requires.1)

pub loop-j-init : goal.loop-j-init
loop-j-init c = written_start _ _ _

pub counters-four-requires : goal.counters-four-requires
counters-four-requires c = (c.requires.0, omega arith)

pub loop-j-preserved : goal.loop-j-preserved
loop-j-preserved c =
    let l = c.loop-j in
    let is = c.counters-four.ensures in
    let few = c.requires.0 in
    written_more c.args.b c.args.digits.now c.args.high.now l.high l.j l.invariant (omega (arith, c.requires.1, l.invariant.same_long))
    (omega arith) _ _ _ _ (rw is (first_of l.j c.args.digits.now few)) (rw is (second-of l.j c.args.digits.now few))
    (rw is (third_of l.j c.args.digits.now few)) (rw is (fourth_of l.j c.args.digits.now few))

pub shape_of-high : goal.shape_of-high
shape_of-high c = c.loop-j.invariant.same_long

pub returns : goal.returns
returns c =
    let s = c.loop-j.invariant in
    record { long = s.same_long; written = λ j d. s.written j d (omega arith); before = s.before }
