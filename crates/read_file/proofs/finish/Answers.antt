-- `read_file::finish` meets its contract: 8, 7, then 9. Assumes nothing.
use Prim.Native.Nat.{◌+◌}
use native.Mathlib.Omega.{arith}
use mathlib.Core.Path.{◌≡◌, sym, ap, ◌∙◌}
use lib.ListN.{length}
use Rattle.std.specs.Prelude.{Ok}
use Rattle.netlist.specs.Read.{outcome_of}
use Rattle.read_file.proofs.WholeFile.{finish_8, finish_7, finish_9, finish_readable}
use Rattle.read_file.proofs.finish.Goals as goal

pub returns-then-counts-eq0 : goal.returns-then-counts-eq0
unfolding outcome_of
returns-then-counts-eq0 c = λ p e kept. sym (ap outcome_of (finish_8 _ _ _ p _ e c.args.notes.now kept c.if-counts-eq0.true))

pub returns-then-after-s : goal.returns-then-after-s
unfolding outcome_of
returns-then-after-s c = λ p e kept. sym (ap outcome_of (finish_7 _ _ _ p _ e c.args.notes.now kept c.if-counts-eq0.false c.if-after-s.true))

pub first_nameless-requires : goal.first_nameless-requires
first_nameless-requires c =
    let last : c.args.at + 1 ≡ length c.args.s.now = omega (arith, c.requires.countable, c.if-after-s.false) in
    (c.requires.countable.0, rw last at c.requires.countable.2, c.requires.settled c.if-after-s.false)

pub returns-in-Some : goal.returns-in-Some
unfolding outcome_of
returns-in-Some c =
    λ p e kept. sym (ap outcome_of (finish_9 _ _ _ p _ e c.args.notes.now kept c.if-counts-eq0.false c.if-after-s.false _
    c.first_nameless.ensures _ c.in-Some.is))

pub returns : goal.returns
unfolding outcome_of
returns c =
    λ p e kept. sym (ap outcome_of (finish_readable _ _ _ p _ e c.args.notes.now kept c.if-counts-eq0.false c.if-after-s.false _
    c.first_nameless.ensures c.in_default.is) ∙ ap Ok e)
