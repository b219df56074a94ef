-- `read_file::nameless_at` meets its contract. The loop's invariant: the operands before `j` name what they are asked for, so the search goes
-- on from `j`; those that a command uses are among those that it has. Assumes nothing.
use native.Mathlib.Numerals.{unary_clauses}
use native.Mathlib.Omega.{arith}
use mathlib.Core.Path.{sym, ◌∙◌}
use Rattle.netlist.specs.Reading.{nameless_at}
use Rattle.read_file.proofs.Search.{used_in, nameless_found, nameless_passed, nameless_none}
use Rattle.read_file.proofs.nameless_at.Goals as goal

pub loop-j-init : goal.loop-j-init
loop-j-init c = (
  omega (arith, c.used_operands-m.ensures, used_in _ c.args.s.now c.args.at _ c.requires.form_value.0, c.requires.form_value.1),
  simp unary_clauses,
)

pub loop-j-preserved : goal.loop-j-preserved
loop-j-preserved c =
    let inv = c.loop-j.invariant in (
      inv.0,
      inv.1 ∙ nameless_passed _ _ _ _ _ c.loop-j-test.true _ c.operand-v.ensures
          (rw (← c.role_of-role.ensures) (sym c.names.ensures ∙ c.if-not-names.false)),
    )

pub returns-then-not-names : goal.returns-then-not-names
unfolding nameless_at
returns-then-not-names c =
    rw (← c.used_operands-m.ensures)
    (sym (c.loop-j.invariant.1 ∙ nameless_found _ _ _ _ _ c.loop-j-test.true _ c.operand-v.ensures
    (rw (← c.role_of-role.ensures) (sym c.names.ensures ∙ c.if-not-names.true))))

pub returns : goal.returns
unfolding nameless_at
returns c = rw (← c.used_operands-m.ensures) (sym (c.loop-j.invariant.1 ∙ nameless_none _ _ _ _ _ (omega arith)))
