-- `read_file::carries_data` meets its contract. Assumes nothing.
use mathlib.Core.Path.{sym, ◌∙◌}
use Rattle.read_file.proofs.Carrying.{data_before, data_after}
use Rattle.read_file.proofs.carries_data.Goals as goal

pub returns-in-Data : goal.returns-in-Data
returns-in-Data c = data_after _ _ c.args.notes.now _ c.if-v-first.false (sym c.part_net.ensures ∙ c.in-Data.is)

pub returns-in-Completion : goal.returns-in-Completion
returns-in-Completion c = data_after _ _ c.args.notes.now _ c.if-v-first.false (sym c.part_net.ensures ∙ c.in-Completion.is)

pub returns-in-Nothing : goal.returns-in-Nothing
returns-in-Nothing c = data_after _ _ c.args.notes.now _ c.if-v-first.false (sym c.part_net.ensures ∙ c.in-Nothing.is)

pub returns-then-v-first : goal.returns-then-v-first
returns-then-v-first c = data_before _ _ c.args.notes.now _ c.if-v-first.true
