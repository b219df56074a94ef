-- `read_file::is_net` meets its contract. Assumes nothing.
use mathlib.Core.Path.{sym, ◌∙◌}
use Rattle.read_file.proofs.Carrying.{net_after}
use Rattle.read_file.proofs.is_net.Goals as goal

pub returns-in-Data : goal.returns-in-Data
returns-in-Data c = net_after _ _ c.args.notes.now _ c.if-v-first.false (sym c.part_net.ensures ∙ c.in-Data.is)

pub returns-in-Completion : goal.returns-in-Completion
returns-in-Completion c = net_after _ _ c.args.notes.now _ c.if-v-first.false (sym c.part_net.ensures ∙ c.in-Completion.is)

pub returns-in-Nothing : goal.returns-in-Nothing
returns-in-Nothing c = net_after _ _ c.args.notes.now _ c.if-v-first.false (sym c.part_net.ensures ∙ c.in-Nothing.is)
