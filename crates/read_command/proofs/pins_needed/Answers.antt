-- `read_command::pins_needed` meets its contract, by its arms. Assumes nothing.
use Rattle.netlist.specs.Commands.{pins_needed}
use Rattle.read_command.proofs.pins_needed.Goals as goal

pub returns-in-Hold : goal.returns-in-Hold
unfolding pins_needed
returns-in-Hold c = rw c.in-Hold.is

pub returns-in-Relaxed : goal.returns-in-Relaxed
unfolding pins_needed
returns-in-Relaxed c = rw c.in-Relaxed.is

pub returns-in-Unknown : goal.returns-in-Unknown
unfolding pins_needed
returns-in-Unknown c = rw c.in-Unknown.is
