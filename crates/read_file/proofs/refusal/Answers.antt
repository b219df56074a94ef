-- `read_file::refusal` meets its contract, by its arms. Assumes nothing.
use Rattle.netlist.proofs.Encoding.{clash}
use Rattle.read_file.proofs.refusal.Goals as goal

pub returns-in-Refused : goal.returns-in-Refused
returns-in-Refused c = λ number at e. let told = c.in-Refused.is in cc

pub returns-in-Command : goal.returns-in-Command
returns-in-Command c = λ number at e. absurd (clash (let told = c.in-Command.is in cc))
