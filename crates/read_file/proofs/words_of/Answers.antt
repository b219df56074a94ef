-- `read_file::words_of` meets its contract. Assumes nothing.
use lib.Pow.{pow_mono}
use Rattle.read_file.proofs.words_of.Goals as goal

pub returns-else-n-lt16 : goal.returns-else-n-lt16
returns-else-n-lt16 c = pow_mono {i = 16} {j = c.args.n} c.if-n-lt16.false
