-- `text_write::put_pin` meets its contract. Assumes nothing.
use Rattle.text_write.proofs.put_pin.Goals as goal

pub put_net-requires : goal.put_net-requires
put_net-requires c = let is = c.pin_of-net.ensures in (c.requires.0, is.there, rw is.is c.requires.3)

pub returns : goal.returns
returns c = rw c.pin_of-net.ensures.is at c.put_net.ensures
