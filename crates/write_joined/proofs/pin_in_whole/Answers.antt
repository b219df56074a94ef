-- `write_joined::pin_in_whole` meets its contract. Assumes nothing.
use native.Mathlib.Omega.{arith}
use mathlib.Core.Path.{sym}
use borrow.Author.Tests.{lt-ltb, le-ltb}
use Rattle.write_joined.proofs.pin_in_whole.Goals as goal

pub net_in_whole-requires : goal.net_in_whole-requires
net_in_whole-requires c = (c.requires.1.loaded, c.requires.1.outputs, omega (arith, c.pin_of.ensures.there, c.requires.1.fits))

pub returns-then-i-pin_count : goal.returns-then-i-pin_count
returns-then-i-pin_count c = rw (sym c.pin_count.ensures.is, lt-ltb _ _ c.if-i-pin_count.true, sym c.pin_of.ensures.is) c.net_in_whole.ensures

pub returns : goal.returns
returns c = rw (sym c.pin_count.ensures.is, le-ltb _ _ c.if-i-pin_count.false)
