-- `read_file::names` meets its contract, by role. Assumes nothing.
use borrow.Author.Tests.{eq-eqb, ne_eqb}
use Rattle.netlist.specs.Reading.{names}
use Rattle.read_file.proofs.names.Goals as goal

pub returns-then-v-eq65534 : goal.returns-then-v-eq65534
unfolding names
returns-then-v-eq65534 c = rw (c.in-Request.is, eq-eqb _ _ c.if-v-eq65534.true)

pub returns-in-AnyNet : goal.returns-in-AnyNet
unfolding names
returns-in-AnyNet c = rw c.in-AnyNet.is

pub returns-in-EarlierSignal : goal.returns-in-EarlierSignal
unfolding names
returns-in-EarlierSignal c = rw c.in-EarlierSignal.is

pub returns-in-AnySignal : goal.returns-in-AnySignal
unfolding names
returns-in-AnySignal c = rw c.in-AnySignal.is

pub returns-in-Number : goal.returns-in-Number
unfolding names
returns-in-Number c = rw c.in-Number.is

pub returns-in-Data : goal.returns-in-Data
unfolding names
returns-in-Data c = rw c.in-Data.is c.carries_data.ensures

pub returns-in-Pin : goal.returns-in-Pin
unfolding names
returns-in-Pin c = rw c.in-Pin.is c.is_net.ensures

pub returns-else-v-eq65534 : goal.returns-else-v-eq65534
unfolding names
returns-else-v-eq65534 c = rw (c.in-Request.is, ne_eqb _ _ c.if-v-eq65534.false) c.is_net-in-Request.ensures
