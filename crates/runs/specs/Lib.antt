-- Promises of the papers rest on Row, Net, Settled, Pair, Complete, Promise, Exchange, Witness and FallWitness. Acyclic is what the theory asks of
-- a net; Theory, Checks and Tight carry the argument; Acknowledged is for the lanes, Series for the join of two stages.
pub mod Row
pub mod Net
pub mod Theory
pub mod Settled
pub mod Pair
pub mod Acyclic
pub mod Checks
pub mod Complete
pub mod Promise
pub mod Witness
pub mod FallWitness
pub mod Tight
pub mod Acknowledged
pub mod Exchange
pub mod Series
