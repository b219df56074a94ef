-- `circuit_values::signal_values` meets its contract. The loop's invariant: the values of the first k gates are written. Assumes nothing.
use Rattle.circuit.proofs.Values.{ValuesTo}
use Rattle.circuit_values.proofs.signal_values.Given as goal

abbrev pub invariant-loop-k : goal.invariant-loop-k
invariant-loop-k l = ValuesTo l.sizes l.reference l.initial.values l.values l.k
