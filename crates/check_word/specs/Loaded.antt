-- What the checks of words ask of a stage and a reference.
use Rattle.std.specs.Prelude.{ℕ, ◌≡◌, List}
use Rattle.netlist.specs.declared.Counts.{Counts}
use Rattle.circuit.specs.Stage.{StageLoaded}
use Rattle.circuit.specs.Order.{InOrder}
use Rattle.circuit.specs.Reference.{ReferenceLoaded}

-- both are loaded, the stage's gates are in order, and there are as many inputs and as many outputs in one as in the other
pub record BothLoaded (c : Counts) (code : List ℕ) (sizes : Counts) (reference : List ℕ) : Type 0 where
  pub stage : StageLoaded c code
  pub ordered : InOrder c code
  pub answers : ReferenceLoaded sizes reference
  pub inputs : c.inputs ≡ sizes.inputs
  pub outputs : c.outputs ≡ sizes.outputs
