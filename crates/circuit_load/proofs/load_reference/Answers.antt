-- `circuit_load::load_reference` meets its contract. The loop's invariant: the numbers before i are written. Assumes nothing.
use native.Mathlib.Omega.{arith}
use Rattle.circuit_load.proofs.References.{reference_same, reference_loaded}
use Rattle.circuit_load.proofs.load_reference.Goals as goal

pub returns : goal.returns
returns c =
    let l = c.loop-i in record {
      same = reference_same c.args.most c.args.s.now c.args.places.now c.args.sizes l.reference c.requires.0 (omega arith)
          (λ q h. l.invariant.1 q (omega arith));
      loaded = reference_loaded c.args.most c.args.s.now c.args.places.now c.args.sizes l.reference c.requires.0 (omega arith)
          (λ q h. l.invariant.1 q (omega arith)) c.requires.1;
    }
