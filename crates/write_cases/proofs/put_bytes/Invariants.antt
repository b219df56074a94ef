-- `write_cases::put_bytes` meets its contract. The loop's invariant: the bytes before this one are put. Assumes nothing.
use Prim.Native.Nat.{◌*◌}
use mathlib.Core.List.{[]}
use lib.ListN.{take}
use Rattle.print_spec.specs.Cases.{numbers_then}
use Rattle.write_lines.specs.Within.{PutWithin}
use Rattle.write_cases.proofs.put_bytes.Given as goal

abbrev pub invariant-loop-k : goal.invariant-loop-k
invariant-loop-k l = PutWithin (4 * l.k) l.initial.line l.start (numbers_then (take l.k l.bytes) []) l.line l.at
