-- `write_cases::put_bytes` meets its contract. The loop's invariant: the bytes before this one are put. Assumes nothing.
use native.Mathlib.Omega.{arith}
use Rattle.write_lines.proofs.Within.{within_none}
use Rattle.write_cases.proofs.Numbers.{byte_put, bytes_done}
use Rattle.write_cases.proofs.put_bytes.Goals as goal

pub loop-k-init : goal.loop-k-init
loop-k-init c = within_none _ _

pub loop-k-preserved : goal.loop-k-preserved
loop-k-preserved c =
    let loop = c.loop-k in
    byte_put c.args.bytes.now loop.k (omega arith) loop.invariant c.put_byte-at.ensures

pub returns : goal.returns
returns c =
    let loop = c.loop-k in
    bytes_done c.args.bytes.now loop.k (omega arith) (omega arith) loop.invariant
