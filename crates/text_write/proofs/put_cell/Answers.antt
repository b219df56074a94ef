-- `text_write::put_cell` meets its contract. Assumes nothing.
use native.Mathlib.Omega.{arith}
use mathlib.Core.Path.{ap}
use lib.ListN.{length}
use Rattle.write_command.proofs.Putting.{put_same}
use Rattle.text_write.proofs.Names.{name_few, name_part, name_long}
use Rattle.text_write.proofs.put_cell.Goals as goal

pub overflow_cast-to : goal.overflow_cast-to
overflow_cast-to c =
    let t = c.args.names.now in
    let low = c.requires.1 in
    let high = c.requires.2 in
    omega (arith, name_few t c.requires.0 c.args.cell low high)

pub overflow_add-to : goal.overflow_add-to
overflow_add-to c =
    let t = c.args.names.now in
    let low = c.requires.1 in
    let high = c.requires.2 in
    omega (arith, name_few t c.requires.0 c.args.cell low high)

pub slice_bounds-put_bytes-end : goal.slice_bounds-put_bytes-end
slice_bounds-put_bytes-end c =
    let t = c.args.names.now in
    let low = c.requires.1 in
    let high = c.requires.2 in
    omega (arith, name_few t c.requires.0 c.args.cell low high, c.requires.0.long)

pub put_bytes-requires : goal.put_bytes-requires
put_bytes-requires c =
    let t = c.args.names.now in
    let low = c.requires.1 in
    let high = c.requires.2 in
    omega (arith, ap length (name_part t c.requires.0 c.args.cell low high), c.requires.3)

pub overflow_add-result : goal.overflow_add-result
overflow_add-result c =
    let t = c.args.names.now in
    let low = c.requires.1 in
    let high = c.requires.2 in
    omega (arith, name_long t c.requires.0 c.args.cell low high, c.requires.3)

pub returns : goal.returns
returns c =
    let put-bytes = c.put_bytes in
    let t = c.args.names.now in
    let low = c.requires.1 in
    let high = c.requires.2 in
    record {
      put = put_same (name_part t c.requires.0 c.args.cell low high) put-bytes.ensures;
      end = omega
          (arith, name_long t c.requires.0 c.args.cell low high);
    }
