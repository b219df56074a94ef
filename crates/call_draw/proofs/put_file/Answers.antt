-- `call_draw::put_file` meets its contract. Its parts are put one after the other. Assumes nothing.
use Rattle.std.proofs.Common.{arith}
use Rattle.call_draw.proofs.Turns.{file_long, file_put}
use Rattle.call_draw.proofs.put_file.Goals as goal

pub put_end-requires : goal.put_end-requires
put_end-requires c =
    let o = c.put_outputs-end.ensures in
    let l = file_long c.args.seed c.args.inputs c.args.gates c.requires.0 c.requires.1 c.requires.2 _ c.put_gates.ensures.marks o.end in
    omega (arith, l.2, c.requires.3, c.put_inputs.ensures.long, c.put_gates.ensures.put.long, o.put.long)

pub returns : goal.returns
returns c =
    let o = c.put_outputs-end.ensures in record {
      count = file_long c.args.seed c.args.inputs c.args.gates c.requires.0 c.requires.1 c.requires.2 _ c.put_gates.ensures.marks o.end;
      put = file_put c.args.seed c.args.inputs c.args.gates c.requires.0 c.requires.1 c.requires.2 _ c.put_gates.ensures.marks
          c.put_inputs.ensures c.put_gates.ensures.put o.put c.put_end.ensures o.end;
    }
