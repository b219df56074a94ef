-- `text_table::table_place` meets its contract. Assumes nothing.
use Rattle.text_table.specs.Table.{tail_hash}
use Prim.Native.Nat.{ℕ}
use native.Mathlib.Omega.{arith}
use mathlib.Core.Path.{sym, ap, ◌∙◌}
use Rattle.text_names.specs.Tailed.{tailed}
use Rattle.text_table.proofs.Tables.{passed_start, passed_here, passed_on, passed_end, passed_less, hash_tailed}
use Rattle.text_table.proofs.table_place.Goals as goal

pub loop-k-init : goal.loop-k-init
loop-k-init c =
    passed_start (tailed c.args.a.now c.args.t)
    c.requires c.hash_tail-h.result (c.hash_tail-h.ensures.0
    ∙ ap (λ (g : ℕ). tail_hash g c.args.t) c.hash_on.ensures.0
    ∙ hash_tailed c.args.a.now c.args.t)

pub is_entry-requires : goal.is_entry-requires
is_entry-requires c = (
  c.requires,
  omega (arith, c.requires.long),
  c.hash_tail-h.ensures.0
      ∙ ap (λ (g : ℕ). tail_hash g c.args.t)
      c.hash_on.ensures.0
      ∙ hash_tailed c.args.a.now
      c.args.t,
)

pub returns-then-is_entry : goal.returns-then-is_entry
returns-then-is_entry c =
    let loop = c.loop-k in
    passed_here (tailed c.args.a.now c.args.t) c.requires loop.invariant (omega (arith, c.requires.long)) (sym c.if-is_entry.true ∙ c.is_entry.ensures)

pub loop-k-smaller : goal.loop-k-smaller
loop-k-smaller c =
    let loop = c.loop-k in
    let f = c.requires in omega (arith, f.long, passed_less (tailed c.args.a.now c.args.t) f loop.invariant (omega (arith, f.long)))

pub loop-k-preserved : goal.loop-k-preserved
loop-k-preserved c =
    let loop = c.loop-k in
    let is-entry = c.is_entry in
    passed_on (tailed c.args.a.now c.args.t) c.requires loop.invariant (omega (arith, c.requires.long)) (sym c.if-is_entry.false ∙ is-entry.ensures)

pub returns : goal.returns
returns c =
    passed_end (tailed c.args.a.now c.args.t) c.requires c.loop-k.invariant (omega (arith, c.requires.long))
