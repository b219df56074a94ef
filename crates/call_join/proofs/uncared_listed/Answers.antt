-- `call_join::uncared_listed` meets its contract: the start of the list is the names of the first part's words. Assumes nothing.
use Prim.Native.Nat.{ℕ, ◌^◌, ◌<◌}
use mathlib.Core.Path.{sym, ap, subst, ◌∙◌}
use mathlib.Core.List.{List}
use lib.ListN.{length, get_or}
use Rattle.verdict.specs.Checks.{sweep}
use Rattle.circuit.specs.Stage.{stage_in}
use Rattle.words.proofs.Listing.{listed_start, listed_in, listed_count}
use Rattle.call_join.specs.Steps.{uncared_under}
use Rattle.call_join.proofs.Masks.{names_below}
use Rattle.call_join.proofs.uncared_listed.Goals as goal

pub slice_bounds-list-end : goal.slice_bounds-list-end
slice_bounds-list-end c = listed_in c.list_names-count.ensures

pub slice_bounds-uncared_named-end : goal.slice_bounds-uncared_named-end
slice_bounds-uncared_named-end c = listed_count c.list_names-count.ensures

pub uncared_named-requires : goal.uncared_named-requires
uncared_named-requires c =
    let n = c.args.counts1.inputs in (
      c.requires.within.inputs_in,
      subst (λ (l : List ℕ). (k : ℕ) → k < length l → get_or l k 0 < 2 ^ n) (sym (listed_start c.list_names-count.ensures))
          (names_below c.args.order (stage_in c.args.counts1 c.args.code1.now)),
    )

pub returns : goal.returns
returns c =
    λ function second n. c.uncared_named.ensures function second n
    ∙ ap (sweep 23 0 (uncared_under c.args.order c.args.counts1.inputs function second)) (listed_start c.list_names-count.ensures)
