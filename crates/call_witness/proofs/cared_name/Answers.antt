-- `call_witness::cared_name` meets its contract. Assumes nothing.
use Prim.Native.Nat.{ℕ}
use mathlib.Core.Path.{ap, ◌∙◌}
use mathlib.Core.List.{List}
use Rattle.words.proofs.Listing.{listed_start, listed_in, listed_count}
use Rattle.run_spec.specs.Witness.{asked_or_first}
use Rattle.call_witness.proofs.cared_name.Goals as goal

pub slice_bounds-list-end : goal.slice_bounds-list-end
slice_bounds-list-end c = listed_in c.list_names-count.ensures

pub slice_bounds-asked_or_first-end : goal.slice_bounds-asked_or_first-end
slice_bounds-asked_or_first-end c = listed_count c.list_names-count.ensures

pub returns : goal.returns
returns c = c.asked_or_first.ensures ∙ ap (λ (l : List ℕ). asked_or_first l c.args.asked) (listed_start c.list_names-count.ensures)
