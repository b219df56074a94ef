-- `check_words::sweep_all` meets its contract: where the masks name no word all checks that sweep pass; else the start of the list is the names of the
-- stage's words. Then 32 is what the least gate says that never rises.
-- Assumes nothing.
use native.Mathlib.Omega.{arith}
use mathlib.Core.Path.{sym, ◌∙◌}
use Rattle.words.proofs.Listing.{listed_start, listed_in, listed_count}
use Rattle.verdict.proofs.HandedOn.{handed_on}
use Rattle.check_words.proofs.Sweeping.{enough_signals, swept_fault, then_idle}
use Rattle.check_words.proofs.sweep_all.Goals as goal

pub returns-then-nothing_named : goal.returns-then-nothing_named
returns-then-nothing_named c =
    let few = enough_signals c.args.sizes c.args.reference.now {m = c.args.counts.outputs} (omega (arith, c.requires.outputs)) in
    then_idle _ _ _ _ (c.nothing_named.ensures c.if-nothing_named.true _ _ few c.screen-screened.ensures.clean) _ c.screen-screened.ensures.low _
    c.find_idle-last.ensures

pub slice_bounds-list-end : goal.slice_bounds-list-end
slice_bounds-list-end c = listed_in c.list_words-count.ensures

pub slice_bounds-sweep_named-end : goal.slice_bounds-sweep_named-end
slice_bounds-sweep_named-end c = listed_count c.list_words-count.ensures

pub sweep_named-requires : goal.sweep_named-requires
sweep_named-requires c =
    (c.requires, listed_start c.list_words-count.ensures, c.screen-screened.ensures.clean)

pub returns-in_err-sweep_named : goal.returns-in_err-sweep_named
returns-in_err-sweep_named c = handed_on _ _ c.from_residual.ensures.1 ∙ swept_fault _ _ _ _ _ (sym c.in_err-sweep_named.was ∙ c.sweep_named.ensures)

pub returns : goal.returns
returns c =
    then_idle _ _ _ _ (sym c.in_ok-sweep_named.was ∙ c.sweep_named.ensures) _ c.screen-screened.ensures.low _ c.find_idle-last.ensures
