use Rattle.std.proofs.Common.{◌≡◌, ◌∙◌, ◌++◌, ap, arith, length, List, sym}
use lib.ListN.{length-set, take, drop}
use Rattle.std.proofs.lemmas.List.{length-take-le}
use Rattle.std.proofs.lemmas.Result.{err_from_is_err_and}
use Rattle.blocks_listing.specs.declared.Entry.{Entry}
use Rattle.blocks_listing.specs.Listing.{entries_from}
use Rattle.blocks_listing.proofs.Walk.{filled, left_as_it_was, before_first, after_last, one_stored}
use Rattle.blocks_listing.proofs.list_blocks.Goals as goal

pub returns-in_err-count : goal.returns-in_err-count
returns-in_err-count c =
    let p = err_from_is_err_and c.from_residual.result c.from_residual.ensures.1 in
    rw (p.1, p.2) (c.in_err-count.ensures, left_as_it_was c.args.payload.now c.args.list.now _ _ c.in_err-count.ensures)

pub slice_bounds-listed-end : goal.slice_bounds-listed-end
slice_bounds-listed-end c = (filled c.args.payload.now c.args.list.now c.in_ok-count.count c.in_ok-count.ensures).0

pub slice_bounds-listed-end-2 : goal.slice_bounds-listed-end-2
slice_bounds-listed-end-2 c = sym (length-take-le c.in_ok-count.count c.args.list.now (filled c.args.payload.now c.args.list.now c.in_ok-count.count c.in_ok-count.ensures).0)

pub loop-entry-init : goal.loop-entry-init
loop-entry-init c = let long : length (take c.in_ok-count.count c.args.list.now) ≡ c.in_ok-count.count = length-take-le c.in_ok-count.count c.args.list.now (filled c.args.payload.now c.args.list.now c.in_ok-count.count c.in_ok-count.ensures).0 in (long, before_first c.args.payload.now (take c.in_ok-count.count c.args.list.now) c.in_ok-count.count long)

pub loop-entry-preserved : goal.loop-entry-preserved
loop-entry-preserved c = let h = c.loop-entry.invariant.0 in (simp length-set h, one_stored c.args.payload.now c.loop-entry.listed c.loop-entry.entry-index c.in_ok-count.count c.loop-entry.at c.step_at-step.result c.step_at-step.ensures (omega (arith, h)) ∙ c.loop-entry.invariant.1)

pub returns : goal.returns
returns c =
    let whole : c.loop-entry.listed ≡ entries_from c.in_ok-count.count c.args.payload.now 0 = sym (after_last c.args.payload.now c.loop-entry.listed c.loop-entry.entry-index c.in_ok-count.count c.loop-entry.at (omega (arith, c.loop-entry.invariant.0))) ∙ c.loop-entry.invariant.1 in
    (c.in_ok-count.ensures, ap (λ (l : List Entry). l ++ drop c.in_ok-count.count c.args.list.now) whole ∙ (filled c.args.payload.now c.args.list.now c.in_ok-count.count c.in_ok-count.ensures).1)
