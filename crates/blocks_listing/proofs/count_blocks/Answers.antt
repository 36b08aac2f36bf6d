use mathlib.Core.Path.{◌≡◌, sym, ap, ◌∙◌}
use mathlib.Core.Bool.{cond}
use lib.Dec.{eqb}
use borrow.Author.Tests.{eqb-true, eqb-false, eq-eqb, ne_eqb}
use native.Mathlib.Omega.{arith}
use Prim.Native.Nat.{ℕ, ◌+◌, ◌<◌}
use lib.ListN.{length}
use Rattle.std.proofs.lemmas.Result.{err_from_is_err_and}
use Rattle.blocks_listing.specs.Listing.{blocks_of, listing}
use Rattle.blocks_listing.proofs.Walk.{rest, answer_from, goes_on, at_start, at_end, turns, refuses, none_yet, one_more, no_more, no_more_over, nothing}
use Rattle.blocks_listing.proofs.count_blocks.Goals as goal
use Rattle.blocks_listing.proofs.count_blocks.Goals.{then-n-capacity, else-n-capacity}

pub returns-then-is_empty : goal.returns-then-is_empty
returns-then-is_empty c = nothing c.args.capacity c.args.payload.now (eqb-true _ 0 (sym c.is_empty.ensures ∙ c.if-is_empty.true))

pub loop-at-init : goal.loop-at-init
unfolding listing
loop-at-init c = let a = c.args in let h : 0 < length a.payload.now = omega (arith, eqb-false (length a.payload.now) 0 (sym c.is_empty.ensures ∙ c.if-is_empty.false)) in (omega arith, ap (answer_from a.capacity 0 0) (at_start a.payload.now h) ∙ none_yet a.capacity (blocks_of a.payload.now))

pub returns-in_err-next : goal.returns-in_err-next
returns-in_err-next c =
    let a = c.args in let l = c.loop-at in
    let p = err_from_is_err_and c.from_residual.result c.from_residual.ensures.1 in
    rw (p.1, p.2) (sym (ap (answer_from a.capacity l.n l.over) (refuses a.payload.now l.at c.loop-at-test.true _ _ (sym c.in_err-next.ensures))) ∙ l.invariant.1)

pub loop-at-smaller : goal.loop-at-smaller
loop-at-smaller c = let a = c.args in let l = c.loop-at in omega (arith, goes_on a.payload.now l.at _ _ _ (sym c.in_ok-next.ensures), c.loop-at-test.true)

pub loop-at-preserved : goal.loop-at-preserved
loop-at-preserved c =
    let a = c.args in let l = c.loop-at in
    let e = sym c.in_ok-next.ensures in
    let o : c.if-n-capacity.over ≡ cond (eqb l.n a.capacity) l.at l.over = elim c.if-n-capacity.branch [ then-n-capacity w ↦ w.over-is ∙ sym (simp (eq-eqb l.n a.capacity w.if-n-capacity.true)) | else-n-capacity w ↦ w.over-is ∙ sym (simp (ne_eqb l.n a.capacity w.if-n-capacity.false)) ] in
    (omega (arith, (goes_on a.payload.now l.at _ _ _ e).0), ap (λ (z : ℕ). answer_from a.capacity (l.n + 1) z (rest a.payload.now c.in_ok-next.field-0.next)) o ∙ sym (ap (answer_from a.capacity l.n l.over) (turns a.payload.now l.at c.loop-at-test.true _ _ _ e) ∙ one_more a.capacity l.n l.over _ (rest a.payload.now c.in_ok-next.field-0.next)) ∙ l.invariant.1)

pub overflow_add-n : goal.overflow_add-n
overflow_add-n c = omega (arith, c.loop-at-test.true)

pub returns-then-capacity-n : goal.returns-then-capacity-n
returns-then-capacity-n c = let a = c.args in let l = c.loop-at in sym (ap (answer_from a.capacity l.n l.over) (at_end a.payload.now l.at c.loop-at-test.false) ∙ no_more_over a.capacity l.n l.over c.if-capacity-n.true) ∙ l.invariant.1

pub returns : goal.returns
returns c = let a = c.args in let l = c.loop-at in sym (ap (answer_from a.capacity l.n l.over) (at_end a.payload.now l.at c.loop-at-test.false) ∙ no_more a.capacity l.n l.over c.if-capacity-n.false) ∙ l.invariant.1
