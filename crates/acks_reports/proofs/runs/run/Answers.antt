use native.Mathlib.Omega.{arith}
use borrow.Author.Rules.{rules}
use mathlib.Core.Path.{◌≡◌, refl, ◌∙◌}
use Prim.Native.Nat.{◌≤◌, ◌-◌, ◌%◌}
use lib.ListN.{length}
use Rattle.acks.proofs.View.{ends_in_front, goes_on, straight_at}
use Rattle.acks.proofs.Pairs.{leading_view_le}
use Rattle.acks_reports.proofs.runs.run.Goals as goal

pub returns-then-found-front : goal.returns-then-found-front
returns-then-found-front c =
    let a = c.args in
    let l = c.min-front in
    let whole : length a.marks.now ≡ 255 = search rules in
    ends_in_front a.marks.now a.top a.k (a.top % 255) l.result refl l.ensures (omega arith) (omega arith) a.want c.straight-found.result
    (c.straight-found.ensures ∙ straight_at a.marks.now whole a.want l.result (a.top % 255) _ _ (omega arith) (omega arith) refl (omega arith))
    c.if-found-front.true

pub overflow_add-result : goal.overflow_add-result
overflow_add-result c =
    let a = c.args in
    let l = c.min-front in
    let whole : length a.marks.now ≡ 255 = search rules in
    let s : c.straight.result ≤ a.k - l.result =
    rw (c.straight.ensures ∙ straight_at a.marks.now whole a.want (a.k - l.result) 255 _ _ (omega arith) (omega arith) refl (omega arith)) (leading_view_le a.want a.marks.now 255 (a.k - l.result)) in
    omega arith

pub returns : goal.returns
returns c =
    let a = c.args in
    let l = c.min-front in
    let whole : length a.marks.now ≡ 255 = search rules in
    goes_on a.marks.now a.top a.k (a.top % 255) l.result refl l.ensures (omega arith) (omega arith) a.want c.straight-found.result c.straight.result
    (c.straight-found.ensures ∙ straight_at a.marks.now whole a.want l.result (a.top % 255) _ _ (omega arith) (omega arith) refl (omega arith))
    c.if-found-front.false
    (c.straight.ensures ∙ straight_at a.marks.now whole a.want (a.k - l.result) 255 _ _ (omega arith) (omega arith) refl (omega arith))
