use Rattle.std.proofs.lemmas.Result.{err_from_is_err_and}
use borrow.Author.Rules.{rules}
use Rattle.acks.specs.Recorded.{duplicate_there}
use Rattle.acks.proofs.Recording.{asked}
use Rattle.acks_tracker.proofs.recorded.is_duplicate_in.Goals as goal

pub returns-in_err-lent : goal.returns-in_err-lent
unfolding duplicate_there
returns-in_err-lent c =
    let p = err_from_is_err_and c.from_residual.result c.from_residual.ensures.1 in
    let e = c.in_err-lent.ensures in
    (rw (p.1, p.2, e.0) e.1, rw (p.1, p.2) e.1)

pub returns : goal.returns
unfolding duplicate_there
returns c =
    let e = c.in_ok-lent.ensures in
    (rw (e.0, c.is_duplicate.ensures, e.1, e.2) (asked _), search rules)
