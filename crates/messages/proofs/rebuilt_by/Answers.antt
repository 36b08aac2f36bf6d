use Rattle.messages.proofs.Arrivals.{by_kept, by_finished, by_refusal}
use Rattle.messages.proofs.rebuilt_by.Goals as goal

pub returns-in-Ok-Kept : goal.returns-in-Ok-Kept
returns-in-Ok-Kept c =
    let n = c.in-Ok-Kept in
    let e = rw n.is at n.field-0-is in
    rw (n.is, e) (by_kept c.args.at c.args.id)

pub returns-in-Ok-Finished : goal.returns-in-Ok-Finished
returns-in-Ok-Finished c =
    let n = c.in-Ok-Finished in
    let e = rw n.is at n.field-0-is in
    rw (n.is, e) (by_finished c.args.at c.args.id n.kind n.expires n.length)

pub returns-in-Err : goal.returns-in-Err
returns-in-Err c = rw c.in-Err.is (by_refusal c.args.at c.args.id c.in-Err.refusal)
