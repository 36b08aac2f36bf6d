use mathlib.Core.Path.{refl}
use Rattle.reassembly.proofs.Branches.{remembered_60}
use Rattle.reassembly.proofs.Arrivals.{remembered_kept, remembered_refused}
use Rattle.reassembly_taking.proofs.remember_finished.Goals as goal

pub returns-in-Ok-Finished : goal.returns-in-Ok-Finished
returns-in-Ok-Finished c =
    let a = c.args in
    let n = c.in-Ok-Finished in
    let e = rw n.is at n.field-0-is in
    rw (n.is, e) (remembered_60 a.rec.now c.lower.new.rec c.remember.new.rec 60 (record { id = a.id; second = a.second }) refl c.lower.ensures c.remember.ensures)

pub returns-in-Ok-Kept : goal.returns-in-Ok-Kept
returns-in-Ok-Kept c =
    let n = c.in-Ok-Kept in
    let e = rw n.is at n.field-0-is in
    rw (n.is, e) (remembered_kept c.args.rec.now _)

pub returns-in-Err : goal.returns-in-Err
returns-in-Err c = rw c.in-Err.is (remembered_refused c.args.rec.now _ c.in-Err.field-0)
