use borrow.Author.Rules.{rules}
use Rattle.reassembly.proofs.SharesSwept.{swept_short, swept_long, sweep_promise}
use Rattle.reassembly_store.proofs.sweep.Goals as goal

pub returns-then-rec-ge-RECORD_SIZE : goal.returns-then-rec-ge-RECORD_SIZE
returns-then-rec-ge-RECORD_SIZE c =
    let a = c.args in
    let e = swept_long a.second a.rec.now c.sweep_all.new.rec (search rules) c.sweep_all.ensures in
    record { value = e; sweep_agrees = sweep_promise a.second a.rec.now c.sweep_all.new.rec e }

pub returns-else-rec-ge-RECORD_SIZE : goal.returns-else-rec-ge-RECORD_SIZE
returns-else-rec-ge-RECORD_SIZE c =
    let a = c.args in
    let e = swept_short a.second a.rec.now (search rules) in
    record { value = e; sweep_agrees = sweep_promise a.second a.rec.now a.rec.now e }
